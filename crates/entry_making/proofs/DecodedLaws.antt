-- Numbers of a table for terms: what is computed by numbers is what is said of terms.
use Rattle.std.specs.Prelude.{◌≡◌, ◌<◌, ◌≤◌, ℕ, zero, suc, List, [], ◌∷◌, ◌++◌, map, length, Option, None, Some, slice_get, slice_index_or, slice_set, All}
use Rattle.std.specs.List.{range_with_len}
use Rattle.std.specs.Option.{option_map, option_or, option_and_then}
use Rattle.std.proofs.Common.{refl, sym, ap, subst, ◌∙◌, arith}
use Rattle.std.proofs.lemmas.List.{get_or-map, get_or_default, map-set, length-map}
use Rattle.std.proofs.lemmas.List.FromFn.{length-map-range_with_len}
use Rattle.mof_metamodel.specs.declared.desc.MetaDesc.{MetaDesc}
use Rattle.mof_metamodel.specs.Metamodels.{prop_count}
use Rattle.object_tables.specs.Models.{ModelData}
use Rattle.qv_syntax.specs.declared.program.Program.{Program}
use Rattle.qvtr_semantics.specs.declared.datum.Datum.{Datum}
use Rattle.qvtr_semantics.specs.declared.out.Out.{Out}
use Rattle.qvtr_semantics.specs.declared.out.Out.TheVariants as outs
use Rattle.qvtr_semantics.specs.Outs.{datum_of, all_given}
use Rattle.qvtr_semantics.specs.Expressions.{Scope, value, variable, bound_value, scope_of}
use Rattle.repair_semantics.specs.declared.term.Term.{Term}
use Rattle.repair_semantics.specs.declared.term.TermValue.{TermValue}
use Rattle.repair_semantics.specs.declared.term.TermValue.TheVariants as values
use Rattle.repair_semantics.specs.Terms.{datum_part, datum_in}
use Rattle.repair_semantics.specs.EntryValues.{TermValues, Known, value_of, data_in, given_out}
use Rattle.repair_semantics.specs.TargetItems.{TargetItem}
use Rattle.repair_semantics.specs.Making.{value_or_datum}
use Rattle.term_table.specs.declared.numbered.NumberedValue.{NumberedValue}
use Rattle.term_table.specs.declared.numbered.NumberedValue.TheVariants as numbered
use Rattle.term_table.specs.TermTables.{term_at, value_in, values_in, IsWithin, IsGrown}
use Rattle.term_table.proofs.TermTableLaws.{out_datum, out_term, within_grown, value_grown}
use Rattle.entry_making.specs.declared.content.OwnedItem.{OwnedItem}
use Rattle.entry_making.specs.Items.{shown_item, IsItemOf}
use Rattle.entry_making.specs.Givers.{Giver, giver_value}
use Rattle.entry_making.specs.Numbered.{IsValueWithin, bound_out, given_number, number_or_datum, giver_number, giver_numbers}

-- items whose shown properties are ones of the metamodel
pub items_within : (desc : MetaDesc) (its : List OwnedItem) (shown : List TargetItem) → map shown_item its ≡ shown
    → All (λ (item : TargetItem). item.prop.0 < prop_count desc) shown → All (IsItemOf desc) its
items_within desc its shown is all k d below =
    let same : slice_index_or shown k (shown_item d) ≡ shown_item (slice_index_or its k d) = ap (λ (xs : List TargetItem). slice_index_or xs k (shown_item d)) (sym is) ∙ get_or-map shown_item its k d (shown_item d) below in
    subst (λ (i : TargetItem). i.prop.0 < prop_count desc) same
    (all k (shown_item d) (omega (arith, below, length-map its shown_item, ap (λ (xs : List TargetItem). length xs) is)))

-- ---- values to begin with

scope_number : (scope : Scope) (v : ℕ) → option_and_then given_number (slice_get scope v) ≡ given_number (variable scope v)
scope_number [] v = refl
scope_number (o ∷ os) zero = refl
scope_number (o ∷ os) (suc v) = scope_number os v

pub begun_at : (b : List (Option NumberedValue)) (scope : Scope) (v : ℕ) (x : Option NumberedValue) → v < length b → x ≡ slice_index_or b v x
    → option_or x (option_and_then given_number (slice_get scope v)) ≡ number_or_datum b scope v
begun_at b scope v x below is =
    ap (λ o. option_or o (option_and_then given_number (slice_get scope v))) (is ∙ get_or_default b v x None below) ∙ ap (option_or (slice_index_or b v None)) (scope_number scope v)

datum_kept : (terms : List Term) (o : Option NumberedValue) → bound_value (option_and_then datum_in (option_map (value_in terms) o)) ≡ bound_out o
datum_kept terms None = refl
datum_kept terms (Some (numbered.Val d)) = ap (λ l. bound_value (datum_part l)) (out_datum d)
datum_kept terms (Some (numbered.Term n)) = ap (λ l. bound_value (datum_part l)) (out_term (term_at terms n))

-- the data of values
pub bound_scope : (terms : List Term) (b : List (Option NumberedValue)) → scope_of (data_in (values_in terms b)) ≡ map bound_out b
bound_scope terms [] = refl
bound_scope terms (o ∷ os) = ap (λ x. x ∷ scope_of (data_in (values_in terms os))) (datum_kept terms o) ∙ ap (λ xs. bound_out o ∷ xs) (bound_scope terms os)

-- the value of a variable
pub value_shown : (terms : List Term) (b : List (Option NumberedValue)) (v : ℕ) → option_map (value_in terms) (slice_index_or b v None) ≡ value_of (values_in terms b) v
value_shown terms [] v = refl
value_shown terms (o ∷ os) zero = refl
value_shown terms (o ∷ os) (suc v) = value_shown terms os v

-- a datum is given as it is
pub given_shown : (terms : List Term) (out : Out) → option_map (value_in terms) (given_number out) ≡ given_out out
given_shown terms out = by (datum_of out)
  where
    by : (o : Option Datum) → option_map (value_in terms) (option_map (λ d. numbered.Val d) o) ≡ option_map (λ d. values.Val d) o
    by None = refl
    by (Some d) = refl

or_shown : (terms : List Term) (a b : Option NumberedValue) → option_map (value_in terms) (option_or a b) ≡ option_or (option_map (value_in terms) a) (option_map (value_in terms) b)
or_shown terms None b = refl
or_shown terms (Some x) b = refl

begun_one : (terms : List Term) (b : List (Option NumberedValue)) (scope : Scope) (v : ℕ) → option_map (value_in terms) (number_or_datum b scope v) ≡ value_or_datum (values_in terms b) scope v
begun_one terms b scope v =
    or_shown terms (slice_index_or b v None) (given_number (variable scope v))
    ∙ ap (λ o. option_or o (option_map (value_in terms) (given_number (variable scope v)))) (value_shown terms b v)
    ∙ ap (option_or (value_of (values_in terms b) v)) (given_shown terms (variable scope v))

pub begun_shown : (terms : List Term) (b : List (Option NumberedValue)) (scope : Scope) (vs : List ℕ)
    → values_in terms (map (number_or_datum b scope) vs) ≡ map (value_or_datum (values_in terms b) scope) vs
begun_shown terms b scope [] = refl
begun_shown terms b scope (v ∷ vs) =
    ap (λ o. o ∷ values_in terms (map (number_or_datum b scope) vs)) (begun_one terms b scope v) ∙ ap (λ os. value_or_datum (values_in terms b) scope v ∷ os) (begun_shown terms b scope vs)

-- ---- what is given

pub giver_shown : (program : Program) (models : List ModelData) (terms : List Term) (vs : List (Option NumberedValue)) (scope : Scope) (g : Giver)
    → option_map (value_in terms) (giver_number program models vs scope g) ≡ giver_value program models (record { values = values_in terms vs; scope = scope }) g
giver_shown program models terms vs scope Giver.nothing = refl
giver_shown program models terms vs scope (Giver.variable v) = value_shown terms vs v
giver_shown program models terms vs scope (Giver.expression e) = given_shown terms (value program models e scope)

all_shown : (terms : List Term) (os : List (Option NumberedValue)) → option_map (map (value_in terms)) (all_given os) ≡ all_given (map (option_map (value_in terms)) os)
all_shown terms [] = refl
all_shown terms (None ∷ os) = refl
all_shown terms (Some x ∷ os) = by (all_given os) (all_shown terms os)
  where
    by : (o : Option (List NumberedValue)) → option_map (map (value_in terms)) o ≡ all_given (map (option_map (value_in terms)) os)
        → option_map (map (value_in terms)) (option_map (λ ys. x ∷ ys) o) ≡ option_map (λ ys. value_in terms x ∷ ys) (all_given (map (option_map (value_in terms)) os))
    by None h = ap (option_map (λ ys. value_in terms x ∷ ys)) h
    by (Some ys) h = ap (option_map (λ ys. value_in terms x ∷ ys)) h

pub givers_shown : (program : Program) (models : List ModelData) (terms : List Term) (vs : List (Option NumberedValue)) (scope : Scope) (gs : List Giver)
    → option_map (map (value_in terms)) (giver_numbers program models vs scope gs) ≡ all_given (map (giver_value program models (record { values = values_in terms vs; scope = scope })) gs)
givers_shown program models terms vs scope gs = all_shown terms (map (giver_number program models vs scope) gs) ∙ ap all_given (each gs)
  where
    each : (hs : List Giver) → map (option_map (value_in terms)) (map (giver_number program models vs scope) hs) ≡ map (giver_value program models (record { values = values_in terms vs; scope = scope })) hs
    each [] = refl
    each (h ∷ hs) =
        ap (λ o. o ∷ map (option_map (value_in terms)) (map (giver_number program models vs scope) hs)) (giver_shown program models terms vs scope h)
        ∙ ap (λ os. giver_value program models (record { values = values_in terms vs; scope = scope }) h ∷ os) (each hs)
