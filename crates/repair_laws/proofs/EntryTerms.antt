-- The terms that an entry has: each is demanded, with its key values, and is of a class that is a kind of its variable's. One entry, where this
-- is so of its matches and of the roots that are handed on to it.
use Rattle.std.specs.Prelude.{◌≡◌, ◌<◌, ◌≤◌, ◌⊎◌, ◌==◌, ℕ, zero, suc, Bool, true, false, List, [], ◌∷◌, map, length, Option, None, Some, is_some, slice_get, if◌then◌else◌}
use Rattle.std.specs.Option.{option_map, option_and_then, option_or}
use Rattle.std.proofs.Common.{refl, ap, sym, ◌∙◌, arith, inl, inr}
use Rattle.std.proofs.lemmas.Bool.{cases_lt, eqb-true}
use Rattle.std.proofs.lemmas.List.{get_or_past}
use Rattle.std.proofs.lemmas.List.FromFn.{get_or-map-range_with_len, length-map-range_with_len}
use Rattle.std.proofs.lemmas.Option.{none-some, same_Some}
use Rattle.mof_metamodel.specs.declared.desc.MetaDesc.{MetaDesc}
use Rattle.object_tables.specs.Models.{ModelData}
use Rattle.qv_syntax.specs.declared.typed.Typed.{Typed}
use Rattle.qv_syntax.specs.declared.program.Program.{Program}
use Rattle.qv_syntax.specs.declared.program.Rel.{Rel}
use Rattle.qv_syntax.specs.declared.program.Dom.{Dom}
use Rattle.qv_syntax.specs.declared.program.Conj.{Conj}
use Rattle.qv_syntax.specs.declared.program.Conj.TheVariants as conjuncts
use Rattle.qv_syntax.specs.ProgramTypes.{AreGiven}
use Rattle.qvtr_semantics.specs.declared.datum.Datum.{Datum}
use Rattle.qvtr_semantics.specs.declared.out.Out.{Out}
use Rattle.qvtr_semantics.specs.declared.out.Out.TheVariants as outs
use Rattle.qvtr_semantics.specs.Outs.{datum_of}
use Rattle.qvtr_semantics.specs.Expressions.{value, variable, bound_value, scope_of}
use Rattle.qvtr_semantics.specs.Templates.{value_at}
use Rattle.source_laws.proofs.QueryLaws.{variable_is}
use Rattle.repair_semantics.specs.declared.term.Term.{Term}
use Rattle.repair_semantics.specs.declared.term.TermValue.{TermValue, out-TermValue, roll-TermValue, roll-out-TermValue, out-roll-TermValue}
use Rattle.repair_semantics.specs.declared.term.TermValue.TheOpen as of
use Rattle.repair_semantics.specs.declared.term.TermValue.TheVariants as values
use Rattle.repair_semantics.specs.declared.entry.Entry.{Entry}
use Rattle.repair_semantics.specs.Terms.{datum_part, datum_in, term_part, term_in}
use Rattle.repair_semantics.specs.EntryValues.{TermValues, value_of, data_in, no_values, root_values, Known, variable_alone, given_out, given_by, given_value}
use Rattle.repair_semantics.specs.Making.{variables, equation_of, by_equation, scope_within, entry_scope, entry_known, made_values}
use Rattle.repair_semantics.specs.Entries.{entry_values, IsEntryWith, IsEntry}
use Rattle.repair_laws.proofs.MadeTerms.{mapped_is, own_is_known}

-- ---- values

pub out_term : (t : Term) → out-TermValue (values.Term t) ≡ of.Term t
out_term t = ap out-TermValue (sym (values.rolls-Term t)) ∙ out-roll-TermValue (of.Term t)

pub out_datum : (d : Datum) → out-TermValue (values.Val d) ≡ of.Val d
out_datum d = ap out-TermValue (sym (values.rolls-Val d)) ∙ out-roll-TermValue (of.Val d)

pub term_itself : (t : Term) → term_in (values.Term t) ≡ Some t
term_itself t = ap term_part (out_term t)

pub term_is : (x : TermValue) (t : Term) → term_in x ≡ Some t → x ≡ values.Term t
term_is x t h = by (out-TermValue x) (roll-out-TermValue x) h
  where
    by : (y : of.TermValue-F TermValue Term) → roll-TermValue y ≡ x → term_part y ≡ Some t → x ≡ values.Term t
    by (of.Val d) is e = absurd (none-some t e)
    by (of.Term u) is e = sym is ∙ values.rolls-Term u ∙ ap values.Term (same_Some u t e)

pub one_of_two : (x : TermValue) (t : Term) (d : Datum) → term_in x ≡ Some t → datum_in x ≡ Some d → ⊥
one_of_two x t d a b = by (out-TermValue x) a b
  where
    by : (y : of.TermValue-F TermValue Term) → term_part y ≡ Some t → datum_part y ≡ Some d → ⊥
    by (of.Val e) f g = none-some t f
    by (of.Term u) f g = none-some d g

pub either_one : (x : TermValue) → ((t : Term) × (term_in x ≡ Some t)) ⊎ ((d : Datum) × (datum_in x ≡ Some d))
either_one x = by (out-TermValue x) refl
  where
    by : (y : of.TermValue-F TermValue Term) → out-TermValue x ≡ y → ((t : Term) × (term_in x ≡ Some t)) ⊎ ((d : Datum) × (datum_in x ≡ Some d))
    by (of.Val d) is = inr (d, ap datum_part is)
    by (of.Term t) is = inl (t, ap term_part is)

pub given_datum : (o : Option Datum) (x : TermValue) (t : Term) → option_map (λ d. values.Val d) o ≡ Some x → term_in x ≡ Some t → ⊥
given_datum None x t h is = none-some x h
given_datum (Some d) x t h is =
    one_of_two x t d is (ap datum_in (sym (same_Some (values.Val d) x h)) ∙ ap datum_part (out_datum d))

-- the value of an expression is a term only for a variable alone
pub term_alone : (program : Program) (models : List ModelData) (k : Known) (e : Typed) (x : TermValue) (t : Term) → given_value program models k e ≡ Some x → term_in x ≡ Some t
    → (w : ℕ) × (variable_alone e ≡ Some w) × (value_of k.values w ≡ Some x)
term_alone program models k e x t h is = by (variable_alone e) refl h
  where
    by : (o : Option ℕ) → variable_alone e ≡ o → given_by program models k e o ≡ Some x → (w : ℕ) × (variable_alone e ≡ Some w) × (value_of k.values w ≡ Some x)
    by None alone g = absurd (given_datum (datum_of (value program models e k.scope)) x t g is)
    by (Some w) alone g = (w, alone, g)

-- ---- lists

pub get_mapped : {X Y : Type 0} (f : X → Y) (xs : List X) (i : ℕ) (x : X) → slice_get xs i ≡ Some x → slice_get (map f xs) i ≡ Some (f x)
get_mapped f [] i x h = absurd (none-some x h)
get_mapped f (y ∷ xs) zero x h = ap (λ z. Some (f z)) (same_Some y x h)
get_mapped f (y ∷ xs) (suc i) x h = get_mapped f xs i x h

pub data_at : (b : TermValues) (v : ℕ) → value_at (data_in b) v ≡ option_and_then datum_in (value_of b v)
data_at [] v = refl
data_at (x ∷ b) zero = refl
data_at (x ∷ b) (suc v) = data_at b v

pub datum_from : (o : Option TermValue) (d : Datum) → option_and_then datum_in o ≡ Some d → (x : TermValue) × (o ≡ Some x) × (datum_in x ≡ Some d)
datum_from None d h = absurd (none-some d h)
datum_from (Some x) d h = (x, refl, h)

pub given_many : (metas : List MetaDesc) (program : Program) (rel called : Rel) (doms : List Dom) (es : List Typed) → AreGiven metas program rel called doms es → length es ≡ length doms
given_many metas program rel called [] [] h = refl
given_many metas program rel called [] (e ∷ es) h = absurd h
given_many metas program rel called (d ∷ doms) [] h = absurd h
given_many metas program rel called (d ∷ doms) (e ∷ es) h = ap suc (given_many metas program rel called doms es h.1)

-- ---- the values of entries

-- an entry makes what its values give
pub made_is : (program : Program) (models : List ModelData) (e : Entry) → IsEntry program models e → (rel : Rel) → slice_get program.rels e.rel ≡ Some rel
    → (e.made ≡ made_values program models rel e.values) × (length e.values ≡ length rel.vars)
made_is program models e is rel found = by is
  where
    whole : (number : ℕ) (own : Rel) (called : Bool) (roots : TermValues) (matches : List Entry) → slice_get program.rels number ≡ Some own → IsEntryWith program models number own called roots matches e
        → (e.made ≡ made_values program models rel e.values) × (length e.values ≡ length rel.vars)
    whole number own called roots matches there with =
        let place : e.rel ≡ number = ap (λ (x : Entry). x.rel) with.is in
        let same : own ≡ rel = same_Some own rel (sym there ∙ ap (slice_get program.rels) (sym place) ∙ found) in
        (ap (λ (x : Entry). x.made) with.is ∙ ap (λ r. made_values program models r e.values) same, with.source.places ∙ ap (λ (r : Rel). length r.vars) same)

    by : IsEntry program models e → (e.made ≡ made_values program models rel e.values) × (length e.values ≡ length rel.vars)
    by (IsEntry.of_top _ number own matches top with each) = whole number own false (no_values own) matches top.is with
    by (IsEntry.of_call _ from c own matches before calls there with each) = whole c.rel own true (root_values own c.roots) matches there with

-- what an entry has is known in it
pub value_known : (program : Program) (models : List ModelData) (e : Entry) → IsEntry program models e → (rel : Rel) → slice_get program.rels e.rel ≡ Some rel → (v : ℕ) (x : TermValue)
    → value_of (entry_values e rel) v ≡ Some x → value_of (entry_known program models rel e.values).values v ≡ Some x
value_known program models e is rel found v x h = own (value_of e.values v) refl (mapped_is rel (λ w. option_or (value_of e.values w) (value_of e.made w)) v x h)
  where
    other : (b : Bool) → (if b then None else value_of (entry_known program models rel e.values).values v) ≡ Some x → value_of (entry_known program models rel e.values).values v ≡ Some x
    other true g = absurd (none-some x g)
    other false g = g

    own : (o : Option TermValue) → value_of e.values v ≡ o → option_or o (value_of e.made v) ≡ Some x → value_of (entry_known program models rel e.values).values v ≡ Some x
    own (Some y) at g = own_is_known program models rel e.values v x (within (made_is program models e is rel found).1) (at ∙ g)
      where
        within : length e.values ≡ length rel.vars → v < length rel.vars
        within many = elim (cases_lt v (length rel.vars)) [
          | inl l ↦ l
          | inr le ↦ absurd (none-some y (sym (get_or_past e.values v None (omega (arith, many, le))) ∙ at))
        ]
    own None at g =
        other (is_some (value_of e.values v))
        (mapped_is rel (λ w. if is_some (value_of e.values w) then None else value_of (entry_known program models rel e.values).values w) v x
        (ap (λ b. value_of b v) (sym (made_is program models e is rel found).0) ∙ g))

-- ---- data of the target's variables

module _ (program : Program) (models : List ModelData) (rel : Rel) (b : TermValues) (v : ℕ) (none : value_of b v ≡ None) where
  -- what the equations give in the next stage
  abbrev next_out : ℕ → ℕ → Out
  next_out n w = by_equation program models (scope_within program models rel (scope_of (data_in b)) n) (variable (scope_of (data_in b)) w) (equation_of rel.wheres w)

  not_given : (x : TermValue) → given_out outs.Invalid ≡ Some x → ⊥
  not_given x h = none-some x h

  first_scope : (x : TermValue) → given_out (variable (scope_of (data_in b)) v) ≡ Some x → ⊥
  first_scope x h = not_given x (ap given_out (sym (variable_is (data_in b) v ∙ ap bound_value (data_at b v) ∙ ap (λ o. bound_value (option_and_then datum_in o)) none)) ∙ h)

  -- a variable that has no value and no equation has no datum
  pub equation_there : (x : TermValue) → given_out (variable (entry_scope program models rel b) v) ≡ Some x → (e : Typed) × (equation_of rel.wheres v ≡ Some e)
  equation_there x h = by_stage (length rel.wheres) h
    where
      by_stage : (n : ℕ) → given_out (variable (scope_within program models rel (scope_of (data_in b)) n) v) ≡ Some x → (e : Typed) × (equation_of rel.wheres v ≡ Some e)
      by_stage zero g = absurd (first_scope x g)
      by_stage (suc n) g = by (equation_of rel.wheres v) refl (cases_lt v (length rel.vars))
        where
          by : (o : Option Typed) → equation_of rel.wheres v ≡ o → (v < length rel.vars) ⊎ (length rel.vars ≤ v) → (e : Typed) × (equation_of rel.wheres v ≡ Some e)
          by (Some e) is place = (e, is)
          by None is (inl within) =
              absurd (first_scope x (ap given_out (sym (get_or-map-range_with_len (next_out n) 0 (length rel.vars) v v outs.Invalid within (omega arith)
              ∙ ap (by_equation program models (scope_within program models rel (scope_of (data_in b)) n) (variable (scope_of (data_in b)) v)) is)) ∙ g))
          by None is (inr past) =
              let many : length (map (next_out n) (variables rel)) ≡ length rel.vars = length-map-range_with_len (next_out n) 0 (length rel.vars) in
              absurd (not_given x (ap given_out (sym (get_or_past (map (next_out n) (variables rel)) v outs.Invalid (omega (arith, many, past)))) ∙ g))

pub equation_place : (cs : List Conj) (v : ℕ) (e : Typed) → equation_of cs v ≡ Some e → (place : ℕ) × (f : Typed) × (slice_get cs place ≡ Some (conjuncts.Equation v f))
equation_place [] v e h = absurd (none-some e h)
equation_place (conjuncts.Equation w f ∷ cs) v e h = by (equation_place cs v e) (w == v) refl h
  where
    by : (equation_of cs v ≡ Some e → (place : ℕ) × (g : Typed) × (slice_get cs place ≡ Some (conjuncts.Equation v g))) → (b : Bool) → (w == v) ≡ b → (if b then Some f else equation_of cs v) ≡ Some e
        → (place : ℕ) × (g : Typed) × (slice_get (conjuncts.Equation w f ∷ cs) place ≡ Some (conjuncts.Equation v g))
    by later true is g = (0, f, ap (λ n. Some (conjuncts.Equation n f)) (eqb-true w v is))
    by later false is g = let (place, d, found) = later g in (suc place, d, found)
equation_place (conjuncts.Cond c ∷ cs) v e h = let (place, d, found) = equation_place cs v e h in (suc place, d, found)
equation_place (conjuncts.Call n args ∷ cs) v e h = let (place, d, found) = equation_place cs v e h in (suc place, d, found)
