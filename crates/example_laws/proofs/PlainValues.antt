-- Values of the variables of an entry told plainly: a text, an object of the source, an object of the target, or nothing.
use Rattle.std.proofs.Common.{◌≡◌, ℕ, zero, suc, List, [], ◌∷◌, map, None, Some, refl, ap, ◌∙◌}
use Rattle.std.specs.Prelude.{Option}
use Rattle.object_tables.specs.declared.value.Value.TheVariants as values
use Rattle.object_tables.specs.Models.{ModelData}
use Rattle.qv_syntax.specs.declared.program.Program.{Program}
use Rattle.qv_syntax.specs.declared.program.Rel.{Rel}
use Rattle.qvtr_semantics.specs.declared.datum.Datum.{Datum}
use Rattle.qvtr_semantics.specs.declared.datum.Datum.TheVariants.{Obj, Val}
use Rattle.qvtr_semantics.specs.Expressions.{Scope}
use Rattle.repair_semantics.specs.declared.term.Term.{Term}
use Rattle.repair_semantics.specs.declared.term.TermValue.{TermValue}
use Rattle.repair_semantics.specs.declared.term.TermValue.TheVariants as of
use Rattle.repair_semantics.specs.Terms.{datum_part, datum_in}
use Rattle.repair_semantics.specs.EntryValues.{TermValues, data_in}
use Rattle.repair_semantics.specs.TargetItems.{TargetItem}
use Rattle.repair_semantics.specs.Making.{with_terms, values_within}
use Rattle.repair_laws.proofs.EntryTerms.{out_term, out_datum}
use Rattle.example_laws.specs.ExampleEntries.{text_value, source_value}

pub data Plain : Type 0 where
  text : List ℕ → Plain
  object : ℕ → Plain
  term : Term → Plain
  nothing : Plain

abbrev pub value_told : Plain → Option TermValue
value_told (Plain.text s) = Some (text_value s)
value_told (Plain.object o) = Some (source_value o)
value_told (Plain.term t) = Some (of.Term t)
value_told Plain.nothing = None

abbrev pub datum_told : Plain → Option Datum
datum_told (Plain.text s) = Some (Val 0 (values.Str s))
datum_told (Plain.object o) = Some (Obj 0 (record { 0 = o }))
datum_told (Plain.term t) = None
datum_told Plain.nothing = None

pub datum_itself : (d : Datum) → datum_in (of.Val d) ≡ Some d
datum_itself d = ap datum_part (out_datum d)

pub no_datum : (t : Term) → datum_in (of.Term t) ≡ None
no_datum t = ap datum_part (out_term t)

abbrev more : Option Datum → List (Option Datum) → List (Option Datum)
more o ds = o ∷ ds

pub data_told : (ps : List Plain) → data_in (map value_told ps) ≡ map datum_told ps
data_told [] = refl
data_told (Plain.text s ∷ ps) = ap (λ o. more o (data_in (map value_told ps))) (datum_itself (Val 0 (values.Str s))) ∙ ap (more (Some (Val 0 (values.Str s)))) (data_told ps)
data_told (Plain.object o ∷ ps) = ap (λ x. more x (data_in (map value_told ps))) (datum_itself (Obj 0 (record { 0 = o }))) ∙ ap (more (Some (Obj 0 (record { 0 = o })))) (data_told ps)
data_told (Plain.term t ∷ ps) = ap (λ x. more x (data_in (map value_told ps))) (no_datum t) ∙ ap (more None) (data_told ps)
data_told (Plain.nothing ∷ ps) = ap (more None) (data_told ps)

-- ---- terms: what is found in one round and stays is found

module _ (program : Program) (models : List ModelData) (rel : Rel) (items : List TargetItem) (scope : Scope) (before after : TermValues)
    (first : with_terms program models rel items scope before before ≡ after) (fixed : with_terms program models rel items scope before after ≡ after)
  where
    pub found_within : (n : ℕ) → values_within program models rel items scope before (suc n) ≡ after
    found_within zero = first
    found_within (suc n) = ap (with_terms program models rel items scope before) (found_within n) ∙ fixed
