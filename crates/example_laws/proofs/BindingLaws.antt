-- What a binding of a relation of the example says of its variables and of its source domains.
use Rattle.std.proofs.Common.{◌≡◌, ◌⊎◌, ℕ, zero, suc, Bool, true, ◌&&◌, List, [], ◌∷◌, None, Some, refl, sym, ap, ◌∙◌, inl, inr}
use Rattle.std.specs.Prelude.{slice_get, Contains}
use Rattle.std.specs.List.{list_all}
use Rattle.std.specs.Option.{option_and_then}
use Rattle.std.proofs.lemmas.Bool.{and_parts}
use Rattle.std.proofs.lemmas.Option.{none-some}
use Rattle.object_tables.specs.Models.{ModelData}
use Rattle.qv_syntax.specs.declared.program.Program.{Program}
use Rattle.qv_syntax.specs.declared.program.Rel.{Rel}
use Rattle.qv_syntax.specs.declared.program.Dom.{Dom}
use Rattle.qv_syntax.specs.declared.ty.Ty.TheVariants as types
use Rattle.qvtr_semantics.specs.declared.datum.Datum.{Datum}
use Rattle.qvtr_semantics.specs.Outs.{datum_of}
use Rattle.qvtr_semantics.specs.Expressions.{setting, scope_of, bound_value, variable, value_for}
use Rattle.qvtr_semantics.specs.Templates.{Values, value_at}
use Rattle.qvtr_semantics.specs.Bindings.{is_value_for, have_values, source_meets, conjunct_holds}
use Rattle.template_match.specs.Sources.{source_variables}
use Rattle.repair_semantics.specs.declared.term.Term.{Term}
use Rattle.repair_semantics.specs.declared.term.TermValue.TheVariants as of
use Rattle.repair_semantics.specs.Terms.{datum_in}
use Rattle.repair_semantics.specs.EntryValues.{TermValues, value_of, data_in}
use Rattle.repair_semantics.specs.Entries.{IsUniversalTarget, TermSource}
use Rattle.example_program.specs.Words.{the_text}
use Rattle.example_program.proofs.Tests.{all_of}
use Rattle.example_laws.proofs.ValueLaws.{variable_value}
use Rattle.example_laws.proofs.Reading.{one_value, no_value}

-- ---- the data of values

pub datum_at : (b : TermValues) (v : ℕ) → value_at (data_in b) v ≡ option_and_then datum_in (value_of b v)
datum_at [] v = refl
datum_at (x ∷ b) zero = refl
datum_at (x ∷ b) (suc v) = datum_at b v

scope_at : (b : Values) (v : ℕ) → variable (scope_of b) v ≡ bound_value (value_at b v)
scope_at [] v = refl
scope_at (o ∷ b) zero = refl
scope_at (o ∷ b) (suc v) = scope_at b v

-- a variable with a datum, read in an item
pub text_read : (program : Program) (models : List ModelData) (b : Values) (v : ℕ) (d : Datum) → value_at b v ≡ Some d → datum_of (value_for program models (the_text v) b) ≡ Some d
text_read program models b v d is = ap datum_of (variable_value program models types.Str v (scope_of b) ∙ scope_at b v) ∙ ap (λ o. datum_of (bound_value o)) is

-- the value is that datum
pub value_there : (b : TermValues) (v : ℕ) (d : Datum) → value_at (data_in b) v ≡ Some d → value_of b v ≡ Some (of.Val d)
value_there b v d is = one_value (value_of b v) d (sym (datum_at b v) ∙ is)

module _ (program : Program) (models : List ModelData) (rel : Rel) (roots b : TermValues) (source : TermSource program models rel roots b) where
  abbrev own_values : Bool
  own_values = have_values program models rel (source_variables program rel) (data_in b)

  abbrev own_domains : Bool
  own_domains = list_all (source_meets program models (data_in b)) rel.domains

  met : own_values && own_domains ≡ true
  met = (and_parts (own_values && own_domains) (list_all (conjunct_holds program models (data_in b)) rel.whens) source.source.meets).0

  -- a variable of the source has a value that it may have
  pub may_have : (v : ℕ) → Contains (source_variables program rel) v → is_value_for (setting program models) (slice_get rel.vars v) (value_at (data_in b) v) ≡ true
  may_have v c =
      all_of (λ w. is_value_for (setting program models) (slice_get rel.vars w) (value_at (data_in b) w)) (source_variables program rel) (and_parts own_values own_domains met).0 v c

  -- a domain matches
  pub matching : (dom : Dom) → Contains rel.domains dom → source_meets program models (data_in b) dom ≡ true
  matching dom c = all_of (source_meets program models (data_in b)) rel.domains (and_parts own_values own_domains met).1 dom c

  -- a variable that is neither universal nor a root has no value
  pub without_value : (v : ℕ) → ¬ Contains (source_variables program rel) v → ¬ Contains rel.universal v → value_of roots v ≡ None → value_of b v ≡ None
  without_value v outside existential unrooted =
      no_value (value_of b v) (λ d h. of_data d (source.source.no_others v d (datum_at b v ∙ h))) (λ t h. terms t (source.no_others v t h))
    where
      of_data : (d : Datum) → Contains (source_variables program rel) v ⊎ (value_at (data_in roots) v ≡ Some d) → ⊥
      of_data d (inl c) = outside c
      of_data d (inr is) = none-some d (ap (option_and_then datum_in) (sym unrooted) ∙ sym (datum_at roots v) ∙ is)

      terms : (t : Term) → IsUniversalTarget program rel v ⊎ (value_of roots v ≡ Some (of.Term t)) → ⊥
      terms t (inl universal) = existential universal.universal
      terms t (inr is) = none-some (of.Term t) (sym unrooted ∙ is)
