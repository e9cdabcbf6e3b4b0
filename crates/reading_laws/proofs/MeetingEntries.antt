-- In the values of an entry terms are of variables of the target, and data are of others.
use Rattle.std.specs.Prelude.{◌≡◌, ◌⊎◌, ℕ, true, false, List, Some, Contains}
use Rattle.std.proofs.Common.{inl, inr}
use Rattle.mof_metamodel.specs.declared.desc.MetaDesc.{MetaDesc}
use Rattle.object_tables.specs.Models.{ModelData}
use Rattle.qv_syntax.specs.declared.program.Program.{Program}
use Rattle.qv_syntax.specs.declared.program.Rel.{Rel}
use Rattle.qvtr_semantics.specs.declared.datum.Datum.{Datum}
use Rattle.qvtr_semantics.specs.Templates.{value_at}
use Rattle.template_match.specs.Sources.{is_target_variable, source_variables}
use Rattle.repair_semantics.specs.declared.term.Term.{Term}
use Rattle.repair_semantics.specs.declared.term.TermValue.TheVariants as values
use Rattle.repair_semantics.specs.EntryValues.{TermValues, value_of, data_in}
use Rattle.repair_semantics.specs.Entries.{IsUniversalTarget, TermSource}
use Rattle.source_laws.proofs.BindingLaws.{source_variable}
use Rattle.reading_laws.specs.Roots.{HasRootsOf}
use Rattle.reading_laws.proofs.MeetingValues.{datum_from, datum_to}

module _ (metas : List MetaDesc) (program : Program) (sources : List ModelData) (rel : Rel) (roots b : TermValues) (source : TermSource program sources rel roots b) (h : HasRootsOf metas program sources rel roots) where
  pub term_is_target : (v : ℕ) (t : Term) → value_of b v ≡ Some (values.Term t) → is_target_variable program rel v ≡ true
  term_is_target v t at = by (source.no_others v t at)
    where
      by : IsUniversalTarget program rel v ⊎ (value_of roots v ≡ Some (values.Term t)) → is_target_variable program rel v ≡ true
      by (inl universal) = universal.target
      by (inr root) = h.terms v t root

  pub datum_is_source : (v : ℕ) (d : Datum) → value_of b v ≡ Some (values.Val d) → is_target_variable program rel v ≡ false
  datum_is_source v d at = by (source.source.no_others v d (datum_to b v d at))
    where
      by : Contains (source_variables program rel) v ⊎ (value_at (data_in roots) v ≡ Some d) → is_target_variable program rel v ≡ false
      by (inl among) = source_variable program rel v among
      by (inr root) = h.data_values v d (datum_from roots v d root)
