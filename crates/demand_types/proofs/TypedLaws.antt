-- What the entries of a program that can be enforced demand is of its property's type, and of concrete classes.
use Rattle.std.specs.Prelude.{List, Contains}
use Rattle.std.proofs.Common.{sym, ap, ◌∙◌}
use Rattle.std.proofs.lemmas.Option.{same_Some}
use Rattle.mof_metamodel.specs.declared.desc.MetaDesc.{MetaDesc}
use Rattle.mof_metamodel.specs.Metamodels.{type_of}
use Rattle.object_tables.specs.Models.{ModelData, is_value_of}
use Rattle.qv_syntax.specs.declared.program.Program.{Program}
use Rattle.repair_semantics.specs.declared.term.Term.{Term}
use Rattle.repair_semantics.specs.declared.entry.Entry.{Entry}
use Rattle.repair_semantics.specs.declared.demand.Demand.{Demand}
use Rattle.repair_semantics.specs.Demands.{demands_of, demanded_terms}
use Rattle.repair_laws.specs.Enforced.{AreEnforced}
use Rattle.repair_laws.proofs.EntryDemanded.{good, asked_entry}
use Rattle.repair_laws.proofs.GoingLaws.{fitting}
use Rattle.repair_laws.proofs.TypedData.{typed_data}
use Rattle.repair_laws.proofs.EnforcedReading.{keys_enforced, target_there}
use Rattle.demand_types.specs.TypedDemands.{IsTypedDemand, IsConcreteTerm}
use Rattle.demand_types.proofs.ConcreteClasses.{concrete_term}
use Rattle.demand_types.proofs.TermTypes.{conforms}

module _ (metas : List MetaDesc) (program : Program) (sources : List ModelData) (m : ModelData) (entries : List Entry)
    (all : AreEnforced metas program sources m entries) where
  abbrev demands : List Demand
  demands = demands_of program sources entries

  pub typed_demands : (d : Demand) → Contains demands d → IsTypedDemand program m d
  typed_demands d c =
      let (before, found, same) = target_there metas program sources m entries all in
      let a = asked_entry metas program all.evaluable.well all.enforceable sources m all.metamodel all.described entries all.are all.met d c in
      let entry = all.are.only a.e a.among in
      let is_good =
      good metas program all.evaluable.well all.enforceable sources m all.metamodel all.described entries all.are all.met a.e entry a.rel a.found in
      let scopes = typed_data metas program sources all.evaluable all.enforceable a.e a.rel entry a.found in
      record {
        datum = λ x v datum value.
            let f = fitting metas program sources all.evaluable all.enforceable m before same all.described found
            demands d entries a entry is_good scopes x datum in
            ap (is_value_of m.meta (type_of m.meta d.prop.0)) (same_Some v f.value (sym value ∙ f.value_is)) ∙ f.fits;
        term = conforms metas program sources all.evaluable all.enforceable m before same all.described found
            demands d entries a entry is_good scopes;
      }

  pub concrete_terms : (t : Term) → Contains (demanded_terms demands) t → IsConcreteTerm m t
  concrete_terms t c =
      concrete_term metas program all.evaluable.well all.enforceable m all.described demands t (keys_enforced metas program sources m entries all t c)
