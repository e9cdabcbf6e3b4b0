use Rattle.std.proofs.Common.{sym, subst, All}
use Rattle.mof_metamodel.specs.declared.desc.MetaDesc.{MetaDesc}
use Rattle.mof_metamodel.specs.Metamodels.{class_count}
use Rattle.mof_metamodel.specs.Tables.{IsPropOf}
use Rattle.repair_semantics.specs.declared.demand.Demand.{Demand}
use Rattle.repair_semantics.specs.TargetItems.{target_meta_number}
use Rattle.demand_trace.specs.Naming.{HasPlace, AreKeyPlaces}
use Rattle.demand_trace.proofs.PremiseLaws.{keys_placed, key_props_known, props_known, list_in_order}
use Rattle.demand_trace.proofs.tracing.trace_of.Goals as goal

pub key_places-requires : goal.key_places-requires
key_places-requires c = λ key among.
    subst (λ (m : MetaDesc). HasPlace (target_meta_number c.args.program.now) (class_count m) key) (sym c.target_meta-target.ensures)
    (keys_placed c.args.metas.now c.args.program.now c.args.models.now c.requires.premises key among)

pub trace-trace-requires-clause-names : goal.trace-trace-requires-clause-names
trace-trace-requires-clause-names c =
    let program = c.args.program.now in
    record {
      target = c.target_meta-target.ensures;
      keys = subst (AreKeyPlaces program) (sym c.as_slice.ensures.value) c.in_ok-keys.ensures;
      props = λ class props is.
          subst (λ (m : MetaDesc). All (IsPropOf m) props) (sym c.target_meta-target.ensures)
          (key_props_known c.args.metas.now program c.args.models.now c.requires.premises class props is);
    }

pub trace-trace-requires-clause-props : goal.trace-trace-requires-clause-props
trace-trace-requires-clause-props c =
    subst (λ (m : MetaDesc). All (λ (d : Demand). IsPropOf m d.prop) c.args.demands.now.list) (sym c.target_meta-target.ensures)
    (props_known c.args.metas.now c.args.program.now c.args.models.now c.requires.premises c.args.demands.now c.requires.set)

pub trace-trace-requires-clause-order : goal.trace-trace-requires-clause-order
trace-trace-requires-clause-order c = list_in_order c.args.metas.now c.args.program.now c.args.models.now c.requires.premises c.args.demands.now c.requires.set
