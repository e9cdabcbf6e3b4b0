-- What the walk over the calls of entries tells is what is answered; and the set is the same for all target models.
use Rattle.std.specs.Prelude.{◌≡◌, List}
use Rattle.std.proofs.Common.{subst}
use Rattle.std.proofs.lemmas.Result.{IfOk-weaker, IfErr-weaker}
use Rattle.object_tables.specs.Models.{ModelData}
use Rattle.source_laws.specs.Agreement.{AgreeBut}
use Rattle.repair_semantics.specs.TargetItems.{target_metamodel}
use Rattle.entry_walk.specs.Ends.{IsWalkEnd}
use Rattle.demand_set.specs.declared.demand_error.DemandError.{DemandError}
use Rattle.demand_set.specs.DemandSets.{DemandData, IsDemandSet, IsRefusal}
use Rattle.demand_set.proofs.SetLaws.{set_moved, refusal_moved}
use Rattle.demand_set.proofs.finding.demands.Goals as goal

pub returns-in-Whole-clause-sources : goal.returns-in-Whole-clause-sources
returns-in-Whole-clause-sources c =
    let program = c.args.program.now in
    let models = c.args.models.now in
    IfOk-weaker c.demands_of.result (IsDemandSet program models)
    (λ (d : DemandData). (others : List ModelData) → AgreeBut program.target models others → target_metamodel program models ≡ target_metamodel program others → IsDemandSet program others d)
    (λ d is others agree meta. set_moved c.requires.premises.0 program models others c.requires.premises.1 agree meta d is) c.demands_of.ensures.ok

pub returns-in-Cycle-clause-refusal : goal.returns-in-Cycle-clause-refusal
returns-in-Cycle-clause-refusal c =
    c.cyclic.ensures c.args.program.now c.args.models.now
    (subst (IsWalkEnd c.args.program.now c.args.models.now c.walked_entries.new.table) c.in-Cycle.is c.in_ok-entries.ensures.end).0

pub returns-in-Deep-clause-refusal : goal.returns-in-Deep-clause-refusal
returns-in-Deep-clause-refusal c =
    c.too_deep.ensures c.args.program.now c.args.models.now
    (subst (IsWalkEnd c.args.program.now c.args.models.now c.walked_entries.new.table) c.in-Deep.is c.in_ok-entries.ensures.end).0

pub returns-in-Unmet-clause-refusal : goal.returns-in-Unmet-clause-refusal
returns-in-Unmet-clause-refusal c =
    let e = subst (IsWalkEnd c.args.program.now c.args.models.now c.walked_entries.new.table) c.in-Unmet.is c.in_ok-entries.ensures.end in
    c.unmet.ensures c.args.program.now c.args.models.now e.0 e.1

pub returns-in-Whole-clause-refusal_sources : goal.returns-in-Whole-clause-refusal_sources
returns-in-Whole-clause-refusal_sources c =
    let program = c.args.program.now in
    let models = c.args.models.now in
    IfErr-weaker c.demands_of.result (IsRefusal program models)
    (λ (e : DemandError). (others : List ModelData) → AgreeBut program.target models others → target_metamodel program models ≡ target_metamodel program others → IsRefusal program others e)
    (λ e is others agree meta. refusal_moved c.requires.premises.0 program models others c.requires.premises.1 agree meta e is) c.demands_of.ensures.refusal

pub returns-in-Cycle-clause-refusal_sources : goal.returns-in-Cycle-clause-refusal_sources
returns-in-Cycle-clause-refusal_sources c = λ others agree meta.
    refusal_moved c.requires.premises.0 c.args.program.now c.args.models.now others c.requires.premises.1 agree meta c.cyclic.result (returns-in-Cycle-clause-refusal c)

pub returns-in-Deep-clause-refusal_sources : goal.returns-in-Deep-clause-refusal_sources
returns-in-Deep-clause-refusal_sources c = λ others agree meta.
    refusal_moved c.requires.premises.0 c.args.program.now c.args.models.now others c.requires.premises.1 agree meta c.too_deep.result (returns-in-Deep-clause-refusal c)

pub returns-in-Unmet-clause-refusal_sources : goal.returns-in-Unmet-clause-refusal_sources
returns-in-Unmet-clause-refusal_sources c = λ others agree meta.
    refusal_moved c.requires.premises.0 c.args.program.now c.args.models.now others c.requires.premises.1 agree meta c.unmet.result (returns-in-Unmet-clause-refusal c)
