use Rattle.std.proofs.Common.{ap, subst}
use Rattle.object_tables.specs.Models.{ModelData}
use Rattle.repair_laws.specs.Repairs.{with_target}
use Rattle.enforce_mode.specs.Made.{IsSound}
use Rattle.repair_semantics.specs.Candidates.{candidate}
use Rattle.example_run.proofs.RefusalLaws.{only_memory}
use Rattle.example_run.proofs.repairing.readied.Goals as goal

pub target_of-target-requires : goal.target_of-target-requires
target_of-target-requires c = c.requires.premises.1.target

pub prepare-requires-clause-valid : goal.prepare-requires-clause-valid
prepare-requires-clause-valid c = (c.requires.readable c.target_of-target.result.now c.target_of-target.ensures).valid

pub prepare-requires-clause-numbers : goal.prepare-requires-clause-numbers
prepare-requires-clause-numbers c = (c.requires.readable c.target_of-target.result.now c.target_of-target.ensures).numbers

pub prepare-requires-clause-demands : goal.prepare-requires-clause-demands
prepare-requires-clause-demands c =
    c.demand_sets_are_demands.ensures c.requires.premises.0 c.args.program.now c.args.models.now c.target_of-target.result.now c.args.found.now c.requires.premises.1 c.target_of-target.ensures
    c.requires.demanded

pub making_memory-requires : goal.making_memory-requires
making_memory-requires c =
    only_memory (candidate c.args.program.now c.target_of-target.result.now c.args.found.now.list)
    (c.requires.unrefused.sound c.target_of-target.result.now c.args.found.now (record { target_is = c.target_of-target.ensures; are = c.requires.demanded })) c.in-Err.error c.in-Err.ensures.against

pub returns-in-Ok : goal.returns-in-Ok
returns-in-Ok c = record {
  target = c.target_of-target.result.now;
  demands = c.args.found.now;
  demanded = record { target_is = c.target_of-target.ensures; are = c.requires.demanded };
  sound = subst IsSound c.in-Ok.ensures.made c.in-Ok.ensures.sound;
  after_is = ap (λ (m : ModelData). with_target c.args.program.now c.args.models.now m) c.in-Ok.ensures.made;
  report_is = c.in-Ok.ensures.report;
}
