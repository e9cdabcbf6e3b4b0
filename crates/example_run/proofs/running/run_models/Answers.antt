use Rattle.std.proofs.Common.{◌≡◌, ◌<◌, ◌^◌, true, length, sym, subst, arith}
use Rattle.std.proofs.lemmas.Result.{IfOk-weaker}
use Rattle.qv_syntax.specs.declared.program.Program.{Program}
use Rattle.example_run.specs.declared.outcome.Outcome.{Outcome}
use Rattle.example_run.specs.Examples.{example_metas, IsOutcome}
use Rattle.example_run.proofs.RunLaws.{can_first, readable_first, unrefused_first, after_first, readable_later, outcome_first}
use Rattle.example_run.proofs.running.run_models.Goals as goal

pub repair-requires-clause-premises : goal.repair-requires-clause-premises
repair-requires-clause-premises c = (
  example_metas,
  can_first c.args.size.classes c.args.size.seed c.requires.valid c.program_is_good.ensures c.args.program.now c.args.models.now c.requires.program c.requires.models,
)

pub repair-requires-clause-readable : goal.repair-requires-clause-readable
repair-requires-clause-readable c =
    readable_first c.args.size.classes c.args.size.seed c.requires.valid c.program_is_good.ensures c.args.program.now c.args.models.now c.requires.program c.requires.models

pub repair-requires-clause-unrefused : goal.repair-requires-clause-unrefused
repair-requires-clause-unrefused c =
    let classes = c.args.size.classes in
    let seed = c.args.size.seed in
    unrefused_first classes seed c.requires.valid c.program_is_good.ensures c.args.program.now c.args.models.now c.requires.program c.requires.models
    (λ e. c.demands_are_not_refused.ensures classes seed e c.requires.classes)
    (λ d. c.made_targets_are_sound.ensures example_metas classes seed d c.requires.classes)

pub look_again-requires-clause-after : goal.look_again-requires-clause-after
look_again-requires-clause-after c =
    after_first c.args.size.classes c.args.size.seed c.requires.valid c.program_is_good.ensures c.args.program.now c.args.models.now c.requires.program c.requires.models c.repair.new.models
    c.in-Ok.report c.in-Ok.ensures

pub look_again-requires-clause-few : goal.look_again-requires-clause-few
look_again-requires-clause-few c = subst (λ (p : Program). length p.rels < 2 ^ 32) (sym c.requires.program) (omega arith)

pub look_again-requires-clause-readable : goal.look_again-requires-clause-readable
look_again-requires-clause-readable c =
    readable_later c.args.size.classes c.args.size.seed c.requires.valid c.program_is_good.ensures c.args.program.now c.args.models.now c.requires.program c.requires.models c.repair.new.models
    c.in-Ok.report c.in-Ok.ensures

pub returns-in-Ok : goal.returns-in-Ok
returns-in-Ok c =
    IfOk-weaker c.look_again.result (λ (o : Outcome). o ≡ record { created = c.in-Ok.report.created; holds = true; unchanged = true }) (IsOutcome c.args.size.classes c.args.size.seed)
    (outcome_first c.args.size.classes c.args.size.seed c.requires.valid c.program_is_good.ensures c.args.program.now c.args.models.now c.requires.program c.requires.models c.repair.new.models
    c.in-Ok.report c.in-Ok.ensures) c.look_again.ensures
