use Rattle.std.specs.Option.{option_copied}
use Rattle.std.proofs.Common.{sym, ap, ◌∙◌}
use Rattle.repair_cases.proofs.enforcing.readied.Goals as goal

pub prepare-requires-clause-valid : goal.prepare-requires-clause-valid
prepare-requires-clause-valid c = (c.in_ok-is_ready.ensures c.if-not-branch.false).0

pub prepare-requires-clause-numbers : goal.prepare-requires-clause-numbers
prepare-requires-clause-numbers c = (c.in_ok-is_ready.ensures c.if-not-branch.false).1

pub prepare-requires-clause-demands : goal.prepare-requires-clause-demands
prepare-requires-clause-demands c =
    c.demand_sets_are_demands.ensures c.args.of.now.metas.now c.args.of.now.program.now c.args.models.now c.in-Some.target.now c.args.demands.now c.requires.enforced
    (sym c.get.ensures ∙ ap (λ o. option_copied o) c.in-Some.is) c.requires.demands
