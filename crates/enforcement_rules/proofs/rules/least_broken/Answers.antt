use Rattle.std.proofs.Common.{List, map, sym, subst}
use Rattle.enforcement_rules.specs.declared.standing.Standing.{Standing}
use Rattle.enforcement_rules.specs.Standings.{shown_standing, AreTargetTemplates}
use Rattle.enforcement_rules.proofs.RangeLaws.{sound_of, have_variables}
use Rattle.enforcement_rules.proofs.rules.least_broken.Goals as goal

pub first_of_all-requires-clause-sound : goal.first_of_all-requires-clause-sound
first_of_all-requires-clause-sound c =
    sound_of c.args.task.now.metas.now c.args.task.now.program.now c.requires.task.range c.args.task.now.rel.now c.requires.task.relation.range (map shown_standing c.as_slice-3.result.now)
    (subst (λ (ss : List Standing). AreTargetTemplates c.args.task.now.program.now c.args.task.now.rel.now (map shown_standing ss)) (sym c.as_slice-3.ensures) c.in_ok-templates.ensures)
    c.args.task.now.meta c.requires.task.target

pub first_of_all-requires-clause-variables : goal.first_of_all-requires-clause-variables
first_of_all-requires-clause-variables c =
    have_variables c.args.task.now.metas.now c.args.task.now.program.now c.requires.task.range c.args.task.now.rel.now c.requires.task.relation.range (map shown_standing c.as_slice-3.result.now)
    (subst (λ (ss : List Standing). AreTargetTemplates c.args.task.now.program.now c.args.task.now.rel.now (map shown_standing ss)) (sym c.as_slice-3.ensures) c.in_ok-templates.ensures)
