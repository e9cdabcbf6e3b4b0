use Rattle.std.proofs.Common.{◌≡◌, true, rules, arith}
use Rattle.std.proofs.lemmas.Grind.{common_steps}
use Rattle.entry_finding.proofs.preparing.preparation.Goals as goal

pub returns : goal.returns
returns c =
    let direction : c.args.rel.now.in_direction ≡ true = first_of (grind (arith, common_steps, c.if-not-rel.false), search (rules, c.if-not-rel.false)) in
    (direction, record { plan = c.in_ok-plan.ensures c.args.rel.now c.requires.found; recipe = c.in_ok-recipe.ensures })
