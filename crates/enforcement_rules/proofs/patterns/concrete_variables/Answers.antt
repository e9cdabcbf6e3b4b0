use Rattle.std.proofs.Common.{sym, arith}
use Rattle.enforcement_rules.specs.Standings.{shown_standing}
use Rattle.enforcement_rules.proofs.ListLaws.{mapped_in}
use Rattle.enforcement_rules.proofs.patterns.concrete_variables.Goals as goal

pub put_concrete-requires-clause-class : goal.put_concrete-requires-clause-class
put_concrete-requires-clause-class c =
    (c.requires.sound (shown_standing c.standing-item.result)
    (mapped_in shown_standing c.args.templates.now c.standing-item.result (c.loop-standing.standing-index, omega arith, sym c.standing-item.is))).class
