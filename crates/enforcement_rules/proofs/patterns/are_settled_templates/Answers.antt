use Rattle.std.proofs.Common.{List, sym, subst, arith}
use Rattle.std.specs.Prelude.{Contains}
use Rattle.qv_syntax.specs.declared.program.Item.{Item}
use Rattle.enforcement_rules.specs.Standings.{shown_standing}
use Rattle.enforcement_rules.proofs.ListLaws.{mapped_in}
use Rattle.enforcement_rules.proofs.patterns.are_settled_templates.Goals as goal

pub are_settled_items-requires-clause-props : goal.are_settled_items-requires-clause-props
are_settled_items-requires-clause-props c = λ item has.
    (c.requires.sound (shown_standing c.standing-item.result)
    (mapped_in shown_standing c.args.templates.now c.standing-item.result (c.loop-standing.standing-index, omega arith, sym c.standing-item.is))).items item
    (subst (λ (xs : List Item). Contains xs item) c.as_slice.ensures has)
