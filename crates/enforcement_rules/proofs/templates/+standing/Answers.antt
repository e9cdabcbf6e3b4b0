use Rattle.std.proofs.Common.{map, arith}
use Rattle.enforcement_rules.specs.Standings.{shown_standing}
use Rattle.enforcement_rules.proofs.StandingLaws.{template_added_as, pushed_shown, one_item, nested_added}
use Rattle.enforcement_rules.proofs.templates.+standing.Goals as goal

pub put_template-returns : goal.put_template-returns
put_template-returns t c =
    template_added_as c.put_items.result c.args.template.now c.args.at c.as_slice.result.now (map shown_standing c.args.out.now) (map shown_standing c.push.new.self) (map shown_standing c.put_items.new.out)
    c.as_slice.ensures (pushed_shown c.args.out.now c.push.new.self _ c.in_ok-push.ensures.ok) c.put_items.ensures

pub put_items-loop-item-preserved : goal.put_items-loop-item-preserved
put_items-loop-item-preserved t c =
    one_item c.args.parent c.args.items.now c.loop-item.item-index c.item-item.result (map shown_standing c.args.out.now) (map shown_standing c.loop-item.out) (map shown_standing c.put_value.new.out) (omega arith)
    c.item-item.is c.loop-item.invariant c.in_ok-put_value.ensures

pub put_value-returns-in-Nested : goal.put_value-returns-in-Nested
put_value-returns-in-Nested t c =
    nested_added c.put_template.result c.args.place c.args.value.now _ (map shown_standing c.args.out.now) (map shown_standing c.put_template.new.out) c.in-Nested.is c.put_template.ensures
