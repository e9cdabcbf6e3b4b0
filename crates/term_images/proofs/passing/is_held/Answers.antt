use Rattle.std.specs.Prelude.{◌≡◌, ◌<◌, true, false, length}
use Rattle.std.specs.Ordering.{eq_by_cmp}
use Rattle.std.proofs.Common.{sym, ◌∙◌, arith}
use Rattle.term_table.specs.NumberOrder.{numbered_value_order}
use Rattle.term_images.proofs.KeyLaws.{held_from}
use Rattle.term_images.proofs.passing.is_held.Goals as goal

pub returns-then-eq : goal.returns-then-eq
returns-then-eq c =
    let tie : eq_by_cmp numbered_value_order c.args.value.now c.one-item.result ≡ true = sym c.eq.ensures ∙ c.if-eq.true in
    let below : c.loop-one.one-index < length c.args.held.now = omega arith in
    sym (held_from c.args.value.now c.one-item.result c.args.held.now c.loop-one.one-index true below c.one-item.is tie) ∙ c.loop-one.invariant

pub loop-one-preserved : goal.loop-one-preserved
loop-one-preserved c =
    let tie : eq_by_cmp numbered_value_order c.args.value.now c.one-item.result ≡ false = sym c.eq.ensures ∙ c.if-eq.false in
    let below : c.loop-one.one-index < length c.args.held.now = omega arith in
    sym (held_from c.args.value.now c.one-item.result c.args.held.now c.loop-one.one-index false below c.one-item.is tie) ∙ c.loop-one.invariant
