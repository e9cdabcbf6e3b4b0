use Rattle.std.proofs.Common.{◌≡◌, ◌<◌, true, false, length, arith}
use Rattle.qvtr_engine.specs.TextSets.{has}
use Rattle.qvtr_engine.proofs.TextSetLaws.{met_again, met_first}
use Rattle.qvtr_engine.proofs.text_set.distinct_set.Goals as goal

pub returns-then-not-branch-clause-distinct : goal.returns-then-not-branch-clause-distinct
returns-then-not-branch-clause-distinct c =
    let within = c.loop-text-test.true in
    let less : c.loop-text.text-index < length c.args.texts.now = omega (arith, within) in
    let old : c.in_ok-put.field-0 ≡ false = cc in
    met_again c.args.texts.now c.loop-text.text-index _ (has c.loop-text.met) c.in_ok-put.field-0 less c.loop-text.invariant.0 c.in_ok-put.ensures.is_new old

pub loop-text-preserved : goal.loop-text-preserved
loop-text-preserved c =
    let within = c.loop-text-test.true in
    let less : c.loop-text.text-index < length c.args.texts.now = omega (arith, within) in
    let first : c.in_ok-put.field-0 ≡ true = cc in
    met_first c.args.texts.now c.loop-text.text-index _ (has c.loop-text.met) (has c.put.new.self) c.in_ok-put.field-0 less c.loop-text.invariant.0 c.loop-text.invariant.1
    c.in_ok-put.ensures.is_new first c.in_ok-put.ensures.added
