-- What is read of a value is what is read of its parts.
use Rattle.std.proofs.Common.{sym, subst, arith}
use Rattle.serde_json.specs.View.{view}
use Rattle.trace_log.specs.Readings.{Gives}
use Rattle.trace_log.proofs.ValueLaws.{pair_named, term_keyed, item_calls}
use Rattle.trace_log.proofs.trace_values.+value.Goals as goal

pub pairs_of-pair_of-requires : goal.pairs_of-pair_of-requires
pairs_of-pair_of-requires t c =
    let less = item_calls c.args.values.now c.loop-number.number c.index-values-number.result c.loop-number-test.true c.index-values-number.is in
    (omega (arith, c.decreases, less), tt)

pub pair_of-returns : goal.pair_of-returns
pair_of-returns t c =
    let read = pair_named (view c.args.pair.now) (view c.in-Some.first.now) (view c.in-Some.second.now) c.in_ok-name.name c.in-Some.ensures (c.in_ok-name.ensures _ c.text_of.ensures) in
    subst (Gives c.named.result) (sym read) (c.named.ensures _ (c.at_item-2.ensures _ c.value_of.ensures))

pub term_of-returns : goal.term_of-returns
term_of-returns t c =
    let read = term_keyed (view c.args.content.now) (view c.in-Some.class.now) (view c.in-Some.keys.now) c.in-Some-as_str.name.now c.in-Some.ensures c.in-Some-as_str.ensures in
    subst (Gives c.keyed.result) (sym read) (c.keyed.ensures _ c.keys_of.ensures)
