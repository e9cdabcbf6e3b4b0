use Rattle.std.proofs.Common.{◌≡◌, ◌<◌, ◌≤◌, length, arith}
use Rattle.std.specs.Prelude.{Some, slice_get}
use Rattle.std.proofs.lemmas.Grind.{common_steps}
use Rattle.std.proofs.lemmas.Option.{gets}
use Rattle.demand_trace.specs.Naming.{world}
use Rattle.demand_trace.proofs.TermLaws.{pairs_more, pairs_all}
use Rattle.demand_trace.proofs.names.Names.+terms.Goals as goal

pub key_pairs-loop-place-preserved : goal.key_pairs-loop-place-preserved
key_pairs-loop-place-preserved t c =
    let within = c.in-Some.ensures.lookup.0 in
    let is = c.in-Some.ensures.lookup.1 in
    let found : slice_get c.args.props.now c.loop-place.place ≡ Some c.in-Some.prop.now = grind (arith, common_steps, gets, within, is) in
    let below : c.loop-place.place < length c.args.values.now = omega (arith, c.loop-place-test.true) in
    pairs_more (world c.args.self.now) c.args.props.now c.args.values.now c.loop-place.place c.loop-place.pairs c.loop-place.invariant c.push.new.self c.in-Some.prop.now
    c.index-values-place.result c.in_ok-key_pair.field-0 found below c.index-values-place.is c.in_ok-key_pair.ensures c.in_ok-push.ensures.ok

pub key_pairs-returns : goal.key_pairs-returns
key_pairs-returns t c =
    let le : length c.args.values.now ≤ c.loop-place.place = omega (arith, c.loop-place-test.false) in
    pairs_all (world c.args.self.now) c.args.props.now c.args.values.now c.loop-place.place c.loop-place.pairs c.loop-place.invariant le
