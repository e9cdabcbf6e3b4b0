use Rattle.std.proofs.Common.{◌≡◌, ◌<◌, ◌+◌, ◌-◌, ℕ, List, length, get_or, sym, ◌∙◌, ap, subst, arith}
use Rattle.std.proofs.lemmas.List.{length_push, get_or_push}
use Rattle.call_graph.specs.Tops.{AreSettled}
use Rattle.call_graph.specs.Walks.{node_at}
use Rattle.call_graph.proofs.StandingLemmas.{fewer_done}
use Rattle.call_graph.proofs.TopLemmas.{settled_more, front_popped, popped_node, popped_last}
use Rattle.call_graph.proofs.walk.settle.Goals as goal

pub loop-stack-preserved : goal.loop-stack-preserved
loop-stack-preserved c =
    let stack : List ℕ = c.args.stack.now in
    let now : List ℕ = c.loop-stack.stack in
    let rest : List ℕ = c.pop-last.new.self in
    let u : ℕ = get_or c.as_slice.result.now (c.len-in-loop-stack.result - 1) 0 in
    let more : c.args.from < length now = omega (arith, c.loop-stack-test.true, c.len.ensures) in
    let some : 0 < length now = omega (arith, more) in
    let popped = popped_last c.pop-last.result now rest some c.pop-last.ensures in
    let longer : length now ≡ length rest + 1 = ap length popped.1 ∙ length_push rest popped.0 in
    let place : length rest ≡ c.len-in-loop-stack.result - 1 = omega (arith, longer, c.len-in-loop-stack.ensures) in
    let is : u ≡ popped.0 = ap (λ l. get_or l (c.len-in-loop-stack.result - 1) 0) (c.as_slice.ensures ∙ popped.1) ∙ get_or_push rest popped.0 0 (c.len-in-loop-stack.result - 1) place in
    let at : node_at stack (length rest) ≡ u = popped_node stack now rest popped.0 c.loop-stack.invariant.front popped.1 ∙ sym is in
    let within = c.loop-stack.invariant.within in
    let below : length rest < length stack = omega (arith, longer, within) in
    let there = c.requires.inside (length rest) below in
    let inside : u < length c.loop-stack.standings = omega (arith, there, at, c.loop-stack.auto.standings) in
    let fewer = fewer_done c.loop-stack.standings u c.args.stratum in
    let old = c.loop-stack.invariant.fewer in
    record {
      short = omega (arith, more, longer);
      within = omega (arith, below);
      front = front_popped stack now rest popped.0 c.loop-stack.invariant.front popped.1;
      settled = settled_more c.args.standings.now c.loop-stack.standings stack (length rest) u c.args.stratum
          (subst (λ n. AreSettled c.args.standings.now c.loop-stack.standings stack n c.args.stratum) longer c.loop-stack.invariant.settled)
          at below inside;
      fewer = omega (arith, fewer, old);
    }
