use Rattle.std.proofs.Common.{[], subst}
use Rattle.std.specs.Prelude.{MatchOption}
use Rattle.call_graph.specs.Graphs.{IsOnCycle}
use Rattle.call_graph.specs.Searches.{IsSearch}
use Rattle.call_graph.proofs.SearchLemmas.{next_seen, no_cycle_at_all}
use Rattle.call_graph.proofs.cycle.visit_all.Goals as goal

pub loop-root-preserved : goal.loop-root-preserved
loop-root-preserved c = (
  subst (λ o. MatchOption o (IsSearch c.args.graph.now c.visit.new.marks c.visit.new.next []) (IsOnCycle c.args.graph.now)) c.in-None.is c.in_ok-u.ensures.search,
  next_seen c.loop-root.marks c.visit.new.marks c.loop-root.root c.loop-root.invariant.1 c.visit.ensures.seen c.visit.ensures.root,
)

pub returns : goal.returns
returns c = no_cycle_at_all c.args.graph.now c.loop-root.marks c.loop-root.next c.loop-root.root c.loop-root.invariant.0 c.loop-root.invariant.1 c.loop-root-test.false

pub returns-in-Some : goal.returns-in-Some
returns-in-Some c =
    subst (λ o. MatchOption o (IsSearch c.args.graph.now c.visit.new.marks c.visit.new.next []) (IsOnCycle c.args.graph.now)) c.in-Some.is c.in_ok-u.ensures.search
