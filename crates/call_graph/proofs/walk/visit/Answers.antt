use Rattle.std.proofs.Common.{◌≡◌, List, sym, ◌∙◌, ap}
use Rattle.call_graph.specs.declared.standing.Standing.{Standing}
use Rattle.call_graph.specs.declared.standing.Standing.TheVariants.{New}
use Rattle.call_graph.specs.Strata.{IsOnWhenCycle}
use Rattle.call_graph.specs.Walks.{standing_at}
use Rattle.call_graph.proofs.SegmentLemmas.{ok_on}
use Rattle.call_graph.proofs.WalkLemmas.{enter_root, visited}
use Rattle.call_graph.proofs.walk.visit.Goals as goal

pub walk_on-requires-clause-walk : goal.walk_on-requires-clause-walk
walk_on-requires-clause-walk c =
    let unseen : standing_at c.args.walk.now.standings.items c.args.root ≡ New = ap (λ (s : List Standing). standing_at s c.args.root) (sym c.as_slice.ensures.value) ∙ sym c.standing_of.ensures ∙ c.in-New.is in
    (enter_root c.args.whens.now c.args.wheres.now c.args.walk.now c.enter.new.walk c.args.root c.requires.walk c.requires.path unseen c.in_ok-enter-in-New.ensures).walk

pub returns-in_ok-enter-in-New : goal.returns-in_ok-enter-in-New
returns-in_ok-enter-in-New c =
    let unseen : standing_at c.args.walk.now.standings.items c.args.root ≡ New = ap (λ (s : List Standing). standing_at s c.args.root) (sym c.as_slice.ensures.value) ∙ sym c.standing_of.ensures ∙ c.in-New.is in
    ok_on (IsOnWhenCycle c.args.whens.now c.args.wheres.now) c.walk_on.result c.walk_on.ensures
    (λ on. visited c.args.whens.now c.args.wheres.now c.args.walk.now c.enter.new.walk c.walk_on.new.walk c.args.root c.requires.walk c.requires.path unseen c.in_ok-enter-in-New.ensures on)
