use Rattle.std.proofs.Common.{◌≡◌, ℕ, List, map, sym, ◌∙◌, ap, subst}
use Rattle.std.specs.Prelude.{MatchOption}
use Rattle.call_graph.specs.declared.standing.Standing.{Standing}
use Rattle.call_graph.specs.Strata.{IsOnWhenCycle, AreStrata}
use Rattle.call_graph.specs.Walks.{stratum_of}
use Rattle.call_graph.proofs.ReachLemmas.{no_when_cycle}
use Rattle.call_graph.proofs.WalkLemmas.{begun}
use Rattle.call_graph.proofs.walk.strata.Goals as goal

pub visit_all-requires-clause-walk : goal.visit_all-requires-clause-walk
visit_all-requires-clause-walk c = begun c.args.whens.now c.args.wheres.now c.in_ok-walk.walk c.requires c.in_ok-walk.ensures

pub returns : goal.returns
returns c =
    let whens = c.args.whens.now in
    let wheres = c.args.wheres.now in
    let strata : List ℕ = c.in_ok-strata_of-in-None.field-0 in
    let standings : List Standing = c.visit_all.new.walk.standings.items in
    let is : strata ≡ map stratum_of standings = c.in_ok-strata_of-in-None.ensures ∙ ap (map stratum_of) c.as_slice.ensures.value in
    let found = subst (λ o. MatchOption o (AreStrata whens wheres (map stratum_of standings)) (IsOnWhenCycle whens wheres)) c.in-None.is c.in_ok-u.ensures in
    let are : AreStrata whens wheres strata = subst (AreStrata whens wheres) (sym is) found in
    (are, no_when_cycle whens wheres strata are)
