use Rattle.std.proofs.Common.{◌≡◌, ◌<◌, ◌++◌, ◌∷◌, [], length, set, sym, subst, ap, ◌∙◌}
use Rattle.std.specs.Prelude.{MatchOption}
use Rattle.std.proofs.lemmas.List.{get_or-set_same}
use Rattle.call_graph.specs.declared.mark.Mark.TheVariants.{Open, Done}
use Rattle.call_graph.specs.Graphs.{IsOnCycle}
use Rattle.call_graph.specs.Searches.{IsSearch}
use Rattle.call_graph.proofs.MarkLemmas.{new_open, new_within, seen_on}
use Rattle.call_graph.proofs.SearchLemmas.{entered, last_within}
use Rattle.call_graph.proofs.cycle.search.Goals as goal

pub advance-requires-clause-inside : goal.advance-requires-clause-inside
advance-requires-clause-inside c =
    last_within c.args.graph.now c.loop-u.marks c.loop-u.next c.loop-u.path c.in-Some.u c.loop-u.invariant.0 (c.in-Some.ensures.0, sym c.as_slice.ensures ∙ c.in-Some.ensures.1)

pub loop-u-init : goal.loop-u-init
loop-u-init c =
    let root = c.args.root in
    let longer : c.push.new.self ≡ root ∷ [] = c.in_ok-push.ensures.ok ∙ ap (λ path. path ++ root ∷ []) c.new-path.ensures in
    let inside : root < length c.args.marks.now = new_within c.args.marks.now root c.requires.unseen in (
      subst (IsSearch c.args.graph.now (set c.args.marks.now root Open) c.args.next.now) (sym longer)
          (entered c.args.graph.now c.args.marks.now c.args.next.now [] root c.requires.search c.requires.unseen tt),
      seen_on c.args.marks.now root Open inside (λ new. new_open (sym new)),
      (λ new. new_open (sym new ∙ get_or-set_same c.args.marks.now root Open Done inside)),
    )

pub loop-u-preserved : goal.loop-u-preserved
loop-u-preserved c = (
  subst (λ o. MatchOption o (IsSearch c.args.graph.now c.advance.new.marks c.advance.new.next c.advance.new.path) (IsOnCycle c.args.graph.now)) c.in-None.is c.in_ok-v.ensures.search,
  (λ u seen. c.advance.ensures.seen u (c.loop-u.invariant.1 u seen)),
  c.advance.ensures.seen c.args.root c.loop-u.invariant.2,
)
