use Rattle.std.proofs.Common.{◌≡◌, ℕ, List, ◌<◌, length, set, subst, sym}
use Rattle.call_graph.specs.declared.mark.Mark.TheVariants.{Done}
use Rattle.call_graph.specs.Searches.{IsSearch, weight}
use Rattle.call_graph.proofs.MarkLemmas.{new_done, seen_on}
use Rattle.call_graph.proofs.SearchLemmas.{finished, falls_back, last_within, popped}
use Rattle.call_graph.proofs.cycle.finish.Goals as goal

pub bounds-marks-u : goal.bounds-marks-u
bounds-marks-u c = subst (λ n. c.args.u < n) (sym c.requires.search.long)
    (last_within c.args.graph.now c.args.marks.now c.args.next.now c.args.path.now c.args.u c.requires.search c.requires.last)

pub returns-clause-search : goal.returns-clause-search
returns-clause-search c =
    let before : List ℕ = c.requires.last.0 in
    let here = subst (IsSearch c.args.graph.now c.args.marks.now c.args.next.now) c.requires.last.1 c.requires.search in
    let left : c.pop-last.new.self ≡ before = popped c.pop-last.result c.args.path.now c.pop-last.new.self before c.args.u c.pop-last.ensures c.requires.last.1 in
    subst (IsSearch c.args.graph.now (set c.args.marks.now c.args.u Done) c.args.next.now) (sym left)
    (finished c.args.graph.now c.args.marks.now c.args.next.now before c.args.u here c.requires.settled)

pub returns-clause-falls : goal.returns-clause-falls
returns-clause-falls c =
    let before : List ℕ = c.requires.last.0 in
    let left : c.pop-last.new.self ≡ before = popped c.pop-last.result c.args.path.now c.pop-last.new.self before c.args.u c.pop-last.ensures c.requires.last.1 in
    subst (λ p. weight (set c.args.marks.now c.args.u Done) p < weight c.args.marks.now c.args.path.now) (sym left)
    (subst (λ p. weight (set c.args.marks.now c.args.u Done) before < weight c.args.marks.now p) (sym c.requires.last.1) (falls_back c.args.marks.now before c.args.u))

pub returns-clause-seen : goal.returns-clause-seen
returns-clause-seen c =
    let inside : c.args.u < length c.args.marks.now = subst (λ n. c.args.u < n) (sym c.requires.search.long)
    (last_within c.args.graph.now c.args.marks.now c.args.next.now c.args.path.now c.args.u c.requires.search c.requires.last) in
    seen_on c.args.marks.now c.args.u Done inside (λ new. new_done (sym new))
