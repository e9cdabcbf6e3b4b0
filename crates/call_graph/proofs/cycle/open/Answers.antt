use Rattle.std.proofs.Common.{ℕ, List, ◌++◌, ◌∷◌, [], ◌<◌, set, subst, sym}
use Rattle.call_graph.specs.declared.mark.Mark.TheVariants.{Open}
use Rattle.call_graph.specs.Searches.{IsSearch, IsChain, weight}
use Rattle.call_graph.proofs.ChainLemmas.{chain_more}
use Rattle.call_graph.proofs.SearchLemmas.{entered, falls_on, on_ok}
use Rattle.call_graph.proofs.cycle.open.Goals as goal

pub returns-clause-search : goal.returns-clause-search
returns-clause-search c =
    let g = c.args.graph.now in
    let before : List ℕ = c.requires.last.0 in
    let v : ℕ = c.args.link.1 in
    let first : IsChain g (before ++ c.args.link.0 ∷ []) = subst (IsChain g) c.requires.last.1 c.requires.search.chained in
    let chain : IsChain g (c.args.path.now ++ v ∷ []) = subst (λ p. IsChain g (p ++ v ∷ [])) (sym c.requires.last.1) (chain_more g before c.args.link.0 v first c.requires.leads) in
    on_ok c.push.result c.push.ensures.ok (λ longer.
    subst (IsSearch g (set c.args.marks.now v Open) c.args.next.now) (sym longer)
    (entered g c.args.marks.now c.args.next.now c.args.path.now v c.requires.search c.requires.unseen chain))

pub returns-clause-falls : goal.returns-clause-falls
returns-clause-falls c =
    let v : ℕ = c.args.link.1 in
    on_ok c.push.result c.push.ensures.ok (λ longer.
    subst (λ p. weight (set c.args.marks.now v Open) p < weight c.args.marks.now c.args.path.now) (sym longer) (falls_on c.args.marks.now c.args.path.now v c.requires.unseen))
