use Rattle.std.proofs.Common.{sym, subst, List, ℕ}
use Rattle.std.specs.Prelude.{IsPermutation}
use Rattle.std.proofs.lemmas.List.Sorted.{IsPermutation-sym}
use Rattle.link_arena.specs.Links.{others_of}
use Rattle.model_cases.proofs.links.editing.reverse.Goals as goal

pub set_order-requires-clause-same : goal.set_order-requires-clause-same
set_order-requires-clause-same c =
    let reversed : IsPermutation c.reverse.new.self.items (others_of c.args.arena.now.links c.args.end) =
    subst (λ (l : List ℕ). IsPermutation c.reverse.new.self.items l) c.in_ok-order.ensures
    (IsPermutation-sym c.in_ok-order.order.items c.reverse.new.self.items c.reverse.ensures.permutation) in
    subst (λ (l : List ℕ). IsPermutation l (others_of c.args.arena.now.links c.args.end)) (sym c.as_slice.ensures.value) reversed
