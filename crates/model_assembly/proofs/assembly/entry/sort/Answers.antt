use Rattle.std.proofs.Common.{rules}
use Rattle.std.proofs.lemmas.List.Sorted.{answers_always}
use Rattle.model_assembly.proofs.assembling.EntryLaws.{sorted_twice}
use Rattle.model_assembly.proofs.assembly.entry.sort.Goals as goal

pub returns : goal.returns
returns c =
    sorted_twice _ _ _ c.in_ok-sort_by_key.ensures.permutation c.sort_by_key-2.ensures.permutation
    (c.in_ok-sort_by_key.ensures.sorted (λ e. e.place) (answers_always _ _ _ (λ f a r g h. search rules)))
    (c.in_ok-sort_by_key.ensures.stable (λ e. e.place) (answers_always _ _ _ (λ f a r g h. search rules)))
    (c.in_ok-sort_by_key-2.ensures.sorted (λ e. e.object) (answers_always _ _ _ (λ f a r g h. search rules)))
    (c.sort_by_key-2.ensures.stable (λ e. e.object) (answers_always _ _ _ (λ f a r g h. search rules)))
