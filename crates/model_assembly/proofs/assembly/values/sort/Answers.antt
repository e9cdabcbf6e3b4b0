use Rattle.std.proofs.Common.{rules}
use Rattle.std.proofs.lemmas.List.Sorted.{answers_always}
use Rattle.model_assembly.proofs.assembling.SortedLaws.{sorted_values}
use Rattle.model_assembly.proofs.assembly.values.sort.Goals as goal

pub returns : goal.returns
returns c =
    sorted_values _ _ _ c.in_ok-sort_by_key.ensures.permutation c.sort_by_key-2.ensures.permutation
    (c.in_ok-sort_by_key.ensures.sorted (λ v. v.property.0) (answers_always _ _ _ (λ f a r g h. search rules)))
    (c.in_ok-sort_by_key.ensures.stable (λ v. v.property.0) (answers_always _ _ _ (λ f a r g h. search rules)))
    (c.in_ok-sort_by_key-2.ensures.sorted (λ v. v.object) (answers_always _ _ _ (λ f a r g h. search rules)))
    (c.sort_by_key-2.ensures.stable (λ v. v.object) (answers_always _ _ _ (λ f a r g h. search rules)))
