use Rattle.std.proofs.Common.{◌≡◌, ◌<◌, ℕ, [], length, get_or, map, take, drop, false}
use Rattle.std.specs.Prelude.{nat_eq}
use Rattle.std.specs.List.{list_any}
use Rattle.mof_metamodel.specs.Metamodels.{prop_at}
use Rattle.mof_metamodel.specs.MetaFaults.{first_repeat}
use Rattle.mof_metamodel.specs.Tables.{name_number}
use Rattle.mof_metamodel.proofs.duplicates.first_shared.Given as goal

-- the names so far are apart, and their numbers are those that were met
abbrev pub invariant-loop-p : goal.invariant-loop-p
invariant-loop-p l = (first_repeat (map (λ p. (prop_at l.named p.0).name) (take l.p-index l.order)) (map (λ p. (prop_at l.named p.0).name) (drop l.p-index l.order)) ≡ first_repeat [] (map (λ p. (prop_at l.named p.0).name) l.order))
    × (length l.marks ≡ length l.numbers)
    × ((n : ℕ) → n < length l.numbers → get_or l.marks n false ≡ list_any (nat_eq n) (map (λ p. name_number l.named p.0) (take l.p-index l.order)))
