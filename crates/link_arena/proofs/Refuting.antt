-- Wrong answers that the definitions exclude, each on a small case: what the definition gives, and that it isn't what the wrong
-- code would answer. A contract says that the code's result is what the definition gives, so it refuses that code.
use Rattle.std.specs.Prelude.{◌≡◌, ℕ, List, [], ◌∷◌}
use Rattle.std.proofs.Common.{ap, arith, refl}
use Rattle.link_arena.specs.Links.{Linkage, joined_ends, all_parted, with_join, with_room}

abbrev apart : List (List ℕ)
apart = [] ∷ [] ∷ [] ∷ []

-- the first end is joined to both others
abbrev star : List (List ℕ)
star = (1 ∷ 2 ∷ []) ∷ (0 ∷ []) ∷ (0 ∷ []) ∷ []

pub each_stands_at_the_other : joined_ends apart 0 2 ≡ (2 ∷ []) ∷ [] ∷ (0 ∷ []) ∷ []
each_stands_at_the_other = refl

-- a join that stands at the first of its ends alone
pub join_at_one_end : joined_ends apart 0 2 ≡ (2 ∷ []) ∷ [] ∷ [] ∷ [] → ⊥
join_at_one_end e = cc

pub all_are_parted : all_parted star 0 ≡ [] ∷ [] ∷ [] ∷ []
all_are_parted = refl

-- an end that is still joined to one, after it was parted from all
pub part_all_but_one : all_parted star 0 ≡ (2 ∷ []) ∷ [] ∷ (0 ∷ []) ∷ [] → ⊥
part_all_but_one e = cc

-- a join that takes none of the room that it finds
pub join_keeps_its_room : with_join (record { links = apart; spare_ends = 0; spare_joins = 1 }) 0 1 ≡ record { links = joined_ends apart 0 1; spare_ends = 0; spare_joins = 1 } → ⊥
join_keeps_its_room e = (let one : ◌≡◌ {A = ℕ} 0 1 = ap (λ (v : Linkage). v.spare_joins) e in absurd (omega arith))

-- room that is asked for less, and shrinks
pub reserve_shrinks_the_room : with_room (record { links = apart; spare_ends = 2; spare_joins = 0 }) 1 0 ≡ record { links = apart; spare_ends = 1; spare_joins = 0 } → ⊥
reserve_shrinks_the_room e = (let two : ◌≡◌ {A = ℕ} 2 1 = ap (λ (v : Linkage). v.spare_ends) e in absurd (omega arith))
