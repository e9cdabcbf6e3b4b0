-- Marks that are written, and how many are new.
use Rattle.std.proofs.Common.{◌≡◌, ◌≢◌, ◌<◌, ◌≤◌, ◌+◌, ℕ, zero, suc, List, [], ◌∷◌, length, set, get_or, refl, sym, ◌∙◌, ap, ⊎_elim, ◌⊎◌, inl, inr, arith}
use Rattle.std.proofs.lemmas.List.{get_or-set_same, get_or-set_other}
use Rattle.std.proofs.lemmas.Bool.{cases_eq}
use Rattle.call_graph.specs.declared.mark.Mark.{Mark}
use Rattle.call_graph.specs.declared.mark.Mark.TheVariants.{New, Open, Done}
use Rattle.call_graph.specs.Searches.{mark_at, StaySeen, new_count}

pub new_done : New ≡ Done → ⊥
new_done h = cc

pub open_done : Open ≡ Done → ⊥
open_done h = cc

pub new_open : New ≡ Open → ⊥
new_open h = cc

pub new_within : (marks : List Mark) (u : ℕ) → mark_at marks u ≡ New → u < length marks
new_within [] u h = absurd (new_done (sym h))
new_within (m ∷ marks) zero h = omega arith
new_within (m ∷ marks) (suc u) h = let below = new_within marks u h in omega (arith, below)

-- within the marks it doesn't matter what stands for those past the end
pub same_mark : (marks : List Mark) (u : ℕ) (d : Mark) → u < length marks → mark_at marks u ≡ get_or marks u d
same_mark [] u d within = absurd (omega (arith, within))
same_mark (m ∷ marks) zero d within = refl
same_mark (m ∷ marks) (suc u) d within = same_mark marks u d (omega (arith, within))

-- a node is the one that is written, or another
pub written : (marks : List Mark) (u w : ℕ) (m : Mark) → u < length marks → ((w ≡ u) × (mark_at (set marks u m) w ≡ m)) ⊎ ((w ≢ u) × (mark_at (set marks u m) w ≡ mark_at marks w))
written marks u w m within = ⊎_elim
    (λ (same : w ≡ u). inl (same, ap (mark_at (set marks u m)) same ∙ get_or-set_same marks u m Done within))
    (λ (other : w ≢ u). inr (other, get_or-set_other marks u w m Done other))
    (cases_eq w u)

pub seen_on : (marks : List Mark) (u : ℕ) (m : Mark) → u < length marks → (m ≡ New → ⊥) → StaySeen marks (set marks u m)
seen_on marks u m within old w seen h = ⊎_elim
    (λ (same : (w ≡ u) × (mark_at (set marks u m) w ≡ m)). old (sym same.1 ∙ h))
    (λ (other : (w ≢ u) × (mark_at (set marks u m) w ≡ mark_at marks w)). seen (sym other.1 ∙ h))
    (written marks u w m within)

pub fewer_done : (marks : List Mark) (u : ℕ) → new_count (set marks u Done) ≤ new_count marks
fewer_done [] u = omega arith
fewer_done (New ∷ marks) zero = omega arith
fewer_done (Open ∷ marks) zero = omega arith
fewer_done (Done ∷ marks) zero = omega arith
fewer_done (New ∷ marks) (suc u) = let less = fewer_done marks u in omega (arith, less)
fewer_done (Open ∷ marks) (suc u) = fewer_done marks u
fewer_done (Done ∷ marks) (suc u) = fewer_done marks u

pub fewer_open : (marks : List Mark) (u : ℕ) → mark_at marks u ≡ New → new_count (set marks u Open) + 1 ≡ new_count marks
fewer_open [] u h = absurd (new_done (sym h))
fewer_open (New ∷ marks) zero h = omega arith
fewer_open (Open ∷ marks) zero h = absurd (new_open (sym h))
fewer_open (Done ∷ marks) zero h = absurd (new_done (sym h))
fewer_open (New ∷ marks) (suc u) h = let less = fewer_open marks u h in omega (arith, less)
fewer_open (Open ∷ marks) (suc u) h = fewer_open marks u h
fewer_open (Done ∷ marks) (suc u) h = fewer_open marks u h
