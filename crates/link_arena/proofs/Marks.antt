-- Marks that are written along a list.
use Rattle.std.proofs.Common.{◌≡◌, ℕ, ◌<◌, ◌-◌, List, ◌∷◌, length, get_or, set, sym, ◌∙◌, subst, inl, inr, ◌⊎◌}
use Rattle.std.proofs.lemmas.Bool.{cases_eq}
use Rattle.std.proofs.lemmas.List.{get_or-set_same, get_or-set_other}
use Rattle.link_arena.specs.Threads.{walk}
use Rattle.link_arena.proofs.Walks.{walk_more}
use Rattle.link_arena.proofs.Members.{IsIn}

pub mark_passed : (key : ℕ → ℕ) (N xs marks : List ℕ) (n at next : ℕ) → 0 < n → next ≡ get_or N at 0 → IsIn at xs → key at < length marks
    → ((s u : ℕ) → IsIn s xs → IsIn u xs → key s ≡ key u → s ≡ u)
    → ((s : ℕ) → IsIn s xs → IsIn s (walk N n at) ⊎ (get_or marks (key s) 0 ≡ s))
    → (s : ℕ) → IsIn s xs → IsIn s (walk N (n - 1) next) ⊎ (get_or (set marks (key at) at) (key s) 0 ≡ s)
mark_passed key N xs marks n at next some is here within single passed s h =
    let now : s ≡ at → get_or (set marks (key at) at) (key s) 0 ≡ s = λ e.
    subst (λ (i : ℕ). get_or (set marks (key at) at) (key i) 0 ≡ i) (sym e) (get_or-set_same marks (key at) at 0 within) in
    elim (passed s h) [
      | inl w ↦
          let w' : IsIn s (at ∷ walk N (n - 1) (get_or N at 0)) = subst (IsIn s) (walk_more N n at some) w in
          elim w' [
            | inl same ↦ inr (now same)
            | inr later ↦ inl (subst (λ (k : ℕ). IsIn s (walk N (n - 1) k)) (sym is) later)
          ]
      | inr old ↦ elim (cases_eq (key s) (key at)) [
        | inl e ↦ inr (now (single s at h here e))
        | inr ne ↦ inr (get_or-set_other marks (key at) (key s) at 0 ne ∙ old)
      ]
    ]
