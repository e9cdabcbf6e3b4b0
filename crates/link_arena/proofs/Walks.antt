-- A walk along a list.
use Rattle.std.proofs.Common.{◌≡◌, ℕ, ◌<◌, ◌-◌, List, [], ◌∷◌, get_or, map, refl, sym, ◌∙◌, ap, subst, arith, inl, inr, ◌⊎◌, zero, suc}
use Rattle.link_arena.specs.declared.half.Half.{Half}
use Rattle.link_arena.specs.Threads.{walk}
use Rattle.link_arena.specs.Lists.{nexts, owners}
use Rattle.link_arena.specs.Twins.{other, IsListed}
use Rattle.link_arena.proofs.Members.{IsIn, in_from, contains_in}

pub walk_more : (N : List ℕ) (n at : ℕ) → 0 < n → walk N n at ≡ at ∷ walk N (n - 1) (get_or N at 0)
walk_more N zero at some = absurd (omega arith)
walk_more N (suc n) at some = ap (λ (k : ℕ). at ∷ walk N k (get_or N at 0)) (let k : n ≡ suc n - 1 = omega arith in k)

pub walk_here : (N : List ℕ) (xs : List ℕ) (n at : ℕ) → 0 < n → ((s : ℕ) → IsIn s (walk N n at) → IsIn s xs) → IsIn at xs
walk_here N xs n at some rest = rest at (subst (IsIn at) (sym (walk_more N n at some)) (inl refl))

pub walk_rest : (N : List ℕ) (xs : List ℕ) (n at next : ℕ) → 0 < n → next ≡ get_or N at 0 → ((s : ℕ) → IsIn s (walk N n at) → IsIn s xs)
    → (s : ℕ) → IsIn s (walk N (n - 1) next) → IsIn s xs
walk_rest N xs n at next some is rest s h =
    let h' : IsIn s (walk N (n - 1) (get_or N at 0)) = subst (λ (k : ℕ). IsIn s (walk N (n - 1) k)) is h in
    rest s (subst (IsIn s) (sym (walk_more N n at some)) (inr h'))

pub walk_passed : (P : ℕ → Type 0) (N : List ℕ) (xs : List ℕ) (n at next : ℕ) → 0 < n → next ≡ get_or N at 0 → P at
    → ((s : ℕ) → IsIn s xs → IsIn s (walk N n at) ⊎ P s) → (s : ℕ) → IsIn s xs → IsIn s (walk N (n - 1) next) ⊎ P s
walk_passed P N xs n at next some is here passed s h =
    elim (passed s h) [
      | inl w ↦
          let w' : IsIn s (at ∷ walk N (n - 1) (get_or N at 0)) = subst (IsIn s) (walk_more N n at some) w in
          elim w' [
            | inl same ↦ inr (subst P (sym same) here)
            | inr later ↦ inl (subst (λ (k : ℕ). IsIn s (walk N (n - 1) k)) (sym is) later)
          ]
      | inr p ↦ inr p
    ]

pub walk_none : (N : List ℕ) (n at s : ℕ) → n ≡ 0 → ¬ IsIn s (walk N n at)
walk_none N zero at s none h = h
walk_none N (suc n) at s none h = absurd (omega arith)

pub listed_some : (halves : List Half) (xs ys : List ℕ) → ((s : ℕ) → IsIn s ys → IsIn s xs) → IsListed halves xs → IsListed halves ys
listed_some halves xs ys sub ok = record {
  within = λ s h. ok.within s (contains_in xs s (sub s (in_from ys s h)));
  twin_within = λ s h. ok.twin_within s (contains_in xs s (sub s (in_from ys s h)));
  some = λ s h. ok.some s (contains_in xs s (sub s (in_from ys s h)));
  few = λ s h. ok.few s (contains_in xs s (sub s (in_from ys s h)));
}

pub listed_here : (halves : List Half) (n at : ℕ) → 0 < n → IsListed halves (walk (nexts halves) n at) → IsListed halves (at ∷ [])
listed_here halves n at some ok = listed_some halves (walk (nexts halves) n at) (at ∷ [])
    (λ s h. elim h [
      | inl e ↦ subst (λ (i : ℕ). IsIn i (walk (nexts halves) n at)) (sym e) (walk_here (nexts halves) (walk (nexts halves) n at) n at some (λ s h. h))
      | inr none ↦ absurd none
    ]) ok

pub listed_rest : (halves : List Half) (n at next : ℕ) → 0 < n → next ≡ get_or (nexts halves) at 0 → IsListed halves (walk (nexts halves) n at)
    → IsListed halves (walk (nexts halves) (n - 1) next)
listed_rest halves n at next some is ok = listed_some halves (walk (nexts halves) n at) (walk (nexts halves) (n - 1) next)
    (walk_rest (nexts halves) (walk (nexts halves) n at) n at next some is (λ s h. h)) ok

pub view_step : (halves : List Half) (n at next end : ℕ) (view : List ℕ) → 0 < n → next ≡ get_or (nexts halves) at 0 → end ≡ other (owners halves) at
    → map (other (owners halves)) (walk (nexts halves) n at) ≡ view → view ≡ end ∷ map (other (owners halves)) (walk (nexts halves) (n - 1) next)
view_step halves n at next end view some is e shown =
    sym shown ∙ (ap (map (other (owners halves))) (walk_more (nexts halves) n at some)
    ∙ (ap (λ (k : ℕ). k ∷ map (other (owners halves)) (walk (nexts halves) (n - 1) (get_or (nexts halves) at 0))) (sym e)
    ∙ ap (λ (k : ℕ). end ∷ map (other (owners halves)) (walk (nexts halves) (n - 1) k)) (sym is)))
