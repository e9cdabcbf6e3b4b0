-- What an arena shows after a half has moved to the end of its own list.
use Rattle.std.proofs.Common.{◌≡◌, ◌≢◌, ℕ, ◌<◌, ◌-◌, List, [], ◌∷◌, ◌++◌, length, get_or, set, map, refl, sym, ◌∙◌, ap, subst, arith, inl, inr, suc}
use Rattle.std.proofs.lemmas.Bool.{cases_eq}
use Rattle.std.proofs.lemmas.List.{get_or-set_same, get_or-set_other, length-set, ext_get_or, map-append}
use Rattle.link_arena.specs.Links.{without, without_other, others_of}
use Rattle.link_arena.specs.Lists.{moved_to}
use Rattle.link_arena.specs.Twins.{other, shown}
use Rattle.link_arena.proofs.Shown.{at_shown, length-shown, length-moved, map-without}
use Rattle.link_arena.proofs.Members.{IsIn}

pub view-requeued : (O : List ℕ) (L : List (List ℕ)) (a s : ℕ) → suc a < length L
    → ((u : ℕ) → IsIn u (get_or L (suc a) []) → u ≢ s → other O u ≢ other O s)
    → shown O (moved_to L (suc a) (suc a) s) ≡ set (shown O L) a (without (other O s) (others_of (shown O L) a) ++ other O s ∷ [])
view-requeued O L a s within single =
    let A : ℕ = suc a in
    let V : List (List ℕ) = shown O L in
    let x : ℕ = other O s in
    let new : List ℕ = without x (others_of V a) ++ x ∷ [] in
    let M : List (List ℕ) = without_other L A s in
    let L1 : List (List ℕ) = moved_to L A A s in
    let lenM : length M ≡ length L = length-set L A (without s (others_of L A)) in
    let inM : A < length M = omega arith in
    let lenV : length V ≡ length L - 1 = length-shown O L in
    let inV : a < length V = omega arith in
    let lens : length (shown O L1) ≡ length (set V a new) =
    length-shown O L1 ∙ (ap (λ (n : ℕ). n - 1) (length-moved L A A s) ∙ (sym lenV ∙ sym (length-set V a new))) in
    ext_get_or [] (shown O L1) (set V a new) lens (λ e h.
    at_shown O L1 e ∙ elim (cases_eq e a) [
      | inl ea ↦
          let here : get_or L1 A [] ≡ without s (get_or L A []) ++ s ∷ [] =
          get_or-set_same M A (others_of M A ++ s ∷ []) [] inM
          ∙ ap (λ (l : List ℕ). l ++ s ∷ []) (get_or-set_same L A (without s (others_of L A)) [] within) in
          let cut : map (other O) (without s (get_or L A [])) ≡ without x (map (other O) (get_or L A [])) =
          map-without (other O) (other O) s x (get_or L A []) (λ u k n. (refl, single u k n)) refl in
          let left : map (other O) (get_or L1 A []) ≡ new =
          ap (map (other O)) here ∙ (map-append (other O) (without s (get_or L A [])) (s ∷ [])
          ∙ (ap (λ (l : List ℕ). l ++ x ∷ []) (cut ∙ ap (without x) (sym (at_shown O L a))))) in
          subst (λ (i : ℕ). map (other O) (get_or L1 (suc i) []) ≡ get_or (set V a new) i []) (sym ea)
          (left ∙ sym (get_or-set_same V a new [] inV))
      | inr na ↦
          let nA : suc e ≢ A = omega arith in
          ap (map (other O)) (get_or-set_other M A (suc e) (others_of M A ++ s ∷ []) [] nA ∙ get_or-set_other L A (suc e) (without s (others_of L A)) [] nA)
          ∙ (sym (at_shown O L e) ∙ sym (get_or-set_other V a e new [] na))
    ])
