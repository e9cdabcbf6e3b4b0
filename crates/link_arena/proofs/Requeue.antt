-- A list put in another order, by moving one number after another to the end.
use Rattle.std.proofs.Common.{◌≡◌, ℕ, List, [], ◌∷◌, ◌++◌, length, refl, sym, ◌∙◌, ap, subst, arith, inl, inr}
use Rattle.std.proofs.lemmas.Bool.{cases_eq}
use Rattle.std.proofs.lemmas.List.{append-nil, append_assoc, length-append}
use Rattle.link_arena.specs.Links.{without}
use Rattle.link_arena.proofs.Leads.{IsAround, around, without-around, IsIn-either, IsIn-left, IsIn-right, distinct-push}
use Rattle.link_arena.proofs.Filed.{IsIn-kept}
use Rattle.link_arena.proofs.Threaded.{distinct-without, IsIn-without}
use Rattle.link_arena.proofs.Members.{IsIn, IsDistinct}

-- the numbers of an order move to the end of a list, one after another
pub requeued : List ℕ → List ℕ → List ℕ
requeued xs [] = xs
requeued xs (y ∷ ys) = requeued (without y xs ++ y ∷ []) ys

distinct_requeued : (y : ℕ) (xs : List ℕ) → IsDistinct xs → IsDistinct (without y xs ++ y ∷ [])
distinct_requeued y xs apart = distinct-push (without y xs) y (distinct-without y xs apart) (λ h. (IsIn-without y y xs h).1 refl)

pub requeued-order : (rest done order : List ℕ) → IsDistinct (rest ++ done) → IsDistinct order → ((x : ℕ) → IsIn x order → IsIn x rest)
    → length rest ≡ length order → requeued (rest ++ done) order ≡ done ++ order
unfolding requeued
requeued-order [] done [] apart differ there len = sym (append-nil done)
requeued-order (r ∷ rest) done [] apart differ there len = absurd (omega arith)
requeued-order rest done (y ∷ ys) apart differ there len =
    let parts : IsAround rest y = around rest y (there y (inl refl)) in
    let bs : List ℕ = parts.before in
    let cs : List ℕ = parts.after in
    let shape : rest ++ done ≡ bs ++ y ∷ (cs ++ done) = ap (λ (l : List ℕ). l ++ done) parts.is ∙ append_assoc bs (y ∷ cs) done in
    let apart' : IsDistinct (bs ++ y ∷ (cs ++ done)) = subst IsDistinct shape apart in
    let cut : without y (rest ++ done) ≡ bs ++ (cs ++ done) = ap (without y) shape ∙ without-around bs y (cs ++ done) apart' in
    let next : without y (rest ++ done) ++ y ∷ [] ≡ (bs ++ cs) ++ (done ++ y ∷ []) =
    ap (λ (l : List ℕ). l ++ y ∷ []) (cut ∙ sym (append_assoc bs cs done)) ∙ append_assoc (bs ++ cs) done (y ∷ []) in
    let apart2 : IsDistinct ((bs ++ cs) ++ (done ++ y ∷ [])) = subst IsDistinct next (distinct_requeued y (rest ++ done) apart) in
    let there2 : (x : ℕ) → IsIn x ys → IsIn x (bs ++ cs) = λ x h.
    let h1 : IsIn x (bs ++ y ∷ cs) = subst (IsIn x) parts.is (there x (inr h)) in
    elim (IsIn-either x bs (y ∷ cs) h1) [
      | inl b ↦ IsIn-left x bs cs b
      | inr b ↦ elim b [ inl same ↦ absurd (differ.0 (subst (λ (i : ℕ). IsIn i ys) same h)) | inr c ↦ IsIn-right x bs cs c ]
    ] in
    let len2 : length (bs ++ cs) ≡ length ys = omega (arith, len, ap length parts.is, length-append bs (y ∷ cs), length-append bs cs) in
    ap (λ (l : List ℕ). requeued l ys) next
    ∙ (requeued-order (bs ++ cs) (done ++ y ∷ []) ys apart2 differ.1 there2 len2 ∙ append_assoc done (y ∷ []) ys)

pub requeued-push : (xs ys : List ℕ) (y : ℕ) → requeued xs (ys ++ y ∷ []) ≡ without y (requeued xs ys) ++ y ∷ []
unfolding requeued
requeued-push xs [] y = refl
requeued-push xs (z ∷ ys) y = requeued-push (without z xs ++ z ∷ []) ys y

pub IsIn-requeued : (x : ℕ) (xs ys : List ℕ) → IsIn x xs → IsIn x (requeued xs ys)
unfolding requeued
IsIn-requeued x xs [] has = has
IsIn-requeued x xs (y ∷ ys) has =
    IsIn-requeued x (without y xs ++ y ∷ []) ys (elim (cases_eq x y) [
      | inl e ↦ IsIn-right x (without y xs) (y ∷ []) (inl e)
      | inr n ↦ IsIn-left x (without y xs) (y ∷ []) (IsIn-kept x y xs n has)
    ])

pub requeued-whole : (xs order : List ℕ) → IsDistinct xs → IsDistinct order → ((x : ℕ) → IsIn x order → IsIn x xs) → length xs ≡ length order
    → requeued xs order ≡ order
requeued-whole xs order apart differ there len =
    ap (λ (l : List ℕ). requeued l order) (sym (append-nil xs))
    ∙ requeued-order xs [] order (subst IsDistinct (sym (append-nil xs)) apart) differ there len

pub requeued-none : (xs : List ℕ) → requeued xs [] ≡ xs
unfolding requeued
requeued-none xs = refl
