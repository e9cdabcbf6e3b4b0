-- Files that are read one after the other give one thing each, or one reply.
use Rattle.std.proofs.Common.{◌≡◌, inl, inr, ℕ, zero, suc, ◌+◌, List, [], ◌∷◌, ◌++◌, take, refl, sym, subst, Some}
use Rattle.std.specs.Prelude.{slice_get}
use Rattle.std.specs.List.{AllZip, AllByRecursion}
use Rattle.std.proofs.lemmas.Option.{none-some, same_Some}
use Rattle.qvtr_engine.specs.FirstStops.{FirstStop}
use Rattle.qvtr_engine.specs.OneSteps.{AreOne}
use Rattle.qvtr_engine.specs.Reply.{Reply}
use Rattle.qvtr_engine.specs.Steps.{IsOneStep}
use Rattle.qvtr_engine.proofs.RequestLaws.{take_at}

module _ {A B : Type 0} (Is : A → B → Type 0) (Stops : A → Reply → Type 0) where
  abbrev IsRead : A → Type 0
  IsRead x = (y : B) × Is x y

  -- ---- one after the other

  -- the first that stops, behind those that were read
  stop_behind : (before : List A) (ys : List B) (x : A) (behind : List A) (reply : Reply) → AllZip Is before ys → Stops x reply → FirstStop IsRead Stops (before ++ x ∷ behind) reply
  stop_behind [] [] x behind reply all stops = inl stops
  stop_behind [] (y ∷ ys) x behind reply all stops = absurd all
  stop_behind (a ∷ before) [] x behind reply all stops = absurd all
  stop_behind (a ∷ before) (y ∷ ys) x behind reply all stops = inr ((y, all.0), stop_behind before ys x behind reply all.1 stops)

  split_at : (xs : List A) (i : ℕ) (x : A) → slice_get xs i ≡ Some x → (behind : List A) × (xs ≡ take i xs ++ x ∷ behind)
  split_at [] i x e = absurd (none-some x e)
  split_at (y ∷ xs) zero x e = (xs, λ j. same_Some y x e j ∷ xs)
  split_at (y ∷ xs) (suc i) x e = let (behind, is) = split_at xs i x e in (behind, λ j. y ∷ is j)

  pub stop_at : (xs : List A) (i : ℕ) (ys : List B) (x : A) (reply : Reply) → slice_get xs i ≡ Some x → AllZip Is (take i xs) ys → Stops x reply → FirstStop IsRead Stops xs reply
  stop_at xs i ys x reply at all stops =
      let (behind, is) = split_at xs i x at in
      subst (λ (zs : List A). FirstStop IsRead Stops zs reply) (sym is) (stop_behind (take i xs) ys x behind reply all stops)

  push : (xs : List A) (ys : List B) (x : A) (y : B) → AllZip Is xs ys → Is x y → AllZip Is (xs ++ x ∷ []) (ys ++ y ∷ [])
  push [] [] x y all is = (is, tt)
  push [] (b ∷ ys) x y all is = absurd all
  push (a ∷ xs) [] x y all is = absurd all
  push (a ∷ xs) (b ∷ ys) x y all is = (all.0, push xs ys x y all.1 is)

  pub one_more : (xs : List A) (i : ℕ) (ys : List B) (x : A) (y : B) → slice_get xs i ≡ Some x → AllZip Is (take i xs) ys → Is x y → AllZip Is (take (i + 1) xs) (ys ++ y ∷ [])
  one_more xs i ys x y at all is = subst (λ (zs : List A). AllZip Is zs (ys ++ y ∷ [])) (sym (take_at xs i x at)) (push (take i xs) ys x y all is)

  -- ---- one thing, or one reply

  module _ (one : (x : A) (y z : B) → Is x y → Is x z → y ≡ z) (apart : (x : A) (y : B) (reply : Reply) → Is x y → Stops x reply → ⊥) where
    one_list : (xs : List A) (ys zs : List B) → AllZip Is xs ys → AllZip Is xs zs → ys ≡ zs
    one_list [] [] [] h k = refl
    one_list [] (y ∷ ys) zs h k = absurd h
    one_list [] [] (z ∷ zs) h k = absurd k
    one_list (x ∷ xs) [] zs h k = absurd h
    one_list (x ∷ xs) (y ∷ ys) [] h k = absurd k
    one_list (x ∷ xs) (y ∷ ys) (z ∷ zs) h k = let here = one x y z h.0 k.0 in let more = one_list xs ys zs h.1 k.1 in λ i. here i ∷ more i

    all_go_on : (xs : List A) (ys : List B) (reply : Reply) → AllZip Is xs ys → FirstStop IsRead Stops xs reply → ⊥
    all_go_on [] ys reply h st = absurd st
    all_go_on (x ∷ xs) [] reply h st = absurd h
    all_go_on (x ∷ xs) (y ∷ ys) reply h (inl st) = apart x y reply h.0 st
    all_go_on (x ∷ xs) (y ∷ ys) reply h (inr more) = all_go_on xs ys reply h.1 more.1

    one_stop : (xs : List A) → AllByRecursion (λ x. (r o : Reply) → Stops x r → Stops x o → r ≡ o) xs
        → (r o : Reply) → FirstStop IsRead Stops xs r → FirstStop IsRead Stops xs o → r ≡ o
    one_stop [] single r o s t = absurd s
    one_stop (x ∷ xs) single r o (inl s) (inl t) = single.0 r o s t
    one_stop (x ∷ xs) single r o (inl s) (inr (read, t)) = absurd (apart x read.0 r read.1 s)
    one_stop (x ∷ xs) single r o (inr (read, s)) (inl t) = absurd (apart x read.0 o read.1 t)
    one_stop (x ∷ xs) single r o (inr (read, s)) (inr (also, t)) = one_stop xs single.1 r o s t

    pub one_by_one : (xs : List A) → AllByRecursion (λ x. (r o : Reply) → Stops x r → Stops x o → r ≡ o) xs
        → IsOneStep (AllZip Is xs) (FirstStop IsRead Stops xs) AreOne
    one_by_one xs single = record {
      one = one_list xs;
      apart = λ ys reply h st. all_go_on xs ys reply h st;
      alike = one_stop xs single;
    }
