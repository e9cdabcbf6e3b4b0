-- Lists whose items are written one after another.
use Rattle.std.proofs.Common.{◌≡◌, ℕ, ◌<◌, ◌≤◌, ◌+◌, List, [], ◌∷◌, ◌++◌, length, get_or, take, sym, ap, ◌∙◌, subst, below_more}
use Rattle.std.specs.List.{flat_map}
use Rattle.std.proofs.lemmas.List.{flat_map_more, take_more, take_all, get_or_default}
use Rattle.json.specs.Token.{Token}

-- one more is written
pub one_more : {X : Type 0} (f : X → List Token) (xs : List X) (i : ℕ) (x : X) (old mid new : List Token) → i < length xs → x ≡ get_or xs i x
    → mid ≡ old ++ flat_map f (take i xs) → new ≡ mid ++ f x → new ≡ old ++ flat_map f (take (i + 1) xs)
one_more f xs i x old mid new within is so_far more =
    more ∙ ap (λ ts. ts ++ f x) so_far ∙ flat_map_more f old (take i xs) x
    ∙ ap (λ ys. old ++ flat_map f ys) (sym (take_more xs i x within ∙ ap (λ y. take i xs ++ y ∷ []) (sym is)))

-- all are written
pub all_written : {X : Type 0} (f : X → List Token) (xs : List X) (i : ℕ) (old new : List Token) → length xs ≤ i
    → new ≡ old ++ flat_map f (take i xs) → new ≡ old ++ flat_map f xs
all_written f xs i old new past e = e ∙ ap (λ ys. old ++ flat_map f ys) (take_all i xs past)

-- what holds of the first ones and of one more
pub one_held : {X : Type 0} (Held : X → Type 0) (xs : List X) (i : ℕ) (x : X) → i < length xs → x ≡ get_or xs i x
    → ((k : ℕ) (d : X) → k < i → Held (get_or xs k d)) → Held x → (k : ℕ) (d : X) → k < i + 1 → Held (get_or xs k d)
one_held {X} Held xs i x within is so_far here k d less =
    below_more (λ n. (e : X) → Held (get_or xs n e)) i (λ n below e. so_far n e below)
    (λ e. subst Held (is ∙ get_or_default xs i x e within) here) k less d
