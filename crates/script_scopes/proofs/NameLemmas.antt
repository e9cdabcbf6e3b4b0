-- Names among others: the test and the fact.
use Rattle.std.proofs.Common.{◌≡◌, ℕ, ◌+◌, Bool, cond, List, [], ◌∷◌, map, length, true, false, refl, sym, ◌∙◌, ap, subst, get_or, true≢false}
use Rattle.std.proofs.lemmas.List.{length-map}
use Rattle.std.specs.Prelude.{Contains, Some, None, not, position, nat_lt}
use Rattle.std.specs.List.{position_or_len}
use Rattle.std.specs.Set.{is_member}
use Rattle.std.specs.Cmp.Lexicographic.{bytes_decides}
use Rattle.std.proofs.lemmas.List.Folds.{Any-from_list_any, list_any_at}
use Rattle.mof_metamodel.specs.Characters.{same_name}

-- what the test of two names says
pub same_is : (x y : List ℕ) → same_name x y ≡ true → x ≡ y
same_is x y h = (bytes_decides x y).0 h

pub is_same : (x y : List ℕ) → x ≡ y → same_name x y ≡ true
is_same x y e = (bytes_decides x y).1 e

-- what the test of a name among others says
pub has_name : (xs : List (List ℕ)) (x : List ℕ) → is_member same_name xs x ≡ true → Contains xs x
has_name xs x h =
    let (k, y, l, at, same) = Any-from_list_any (same_name x) xs h in
    (k, l, subst (λ (z : List ℕ). get_or xs k z ≡ z) (sym (same_is x y same)) at)

pub name_had : (xs : List (List ℕ)) (x : List ℕ) → Contains xs x → is_member same_name xs x ≡ true
name_had xs x h = let (k, l, at) = h in list_any_at (same_name x) xs k x l (is_same x (get_or xs k x) (sym at))

pub lacks_name : (xs : List (List ℕ)) (x : List ℕ) → is_member same_name xs x ≡ false → ¬ Contains xs x
lacks_name xs x h c = true≢false (sym (name_had xs x c) ∙ h)

-- the first place at which a test passes, among what is taken of each
place_of_mapped : {X Y : Type 0} (p : Y → Bool) (f : X → Y) (xs : List X) → position_or_len p (map f xs) ≡ position_or_len (λ x. p (f x)) xs
place_of_mapped p f [] = refl
place_of_mapped p f (x ∷ xs) = ap (λ n. cond (not (p (f x))) (1 + n) 0) (place_of_mapped p f xs)

pub position_mapped : {X Y : Type 0} (p : Y → Bool) (f : X → Y) (xs : List X) → position p (map f xs) ≡ position (λ x. p (f x)) xs
position_mapped p f xs =
    ap (λ n. cond (nat_lt n (length (map f xs))) (Some n) None) (place_of_mapped p f xs)
    ∙ ap (λ k. cond (nat_lt (position_or_len (λ x. p (f x)) xs) k) (Some (position_or_len (λ x. p (f x)) xs)) None) (length-map xs f)
