-- One more item of a list that a loop goes through, seen by a view, and what is collected of it.
use Rattle.std.proofs.Common.{◌≡◌, ℕ, ◌+◌, ◌<◌, List, [], ◌∷◌, ◌++◌, map, take, length, get_or, refl, sym, ap, subst, ◌∙◌, Bor, Bool, true, false, cond}
use Rattle.std.specs.Prelude.{Option, None, Some, All}
use Rattle.std.specs.List.{flat_map, AllZip}
use Rattle.std.specs.Option.{option_map}
use Rattle.std.proofs.lemmas.List.{take_more, map-append, flat_map_more}
use Rattle.std.proofs.lemmas.List.Elements.{All-push}
use Rattle.mof_metamodel.specs.Characters.{same_name}
use Rattle.mof_metamodel.specs.NameTables.{NamesWith, value_of}

module _ {X Y : Type 0} (shown : X → Y) (xs : List X) (i : ℕ) (x : X) (within : i < length xs) (is : x ≡ get_or xs i x) where
  pub shown_more : map shown (take (i + 1) xs) ≡ map shown (take i xs) ++ shown x ∷ []
  shown_more = ap (map shown) (take_more xs i x within ∙ ap (λ (y : X). take i xs ++ y ∷ []) (sym is)) ∙ map-append shown (take i xs) (x ∷ [])

  -- what is collected
  pub collected_more : {Z : Type 0} (f : Y → List Z) (before now after : List Z) → now ≡ before ++ flat_map f (map shown (take i xs)) → after ≡ now ++ f (shown x)
      → after ≡ before ++ flat_map f (map shown (take (i + 1) xs))
  collected_more f before now after so_far more =
      more ∙ ap (λ zs. zs ++ f (shown x)) so_far ∙ flat_map_more f before (map shown (take i xs)) (shown x)
      ∙ ap (λ ys. before ++ flat_map f ys) (sym shown_more)

  -- what holds of each
  pub all_shown_more : (P : Y → Type 0) → All P (map shown (take i xs)) → P (shown x) → All P (map shown (take (i + 1) xs))
  all_shown_more P all h = subst (All P) (sym shown_more) (All-push P (map shown (take i xs)) (shown x) all h)

pub zip_push : {X Y : Type 0} (R : X → Y → Type 0) (xs : List X) (ys : List Y) (x : X) (y : Y) → AllZip R xs ys → R x y → AllZip R (xs ++ x ∷ []) (ys ++ y ∷ [])
zip_push R [] [] x y all h = (h, tt)
zip_push R [] (z ∷ ys) x y all h = absurd all
zip_push R (w ∷ xs) [] x y all h = absurd all
zip_push R (w ∷ xs) (z ∷ ys) x y all h = (all.0, zip_push R xs ys x y all.1 h)

-- what a name stands for, in a table of references
pub value_shown : {X : Type 0} (es : NamesWith (Bor X)) (n : List ℕ) → value_of (map (λ e. (e.0, e.1.now)) es) n ≡ option_map (λ r. r.now) (value_of es n)
value_shown [] n = refl
value_shown {X} (e ∷ es) n = by (same_name n e.0) (value_shown es n)
  where
    by : (b : Bool) → value_of (map (λ e. (e.0, e.1.now)) es) n ≡ option_map (λ (r : Bor X). r.now) (value_of es n)
        → cond b (Some e.1.now) (value_of (map (λ e. (e.0, e.1.now)) es) n) ≡ option_map (λ (r : Bor X). r.now) (cond b (Some e.1) (value_of es n))
    by true h = refl
    by false h = h

pub twice_shown : {X : Type 0} (o : Option (Bor (Bor X))) → option_map (λ r. r.now.now) o ≡ option_map (λ (r : Bor X). r.now) (option_map (λ v. v.now) o)
twice_shown None = refl
twice_shown (Some x) = refl
