-- What is among the items that a partial function gives, and among names each once.
use Rattle.std.proofs.Common.{◌≡◌, ℕ, zero, suc, List, [], ◌∷◌, map, sym, ◌∙◌, ap, subst, arith, refl}
use Rattle.std.specs.Prelude.{Option, Some, None, Contains}
use Rattle.std.specs.List.{filter_map, cons_option}
use Rattle.script_scopes.specs.ScriptNames.{each_once}
use Rattle.script_scopes.proofs.NameLemmas.{has_name, name_had}
use Rattle.script_scopes.proofs.OnceLemmas.{member_once}

pub once_has : (xs : List (List ℕ)) (x : List ℕ) → Contains xs x → Contains (each_once xs) x
once_has xs x c = has_name (each_once xs) x (member_once xs x ∙ name_had xs x c)

pub has_once : (xs : List (List ℕ)) (x : List ℕ) → Contains (each_once xs) x → Contains xs x
has_once xs x c = has_name xs x (sym (member_once xs x) ∙ name_had (each_once xs) x c)

module _ {X Y : Type 0} (h : X → Option Y) where
  further : (x z : X) (xs : List X) → Contains xs z → Contains (x ∷ xs) z
  further x z xs (k, l, at) = (suc k, omega arith, at)

  pub from_filter_map : (xs : List X) (y : Y) → Contains (filter_map h xs) y → (x : X) × Contains xs x × (h x ≡ Some y)
  from_filter_map [] y (k, l, at) = absurd (omega arith)
  from_filter_map (x ∷ xs) y c = by (λ d. let (z, among, is) = from_filter_map xs y d in (z, further x z xs among, is)) (h x) refl c
    where
      by : (Contains (filter_map h xs) y → (z : X) × Contains (x ∷ xs) z × (h z ≡ Some y)) → (o : Option Y) → h x ≡ o → Contains (cons_option o (filter_map h xs)) y
          → (z : X) × Contains (x ∷ xs) z × (h z ≡ Some y)
      by rest None e d = rest d
      by rest (Some z) e (zero, l, at) = (x, (0, omega arith, refl), e ∙ ap Some at)
      by rest (Some z) e (suc k, l, at) = rest (k, omega arith, at)

  pub to_filter_map : (xs : List X) (x : X) (y : Y) → Contains xs x → h x ≡ Some y → Contains (filter_map h xs) y
  to_filter_map [] x y (k, l, at) e = absurd (omega arith)
  to_filter_map (w ∷ xs) x y (zero, l, at) e = subst (λ (o : Option Y). Contains (cons_option o (filter_map h xs)) y) (sym (ap h at ∙ e)) (0, omega arith, refl)
  to_filter_map (w ∷ xs) x y (suc k, l, at) e = by (to_filter_map xs x y (k, omega arith, at) e) (h w)
    where
      by : Contains (filter_map h xs) y → (o : Option Y) → Contains (cons_option o (filter_map h xs)) y
      by rest None = rest
      by (j, m, is) (Some z) = (suc j, omega arith, is)

module _ {X Y : Type 0} (f : X → Y) where
  pub from_map : (xs : List X) (y : Y) → Contains (map f xs) y → (x : X) × Contains xs x × (f x ≡ y)
  from_map [] y (k, l, at) = absurd (omega arith)
  from_map (x ∷ xs) y (zero, l, at) = (x, (0, omega arith, refl), at)
  from_map (x ∷ xs) y (suc k, l, at) = let (z, (j, m, e), is) = from_map xs y (k, omega arith, at) in (z, (suc j, omega arith, e), is)

  pub to_map : (xs : List X) (x : X) → Contains xs x → Contains (map f xs) (f x)
  to_map [] x (k, l, at) = absurd (omega arith)
  to_map (w ∷ xs) x (zero, l, at) = (0, omega arith, ap f at)
  to_map (w ∷ xs) x (suc k, l, at) = let (j, m, e) = to_map xs x (k, omega arith, at) in (suc j, omega arith, e)
