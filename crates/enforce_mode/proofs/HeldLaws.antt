-- Steps of going through what a slot holds.
use Rattle.std.specs.Prelude.{◌≡◌, ◌+◌, ◌<◌, ℕ, List, [], ◌∷◌, ◌++◌, map, length, take, Option, None, Some}
use Rattle.std.specs.List.{filter_map}
use Rattle.std.specs.Option.{option_to_list}
use Rattle.std.proofs.Common.{refl, ap, sym, ◌∙◌, get_or}
use Rattle.std.proofs.lemmas.List.{map-append, take_more}
use Rattle.std.proofs.lemmas.List.Elements.{filter_map-append}
use Rattle.repair_semantics.specs.Claims.{Held}
use Rattle.slot_claims.specs.declared.held_value.HeldValue.{HeldValue}
use Rattle.slot_claims.specs.HeldValues.{held_by}

module _ {X : Type 0} (f : Held ℕ → Option X) where
  one_of : (h : Held ℕ) → filter_map f (h ∷ []) ≡ option_to_list (f h)
  one_of h = by (f h) refl
    where
      by : (x : Option X) → f h ≡ x → filter_map f (h ∷ []) ≡ option_to_list (f h)
      by None e = rw e refl
      by (Some y) e = rw e refl

  -- one more behind the others
  pub held_more : (hs : List HeldValue) (one : HeldValue)
      → filter_map f (map held_by (hs ++ one ∷ [])) ≡ filter_map f (map held_by hs) ++ option_to_list (f (held_by one))
  held_more hs one =
      ap (filter_map f) (map-append held_by hs (one ∷ [])) ∙ filter_map-append f (map held_by hs) (held_by one ∷ [])
      ∙ ap (λ xs. filter_map f (map held_by hs) ++ xs) (one_of (held_by one))

  -- one more of a list
  pub held_further : (hs : List HeldValue) (i : ℕ) (one : HeldValue) → i < length hs → one ≡ get_or hs i one
      → filter_map f (map held_by (take (i + 1) hs)) ≡ filter_map f (map held_by (take i hs)) ++ option_to_list (f (held_by one))
  held_further hs i one within is =
      ap (λ xs. filter_map f (map held_by xs)) (take_more hs i one within ∙ ap (λ h. take i hs ++ h ∷ []) (sym is))
      ∙ held_more (take i hs) one
