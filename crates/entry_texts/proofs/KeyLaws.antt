-- The places of keys, one key after the other, and the properties that stand there.
use Rattle.std.specs.Prelude.{◌≡◌, ◌⊎◌, ◌≤◌, ◌<◌, ◌+◌, ◌==◌, ◌&&◌, ℕ, Bool, true, false, not, cond, eqb, nat_lt, List, [], ◌∷◌, ◌++◌, length, Option, None, Some, is_some, slice_get, position}
use Rattle.std.specs.List.{find, position_or_len}
use Rattle.std.specs.Option.{option_map, option_map_or, option_and_then, option_or, unwrap_or}
use Rattle.std.specs.Ordering.{nat_cmp, is_eq}
use Rattle.std.specs.BTreeMap.{BTreeMap, get, is_at, Updates}
use Rattle.std.proofs.Common.{refl, sym, ap, ◌∙◌, subst, arith, inl, inr}
use Rattle.std.proofs.lemmas.Bool.{true≢false, cond-true, cond-false, lt-ltb, le-ltb, ltb-false, eq-eqb, ne_eqb, eqb-true, eqb-false, cases_Bool}
use Rattle.std.proofs.lemmas.Bool.Decides.{nat_tests}
use Rattle.std.proofs.lemmas.List.{length-append}
use Rattle.std.proofs.lemmas.List.Folds.{find_at, position_or_len_push}
use Rattle.std.proofs.lemmas.List.Sums.{prefix_len-le-length}
use Rattle.std.proofs.lemmas.Option.{slice_get_past}
use Rattle.qv_syntax.specs.declared.program.Program.{Program}
use Rattle.qv_syntax.specs.declared.program.Key.{Key}
use Rattle.repair_semantics.specs.TargetItems.{is_key_of, key_of, target_meta_number}
use Rattle.entry_texts.specs.Naming.{place_of, ArePlaces, PutsPlace, PutsKey, props_at}

-- ---- the first place

module _ {X : Type 0} (p : X → Bool) where
  position_is : (xs : List X) (n : ℕ) → position_or_len p xs ≡ n → n < length xs → position p xs ≡ Some n
  position_is xs n is below =
      cond-true (nat_lt (position_or_len p xs) (length xs)) (Some (position_or_len p xs)) None (lt-ltb (position_or_len p xs) (length xs) (omega (arith, is, below))) ∙ ap (λ m. Some m) is

  position_none : (xs : List X) → length xs ≤ position_or_len p xs → position p xs ≡ None
  position_none xs past = cond-false (nat_lt (position_or_len p xs) (length xs)) (Some (position_or_len p xs)) None (le-ltb (position_or_len p xs) (length xs) past)

  -- with one more behind
  pub position_more : (xs : List X) (y : X) → position p (xs ++ y ∷ []) ≡ option_or (position p xs) (cond (p y) (Some (length xs)) None)
  position_more xs y = by (cases_Bool (eqb (position_or_len p xs) (length xs))) (cases_Bool (p y))
    where
      n : ℕ
      n = position_or_len p xs

      longer : length (xs ++ y ∷ []) ≡ length xs + 1
      longer = length-append xs (y ∷ [])

      push : position_or_len p (xs ++ y ∷ []) ≡ cond (eqb n (length xs)) (length xs + cond (p y) 0 1) n
      push = position_or_len_push p xs y

      by : (eqb n (length xs) ≡ true) ⊎ (eqb n (length xs) ≡ false) → (p y ≡ true) ⊎ (p y ≡ false) → position p (xs ++ y ∷ []) ≡ option_or (position p xs) (cond (p y) (Some (length xs)) None)
      by (inl end) (inl here) =
          let m : position_or_len p (xs ++ y ∷ []) ≡ length xs + 0 = push ∙ cond-true (eqb n (length xs)) (length xs + cond (p y) 0 1) n end ∙ ap (λ b. length xs + cond b 0 1) here in
          position_is (xs ++ y ∷ []) (length xs) (omega (arith, m)) (omega (arith, longer))
          ∙ sym (ap (λ o. option_or o (cond (p y) (Some (length xs)) None)) (position_none xs (omega (arith, eqb-true n (length xs) end))) ∙ ap (λ b. cond b (Some (length xs)) None) here)
      by (inl end) (inr here) =
          let m : position_or_len p (xs ++ y ∷ []) ≡ length xs + 1 = push ∙ cond-true (eqb n (length xs)) (length xs + cond (p y) 0 1) n end ∙ ap (λ b. length xs + cond b 0 1) here in
          position_none (xs ++ y ∷ []) (omega (arith, m, longer))
          ∙ sym (ap (λ o. option_or o (cond (p y) (Some (length xs)) None)) (position_none xs (omega (arith, eqb-true n (length xs) end))) ∙ ap (λ b. cond b (Some (length xs)) None) here)
      by (inr before) c =
          let m : position_or_len p (xs ++ y ∷ []) ≡ n = push ∙ cond-false (eqb n (length xs)) (length xs + cond (p y) 0 1) n before in
          let within : n ≤ length xs = prefix_len-le-length (λ x. not (p x)) xs in
          let below : n < length xs = omega (arith, within, eqb-false n (length xs) before) in
          position_is (xs ++ y ∷ []) n m (omega (arith, longer, below)) ∙ sym (ap (λ o. option_or o (cond (p y) (Some (length xs)) None)) (position_is xs n refl below))

  -- what stands there
  pub found_there : (xs : List X) → option_and_then (slice_get xs) (position p xs) ≡ find p xs
  found_there xs = by (nat_lt (position_or_len p xs) (length xs)) refl ∙ sym (find_at p xs)
    where
      by : (b : Bool) → nat_lt (position_or_len p xs) (length xs) ≡ b → option_and_then (slice_get xs) (cond b (Some (position_or_len p xs)) None) ≡ slice_get xs (position_or_len p xs)
      by true within = refl
      by false past = sym (slice_get_past xs (position_or_len p xs) (ltb-false (position_or_len p xs) (length xs) past))

-- ---- the table

is_one : (m n : ℕ) → (m == n) ≡ is_eq (nat_cmp m n)
is_one m n = grind (arith, nat_tests)

or_none : (x : Option ℕ) → x ≡ option_or x None
or_none None = refl
or_none (Some n) = refl

or_known : (x y : Option ℕ) → is_some x ≡ true → x ≡ option_or x y
or_known None y some = absurd (true≢false (sym some))
or_known (Some n) y some = refl

or_unknown : (x y : Option ℕ) → is_some x ≡ false → y ≡ option_or x y
or_unknown None y none = refl
or_unknown (Some n) y none = absurd (true≢false none)

-- the place that stands there stays
pub place_stays : (places : BTreeMap ℕ ℕ) (own place : ℕ) → is_some (get nat_cmp places own) ≡ true → PutsPlace own place places places
place_stays places own place there class = by (own == class) refl
  where
    by : (b : Bool) → (own == class) ≡ b → get nat_cmp places class ≡ option_or (get nat_cmp places class) (cond b (Some place) None)
    by true same = or_known (get nat_cmp places class) (Some place) (subst (λ c. is_some (get nat_cmp places c) ≡ true) (eqb-true own class same) there)
    by false apart = or_none (get nat_cmp places class)

-- one is put where none stands
pub place_put : (before after : BTreeMap ℕ ℕ) (own place : ℕ) → is_some (get nat_cmp before own) ≡ false → Updates nat_cmp before after own (Some place) → PutsPlace own place before after
place_put before after own place absent updates class =
    updates.0 class ∙ ap (λ b. cond b (Some place) (get nat_cmp before class)) (sym (is_one own class)) ∙ by (own == class) refl
  where
    by : (b : Bool) → (own == class) ≡ b → cond b (Some place) (get nat_cmp before class) ≡ option_or (get nat_cmp before class) (cond b (Some place) None)
    by true same = or_unknown (get nat_cmp before class) (Some place) (subst (λ c. is_some (get nat_cmp before c) ≡ false) (eqb-true own class same) absent)
    by false apart = or_none (get nat_cmp before class)

-- a key of the metamodel has its place put, and one of another hasn't
pub key_put : (number place : ℕ) (key : Key) (before after : BTreeMap ℕ ℕ) → key.meta ≡ number → PutsPlace key.class.0 place before after → PutsKey number key place before after
key_put number place key before after same puts class =
    puts class ∙ ap (λ b. option_or (get nat_cmp before class) (cond (b && (key.class.0 == class)) (Some place) None)) (sym (eq-eqb key.meta number same))

pub key_passed : (number place : ℕ) (key : Key) (places : BTreeMap ℕ ℕ) → (key.meta ≡ number → ⊥) → PutsKey number key place places places
key_passed number place key places other class =
    or_none (get nat_cmp places class) ∙ ap (λ b. option_or (get nat_cmp places class) (cond (b && (key.class.0 == class)) (Some place) None)) (sym (ne_eqb key.meta number other))

module _ (program : Program) where
  -- the places of keys, and of one more
  pub places_more : (keys : List Key) (key : Key) (before after : BTreeMap ℕ ℕ) → ArePlaces program keys before → PutsKey (target_meta_number program) key (length keys) before after
      → ArePlaces program (keys ++ key ∷ []) after
  places_more keys key before after are puts class =
      puts class ∙ ap (λ o. option_or o (cond (is_key_of program class key) (Some (length keys)) None)) (are class) ∙ sym (position_more (is_key_of program class) keys key)

  -- the properties of the key of a class stand at its place
  pub props_found : (places : BTreeMap ℕ ℕ) → ArePlaces program program.keys places → (class : ℕ) → props_at program (get nat_cmp places class) ≡ unwrap_or (key_of program class) []
  props_found places are class =
      ap (props_at program) (are class)
      ∙ ap (λ (key : Option Key). option_map_or (λ k. k.props) key []) (found_there (is_key_of program class) program.keys)
      ∙ by (find (is_key_of program class) program.keys)
    where
      by : (key : Option Key) → option_map_or (λ k. k.props) key [] ≡ unwrap_or (option_map (λ k. k.props) key) []
      by None = refl
      by (Some key) = refl
