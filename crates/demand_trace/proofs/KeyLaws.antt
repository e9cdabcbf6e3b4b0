-- The table of keys has the key of each class.
use Rattle.std.specs.Prelude.{◌≡◌, ◌<◌, ◌+◌, ◌&&◌, ◌==◌, ℕ, zero, suc, Bool, true, false, is_some, List, [], ◌∷◌, Option, None, Some, slice_get, set, length, cond, replicate, Contains, if◌then◌else◌}
use Rattle.std.specs.List.{find}
use Rattle.std.specs.Option.{option_map, option_and_then, option_or}
use Rattle.std.proofs.Common.{refl, sym, ap, subst, ◌∙◌, get_or, add-one, drop}
use Rattle.std.proofs.lemmas.Bool.{eqb-true, eqb-false}
use Rattle.std.proofs.lemmas.List.{get_or-set_same, get_or-set_other, length-set, length-replicate, drop_more}
use Rattle.std.proofs.lemmas.Option.{none-some}
use Rattle.mof_metamodel.specs.declared.desc.MetaDesc.{MetaDesc}
use Rattle.mof_metamodel.specs.Metamodels.{class_count}
use Rattle.mof_metamodel.proofs.Facts.{contains_first}
use Rattle.template_match.proofs.ListLaws.{contains_later}
use Rattle.qv_syntax.specs.declared.program.Program.{Program}
use Rattle.qv_syntax.specs.declared.program.Key.{Key}
use Rattle.repair_semantics.specs.TargetItems.{target_meta_number, is_key_of, key_of}
use Rattle.demand_trace.specs.Naming.{Places, place_at, with_first, with_key, with_keys, HasPlace, props_at, AreKeyPlaces}

first_long : (c place : ℕ) (table : Places) → length (with_first c place table) ≡ length table
first_long c place table = by (is_some (place_at table c))
  where
    by : (b : Bool) → length (if b then table else set table c (Some place)) ≡ length table
    by true = refl
    by false = length-set table c (Some place)

pub key_long : (number place : ℕ) (key : Key) (table : Places) → length (with_key number place key table) ≡ length table
key_long number place key table = by (key.meta == number)
  where
    by : (b : Bool) → length (if b then with_first key.class.0 place table else table) ≡ length table
    by true = first_long key.class.0 place table
    by false = refl

or_none : (o : Option ℕ) → o ≡ option_or o None
or_none None = refl
or_none (Some k) = refl

-- what the table says of a class, once a place is given
first_at : (c place : ℕ) (table : Places) (d : ℕ) → c < length table → place_at (with_first c place table) d ≡ option_or (place_at table d) (if c == d then Some place else None)
first_at c place table d within = by (c == d) refl (place_at table c) refl
  where
    by : (b : Bool) → (c == d) ≡ b → (o : Option ℕ) → place_at table c ≡ o
        → place_at (if is_some o then table else set table c (Some place)) d ≡ option_or (place_at table d) (if b then Some place else None)
    by true e (Some k) there =
        let same = eqb-true c d e in
        let here : place_at table d ≡ Some k = ap (place_at table) (sym same) ∙ there in
        here ∙ ap (λ o. option_or o (Some place)) (sym here)
    by true e None there =
        let same = eqb-true c d e in
        let here : place_at table d ≡ None = ap (place_at table) (sym same) ∙ there in
        ap (place_at (set table c (Some place))) (sym same) ∙ get_or-set_same table c (Some place) None within ∙ ap (λ o. option_or o (Some place)) (sym here)
    by false e (Some k) there = or_none (place_at table d)
    by false e None there = get_or-set_other table c d (Some place) None (λ same. eqb-false c d e (sym same)) ∙ or_none (place_at table d)

-- the key is that of the class of the metamodel of this number
abbrev is_of : ℕ → ℕ → Key → Bool
is_of number d key = (key.meta == number) && (key.class.0 == d)

one_at : (number place : ℕ) (key : Key) (table : Places) (d : ℕ) → HasPlace number (length table) key
    → place_at (with_key number place key table) d ≡ option_or (place_at table d) (if is_of number d key then Some place else None)
one_at number place key table d within = by (key.meta == number) refl
  where
    by : (b : Bool) → (key.meta == number) ≡ b
        → place_at (if b then with_first key.class.0 place table else table) d ≡ option_or (place_at table d) (if b && (key.class.0 == d) then Some place else None)
    by true e = first_at key.class.0 place table d (within (eqb-true key.meta number e))
    by false e = or_none (place_at table d)

-- ---- of all keys

abbrev key_at : List Key → Option ℕ → Option Key
key_at keys place = option_and_then (slice_get keys) place

-- the key at a place, or else this one
abbrev found_or : List Key → Option ℕ → Option Key → Option Key
found_or keys None rest = rest
found_or keys (Some k) rest = slice_get keys k

none_else : (keys : List Key) (o : Option ℕ) → key_at keys o ≡ found_or keys o None
none_else keys None = refl
none_else keys (Some k) = refl

nothing_left : (n : ℕ) (key : Key) (keys : List Key) → drop n [] ≡ key ∷ keys → ⊥
nothing_left zero key keys is = none-some key (ap (λ xs. slice_get xs 0) is)
nothing_left (suc n) key keys is = none-some key (ap (λ xs. slice_get xs 0) is)

head_at : (all keys : List Key) (key : Key) (n : ℕ) → drop n all ≡ key ∷ keys → slice_get all n ≡ Some key
head_at [] keys key n is = absurd (nothing_left n key keys is)
head_at (k ∷ all) keys key zero is = ap (λ xs. slice_get xs 0) is
head_at (k ∷ all) keys key (suc n) is = head_at all keys key n is

rest_at : (all keys : List Key) (key : Key) (n : ℕ) → drop n all ≡ key ∷ keys → drop (suc n) all ≡ keys
rest_at [] keys key n is = absurd (nothing_left n key keys is)
rest_at (k ∷ all) keys key zero is = ap (drop 1) is
rest_at (k ∷ all) keys key (suc n) is = rest_at all keys key n is

all_at : (number : ℕ) (all keys : List Key) (n : ℕ) (table : Places) (d : ℕ) → drop n all ≡ keys → ((key : Key) → Contains keys key → HasPlace number (length table) key)
    → key_at all (place_at (with_keys number n keys table) d) ≡ found_or all (place_at table d) (find (is_of number d) keys)
all_at number all [] n table d left within = none_else all (place_at table d)
all_at number all (key ∷ keys) n table d left within =
    all_at number all keys (suc n) (with_key number n key table) d (rest_at all keys key n left)
    (λ k among. subst (λ count. HasPlace number count k) (sym (key_long number n key table)) (within k (contains_later k key keys among)))
    ∙ ap (λ o. found_or all o (find (is_of number d) keys)) (one_at number n key table d (within key (contains_first key keys)))
    ∙ by (place_at table d) (is_of number d key)
  where
    by : (o : Option ℕ) (b : Bool) → found_or all (option_or o (if b then Some n else None)) (find (is_of number d) keys)
        ≡ found_or all o (cond b (Some key) (find (is_of number d) keys))
    by (Some k) b = refl
    by None true = head_at all keys key n left
    by None false = refl

-- the table of all keys has for each class its first
all_there : (number count : ℕ) (keys : List Key) (d : ℕ) → ((key : Key) → Contains keys key → HasPlace number count key)
    → key_at keys (place_at (with_keys number 0 keys (replicate count None)) d) ≡ find (is_of number d) keys
all_there number count keys d within =
    all_at number keys keys 0 (replicate count None) d refl (λ key among. subst (λ n. HasPlace number n key) (sym (length-replicate count None)) (within key among))
    ∙ ap (λ o. found_or keys o (find (is_of number d) keys)) (none_there count d)
  where
    none_there : (count d : ℕ) → place_at (replicate count None) d ≡ None
    none_there zero d = refl
    none_there (suc n) zero = refl
    none_there (suc n) (suc d) = none_there n d

pub places_told : (program : Program) (count : ℕ) → ((key : Key) → Contains program.keys key → HasPlace (target_meta_number program) count key)
    → AreKeyPlaces program (with_keys (target_meta_number program) 0 program.keys (replicate count None))
places_told program count within d = ap (option_map (λ (key : Key). key.props)) (all_there (target_meta_number program) count program.keys d within)

-- ---- the loop

pub place_put : (number : ℕ) (keys : List Key) (k : ℕ) (key : Key) (table start next : Places) → k < length keys → key ≡ get_or keys k key
    → with_keys number k (drop k keys) table ≡ with_keys number 0 keys start → next ≡ with_key number k key table
    → with_keys number (k + 1) (drop (k + 1) keys) next ≡ with_keys number 0 keys start
place_put number keys k key table start next below is kept put =
    ap (with_keys number (k + 1) (drop (k + 1) keys)) put
    ∙ ap (λ (n : ℕ). with_keys number n (drop (k + 1) keys) (with_key number k key table)) (add-one k)
    ∙ sym (ap (λ (ks : List Key). with_keys number k ks table) (drop_more keys k key below ∙ ap (λ x. x ∷ drop (k + 1) keys) (sym is))) ∙ kept

-- ---- the table as it is made

module _ (program : Program) (target : MetaDesc) (number count : ℕ) (keys : List Key) (table : Places) (number_is : number ≡ target_meta_number program) (keys_are : keys ≡ program.keys)
    (count_is : count ≡ class_count target) (empty : table ≡ replicate count None)
    (within : (key : Key) → Contains program.keys key → HasPlace (target_meta_number program) (class_count target) key) where
  pub places_inside : (key : Key) → Contains keys key → HasPlace number (length table) key
  places_inside key among same =
      subst (λ n. key.class.0 < n) (sym (ap (λ (t : Places). length t) empty ∙ length-replicate count None ∙ count_is))
      (within key (subst (λ ks. Contains ks key) keys_are among) (same ∙ number_is))

  pub places_are : (new items : Places) → new ≡ with_keys number 0 keys table → items ≡ new → AreKeyPlaces program items
  places_are new items put written =
      let same : items ≡ with_keys (target_meta_number program) 0 program.keys (replicate count None) =
      written ∙ put ∙ ap (λ n. with_keys n 0 keys table) number_is ∙ ap (λ ks. with_keys (target_meta_number program) 0 ks table) keys_are
      ∙ ap (with_keys (target_meta_number program) 0 program.keys) empty in
      subst (AreKeyPlaces program) (sym same)
      (places_told program count (λ key among. subst (λ n. HasPlace (target_meta_number program) n key) (sym count_is) (within key among)))
