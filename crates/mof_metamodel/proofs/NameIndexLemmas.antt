-- Names by their places: one more name, and what stands beside a name.
use Rattle.std.proofs.Common.{◌≡◌, ℕ, suc, ◌+◌, ◌<◌, ◌≤◌, List, [], ◌∷◌, ◌++◌, Bool, true, false, cond, refl, sym, ◌∙◌, ap, subst, arith, length, get_or, map, not, inl, inr, ◌⊎◌}
use Rattle.std.specs.Prelude.{nat_eq, chars, position, Option, Some, None, is_some, String, string_bytes, All, nat_lt, IfSome}
use Rattle.std.specs.String.{string_cmp}
use Rattle.std.specs.List.{position_or_len, range_with_len, slice_get, zip}
use Rattle.std.specs.Map.{lookup, values_of}
use Rattle.std.specs.Option.{option_or}
use Rattle.std.specs.Ordering.{is_eq, match_ordering, nat_cmp}
use Rattle.std.specs.declared.cmp.Ordering.{Ordering}
use Rattle.std.specs.declared.cmp.Ordering.TheVariants.{Less, Equal, Greater}
use Rattle.std.specs.BTreeMap.{insert_entry, is_at}
use Rattle.std.specs.Cmp.Lexicographic.{slice_cmp, same_text}
use Rattle.std.specs.Str.{IsUtf8}
use Rattle.std.proofs.lemmas.Map.Text.{is_eq-slice_cmp}
use Rattle.std.proofs.lemmas.Str.{IsUtf8-string_bytes}
use Rattle.std.proofs.lemmas.Bool.Decides.{nat_tests}
use Rattle.std.proofs.lemmas.List.FromFn.{length-map-range_with_len, map-range_with_len_more}
use Rattle.std.proofs.lemmas.List.Elements.{All-weaker, All-head, All-tail}
use Rattle.std.proofs.lemmas.Map.Views.{All-values-insert_entry}
use Rattle.std.proofs.lemmas.Option.{slice_get_past, slice_get_read, slice_get_cases, get_or_from_slice_get}
use Rattle.std.proofs.lemmas.Slice.Zip.{firsts-zip, length-zip}
use Rattle.mof_metamodel.specs.Characters.{same_name}
use Rattle.mof_metamodel.specs.NameTables.{name_at, names_in, place_in, IsIndex, number_of, value_of}
use Rattle.mof_metamodel.proofs.NameLemmas.{named_bytes, lookup-agree, position_push}
use Rattle.mof_metamodel.proofs.TableLemmas.{table_agree}

-- a name is looked up among strings by its bytes, in their order
pub ordered_lookup : {Y : Type 0} (bs : List ℕ) (es : List (String Y × ℕ)) → IsUtf8 bs → lookup (is_at (λ k. slice_cmp nat_cmp bs (string_bytes k))) es ≡ place_in es (chars bs)
ordered_lookup bs es utf8 = lookup-agree _ _ (λ k. is_eq-slice_cmp bs (string_bytes k) ∙ named_bytes bs (string_bytes k) utf8 (IsUtf8-string_bytes k)) es

-- ---- one more name

module _ {Y : Type 0} (key : String Y) (n : ℕ) where
  pub name_at-insert : (i : ℕ) (es : List (String Y × ℕ)) → lookup (is_at (string_cmp key)) es ≡ None → All (λ place. place < n) (values_of es)
      → name_at (insert_entry string_cmp es key n) i ≡ cond (nat_eq n i) (chars (string_bytes key)) (name_at es i)
  name_at-insert i [] absent within = refl
  name_at-insert i (e ∷ es) absent within = by (string_cmp key e.0) absent (λ h. name_at-insert i es h (All-tail (λ place. place < n) e.1 (values_of es) within))
    where
      swapped : (a b : Bool) → (a ≡ true → b ≡ true → n ≡ e.1) → (k x : List ℕ) → cond a x (cond b k (name_at es i)) ≡ cond b k (cond a x (name_at es i))
      swapped true true h k x = absurd (let below = All-head (λ place. place < n) e.1 (values_of es) within in omega (arith, below, h refl refl))
      swapped true false h k x = refl
      swapped false true h k x = refl
      swapped false false h k x = refl

      by : (o : Ordering) → cond (is_eq o) (Some e.1) (lookup (is_at (string_cmp key)) es) ≡ None
          → (lookup (is_at (string_cmp key)) es ≡ None → name_at (insert_entry string_cmp es key n) i ≡ cond (nat_eq n i) (chars (string_bytes key)) (name_at es i))
          → name_at (match_ordering o ((key, n) ∷ e ∷ es) ((e.0, n) ∷ es) (e ∷ insert_entry string_cmp es key n)) i ≡ cond (nat_eq n i) (chars (string_bytes key)) (name_at (e ∷ es) i)
      by Less h rest = refl
      by Equal h rest = absurd cc
      by Greater h rest =
          ap (cond (nat_eq e.1 i) (chars (string_bytes e.0))) (rest h)
          ∙ swapped (nat_eq e.1 i) (nat_eq n i) (λ a b. grind (arith, nat_tests)) (chars (string_bytes key)) (chars (string_bytes e.0))

  pub place_in-insert : (name : List ℕ) (es : List (String Y × ℕ)) → lookup (is_at (string_cmp key)) es ≡ None
      → place_in (insert_entry string_cmp es key n) name ≡ option_or (place_in es name) (cond (same_name name (chars (string_bytes key))) (Some n) None)
  place_in-insert name es absent = from es absent (λ same. sym (lookup-agree _ _ (λ k. alike same k) es) ∙ absent)
    where
      test : String Y → Bool
      test k = same_name name (chars (string_bytes k))

      alike : test key ≡ true → (k : String Y) → is_at (string_cmp key) k ≡ test k
      alike same k =
          is_eq-slice_cmp (string_bytes key) (string_bytes k) ∙ named_bytes (string_bytes key) (string_bytes k) (IsUtf8-string_bytes key) (IsUtf8-string_bytes k)
          ∙ ap (λ a. same_name a (chars (string_bytes k))) (sym (same_text name (chars (string_bytes key)) (sym same)))

      here : (b : Bool) (o : Option ℕ) → (b ≡ true → o ≡ None) → cond b (Some n) o ≡ option_or o (cond b (Some n) None)
      here true o h = sym (ap (λ p. option_or p (Some n)) (h refl))
      here false None h = refl
      here false (Some m) h = refl

      from : (xs : List (String Y × ℕ)) → lookup (is_at (string_cmp key)) xs ≡ None → (test key ≡ true → lookup test xs ≡ None)
          → lookup test (insert_entry string_cmp xs key n) ≡ option_or (lookup test xs) (cond (test key) (Some n) None)
      from [] h free = here (test key) None (λ _. refl)
      from (e ∷ xs) h free = by (string_cmp key e.0) h (from xs)
        where
          later : (b : Bool) → test e.0 ≡ b → (lookup (is_at (string_cmp key)) xs ≡ None → (test key ≡ true → lookup test xs ≡ None) → lookup test (insert_entry string_cmp xs key n) ≡ option_or (lookup test xs) (cond (test key) (Some n) None)) → lookup (is_at (string_cmp key)) xs ≡ None
              → cond b (Some e.1) (lookup test (insert_entry string_cmp xs key n)) ≡ option_or (cond b (Some e.1) (lookup test xs)) (cond (test key) (Some n) None)
          later true is rest k = refl
          later false is rest k = rest k (λ same. sym (ap (λ c. cond c (Some e.1) (lookup test xs)) is) ∙ free same)

          by : (o : Ordering) → cond (is_eq o) (Some e.1) (lookup (is_at (string_cmp key)) xs) ≡ None → (lookup (is_at (string_cmp key)) xs ≡ None → (test key ≡ true → lookup test xs ≡ None) → lookup test (insert_entry string_cmp xs key n) ≡ option_or (lookup test xs) (cond (test key) (Some n) None))
              → lookup test (match_ordering o ((key, n) ∷ e ∷ xs) ((e.0, n) ∷ xs) (e ∷ insert_entry string_cmp xs key n)) ≡ option_or (lookup test (e ∷ xs)) (cond (test key) (Some n) None)
          by Less k rest = here (test key) (lookup test (e ∷ xs)) free
          by Equal k rest = absurd cc
          by Greater k rest = later (test e.0) refl rest k

module _ {Y : Type 0} (key : String Y) (es : List (String Y × ℕ)) (absent : lookup (is_at (string_cmp key)) es ≡ None) (index : IsIndex es)
    (after : List (String Y × ℕ)) (is : after ≡ insert_entry string_cmp es key (length es)) (longer : length after ≡ length es + 1) where
  pub names_more : names_in after ≡ names_in es ++ chars (string_bytes key) ∷ []
  names_more =
      ap (λ m. map (name_at after) (range_with_len 0 m)) longer ∙ map-range_with_len_more (name_at after) 0 (length es) (length es) (omega arith)
      ∙ ap (λ xs. xs ++ name_at after (length es) ∷ []) (table_agree (name_at after) (name_at es) (length es) (λ i l. at i ∙ ap (λ b. cond b (chars (string_bytes key)) (name_at es i)) (apart i l)))
      ∙ ap (λ name. names_in es ++ name ∷ []) (at (length es) ∙ ap (λ b. cond b (chars (string_bytes key)) (name_at es (length es))) (same (length es)))
    where
      at : (i : ℕ) → name_at after i ≡ cond (nat_eq (length es) i) (chars (string_bytes key)) (name_at es i)
      at i = ap (λ xs. name_at xs i) is ∙ name_at-insert key (length es) i es absent index.within

      apart : (i : ℕ) → i < length es → nat_eq (length es) i ≡ false
      apart i l = grind (arith, nat_tests)

      same : (i : ℕ) → nat_eq i i ≡ true
      same i = grind (arith, nat_tests)

  pub index_more : IsIndex after
  index_more = record {
    within =
        let P : List (String Y × ℕ) → Type 0 = λ xs. All (λ place. place < length after) (values_of xs) in
        subst P (sym is) (All-values-insert_entry string_cmp key (length es) (λ place. place < length after) es (All-weaker (λ place. place < length es) (λ place. place < length after) (λ x l. omega (arith, l, longer)) (values_of es) index.within) (omega (arith, longer)));
    found = λ name.
        ap (λ xs. place_in xs name) is ∙ place_in-insert key (length es) name es absent
        ∙ ap (λ o. option_or o (cond (same_name name (chars (string_bytes key))) (Some (length es)) None)) (index.found name)
        ∙ ap (λ m. option_or (position (same_name name) (names_in es)) (cond (same_name name (chars (string_bytes key))) (Some m) None)) (sym (length-map-range_with_len (name_at es) 0 (length es)))
        ∙ sym (position_push (same_name name) (names_in es) (chars (string_bytes key)))
        ∙ sym (ap (position (same_name name)) names_more);
  }

-- ---- values beside names

pub lookup-zip : {K X : Type 0} (p : K → Bool) (ks : List K) (vs : List X) → length vs ≡ length ks → lookup p (zip ks vs) ≡ slice_get vs (position_or_len p ks)
lookup-zip p [] [] e = refl
lookup-zip p [] (v ∷ vs) e = absurd (omega (arith, e))
lookup-zip p (k ∷ ks) [] e = absurd (omega (arith, e))
lookup-zip p (k ∷ ks) (v ∷ vs) e = by (p k) (lookup-zip p ks vs (omega (arith, e)))
  where
    by : (b : Bool) → lookup p (zip ks vs) ≡ slice_get vs (position_or_len p ks) → cond b (Some v) (lookup p (zip ks vs)) ≡ slice_get (v ∷ vs) (cond (not b) (1 + position_or_len p ks) 0)
    by true rest = refl
    by false rest =
        let next : suc (position_or_len p ks) ≡ 1 + position_or_len p ks = omega arith in
        rest ∙ ap (slice_get (v ∷ vs)) next

-- a place that is found is one of the list's
pub position_within : {X : Type 0} (p : X → Bool) (xs : List X) (o : Option ℕ) → o ≡ position p xs → IfSome o (λ i. i < length xs)
position_within p xs o is = let P : Option ℕ → Type 0 = λ a. IfSome a (λ i. i < length xs) in subst P (sym is) (by (nat_lt (position_or_len p xs) (length xs)) refl)
  where
    by : (b : Bool) → nat_lt (position_or_len p xs) (length xs) ≡ b → IfSome (cond b (Some (position_or_len p xs)) None) (λ i. i < length xs)
    by true l = grind (arith, nat_tests)
    by false l = tt

module _ {X : Type 0} (name : List ℕ) (names : List (List ℕ)) (vs : List X) (same : length vs ≡ length names) where
  pub number_is : number_of (zip names vs) name ≡ position (same_name name) names
  number_is = ap (position (same_name name)) (firsts-zip names vs same)

  pub value_none : position (same_name name) names ≡ None → value_of (zip names vs) name ≡ None
  value_none none = lookup-zip (same_name name) names vs same ∙ slice_get_past vs _ (by (nat_lt (position_or_len (same_name name) names) (length names)) refl none)
    where
      by : (b : Bool) → nat_lt (position_or_len (same_name name) names) (length names) ≡ b → cond b (Some (position_or_len (same_name name) names)) None ≡ None → length vs ≤ position_or_len (same_name name) names
      by true l e = absurd cc
      by false l e = grind (arith, nat_tests)

  pub value_some : (i : ℕ) (v : X) → position (same_name name) names ≡ Some i → v ≡ get_or vs i v → value_of (zip names vs) name ≡ Some v
  value_some i v found r = lookup-zip (same_name name) names vs same ∙ by (nat_lt (position_or_len (same_name name) names) (length names)) refl found
    where
      read : (n : ℕ) → n < length names → n ≡ i → slice_get vs n ≡ Some v
      read n l e = ap (slice_get vs) e ∙ slice_get_read vs (length vs) i v refl (omega (arith, l, e, same)) r

      by : (b : Bool) → nat_lt (position_or_len (same_name name) names) (length names) ≡ b → cond b (Some (position_or_len (same_name name) names)) None ≡ Some i → slice_get vs (position_or_len (same_name name) names) ≡ Some v
      by true l e = read (position_or_len (same_name name) names) (grind (arith, nat_tests)) (cc)
      by false l e = absurd cc

  pub value_is_some : is_some (value_of (zip names vs) name) ≡ is_some (position (same_name name) names)
  value_is_some = by (position (same_name name) names) refl
    where
      by : (o : Option ℕ) → position (same_name name) names ≡ o → is_some (value_of (zip names vs) name) ≡ is_some o
      by None e = ap is_some (value_none e)
      by (Some i) e = some (slice_get vs i) refl
        where
          present : ((x : X) × (i < length vs) × (slice_get vs i ≡ Some x) × (get_or vs i x ≡ x)) ⊎ ((length vs ≤ i) × (slice_get vs i ≡ None)) → slice_get vs i ≡ None → i < length names → ⊥
          present (inl h) k l = let is = h.2 in cc
          present (inr h) k l = let past = h.0 in omega arith

          some : (o : Option X) → slice_get vs i ≡ o → is_some (value_of (zip names vs) name) ≡ true
          some None k = absurd (present (slice_get_cases vs i).1 k (position_within (same_name name) names (Some i) (sym e)))
          some (Some v) k = ap is_some (value_some i v e (sym (get_or_from_slice_get vs i v v k)))

-- one more name with its value
pub zip_more : {K X : Type 0} (ks : List K) (vs : List X) (k : K) (v : X) → length vs ≡ length ks → zip (ks ++ k ∷ []) (vs ++ v ∷ []) ≡ zip ks vs ++ (k, v) ∷ []
zip_more [] [] k v e = refl
zip_more [] (w ∷ vs) k v e = absurd (omega (arith, e))
zip_more (j ∷ ks) [] k v e = absurd (omega (arith, e))
zip_more (j ∷ ks) (w ∷ vs) k v e = ap (λ xs. (j, w) ∷ xs) (zip_more ks vs k v (omega (arith, e)))

pub length-table : {K X : Type 0} (ks : List K) (vs : List X) → length vs ≡ length ks → length (zip ks vs) ≡ length vs
length-table ks vs e = length-zip ks vs ∙ omega (arith, e)
