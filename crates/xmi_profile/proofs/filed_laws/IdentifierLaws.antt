-- Where no fault stands at a place, the objects have proper identifiers, each its own.
use Rattle.std.proofs.Common.{◌≡◌, ◌≢◌, ℕ, zero, suc, ◌+◌, ◌-◌, ◌^◌, ◌<◌, ◌≤◌, Bool, true, false, List, [], ◌∷◌, ◌++◌, length, get_or, refl, sym, ◌∙◌, ap, arith, subst, inl, inr, None, Some}
use Rattle.std.specs.Prelude.{◌==◌, ◌||◌, ◌&&◌, not, is_some, filter, codes, slice_get, All, AllPairs, Contains, Option, if◌then◌else◌}
use Rattle.std.specs.Fmt.{decimal}
use Rattle.std.specs.Int.{IsInRange}
use Rattle.std.specs.List.{list_any}
use Rattle.std.specs.Option.{unwrap_or}
use Rattle.std.proofs.lemmas.Bool.{true≢false, cases_lt, le-leb, ne_eqb}
use Rattle.std.proofs.lemmas.Fmt.{digits_decimal}
use Rattle.std.proofs.lemmas.List.{length-append}
use Rattle.std.proofs.lemmas.List.Elements.{All-nil, All-cons, All-append, All-head, All-tail}
use Rattle.std.proofs.lemmas.List.Kept.{AllPairs-cons, AllPairs-filter}
use Rattle.std.proofs.lemmas.Option.{slice_get_within, slice_get-get_or, get_or_from_slice_get, none-some}
use Rattle.std.proofs.lemmas.Str.Parse.{IsDigitsTest, numerals_by_value}
use Rattle.object_tables.specs.declared.limit.TheConstants.{MAX_OBJECTS}
use Rattle.mof_metamodel.specs.Characters.{same_name, is_blank, is_storable_character, is_storable_text, is_identifier_text}
use Rattle.mof_metamodel.proofs.SearchLemmas.{true_same}
use Rattle.model_assembly.specs.declared.fault.ModelFault.{ModelFault}
use Rattle.model_assembly.specs.declared.fault.ModelFault.TheVariants as faults
use Rattle.model_assembly.specs.Attributes.{written_id}
use Rattle.model_assembly.specs.declared.role.Role.{Role}
use Rattle.model_assembly.specs.declared.role.ObjectRole.{ObjectRole}
use Rattle.model_assembly.specs.declared.role.Role.TheVariants.{Document, Skipped, AnObject, AValue, AReference, Neither, Alien, Stranger, Misplaced}
use Rattle.model_assembly.specs.Elements.{Item, object_of, is_object, object_items}
use Rattle.model_assembly.specs.Faults.{StandsAt}
use Rattle.model_assembly.specs.Judged.{IsWrong, id_place}
use Rattle.model_assembly.specs.Source.{Source, all_items, given_id, ids_from, file_ids, is_added, added_names, all_ids, object_count, uses, primitive_class}
use Rattle.xmi_profile.proofs.filed_laws.FiledLaws.{get_right, in_any}
use Rattle.model_assembly.proofs.assembling.ListLaws.{in_tail}
use Rattle.mof_metamodel.proofs.Facts.{contains_first}
use Rattle.mof_metamodel.proofs.Facts.{contains_at}

-- ---- an identifier that is given

abbrev Digits : List ℕ → Type 0
Digits [] = Unit {0}
Digits (c ∷ cs) = IsInRange 48 57 c × Digits cs

digits_test : IsDigitsTest Digits
digits_test = record { empty = tt; parts = λ c cs p. p; more = λ c cs r p. (r, p) }

digits_of : (n : ℕ) → n < 2 ^ 64 → Digits (decimal n)
digits_of n h = digits_decimal (numerals_by_value Digits digits_test) n h

or_true : (a : Bool) → (a || true) ≡ true
or_true true = refl
or_true false = refl

abbrev is_break : ℕ → Bool
is_break c = (c == 9) || (c == 10) || (c == 13)

storable_digit : (c : ℕ) → IsInRange 48 57 c → is_storable_character c ≡ true
storable_digit c r =
    let a = r.0 in
    let b = r.1 in
    ap (λ (x : Bool). is_break c || (x && not (c == 0xfffe) && not (c == 0xffff))) (le-leb 32 c (omega (arith, a)))
    ∙ ap (λ (x : Bool). is_break c || (not x && not (c == 0xffff))) (ne_eqb c 0xfffe (λ e. omega (arith, e, b)))
    ∙ ap (λ (x : Bool). is_break c || not x) (ne_eqb c 0xffff (λ e. omega (arith, e, b)))
    ∙ or_true (is_break c)

no_blank_digit : (c : ℕ) → IsInRange 48 57 c → is_blank c ≡ false
no_blank_digit c r =
    let a = r.0 in
    ap (λ (x : Bool). x || (c == 9) || (c == 10) || (c == 13)) (ne_eqb c 32 (λ e. omega (arith, e, a)))
    ∙ ap (λ (x : Bool). x || (c == 10) || (c == 13)) (ne_eqb c 9 (λ e. omega (arith, e, a)))
    ∙ ap (λ (x : Bool). x || (c == 13)) (ne_eqb c 10 (λ e. omega (arith, e, a)))
    ∙ ne_eqb c 13 (λ e. omega (arith, e, a))

storable_digits : (cs : List ℕ) → Digits cs → is_storable_text cs ≡ true
storable_digits [] d = refl
storable_digits (c ∷ cs) d = ap (λ (x : Bool). x && is_storable_text cs) (storable_digit c d.0) ∙ storable_digits cs d.1

no_blank_digits : (cs : List ℕ) → Digits cs → list_any is_blank cs ≡ false
no_blank_digits [] d = refl
no_blank_digits (c ∷ cs) d = ap (λ (x : Bool). x || list_any is_blank cs) (no_blank_digit c d.0) ∙ no_blank_digits cs d.1

has_character : (c : ℕ) (t : List ℕ) → (length (c ∷ t) == 0) ≡ false
has_character c t = ne_eqb (length (c ∷ t)) 0 (λ e. omega (arith, e))

given_proper : (n : ℕ) → n < 2 ^ 64 → is_identifier_text (given_id n) ≡ true
given_proper n h =
    let d = digits_of n h in
    ap (λ (x : Bool). x && not (list_any is_blank (given_id n)) && not (length (given_id n) == 0)) (storable_digits (decimal n) d)
    ∙ ap (λ (x : Bool). not x && not (length (given_id n) == 0)) (no_blank_digits (decimal n) d)
    ∙ ap (λ (x : Bool). not x) (has_character 95 (decimal n))

-- ---- lists

ids_at : (number : ℕ) (items : List Item) (o : ℕ) (id : List ℕ) → slice_get (ids_from number items) o ≡ Some id
    → (item : Item) × (slice_get items o ≡ Some item) × (id ≡ unwrap_or (written_id item.attrs) (given_id (number + o)))
ids_at number [] o id e = absurd (none-some id e)
ids_at number (item ∷ items) zero id e =
    let z : number ≡ number + 0 = omega arith in
    (item, refl, sym (ap (λ (x : Option (List ℕ)). unwrap_or x id) e) ∙ ap (λ (k : ℕ). unwrap_or (written_id item.attrs) (given_id k)) z)
ids_at number (item ∷ items) (suc o) id e =
    let r = ids_at (suc number) items o id e in
    let z : suc number + o ≡ number + suc o = omega arith in
    (r.0, r.1, r.2 ∙ ap (λ (k : ℕ). unwrap_or (written_id r.0.attrs) (given_id k)) z)

in_filter : {X : Type 0} (f : X → Bool) (xs : List X) (j : ℕ) (x : X) → slice_get (filter f xs) j ≡ Some x → Contains xs x × (f x ≡ true)
in_filter f [] j x e = absurd (none-some x e)
in_filter {X = X} f (y ∷ ys) j x e = by (f y) refl j e (λ i g. in_filter f ys i x g)
  where
    by : (b : Bool) → f y ≡ b → (i : ℕ) → slice_get (if b then y ∷ filter f ys else filter f ys) i ≡ Some x
        → ((k : ℕ) → slice_get (filter f ys) k ≡ Some x → Contains ys x × (f x ≡ true)) → Contains (y ∷ ys) x × (f x ≡ true)
    by true h zero g more =
        let same : y ≡ x = ap (λ (o : Option X). unwrap_or o y) g in (subst (λ (z : X). Contains (y ∷ ys) z) same (contains_first y ys), ap f (sym same) ∙ h)
    by true h (suc i) g more = let r = more i g in (in_tail y ys x r.0, r.1)
    by false h i g more = let r = more i g in (in_tail y ys x r.0, r.1)

get_first : {X : Type 0} (xs ys : List X) (i : ℕ) → i < length xs → slice_get (xs ++ ys) i ≡ slice_get xs i
get_first [] ys i l = absurd (omega (arith, l))
get_first (x ∷ xs) ys zero l = refl
get_first (x ∷ xs) ys (suc i) l = get_first xs ys i (omega (arith, l))

all_by : {X : Type 0} (P : X → Type 0) (xs : List X) → ((i : ℕ) (x : X) → slice_get xs i ≡ Some x → P x) → All P xs
all_by P [] f = All-nil P
all_by P (x ∷ xs) f = All-cons P x xs (f 0 x refl) (all_by P xs (λ i y e. f (suc i) y e))

object_role_of : (role : Role) → is_some (object_of role) ≡ true → (object : ObjectRole) × (role ≡ AnObject object)
object_role_of Document h = absurd (true≢false (sym h))
object_role_of Skipped h = absurd (true≢false (sym h))
object_role_of (AnObject object) h = (object, refl)
object_role_of (AValue o p) h = absurd (true≢false (sym h))
object_role_of (AReference o p target) h = absurd (true≢false (sym h))
object_role_of (Neither o p) h = absurd (true≢false (sym h))
object_role_of Alien h = absurd (true≢false (sym h))
object_role_of (Stranger o) h = absurd (true≢false (sym h))
object_role_of (Misplaced o p) h = absurd (true≢false (sym h))

-- the three names
abbrev three : List (List ℕ)
three = codes "String" ∷ codes "Integer" ∷ codes "Boolean" ∷ []

names_differ : (a b : List ℕ) → same_name a b ≡ false → a ≢ b
names_differ a b f e = true≢false (sym (true_same a b e) ∙ f)

abbrev Differ : List ℕ → List ℕ → Type 0
Differ x y = x ≢ y

three_differ : AllPairs Differ three
three_differ =
    AllPairs-cons Differ (codes "String") (codes "Integer" ∷ codes "Boolean" ∷ [])
    (All-cons (Differ (codes "String")) (codes "Integer") (codes "Boolean" ∷ []) (names_differ (codes "String") (codes "Integer") refl)
    (All-cons (Differ (codes "String")) (codes "Boolean") [] (names_differ (codes "String") (codes "Boolean") refl) (All-nil (Differ (codes "String")))))
    (AllPairs-cons Differ (codes "Integer") (codes "Boolean" ∷ [])
    (All-cons (Differ (codes "Integer")) (codes "Boolean") [] (names_differ (codes "Integer") (codes "Boolean") refl) (All-nil (Differ (codes "Integer"))))
    (AllPairs-cons Differ (codes "Boolean") [] (All-nil (Differ (codes "Boolean"))) (λ i j d l k. absurd (omega (arith, k)))))

abbrev Proper : List ℕ → Type 0
Proper id = is_identifier_text id ≡ true

filter_all : {X : Type 0} (P : X → Type 0) (f : X → Bool) (xs : List X) → All P xs → All P (filter f xs)
filter_all P f [] a = a
filter_all P f (x ∷ xs) a = by (f x) (filter_all P f xs (All-tail P x xs a))
  where
    by : (b : Bool) → All P (filter f xs) → All P (if b then x ∷ filter f xs else filter f xs)
    by true h = All-cons P x (filter f xs) (All-head P x xs a) h
    by false h = h

middle_false : (a b c : Bool) → (a && (not b && c)) ≡ true → b ≡ false
middle_false true false c h = refl
middle_false true true c h = absurd (true≢false (sym h))
middle_false false b c h = absurd (true≢false (sym h))

-- ---- of a source

module _ (s : Source) (none : (fault : ModelFault) (place : ℕ) → ¬ StandsAt s fault place) (fewer : object_count s ≤ MAX_OBJECTS) where
  abbrev objects : List Item
  objects = object_items (all_items s)

  small : (o : ℕ) → o < length (file_ids s) → o < 2 ^ 64
  small o l = let a = length-append (file_ids s) (added_names s) in omega (arith, l, a, fewer)

  written_proper : (item : Item) (w : List ℕ) → Contains (all_items s) item → is_object item ≡ true → written_id item.attrs ≡ Some w → is_identifier_text w ≡ true
  written_proper item w c h e = by (is_identifier_text w) refl
    where
      object : (object : ObjectRole) × (item.role ≡ AnObject object)
      object = object_role_of item.role h

      by : (b : Bool) → is_identifier_text w ≡ b → b ≡ true
      by true f = refl
      by false f =
          absurd
          (none (faults.WrongValue (given_id object.0.number) None) (id_place item) (
            item,
            c,
            subst (λ (role : Role). IsWrong s item role (id_place item) (given_id object.0.number) None) (sym object.1)
                (inl (record { written = w; found = e; wrong = f; place_is = refl; id_is = refl; prop_is = refl })),
          ))

  file_proper : (o : ℕ) (id : List ℕ) → slice_get (file_ids s) o ≡ Some id → Proper id
  file_proper o id e =
      let r = ids_at 0 objects o id e in
      let c = in_filter is_object (all_items s) o r.0 r.1 in
      by r.0 c.0 c.1 r.2 (written_id r.0.attrs) refl
    where
      by : (item : Item) → Contains (all_items s) item → is_object item ≡ true → id ≡ unwrap_or (written_id item.attrs) (given_id (0 + o)) → (w : Option (List ℕ)) → written_id item.attrs ≡ w → Proper id
      by item c h i None f =
          let z : 0 + o ≡ o = omega arith in
          ap is_identifier_text (i ∙ ap (λ (x : Option (List ℕ)). unwrap_or x (given_id (0 + o))) f ∙ ap given_id z)
          ∙ given_proper o (small o (slice_get_within (file_ids s) o id e))
      by item c h i (Some w) f =
          ap is_identifier_text (i ∙ ap (λ (x : Option (List ℕ)). unwrap_or x (given_id (0 + o))) f) ∙ written_proper item w c h f

  pub ids_proper : All Proper (all_ids s)
  ids_proper =
      All-append Proper (file_ids s) (added_names s) (all_by Proper (file_ids s) file_proper)
      (filter_all Proper (is_added s) three
      (All-cons Proper (codes "String") (codes "Integer" ∷ codes "Boolean" ∷ []) refl
      (All-cons Proper (codes "Integer") (codes "Boolean" ∷ []) refl (All-cons Proper (codes "Boolean") [] refl (All-nil Proper)))))

  file_apart : (i j : ℕ) (id : List ℕ) → i < j → slice_get (file_ids s) i ≡ Some id → slice_get (file_ids s) j ≡ Some id → ⊥
  file_apart i j id l e f =
      let r = ids_at 0 objects j id f in
      none (faults.DuplicateId id) (id_place r.0)
      (record { object = j; item = r.0; item_is = r.1; id_is = f; earlier = i; before = l; same = e; place_is = refl })

  added_apart : (i j : ℕ) (id : List ℕ) → slice_get (file_ids s) i ≡ Some id → slice_get (added_names s) j ≡ Some id → ⊥
  added_apart i j id e f =
      let a = in_filter (is_added s) three j id f in
      let here = in_any (same_name id) (file_ids s) id (contains_at (file_ids s) i id e) (true_same id id refl) in
      true≢false (sym here ∙ added_out id a.1)
    where
      added_out : (name : List ℕ) → is_added s name ≡ true → list_any (same_name name) (file_ids s) ≡ false
      added_out name h =
          middle_false (list_any (λ (item : Item). uses name item.role) (all_items s)) (list_any (same_name name) (file_ids s)) (is_some (primitive_class s.meta)) h

  names_apart : (i j : ℕ) (id : List ℕ) → i < j → slice_get (added_names s) i ≡ Some id → slice_get (added_names s) j ≡ Some id → ⊥
  names_apart i j id l e f =
      AllPairs-filter Differ (is_added s) three three_differ i j id l (slice_get_within (added_names s) j id f)
      (get_or_from_slice_get (added_names s) i id id e ∙ sym (get_or_from_slice_get (added_names s) j id id f))

  behind : (k : ℕ) (id : List ℕ) → length (file_ids s) ≤ k → slice_get (all_ids s) k ≡ Some id → slice_get (added_names s) (k - length (file_ids s)) ≡ Some id
  behind k id l e =
      let z : length (file_ids s) + (k - length (file_ids s)) ≡ k = omega (arith, l) in
      sym (get_right (file_ids s) (added_names s) (k - length (file_ids s))) ∙ ap (slice_get (all_ids s)) z ∙ e

  apart : (i j : ℕ) (id : List ℕ) → i < j → slice_get (all_ids s) i ≡ Some id → slice_get (all_ids s) j ≡ Some id → ⊥
  apart i j id l e f = elim (cases_lt j (length (file_ids s))) [
    | inl k ↦ file_apart i j id l (sym (get_first (file_ids s) (added_names s) i (omega (arith, l, k))) ∙ e) (sym (get_first (file_ids s) (added_names s) j k) ∙ f)
    | inr k ↦ elim (cases_lt i (length (file_ids s))) [
      | inl m ↦ added_apart i (j - length (file_ids s)) id (sym (get_first (file_ids s) (added_names s) i m) ∙ e) (behind j id k f)
      | inr m ↦ names_apart (i - length (file_ids s)) (j - length (file_ids s)) id (omega (arith, l, m, k)) (behind i id m e) (behind j id k f)
    ]
  ]

  pub ids_distinct : AllPairs (λ x y. x ≢ y) (all_ids s)
  ids_distinct i j d l k same =
      apart i j (get_or (all_ids s) j d) l
      (slice_get-get_or (all_ids s) i d (omega (arith, l, k)) ∙ ap (λ (id : List ℕ). Some id) same)
      (slice_get-get_or (all_ids s) j d k)
