-- The identifiers of fresh objects: no object of the target has one, no two are one, and each is one that an object may have.
use Rattle.std.specs.Prelude.{◌≡◌, ◌≢◌, ◌⊎◌, ◌<◌, ◌≤◌, ◌+◌, ◌^◌, ◌%◌, ◌==◌, ◌&&◌, ℕ, suc, Bool, true, false, not, List, [], ◌∷◌, ◌++◌, map, length, Contains, IsTrue}
use Rattle.std.specs.List.{filter, list_all, list_any, range_with_len}
use Rattle.std.specs.Fmt.{decimal}
use Rattle.std.proofs.Common.{refl, ap, sym, ◌∙◌, arith, inl, inr}
use Rattle.std.proofs.lemmas.Bool.Decides.{nat_tests}
use Rattle.std.proofs.lemmas.Fmt.{decimal_by_steps}
use Rattle.std.proofs.lemmas.List.Elements.{Contains-append_cases}
use Rattle.mof_metamodel.specs.Characters.{is_blank, is_storable_character, is_identifier_text}
use Rattle.mof_metamodel.proofs.Facts.{only_one}
use Rattle.object_tables.specs.Models.{ModelData}
use Rattle.object_tables.proofs.ListLemmas.{Contains-from_map}
use Rattle.repair_semantics.specs.CandidateObjects.{fresh_id, is_used, unused_ids}
use Rattle.candidate_laws.proofs.Lists.{here_or_later, all_pass, none_passes, from_filter, in_taken, AllLater, later_filter, later_map, later_take, within_range, range_later}
use Rattle.candidate_laws.proofs.IdentifierLaws.{fresh_ids_differ}

not_true : (b : Bool) → not b ≡ true → b ≡ false
not_true false h = refl
not_true true h = sym h

-- ---- their characters

-- a letter n or a digit
abbrev IsPlain : ℕ → Type 0
IsPlain c = (c ≡ 110) ⊎ ((48 ≤ c) × (c ≤ 57))

digits_plain : (n : ℕ) → n < 2 ^ 64 → (c : ℕ) → Contains (decimal n) c → (48 ≤ c) × (c ≤ 57)
digits_plain = decimal_by_steps (λ n ds. (c : ℕ) → Contains ds c → (48 ≤ c) × (c ≤ 57)) one more
  where
    one : (n : ℕ) → n < 10 → (c : ℕ) → Contains ((48 + n) ∷ []) c → (48 ≤ c) × (c ≤ 57)
    one n few c there = let same = only_one (48 + n) c there in (omega (arith, same), omega (arith, same))

    more : (n : ℕ) (ds : List ℕ) → 10 ≤ n → ((c : ℕ) → Contains ds c → (48 ≤ c) × (c ≤ 57)) → (c : ℕ) → Contains (ds ++ ((48 + n % 10) ∷ [])) c
        → (48 ≤ c) × (c ≤ 57)
    more n ds many rest c there = elim (Contains-append_cases ds ((48 + n % 10) ∷ []) c there) [
      | inl before ↦ rest c before
      | inr last ↦ (let same = only_one (48 + n % 10) c last in (omega (arith, same), omega (arith, same)))
    ]

plain : (k c : ℕ) → k < 2 ^ 64 → Contains (fresh_id k) c → IsPlain c
plain k c few there = elim (here_or_later 110 c (decimal k) there) [
  | inl same ↦ inl (sym same)
  | inr later ↦ inr (digits_plain k few c later)
]

storable : (c : ℕ) → IsPlain c → is_storable_character c ≡ true
storable c (inl h) = ap is_storable_character h
storable c (inr (low, high)) = grind (arith, nat_tests)

not_blank : (c : ℕ) → IsPlain c → is_blank c ≡ false
not_blank c (inl h) = ap is_blank h
not_blank c (inr (low, high)) = grind (arith, nat_tests)

not_empty : (n : ℕ) → (suc n == 0) ≡ false
not_empty n = grind (arith, nat_tests)

pub fresh_id_text : (k : ℕ) → k < 2 ^ 64 → IsTrue (is_identifier_text (fresh_id k))
fresh_id_text k few =
    let stored : list_all is_storable_character (fresh_id k) ≡ true = all_pass is_storable_character (fresh_id k)
    (λ c there. storable c (plain k c few there)) in
    let unbroken : list_any is_blank (fresh_id k) ≡ false = none_passes is_blank (fresh_id k) (λ c there. not_blank c (plain k c few there)) in
    ap (λ b. b && not (list_any is_blank (fresh_id k)) && not (length (fresh_id k) == 0)) stored
    ∙ ap (λ b. true && not b && not (length (fresh_id k) == 0)) unbroken
    ∙ ap not (not_empty (length (decimal k)))

-- ---- all of them

module _ (m : ModelData) (count : ℕ) (few : count + length m.objects ≤ 2 ^ 64) where
  abbrev numbers : List ℕ
  numbers = range_with_len 0 (count + length m.objects)

  -- each is unused, and one of n0, n1, ..
  pub record IsFreshId (id : List ℕ) : Type 0 where
    pub unused : is_used m id ≡ false
    pub number : ℕ
    pub below : number < 2 ^ 64
    pub is : fresh_id number ≡ id

  pub fresh_id_of : (id : List ℕ) → Contains (unused_ids m count) id → IsFreshId id
  fresh_id_of id there =
      let passed = from_filter (λ i. not (is_used m i)) (map fresh_id numbers) id
      (in_taken count (filter (λ i. not (is_used m i)) (map fresh_id numbers)) id there) in
      let (k, listed, is) = Contains-from_map fresh_id numbers id passed.0 in
      let bounds = within_range 0 (count + length m.objects) k listed in
      record { unused = not_true (is_used m id) passed.1; number = k; below = omega (arith, few, bounds.1); is = is }

  -- no two are one
  pub ids_once : AllLater (λ (x y : List ℕ). x ≢ y) (unused_ids m count)
  ids_once =
      later_take (λ (x y : List ℕ). x ≢ y) count (filter (λ i. not (is_used m i)) (map fresh_id numbers))
      (later_filter (λ (x y : List ℕ). x ≢ y) (λ i. not (is_used m i)) (map fresh_id numbers)
      (later_map (λ (i j : ℕ). i < j) (λ (x y : List ℕ). x ≢ y) fresh_id numbers apart (range_later 0 (count + length m.objects))))
    where
      apart : (i j : ℕ) → Contains numbers i → Contains numbers j → i < j → fresh_id i ≢ fresh_id j
      apart i j a b less same =
          let first = within_range 0 (count + length m.objects) i a in
          let second = within_range 0 (count + length m.objects) j b in
          let one : i ≡ j = fresh_ids_differ i j (omega (arith, few, first.1)) (omega (arith, few, second.1)) same in
          omega (arith, less, one)
