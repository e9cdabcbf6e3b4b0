-- Identifiers that no object of the target has: the next one, and that those found so are the first.
use Rattle.std.specs.Prelude.{◌≡◌, ◌≢◌, ◌<◌, ◌≤◌, ◌+◌, ◌-◌, ◌^◌, ℕ, zero, suc, Bool, true, false, not, cond, List, [], ◌∷◌, ◌++◌, map, length, take, Option, None, Some, Contains}
use Rattle.std.specs.List.{range_with_len}
use Rattle.std.specs.Option.{option_map}
use Rattle.std.specs.Cmp.Lexicographic.{bytes_decides}
use Rattle.std.proofs.Common.{refl, ap, sym, ◌∙◌, subst, arith, inl, inr}
use Rattle.std.proofs.lemmas.Bool.{cases_lt}
use Rattle.std.proofs.lemmas.List.{append-nil, append_assoc, get_or_default, length-map, length-take, take_all, take-append-le}
use Rattle.std.proofs.lemmas.List.FromFn.{length-range_with_len, filter_of_map_range_with_len_more}
use Rattle.std.proofs.lemmas.List.Sums.{length-filter, count_by-le-length}
use Rattle.mof_metamodel.specs.Characters.{same_name}
use Rattle.object_tables.specs.Objects.{Object}
use Rattle.object_tables.specs.Models.{ModelData, object_at, id_at}
use Rattle.object_tables.proofs.ListLemmas.{Contains-from_map}
use Rattle.repair_semantics.specs.CandidateObjects.{fresh_id, has_id, is_used, unused_ids}
use Rattle.candidate_laws.proofs.Lists.{none_passes, from_filter, within_range}
use Rattle.candidate_laws.proofs.IdentifierLaws.{fresh_ids_differ, enough_ids}
use Rattle.made_objects.specs.Headers.{unused_below, IsNextUnused}
use Rattle.made_objects.specs.declared.identifiers.Unused.{Unused}

-- ---- whether an object has an identifier

module _ (m : ModelData) where
  pub unused : (id : List ℕ) → ((o : ℕ) → id_at m o ≢ Some id) → is_used m id ≡ false
  unused id none = none_passes (has_id id) m.objects each
    where
      named : (o : ℕ) (x : Option Object) → object_at m o ≡ x → has_id id x ≡ false
      named o None is = refl
      named o (Some ob) is = by (same_name id ob.id) refl
        where
          by : (b : Bool) → same_name id ob.id ≡ b → b ≡ false
          by false h = refl
          by true h = absurd (none o (ap (option_map (λ (x : Object). x.id)) is ∙ ap (λ z. Some z) (sym ((bytes_decides id ob.id).0 h))))

      each : (x : Option Object) → Contains m.objects x → has_id id x ≡ false
      each x (k, within, is) = named k x (get_or_default m.objects k None x within ∙ is)

  -- ---- one more number

  more_below : (n : ℕ) → unused_below m (n + 1) ≡ unused_below m n ++ cond (not (is_used m (fresh_id n))) (fresh_id n ∷ []) []
  more_below n = filter_of_map_range_with_len_more (λ id. not (is_used m id)) fresh_id 0 n n (omega arith)

  pub passed_over : (n : ℕ) → is_used m (fresh_id n) ≡ true → unused_below m (n + 1) ≡ unused_below m n
  passed_over n h = more_below n ∙ ap (λ b. unused_below m n ++ cond (not b) (fresh_id n ∷ []) []) h ∙ append-nil (unused_below m n)

  pub one_more : (n : ℕ) → is_used m (fresh_id n) ≡ false → unused_below m (n + 1) ≡ unused_below m n ++ fresh_id n ∷ []
  one_more n h = more_below n ∙ ap (λ b. unused_below m n ++ cond (not b) (fresh_id n ∷ []) []) h

  -- ---- how many there are

  -- there are no more than numbers
  few_below : (n : ℕ) → length (unused_below m n) ≤ n
  few_below n =
      let passed = length-filter (λ id. not (is_used m id)) (map fresh_id (range_with_len 0 n)) in
      let some = count_by-le-length (λ id. not (is_used m id)) (map fresh_id (range_with_len 0 n)) in
      let all = length-map (range_with_len 0 n) fresh_id in
      let numbers = length-range_with_len 0 n in
      omega (arith, passed, some, all, numbers)

  -- all but as many as there are objects
  pub enough_below : (n : ℕ) → n ≤ 2 ^ 64 → n ≤ length (unused_below m n) + length m.objects
  enough_below n few = elim (cases_lt n (length m.objects)) [
    | inl less ↦ omega (arith, less)
    | inr more ↦ (
        let count : ℕ = n - length m.objects in
        let all : count + length m.objects ≡ n = omega (arith, more) in
        let enough : length (take count (unused_below m (count + length m.objects))) ≡ count = enough_ids m count (omega (arith, all, few)) in
        let cut = length-take count (unused_below m (count + length m.objects)) in
        let many : count ≤ length (unused_below m (count + length m.objects)) = omega (arith, enough, cut) in
        let whole : count ≤ length (unused_below m n) = subst (λ k. count ≤ length (unused_below m k)) all many in
        omega (arith, whole, all))
  ]

  -- of one more number than there are objects one is unused
  pub not_all_used : (from : ℕ) → from + length m.objects + 1 ≤ 2 ^ 64 → unused_below m (from + length m.objects + 1) ≡ unused_below m from → ⊥
  not_all_used from few same =
      let enough = enough_below (from + length m.objects + 1) few in
      let less = few_below from in
      let counts : length (unused_below m (from + length m.objects + 1)) ≡ length (unused_below m from) =
      ap (λ (ids : List (List ℕ)). length ids) same in
      omega (arith, enough, less, counts)

  -- ---- those found so are the first

  -- more numbers only add identifiers behind
  grown_below : (n d : ℕ) → (more : List (List ℕ)) × (unused_below m (n + d) ≡ unused_below m n ++ more)
  grown_below n zero = ([], ap (unused_below m) (n_zero n) ∙ sym (append-nil (unused_below m n)))
    where
      n_zero : (n : ℕ) → n + 0 ≡ n
      n_zero n = omega arith
  grown_below n (suc d) =
      let (more, is) = grown_below n d in
      let next : n + suc d ≡ (n + d) + 1 = omega arith in
      let last : List (List ℕ) = cond (not (is_used m (fresh_id (n + d)))) (fresh_id (n + d) ∷ []) [] in
      (more ++ last, ap (unused_below m) next ∙ more_below (n + d) ∙ ap (λ ids. ids ++ last) is ∙ append_assoc (unused_below m n) more last)

  pub found_first : (count n : ℕ) → length (unused_below m n) ≡ count → n ≤ 2 ^ 64 → unused_ids m count ≡ unused_below m n
  found_first count n found few =
      let enough = enough_below n few in
      let all : n + (count + length m.objects - n) ≡ count + length m.objects = omega (arith, enough, found) in
      let (more, is) = grown_below n (count + length m.objects - n) in
      ap (λ k. take count (unused_below m k)) (sym all)
      ∙ ap (take count) is
      ∙ take-append-le count (unused_below m n) more (omega (arith, found))
      ∙ take_all count (unused_below m n) (omega (arith, found))

  -- ---- each is unused, and none is a later one

  pub not_later : (n k : ℕ) (id : List ℕ) → n ≤ k → k < 2 ^ 64 → Contains (unused_below m n) id → id ≢ fresh_id k
  not_later n k id past few there same =
      let passed = from_filter (λ i. not (is_used m i)) (map fresh_id (range_with_len 0 n)) id there in
      let (j, listed, is) = Contains-from_map fresh_id (range_with_len 0 n) id passed.0 in
      let bounds = within_range 0 n j listed in
      let one : j ≡ k = fresh_ids_differ j k (let b = bounds.1 in omega (arith, b, past, few)) few (is ∙ same) in
      let b = bounds.1 in
      omega (arith, b, past, one)

-- the identifier is found where all before are passed over
pub next_found : (m : ModelData) (from place : ℕ) (found : Unused) → from ≤ place → place ≤ from + length m.objects
    → found.next ≡ place + 1 → found.id ≡ fresh_id place → is_used m found.id ≡ false → unused_below m place ≡ unused_below m from
    → IsNextUnused m from found
next_found m from place found after within is named free passed = record {
  place = place;
  from_there = after;
  within = within;
  next = is;
  id = named;
  unused = free;
  ids = ap (unused_below m) is ∙ one_more m place (ap (is_used m) (sym named) ∙ free) ∙ ap (λ ids. ids ++ fresh_id place ∷ []) passed
      ∙ ap (λ one. unused_below m from ++ one ∷ []) (sym named);
}
