-- As many identifiers as are asked for are unused: each object of a model has one of them at most.
use Rattle.std.specs.Prelude.{◌≡◌, ◌<◌, ◌≤◌, ◌+◌, ◌^◌, ℕ, zero, suc, Bool, true, false, ◌||◌, not, cond, List, [], ◌∷◌, map, length, drop, Option, None, Some, Contains}
use Rattle.std.specs.List.{filter, list_any, range_with_len}
use Rattle.std.proofs.Common.{refl, ap, sym, ◌∙◌, subst, arith, inl, inr, true≢false}
use Rattle.std.specs.Option.{option_map}
use Rattle.std.specs.Cmp.Lexicographic.{bytes_decides}
use Rattle.std.proofs.lemmas.Fmt.{decimal_injective}
use Rattle.std.proofs.lemmas.Bool.{cases_lt}
use Rattle.std.proofs.lemmas.List.{get_or_past, length-take}
use Rattle.std.proofs.lemmas.List.Elements.{Contains-get_or}
use Rattle.std.proofs.lemmas.List.FromFn.{length-range_with_len}
use Rattle.std.proofs.lemmas.Option.{none-some, same_Some}
use Rattle.object_tables.specs.Objects.{Object}
use Rattle.object_tables.specs.Models.{ModelData, object_at, id_at}
use Rattle.template_match.proofs.ListLaws.{any_at}
use Rattle.repair_semantics.specs.CandidateObjects.{fresh_id, has_id, is_used, unused_ids}

-- ---- the identifier of an object is used

pub used : (m : ModelData) (o : ℕ) (id : List ℕ) → id_at m o ≡ Some id → is_used m id ≡ true
used m o id h = of_object (object_at m o) refl h
  where
    of_object : (x : Option Object) → object_at m o ≡ x → option_map (λ (ob : Object). ob.id) x ≡ Some id → is_used m id ≡ true
    of_object None is e = absurd (none-some id e)
    of_object (Some was) is e = elim (cases_lt o (length m.objects)) [
      | inr le ↦ absurd (none-some was (sym (get_or_past m.objects o None le) ∙ is))
      | inl within ↦ any_at (has_id id) m.objects (Some was) ((bytes_decides id was.id).1 (sym (same_Some was.id id e)))
          (subst (Contains m.objects) is (Contains-get_or m.objects o None within))
    ]

-- ---- an object has one identifier

pub fresh_ids_differ : (j k : ℕ) → j < 2 ^ 64 → k < 2 ^ 64 → fresh_id j ≡ fresh_id k → j ≡ k
fresh_ids_differ j k a b h = decimal_injective j k a b (ap (λ (xs : List ℕ). drop 1 xs) h)

one_id : (j k : ℕ) (ob : Option Object) → has_id (fresh_id j) ob ≡ true → has_id (fresh_id k) ob ≡ true → fresh_id j ≡ fresh_id k
one_id j k None h g = absurd (true≢false (sym h))
one_id j k (Some o) h g = (bytes_decides (fresh_id j) o.id).0 h ∙ sym ((bytes_decides (fresh_id k) o.id).0 g)

abbrev with_id : Option Object → ℕ → Bool
with_id ob k = has_id (fresh_id k) ob

none_after : (ob : Option Object) (j a n : ℕ) → j < a → a + n ≤ 2 ^ 64 → with_id ob j ≡ true → filter (with_id ob) (range_with_len a n) ≡ []
none_after ob j a zero before few h = refl
none_after ob j a (suc n) before few h = by (none_after ob j (a + 1) n (omega (arith, before)) (omega (arith, few)) h) (with_id ob a) refl
  where
    by : filter (with_id ob) (range_with_len (a + 1) n) ≡ [] → (b : Bool) → with_id ob a ≡ b
        → cond b (a ∷ filter (with_id ob) (range_with_len (a + 1) n)) (filter (with_id ob) (range_with_len (a + 1) n)) ≡ []
    by later true is = absurd (let same : j ≡ a = fresh_ids_differ j a (omega (arith, before, few)) (omega (arith, few)) (one_id j a ob h is) in omega (arith, before, same))
    by later false is = later

one_at_most : (ob : Option Object) (a n : ℕ) → a + n ≤ 2 ^ 64 → length (filter (with_id ob) (range_with_len a n)) ≤ 1
one_at_most ob a zero few = omega arith
one_at_most ob a (suc n) few = by (one_at_most ob (a + 1) n (omega (arith, few))) (with_id ob a) refl
  where
    by : length (filter (with_id ob) (range_with_len (a + 1) n)) ≤ 1 → (b : Bool) → with_id ob a ≡ b
        → length (cond b (a ∷ filter (with_id ob) (range_with_len (a + 1) n)) (filter (with_id ob) (range_with_len (a + 1) n))) ≤ 1
    by later true is = subst (λ (xs : List ℕ). length (a ∷ xs) ≤ 1) (sym (none_after ob a (a + 1) n (omega arith) (omega (arith, few)) is)) (omega arith)
    by later false is = later

-- ---- how many pass a test

either_count : (p q : ℕ → Bool) (ks : List ℕ) → length (filter (λ k. p k || q k) ks) ≤ length (filter p ks) + length (filter q ks)
either_count p q [] = omega arith
either_count p q (k ∷ ks) = step (p k) (q k) (either_count p q ks)
  where
    step : (b c : Bool) → length (filter (λ k. p k || q k) ks) ≤ length (filter p ks) + length (filter q ks)
        → length (cond (b || c) (k ∷ filter (λ k. p k || q k) ks) (filter (λ k. p k || q k) ks)) ≤ length (cond b (k ∷ filter p ks) (filter p ks)) + length (cond c (k ∷ filter q ks) (filter q ks))
    step true true h = omega (arith, h)
    step true false h = omega (arith, h)
    step false true h = omega (arith, h)
    step false false h = h

both_count : (p : ℕ → Bool) (ks : List ℕ) → length (filter p ks) + length (filter (λ k. not (p k)) ks) ≡ length ks
both_count p [] = refl
both_count p (k ∷ ks) = step (p k) (both_count p ks)
  where
    step : (b : Bool) → length (filter p ks) + length (filter (λ k. not (p k)) ks) ≡ length ks
        → length (cond b (k ∷ filter p ks) (filter p ks)) + length (cond (not b) (k ∷ filter (λ k. not (p k)) ks) (filter (λ k. not (p k)) ks)) ≡ length (k ∷ ks)
    step true h = omega (arith, h)
    step false h = omega (arith, h)

none_pass : (ks : List ℕ) → length (filter (λ k. false) ks) ≤ 0
none_pass [] = omega arith
none_pass (k ∷ ks) = none_pass ks

mapped_count : (q : List ℕ → Bool) (ks : List ℕ) → length (filter q (map fresh_id ks)) ≡ length (filter (λ k. q (fresh_id k)) ks)
mapped_count q [] = refl
mapped_count q (k ∷ ks) = step (q (fresh_id k)) (mapped_count q ks)
  where
    step : (b : Bool) → length (filter q (map fresh_id ks)) ≡ length (filter (λ k. q (fresh_id k)) ks)
        → length (cond b (fresh_id k ∷ filter q (map fresh_id ks)) (filter q (map fresh_id ks))) ≡ length (cond b (k ∷ filter (λ k. q (fresh_id k)) ks) (filter (λ k. q (fresh_id k)) ks))
    step true h = omega (arith, h)
    step false h = h

used_count : (obs : List (Option Object)) (a n : ℕ) → a + n ≤ 2 ^ 64
    → length (filter (λ k. list_any (has_id (fresh_id k)) obs) (range_with_len a n)) ≤ length obs
used_count [] a n few = none_pass (range_with_len a n)
used_count (ob ∷ obs) a n few =
    let either = either_count (with_id ob) (λ k. list_any (has_id (fresh_id k)) obs) (range_with_len a n) in
    let one = one_at_most ob a n few in
    let rest = used_count obs a n few in
    omega (arith, either, one, rest)

-- as many identifiers as are asked for
pub enough_ids : (m : ModelData) (count : ℕ) → count + length m.objects ≤ 2 ^ 64 → length (unused_ids m count) ≡ count
enough_ids m count few =
    let numbers : List ℕ = range_with_len 0 (count + length m.objects) in
    let many = length-range_with_len 0 (count + length m.objects) in
    let used : length (filter (λ k. is_used m (fresh_id k)) numbers) ≤ length m.objects = used_count m.objects 0 (count + length m.objects) (omega (arith, few)) in
    let both = both_count (λ k. is_used m (fresh_id k)) numbers in
    let left = mapped_count (λ id. not (is_used m id)) numbers in
    let cut = length-take count (filter (λ id. not (is_used m id)) (map fresh_id numbers)) in
    let enough : count ≤ length (filter (λ id. not (is_used m id)) (map fresh_id numbers)) = omega (arith, many, used, both, left) in
    omega (arith, cut, enough)
