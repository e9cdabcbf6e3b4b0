-- Enforcement makes as many fresh objects as there are demanded terms without an image, as far as identifiers are enough.
use Rattle.std.specs.Prelude.{◌≡◌, ◌≤◌, ◌+◌, ◌^◌, ℕ, zero, suc, Bool, true, false, not, cond, List, [], ◌∷◌, map, length, Option, is_some}
use Rattle.std.specs.List.{filter, count_by, range_with_len}
use Rattle.std.proofs.Common.{refl, ap, arith, inl, inr}
use Rattle.std.proofs.lemmas.Bool.{cases_lt}
use Rattle.std.proofs.lemmas.List.{length-append, length-take}
use Rattle.std.proofs.lemmas.List.FromFn.{length-map-range_with_len}
use Rattle.std.proofs.lemmas.List.Sums.{count_by-le-length, sum_by-append}
use Rattle.object_tables.specs.declared.limit.TheConstants.{MAX_OBJECTS}
use Rattle.object_tables.specs.Objects.{Object}
use Rattle.object_tables.specs.Models.{ModelData, object_at, live_count}
use Rattle.qv_syntax.specs.declared.program.Program.{Program}
use Rattle.repair_semantics.specs.declared.term.Term.{Term}
use Rattle.repair_semantics.specs.declared.demand.Demand.{Demand}
use Rattle.repair_semantics.specs.Claims.{Claim}
use Rattle.repair_semantics.specs.Demands.{demanded_terms}
use Rattle.repair_semantics.specs.Deletions.{managed_classes, images_of, stays}
use Rattle.repair_semantics.specs.CandidateObjects.{fresh_id, is_used, fresh_terms, term_number, unused_ids}
use Rattle.repair_semantics.specs.Candidates.{claims_by_number, old_object, old_objects, fresh_object, fresh_objects, candidate_with, candidate}
use Rattle.candidate_laws.proofs.IdentifierLaws.{enough_ids}
use Rattle.enforce_mode.specs.Made.{HasFewObjects}

-- ---- identifiers

-- of more numbers at least as many pass
more_pass : (test : List ℕ → Bool) (a n end : ℕ) → n ≤ end
    → length (filter test (map fresh_id (range_with_len a n))) ≤ length (filter test (map fresh_id (range_with_len a end)))
more_pass test a zero end le = omega arith
more_pass test a (suc n) zero le = absurd (omega (arith, le))
more_pass test a (suc n) (suc end) le = step (test (fresh_id a)) (more_pass test (a + 1) n end (omega (arith, le)))
  where
    step : (b : Bool) → length (filter test (map fresh_id (range_with_len (a + 1) n))) ≤ length (filter test (map fresh_id (range_with_len (a + 1) end)))
        → length (cond b (fresh_id a ∷ filter test (map fresh_id (range_with_len (a + 1) n))) (filter test (map fresh_id (range_with_len (a + 1) n))))
        ≤ length (cond b (fresh_id a ∷ filter test (map fresh_id (range_with_len (a + 1) end))) (filter test (map fresh_id (range_with_len (a + 1) end))))
    step true h = omega (arith, h)
    step false h = h

-- there are as many unused identifiers as numbers of 64 bits give, if not as many as are asked for
some_ids : (m : ModelData) (count least : ℕ) → least ≤ count → least + length m.objects ≤ 2 ^ 64 → least ≤ length (unused_ids m count)
some_ids m count least le few =
    let enough : length (unused_ids m least) ≡ least = enough_ids m least few in
    let cut = length-take least (filter (λ id. not (is_used m id)) (map fresh_id (range_with_len 0 (least + length m.objects)))) in
    let more = more_pass (λ id. not (is_used m id)) 0 (least + length m.objects) (count + length m.objects) (omega (arith, le)) in
    let all = length-take count (filter (λ id. not (is_used m id)) (map fresh_id (range_with_len 0 (count + length m.objects)))) in
    omega (arith, enough, cut, more, all, le)

-- ---- objects

one_more : (k whole rest : ℕ) → whole ≡ 1 + rest → k ≤ rest → suc k ≤ whole
one_more k whole rest is le = omega (arith, is, le)

module _ (program : Program) (m : ModelData) (live : ℕ → Bool) (claims : List (Claim ℕ)) where
  -- each fresh object is live
  live_fresh : (o : ℕ) (ts : List Term) (ids : List (List ℕ)) (least : ℕ) → least ≤ length ts → least ≤ length ids
      → least ≤ count_by is_some (fresh_objects program m live claims o ts ids)
  live_fresh o [] ids least terms named = omega (arith, terms)
  live_fresh o (t ∷ ts) [] least terms named = omega (arith, named)
  live_fresh o (t ∷ ts) (id ∷ ids) zero terms named = omega arith
  live_fresh o (t ∷ ts) (id ∷ ids) (suc k) terms named =
      one_more k (count_by is_some (fresh_objects program m live claims o (t ∷ ts) (id ∷ ids)))
      (count_by is_some (fresh_objects program m live claims (suc o) ts ids))
      (sum_by-append (λ (x : Option Object). cond (is_some x) 1 0) (fresh_object program m live claims o t id ∷ [])
      (fresh_objects program m live claims (suc o) ts ids))
      (live_fresh (suc o) ts ids k (omega (arith, terms)) (omega (arith, named)))

  module _ (fresh : List Term) where
    abbrev added : List (Option Object)
    added = fresh_objects program m live claims (length m.objects) fresh (unused_ids m (length fresh))

    live_added : (least : ℕ) → least ≤ length fresh → least + length m.objects ≤ 2 ^ 64 → least ≤ count_by is_some added
    live_added least le few =
        live_fresh (length m.objects) fresh (unused_ids m (length fresh)) least le (some_ids m (length fresh) least le few)

    -- so the model has as many live objects at least
    live_made : (least : ℕ) → least ≤ length fresh → least + length m.objects ≤ 2 ^ 64 → least ≤ live_count (candidate_with program m live claims fresh)
    live_made least le few =
        let here = live_added least le few in
        let all : live_count (candidate_with program m live claims fresh) ≡ count_by is_some (old_objects program m live claims) + count_by is_some added =
        sum_by-append (λ (x : Option Object). cond (is_some x) 1 0) (old_objects program m live claims) added in
        omega (arith, here, all)

    -- where no number is new no term is fresh
    pub none_added : length (candidate_with program m live claims fresh).objects ≡ length m.objects → 1 + length m.objects ≤ 2 ^ 64 → length fresh ≡ 0
    none_added same few = elim (cases_lt 0 (length fresh)) [
      | inr none ↦ omega (arith, none)
      | inl some ↦ absurd (
          let one = live_added 1 some few in
          let most = count_by-le-length is_some added in
          let long : length (candidate_with program m live claims fresh).objects ≡ length (old_objects program m live claims) + length added =
          length-append (old_objects program m live claims) added in
          let old : length (old_objects program m live claims) ≡ length m.objects =
          length-map-range_with_len (λ o. old_object program m live claims o (object_at m o)) 0 (length m.objects) in
          omega (arith, one, most, long, old, same))
    ]

-- A model with few objects is made of few fresh terms.
pub few_fresh : (program : Program) (m : ModelData) (demands : List Demand) → HasFewObjects (candidate program m demands) → length m.objects ≤ 3_999_000_000
    → length (fresh_terms program m (demanded_terms demands)) + length m.objects ≤ 2 ^ 64
few_fresh program m demands few room =
    let most : MAX_OBJECTS ≡ 200_000 = refl in
    elim (cases_lt 200_000 (length (fresh_terms program m (demanded_terms demands)))) [
      | inr small ↦ omega (arith, small, room)
      | inl many ↦ absurd (
          let made : 200_001 ≤ live_count (candidate program m demands) =
          live_made program m (stays m (managed_classes program) (images_of program m (demanded_terms demands)))
          (claims_by_number m.meta (term_number program m (demanded_terms demands)) demands) (fresh_terms program m (demanded_terms demands)) 200_001
          (omega (arith, many)) (omega (arith, room)) in
          omega (arith, made, few, most))
    ]

-- Where the model that is made is the target, no term is fresh.
pub none_fresh : (program : Program) (m : ModelData) (demands : List Demand) → candidate program m demands ≡ m → length m.objects ≤ 3_999_000_000
    → length (fresh_terms program m (demanded_terms demands)) ≡ 0
none_fresh program m demands same room =
    none_added program m (stays m (managed_classes program) (images_of program m (demanded_terms demands)))
    (claims_by_number m.meta (term_number program m (demanded_terms demands)) demands) (fresh_terms program m (demanded_terms demands))
    (ap (λ (x : ModelData). length x.objects) same) (omega (arith, room))
