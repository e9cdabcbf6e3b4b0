-- The objects of the model that enforcement makes: those that stay keep their classes and identifiers, the others are gone, and each demanded
-- term has an object there.
use Rattle.std.specs.Prelude.{◌≡◌, ◌<◌, ◌≤◌, ◌+◌, ◌-◌, ◌^◌, ℕ, zero, suc, Bool, true, false, is_some, List, [], ◌∷◌, ◌++◌, length, Option, None, Some, Contains, if◌then◌else◌}
use Rattle.std.specs.Option.{option_map, option_map_or}
use Rattle.std.proofs.Common.{refl, ap, sym, ◌∙◌, subst, arith, inl, inr, get_or}
use Rattle.std.proofs.Math.Seq.{get_or-append_right}
use Rattle.std.proofs.lemmas.Bool.{cases_lt}
use Rattle.std.proofs.lemmas.List.{get_or_append_left, get_or-append-add}
use Rattle.std.proofs.lemmas.List.FromFn.{get_or-map-range_with_len, length-map-range_with_len}
use Rattle.mof_metamodel.specs.Metamodels.{props_of}
use Rattle.object_tables.specs.Objects.{Object}
use Rattle.object_tables.specs.Models.{ModelData, object_at, class_at, id_at}
use Rattle.qv_syntax.specs.declared.program.Program.{Program}
use Rattle.repair_semantics.specs.declared.term.Term.{Term, out-Term}
use Rattle.repair_semantics.specs.declared.demand.Demand.{Demand}
use Rattle.repair_semantics.specs.Demands.{demanded_terms}
use Rattle.repair_semantics.specs.Claims.{Held, Claim}
use Rattle.repair_semantics.specs.Images.{image, holds}
use Rattle.repair_semantics.specs.Deletions.{managed_classes, images_of, stays}
use Rattle.repair_semantics.specs.CandidateObjects.{CandidateObject, fresh_terms, number_of, term_number, unused_ids}
use Rattle.repair_semantics.specs.Candidates.{claimed_at, slots_of, claims_by_number, old_object, old_objects, fresh_object, fresh_objects, candidate_with, candidate}
use Rattle.repair_laws.proofs.ImageLaws.{image_conforms, image_is_live}
use Rattle.repair_laws.proofs.ObjectLaws.{fresh_place}
use Rattle.repair_laws.proofs.DemandedLaws.{live_object, image_stays}
use Rattle.repair_laws.specs.Standing.{FitsAt}
use Rattle.repair_laws.proofs.IdentifierLaws.{enough_ids}
use Rattle.repair_laws.proofs.StandingLaws.{claim_stands}

one_number : (n o : ℕ) → Some n ≡ Some o → n ≡ o
one_number n o h = cc

no_object : (ob : Object) → ◌≡◌ {A = Option Object} None (Some ob) → ⊥
no_object ob h = cc

one_object : (a b : Object) → Some a ≡ Some b → a ≡ b
one_object a b h = cc

module _ (program : Program) (m : ModelData) (live : ℕ → Bool) (claims : List (Claim ℕ)) where
  -- ---- objects of the target

  many_old : length (old_objects program m live claims) ≡ length m.objects
  many_old = length-map-range_with_len (λ o. old_object program m live claims o (object_at m o)) 0 (length m.objects)

  pub old_at : (fresh : List Term) (o : ℕ) → o < length m.objects → object_at (candidate_with program m live claims fresh) o ≡ old_object program m live claims o (object_at m o)
  old_at fresh o within =
      let many = many_old in
      get_or_append_left (old_objects program m live claims) (fresh_objects program m live claims (length m.objects) fresh (unused_ids m (length fresh))) None o (omega (arith, many, within))
      ∙ get_or-map-range_with_len (λ n. old_object program m live claims n (object_at m n)) 0 (length m.objects) o o None within (omega arith)

  -- ---- fresh objects

  fresh_from : (ts : List Term) (ids : List (List ℕ)) (o k : ℕ) (t : Term) → length ids ≡ length ts → k < length ts
      → get_or (fresh_objects program m live claims o ts ids) k None ≡ fresh_object program m live claims (o + k) (get_or ts k t) (get_or ids k [])
  fresh_from [] ids o k t same within = absurd (omega (arith, within))
  fresh_from (u ∷ ts) [] o k t same within = absurd (omega (arith, same))
  fresh_from (u ∷ ts) (id ∷ ids) o zero t same within = let here : o ≡ o + 0 = omega arith in ap (λ n. fresh_object program m live claims n u id) here
  fresh_from (u ∷ ts) (id ∷ ids) o (suc k) t same within =
      let next : suc o + k ≡ o + suc k = omega arith in
      fresh_from ts ids (suc o) k t (omega (arith, same)) (omega (arith, within))
      ∙ ap (λ n. fresh_object program m live claims n (get_or ts k t) (get_or ids k [])) next

  pub fresh_at : (fresh : List Term) (k : ℕ) (t : Term) → length (unused_ids m (length fresh)) ≡ length fresh → k < length fresh
      → object_at (candidate_with program m live claims fresh) (length m.objects + k)
      ≡ fresh_object program m live claims (length m.objects + k) (get_or fresh k t) (get_or (unused_ids m (length fresh)) k [])
  fresh_at fresh k t enough within =
      ap (λ n. get_or (old_objects program m live claims ++ fresh_objects program m live claims (length m.objects) fresh (unused_ids m (length fresh))) (n + k) None) (sym many_old)
      ∙ get_or-append-add (old_objects program m live claims) (fresh_objects program m live claims (length m.objects) fresh (unused_ids m (length fresh))) k None
      ∙ fresh_from fresh (unused_ids m (length fresh)) (length m.objects) k t enough within

  past_fresh : (ts : List Term) (ids : List (List ℕ)) (o k : ℕ) → length ts ≤ k → get_or (fresh_objects program m live claims o ts ids) k None ≡ None
  past_fresh [] ids o k past = refl
  past_fresh (u ∷ ts) [] o k past = refl
  past_fresh (u ∷ ts) (id ∷ ids) o zero past = absurd (omega (arith, past))
  past_fresh (u ∷ ts) (id ∷ ids) o (suc k) past = past_fresh ts ids (suc o) k (omega (arith, past))

  -- and no others
  pub none_past : (fresh : List Term) (n : ℕ) → length m.objects + length fresh ≤ n → object_at (candidate_with program m live claims fresh) n ≡ None
  none_past fresh n past =
      let many = many_old in
      let behind : length (old_objects program m live claims) ≤ n = omega (arith, many, past) in
      let over : length fresh ≤ n - length (old_objects program m live claims) = omega (arith, many, past) in
      get_or-append_right (old_objects program m live claims) (fresh_objects program m live claims (length m.objects) fresh (unused_ids m (length fresh))) n None behind
      ∙ past_fresh fresh (unused_ids m (length fresh)) (length m.objects) (n - length (old_objects program m live claims)) over

  -- ---- slots of the objects

  old_slots : (o : ℕ) (ob : Object) (x : Option Object) → old_object program m live claims o x ≡ Some ob → ob.slots ≡ slots_of program m live claims o ob.class
  old_slots o ob None h = absurd (no_object ob h)
  old_slots o ob (Some was) h = by (live o) h
    where
      by : (b : Bool) → (if b then Some (record was { slots = slots_of program m live claims o was.class }) else None) ≡ Some ob → ob.slots ≡ slots_of program m live claims o ob.class
      by true e = subst (λ (x : Object). x.slots ≡ slots_of program m live claims o x.class) (one_object (record was { slots = slots_of program m live claims o was.class }) ob e) refl
      by false e = absurd (no_object ob e)

  fresh_slots : (ts : List Term) (ids : List (List ℕ)) (o k : ℕ) (ob : Object) → get_or (fresh_objects program m live claims o ts ids) k None ≡ Some ob
      → ob.slots ≡ slots_of program m live claims (o + k) ob.class
  fresh_slots [] ids o k ob h = absurd (no_object ob h)
  fresh_slots (t ∷ ts) [] o k ob h = absurd (no_object ob h)
  fresh_slots (t ∷ ts) (id ∷ ids) o zero ob h =
      let here : o ≡ o + 0 = omega arith in
      subst (λ n. ob.slots ≡ slots_of program m live claims n ob.class) here
      (subst (λ (x : Object). x.slots ≡ slots_of program m live claims o x.class)
      (one_object (record { class = (out-Term t).class.0; id = id; slots = slots_of program m live claims o (out-Term t).class.0 }) ob h) refl)
  fresh_slots (t ∷ ts) (id ∷ ids) o (suc k) ob h =
      let next : suc o + k ≡ o + suc k = omega arith in
      subst (λ n. ob.slots ≡ slots_of program m live claims n ob.class) next (fresh_slots ts ids (suc o) k ob h)

  pub object_slots : (fresh : List Term) (o : ℕ) (ob : Object) → object_at (candidate_with program m live claims fresh) o ≡ Some ob → ob.slots ≡ slots_of program m live claims o ob.class
  object_slots fresh o ob h = elim (cases_lt o (length m.objects)) [
    | inl l ↦ old_slots o ob (object_at m o) (sym (old_at fresh o l) ∙ h)
    | inr le ↦ (
        let many = many_old in
        let behind : length (old_objects program m live claims) ≤ o = omega (arith, many, le) in
        let place : length m.objects + (o - length (old_objects program m live claims)) ≡ o = omega (arith, many, le) in
        subst (λ n. ob.slots ≡ slots_of program m live claims n ob.class) place
        (fresh_slots fresh (unused_ids m (length fresh)) (length m.objects) (o - length (old_objects program m live claims)) ob
        (sym (get_or-append_right (old_objects program m live claims) (fresh_objects program m live claims (length m.objects) fresh (unused_ids m (length fresh))) o None behind) ∙ h))
        )
  ]

  -- ---- what an object keeps

  kept_class : (o : ℕ) (x : Option Object) → live o ≡ true → option_map (λ ob. ob.class) (old_object program m live claims o x) ≡ option_map (λ ob. ob.class) x
  kept_class o None h = refl
  kept_class o (Some ob) h = rw h refl

  kept_id : (o : ℕ) (x : Option Object) → live o ≡ true → option_map (λ ob. ob.id) (old_object program m live claims o x) ≡ option_map (λ ob. ob.id) x
  kept_id o None h = refl
  kept_id o (Some ob) h = rw h refl

  gone : (o : ℕ) (x : Option Object) → live o ≡ false → old_object program m live claims o x ≡ None
  gone o None h = refl
  gone o (Some ob) h = rw h refl

module _ (program : Program) (m : ModelData) (demands : List Demand) where
  abbrev terms : List Term
  terms = demanded_terms demands

  abbrev live : ℕ → Bool
  live = stays m (managed_classes program) (images_of program m terms)

  abbrev claims : List (Claim ℕ)
  claims = claims_by_number m.meta (term_number program m terms) demands

  pub stays_with_class : (o : ℕ) → o < length m.objects → live o ≡ true → class_at (candidate program m demands) o ≡ class_at m o
  stays_with_class o within h =
      ap (λ (x : Option Object). option_map (λ ob. ob.class) x) (old_at program m live claims (fresh_terms program m terms) o within) ∙ kept_class program m live claims o (object_at m o) h

  pub stays_with_id : (o : ℕ) → o < length m.objects → live o ≡ true → id_at (candidate program m demands) o ≡ id_at m o
  stays_with_id o within h =
      ap (λ (x : Option Object). option_map (λ ob. ob.id) x) (old_at program m live claims (fresh_terms program m terms) o within) ∙ kept_id program m live claims o (object_at m o) h

  pub is_gone : (o : ℕ) → o < length m.objects → live o ≡ false → object_at (candidate program m demands) o ≡ None
  is_gone o within h = old_at program m live claims (fresh_terms program m terms) o within ∙ gone program m live claims o (object_at m o) h

  -- ---- each demanded term has an object there

  kept_some : (o : ℕ) (x : Option Object) → live o ≡ true → is_some x ≡ true → is_some (old_object program m live claims o x) ≡ true
  kept_some o None h some = some
  kept_some o (Some ob) h some = rw h refl

  pub demanded_is_live : (t : Term) (n : ℕ) → Contains terms t → length (fresh_terms program m terms) + length m.objects ≤ 2 ^ 64
      → term_number program m terms t ≡ Some n → is_some (object_at (candidate program m demands) n) ≡ true
  demanded_is_live t n has few h = by (image program m t) refl h
    where
      by : (o : Option ℕ) → image program m t ≡ o → number_of program m terms (option_map_or (λ k. CandidateObject.old k) o (CandidateObject.fresh t)) ≡ Some n
          → is_some (object_at (candidate program m demands) n) ≡ true
      by (Some o) is e =
          let same : o ≡ n = one_number o n e in
          subst (λ k. is_some (object_at (candidate program m demands) k) ≡ true) same
          (ap (λ (x : Option Object). is_some x) (old_at program m live claims (fresh_terms program m terms) o (image_is_live program m t o is))
          ∙ kept_some o (object_at m o) (image_stays program m terms (managed_classes program) t o has is)
          (live_object program m terms (out-Term t).class.0 o (image_conforms program m t o is)))
      by None is e =
          let p = fresh_place program m terms t n e in
          ap (λ k. is_some (object_at (candidate program m demands) k)) p.number
          ∙ ap (λ (x : Option Object). is_some x) (fresh_at program m live claims (fresh_terms program m terms) p.place t (enough_ids m (length (fresh_terms program m terms)) few) p.within)

  -- ---- what is claimed of a slot stands in it

  pub claims_stand : (o p : ℕ) (ob : Object) (h : Held ℕ) → object_at (candidate program m demands) o ≡ Some ob → Contains (props_of m.meta ob.class) p
      → Contains (claimed_at claims o p) h → FitsAt program m p h → holds program (candidate program m demands) o p h ≡ true
  claims_stand o p ob h is has claimed fits =
      claim_stands program m (candidate program m demands) live claims o p ob h refl is (object_slots program m live claims (fresh_terms program m terms) o ob is) has claimed fits
