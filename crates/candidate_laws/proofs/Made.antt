-- The objects of the model that enforcement makes: those of the target that stay, with their classes and identifiers, and fresh ones of the
-- classes of their terms; each with a slot for each property of its class.
use Rattle.std.specs.Prelude.{◌≡◌, ◌<◌, ◌≤◌, ◌+◌, ◌-◌, ℕ, zero, suc, Bool, true, false, List, [], ◌∷◌, ◌++◌, length, Option, None, Some, Contains, if◌then◌else◌}
use Rattle.std.specs.Option.{option_map}
use Rattle.std.proofs.Common.{refl, ap, sym, ◌∙◌, subst, arith, inl, inr, get_or}
use Rattle.std.proofs.Math.Seq.{get_or-append_right}
use Rattle.std.proofs.lemmas.Bool.{cases_lt}
use Rattle.std.proofs.lemmas.List.{get_or_append_left, get_or-append-add, length-map}
use Rattle.std.proofs.lemmas.List.FromFn.{get_or-map-range_with_len, length-map-range_with_len}
use Rattle.std.proofs.lemmas.Option.{none-some, same_Some}
use Rattle.mof_metamodel.specs.Metamodels.{props_of}
use Rattle.object_tables.specs.Objects.{Object, Slot}
use Rattle.object_tables.specs.Models.{ModelData, object_at, class_at, slot_in, index_of, no_slot}
use Rattle.object_tables.proofs.ModelLemmas.{index-within, index-found}
use Rattle.qv_syntax.specs.declared.program.Program.{Program}
use Rattle.repair_semantics.specs.declared.term.Term.{Term, out-Term}
use Rattle.repair_semantics.specs.Claims.{Claim}
use Rattle.repair_semantics.specs.CandidateObjects.{unused_ids}
use Rattle.repair_semantics.specs.Candidates.{contents_at, slot_with, slots_of, old_object, old_objects, fresh_object, fresh_objects, candidate_with}
use Rattle.std.proofs.lemmas.List.{get_or-map}

module _ (program : Program) (m : ModelData) (live : ℕ → Bool) (claims : List (Claim ℕ)) where
  -- ---- objects of the target

  many_old : length (old_objects program m live claims) ≡ length m.objects
  many_old = length-map-range_with_len (λ o. old_object program m live claims o (object_at m o)) 0 (length m.objects)

  pub old_at : (fresh : List Term) (o : ℕ) → o < length m.objects
      → object_at (candidate_with program m live claims fresh) o ≡ old_object program m live claims o (object_at m o)
  old_at fresh o within =
      let many = many_old in
      get_or_append_left (old_objects program m live claims)
      (fresh_objects program m live claims (length m.objects) fresh (unused_ids m (length fresh))) None o (omega (arith, many, within))
      ∙ get_or-map-range_with_len (λ n. old_object program m live claims n (object_at m n)) 0 (length m.objects) o o None within (omega arith)

  -- an object of the target that stays
  pub record IsOld (o : ℕ) (ob : Object) : Type 0 where
    pub was : Object
    pub within : o < length m.objects
    pub was_is : object_at m o ≡ Some was
    pub stays : live o ≡ true
    pub class : ob.class ≡ was.class
    pub id : ob.id ≡ was.id
    pub slots : ob.slots ≡ slots_of program m live claims o ob.class

  -- the object where it stays
  abbrev kept_object : ℕ → Object → Object
  kept_object o was = record was { slots = slots_of program m live claims o was.class }

  old_from : (o : ℕ) (ob : Object) → o < length m.objects → old_object program m live claims o (object_at m o) ≡ Some ob → IsOld o ob
  old_from o ob within h = of_object (object_at m o) refl h
    where
      of_object : (x : Option Object) → object_at m o ≡ x → old_object program m live claims o x ≡ Some ob → IsOld o ob
      of_object None is e = absurd (none-some ob e)
      of_object (Some was) is e = by (live o) refl e
        where
          by : (b : Bool) → live o ≡ b → (if b then Some (kept_object o was) else None) ≡ Some ob → IsOld o ob
          by false lives g = absurd (none-some ob g)
          by true lives g =
              let same : kept_object o was ≡ ob = same_Some (kept_object o was) ob g in
              record {
                was = was;
                within = within;
                was_is = is;
                stays = lives;
                class = sym (ap (λ (x : Object). x.class) same);
                id = sym (ap (λ (x : Object). x.id) same);
                slots = subst (λ (x : Object). x.slots ≡ slots_of program m live claims o x.class) same refl;
              }

  -- an object of the target that stays is there
  pub old_there : (fresh : List Term) (o : ℕ) (was : Object) → o < length m.objects → object_at m o ≡ Some was → live o ≡ true
      → object_at (candidate_with program m live claims fresh) o ≡ Some (kept_object o was)
  old_there fresh o was within is lives =
      old_at fresh o within ∙ ap (old_object program m live claims o) is
      ∙ ap (λ b. if b then Some (kept_object o was) else None) lives

  -- ---- fresh objects

  fresh_from : (ts : List Term) (ids : List (List ℕ)) (o k : ℕ) (t : Term) → length ids ≡ length ts → k < length ts
      → get_or (fresh_objects program m live claims o ts ids) k None ≡ fresh_object program m live claims (o + k) (get_or ts k t) (get_or ids k [])
  fresh_from [] ids o k t same within = absurd (omega (arith, within))
  fresh_from (u ∷ ts) [] o k t same within = absurd (omega (arith, same))
  fresh_from (u ∷ ts) (id ∷ ids) o zero t same within = let here : o ≡ o + 0 = omega arith in ap (λ n. fresh_object program m live claims n u id) here
  fresh_from (u ∷ ts) (id ∷ ids) o (suc k) t same within =
      let next : suc o + k ≡ o + suc k = omega arith in
      fresh_from ts ids (suc o) k t (omega (arith, same)) (omega (arith, within))
      ∙ ap (λ n. fresh_object program m live claims n (get_or ts k t) (get_or ids k [])) next

  past_fresh : (ts : List Term) (ids : List (List ℕ)) (o k : ℕ) → length ts ≤ k → get_or (fresh_objects program m live claims o ts ids) k None ≡ None
  past_fresh [] ids o k past = refl
  past_fresh (u ∷ ts) [] o k past = refl
  past_fresh (u ∷ ts) (id ∷ ids) o zero past = absurd (omega (arith, past))
  past_fresh (u ∷ ts) (id ∷ ids) o (suc k) past = past_fresh ts ids (suc o) k (omega (arith, past))

  module _ (fresh : List Term) (enough : length (unused_ids m (length fresh)) ≡ length fresh) where
    pub fresh_at : (k : ℕ) (t : Term) → k < length fresh
        → object_at (candidate_with program m live claims fresh) (length m.objects + k)
        ≡ fresh_object program m live claims (length m.objects + k) (get_or fresh k t) (get_or (unused_ids m (length fresh)) k [])
    fresh_at k t within =
        ap (λ n. get_or (old_objects program m live claims ++ fresh_objects program m live claims (length m.objects) fresh
        (unused_ids m (length fresh))) (n + k) None) (sym many_old)
        ∙ get_or-append-add (old_objects program m live claims)
        (fresh_objects program m live claims (length m.objects) fresh (unused_ids m (length fresh))) k None
        ∙ fresh_from fresh (unused_ids m (length fresh)) (length m.objects) k t enough within

    none_past : (n : ℕ) → length m.objects + length fresh ≤ n → object_at (candidate_with program m live claims fresh) n ≡ None
    none_past n past =
        let many = many_old in
        let behind : length (old_objects program m live claims) ≤ n = omega (arith, many, past) in
        let over : length fresh ≤ n - length (old_objects program m live claims) = omega (arith, many, past) in
        get_or-append_right (old_objects program m live claims)
        (fresh_objects program m live claims (length m.objects) fresh (unused_ids m (length fresh))) n None behind
        ∙ past_fresh fresh (unused_ids m (length fresh)) (length m.objects) (n - length (old_objects program m live claims)) over

    -- an object that enforcement makes: that of a fresh term
    pub record IsNew (o : ℕ) (ob : Object) : Type 0 where
      pub place : ℕ
      pub within : place < length fresh
      pub number : o ≡ length m.objects + place
      pub term : Term
      pub term_is : get_or fresh place term ≡ term
      pub class : ob.class ≡ (out-Term term).class.0
      pub id : ob.id ≡ get_or (unused_ids m (length fresh)) place []
      pub slots : ob.slots ≡ slots_of program m live claims o ob.class

    -- where an object of the model comes from
    pub data Origin (o : ℕ) (ob : Object) : Type 0 where
      old : IsOld o ob → Origin o ob
      new : IsNew o ob → Origin o ob

    some_term : (ts : List Term) (k : ℕ) → k < length ts → (t : Term) × (get_or ts k t ≡ t)
    some_term [] k within = absurd (omega (arith, within))
    some_term (t ∷ ts) zero within = (t, refl)
    some_term (t ∷ ts) (suc k) within = some_term ts k (omega (arith, within))

    new_from : (k : ℕ) (ob : Object) → k < length fresh → object_at (candidate_with program m live claims fresh) (length m.objects + k) ≡ Some ob
        → IsNew (length m.objects + k) ob
    new_from k ob within h =
        let (t, is) = some_term fresh k within in
        let made : fresh_object program m live claims (length m.objects + k) t (get_or (unused_ids m (length fresh)) k []) ≡ Some ob =
        ap (λ u. fresh_object program m live claims (length m.objects + k) u (get_or (unused_ids m (length fresh)) k [])) (sym is)
        ∙ sym (fresh_at k t within) ∙ h in
        let class : ℕ = (out-Term t).class.0 in
        let slots : List Slot = slots_of program m live claims (length m.objects + k) class in
        let new : Object = record { class = class; id = get_or (unused_ids m (length fresh)) k []; slots = slots } in
        let same : new ≡ ob = same_Some new ob made in
        record {
          place = k;
          within = within;
          number = refl;
          term = t;
          term_is = is;
          class = sym (ap (λ (x : Object). x.class) same);
          id = sym (ap (λ (x : Object). x.id) same);
          slots = subst (λ (x : Object). x.slots ≡ slots_of program m live claims (length m.objects + k) x.class) same refl;
        }

    pub origin : (o : ℕ) (ob : Object) → object_at (candidate_with program m live claims fresh) o ≡ Some ob → Origin o ob
    origin o ob h = elim (cases_lt o (length m.objects)) [
      | inl l ↦ Origin.old (old_from o ob l (sym (old_at fresh o l) ∙ h))
      | inr le ↦ elim (cases_lt o (length m.objects + length fresh)) [
        | inr past ↦ absurd (none-some ob (sym (none_past o past) ∙ h))
        | inl below ↦ (
            let place : length m.objects + (o - length m.objects) ≡ o = omega (arith, le) in
            Origin.new (subst (λ n. IsNew n ob) place
            (new_from (o - length m.objects) ob (omega (arith, le, below)) (ap (object_at (candidate_with program m live claims fresh)) place ∙ h))))
      ]
    ]

    -- ---- slots

    pub object_slots : (o : ℕ) (ob : Object) → object_at (candidate_with program m live claims fresh) o ≡ Some ob
        → ob.slots ≡ slots_of program m live claims o ob.class
    object_slots o ob h = by (origin o ob h)
      where
        by : Origin o ob → ob.slots ≡ slots_of program m live claims o ob.class
        by (Origin.old stays) = stays.slots
        by (Origin.new made) = made.slots

    -- each object has a slot for each property of its class
    pub slots_long : (o : ℕ) (ob : Object) → object_at (candidate_with program m live claims fresh) o ≡ Some ob
        → length ob.slots ≡ length (props_of m.meta ob.class)
    slots_long o ob h = ap (λ (ss : List Slot). length ss) (object_slots o ob h)
        ∙ length-map (props_of m.meta ob.class) (λ p. slot_with (contents_at program m live claims o p))

    -- at a property of the object's class it has what the slot holds
    pub slot_is : (o p class : ℕ) → class_at (candidate_with program m live claims fresh) o ≡ Some class → Contains (props_of m.meta class) p
        → slot_in m.meta p (object_at (candidate_with program m live claims fresh) o) ≡ slot_with (contents_at program m live claims o p)
    slot_is o p class class_is has = of_object (object_at (candidate_with program m live claims fresh) o) refl class_is
      where
        there : (k : ℕ) → Contains (props_of m.meta k) p
            → get_or (slots_of program m live claims o k) (index_of (props_of m.meta k) p) no_slot ≡ slot_with (contents_at program m live claims o p)
        there k listed =
            let within : index_of (props_of m.meta k) p < length (props_of m.meta k) = index-within (props_of m.meta k) p listed in
            get_or-map (λ q. slot_with (contents_at program m live claims o q)) (props_of m.meta k) (index_of (props_of m.meta k) p) p no_slot within
            ∙ ap (λ q. slot_with (contents_at program m live claims o q)) (index-found (props_of m.meta k) p p within)

        of_object : (x : Option Object) → object_at (candidate_with program m live claims fresh) o ≡ x → option_map (λ ob. ob.class) x ≡ Some class
            → slot_in m.meta p x ≡ slot_with (contents_at program m live claims o p)
        of_object None is e = absurd (none-some class e)
        of_object (Some ob) is e =
            let same : ob.class ≡ class = same_Some ob.class class e in
            ap (λ ss. get_or ss (index_of (props_of m.meta ob.class) p) no_slot) (object_slots o ob is)
            ∙ there ob.class (subst (λ k. Contains (props_of m.meta k) p) (sym same) has)
