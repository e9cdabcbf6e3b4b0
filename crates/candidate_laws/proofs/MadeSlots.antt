-- The links and values of the model that enforcement makes: what its slots hold, kept or claimed.
use Rattle.std.specs.Prelude.{◌≡◌, ◌≢◌, ℕ, Bool, true, false, List, map, length, Option, None, Some, AllPairs, Contains, if◌then◌else◌}
use Rattle.std.specs.List.{filter_map}
use Rattle.std.specs.Option.{option_map}
use Rattle.std.proofs.Common.{refl, ap, sym, ◌∙◌, subst, arith, inl, inr}
use Rattle.std.proofs.lemmas.Bool.{cases_lt}
use Rattle.std.proofs.lemmas.List.{get_or_past}
use Rattle.std.proofs.lemmas.Option.{none-some, same_Some}
use Rattle.mof_metamodel.specs.Metamodels.{props_of, type_of}
use Rattle.mof_metamodel.proofs.Facts.{contains_map}
use Rattle.object_tables.specs.declared.value.Value.{Value}
use Rattle.object_tables.specs.declared.value.Value.TheVariants as values
use Rattle.object_tables.specs.Objects.{Object, Slot}
use Rattle.object_tables.specs.Models.{ModelData, object_at, class_at, is_class_type, slot_in, values_at, partners_at, IsLinked, IsReferenceOf, IsAttributeOf}
use Rattle.object_tables.proofs.ListLemmas.{Contains-from_map}
use Rattle.object_tables.proofs.SlotLemmas.{IsSlotted, linked_at}
use Rattle.qv_syntax.specs.declared.program.Program.{Program}
use Rattle.qvtr_semantics.specs.declared.datum.Datum.{Datum}
use Rattle.qvtr_semantics.specs.Objects.{value_datum}
use Rattle.qvtr_semantics.specs.Outs.{value_of_datum}
use Rattle.repair_semantics.specs.declared.demand.Demand.{Demand}
use Rattle.repair_semantics.specs.TargetItems.{target_meta_number}
use Rattle.repair_semantics.specs.Claims.{Held}
use Rattle.repair_semantics.specs.Images.{held_in}
use Rattle.repair_semantics.specs.Candidates.{value_held, partner_held, slot_with, candidate}
use Rattle.candidate_laws.specs.Placing.{Placeable}
use Rattle.candidate_laws.specs.Parts.{is_staying, demanded_claims, demanded_fresh, demanded_ids, made_contents}
use Rattle.candidate_laws.proofs.Lists.{from_filter_map, in_filter_map, AllLater, later_pairs, later_map}
use Rattle.candidate_laws.proofs.IdentifierLaws.{enough_ids}
use Rattle.candidate_laws.proofs.Contents.{contents_once}
use Rattle.candidate_laws.proofs.Made.{old_there, Origin, origin, slots_long, slot_is}

-- ---- what is held of a slot

-- a value is seen as a datum, and that datum as the value
pub value_back : (meta : ℕ) (v : Value) → value_of_datum (value_datum meta v) ≡ Some v
value_back meta (values.Str s) = refl
value_back meta (values.Int i) = refl
value_back meta (values.Bool b) = refl
value_back meta (values.Lit e n) = refl

pub partner_is : (h : Held ℕ) (b : ℕ) → partner_held h ≡ Some b → h ≡ Held.object b
partner_is (Held.datum d) b e = absurd (none-some b e)
partner_is (Held.object a) b e = ap (λ z. Held.object z) (same_Some a b e)

pub value_is : (h : Held ℕ) (v : Value) → value_held h ≡ Some v → (d : Datum) × (h ≡ Held.datum d) × (value_of_datum d ≡ Some v)
value_is (Held.datum d) v e = (d, refl, e)
value_is (Held.object a) v e = absurd (none-some v e)

module _ (program : Program) (m : ModelData) where
  abbrev datum_for : Value → Datum
  datum_for v = value_datum (target_meta_number program) v

  abbrev held_of : ℕ → ℕ → Bool → List (Held ℕ)
  held_of o p reference = if reference then map (λ b. Held.object b) (partners_at m o p) else map (λ v. Held.datum (datum_for v)) (values_at m o p)

  -- an object that is held is a partner, at a reference
  pub held_object : (o p b : ℕ) → Contains (held_in program m o p) (Held.object b) → (is_class_type (type_of m.meta p) ≡ true) × IsLinked m p o b
  held_object o p b c = by (is_class_type (type_of m.meta p)) refl c
    where
      by : (t : Bool) → is_class_type (type_of m.meta p) ≡ t → Contains (held_of o p t) (Held.object b)
          → (is_class_type (type_of m.meta p) ≡ true) × IsLinked m p o b
      by true is d =
          let (k, there, same) = Contains-from_map {Y = Held ℕ} (λ k. Held.object k) (partners_at m o p) (Held.object b) d in
          let one : k ≡ b = cc in
          (is, subst (Contains (partners_at m o p)) one there)
      by false is d =
          let (v, there, same) = Contains-from_map {Y = Held ℕ} (λ v. Held.datum (datum_for v)) (values_at m o p) (Held.object b) d in
          absurd (cc)

  pub link_held : (o p b : ℕ) → is_class_type (type_of m.meta p) ≡ true → IsLinked m p o b → Contains (held_in program m o p) (Held.object b)
  link_held o p b reference linked = subst (λ t. Contains (held_of o p t) (Held.object b)) (sym reference)
      (contains_map {Y = Held ℕ} (λ k. Held.object k) (partners_at m o p) b linked)

  -- a datum that is held is a value, at an attribute
  pub held_datum : (o p : ℕ) (d : Datum) → Contains (held_in program m o p) (Held.datum d)
      → (is_class_type (type_of m.meta p) ≡ false) × ((v : Value) × Contains (values_at m o p) v × (datum_for v ≡ d))
  held_datum o p d c = by (is_class_type (type_of m.meta p)) refl c
    where
      by : (t : Bool) → is_class_type (type_of m.meta p) ≡ t → Contains (held_of o p t) (Held.datum d)
          → (is_class_type (type_of m.meta p) ≡ false) × ((v : Value) × Contains (values_at m o p) v × (datum_for v ≡ d))
      by true is e =
          let (k, there, same) = Contains-from_map {Y = Held ℕ} (λ k. Held.object k) (partners_at m o p) (Held.datum d) e in
          absurd (cc)
      by false is e =
          let (v, there, same) = Contains-from_map {Y = Held ℕ} (λ v. Held.datum (datum_for v)) (values_at m o p) (Held.datum d) e in
          let one : datum_for v ≡ d = cc in
          (is, (v, there, one))

  data_one : (v w : Value) → ◌≡◌ {A = Held ℕ} (Held.datum (datum_for v)) (Held.datum (datum_for w)) → v ≡ w
  data_one v w same =
      let data_same : datum_for v ≡ datum_for w = cc in
      same_Some v w (sym (value_back (target_meta_number program) v) ∙ ap value_of_datum data_same ∙ value_back (target_meta_number program) w)

  pub references_once : (o p : ℕ) → is_class_type (type_of m.meta p) ≡ true → AllPairs (λ (x y : ℕ). x ≢ y) (partners_at m o p)
      → AllLater (λ (h i : Held ℕ). h ≢ i) (held_in program m o p)
  references_once o p reference apart =
      subst (λ t. AllLater (λ (h i : Held ℕ). h ≢ i) (held_of o p t)) (sym reference)
      (later_map (λ (x y : ℕ). x ≢ y) (λ (h i : Held ℕ). h ≢ i) (λ b. Held.object b) (partners_at m o p) (λ x y a b ne same. ne (cc))
      (later_pairs (λ (x y : ℕ). x ≢ y) (partners_at m o p) apart))

  pub attributes_once : (o p : ℕ) → is_class_type (type_of m.meta p) ≡ false → AllPairs (λ (x y : Value). x ≢ y) (values_at m o p)
      → AllLater (λ (h i : Held ℕ). h ≢ i) (held_in program m o p)
  attributes_once o p attribute apart =
      subst (λ t. AllLater (λ (h i : Held ℕ). h ≢ i) (held_of o p t)) (sym attribute)
      (later_map (λ (x y : Value). x ≢ y) (λ (h i : Held ℕ). h ≢ i) (λ v. Held.datum (datum_for v)) (values_at m o p)
      (λ v w a b ne same. ne (data_one v w same)) (later_pairs (λ (x y : Value). x ≢ y) (values_at m o p) apart))

  pub nothing_once : (o p : ℕ) → object_at m o ≡ None → AllLater (λ (h i : Held ℕ). h ≢ i) (held_in program m o p)
  nothing_once o p gone = by (is_class_type (type_of m.meta p))
    where
      by : (t : Bool) → AllLater (λ (h i : Held ℕ). h ≢ i) (held_of o p t)
      by true = subst (λ (x : Option Object). AllLater (λ (h i : Held ℕ). h ≢ i) (map (λ b. Held.object b) (slot_in m.meta p x).partners))
          (sym gone) tt
      by false = subst (λ (x : Option Object). AllLater (λ (h i : Held ℕ). h ≢ i) (map (λ v. Held.datum (datum_for v)) (slot_in m.meta p x).values))
          (sym gone) tt

module _ (program : Program) (m : ModelData) (demands : List Demand) (placeable : Placeable program m demands) where
  pub enough : length (demanded_ids program m demands) ≡ length (demanded_fresh program m demands)
  enough = enough_ids m (length (demanded_fresh program m demands)) placeable.few

  -- ---- objects and their classes

  -- where an object of the model that is made comes from
  abbrev pub Source : ℕ → Object → Type 0
  Source o ob = Origin program m (is_staying program m demands) (demanded_claims program m demands) (demanded_fresh program m demands) enough o ob

  pub source : (o : ℕ) (ob : Object) → object_at (candidate program m demands) o ≡ Some ob → Source o ob
  source o ob h = origin program m (is_staying program m demands) (demanded_claims program m demands) (demanded_fresh program m demands) enough o ob h

  -- where the class of an object comes from
  pub data Before (o class : ℕ) : Type 0 where
    old : class_at m o ≡ Some class → is_staying program m demands o ≡ true → Before o class
    new : object_at m o ≡ None → Before o class

  pub before : (o class : ℕ) → class_at (candidate program m demands) o ≡ Some class → Before o class
  before o class h = of_object (object_at (candidate program m demands) o) refl h
    where
      of_object : (x : Option Object) → object_at (candidate program m demands) o ≡ x → option_map (λ (ob : Object). ob.class) x ≡ Some class
          → Before o class
      of_object None is e = absurd (none-some class e)
      of_object (Some ob) is e = by (source o ob is)
        where
          same : ob.class ≡ class
          same = same_Some ob.class class e

          by : Source o ob
              → Before o class
          by (Origin.old there) = Before.old
              (ap (λ (x : Option Object). option_map (λ (z : Object). z.class) x) there.was_is
              ∙ ap (λ z. Some z) (sym there.class ∙ same)) there.stays
          by (Origin.new there) = let number = there.number in Before.new (get_or_past m.objects o None (omega (arith, number)))

  -- an object that stays keeps its class
  pub still : (o class : ℕ) → class_at m o ≡ Some class → is_staying program m demands o ≡ true
      → class_at (candidate program m demands) o ≡ Some class
  still o class h lives = by (object_at m o) refl h
    where
      by : (x : Option Object) → object_at m o ≡ x → option_map (λ (ob : Object). ob.class) x ≡ Some class
          → class_at (candidate program m demands) o ≡ Some class
      by None is e = absurd (none-some class e)
      by (Some was) is e = elim (cases_lt o (length m.objects)) [
        | inl within ↦ ap (λ (x : Option Object). option_map (λ (ob : Object). ob.class) x)
            (old_there program m (is_staying program m demands) (demanded_claims program m demands)
            (demanded_fresh program m demands) o was within is lives) ∙ e
        | inr le ↦ absurd (none-some was (sym (get_or_past m.objects o None le) ∙ is))
      ]

  -- an object of the target that is there stays
  pub stays_there : (o class was : ℕ) → class_at (candidate program m demands) o ≡ Some class → class_at m o ≡ Some was
      → is_staying program m demands o ≡ true
  stays_there o class was h before_is = by (before o class h)
    where
      by : Before o class → is_staying program m demands o ≡ true
      by (Before.old is lives) = lives
      by (Before.new gone) = absurd (none-some was (sym (ap (λ (x : Option Object). option_map (λ (ob : Object). ob.class) x) gone) ∙ before_is))

  -- ---- slots

  pub slotted : IsSlotted (candidate program m demands)
  slotted o ob h = slots_long program m (is_staying program m demands) (demanded_claims program m demands)
      (demanded_fresh program m demands) enough o ob h

  pub slot_of_class : (o p class : ℕ) → class_at (candidate program m demands) o ≡ Some class → Contains (props_of m.meta class) p
      → slot_in m.meta p (object_at (candidate program m demands) o) ≡ slot_with (made_contents program m demands o p)
  slot_of_class o p class is has = slot_is program m (is_staying program m demands) (demanded_claims program m demands)
      (demanded_fresh program m demands) enough o p class is has

  pub values_are : (o p class : ℕ) → class_at (candidate program m demands) o ≡ Some class → Contains (props_of m.meta class) p
      → values_at (candidate program m demands) o p ≡ filter_map value_held (made_contents program m demands o p)
  values_are o p class is has = ap (λ (s : Slot). s.values) (slot_of_class o p class is has)

  pub partners_are : (o p class : ℕ) → class_at (candidate program m demands) o ≡ Some class → Contains (props_of m.meta class) p
      → partners_at (candidate program m demands) o p ≡ filter_map partner_held (made_contents program m demands o p)
  partners_are o p class is has = ap (λ (s : Slot). s.partners) (slot_of_class o p class is has)

  -- each once
  pub once_in_slot : (o p class : ℕ) → class_at (candidate program m demands) o ≡ Some class → Contains (props_of m.meta class) p
      → AllLater (λ (h i : Held ℕ). h ≢ i) (made_contents program m demands o p)
  once_in_slot o p class is has = contents_once program m demands o p (by (before o class is))
    where
      by_kind : class_at m o ≡ Some class → (t : Bool) → is_class_type (type_of m.meta p) ≡ t
          → AllLater (λ (h i : Held ℕ). h ≢ i) (held_in program m o p)
      by_kind was true kind =
          let reference : IsReferenceOf m o p = record { class = class; class_is = was; has = has; reference = kind } in
          references_once program m o p kind (placeable.kept.references o p reference).distinct
      by_kind was false kind =
          let attribute : IsAttributeOf m o p = record { class = class; class_is = was; has = has; attribute = kind } in
          attributes_once program m o p kind (placeable.kept.attributes o p attribute).values.distinct

      by : Before o class → AllLater (λ (h i : Held ℕ). h ≢ i) (held_in program m o p)
      by (Before.old was lives) = by_kind was (is_class_type (type_of m.meta p)) refl
      by (Before.new gone) = nothing_once program m o p gone

  -- ---- links

  -- the slot of a link: one of a property of the object's class, which holds the partner
  pub record IsHeldLink (p a b : ℕ) : Type 0 where
    pub class : ℕ
    pub class_is : class_at (candidate program m demands) a ≡ Some class
    pub has : Contains (props_of m.meta class) p
    pub within : Contains (made_contents program m demands a p) (Held.object b)

  pub link_from : (p a b : ℕ) → IsLinked (candidate program m demands) p a b → IsHeldLink p a b
  link_from p a b h =
      let (class, class_is, has) = linked_at (candidate program m demands) p a b slotted h in
      let (i, there, is) = from_filter_map partner_held (made_contents program m demands a p) b
      (subst (λ (xs : List ℕ). Contains xs b) (partners_are a p class class_is has) h) in
      record {
        class = class;
        class_is = class_is;
        has = has;
        within = subst (Contains (made_contents program m demands a p))
            (partner_is i b is) there;
      }

  pub link_to : (p a b class : ℕ) → class_at (candidate program m demands) a ≡ Some class → Contains (props_of m.meta class) p
      → Contains (made_contents program m demands a p) (Held.object b) → IsLinked (candidate program m demands) p a b
  link_to p a b class is has within =
      subst (λ (xs : List ℕ). Contains xs b) (sym (partners_are a p class is has))
      (in_filter_map partner_held (made_contents program m demands a p) (Held.object b) b within refl)
