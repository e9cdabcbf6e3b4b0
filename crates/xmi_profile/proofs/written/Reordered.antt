-- The model whose objects are numbered by a list of all of them: it is valid where the other is, and the same where the objects that
-- nothing contains come in one order.
use Rattle.std.proofs.Common.{◌≡◌, ℕ, zero, suc, ◌+◌, ◌<◌, ◌≤◌, Bool, true, false, cond, List, [], ◌∷◌, length, get_or, map, refl, sym, ◌∙◌, ap, ap₂, subst, arith, Option, None, Some, inl, inr}
use Rattle.std.specs.Prelude.{AllPairs, Contains, IsSome, filter}
use Rattle.std.specs.List.{range_with_len}
use Rattle.std.specs.Option.{option_map}
use Rattle.std.proofs.lemmas.Bool.{cases_lt, cases_order}
use Rattle.std.proofs.lemmas.List.{get_or-map, length-map, get_or_past}
use Rattle.std.proofs.lemmas.List.Elements.{Contains-get_or}
use Rattle.std.proofs.lemmas.List.FromFn.{length-range_with_len, get_or-range_with_len}
use Rattle.object_tables.specs.declared.limit.TheConstants.{MAX_DEPTH}
use Rattle.mof_metamodel.specs.Metamodels.{prop_at, type_of}
use Rattle.mof_metamodel.proofs.DistinctLemmas.{IsOnce}
use Rattle.object_tables.specs.Containment.{IsContainer, IsContainerPath, IsDepth}
use Rattle.object_tables.specs.Kept.{Kept, IsWellObject, IsWellAttribute, IsWellReference}
use Rattle.object_tables.specs.Models.{ModelData, object_at, class_at, id_at, values_at, partners_at, slot_in, no_slot, index_of, is_class_type, IsLive, IsLinked, IsAttributeOf, IsReferenceOf, IsPartnerFor, IsSlotOf, IsContainedIn, IsTop}
use Rattle.object_tables.specs.Objects.{Object, Slot}
use Rattle.object_tables.specs.Sameness.{IsSame}
use Rattle.object_tables.specs.Validity.{IsPropertyOf, count_at, KeepsBounds, Valid}
use Rattle.object_tables.proofs.ContainmentLemmas.{live-below, path-live}
use Rattle.object_tables.proofs.KeptLemmas.{sound_of, linked_reference, linked_partner}
use Rattle.mof_metamodel.proofs.Facts.{contains_map}
use Rattle.object_tables.proofs.ModelLemmas.{index-within, index-found, live_from_class, live_from_id}
use Rattle.model_assembly.proofs.assembling.ListLaws.{contains_tail}
use Rattle.mof_metamodel.proofs.Facts.{contains_first}
use Rattle.xmi_profile.proofs.WritingModels.{filtered}

-- ---- lists

get_or_mapped : {X Y : Type 0} (f : X → Y) (xs : List X) (i : ℕ) (d : X) → get_or (map f xs) i (f d) ≡ f (get_or xs i d)
get_or_mapped f [] i d = refl
get_or_mapped f (x ∷ xs) zero d = refl
get_or_mapped f (x ∷ xs) (suc i) d = get_or_mapped f xs i d

mapped_from : (f : ℕ → ℕ) (xs : List ℕ) (y : ℕ) → Contains (map f xs) y → (x : ℕ) × Contains xs x × (f x ≡ y)
mapped_from f [] y (i, l, e) = absurd (omega (arith, l))
mapped_from f (x ∷ xs) y (zero, l, e) = (x, contains_first x xs, e)
mapped_from f (x ∷ xs) y (suc i, l, e) =
    let (z, c, h) = mapped_from f xs y (i, omega (arith, l), e) in
    (z, contains_tail x z xs c, h)

-- in a list without repeats a number's place is found
pub index_at : (xs : List ℕ) (i : ℕ) → IsOnce xs → i < length xs → index_of xs (get_or xs i 0) ≡ i
index_at xs i once l =
    let x : ℕ = get_or xs i 0 in
    let there : Contains xs x = Contains-get_or xs i 0 l in
    let within : index_of xs x < length xs = index-within xs x there in
    let same : get_or xs (index_of xs x) 0 ≡ x = index-found xs x 0 within in
    elim (cases_order (index_of xs x) i) [
      | inl e ↦ e
      | inr other ↦ (elim other [
        | inl before ↦ absurd (once (index_of xs x) i 0 before l same)
        | inr behind ↦ absurd (once i (index_of xs x) 0 behind within (sym same))
      ])
    ]

-- numbers that rise
abbrev pub Rising : List ℕ → Type 0
Rising [] = Unit {0}
Rising (x ∷ xs) = ((y : ℕ) → Contains xs y → x < y) × Rising xs

pub rising_filter : (p : ℕ → Bool) (xs : List ℕ) → Rising xs → Rising (filter p xs)
rising_filter p [] r = tt
rising_filter p (x ∷ xs) r = by (p x) (rising_filter p xs r.1)
  where
    by : (b : Bool) → Rising (filter p xs) → Rising (cond b (x ∷ filter p xs) (filter p xs))
    by true h = (λ y c. r.0 y (filtered p xs y c).0, h)
    by false h = h

pub rising_all : (xs : List ℕ) → AllPairs (λ x y. x < y) xs → Rising xs
rising_all [] h = tt
rising_all (x ∷ xs) h = (
  λ y (i, l, e). subst (λ z. x < z) e (h 0 (suc i) y (omega arith) (omega (arith, l))),
  rising_all xs (λ i j d l lj. h (suc i) (suc j) d (omega (arith, l)) (omega (arith, lj))),
)

pub range_rises : (n : ℕ) → Rising (range_with_len 0 n)
range_rises n = rising_all (range_with_len 0 n) (λ i j d l lj.
    let count = length-range_with_len 0 n in
    let left : get_or (range_with_len 0 n) i d ≡ 0 + i = get_or-range_with_len 0 n i d (omega (arith, l, lj, count)) in
    let right : get_or (range_with_len 0 n) j d ≡ 0 + j = get_or-range_with_len 0 n j d (omega (arith, lj, count)) in
    omega (arith, left, right, l))

-- a list of all objects, each once
pub record IsNumbering (m : ModelData) (order : List ℕ) : Type 0 where
  pub once : IsOnce order
  pub all : (o : ℕ) → IsLive m o → Contains order o
  pub live : (o : ℕ) → Contains order o → IsLive m o

module _ (m : ModelData) (order : List ℕ) where
  abbrev pub image : ℕ → ℕ
  image o = index_of order o

  abbrev pub origin : ℕ → ℕ
  origin q = get_or order q 0

  abbrev pub moved_slot : Slot → Slot
  moved_slot s = record { values = s.values; partners = map image s.partners }

  abbrev pub moved : Option Object → Option Object
  moved None = None
  moved (Some object) = Some (record { class = object.class; id = object.id; slots = map moved_slot object.slots })

  abbrev pub renumbered : ModelData
  renumbered = record { meta = m.meta; objects = map (λ o. moved (object_at m o)) order }

  -- linked objects are those of a link before
  pub record IsBack (p a b : ℕ) : Type 0 where
    pub linked : IsLinked m p (origin a) (origin b)
    pub first : image (origin a) ≡ a
    pub second : image (origin b) ≡ b
    pub live : IsLive renumbered a
    pub live_partner : IsLive renumbered b

  module _ (v : Valid m) (numbering : IsNumbering m order) where
    pub image_within : (o : ℕ) → IsLive m o → image o < length order
    image_within o live = index-within order o (numbering.all o live)

    pub back : (o : ℕ) → IsLive m o → origin (image o) ≡ o
    back o live = index-found order o 0 (image_within o live)

    pub there : (q : ℕ) → q < length order → image (origin q) ≡ q
    there q l = index_at order q numbering.once l

    pub image_apart : (a b : ℕ) → IsLive m a → IsLive m b → image a ≡ image b → a ≡ b
    image_apart a b la lb e = sym (back a la) ∙ ap origin e ∙ back b lb

    pub origin_live : (q : ℕ) → q < length order → IsLive m (origin q)
    origin_live q l = numbering.live (origin q) (Contains-get_or order q 0 l)

    -- ---- what objects have

    object_there : (o : ℕ) → IsLive m o → object_at renumbered (image o) ≡ moved (object_at m o)
    object_there o live =
        get_or-map (λ x. moved (object_at m x)) order (image o) 0 None (image_within o live) ∙ ap (λ x. moved (object_at m x)) (back o live)

    moved_class : (x : Option Object) → option_map (λ ob. ob.class) (moved x) ≡ option_map (λ ob. ob.class) x
    moved_class None = refl
    moved_class (Some object) = refl

    moved_id : (x : Option Object) → option_map (λ ob. ob.id) (moved x) ≡ option_map (λ ob. ob.id) x
    moved_id None = refl
    moved_id (Some object) = refl

    moved_slots : (p : ℕ) (x : Option Object) → slot_in m.meta p (moved x) ≡ moved_slot (slot_in m.meta p x)
    moved_slots p None = refl
    moved_slots p (Some object) = get_or_mapped moved_slot object.slots _ no_slot

    moved_live : (x : Option Object) → IsSome x → IsSome (moved x)
    moved_live None h = h
    moved_live (Some object) h = refl

    pub class_there : (o : ℕ) → IsLive m o → class_at renumbered (image o) ≡ class_at m o
    class_there o live = ap (option_map (λ ob. ob.class)) (object_there o live) ∙ moved_class (object_at m o)

    pub id_there : (o : ℕ) → IsLive m o → id_at renumbered (image o) ≡ id_at m o
    id_there o live = ap (option_map (λ ob. ob.id)) (object_there o live) ∙ moved_id (object_at m o)

    slot_there : (o p : ℕ) → IsLive m o → slot_in m.meta p (object_at renumbered (image o)) ≡ moved_slot (slot_in m.meta p (object_at m o))
    slot_there o p live = ap (slot_in m.meta p) (object_there o live) ∙ moved_slots p (object_at m o)

    pub values_there : (o p : ℕ) → IsLive m o → values_at renumbered (image o) p ≡ values_at m o p
    values_there o p live = ap (λ s. s.values) (slot_there o p live)

    pub partners_there : (o p : ℕ) → IsLive m o → partners_at renumbered (image o) p ≡ map image (partners_at m o p)
    partners_there o p live = ap (λ s. s.partners) (slot_there o p live)

    pub live_there : (o : ℕ) → IsLive m o → IsLive renumbered (image o)
    live_there o live = subst IsSome (sym (object_there o live)) (moved_live (object_at m o) live)

    pub live_within : (q : ℕ) → IsLive renumbered q → q < length order
    live_within q live =
        let l = live-below renumbered q live in
        let same = length-map order (λ o. moved (object_at m o)) in
        omega (arith, l, same)

    pub image_origin : (q : ℕ) → IsLive renumbered q → image (origin q) ≡ q
    image_origin q live = there q (live_within q live)

    pub live_back : (q : ℕ) → IsLive renumbered q → IsLive m (origin q)
    live_back q live = origin_live q (live_within q live)

    class_back : (q : ℕ) → IsLive renumbered q → class_at m (origin q) ≡ class_at renumbered q
    class_back q live = sym (class_there (origin q) (live_back q live)) ∙ ap (class_at renumbered) (image_origin q live)

    partners_back : (q p : ℕ) → IsLive renumbered q → partners_at renumbered q p ≡ map image (partners_at m (origin q) p)
    partners_back q p live = ap (λ x. partners_at renumbered x p) (sym (image_origin q live)) ∙ partners_there (origin q) p (live_back q live)

    values_back : (q p : ℕ) → IsLive renumbered q → values_at renumbered q p ≡ values_at m (origin q) p
    values_back q p live = ap (λ x. values_at renumbered x p) (sym (image_origin q live)) ∙ values_there (origin q) p (live_back q live)

    pub attribute_back : (q p : ℕ) → IsAttributeOf renumbered q p → IsAttributeOf m (origin q) p
    attribute_back q p a = record { class = a.class; class_is = class_back q (live_from_class renumbered q a.class a.class_is) ∙ a.class_is; has = a.has; attribute = a.attribute }

    pub reference_back : (q p : ℕ) → IsReferenceOf renumbered q p → IsReferenceOf m (origin q) p
    reference_back q p a = record { class = a.class; class_is = class_back q (live_from_class renumbered q a.class a.class_is) ∙ a.class_is; has = a.has; reference = a.reference }

    -- ---- links

    partner_live : (o p b : ℕ) → IsLinked m p o b → IsLive m b
    partner_live o p b h = let w = linked_partner m p o b (sound_of m v.kept) h in live_from_class m b w.class w.class_is

    linked_live : (o p b : ℕ) → IsLinked m p o b → IsLive m o
    linked_live o p b h = let r = linked_reference m p o b (sound_of m v.kept) h in live_from_class m o r.class r.class_is

    pub linked_there : (p a b : ℕ) → IsLinked m p a b → IsLinked renumbered p (image a) (image b)
    linked_there p a b h =
        subst (λ xs. Contains xs (image b)) (sym (partners_there a p (linked_live a p b h))) (contains_map image (partners_at m a p) b h)

    none_past : (a p : ℕ) → length order ≤ a → partners_at renumbered a p ≡ []
    none_past a p l =
        let same = length-map order (λ o. moved (object_at m o)) in
        ap (λ x. (slot_in m.meta p x).partners) (get_or_past renumbered.objects a None (omega (arith, l, same)))

    pub linked_back : (p a b : ℕ) → IsLinked renumbered p a b → IsBack p a b
    linked_back p a b h = elim (cases_lt a (length order)) [
      | inl l ↦ (
          let live : IsLive renumbered a = subst (IsLive renumbered) (there a l) (live_there (origin a) (origin_live a l)) in
          let (c, hc, e) = mapped_from image (partners_at m (origin a) p) b (subst (λ xs. Contains xs b) (partners_back a p live) h) in
          let lc : IsLive m c = partner_live (origin a) p c hc in
          let same : origin b ≡ c = ap origin (sym e) ∙ back c lc in
          record {
            linked = subst (λ (x : ℕ). IsLinked m p (origin a) x) (sym same) hc;
            first = there a l;
            second = ap image same ∙ e;
            live = live;
            live_partner = subst (IsLive renumbered) e (live_there c lc);
          }
          )
      | inr past ↦ (let (i, li, e) = subst (λ (xs : List ℕ). Contains xs b) (none_past a p past) h in absurd (omega (arith, li)))
    ]

    contained_there : (o a p : ℕ) → IsContainedIn m o a p → IsContainedIn renumbered (image o) (image a) p
    contained_there o a p h = record { composite = h.composite; linked = linked_there p a o h.linked }

    contained_back : (o a p : ℕ) → IsContainedIn renumbered o a p → IsContainedIn m (origin o) (origin a) p
    contained_back o a p h = record { composite = h.composite; linked = (linked_back p a o h.linked).linked }

    -- ---- the same model

    pub same_model : ((a b : ℕ) → IsLive m a → IsTop m a → IsLive m b → IsTop m b → a < b → image a < image b) → IsSame m renumbered
    same_model tops = record {
      meta = refl;
      image = image;
      origin = origin;
      bijection = record { live = live_there; covered = live_back; back = back; there = image_origin };
      classes = class_there;
      identifiers = id_there;
      values = λ o p a. values_there o p (live_from_class m o a.class a.class_is);
      partners = λ o p a. partners_there o p (live_from_class m o a.class a.class_is);
      tops = tops;
    }

    -- ---- it is valid

    well_moved : (x : Option Object) (object : Object) → moved x ≡ Some object → ((other : Object) → x ≡ Some other → IsWellObject m.meta other) → IsWellObject m.meta object
    well_moved None object e h = absurd cc
    well_moved (Some other) object e h =
        let w : IsWellObject m.meta other = h other refl in
        let same : record { class = other.class; id = other.id; slots = map moved_slot other.slots } ≡ object = ap (λ x. unwrap x object) e in
        subst (IsWellObject m.meta) same (record { class = w.class; concrete = w.concrete; identifier = w.identifier; slots = length-map other.slots moved_slot ∙ w.slots })
      where
        unwrap : Option Object → Object → Object
        unwrap None d = d
        unwrap (Some x) d = x

    live_object : (q : ℕ) (object : Object) → object_at renumbered q ≡ Some object → IsLive renumbered q
    live_object q object e = live_from_class renumbered q object.class (ap (option_map (λ ob. ob.class)) e)

    pub distinct_images : (bs : List ℕ) → ((b : ℕ) → Contains bs b → IsLive m b) → IsOnce bs → IsOnce (map image bs)
    distinct_images bs live apart i j d l lj same =
        let count = length-map bs image in
        let li : i < length bs = omega (arith, l, lj, count) in
        let lk : j < length bs = omega (arith, lj, count) in
        let left : get_or (map image bs) i d ≡ image (get_or bs i 0) = get_or-map image bs i 0 d li in
        let right : get_or (map image bs) j d ≡ image (get_or bs j 0) = get_or-map image bs j 0 d lk in
        apart i j 0 l lk (image_apart (get_or bs i 0) (get_or bs j 0) (live (get_or bs i 0) (Contains-get_or bs i 0 li)) (live (get_or bs j 0) (Contains-get_or bs j 0 lk)) (sym left ∙ same ∙ right))

    well_attribute : (q p : ℕ) → IsAttributeOf renumbered q p → IsWellAttribute renumbered q p
    well_attribute q p a =
        let live = live_from_class renumbered q a.class a.class_is in
        let w : IsWellAttribute m (origin q) p = v.kept.attributes (origin q) p (attribute_back q p a) in
        record { values = subst (λ vs. IsSlotOf m.meta p vs) (sym (values_back q p live)) w.values; partners = partners_back q p live ∙ ap (map image) w.partners }

    well_reference : (q p : ℕ) → IsReferenceOf renumbered q p → IsWellReference renumbered q p
    well_reference q p a =
        let live = live_from_class renumbered q a.class a.class_is in
        let w : IsWellReference m (origin q) p = v.kept.references (origin q) p (reference_back q p a) in
        record {
          values = values_back q p live ∙ w.values;
          partners = λ b h.
              let k : IsBack p q b = linked_back p q b h in
              let partner : IsPartnerFor m p (origin b) = w.partners (origin b) k.linked in
              record { class = partner.class; class_is = sym (class_back b k.live_partner) ∙ partner.class_is; conforms = partner.conforms };
          distinct = subst IsOnce (sym (partners_back q p live)) (distinct_images (partners_at m (origin q) p) (λ b h. partner_live (origin q) p b h) w.distinct);
        }

    one_way : (p q a b : ℕ) → ((a b : ℕ) → IsLinked m p a b → IsLinked m q b a) → IsLinked renumbered p a b → IsLinked renumbered q b a
    one_way p q a b h l =
        let k : IsBack p a b = linked_back p a b l in
        subst (λ (x : ℕ). IsLinked renumbered q x a) k.second (subst (λ (x : ℕ). IsLinked renumbered q (image (origin b)) x) k.first (linked_there q (origin b) (origin a) (h (origin a) (origin b) k.linked)))

    pub kept_there : Kept renumbered
    kept_there = record {
      well = v.kept.well;
      objects = λ q object e.
          let live = live_object q object e in
          well_moved (object_at m (origin q)) object (sym (object_there (origin q) (live_back q live)) ∙ ap (object_at renumbered) (image_origin q live) ∙ e) (v.kept.objects (origin q));
      identifiers = λ a b id ea eb.
          let la : IsLive renumbered a = live_from_id renumbered a id ea in
          let lb : IsLive renumbered b = live_from_id renumbered b id eb in
          sym (image_origin a la)
          ∙ ap image (v.kept.identifiers (origin a) (origin b) id (sym (id_there (origin a) (live_back a la)) ∙ ap (id_at renumbered) (image_origin a la) ∙ ea) (sym (id_there (origin b) (live_back b lb)) ∙ ap (id_at renumbered) (image_origin b lb) ∙ eb))
          ∙ image_origin b lb;
      attributes = well_attribute;
      references = well_reference;
      opposites = λ p q a b e. (
        one_way p q a b (λ x y. (v.kept.opposites p q x y e).0),
        one_way q p b a (λ x y. (v.kept.opposites p q y x e).1),
      );
      containers = λ o a b p q g h.
          let x : IsBack p a o = linked_back p a o g.linked in
          let y : IsBack q b o = linked_back q b o h.linked in
          let same = v.kept.containers (origin o) (origin a) (origin b) p q (contained_back o a p g) (contained_back o b q h) in
          (sym x.first ∙ ap image same.0 ∙ y.first, same.1);
    }

    property_back : (q p : ℕ) → IsPropertyOf renumbered q p → IsPropertyOf m (origin q) p
    property_back q p r = record { class = r.class; class_is = class_back q (live_from_class renumbered q r.class r.class_is) ∙ r.class_is; has = r.has }

    count_back : (q p : ℕ) → IsLive renumbered q → count_at renumbered q p ≡ count_at m (origin q) p
    count_back q p live =
        ap₂ (λ (s t : ℕ). cond (is_class_type (type_of m.meta p)) s t) (ap length (partners_back q p live) ∙ length-map (partners_at m (origin q) p) image) (ap length (values_back q p live))

    bounds_there : (q p : ℕ) → KeepsBounds renumbered q p
    bounds_there q p = record {
      lower = λ few.
          let r : IsPropertyOf m (origin q) p = property_back q p few.property in
          let live : IsLive renumbered q = live_from_class renumbered q few.property.class few.property.class_is in
          (v.bounds (origin q) p).lower (record { property = r; below = subst (λ (n : ℕ). n < (prop_at m.meta p).lower) (count_back q p live) few.below });
      upper = λ many.
          let r : IsPropertyOf m (origin q) p = property_back q p many.property in
          let live : IsLive renumbered q = live_from_class renumbered q many.property.class many.property.class_is in
          (v.bounds (origin q) p).upper (record { property = r; bound = many.bound; bound_is = many.bound_is; above = subst (λ (n : ℕ). many.bound < n) (count_back q p live) many.above });
    }

    container_back : (o a : ℕ) → IsContainer renumbered o a → IsContainer m (origin o) (origin a)
    container_back o a (p, h) = (p, contained_back o a p h)

    path_back : (o : ℕ) (path : List ℕ) (a : ℕ) → IsContainerPath renumbered o path a → IsContainerPath m (origin o) (map origin path) (origin a)
    path_back o [] a same = ap origin same
    path_back o (b ∷ path) a (first, rest) = (container_back o b first, path_back b path a rest)

    pub valid_there : Valid renumbered
    valid_there = record {
      kept = kept_there;
      bounds = bounds_there;
      acyclic = λ o (a, path, first, rest). v.acyclic (origin o) (origin a, map origin path, container_back o a first, path_back a path o rest);
    }

    top_back : (q : ℕ) → IsLive renumbered q → IsTop renumbered q → IsTop m (origin q)
    top_back q live top a p h = top (image a) p (subst (λ (x : ℕ). IsContainedIn renumbered x (image a) p) (image_origin q live) (contained_there (origin q) a p h))

    pub depth_there : ((o d : ℕ) → IsLive m o → IsDepth m o d → d ≤ MAX_DEPTH) → (q d : ℕ) → IsLive renumbered q → IsDepth renumbered q d → d ≤ MAX_DEPTH
    depth_there shallow q d live (path, top, up, is_top, e) =
        shallow (origin q) d (live_back q live)
        (map origin path, origin top, path_back q path top up, top_back top (path-live renumbered q path top live up) is_top, e ∙ ap suc (sym (length-map path origin)))
