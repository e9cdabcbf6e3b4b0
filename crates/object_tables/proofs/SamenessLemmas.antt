-- Laws of sameness.
use Rattle.std.proofs.Common.{◌≡◌, ℕ, ◌<◌, List, [], ◌∷◌, map, refl, ap, sym, ◌∙◌, subst, arith, Some, true, false, inl, inr}
use Rattle.std.specs.Prelude.{Contains}
use Rattle.std.proofs.lemmas.Bool.{cases_lt, cases_eq}
use Rattle.mof_metamodel.specs.declared.desc.MetaDesc.{MetaDesc}
use Rattle.mof_metamodel.specs.Metamodels.{props_of, prop_at, type_of}
use Rattle.object_tables.specs.Models.{ModelData, class_at, id_at, values_at, partners_at, is_class_type, IsLive, IsLinked, IsAttributeOf, IsReferenceOf, IsTop}
use Rattle.object_tables.specs.Kept.{Kept}
use Rattle.object_tables.specs.Sameness.{IsSame}
use Rattle.mof_metamodel.proofs.Facts.{contains_map}
use Rattle.object_tables.proofs.MapLemmas.{map-map, map-back}
use Rattle.object_tables.proofs.ModelLemmas.{live_from_class}
use Rattle.object_tables.proofs.KeptLemmas.{sound_of, linked_reference, linked_partner}

map_itself : (xs : List ℕ) → xs ≡ map (λ x. x) xs
map_itself [] = refl
map_itself (x ∷ xs) = ap (λ ys. x ∷ ys) (map_itself xs)

-- a model is the same as itself
pub same_as_itself : (m : ModelData) → IsSame m m
same_as_itself m = record {
  meta = refl;
  image = λ o. o;
  origin = λ o. o;
  bijection = record { live = λ o l. l; covered = λ o l. l; back = λ o l. refl; there = λ o l. refl };
  classes = λ o l. refl;
  identifiers = λ o l. refl;
  values = λ o p h. refl;
  partners = λ o p h. map_itself (partners_at m o p);
  tops = λ a b la ta lb tb l. l;
}

pub same_as_equal : (m n : ModelData) → n ≡ m → IsSame m n
same_as_equal m n e = subst (λ x. IsSame m x) (sym e) (same_as_itself m)

-- ---- the way back

-- an object of the other model with an attribute or a reference has its origin there
attribute_back : (m n : ModelData) (s : IsSame m n) (o p : ℕ) → IsAttributeOf n o p → IsAttributeOf m (s.origin o) p
attribute_back m n s o p a =
    let l : IsLive n o = live_from_class n o a.class a.class_is in
    let class : class_at m (s.origin o) ≡ Some a.class = sym (s.classes (s.origin o) (s.bijection.covered o l)) ∙ ap (class_at n) (s.bijection.there o l) ∙ a.class_is in
    record {
      class = a.class;
      class_is = class;
      has = subst (λ d. Contains (props_of d a.class) p) s.meta a.has;
      attribute = subst (λ (d : MetaDesc). is_class_type (type_of d p) ≡ false) s.meta a.attribute;
    }

reference_back : (m n : ModelData) (s : IsSame m n) (o p : ℕ) → IsReferenceOf n o p → IsReferenceOf m (s.origin o) p
reference_back m n s o p a =
    let l : IsLive n o = live_from_class n o a.class a.class_is in
    let class : class_at m (s.origin o) ≡ Some a.class = sym (s.classes (s.origin o) (s.bijection.covered o l)) ∙ ap (class_at n) (s.bijection.there o l) ∙ a.class_is in
    record {
      class = a.class;
      class_is = class;
      has = subst (λ d. Contains (props_of d a.class) p) s.meta a.has;
      reference = subst (λ (d : MetaDesc). is_class_type (type_of d p) ≡ true) s.meta a.reference;
    }

live_linked : (m : ModelData) (p a b : ℕ) → Kept m → IsLinked m p a b → IsLive m b
live_linked m p a b k h = let w = linked_partner m p a b (sound_of m k) h in live_from_class m b w.class w.class_is

partners_back : (m n : ModelData) (s : IsSame m n) (o p : ℕ) → Kept m → IsReferenceOf n o p → partners_at m (s.origin o) p ≡ map s.origin (partners_at n o p)
partners_back m n s o p k r =
    let l : IsLive n o = live_from_class n o r.class r.class_is in
    let there : partners_at n o p ≡ map s.image (partners_at m (s.origin o) p) =
    ap (λ z. partners_at n z p) (sym (s.bijection.there o l)) ∙ s.partners (s.origin o) p (reference_back m n s o p r) in
    sym (ap (map s.origin) there ∙ map-back s.image s.origin (partners_at m (s.origin o) p) (λ b c. s.bijection.back b (live_linked m p (s.origin o) b k c)))

-- what is top is the image of a top object
top_back : (m n : ModelData) (s : IsSame m n) (a : ℕ) → Kept m → IsLive m a → IsTop n (s.image a) → IsTop m a
top_back m n s a k l top x p h =
    let r : IsReferenceOf m x p = linked_reference m p x a (sound_of m k) h.linked in
    top (s.image x) p (record {
      composite = subst (λ (d : MetaDesc). (prop_at d p).composite ≡ true) (sym s.meta) h.composite;
      linked = subst (λ xs. Contains xs (s.image a)) (sym (s.partners x p r)) (contains_map s.image (partners_at m x p) a h.linked);
    })

-- sameness goes both ways
pub same_back : (m n : ModelData) → Kept m → IsSame m n → IsSame n m
same_back m n k s = record {
  meta = sym s.meta;
  image = s.origin;
  origin = s.image;
  bijection = record { live = s.bijection.covered; covered = s.bijection.live; back = s.bijection.there; there = s.bijection.back };
  classes = λ o l. sym (s.classes (s.origin o) (s.bijection.covered o l)) ∙ ap (class_at n) (s.bijection.there o l);
  identifiers = λ o l. sym (s.identifiers (s.origin o) (s.bijection.covered o l)) ∙ ap (id_at n) (s.bijection.there o l);
  values = λ o p a.
      let l : IsLive n o = live_from_class n o a.class a.class_is in
      sym (s.values (s.origin o) p (attribute_back m n s o p a)) ∙ ap (λ z. values_at n z p) (s.bijection.there o l);
  partners = λ o p r. partners_back m n s o p k r;
  tops = λ a b la ta lb tb l. elim (cases_lt (s.origin a) (s.origin b)) [
    | inl less ↦ less
    | inr le ↦ elim (cases_eq (s.origin a) (s.origin b)) [
      | inl same ↦ absurd (let e : a ≡ b = sym (s.bijection.there a la) ∙ ap s.image same ∙ s.bijection.there b lb in omega arith)
      | inr other ↦ absurd (
          let ma : IsLive m (s.origin a) = s.bijection.covered a la in
          let mb : IsLive m (s.origin b) = s.bijection.covered b lb in
          let ra : IsTop m (s.origin a) = top_back m n s (s.origin a) k ma (subst (IsTop n) (sym (s.bijection.there a la)) ta) in
          let rb : IsTop m (s.origin b) = top_back m n s (s.origin b) k mb (subst (IsTop n) (sym (s.bijection.there b lb)) tb) in
          let more : s.image (s.origin b) < s.image (s.origin a) = s.tops (s.origin b) (s.origin a) mb rb ma ra (omega arith) in
          let ea = s.bijection.there a la in
          let eb = s.bijection.there b lb in
          omega arith)
    ]
  ];
}

-- ---- one after another

attribute_there : (m n : ModelData) (s : IsSame m n) (o p : ℕ) → IsAttributeOf m o p → IsAttributeOf n (s.image o) p
attribute_there m n s o p a = record {
  class = a.class;
  class_is = s.classes o (live_from_class m o a.class a.class_is) ∙ a.class_is;
  has = subst (λ d. Contains (props_of d a.class) p) (sym s.meta) a.has;
  attribute = subst (λ (d : MetaDesc). is_class_type (type_of d p) ≡ false) (sym s.meta) a.attribute;
}

reference_there : (m n : ModelData) (s : IsSame m n) (o p : ℕ) → IsReferenceOf m o p → IsReferenceOf n (s.image o) p
reference_there m n s o p a = record {
  class = a.class;
  class_is = s.classes o (live_from_class m o a.class a.class_is) ∙ a.class_is;
  has = subst (λ d. Contains (props_of d a.class) p) (sym s.meta) a.has;
  reference = subst (λ (d : MetaDesc). is_class_type (type_of d p) ≡ true) (sym s.meta) a.reference;
}

-- the image of what is top is top
top_there : (m n : ModelData) (s : IsSame m n) (a : ℕ) → Kept m → Kept n → IsLive m a → IsTop m a → IsTop n (s.image a)
unfolding same_back
top_there m n s a k kn l top =
    top_back n m (same_back m n k s) (s.image a) kn (s.bijection.live a l) (subst (IsTop m) (sym (s.bijection.back a l)) top)

pub same_through : (m n q : ModelData) → Kept m → Kept n → IsSame m n → IsSame n q → IsSame m q
same_through m n q k kn s t = record {
  meta = t.meta ∙ s.meta;
  image = λ o. t.image (s.image o);
  origin = λ o. s.origin (t.origin o);
  bijection = record {
    live = λ o l. t.bijection.live (s.image o) (s.bijection.live o l);
    covered = λ o l. s.bijection.covered (t.origin o) (t.bijection.covered o l);
    back = λ o l. ap s.origin (t.bijection.back (s.image o) (s.bijection.live o l)) ∙ s.bijection.back o l;
    there = λ o l. ap t.image (s.bijection.there (t.origin o) (t.bijection.covered o l)) ∙ t.bijection.there o l;
  };
  classes = λ o l. t.classes (s.image o) (s.bijection.live o l) ∙ s.classes o l;
  identifiers = λ o l. t.identifiers (s.image o) (s.bijection.live o l) ∙ s.identifiers o l;
  values = λ o p a. t.values (s.image o) p (attribute_there m n s o p a) ∙ s.values o p a;
  partners = λ o p r. t.partners (s.image o) p (reference_there m n s o p r) ∙ ap (map t.image) (s.partners o p r) ∙ map-map s.image t.image (partners_at m o p);
  tops = λ a b la ta lb tb l.
      t.tops (s.image a) (s.image b) (s.bijection.live a la) (top_there m n s a k kn la ta) (s.bijection.live b lb) (top_there m n s b k kn lb tb) (s.tops a b la ta lb tb l);
}
