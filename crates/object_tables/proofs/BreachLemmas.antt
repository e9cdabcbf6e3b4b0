-- Where bounds are broken: what of the tables is counted, and the properties of an object in their order.
use Rattle.std.proofs.Common.{◌≡◌, ℕ, ◌<◌, ◌≤◌, zero, suc, List, [], ◌∷◌, length, get_or, refl, ap, sym, ◌∙◌, subst, arith, Some, Bool, true, false, cond, eq-eqb}
use Rattle.std.specs.Prelude.{Contains, ◌==◌}
use Rattle.std.proofs.lemmas.List.{length-map, get_or-map}
use Rattle.mof_metamodel.specs.declared.desc.ClassId.{ClassId}
use Rattle.mof_metamodel.specs.declared.desc.PropId.{PropId}
use Rattle.mof_metamodel.specs.declared.desc.MetaDesc.{MetaDesc}
use Rattle.mof_metamodel.specs.declared.desc.PropType.{PropType}
use Rattle.mof_metamodel.specs.declared.desc.PropType.TheVariants as types
use Rattle.mof_metamodel.specs.Metamodels.{props_of, type_of}
use Rattle.mof_metamodel.specs.Tables.{prop_numbers}
use Rattle.object_tables.specs.Rows.{Row, place_at, joined_at}
use Rattle.object_tables.specs.Tied.{near}
use Rattle.object_tables.specs.Models.{ModelData, class_at, is_class_type, index_of, values_at, partners_at, IsLive}
use Rattle.object_tables.specs.Places.{IsPlaceOf}
use Rattle.object_tables.specs.Validity.{IsPropertyOf, count_at, KeepsBounds, IsKeptBefore}
use Rattle.object_tables.proofs.ModelLemmas.{seen, values_seen, live_from_class, same_class, index-found}
use Rattle.object_tables.proofs.ContainerLemmas.{place_partners}

-- ---- counts

counted : (v : ModelData) (o p : ℕ) (b : Bool) → is_class_type (type_of v.meta p) ≡ b → cond b (length (partners_at v o p)) (length (values_at v o p)) ≡ count_at v o p
counted v o p b e = ap (λ (x : Bool). cond x (length (partners_at v o p)) (length (values_at v o p))) (sym e)

type_seen : (meta : MetaDesc) (rows : List Row) (v : ModelData) (p : ℕ) (t : PropType) → seen meta rows ≡ v → type_of meta p ≡ Some t → is_class_type (type_of v.meta p) ≡ is_class_type (Some t)
type_seen meta rows v p t e h = ap (λ (x : ModelData). is_class_type (type_of x.meta p)) (sym e) ∙ ap is_class_type h

-- at a reference the places that its place is joined to
pub count-joined : (meta : MetaDesc) (rows : List Row) (v : ModelData) (o p place : ℕ) (t : PropType) → seen meta rows ≡ v → IsPlaceOf v o p place → type_of meta p ≡ Some t → is_class_type (Some t) ≡ true
    → length (joined_at rows o place) ≡ count_at v o p
count-joined meta rows v o p place t e s ht reference =
    sym (length-map (joined_at rows o place) (λ x. x.0))
    ∙ ap length (sym (place_partners meta rows v o p place e s))
    ∙ counted v o p true (type_seen meta rows v p t e ht ∙ reference)

-- at an attribute the values at its place
pub count-values : (meta : MetaDesc) (rows : List Row) (v : ModelData) (o p place : ℕ) (t : PropType) → seen meta rows ≡ v → IsPlaceOf v o p place → type_of meta p ≡ Some t → is_class_type (Some t) ≡ false
    → length (place_at rows o place).values ≡ count_at v o p
count-values meta rows v o p place t e s ht attribute =
    ap (λ k. length (place_at rows o k).values) (s.place_is ∙ ap (λ (x : ModelData). near x.meta s.class p) (sym e))
    ∙ ap length (sym (values_seen meta rows v o p s.class e s.class_is))
    ∙ counted v o p false (type_seen meta rows v p t e ht ∙ attribute)

pub no_class_type : (t : PropType) → ((c : ClassId) → t ≡ types.Class c → ⊥) → is_class_type (Some t) ≡ false
no_class_type types.Str h = refl
no_class_type types.Int h = refl
no_class_type types.Bool h = refl
no_class_type (types.Enum e) h = refl
no_class_type (types.Class c) h = absurd (h c refl)

-- ---- properties in class order

index-least : (xs : List ℕ) (i p d : ℕ) → i < length xs → get_or xs i d ≡ p → index_of xs p ≤ i
index-least [] i p d l e = absurd (omega arith)
index-least (x ∷ xs) zero p d l e = by_test (x == p) (eq-eqb x p e) where
  by_test : (b : Bool) → b ≡ true → cond b 0 (suc (index_of xs p)) ≤ 0
  by_test true h = omega arith
  by_test false h = absurd cc
index-least (x ∷ xs) (suc i) p d l e = by_test (x == p) (index-least xs i p d (omega arith) e) where
  by_test : (b : Bool) → index_of xs p ≤ i → cond b 0 (suc (index_of xs p)) ≤ suc i
  by_test true h = omega arith
  by_test false h = omega arith

keeps_if : (m : ModelData) (o p : ℕ) → (IsPropertyOf m o p → KeepsBounds m o p) → KeepsBounds m o p
keeps_if m o p h = record { lower = λ few. (h few.property).lower few; upper = λ many. (h many.property).upper many }

-- where no object is, no bound is broken
pub keeps-gone : (m : ModelData) (o p : ℕ) → ¬ IsLive m o → KeepsBounds m o p
keeps-gone m o p gone = keeps_if m o p (λ h. absurd (gone (live_from_class m o h.class h.class_is)))

-- the bounds are kept at all properties, where they are at each of the object's class
pub keeps-all : (m : ModelData) (o c : ℕ) (props : List PropId) (d : PropId) → class_at m o ≡ Some c → prop_numbers props ≡ props_of m.meta c
    → ((k : ℕ) → k < length props → KeepsBounds m o (get_or props k d).0) → (p : ℕ) → KeepsBounds m o p
keeps-all m o c props d h e each p = keeps_if m o p at where
  at : IsPropertyOf m o p → KeepsBounds m o p
  at q =
      let same : props_of m.meta q.class ≡ prop_numbers props = ap (props_of m.meta) (same_class m o q.class c q.class_is h) ∙ sym e in
      let (k, l, g) = subst (λ xs. Contains xs p) same q.has in
      let len = length-map props (λ x. x.0) in
      subst (λ x. KeepsBounds m o x) (sym (get_or-map (λ x. x.0) props k d p (omega arith)) ∙ g) (each k (omega arith))

-- the bounds are kept before a property, where they are at those that stand before it and at the objects before
pub kept-before : (m : ModelData) (o c i : ℕ) (props : List PropId) (d : PropId) → class_at m o ≡ Some c → prop_numbers props ≡ props_of m.meta c → i < length props
    → ((k : ℕ) → k < i → KeepsBounds m o (get_or props k d).0) → ((a q : ℕ) → a < o → KeepsBounds m a q) → IsKeptBefore m o (get_or props i d).0
kept-before m o c i props d h e l each before = record { objects = before; properties = at } where
  at : (k q : ℕ) → class_at m o ≡ Some k → index_of (props_of m.meta k) q < index_of (props_of m.meta k) (get_or props i d).0 → KeepsBounds m o q
  at k q hk lt =
      let len : length (prop_numbers props) ≡ length props = length-map props (λ x. x.0) in
      let same : props_of m.meta k ≡ prop_numbers props = ap (props_of m.meta) (same_class m o k c hk h) ∙ sym e in
      let lt' : index_of (prop_numbers props) q < index_of (prop_numbers props) (get_or props i d).0 = subst (λ xs. index_of xs q < index_of xs (get_or props i d).0) same lt in
      let le : index_of (prop_numbers props) (get_or props i d).0 ≤ i = index-least (prop_numbers props) i (get_or props i d).0 d.0 (omega arith) (get_or-map (λ x. x.0) props i d d.0 l) in
      let here : (get_or props (index_of (prop_numbers props) q) d).0 ≡ q =
      sym (get_or-map (λ x. x.0) props (index_of (prop_numbers props) q) d 0 (omega arith)) ∙ index-found (prop_numbers props) q 0 (omega arith) in
      subst (λ x. KeepsBounds m o x) here (each (index_of (prop_numbers props) q) (omega arith))
