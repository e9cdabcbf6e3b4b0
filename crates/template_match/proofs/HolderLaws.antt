-- The objects at whose property a datum stands: the partners of an object at the opposite of the property, and the objects that hold a value.
use Rattle.std.specs.Prelude.{◌≡◌, ◌↔◌, ℕ, ◌<◌, Bool, true, false, IsTrue, IfSome, List, map, length, position, nat_eq, Option, None, Some, slice_get, Contains, if◌then◌else◌}
use Rattle.std.specs.Option.{option_map}
use Rattle.std.proofs.Common.{refl, sym, ap, subst, ◌∙◌, arith, get_or}
use Rattle.std.proofs.lemmas.Bool.{true≢false, eqb-true}
use Rattle.std.proofs.lemmas.List.Quantifiers.{position-Some}
use Rattle.std.proofs.lemmas.List.{length-map}
use Rattle.mof_metamodel.specs.Metamodels.{prop_count, props_of, type_of, opposite_of}
use Rattle.mof_metamodel.specs.declared.desc.MetaDesc.{MetaDesc}
use Rattle.mof_metamodel.proofs.PropLemmas.{prop_known}
use Rattle.mof_metamodel.specs.declared.desc.ClassId.{ClassId}
use Rattle.mof_metamodel.specs.declared.desc.PropId.{PropId}
use Rattle.mof_metamodel.proofs.Facts.{contains_map}
use Rattle.object_tables.specs.declared.value.ObjId.{ObjId}
use Rattle.object_tables.specs.declared.value.Value.{Value}
use Rattle.object_tables.specs.declared.value.Value.TheVariants as values
use Rattle.object_tables.specs.Kept.{Kept}
use Rattle.object_tables.specs.Models.{ModelData, class_at, is_class_type, values_at, partners_at, IsLinked, IsReferenceOf, IsAttributeOf}
use Rattle.object_tables.proofs.ListLemmas.{Contains-from_map}
use Rattle.key_index.specs.declared.holder.Holder.{Holder}
use Rattle.key_index.specs.Holders.{AreHolders}
use Rattle.qv_syntax.specs.declared.program.Var.{Var}
use Rattle.qvtr_semantics.specs.declared.datum.Datum.{Datum}
use Rattle.qvtr_semantics.specs.declared.datum.Datum.TheVariants.{Obj, Val}
use Rattle.qvtr_semantics.specs.Outs.{and_then}
use Rattle.qvtr_semantics.specs.Objects.{Setting, is_number_among, object_datum, value_datum, meta_of, data_at, held_by, held_at, extent_of}
use Rattle.qvtr_semantics.specs.Templates.{has}
use Rattle.qvtr_semantics.specs.Bindings.{is_datum_for}
use Rattle.ocl_eval.proofs.NavigationLaws.{held_partners, held_values, nothing_held}
use Rattle.template_match.specs.Problems.{Problem}
use Rattle.template_match.specs.Search.{setting_in, some_data, extent_for, objects_in, objects_of}
use Rattle.template_match.proofs.SideLaws.{extended}
use Rattle.template_match.proofs.TellingLaws.{has_contains}

-- the datum stands at a property of an object of a model
record StandsAt (s : Setting) (m o p : ℕ) (d : Datum) : Type 0 where
  model : ModelData
  there : slice_get s.models m ≡ Some model
  among : Contains (data_at s m model o p) d

stands_if : (s : Setting) (m o p : ℕ) (d : Datum) (model : ModelData) (x : Bool) → slice_get s.models m ≡ Some model → has (if x then Some (data_at s m model o p) else None) (Some d) ≡ true
    → StandsAt s m o p d
stands_if s m o p d model true there h = record { model = model; there = there; among = has_contains (Some (data_at s m model o p)) d h }
stands_if s m o p d model false there h = absurd (true≢false (sym h))

stands_of : (s : Setting) (m o p : ℕ) (d : Datum) (model : ModelData) (c : Option ℕ) → slice_get s.models m ≡ Some model
    → has (and_then c (λ class. if is_number_among p (props_of model.meta class) then Some (data_at s m model o p) else None)) (Some d) ≡ true → StandsAt s m o p d
stands_of s m o p d model None there h = absurd (true≢false (sym h))
stands_of s m o p d model (Some class) there h = stands_if s m o p d model (is_number_among p (props_of model.meta class)) there h

stands_in : (s : Setting) (m o p : ℕ) (d : Datum) (q : Option ModelData) → slice_get s.models m ≡ q
    → has (and_then q (λ model. and_then (class_at model o) (λ class. if is_number_among p (props_of model.meta class) then Some (data_at s m model o p) else None))) (Some d) ≡ true → StandsAt s m o p d
stands_in s m o p d None there h = absurd (true≢false (sym h))
stands_in s m o p d (Some model) there h = stands_of s m o p d model (class_at model o) there h

stands_at : (s : Setting) (m o p : ℕ) (d : Datum) → has (held_by s m o p) (Some d) ≡ true → StandsAt s m o p d
stands_at s m o p d h = stands_in s m o p d (slice_get s.models m) refl h

-- ---- a value, and an object

no_value : (meta : ℕ) (v : Value) (k : ℕ) (x : ObjId) → value_datum meta v ≡ Obj k x → ⊥
no_value meta (values.Str t) k x e = cc
no_value meta (values.Int i) k x e = cc
no_value meta (values.Bool b) k x e = cc
no_value meta (values.Lit n l) k x e = cc

same_val : (j k : ℕ) (w v : Value) → Val j w ≡ Val k v → w ≡ v
same_val j k w v e = cc

same_value : (meta : ℕ) (w : Value) (k : ℕ) (v : Value) → value_datum meta w ≡ Val k v → w ≡ v
same_value meta (values.Str t) k v e = same_val 0 k (values.Str t) v e
same_value meta (values.Int i) k v e = same_val 0 k (values.Int i) v e
same_value meta (values.Bool b) k v e = same_val 0 k (values.Bool b) v e
same_value meta (values.Lit n l) k v e = same_val meta k (values.Lit n l) v e

no_object : (m j k : ℕ) (v : Value) → object_datum m j ≡ Val k v → ⊥
no_object m j k v e = cc

same_object : (m j k : ℕ) (x : ObjId) → object_datum m j ≡ Obj k x → (m ≡ k) × (j ≡ x.0)
same_object m j k x e = (number e, ap (λ (o : ObjId). o.0) (object e))
  where
    number : object_datum m j ≡ Obj k x → m ≡ k
    number e = cc

    object : object_datum m j ≡ Obj k x → record { 0 = j } ≡ x
    object e = cc

object_among : (s : Setting) (m o p k : ℕ) (x : ObjId) (model : ModelData) → Contains (data_at s m model o p) (Obj k x) → (m ≡ k) × Contains (partners_at model o p) x.0
object_among s m o p k x model c = by (is_class_type (type_of model.meta p)) c
  where
    by : (b : Bool) → Contains (if b then map (object_datum m) (partners_at model o p) else map (value_datum (meta_of s m)) (values_at model o p)) (Obj k x)
        → (m ≡ k) × Contains (partners_at model o p) x.0
    by true c =
        let from = Contains-from_map (object_datum m) (partners_at model o p) (Obj k x) c in
        let same = same_object m from.0 k x from.2 in
        (same.0, subst (Contains (partners_at model o p)) same.1 from.1)
    by false c =
        let from = Contains-from_map (value_datum (meta_of s m)) (values_at model o p) (Obj k x) c in
        absurd (no_value (meta_of s m) from.0 k x from.2)

value_among : (s : Setting) (m o p k : ℕ) (v : Value) (model : ModelData) → Contains (data_at s m model o p) (Val k v) → Contains (values_at model o p) v
value_among s m o p k v model c = by (is_class_type (type_of model.meta p)) c
  where
    by : (b : Bool) → Contains (if b then map (object_datum m) (partners_at model o p) else map (value_datum (meta_of s m)) (values_at model o p)) (Val k v)
        → Contains (values_at model o p) v
    by true c =
        let from = Contains-from_map (object_datum m) (partners_at model o p) (Val k v) c in
        absurd (no_object m from.0 k v from.2)
    by false c =
        let from = Contains-from_map (value_datum (meta_of s m)) (values_at model o p) (Val k v) c in
        subst (Contains (values_at model o p)) (same_value (meta_of s m) from.0 k v from.2) from.1

-- ---- the partners at an opposite

one_model : (a b : ModelData) → Some a ≡ Some b → a ≡ b
one_model a b e = cc

pub partners_back : (s : Setting) (m p q : ℕ) (o : ObjId) (model : ModelData) → slice_get s.models m ≡ Some model → Kept model → IsReferenceOf model o.0 q → opposite_of model.meta p ≡ Some q
    → (d : Datum) → has (held_at s d p) (Some (Obj m o)) ≡ true → Contains (some_data (held_by s m o.0 q)) d
partners_back s m p q o model there kept reference opposite (Val k v) h = absurd (true≢false (sym h))
partners_back s m p q o model there kept reference opposite (Obj k x) h =
    let stands = stands_at s k x.0 p (Obj m o) h in
    let among = object_among s k x.0 p m o stands.model stands.among in
    let same : stands.model ≡ model = one_model stands.model model (sym stands.there ∙ ap (slice_get s.models) among.0 ∙ there) in
    let linked : IsLinked model p x.0 o.0 = subst (λ (y : ModelData). Contains (partners_at y x.0 p) o.0) same among.1 in
    let back : IsLinked model q o.0 x.0 = (kept.opposites p q x.0 o.0 opposite).0 linked in
    let listed : Contains (map (object_datum m) (partners_at model o.0 q)) (Obj m x) = contains_map (object_datum m) (partners_at model o.0 q) x.0 back in
    subst (λ (slot : Option (List Datum)). Contains (some_data slot) (Obj k x)) (held_partners s m o.0 q model (map (object_datum m) (partners_at model o.0 q)) there reference refl)
    (subst (λ n. Contains (map (object_datum m) (partners_at model o.0 q)) (Obj n x)) (sym among.0) listed)

-- the same of a reference that was found, if one was
pub back_told : (s : Setting) (m p : ℕ) (o : ObjId) (model : ModelData) (r : Option PropId) → slice_get s.models m ≡ Some model → Kept model → IfSome r (λ q. IsReferenceOf model o.0 q.0)
    → IfSome r (λ q. opposite_of model.meta p ≡ Some q.0) → IfSome r (λ q. (d : Datum) → has (held_at s d p) (Some (Obj m o)) ≡ true → Contains (some_data (held_by s m o.0 q.0)) d)
back_told s m p o model None there kept reference opposite = tt
back_told s m p o model (Some q) there kept reference opposite = partners_back s m p q.0 o model there kept reference opposite

-- a property that a class has is one of the metamodel
pub placed_known : (desc : MetaDesc) (c p i : ℕ) → Some i ≡ position (nat_eq p) (props_of desc c) → p < prop_count desc
placed_known desc c p i is =
    let at = position-Some (nat_eq p) (props_of desc c) i p (sym is) in
    prop_known desc c p (i, at.0, sym (eqb-true p (get_or (props_of desc c) i p) at.1))

pub opposite_told : (r : Option PropId) (o : Option ℕ) → option_map (λ q. q.0) r ≡ o → IfSome r (λ q. o ≡ Some q.0)
opposite_told None o is = tt
opposite_told (Some q) o is = sym is

-- ---- how many stand in a slot

pub partners_len : (s : Setting) (m o p : ℕ) (model : ModelData) (n : ℕ) → slice_get s.models m ≡ Some model → IsReferenceOf model o p → n ≡ length (partners_at model o p)
    → n ≡ length (some_data (held_by s m o p))
partners_len s m o p model n there has is =
    is ∙ sym (length-map (partners_at model o p) (object_datum m))
    ∙ ap (λ slot. length (some_data slot)) (held_partners s m o p model (map (object_datum m) (partners_at model o p)) there has refl)

pub values_len : (s : Setting) (m o p : ℕ) (model : ModelData) (n : ℕ) → slice_get s.models m ≡ Some model → IsAttributeOf model o p → n ≡ length (values_at model o p)
    → n ≡ length (some_data (held_by s m o p))
values_len s m o p model n there has is =
    is ∙ sym (length-map (values_at model o p) (value_datum (meta_of s m)))
    ∙ ap (λ slot. length (some_data slot)) (held_values s m o p model (map (value_datum (meta_of s m)) (values_at model o p)) there has refl)

pub nothing_len : (s : Setting) (m o p : ℕ) (model : ModelData) (r a : Bool) → slice_get s.models m ≡ Some model → (IsTrue r ↔ IsReferenceOf model o p) → r ≡ false
    → (IsTrue a ↔ IsAttributeOf model o p) → a ≡ false → 0 ≡ length (some_data (held_by s m o p))
nothing_len s m o p model r a there reference unlinked attribute unset = ap (λ slot. length (some_data slot)) (nothing_held s m o p model r a there reference unlinked attribute unset)

-- ---- the objects that hold a value

of_model : (m k : ℕ) (x : ObjId) (class : ClassId) (q : Option ModelData) → Contains (objects_in m class q) (Obj k x) → m ≡ k
of_model m k x class None c = let (i, within, is) = c in absurd (omega (arith, within))
of_model m k x class (Some model) c =
    let from = Contains-from_map (object_datum m) (extent_of model class.0) (Obj k x) c in
    (same_object m from.0 k x from.2).0

same_extent : (x y : ℕ × ClassId) → Some x ≡ Some y → x ≡ y
same_extent x y e = cc

-- an object that a variable may have is one of the variable's model
model_of : (p : Problem) (var : Var) (m k : ℕ) (class : ClassId) (x : ObjId) → extent_for (Some var) ≡ Some (m, class) → is_datum_for (setting_in p) var (Obj k x) ≡ true → m ≡ k
model_of p var m k class x is fits =
    let e = extended p.program p.models var k x fits in
    let same : (m, class) ≡ e.extent = same_extent (m, class) e.extent (sym is ∙ e.is) in
    of_model m k x class (slice_get p.models m) (subst (λ (y : ℕ × ClassId). Contains (objects_of p.models (Some y)) (Obj k x)) (sym same) e.within)

pub value_holders : (p : Problem) (v m k prop : ℕ) (class : ClassId) (w : Value) (holders : List Holder) → extent_for (slice_get p.rel.vars v) ≡ Some (m, class)
    → ((model : ModelData) → slice_get p.models m ≡ Some model → AreHolders model prop w (map (λ h. h.object.0) holders))
    → (var : Var) (d : Datum) → slice_get p.rel.vars v ≡ Some var → is_datum_for (setting_in p) var d ≡ true → has (held_at (setting_in p) d prop) (Some (Val k w)) ≡ true
    → Contains (map (λ h. Obj m h.object) holders) d
value_holders p v m k prop class w holders is all var (Val j u) found fits h = absurd (true≢false (sym h))
value_holders p v m k prop class w holders is all var (Obj j x) found fits h =
    let stands = stands_at (setting_in p) j x.0 prop (Val k w) h in
    let here : m ≡ j = model_of p var m j class x (ap extent_for (sym found) ∙ is) fits in
    let there : slice_get p.models m ≡ Some stands.model = ap (slice_get p.models) here ∙ stands.there in
    let holds = (all stands.model there).all x.0 (value_among (setting_in p) j x.0 prop k w stands.model stands.among) in
    let from = Contains-from_map (λ (h : Holder). h.object.0) holders x.0 holds in
    subst (λ n. Contains (map (λ (h : Holder). Obj m h.object) holders) (Obj n x)) here
    (subst (λ n. Contains (map (λ (h : Holder). Obj m h.object) holders) (Obj m (record { 0 = n }))) from.2
    (contains_map (λ (h : Holder). Obj m h.object) holders from.0 from.1))
