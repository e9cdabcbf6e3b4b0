-- Whether an object stands at a reference of another, as links tell it.
use Rattle.std.specs.Prelude.{◌≡◌, ◌↔◌, ◌==◌, ◌&&◌, ◌||◌, ℕ, Bool, true, false, IsTrue, IfSome, List, [], ◌∷◌, map, Option, Some, None, Contains, slice_get}
use Rattle.std.proofs.Common.{refl, sym, ap, subst, ◌∙◌, eq-eqb}
use Rattle.std.proofs.lemmas.Bool.{and_parts, eqb-true, true≢false}
use Rattle.mof_metamodel.proofs.Facts.{contains_first, contains_map}
use Rattle.object_tables.specs.declared.value.ObjId.{ObjId}
use Rattle.object_tables.specs.Models.{ModelData, partners_at, IsReferenceOf, IsLinked}
use Rattle.qvtr_semantics.specs.declared.datum.Datum.{Datum}
use Rattle.qvtr_semantics.specs.declared.datum.Datum.TheVariants.{Obj}
use Rattle.qvtr_semantics.specs.Data.{is_among, same_datum}
use Rattle.qvtr_semantics.specs.Objects.{Setting, object_datum, held_by}
use Rattle.qvtr_semantics.specs.Templates.{has}
use Rattle.ocl_eval.proofs.NavigationLaws.{held_partners}
use Rattle.template_match.proofs.ListLaws.{any_at, contains_later}

-- nothing stands where there is no datum
pub nothing_stands : (slot : Option (List Datum)) → false ≡ has slot None
nothing_stands None = refl
nothing_stands (Some ds) = refl

listed_by : (m : ℕ) (b : ObjId) (k : ℕ) (ks : List ℕ) (s : Bool) → same_datum (Obj m b) (object_datum m k) ≡ s → s || is_among (Obj m b) (map (object_datum m) ks) ≡ true
    → (is_among (Obj m b) (map (object_datum m) ks) ≡ true → Contains ks b.0) → Contains (k ∷ ks) b.0
listed_by m b k ks true same h more = subst (Contains (k ∷ ks)) (sym (eqb-true b.0 k (and_parts (m == m) (b.0 == k) same).1)) (contains_first k ks)
listed_by m b k ks false other h more = contains_later b.0 k ks (more h)

listed : (m : ℕ) (b : ObjId) (ks : List ℕ) → is_among (Obj m b) (map (object_datum m) ks) ≡ true → Contains ks b.0
listed m b [] h = absurd (true≢false (sym h))
listed m b (k ∷ ks) h = listed_by m b k ks (same_datum (Obj m b) (object_datum m k)) refl h (listed m b ks)

standing : (m : ℕ) (b : ObjId) (ks : List ℕ) → Contains ks b.0 → is_among (Obj m b) (map (object_datum m) ks) ≡ true
standing m b ks there =
    any_at (same_datum (Obj m b)) (map (object_datum m) ks) (object_datum m b.0)
    (ap (λ (x : Bool). x && (b.0 == b.0)) (eq-eqb m m refl) ∙ eq-eqb b.0 b.0 refl)
    (contains_map (object_datum m) ks b.0 there)

by_both : (x y : Bool) → (x ≡ true → y ≡ true) → (y ≡ true → x ≡ true) → x ≡ y
by_both true y there back = sym (there refl)
by_both false true there back = back refl
by_both false false there back = refl

-- the links of a reference tell what stands there
linked_stands : (s : Setting) (m o p : ℕ) (b : ObjId) (model : ModelData) (r : Bool) → slice_get s.models m ≡ Some model → IsReferenceOf model o p
    → (IsTrue r ↔ IsLinked model p o b.0) → r ≡ has (held_by s m o p) (Some (Obj m b))
linked_stands s m o p b model r there reference exact =
    by_both r (is_among (Obj m b) (map (object_datum m) (partners_at model o p)))
    (λ h. standing m b (partners_at model o p) (exact.0 h))
    (λ h. exact.1 (listed m b (partners_at model o p) h))
    ∙ ap (λ slot. has slot (Some (Obj m b))) (held_partners s m o p model (map (object_datum m) (partners_at model o p)) there reference refl)

-- the same where links tell it
pub told_links_stand : (s : Setting) (m o p : ℕ) (b : ObjId) (model : ModelData) (r : Option Bool) → slice_get s.models m ≡ Some model
    → IfSome r (λ x. IsReferenceOf model o p × (IsTrue x ↔ IsLinked model p o b.0)) → IfSome r (λ x. x ≡ has (held_by s m o p) (Some (Obj m b)))
told_links_stand s m o p b model None there told = told
told_links_stand s m o p b model (Some x) there told = linked_stands s m o p b model x there told.0 told.1
