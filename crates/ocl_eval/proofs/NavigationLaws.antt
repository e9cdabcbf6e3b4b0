-- What stands at a property of an object.
use Rattle.std.proofs.Common.{◌≡◌, ℕ, Bool, true, false, List, [], ◌∷◌, ◌++◌, append-nil, map, Option, Some, None, refl, sym, ◌∙◌, ap}
use Rattle.std.specs.Prelude.{◌↔◌, IsTrue, Contains, slice_get, if◌then◌else◌}
use Rattle.std.proofs.lemmas.Bool.{true≢false}
use Rattle.mof_metamodel.specs.Metamodels.{props_of, type_of}
use Rattle.object_tables.specs.Models.{ModelData, class_at, is_class_type, values_at, partners_at, IsReferenceOf, IsAttributeOf}
use Rattle.object_tables.specs.declared.value.ObjId.{ObjId}
use Rattle.object_tables.specs.Ids.{object_ids}
use Rattle.qvtr_semantics.specs.declared.datum.Datum.{Datum}
use Rattle.qvtr_semantics.specs.declared.datum.Datum.TheVariants.{Obj}
use Rattle.qvtr_semantics.specs.Outs.{and_then}
use Rattle.qvtr_semantics.specs.Objects.{Setting, is_number_among, object_datum, value_datum, meta_of, data_at, held_by}
use Rattle.ocl_eval.proofs.ClassLaws.{among_from, among_to}

-- what an object of a class holds at a property
abbrev held_of : Setting → ℕ → ModelData → ℕ → ℕ → ℕ → Option (List Datum)
held_of s m model o p class = if is_number_among p (props_of model.meta class) then Some (data_at s m model o p) else None

abbrev held_in : Setting → ℕ → ℕ → ℕ → ModelData → Option (List Datum)
held_in s m o p model = and_then (class_at model o) (held_of s m model o p)

held_there : (s : Setting) (m o p class : ℕ) (model : ModelData) → slice_get s.models m ≡ Some model → class_at model o ≡ Some class → Contains (props_of model.meta class) p
    → held_by s m o p ≡ Some (data_at s m model o p)
held_there s m o p class model there is has =
    ap (λ x. and_then x (held_in s m o p)) there
    ∙ ap (λ x. and_then x (held_of s m model o p)) is
    ∙ ap (λ (b : Bool). if b then Some (data_at s m model o p) else None) (among_from p (props_of model.meta class) has)

pub held_partners : (s : Setting) (m o p : ℕ) (model : ModelData) (found : List Datum) → slice_get s.models m ≡ Some model → IsReferenceOf model o p
    → found ≡ map (object_datum m) (partners_at model o p) → Some found ≡ held_by s m o p
held_partners s m o p model found there has is =
    ap (λ ds. Some ds) is
    ∙ sym (held_there s m o p has.class model there has.class_is has.has
    ∙ ap (λ (b : Bool). Some (if b then map (object_datum m) (partners_at model o p) else map (value_datum (meta_of s m)) (values_at model o p))) has.reference)

pub held_values : (s : Setting) (m o p : ℕ) (model : ModelData) (found : List Datum) → slice_get s.models m ≡ Some model → IsAttributeOf model o p
    → found ≡ map (value_datum (meta_of s m)) (values_at model o p) → Some found ≡ held_by s m o p
held_values s m o p model found there has is =
    ap (λ ds. Some ds) is
    ∙ sym (held_there s m o p has.class model there has.class_is has.has
    ∙ ap (λ (b : Bool). Some (if b then map (object_datum m) (partners_at model o p) else map (value_datum (meta_of s m)) (values_at model o p))) has.attribute)

pub nothing_held : (s : Setting) (m o p : ℕ) (model : ModelData) (r a : Bool) → slice_get s.models m ≡ Some model
    → (IsTrue r ↔ IsReferenceOf model o p) → r ≡ false → (IsTrue a ↔ IsAttributeOf model o p) → a ≡ false → None ≡ held_by s m o p
nothing_held s m o p model r a there reference unlinked attribute unset = sym (ap (λ x. and_then x (held_in s m o p)) there ∙ by (class_at model o) refl)
  where
    last : (class : ℕ) → class_at model o ≡ Some class → Contains (props_of model.meta class) p → (b : Bool) → is_class_type (type_of model.meta p) ≡ b → false ≡ true
    last class is has true e = sym unlinked ∙ reference.1 (record { class = class; class_is = is; has = has; reference = e })
    last class is has false e = sym unset ∙ attribute.1 (record { class = class; class_is = is; has = has; attribute = e })

    held : (class : ℕ) → class_at model o ≡ Some class → (b : Bool) → is_number_among p (props_of model.meta class) ≡ b → held_of s m model o p class ≡ None
    held class is true e = absurd (true≢false (sym (last class is (among_to p (props_of model.meta class) e) (is_class_type (type_of model.meta p)) refl)))
    held class is false e = ap (λ (b : Bool). if b then Some (data_at s m model o p) else None) e

    by : (c : Option ℕ) → class_at model o ≡ c → held_in s m o p model ≡ None
    by None e = ap (λ x. and_then x (held_of s m model o p)) e
    by (Some class) e = ap (λ x. and_then x (held_of s m model o p)) e ∙ held class e (is_number_among p (props_of model.meta class)) refl

partner_datum : (n : ℕ) (ps : List ℕ) → map (λ p. Obj n p) (object_ids ps) ≡ map (object_datum n) ps
partner_datum n [] = refl
partner_datum n (p ∷ ps) = ap (λ ds. Obj n (record { 0 = p }) ∷ ds) (partner_datum n ps)

-- all partners were found where none is left
pub all_found : (n : ℕ) (ps : List ℕ) (found : List Datum) (left whole : List ObjId) → whole ≡ object_ids ps → left ≡ []
    → found ++ map (λ p. Obj n p) left ≡ map (λ p. Obj n p) whole → found ≡ map (object_datum n) ps
all_found n ps found left whole is none so_far =
    sym (append-nil found) ∙ sym (ap (λ l. found ++ map (λ p. Obj n p) l) none) ∙ so_far ∙ ap (map (λ p. Obj n p)) is ∙ partner_datum n ps
