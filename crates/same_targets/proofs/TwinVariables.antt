-- The values that a variable may have: of twins both or neither, and of each such value there is a twin.
use Rattle.std.specs.Prelude.{◌≡◌, ◌⊎◌, ◌&&◌, ℕ, true, false, List, Option, None, Some, slice_get}
use Rattle.std.proofs.Common.{refl, sym, ap, ◌∙◌, subst, inl, inr}
use Rattle.std.proofs.lemmas.Bool.{and_parts, true≢false, cases_eq}
use Rattle.object_tables.specs.declared.value.ObjId.{ObjId}
use Rattle.object_tables.specs.Models.{ModelData}
use Rattle.mof_metamodel.specs.declared.desc.ClassId.{ClassId}
use Rattle.qv_syntax.specs.declared.program.Program.{Program}
use Rattle.qv_syntax.specs.declared.program.Rel.{Rel}
use Rattle.qv_syntax.specs.declared.program.Var.{Var}
use Rattle.qv_syntax.specs.declared.ty.Ty.{Ty, roll-Ty, out-Ty, roll-out-Ty}
use Rattle.qv_syntax.specs.declared.ty.Ty.TheOpen as of
use Rattle.qv_syntax.specs.declared.ty.Ty.TheVariants as types
use Rattle.qvtr_semantics.specs.declared.datum.Datum.{Datum}
use Rattle.qvtr_semantics.specs.declared.datum.Datum.TheVariants.{Obj, Val}
use Rattle.qvtr_semantics.specs.Objects.{Setting, ObjectClass, class_of}
use Rattle.qvtr_semantics.specs.Expressions.{setting}
use Rattle.qvtr_semantics.specs.Templates.{Values, value_at, conforms, is_of_class}
use Rattle.qvtr_semantics.specs.Bindings.{is_model, is_object_for, is_datum_for, is_value_for, have_values}
use Rattle.template_match.specs.Sources.{is_of_target, is_target_variable}
use Rattle.template_match.proofs.SideLaws.{Valued, valued}
use Rattle.template_match.proofs.ValueLaws.{some_datum}
use Rattle.std.specs.Prelude.{Contains}
use Rattle.source_laws.specs.SourceValues.{IsOfSources}
use Rattle.source_laws.proofs.BindingLaws.{all_same}
use Rattle.same_targets.proofs.Twins.{Pairing, OneTwin, AreTargets, IsTwinning}
use Rattle.same_targets.proofs.TwinBindings.{AreTwins}

-- ---- variables for objects

-- no object is a value of the variable
abbrev NoObject : Var → Ty → Type 0
NoObject var ty = (s : Setting) (k : ℕ) (d : Datum) → is_object_for s var ty k d ≡ false

-- those of the class in the variable's model are
pub record OfClass (var : Var) (ty : Ty) : Type 0 where
  pub class : ClassId
  pub is : (s : Setting) (k : ℕ) (d : Datum) → is_object_for s var ty k d ≡ (is_model var.model k && is_of_class s class.0 d)

layer : (var : Var) (l : of.Ty-F Ty) → NoObject var (roll-Ty l) ⊎ OfClass var (roll-Ty l)
layer var of.Str = inl (λ s k d. ap (λ t. is_object_for s var t k d) types.rolls-Str)
layer var of.Int = inl (λ s k d. ap (λ t. is_object_for s var t k d) types.rolls-Int)
layer var of.Bool = inl (λ s k d. ap (λ t. is_object_for s var t k d) types.rolls-Bool)
layer var of.Null = inl (λ s k d. ap (λ t. is_object_for s var t k d) types.rolls-Null)
layer var (of.Enum j e) = inl (λ s k d. ap (λ t. is_object_for s var t k d) (types.rolls-Enum j e))
layer var (of.Coll j e) = inl (λ s k d. ap (λ t. is_object_for s var t k d) (types.rolls-Coll j e))
layer var (of.Class j class) = inr (record { class = class; is = λ s k d. ap (λ t. is_object_for s var t k d) (types.rolls-Class j class) })

told : (var : Var) (ty : Ty) → NoObject var ty ⊎ OfClass var ty
told var ty = subst (λ x. NoObject var x ⊎ OfClass var x) (roll-out-Ty ty) (layer var (out-Ty ty))

object_alike : (s u : Setting) (var : Var) (ty : Ty) (k : ℕ) (o p : ObjId) → class_of s (Obj k o) ≡ class_of u (Obj k p)
    → is_object_for s var ty k (Obj k o) ≡ is_object_for u var ty k (Obj k p)
object_alike s u var ty k o p same = by (told var ty)
  where
    by : NoObject var ty ⊎ OfClass var ty → is_object_for s var ty k (Obj k o) ≡ is_object_for u var ty k (Obj k p)
    by (inl none) = none s k (Obj k o) ∙ sym (none u k (Obj k p))
    by (inr t) = t.is s k (Obj k o) ∙ ap (λ c. is_model var.model k && conforms t.class.0 c) same ∙ sym (t.is u k (Obj k p))

-- an object that is a value has a class, and is one of the variable's model
pub record HasClass (s : Setting) (var : Var) (k : ℕ) (o : ObjId) : Type 0 where
  pub model : is_model var.model k ≡ true
  pub class : ObjectClass
  pub class_is : class_of s (Obj k o) ≡ Some class

class_there : (class : ℕ) (c : Option ObjectClass) → conforms class c ≡ true → (x : ObjectClass) × (c ≡ Some x)
class_there class None h = absurd (true≢false (sym h))
class_there class (Some x) h = (x, refl)

pub object_class : (s : Setting) (var : Var) (k : ℕ) (o : ObjId) → is_datum_for s var (Obj k o) ≡ true → HasClass s var k o
object_class s var k o h = by (told var var.ty)
  where
    by : NoObject var var.ty ⊎ OfClass var var.ty → HasClass s var k o
    by (inl none) = absurd (true≢false (sym h ∙ none s k (Obj k o)))
    by (inr t) =
        let both = and_parts (is_model var.model k) (is_of_class s t.class.0 (Obj k o)) (sym (t.is s k (Obj k o)) ∙ h) in
        let c = class_there t.class.0 (class_of s (Obj k o)) both.1 in
        record { model = both.0; class = c.0; class_is = c.1 }

-- a value of a variable that is none for objects of the target is none of these
pub value_apart : (program : Program) (s : Setting) (var : Var) (d : Datum) → is_of_target program (Some var) ≡ false → is_datum_for s var d ≡ true → IsOfSources program.target d
value_apart program s var (Val k v) outside h = tt
value_apart program s var (Obj k o) outside h = λ is. absurd (true≢false (sym (object_class s var k o h).model ∙ ap (is_model var.model) is ∙ outside))

module _ (program : Program) (ms ns : List ModelData) (R : Pairing) (i : IsTwinning program ms ns R) where
  abbrev one : Setting
  one = setting program ms

  abbrev other : Setting
  other = setting program ns

  -- ---- twins

  same_alike : (var : Var) (d : Datum) → class_of one d ≡ class_of other d → is_datum_for one var d ≡ is_datum_for other var d
  same_alike var (Val k v) same = refl
  same_alike var (Obj k o) same = object_alike one other var var.ty k o o same

  datum_alike : (var : Var) (d e : Datum) → R d e → is_datum_for one var d ≡ is_datum_for other var e
  datum_alike var d e r = by (i.kinds d e r)
    where
      by : (IsOfSources program.target d × (d ≡ e)) ⊎ AreTargets program.target d e → is_datum_for one var d ≡ is_datum_for other var e
      by (inl (apart, same)) = same_alike var d (i.classes d e r ∙ ap (class_of other) (sym same)) ∙ ap (is_datum_for other var) same
      by (inr targets) =
          ap (is_datum_for one var) targets.here_is
          ∙ object_alike one other var var.ty program.target targets.here targets.there
          (sym (ap (class_of one) targets.here_is) ∙ i.classes d e r ∙ ap (class_of other) targets.there_is)
          ∙ sym (ap (is_datum_for other var) targets.there_is)

  value_alike : (var : Option Var) (o p : Option Datum) → OneTwin R o p → is_value_for one var o ≡ is_value_for other var p
  value_alike None o p h = refl
  value_alike (Some var) None None h = refl
  value_alike (Some var) None (Some e) h = absurd h
  value_alike (Some var) (Some d) None h = absurd h
  value_alike (Some var) (Some d) (Some e) h = datum_alike var d e h

  pub have_alike : (rel : Rel) (vars : List ℕ) (b c : Values) → AreTwins R b c → have_values program ms rel vars b ≡ have_values program ns rel vars c
  have_alike rel vars b c twins =
      all_same (λ v. is_value_for one (slice_get rel.vars v) (value_at b v)) (λ v. is_value_for other (slice_get rel.vars v) (value_at c v)) vars
      (λ v has. value_alike (slice_get rel.vars v) (value_at b v) (value_at c v) (twins.each v))

  -- ---- a value has a twin

  object_twin : (var : Var) (k : ℕ) (o : ObjId) → is_datum_for one var (Obj k o) ≡ true → k ≡ program.target → (e : Datum) × R (Obj k o) e
  object_twin var k o h same =
      let there = object_class one var program.target o (subst (λ j. is_datum_for one var (Obj j o) ≡ true) same h) in
      let e = i.total o there.class there.class_is in
      (e.0, subst (λ j. R (Obj j o) e.0) (sym same) e.1)

  twin_for : (var : Var) (d : Datum) → is_datum_for one var d ≡ true → (e : Datum) × R d e
  twin_for var (Val k v) h = (Val k v, i.sources (Val k v) tt)
  twin_for var (Obj k o) h = elim (cases_eq k program.target) [
    | inl same ↦ object_twin var k o h same
    | inr other ↦ (Obj k o, i.sources (Obj k o) other)
  ]

  module _ (rel : Rel) (vars : List ℕ) (b : Values) (have : have_values program ms rel vars b ≡ true) (v : ℕ) (d : Datum) (has : Contains vars v) (at : value_at b v ≡ Some d) where
    abbrev value : Valued program ms rel b v
    value = valued program ms rel vars b v have has

    same : value.value ≡ d
    same = some_datum value.value d (sym value.at ∙ at)

    fits : is_datum_for one value.var d ≡ true
    fits = subst (λ x. is_datum_for one value.var x ≡ true) same value.fits

    pub had_twin : (e : Datum) × R d e
    had_twin = twin_for value.var d fits

    -- and at a variable that is none for objects of the target it is none of these
    pub had_apart : is_target_variable program rel v ≡ false → IsOfSources program.target d
    had_apart outside = value_apart program one value.var d (sym (ap (is_of_target program) value.found) ∙ outside) fits
