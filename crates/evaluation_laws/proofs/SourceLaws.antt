-- A binding of the source gives its variables values of their types: objects as it may give them, data since an item of a source domain or
-- a conjunct of when binds them (QVT 1.3, sections 7.2, 7.3 and 7.10.1).
use Rattle.std.proofs.Common.{◌≡◌, ◌==◌, ℕ, true, List, Option, None, Some, refl, sym, ap, ◌∙◌, subst}
use Rattle.std.specs.Prelude.{slice_get}
use Rattle.std.specs.Option.{option_map}
use Rattle.std.proofs.lemmas.Bool.{and_parts, false≢true, eqb-true}
use Rattle.std.proofs.lemmas.Option.{same_Some}
use Rattle.mof_metamodel.specs.declared.desc.MetaDesc.{MetaDesc}
use Rattle.mof_metamodel.specs.declared.desc.ClassId.{ClassId}
use Rattle.object_tables.specs.declared.value.ObjId.{ObjId}
use Rattle.object_tables.specs.declared.value.Value.{Value}
use Rattle.object_tables.specs.declared.value.Value.TheVariants as values
use Rattle.object_tables.specs.Models.{ModelData, class_at}
use Rattle.qv_syntax.specs.declared.ty.Ty.TheVariants as types
use Rattle.qv_syntax.specs.declared.query.ModelSlot.{ModelSlot}
use Rattle.qv_syntax.specs.declared.program.Program.{Program}
use Rattle.qv_syntax.specs.declared.program.Var.{Var}
use Rattle.qvtr_semantics.specs.declared.datum.Datum.{Datum}
use Rattle.qvtr_semantics.specs.declared.datum.Datum.TheVariants.{Obj, Val}
use Rattle.qvtr_semantics.specs.Outs.{and_then}
use Rattle.qvtr_semantics.specs.Objects.{Setting}
use Rattle.qvtr_semantics.specs.Expressions.{setting}
use Rattle.qvtr_semantics.specs.Templates.{conforms, is_of_class}
use Rattle.qvtr_semantics.specs.Bindings.{is_model, is_value_of_type, meta_of_type, is_object_for, is_datum_for}
use Rattle.qv_syntax.specs.Directions.{IsInModel}
use Rattle.qv_syntax.specs.ProgramTypes.{typing_of}
use Rattle.evaluation_laws.specs.TypedValues.{AreModels, IsDatumIn, IsDatumOfTyping}
use Rattle.evaluation_laws.specs.Scopes.{of_its_model}
use Rattle.evaluation_laws.proofs.NavigationLaws.{kind_conforms}

-- ---- objects

no_value : (m : ℕ) (class : ClassId) (v : Value) → is_value_of_type (types.Class m class) v ≡ true → ⊥
no_value m class (values.Str t) is = false≢true is
no_value m class (values.Int i) is = false≢true is
no_value m class (values.Bool b) is = false≢true is
no_value m class (values.Lit e n) is = false≢true is

its_model : (given : Option ℕ) (k : ℕ) → is_model given k ≡ true → given ≡ Some k
its_model None k is = absurd (false≢true is)
its_model (Some m) k is = ap (λ x. Some x) (eqb-true m k is)

module _ (metas : List MetaDesc) (program : Program) (contents : List ModelData) (models : AreModels metas (setting program contents)) where
  abbrev s : Setting
  s = setting program contents

  object_by : (m : ℕ) (class : ClassId) (k : ℕ) (o : ObjId) (slot : ModelSlot) → slice_get program.models k ≡ Some slot → slot.meta ≡ m
      → (In : ℕ → Type 0) → In k → (content : Option ModelData) → slice_get contents k ≡ content
      → conforms class.0 (and_then content (λ model. option_map (λ c. record { meta = model.meta; class = c }) (class_at model o.0))) ≡ true
      → IsDatumIn metas s In (types.Class m class) (Obj k o)
  object_by m class k o slot placed typed In here None found is = absurd (false≢true is)
  object_by m class k o slot placed typed In here (Some content) found is = by (class_at content o.0) refl is
    where
      by : (c : Option ℕ) → class_at content o.0 ≡ c → conforms class.0 (option_map (λ own. record { meta = content.meta; class = own }) c) ≡ true → IsDatumIn metas s In (types.Class m class) (Obj k o)
      by None at of_class = absurd (false≢true of_class)
      by (Some own) at of_class = (
        k,
        o,
        refl,
        record {
          slot = slot;
          placed = placed;
          typed = typed;
          content = content;
          found = found;
          of_class = record { class = own; class_is = at; conforms = kind_conforms content o.0 own class.0 (models k slot content placed found).kept at of_class };
        },
        here,
      )

  -- an object that a variable may have is of the variable's class and model
  pub object_valued : (var : Var) → IsInModel program var → (m : ℕ) (class : ClassId) → var.ty ≡ types.Class m class → (d : Datum) → is_datum_for s var d ≡ true → IsDatumOfTyping metas s (typing_of var) d
  object_valued var in_model m class same (Val k v) is =
      absurd (no_value m class v (ap (λ t. is_value_of_type t v) (sym same) ∙ (and_parts (k == meta_of_type var.ty) (is_value_of_type var.ty v) is).1))
  object_valued var in_model m class same (Obj k o) is =
      let (model, slot, of_model, placed, typed) = in_model.object m class same in
      let parts = and_parts (is_model var.model k) (is_of_class s class.0 (Obj k o)) (ap (λ t. is_object_for s var t k (Obj k o)) (sym same) ∙ is) in
      let here : var.model ≡ Some k = its_model var.model k parts.0 in
      let one : model ≡ k = same_Some model k (sym of_model ∙ here) in
      subst (λ t. IsDatumIn metas s (of_its_model var.model) t (Obj k o)) (sym same)
      (object_by m class k o slot (ap (slice_get program.models) (sym one) ∙ placed) typed (of_its_model var.model) here (slice_get contents k) refl parts.1)
