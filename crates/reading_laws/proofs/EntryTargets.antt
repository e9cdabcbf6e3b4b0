-- A value of a variable for objects of the target is such an object.
use Rattle.std.specs.Prelude.{◌≡◌, ℕ, true, ◌&&◌, ◌==◌, List, Option, None, Some, slice_get, Contains}
use Rattle.std.proofs.Common.{refl, sym, ap, ◌∙◌}
use Rattle.std.proofs.lemmas.Bool.{and_parts, true≢false}
use Rattle.mof_metamodel.specs.declared.desc.MetaDesc.{MetaDesc}
use Rattle.mof_metamodel.specs.declared.desc.ClassId.{ClassId}
use Rattle.object_tables.specs.declared.value.ObjId.{ObjId}
use Rattle.object_tables.specs.declared.value.Value.{Value}
use Rattle.object_tables.specs.Models.{ModelData}
use Rattle.qv_syntax.specs.declared.ty.Ty.{Ty}
use Rattle.qv_syntax.specs.declared.program.Program.{Program}
use Rattle.qv_syntax.specs.declared.program.Rel.{Rel}
use Rattle.qv_syntax.specs.declared.program.Var.{Var}
use Rattle.qv_syntax.specs.WellFormed.{IsWellFormed}
use Rattle.qvtr_semantics.specs.declared.datum.Datum.{Datum}
use Rattle.qvtr_semantics.specs.declared.datum.Datum.TheVariants.{Obj, Val}
use Rattle.qvtr_semantics.specs.Expressions.{setting}
use Rattle.qvtr_semantics.specs.Templates.{Values, value_at, is_of_class}
use Rattle.qvtr_semantics.specs.Bindings.{is_model, is_value_of_type, meta_of_type, is_object_for, is_datum_for, have_values}
use Rattle.template_match.specs.Sources.{is_of_target, is_target_variable}
use Rattle.template_match.proofs.SideLaws.{Valued, valued}
use Rattle.source_laws.specs.SourceValues.{IsOfSources}
use Rattle.source_laws.proofs.RuleLaws.{target_is}
use Rattle.mof_metamodel.proofs.Facts.{contains_at}
use Rattle.repair_semantics.specs.TargetItems.{class_in}
use Rattle.repair_semantics.specs.Making.{variables}
use Rattle.reading_laws.proofs.CallValues.{none_some}
use Rattle.reading_laws.proofs.EntryKnown.{class_from}
use Rattle.qv_syntax.specs.declared.ty.Ty.TheVariants as types

no_data_class : (ty : Ty) (m : ℕ) (class : ClassId) (k : ℕ) (v : Value) → ty ≡ types.Class m class → ((k == meta_of_type ty) && is_value_of_type ty v) ≡ true → ⊥
no_data_class ty m class k v is h =
    true≢false (sym (and_parts (k == meta_of_type (types.Class m class)) (is_value_of_type (types.Class m class) v) (sym (ap (λ t. (k == meta_of_type t) && is_value_of_type t v) is) ∙ h)).1)

object_model : (program : Program) (models : List ModelData) (var : Var) (ty : Ty) (m : ℕ) (class : ClassId) (k : ℕ) (o : ObjId) → ty ≡ types.Class m class
    → is_object_for (setting program models) var ty k (Obj k o) ≡ true → is_model var.model k ≡ true
object_model program models var ty m class k o is h =
    (and_parts (is_model var.model k) (is_of_class (setting program models) class.0 (Obj k o)) (sym (ap (λ t. is_object_for (setting program models) var t k (Obj k o)) is) ∙ h)).0

some_number : (a b : ℕ) → Some a ≡ Some b → a ≡ b
some_number a b h = cc

module _ (metas : List MetaDesc) (program : Program) (formed : IsWellFormed metas program) (models : List ModelData) (place : ℕ) (rel : Rel) (found : slice_get program.rels place ≡ Some rel) where
  class_of_target : (v : ℕ) (var : Var) → slice_get rel.vars v ≡ Some var → var.model ≡ Some program.target → (m : ℕ) × (class : ClassId) × (var.ty ≡ types.Class m class)
  class_of_target v var at target = by (class_in var.ty) refl
    where
      no_model : (o : Option ℕ) → o ≡ Some program.target → o ≡ None → ⊥
      no_model o is none = none_some program.target (sym none ∙ is)

      by : (o : Option ℕ) → class_in var.ty ≡ o → (m : ℕ) × (class : ClassId) × (var.ty ≡ types.Class m class)
      by None none =
          absurd (no_model var.model target (((formed.relations place rel found).variables.models var (contains_at rel.vars v var at)).data_value
          (λ m class is. none_some class.0 (sym none ∙ ap class_in is))))
      by (Some c) is = class_from var.ty c is

  fits_target : (var : Var) (m : ℕ) (class : ClassId) (d : Datum) → var.ty ≡ types.Class m class → var.model ≡ Some program.target → is_datum_for (setting program models) var d ≡ true
      → IsOfSources program.target d → ⊥
  fits_target var m class (Val k v) is target fits apart = no_data_class var.ty m class k v is fits
  fits_target var m class (Obj k o) is target fits apart =
      apart (some_number k program.target (sym (target_is k var.model (object_model program models var var.ty m class k o is fits)) ∙ target))

  pub target_value : (c : Values) (v : ℕ) → have_values program models rel rel.universal c ≡ true → Contains rel.universal v → is_target_variable program rel v ≡ true
      → (d : Datum) × (value_at c v ≡ Some d) × (IsOfSources program.target d → ⊥)
  target_value c v have universal target =
      let x : Valued program models rel c v = valued program models rel rel.universal c v have universal in
      let model : x.var.model ≡ Some program.target = target_is program.target x.var.model (sym (ap (is_of_target program) x.found) ∙ target) in
      let class = class_of_target v x.var x.found model in
      (x.value, x.at, fits_target x.var class.0 class.1 x.value class.2 model x.fits)
