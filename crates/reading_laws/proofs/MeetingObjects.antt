-- The object of a term is one that a variable of the target may have.
use Rattle.std.specs.Prelude.{◌≡◌, ◌≢◌, ◌⊎◌, ◌<◌, ◌==◌, ℕ, true, List, Option, None, Some, slice_get, Contains}
use Rattle.std.specs.Option.{option_map, option_and_then}
use Rattle.std.proofs.Common.{refl, sym, ap, subst, ◌∙◌, inl, inr, eq-eqb}
use Rattle.std.proofs.lemmas.Bool.{true≢false}
use Rattle.mof_metamodel.specs.declared.desc.MetaDesc.{MetaDesc}
use Rattle.mof_metamodel.specs.declared.desc.ClassId.{ClassId}
use Rattle.mof_metamodel.specs.Metamodels.{class_count, lineage_of}
use Rattle.mof_metamodel.proofs.LineageLemmas.{Has-from_Contains}
use Rattle.mof_metamodel.proofs.ReachLemmas.{conforms_through, lineage_within_classes}
use Rattle.mof_metamodel.proofs.WellLemmas.{listed_conforms, conforms_listed}
use Rattle.object_tables.specs.Objects.{Object}
use Rattle.object_tables.specs.Models.{ModelData, object_at, class_at}
use Rattle.object_tables.specs.Kept.{Kept}
use Rattle.qv_syntax.specs.declared.ty.Ty.{Ty}
use Rattle.qv_syntax.specs.declared.ty.Ty.TheVariants as types
use Rattle.qv_syntax.specs.declared.program.Program.{Program}
use Rattle.qv_syntax.specs.declared.program.Rel.{Rel}
use Rattle.qv_syntax.specs.declared.program.Var.{Var}
use Rattle.qv_syntax.specs.Directions.{IsInModel}
use Rattle.qvtr_semantics.specs.Outs.{and_then}
use Rattle.qvtr_semantics.specs.Objects.{is_kind_of, conforms_if, object_datum}
use Rattle.qvtr_semantics.specs.Expressions.{setting}
use Rattle.qvtr_semantics.specs.Templates.{conforms, is_of_class}
use Rattle.qvtr_semantics.specs.Bindings.{is_model, is_object_for, is_value_for}
use Rattle.template_match.proofs.ListLaws.{any_at}
use Rattle.evaluation_laws.proofs.NavigationLaws.{among}
use Rattle.mof_metamodel.proofs.Facts.{contains_at}
use Rattle.repair_semantics.specs.declared.term.Term.{Term, out-Term}
use Rattle.repair_semantics.specs.TargetItems.{class_in, class_of_variable}
use Rattle.reading_laws.specs.Readings.{Numbering, IsReading, AreOver}
use Rattle.reading_laws.proofs.MeetingValues.{nothing_some}
use Rattle.std.proofs.lemmas.Option.{same_Some}
use Rattle.std.proofs.lemmas.Bool.{and_from}

-- ---- classes

class_below : (m : ModelData) (o own : ℕ) → Kept m → class_at m o ≡ Some own → own < class_count m.meta
class_below m o own kept is = by (object_at m o) refl is
  where
    by : (ob : Option Object) → object_at m o ≡ ob → option_map (λ (x : Object). x.class) ob ≡ Some own → own < class_count m.meta
    by None at h = absurd (nothing_some own h)
    by (Some object) at h = subst (λ c. c < class_count m.meta) (same_Some object.class own h) (kept.objects o object at).class

-- a kind of a kind of a class is one of it
pub kind_through : (m : ModelData) (o own middle class : ℕ) → Kept m → class_at m o ≡ Some own → is_kind_of m.meta own middle ≡ true → is_kind_of m.meta middle class ≡ true
    → is_kind_of m.meta own class ≡ true
kind_through m o own middle class kept at first second =
    let below = class_below m o own kept at in
    let listed = among middle (lineage_of m.meta own) first in
    let between : middle < class_count m.meta = lineage_within_classes m.meta own middle below (Has-from_Contains (lineage_of m.meta own) middle listed) in
    let way = conforms_through m.meta own middle class (listed_conforms m.meta own middle below listed)
    (listed_conforms m.meta middle class between (among class (lineage_of m.meta middle) second)) in
    any_at (λ k. k == class) (lineage_of m.meta own) class (eq-eqb class class refl) (conforms_listed m.meta own class below way)

-- ---- variables

pub class_or_data : (ty : Ty) → ((meta : ℕ) × (class : ClassId) × (ty ≡ types.Class meta class)) ⊎ ((meta : ℕ) (class : ClassId) → ty ≢ types.Class meta class)
class_or_data (types.Class meta class) = inl (meta, class, refl)
class_or_data ty = inr (λ meta class same. nothing_some class.0 (ap class_in same))

module _ (metas : List MetaDesc) (program : Program) (sources models : List ModelData) (m : ModelData) (terms : List Term) (number : Numbering)
    (o : AreOver metas program sources models m) (r : IsReading program m terms number)
    (place : ℕ) (rel : Rel) (found : slice_get program.rels place ≡ Some rel) where
  pub class_fits : (class : ℕ) (t : Term) (n : ℕ) → Contains terms t → number t ≡ Some n → is_kind_of m.meta (out-Term t).class.0 class ≡ true
      → is_of_class (setting program models) class (object_datum program.target n) ≡ true
  class_fits class t n within has kind =
      ap (λ x. conforms class (and_then x (λ (model : ModelData). option_map (λ c. record { meta = model.meta; class = c }) (class_at model n)))) o.target
      ∙ by (class_at m n) refl (r.holds t n within has).conforms
    where
      by : (c : Option ℕ) → class_at m n ≡ c → conforms_if m.meta (out-Term t).class.0 c ≡ true → conforms class (option_map (λ k. record { meta = m.meta; class = k }) c) ≡ true
      by None at h = absurd (true≢false (sym h))
      by (Some own) at h = kind_through m n own (out-Term t).class.0 class o.valid.kept at h kind

  -- the object of a term of such a class is one that the variable may have
  pub object_fits : (v : ℕ) (var : Var) (t : Term) (n : ℕ) → slice_get rel.vars v ≡ Some var → is_model var.model program.target ≡ true → Contains terms t → number t ≡ Some n
      → ((class : ℕ) → class_of_variable rel v ≡ Some class → is_kind_of m.meta (out-Term t).class.0 class ≡ true)
      → is_value_for (setting program models) (Some var) (Some (object_datum program.target n)) ≡ true
  object_fits v var t n at target within has typed = by (class_or_data var.ty)
    where
      in_model : IsInModel program var
      in_model = (o.evaluable.well.relations place rel found).variables.models var (contains_at rel.vars v var at)

      by : ((meta : ℕ) × (class : ClassId) × (var.ty ≡ types.Class meta class)) ⊎ ((meta : ℕ) (class : ClassId) → var.ty ≢ types.Class meta class)
          → is_value_for (setting program models) (Some var) (Some (object_datum program.target n)) ≡ true
      by (inl (meta, class, is)) =
          ap (λ ty. is_object_for (setting program models) var ty program.target (object_datum program.target n)) is
          ∙ and_from (is_model var.model program.target) (is_of_class (setting program models) class.0 (object_datum program.target n)) target
          (class_fits class.0 t n within has (typed class.0 (ap (option_and_then (λ (x : Var). class_in x.ty)) at ∙ ap class_in is)))
      by (inr none) = absurd (true≢false (sym target ∙ ap (λ x. is_model x program.target) (in_model.data_value none)))
