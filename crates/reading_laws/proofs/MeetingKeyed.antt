-- The keys of the target's classes, and the templates of its domain, as the rules say (QVT 1.3, section 7.10.2).
use Rattle.std.specs.Prelude.{◌≡◌, ◌≢◌, ◌<◌, ◌==◌, ℕ, zero, suc, true, List, [], ◌∷◌, length, Option, None, Some, slice_get, slice_index_or, Contains}
use Rattle.std.specs.List.{find}
use Rattle.std.specs.Option.{option_map, option_and_then}
use Rattle.std.proofs.Common.{refl, sym, ap, ◌∙◌, eq-eqb}
use Rattle.std.proofs.lemmas.Bool.{and_parts, true≢false, eqb-true}
use Rattle.mof_metamodel.specs.declared.desc.MetaDesc.{MetaDesc}
use Rattle.mof_metamodel.specs.declared.desc.ClassId.{ClassId}
use Rattle.mof_metamodel.specs.declared.desc.PropId.{PropId}
use Rattle.object_tables.specs.Models.{ModelData}
use Rattle.qv_syntax.specs.declared.query.ModelSlot.{ModelSlot}
use Rattle.qv_syntax.specs.declared.typed.Typed.{Typed}
use Rattle.qv_syntax.specs.declared.program.Program.{Program}
use Rattle.qv_syntax.specs.declared.program.Rel.{Rel}
use Rattle.qv_syntax.specs.declared.program.Key.{Key}
use Rattle.qv_syntax.specs.declared.program.Var.{Var}
use Rattle.qv_syntax.specs.declared.program.Dom.{Dom}
use Rattle.qv_syntax.specs.declared.program.Tmpl.{Tmpl, out-Tmpl}
use Rattle.qv_syntax.specs.declared.program.Conj.TheVariants as conjuncts
use Rattle.qv_syntax.specs.Relations.{IsTargetDomain, IsTemplateOf, IsUniversal}
use Rattle.qv_syntax.specs.Directions.{IsMeant}
use Rattle.qv_syntax.specs.Keys.{AreOfTwoClasses}
use Rattle.ocl_environments.specs.Environments.{meta_at, no_meta}
use Rattle.qvtr_semantics.specs.Objects.{meta_number}
use Rattle.template_match.specs.Sources.{is_of_target, is_target_variable}
use Rattle.template_match.proofs.ListLaws.{find_some, find_none}
use Rattle.mof_metamodel.proofs.Facts.{contains_at}
use Rattle.enforcement_rules.specs.KnownVariables.{IsKnown}
use Rattle.enforcement_rules.specs.TargetParts.{no_slot, target_meta, target_desc}
use Rattle.enforcement_rules.specs.Keys.{IsKeyOf, DependsOn, DependsThrough}
use Rattle.repair_semantics.specs.TargetItems.{class_in, class_of_variable, target_metamodel, target_meta_number, is_key_of, key_of}
use Rattle.source_laws.proofs.BindingLaws.{found_within}
use Rattle.source_laws.proofs.RuleLaws.{model_domain}
use Rattle.reading_laws.specs.Readings.{AreOver}
use Rattle.reading_laws.proofs.MeetingValues.{nothing_some, one_of}
use Rattle.std.proofs.lemmas.Option.{same_Some}
use Rattle.std.proofs.lemmas.Bool.{and_from}
use Rattle.reading_laws.proofs.MeetingTypes.{below_vars}
use Rattle.reading_laws.proofs.MeetingRounds.{IsPath}

-- ---- small facts

get_at : {X : Type 0} (xs : List X) (i : ℕ) (x d : X) → slice_get xs i ≡ Some x → slice_index_or xs i d ≡ x
get_at [] i x d h = absurd (nothing_some x h)
get_at (y ∷ ys) zero x d h = same_Some y x h
get_at (y ∷ ys) (suc i) x d h = get_at ys i x d h

slot_number : (slots : List ModelSlot) (n : ℕ) → (slice_index_or slots n no_slot).meta ≡ meta_number (slice_get slots n)
slot_number [] n = refl
slot_number (x ∷ xs) zero = refl
slot_number (x ∷ xs) (suc n) = slot_number xs n

pub class_id : (a b : ClassId) → a.0 ≡ b.0 → a ≡ b
class_id a b same = ap (λ (x : ℕ). let id : ClassId = record { 0 = x } in id) same

pub prop_id : (a b : PropId) → a.0 ≡ b.0 → a ≡ b
prop_id a b same = ap (λ (x : ℕ). let id : PropId = record { 0 = x } in id) same

pub known_equation : (program : Program) (rel : Rel) (v : ℕ) → IsKnown program rel v → ¬ IsUniversal program rel v → (e : Typed) × Contains rel.wheres (conjuncts.Equation v e)
known_equation program rel v (IsKnown.universal _ universal) existential = absurd (existential universal)
known_equation program rel v (IsKnown.determined _ e other is_data there all) existential = (e, there)

module _ (metas : List MetaDesc) (program : Program) (rel : Rel) where
  one_more : (u v w : ℕ) → DependsThrough metas program rel u v → DependsOn metas program rel v w → DependsThrough metas program rel u w
  one_more u v w (DependsThrough.direct _ _ first) edge = DependsThrough.more u v w first (DependsThrough.direct v w edge)
  one_more u v w (DependsThrough.more _ x _ first rest) edge = DependsThrough.more u x w first (one_more x v w rest edge)

  pub depends_through : (u w : ℕ) → IsPath (DependsOn metas program rel) u w → DependsThrough metas program rel u w
  depends_through u w (IsPath.one _ _ edge) = DependsThrough.direct u w edge
  depends_through u w (IsPath.more _ v _ path edge) = one_more u v w (depends_through u v path) edge

module _ (metas : List MetaDesc) (program : Program) (sources models : List ModelData) (m : ModelData) (over : AreOver metas program sources models m) where
  -- ---- keys of the target's classes

  pub one_key : (class : ClassId) (x y : Key) → IsKeyOf program class x → IsKeyOf program class y → x ≡ y
  one_key class x y first second =
      one_of AreOfTwoClasses program.keys x y over.evaluable.well.keys.classes
      (λ apart. apart (first.meta ∙ sym second.meta) (first.of ∙ sym second.of)) (λ apart. apart (second.meta ∙ sym first.meta) (second.of ∙ sym first.of)) first.among second.among

  number_is : target_meta program ≡ target_meta_number program
  number_is = slot_number program.models program.target

  pub key_is : (class : ClassId) (key : Key) → IsKeyOf program class key → key_of program class.0 ≡ Some key.props
  key_is class key is = ap (option_map (λ (x : Key). x.props)) (by (find (is_key_of program class.0) program.keys) refl)
    where
      by : (o : Option Key) → find (is_key_of program class.0) program.keys ≡ o → find (is_key_of program class.0) program.keys ≡ Some key
      by None none = absurd (true≢false (sym (and_from (key.meta == target_meta_number program) (key.class.0 == class.0)
          (eq-eqb key.meta (target_meta_number program) (is.meta ∙ number_is)) (eq-eqb key.class.0 class.0 (ap (λ (c : ClassId). c.0) is.of)))
          ∙ find_none (is_key_of program class.0) program.keys key none is.among))
      by (Some other) at =
          let (there, passes) = find_some (is_key_of program class.0) program.keys other at in
          let both = and_parts (other.meta == target_meta_number program) (other.class.0 == class.0) passes in
          at ∙ ap (λ x. Some x) (one_key class other key
          (record { among = there; meta = eqb-true other.meta (target_meta_number program) both.0 ∙ sym number_is; of = class_id other.class class (eqb-true other.class.0 class.0 both.1) }) is)

  pub meta_is : target_desc metas program ≡ target_metamodel program sources
  meta_is =
      let (slot, placed) = found_within program.models program.target over.evaluable.well.numbers.target in
      let described = (over.evaluable.kept program.target slot m placed over.target).described in
      ap (meta_at metas) (ap (λ (s : ModelSlot). s.meta) (get_at program.models program.target slot no_slot placed)) ∙ get_at metas slot.meta m.meta no_meta described ∙ sym over.metamodel

  module _ (place : ℕ) (rel : Rel) (found : slice_get program.rels place ≡ Some rel) where
    abbrev meant : IsMeant program place rel
    meant = over.evaluable.well.relations place rel found

    pub target_below : (v : ℕ) → is_target_variable program rel v ≡ true → v < length rel.vars
    target_below v target = by (slice_get rel.vars v) refl
      where
        by : (o : Option Var) → slice_get rel.vars v ≡ o → v < length rel.vars
        by None at = absurd (true≢false (sym target ∙ ap (is_of_target program) at))
        by (Some var) at = below_vars rel v var at

    -- ---- templates

    pub below : (dom : Dom) → IsTargetDomain program rel dom → (t : Tmpl) → IsTemplateOf dom t → (out-Tmpl t).var < length rel.vars
    below dom of t within =
        let d = model_domain metas program over.evaluable.well place rel found dom t of.is within in
        ((over.evaluable.well.numbers.relations rel (contains_at program.rels place rel found)).templates dom d t within).var

    pub declared_class : (dom : Dom) → IsTargetDomain program rel dom → (t : Tmpl) → IsTemplateOf dom t → class_of_variable rel (out-Tmpl t).var ≡ Some (out-Tmpl t).class.0
    declared_class dom of t within =
        let d = model_domain metas program over.evaluable.well place rel found dom t of.is within in
        let declared = meant.domains.declared dom d t within in
        ap (option_and_then (λ (x : Var). class_in x.ty)) declared.found ∙ ap class_in declared.class
