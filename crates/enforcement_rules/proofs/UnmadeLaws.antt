-- E4: the tests tell whether an existential variable is for objects that nothing makes.
use Rattle.std.proofs.Common.{Result, Ok, Err, ◌≡◌, ◌&&◌, ℕ, List, [], ◌∷◌, Bool, true, false, Option, None, Some, refl, sym, ap, ◌∙◌, subst, true≢false, if◌then◌else◌}
use Rattle.std.specs.Prelude.{Contains, ◌↔◌, IsTrue, IfOk, not, nat_eq, slice_get}
use Rattle.std.specs.List.{flat_map}
use Rattle.std.proofs.lemmas.Bool.{eqb-true, eq-eqb}
use Rattle.std.proofs.lemmas.Option.{slice_get_within}
use Rattle.mof_metamodel.specs.declared.desc.MetaDesc.{MetaDesc}
use Rattle.mof_metamodel.specs.Metamodels.{class_at}
use Rattle.mof_metamodel.proofs.PropLemmas.{to_flat_map, from_flat_map}
use Rattle.qv_syntax.specs.declared.program.Program.{Program}
use Rattle.qv_syntax.specs.declared.program.Rel.{Rel}
use Rattle.qv_syntax.specs.declared.program.Var.{Var}
use Rattle.qv_syntax.specs.declared.program.Dom.{Dom}
use Rattle.qv_syntax.specs.declared.program.Tmpl.{Tmpl, out-Tmpl}
use Rattle.qv_syntax.specs.Directions.{IsMeant}
use Rattle.qv_syntax.specs.ProgramNumbers.{AreVariablesInRange}
use Rattle.enforcement_rules.specs.NumberSets.{is_among}
use Rattle.enforcement_rules.specs.Patterns.{IsHandedOn, HasConcreteTemplate, HasUnmadeObject}
use Rattle.enforcement_rules.specs.PatternTests.{concrete_variable, concrete_variables, target_root, handed_roots, is_unmade, has_unmade}
use Rattle.enforcement_rules.specs.Standings.{Shown, Adds, IsOfTarget, IsOfDomains}
use Rattle.enforcement_rules.specs.TargetParts.{target_meta, target_desc, IsObjectVariable}
use Rattle.enforcement_rules.specs.TargetTests.{is_of_target, is_object, is_object_variable, is_target_variable}
use Rattle.enforcement_rules.proofs.ClassLaws.{class_there, there_class}
use Rattle.enforcement_rules.proofs.ExpressionLaws.{target_model, model_target, target_there, there_target}
use Rattle.enforcement_rules.proofs.KnownLaws.{listed_existential, existential_listed}
use Rattle.enforcement_rules.proofs.ListLaws.{first_in, nothing_in, only_in, any_there, any_here, and_first, and_second, and_both, not_true, not_false, false_unless}
use Rattle.enforcement_rules.proofs.SettledLaws.{template_is, is_template}

-- ---- numbers of a list

pub among_told : (xs : List ℕ) (v : ℕ) → is_among xs v ≡ true → Contains xs v
among_told xs v h =
    let found = any_there (nat_eq v) xs h in
    subst (Contains xs) (sym (eqb-true v found.0 found.2)) found.1

pub told_among : (xs : List ℕ) (v : ℕ) → Contains xs v → is_among xs v ≡ true
told_among xs v among = any_here (nat_eq v) xs v among (eq-eqb v v refl)

-- ---- object variables

pub object_there : (rel : Rel) (v : ℕ) → is_object_variable rel v ≡ true → IsObjectVariable rel v
object_there rel v h = by (slice_get rel.vars v) refl h
  where
    by : (o : Option Var) → slice_get rel.vars v ≡ o → is_object o ≡ true → IsObjectVariable rel v
    by None e g = absurd (cc)
    by (Some var) e g = let c = there_class var.ty g in record { var = var; found = e; meta = c.0; class = c.1; typed = c.2 }

pub there_object : (rel : Rel) (v : ℕ) → IsObjectVariable rel v → is_object_variable rel v ≡ true
there_object rel v o = ap is_object o.found ∙ class_there o.var.ty o.meta o.class o.typed

-- ---- roots that are handed on

module _ (program : Program) (rel : Rel) where
  root_is : (dom : Dom) (v : ℕ) → Contains (target_root program dom) v → (is_of_target program dom.model ≡ true) × (dom.root ≡ v)
  root_is dom v among = by (is_of_target program dom.model) refl among
    where
      by : (b : Bool) → is_of_target program dom.model ≡ b → Contains (if b then dom.root ∷ [] else []) v → (is_of_target program dom.model ≡ true) × (dom.root ≡ v)
      by true is c = (is, only_in dom.root v c)
      by false is c = absurd (nothing_in v c)

  is_root : (dom : Dom) → is_of_target program dom.model ≡ true → Contains (target_root program dom) dom.root
  is_root dom is = subst (λ (b : Bool). Contains (if b then dom.root ∷ [] else []) dom.root) (sym is) (first_in dom.root dom.root [] refl)

  pub handed_there : (v : ℕ) → Contains (handed_roots program rel) v → IsHandedOn program rel v
  handed_there v among = by rel.top refl among
    where
      by : (b : Bool) → rel.top ≡ b → Contains (if b then [] else flat_map (target_root program) rel.domains) v → IsHandedOn program rel v
      by true is c = absurd (nothing_in v c)
      by false is c =
          let d = from_flat_map (target_root program) rel.domains v c in
          let r = root_is d.0 v d.2 in
          record { called = is; dom = d.0; of = record { is = d.1; target = target_model program d.0.model r.0 }; root = r.1 }

  pub there_handed : (v : ℕ) → IsHandedOn program rel v → Contains (handed_roots program rel) v
  there_handed v h =
      subst (λ (b : Bool). Contains (if b then [] else flat_map (target_root program) rel.domains) v) (sym h.called)
      (subst (Contains (flat_map (target_root program) rel.domains)) h.root
      (to_flat_map (target_root program) rel.domains h.dom h.dom.root h.of.is (is_root h.dom (model_target program h.dom.model h.of.target))))

-- ---- concrete templates

concrete_is : (desc : MetaDesc) (t : Tmpl) (v : ℕ) → Contains (concrete_variable desc t) v → ((class_at desc (out-Tmpl t).class.0).is_abstract ≡ false) × ((out-Tmpl t).var ≡ v)
concrete_is desc t v among = by (class_at desc (out-Tmpl t).class.0).is_abstract refl among
  where
    by : (b : Bool) → (class_at desc (out-Tmpl t).class.0).is_abstract ≡ b → Contains (if b then [] else (out-Tmpl t).var ∷ []) v
        → ((class_at desc (out-Tmpl t).class.0).is_abstract ≡ false) × ((out-Tmpl t).var ≡ v)
    by true is c = absurd (nothing_in v c)
    by false is c = (is, only_in (out-Tmpl t).var v c)

is_concrete : (desc : MetaDesc) (t : Tmpl) → (class_at desc (out-Tmpl t).class.0).is_abstract ≡ false → Contains (concrete_variable desc t) (out-Tmpl t).var
is_concrete desc t is = subst (λ (b : Bool). Contains (if b then [] else (out-Tmpl t).var ∷ []) (out-Tmpl t).var) (sym is) (first_in (out-Tmpl t).var (out-Tmpl t).var [] refl)

module _ (metas : List MetaDesc) (program : Program) (number : ℕ) (rel : Rel) (meant : IsMeant program number rel) (range : AreVariablesInRange metas program rel)
    (templates : List Shown) (all : Adds (IsOfDomains (IsOfTarget program) rel.domains) [] templates) where
  abbrev desc : MetaDesc
  desc = target_desc metas program

  abbrev concrete : ℕ → Bool
  concrete = is_among (concrete_variables desc templates)

  abbrev handed : ℕ → Bool
  handed = is_among (handed_roots program rel)

  made_there : (v : ℕ) → is_target_variable program rel v ≡ true → concrete v ≡ true → HasConcreteTemplate metas program rel v
  made_there v target h =
      let s = from_flat_map (λ (s : Shown). concrete_variable desc s.0) templates v (among_told (concrete_variables desc templates) v h) in
      let c = concrete_is desc s.0.0 v s.2 in
      record { of_target = target_there program rel v target; t = s.0.0; at = s.0.1; is = template_is program rel templates all s.0 s.1; var = c.1; concrete = c.0 }

  there_made : (v : ℕ) → HasConcreteTemplate metas program rel v → (is_target_variable program rel v && concrete v) ≡ true
  there_made v h =
      and_both (is_target_variable program rel v) (concrete v) (there_target program rel v h.of_target)
      (told_among (concrete_variables desc templates) v
      (subst (Contains (concrete_variables desc templates)) h.var
      (to_flat_map (λ (s : Shown). concrete_variable desc s.0) templates (h.t, h.at) (out-Tmpl h.t).var (is_template program rel templates all h.t h.at h.is) (is_concrete desc h.t h.concrete))))

  unmade_there : has_unmade metas program rel (target_meta program) templates ≡ true → HasUnmadeObject metas program rel
  unmade_there h =
      let found = any_there (is_unmade program rel concrete handed) rel.existential h in
      let v = found.0 in
      let both = and_first (is_object_variable rel v && not (handed v)) (not (is_target_variable program rel v && concrete v)) found.2 in
      let bare = not_true (is_target_variable program rel v && concrete v) (and_second (is_object_variable rel v && not (handed v)) (not (is_target_variable program rel v && concrete v)) found.2) in
      record {
        v = v;
        object = object_there rel v (and_first (is_object_variable rel v) (not (handed v)) both);
        existential = listed_existential metas program number rel meant range v found.1;
        own = λ on. true≢false (sym (told_among (handed_roots program rel) v (there_handed program rel v on)) ∙ not_true (handed v) (and_second (is_object_variable rel v) (not (handed v)) both));
        unmade = λ has. true≢false (sym (there_made v has) ∙ bare);
      }

  there_unmade : HasUnmadeObject metas program rel → has_unmade metas program rel (target_meta program) templates ≡ true
  there_unmade u =
      let v = u.v in
      let o = u.object in
      any_here (is_unmade program rel concrete handed) rel.existential v
      (existential_listed metas program number rel meant range v (slice_get_within rel.vars v o.var o.found) u.existential)
      (and_both (is_object_variable rel v && not (handed v)) (not (is_target_variable program rel v && concrete v))
      (and_both (is_object_variable rel v) (not (handed v)) (there_object rel v o)
      (not_false (handed v) (false_unless (handed v) (λ h. u.own (handed_there program rel v (among_told (handed_roots program rel) v h))))))
      (not_false (is_target_variable program rel v && concrete v)
      (false_unless (is_target_variable program rel v && concrete v)
      (λ h. u.unmade (made_there v (and_first (is_target_variable program rel v) (concrete v) h) (and_second (is_target_variable program rel v) (concrete v) h))))))

  pub unmade_told : (b : Bool) → b ≡ has_unmade metas program rel (target_meta program) templates → IsTrue b ↔ HasUnmadeObject metas program rel
  unmade_told b is = (λ h. unmade_there (sym is ∙ h), λ u. is ∙ there_unmade u)

  pub unmade_told_of : {E : Type 0} (m : ℕ) → m ≡ target_meta program → (r : Result Bool E) → IfOk r (λ b. b ≡ has_unmade metas program rel m templates) → IfOk r (λ b. IsTrue b ↔ HasUnmadeObject metas program rel)
  unmade_told_of m same (Ok b) h = unmade_told b (h ∙ ap (λ (n : ℕ). has_unmade metas program rel n templates) same)
  unmade_told_of m same (Err e) h = tt
