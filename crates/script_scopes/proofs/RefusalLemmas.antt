-- Names that are in order, and the faults that stand in a script where they aren't.
use Rattle.std.proofs.Common.{◌≡◌, ℕ, List, ◌++◌, refl, sym, ◌∙◌, ap, subst, ⊎_elim, inl, inr}
use Rattle.std.specs.Prelude.{Option, Some, Contains, All, Result, Ok, Err, OnOk}
use Rattle.std.specs.List.{flat_map, filter_map}
use Rattle.std.proofs.lemmas.Option.{same_Some, none-some}
use Rattle.std.proofs.lemmas.List.Elements.{Contains-append_left, Contains-append_right, Contains-append_cases, All-contains, All-weaker}
use Rattle.mof_metamodel.proofs.PropLemmas.{to_flat_map, from_flat_map}
use Rattle.qv_syntax.specs.declared.type_tree.TypeTree.{TypeTree}
use Rattle.qv_syntax.specs.declared.script.Script.{Script}
use Rattle.qv_syntax.specs.declared.script.RelationTree.{RelationTree}
use Rattle.qv_syntax.specs.declared.script.DomainTree.{DomainTree}
use Rattle.qv_syntax.specs.declared.script.DomainTree.TheVariants as domains
use Rattle.ocl_environments.specs.declared.fault.TypeFault.{TypeFault}
use Rattle.ocl_environments.specs.declared.fault.TypeFault.TheVariants.{UnknownName, DuplicateName, UnknownModel}
use Rattle.script_scopes.specs.ScriptNames.{model_names, each_once}
use Rattle.script_scopes.specs.Occurrences.{relations_of, variables_of, template_variables, printed_name, declared_names, root_of}
use Rattle.script_scopes.specs.Divisions.{model_of}
use Rattle.script_scopes.specs.Declarations.{global_names, IsRepeated, IsWrittenFor}
use Rattle.script_scopes.specs.Environments.{Setting}
use Rattle.script_scopes.specs.Faults.{domain_models, typed_names, root_where, StandsInDeclarations, StandsInScript}
use Rattle.script_scopes.specs.Refusals.{IsRepeatFault, IsPrintedRepeat, IsUnknownFault, HasNamesInOrder, StandsInNames, StandsInOne}
use Rattle.script_scopes.proofs.MemberLemmas.{once_has, has_once, from_filter_map, to_filter_map}

-- what holds where a call answers
pub given : {X E : Type 0} (r : Result X E) (P : Type 0) → P → OnOk r P
given (Ok x) P p = p
given (Err e) P p = tt

pub given_then : {X E : Type 0} (r : Result X E) (P Q : Type 0) → (P → Q) → OnOk r P → OnOk r Q
given_then (Ok x) P Q h p = h p
given_then (Err e) P Q h p = tt

-- ---- the names that a relation declares with a type

abbrev root_in : DomainTree → Option (List ℕ)
root_in d = root_where (model_of d) (root_of d)

abbrev in_vars : RelationTree → List (List ℕ)
in_vars r = flat_map declared_names r.vars

abbrev in_roots : RelationTree → List (List ℕ)
in_roots r = filter_map root_in r.domains

pub typed_written : (r : RelationTree) (v : List ℕ) → Contains (typed_names r) v → (tree : TypeTree) × IsWrittenFor r v tree
typed_written r v c = ⊎_elim
    (λ left. let (vars, among, has) = from_flat_map declared_names r.vars v left in (vars.ty, IsWrittenFor.variables vars among has refl))
    (λ right. let (domain, among, is) = from_filter_map root_in r.domains v right in by domain among is)
    (Contains-append_cases (in_vars r) (in_roots r) v c)
  where
    by : (domain : DomainTree) → Contains r.domains domain → root_in domain ≡ Some v → (tree : TypeTree) × IsWrittenFor r v tree
    by (domains.Pattern mark model root template span) among is = absurd (none-some v is)
    by (domains.Primitive root tree span) among is = (tree, IsWrittenFor.primitive root span among (same_Some root.text v is))

pub written_typed : (r : RelationTree) (v : List ℕ) (tree : TypeTree) → IsWrittenFor r v tree → Contains (typed_names r) v
written_typed r v tree (IsWrittenFor.variables vars among has is) = Contains-append_left (in_vars r) (in_roots r) v (to_flat_map declared_names r.vars vars v among has)
written_typed r v tree (IsWrittenFor.primitive root span among is) = Contains-append_right (in_vars r) (in_roots r) v (to_filter_map root_in r.domains (domains.Primitive root tree span) v among (ap Some is))

-- ---- the names of a relation

module _ (models : List (List ℕ)) (r : RelationTree) where
  abbrev declared : List (List ℕ)
  declared = typed_names r ++ template_variables r

  pub in_order : All (Contains models) (domain_models r) → ((m : List ℕ) → ¬ IsRepeated (domain_models r) m) → ((v : List ℕ) → ¬ IsRepeated (typed_names r) v)
      → ((v : List ℕ) → ¬ IsRepeated (template_variables r) v) → All (Contains (each_once declared)) (variables_of r) → HasNamesInOrder models r
  in_order known one_domain declared_once one_template all = record {
    known = known;
    one_domain = one_domain;
    declared_once = declared_once;
    one_template = one_template;
    declared = λ v c. ⊎_elim (λ left. inl (typed_written r v left)) (λ right. inr right)
        (Contains-append_cases (typed_names r) (template_variables r) v (has_once declared v (All-contains (Contains (each_once declared)) (variables_of r) v all c)));
  }

  pub undeclared_stands : (f : TypeFault) → IsUnknownFault (each_once declared) (variables_of r) f → StandsInNames models r f
  undeclared_stands f h = StandsInNames.undeclared h.name h.among
      (λ tree w. h.unknown (once_has declared h.name (Contains-append_left (typed_names r) (template_variables r) h.name (written_typed r h.name tree w))))
      (λ t. h.unknown (once_has declared h.name (Contains-append_right (typed_names r) (template_variables r) h.name t)))
      h.is

  pub unknown_stands : (f : TypeFault) → IsUnknownFault models (domain_models r) f → StandsInNames models r f
  unknown_stands f h = StandsInNames.unknown_model h

  pub domains_stand : (f : TypeFault) → IsRepeatFault (domain_models r) f → StandsInNames models r f
  domains_stand f h = StandsInNames.two_domains h

  pub typed_stands : (f : TypeFault) → IsRepeatFault (typed_names r) f → StandsInNames models r f
  typed_stands f h = StandsInNames.declared_twice h

  pub templates_stand : (f : TypeFault) → IsPrintedRepeat (template_variables r) f → StandsInNames models r f
  templates_stand f h = StandsInNames.two_templates h

-- the same over the names of models each once
pub order_once : (names : List (List ℕ)) (r : RelationTree) → HasNamesInOrder (each_once names) r → HasNamesInOrder names r
order_once names r h = record {
  known = All-weaker (Contains (each_once names)) (Contains names) (has_once names) (domain_models r) h.known;
  one_domain = h.one_domain;
  declared_once = h.declared_once;
  one_template = h.one_template;
  declared = h.declared;
}

pub all_in_order : (names : List (List ℕ)) (relations : List RelationTree) → All (HasNamesInOrder (each_once names)) relations → All (HasNamesInOrder names) relations
all_in_order names relations all = All-weaker (HasNamesInOrder (each_once names)) (HasNamesInOrder names) (order_once names) relations all

-- ---- faults of a script

module _ (s : Setting) where
  -- what stands in the names of a relation stands in the script
  in_relation : (r : RelationTree) (f : TypeFault) → StandsInNames (each_once (model_names s.script.models)) r f → (g : TypeFault) × (f ≡ g) × StandsInDeclarations s r g
  in_relation r f (StandsInNames.unknown_model h) =
      (UnknownName h.name, h.is, StandsInDeclarations.unknown_model h.name h.among (λ c. h.unknown (once_has (model_names s.script.models) h.name c)))
  in_relation r f (StandsInNames.two_domains h) = (DuplicateName h.name, h.is, StandsInDeclarations.two_domains h.name h.repeated)
  in_relation r f (StandsInNames.declared_twice h) = (DuplicateName h.name, h.is, StandsInDeclarations.declared_twice h.name h.repeated)
  in_relation r f (StandsInNames.two_templates h) = (DuplicateName (printed_name h.name), h.is, StandsInDeclarations.two_templates h.name h.repeated)
  in_relation r f (StandsInNames.undeclared v among written template is) = (UnknownName v, is, StandsInDeclarations.undeclared v among written template)

  one_in_script : (f : TypeFault) → StandsInOne (each_once (model_names s.script.models)) (relations_of s.script) f → StandsInScript s f
  one_in_script f h =
      let (g, is, stands) = in_relation h.relation f h.stands in
      subst (StandsInScript s) (sym is) (StandsInScript.declaration h.relation g h.among stands)

module _ (script : Script) (target : List ℕ) (f : TypeFault) where
  abbrev pub StandsIn : Type 0
  StandsIn = (s : Setting) → s.script ≡ script → s.target ≡ target → StandsInScript s f

  pub target_stands : (f ≡ UnknownModel target) × (Contains (model_names script.models) target → ⊥) → StandsIn
  target_stands h s same aimed = subst (StandsInScript s) (ap UnknownModel aimed ∙ sym h.0)
      (StandsInScript.target (λ c. h.1 (subst (λ (t : List ℕ). Contains (model_names script.models) t) aimed (subst (λ (x : Script). Contains (model_names x.models) s.target) same c))))

  pub name_stands : IsRepeatFault (global_names script) f → StandsIn
  name_stands h s same aimed = subst (StandsInScript s) (sym h.is) (StandsInScript.name h.name (subst (λ (x : Script). IsRepeated (global_names x) h.name) (sym same) h.repeated))

  pub one_stands : StandsInOne (each_once (model_names script.models)) (relations_of script) f → StandsIn
  one_stands h s same aimed = one_in_script s f (subst (λ (x : Script). StandsInOne (each_once (model_names x.models)) (relations_of x) f) (sym same) h)
