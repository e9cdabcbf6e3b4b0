-- Where no fault stands in a script its names are in order, and each relation has one list of variables (QVT 1.3, sections 7.11.1 and 7.11.2).
use Rattle.std.proofs.Common.{◌≡◌, ◌≢◌, ℕ, List, ◌++◌, Bool, true, false, refl, sym, ◌∙◌, get_or, inl, inr, ⊎_elim, true≢false}
use Rattle.std.specs.Prelude.{Option, None, Some, Ok, Err, All, Contains, IsTrue, is_some}
use Rattle.std.specs.Set.{is_member}
use Rattle.std.proofs.lemmas.List.Elements.{Contains-get_or, Contains-append_left, Contains-append_right, Contains-append_cases}
use Rattle.mof_metamodel.specs.Characters.{same_name}
use Rattle.mof_metamodel.specs.declared.desc.ClassId.{ClassId}
use Rattle.qv_syntax.specs.declared.program.Var.{Var}
use Rattle.qv_syntax.specs.declared.script.RelationTree.{RelationTree}
use Rattle.qv_syntax.specs.declared.ty.Ty.{Ty}
use Rattle.ocl_environments.specs.Agreement.{same_type}
use Rattle.ocl_environments.specs.Naming.{path_text}
use Rattle.ocl_environments.specs.Outcomes.{RuleResult, wrong_type}
use Rattle.ocl_environments.specs.declared.fault.TypeFault.{TypeFault}
use Rattle.ocl_environments.specs.declared.fault.TypeFault.TheVariants.{UnknownName}
use Rattle.ocl_environments.proofs.TypeLaws.{same_is_one}
use Rattle.script_scopes.specs.declared.template_classes.ModelNames.{ModelNames}
use Rattle.script_scopes.specs.ScriptNames.{model_names}
use Rattle.script_scopes.specs.Occurrences.{Piece, relations_of, variables_of, template_variables}
use Rattle.script_scopes.specs.Occurrences.Piece.{begins, asks}
use Rattle.script_scopes.specs.Environments.{Setting, in_script, slots_of, metamodel_names}
use Rattle.script_scopes.specs.Refusals.{HasNamesInOrder, AreInOrder}
use Rattle.script_scopes.specs.Faults.{domain_models, typed_names, StandsInDeclarations, StandsInScript, AreVariables}
use Rattle.script_scopes.specs.FirstEntries.{first_entries}
use Rattle.script_scopes.specs.LocatedPieces.{located}
use Rattle.script_scopes.specs.ModelLists.{named_relations}
use Rattle.script_scopes.specs.VariableTypes.{Classes, class_in, metamodel_numbers, written_types, declared_types, template_types, single_type, HasSingle, HasClass, IsAgreed, AreTyped, StandsInTypes}
use Rattle.script_scopes.proofs.NameLemmas.{has_name, lacks_name}
use Rattle.script_scopes.proofs.RefusalLemmas.{typed_written, written_typed}
use Rattle.script_variables.proofs.NameOrderLaws.{model_numbers}
use Rattle.script_variables.proofs.TypeFaultLaws.{types_stand}
use Rattle.script_variables.proofs.VariableLaws.{one_list}
use Rattle.qvtr_types.proofs.well_formed.Apart.{relations_apart}

-- ---- what can be tested

is_among : (names : List (List ℕ)) (name : List ℕ) → ((Contains names name → ⊥) → ⊥) → Contains names name
is_among names name h = by (is_member same_name names name) refl
  where
    by : (b : Bool) → is_member same_name names name ≡ b → Contains names name
    by true is = has_name names name is
    by false is = absurd (h (lacks_name names name is))

is_one : (a b : Ty) → (a ≢ b → ⊥) → a ≡ b
is_one a b h = by (same_type a b) refl
  where
    by : (t : Bool) → same_type a b ≡ t → a ≡ b
    by true is = (same_is_one a b).0 is
    by false is = absurd (h (λ same. true≢false (sym ((same_is_one a b).1 same) ∙ is)))

-- ---- one relation

module _ (s : Setting) (r : RelationTree) (none : (f : TypeFault) → StandsInDeclarations s r f → ⊥) where
  pub names_in_order : HasNamesInOrder (model_names s.script.models) r
  names_in_order = record {
    known = λ i d l. is_among (model_names s.script.models) (get_or (domain_models r) i d)
        (λ unknown. none _ (StandsInDeclarations.unknown_model (get_or (domain_models r) i d) (Contains-get_or (domain_models r) i d l) unknown));
    one_domain = λ model twice. none _ (StandsInDeclarations.two_domains model twice);
    declared_once = λ v twice. none _ (StandsInDeclarations.declared_twice v twice);
    one_template = λ v twice. none _ (StandsInDeclarations.two_templates v twice);
    declared = λ v among. ⊎_elim (λ left. inl (typed_written r v left)) (λ right. inr right) (Contains-append_cases (typed_names r) (template_variables r) v (there v among));
  }
    where
      there : (v : List ℕ) → Contains (variables_of r) v → Contains (typed_names r ++ template_variables r) v
      there v among = is_among (typed_names r ++ template_variables r) v (λ missing. none _ (StandsInDeclarations.undeclared v among
          (λ tree written. missing (Contains-append_left (typed_names r) (template_variables r) v (written_typed r v tree written)))
          (λ template. missing (Contains-append_right (typed_names r) (template_variables r) v template))))

  abbrev pub names : ModelNames
  names = record { models = first_entries (metamodel_numbers (slots_of s.script)); metas = metamodel_names s.script }

  abbrev class : Classes
  class = class_in s.metas names

  no_fault : (f : TypeFault) → StandsInTypes (in_script s) class r f → ⊥
  no_fault f stands = none f (types_stand s r names refl refl names_in_order f stands)

  single : All (HasSingle (in_script s)) (written_types r)
  single i d l = by (single_type (in_script s) (get_or (written_types r) i d).1) refl
    where
      by : (o : RuleResult Ty) → single_type (in_script s) (get_or (written_types r) i d).1 ≡ o → HasSingle (in_script s) (get_or (written_types r) i d)
      by (Ok ty) is = (ty, is)
      by (Err f) is = absurd (no_fault f (StandsInTypes.wrong_written
          (record { name = (get_or (written_types r) i d).0; tree = (get_or (written_types r) i d).1; among = Contains-get_or (written_types r) i d l; is = is })))

  has_class : (p : List ℕ × Piece) → Contains (located r) p → HasClass class p
  has_class (model, begins at v path) among = by (class model path) refl
    where
      by : (o : Option (ℕ × ClassId)) → class model path ≡ o → IsTrue (is_some o)
      by None is = absurd (no_fault (UnknownName (path_text path)) (StandsInTypes.no_class (record { piece = (model, begins at v path); among = among; lacks = (is, refl) })))
      by (Some c) is = refl
  has_class (model, asks at e) among = tt

  agreed : (t : List ℕ × Ty) → Contains (template_types class r) t → IsAgreed (first_entries (declared_types (in_script s) r)) t
  agreed t among ty found =
      is_one ty t.1 (λ apart. no_fault (wrong_type s.metas ty t.1) (StandsInTypes.other_class (record { typing = t; among = among; other = (ty, found, apart, refl) })))

  pub types_in_order : AreTyped (in_script s) class r
  types_in_order = record {
    single = single;
    known = λ i d l. has_class (get_or (located r) i d) (Contains-get_or (located r) i d l);
    agreed = λ i d l. agreed (get_or (template_types class r) i d) (Contains-get_or (template_types class r) i d l);
  }

-- ---- a script

module _ (s : Setting) (none : (f : TypeFault) → StandsInScript s f → ⊥) where
  pub none_declared : (r : RelationTree) → Contains (relations_of s.script) r → (f : TypeFault) → StandsInDeclarations s r f → ⊥
  none_declared r among f stands = none f (StandsInScript.declaration r f among stands)

  pub script_in_order : AreInOrder s.script s.target
  script_in_order = record {
    aimed = is_among (model_names s.script.models) s.target (λ unknown. none _ (StandsInScript.target unknown));
    distinct = λ name twice. none _ (StandsInScript.name name twice);
    relations = λ i d l. names_in_order s (get_or (relations_of s.script) i d) (none_declared (get_or (relations_of s.script) i d) (Contains-get_or (relations_of s.script) i d l));
  }

  pub one_variables : (r : RelationTree) → Contains (relations_of s.script) r → (xs ys : List Var) → AreVariables s r xs → AreVariables s r ys → xs ≡ ys
  one_variables r among xs ys one other =
      let declared = none_declared r among in
      one_list s r (names s r declared) refl refl (names_in_order s r declared) (model_numbers s.script s.target script_in_order)
      (named_relations (relations_of s.script)) (λ n. refl) (relations_apart s none) (types_in_order s r declared) xs ys one other
