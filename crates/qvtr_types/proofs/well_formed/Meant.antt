-- The relations of what a script resolves to are as a transformation means them.
use Rattle.std.proofs.Common.{◌≡◌, ◌⊎◌, ℕ, List, Bool, true, false, refl, sym, ◌∙◌, ap, subst, inl, inr}
use Rattle.std.specs.Prelude.{◌↔◌, Some, Contains, slice_get}
use Rattle.std.specs.List.{AllZip}
use Rattle.std.proofs.lemmas.Bool.{false≢true}
use Rattle.std.proofs.lemmas.Option.{same_Some}
use Rattle.qv_syntax.specs.declared.query.ModelSlot.{ModelSlot}
use Rattle.qv_syntax.specs.declared.script.RelationTree.{RelationTree}
use Rattle.qv_syntax.specs.declared.program.Program.{Program}
use Rattle.qv_syntax.specs.declared.program.Rel.{Rel}
use Rattle.qv_syntax.specs.declared.program.Var.{Var}
use Rattle.qv_syntax.specs.declared.program.Dom.{Dom}
use Rattle.qv_syntax.specs.Relations as programs
use Rattle.qv_syntax.specs.Directions.{IsInModel, HasVariables, CallsInDirection, IsMeant, AreMeant}
use Rattle.ocl_environments.specs.declared.fault.TypeFault.{TypeFault}
use Rattle.script_scopes.specs.ScriptNames.{model_names}
use Rattle.script_scopes.specs.Occurrences.{relations_of, variables_of, template_variables}
use Rattle.script_scopes.specs.Divisions.{first_template, IsUniversal}
use Rattle.script_scopes.specs.Directions.{IsInDirection}
use Rattle.script_scopes.specs.Environments.{Setting, slots_of}
use Rattle.script_scopes.specs.Declarations.{relation_names}
use Rattle.script_scopes.specs.Resolutions.{IsRelation, model_number}
use Rattle.script_scopes.specs.Faults.{domain_models, StandsInScript, StandsInDeclarations}
use Rattle.script_scopes.specs.UniversalNames.{has_domain_of}
use Rattle.script_variables.specs.SettledRelations.{IsSettled}
use Rattle.script_scopes.proofs.DivisionLaws.{in_direction}
use Rattle.script_scopes.proofs.CallRowLaws.{among_some}
use Rattle.mof_metamodel.proofs.Facts.{contains_at}
use Rattle.qvtr_types.proofs.ProgramCallLaws.{when_from, where_from, program_stratum}
use Rattle.qvtr_types.proofs.ZipLemmas.{zip_left, zip_right}
use Rattle.qvtr_types.proofs.OccurrenceLaws.{when_variable, where_variable}
use Rattle.qvtr_types.proofs.well_formed.Numbers.{AreApart}
use Rattle.qvtr_types.proofs.well_formed.Domains.{comes_from, comes_to}
use Rattle.qvtr_types.proofs.well_formed.Universal.{target_from, target_to, universal_from, universal_to, name_of, data_from, bound_to}
use Rattle.qvtr_types.proofs.well_formed.Sides.{has_equations}
use Rattle.qvtr_types.proofs.well_formed.Shapes.{has_domains}
use Rattle.qvtr_types.proofs.well_formed.Typing.{fitting}

module _ (s : Setting) (program : Program) (none : (f : TypeFault) → StandsInScript s f → ⊥) (models : program.models ≡ slots_of s.script)
    (aimed : slice_get (model_names s.script.models) program.target ≡ Some s.target) (rels : AllZip (IsRelation s) (relations_of s.script) program.rels)
    (models_apart : AreApart (model_names s.script.models)) (relations_apart : AreApart (relation_names s.script)) where
  module _ (r : RelationTree) (rel : Rel) (among : Contains (relations_of s.script) r) (is : IsRelation s r rel) (settled : IsSettled s r rel.vars) where
    -- ---- variables

    in_model : (var : Var) → Contains rel.vars var → IsInModel program var
    in_model var c =
        let v = among_some rel.vars var c in
        let name = name_of s program aimed models_apart r rel is v.0 var v.1 in
        let fit = fitting s r rel.vars settled.in_order v.0 name.0 var name.1 v.1 in
        record {
          object = λ meta class is_class.
              let own = name.2.object meta class is_class in
              let model = fit.object (model_number s own.0) own.2 in
              (model_number s own.0, model.0, own.2, ap (λ (xs : List ModelSlot). slice_get xs (model_number s own.0)) models ∙ model.1, model.2 meta class is_class);
          data_value = name.2.data_value;
        }

    universal_those : (v : ℕ) (var : Var) → slice_get rel.vars v ≡ Some var → Contains rel.universal v ↔ programs.IsUniversal program rel v
    universal_those v var at =
        let name = name_of s program aimed models_apart r rel is v var at in
        let those = is.universal.those v name.0 name.1 in (
          λ c. universal_to s program aimed models_apart r rel is v name.0 name.1 var at (those.0 c),
          λ u. those.1 (universal_from s program aimed models_apart r rel is v name.0 name.1 var at u),
        )

    existential_those : (v : ℕ) (var : Var) → slice_get rel.vars v ≡ Some var → Contains rel.existential v ↔ (programs.IsUniversal program rel v → ⊥)
    existential_those v var at =
        let name = name_of s program aimed models_apart r rel is v var at in
        let those = is.existential.those v name.0 name.1 in (
          λ c u. those.0 c (universal_from s program aimed models_apart r rel is v name.0 name.1 var at u),
          λ no. those.1 (λ u. no (universal_to s program aimed models_apart r rel is v name.0 name.1 var at u)),
        )

    bound : (v : ℕ) → programs.IsDataVariable rel v → programs.IsBound program rel v
    bound v d =
        let name = data_from s program aimed models_apart r rel is v d in
        bound_to s program aimed models_apart r rel is name.0 (settled.bound name.0 (contains_at (variables_of r) v name.0 name.1) name.2) v name.1

    has_variables : HasVariables program rel
    has_variables = record {
      models = in_model;
      universal = universal_those;
      existential = existential_those;
      universal_order = is.universal.order;
      existential_order = is.existential.order;
      bound = bound;
    }

    -- ---- the direction

    directed : (rel.in_direction ≡ true) ↔ ((dom : Dom) × programs.IsTargetDomain program rel dom)
    directed = (λ inside. to (is.direction.0 inside), λ target. is.direction.1 (from target))
      where
        to : IsInDirection s.target r → (dom : Dom) × programs.IsTargetDomain program rel dom
        to (domain, c, of) =
            let place = among_some r.domains domain c in
            let dom = comes_to s r rel is.domains place.0 domain place.1 in
            (dom.0, record { is = contains_at rel.domains place.0 dom.0 dom.1; target = target_to s program aimed models_apart r rel.vars (first_template r place.0) domain dom.0 dom.2 of })

        from : ((dom : Dom) × programs.IsTargetDomain program rel dom) → IsInDirection s.target r
        from (dom, target) =
            let domain = comes_from s r rel is.domains dom target.is in (
              domain.domain,
              contains_at r.domains domain.place domain.domain domain.found,
              target_from s program aimed models_apart r rel.vars (first_template r domain.place) domain.domain dom domain.is target.target,
            )

    called_inside : (called : RelationTree) (number : ℕ) (target : Rel) → slice_get (relations_of s.script) number ≡ Some called → slice_get program.rels number ≡ Some target
        → (IsInDirection s.target called → ⊥) ⊎ IsInDirection s.target called → ((IsInDirection s.target called → ⊥) → ⊥) → target.in_direction ≡ true
    called_inside called number target at at_target either not_outside =
        let there = zip_right (IsRelation s) (relations_of s.script) program.rels number called rels at in
        let same : there.0 ≡ target = same_Some there.0 target (sym there.1 ∙ at_target) in
        elim either [
          | inl outside ↦ absurd (not_outside outside)
          | inr inside ↦ subst (λ (x : Rel). x.in_direction ≡ true) same (there.2.direction.1 inside)
        ]

    inside_or : (called : RelationTree) → (IsInDirection s.target called → ⊥) ⊎ IsInDirection s.target called
    inside_or called = by (has_domain_of s.target called.domains) refl
      where
        by : (b : Bool) → has_domain_of s.target called.domains ≡ b → (IsInDirection s.target called → ⊥) ⊎ IsInDirection s.target called
        by true at = inr ((in_direction s.target called).0 at)
        by false at = inl (λ inside. false≢true (sym at ∙ (in_direction s.target called).1 inside))

    calls_inside : rel.in_direction ≡ true → CallsInDirection program rel
    calls_inside inside = record {
      whens = λ number called calls at.
          let c = when_from s relations_apart program rels r rel is number calls in
          called_inside c.0 number called c.1 at (inside_or c.0)
          (λ outside. none _ (StandsInScript.direction r c.0 among (record { inside = is.direction.0 inside; call = inl c.2; outside = outside })));
      wheres = λ number called calls at.
          let c = where_from s relations_apart program rels r rel is number calls in
          called_inside c.0 number called c.1 at (inside_or c.0)
          (λ outside. none _ (StandsInScript.direction r c.0 among (record { inside = is.direction.0 inside; call = inr c.2; outside = outside })));
    }

    -- ---- the whole

    domains_once : AreApart (domain_models r)
    domains_once model twice = none _ (StandsInScript.declaration r _ among (StandsInDeclarations.two_domains model twice))

    templates_once : AreApart (template_variables r)
    templates_once v twice = none _ (StandsInScript.declaration r _ among (StandsInDeclarations.two_templates v twice))

    pub is_meant : (number : ℕ) → slice_get program.rels number ≡ Some rel → IsMeant program number rel
    is_meant number at = record {
      domains = has_domains s program models models_apart r rel is settled.one domains_once templates_once;
      variables = has_variables;
      whens = has_equations s program aimed models_apart r rel is settled.one (λ v. IsUniversal s.target r v) (programs.IsUniversal program rel)
          (λ v name at var at_var. universal_to s program aimed models_apart r rel is v name at var at_var) (λ v name at var at_var. universal_from s program aimed models_apart r rel is v name at var at_var)
          r.when rel.whens (when_variable r) is.whens;
      wheres = has_equations s program aimed models_apart r rel is settled.one (λ v. IsUniversal s.target r v → ⊥) (λ v. programs.IsUniversal program rel v → ⊥)
          (λ v name at var at_var no u. no (universal_from s program aimed models_apart r rel is v name at var at_var u))
          (λ v name at var at_var no u. no (universal_to s program aimed models_apart r rel is v name at var at_var u)) r.wheres rel.wheres (where_variable r) is.wheres;
      direction = directed;
      calls = calls_inside;
      stratum = program_stratum s relations_apart program rels number rel at;
    }

  pub are_meant : AllZip (λ r rel. IsSettled s r rel.vars) (relations_of s.script) program.rels → AreMeant program
  are_meant settled number rel at =
      let there = zip_left (IsRelation s) (relations_of s.script) program.rels number rel rels at in
      let own = zip_left (λ r (x : Rel). IsSettled s r x.vars) (relations_of s.script) program.rels number rel settled at in
      let same : own.0 ≡ there.0 = same_Some own.0 there.0 (sym own.1 ∙ there.1) in
      is_meant there.0 rel (contains_at (relations_of s.script) number there.0 there.1) there.2 (subst (λ (r : RelationTree). IsSettled s r rel.vars) same own.2) number at
