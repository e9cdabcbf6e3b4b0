use Rattle.std.proofs.Common.{◌≡◌, ◌⊎◌, ℕ, List, map}
use Rattle.std.specs.Prelude.{All, chars}
use Rattle.std.specs.List.{AllZip}
use Rattle.std.proofs.lemmas.Result.{err_from_is_err_and}
use Rattle.mof_metamodel.specs.NameTables.{NamesWith}
use Rattle.qv_syntax.specs.declared.program.Var.{Var}
use Rattle.ocl_environments.specs.declared.fault.TypeFault.{TypeFault}
use Rattle.ocl_types.proofs.QueryLemmas.{err_told, fault_of_result, ok_told}
use Rattle.script_scopes.specs.Occurrences.{variables_of}
use Rattle.script_scopes.specs.Environments.{Setting}
use Rattle.script_scopes.specs.Faults.{StandsInDeclarations, AreVariables}
use Rattle.script_scopes.specs.VariableTypes.{class_in, StandsInTypes}
use Rattle.script_scopes.specs.ScriptNames.{each_once}
use Rattle.script_scopes.specs.UniversalNames.{universal_names}
use Rattle.script_scopes.specs.FirstEntries.{first_entries}
use Rattle.script_variables.specs.Bindings.{IsBoundVariable, IsUnboundVariable}
use Rattle.script_variables.specs.Variables.{IsVarOf, IsModelFault}
use Rattle.script_scopes.specs.ModelLists.{object_models, IsMixFault}
use Rattle.script_variables.specs.SettledRelations.{HaveOneType, AllBound}
use Rattle.script_variables.specs.ScriptSettings.{IsOneOf, shown_relations}
use Rattle.script_variables.proofs.SettingLaws.{types_fault, had, mixed_stands, made_stands, one_of_each, are_those, all_of_them_bound, none_of_them, made_one, answered_told}
use Rattle.script_variables.proofs.resolved_variables.relation_variables.Goals as goal

pub returns-in_err-types-clause-fault : goal.returns-in_err-types-clause-fault
returns-in_err-types-clause-fault c =
    let target : List ℕ = chars c.args.target.now in
    let p = err_from_is_err_and c.from_residual.result c.from_residual.ensures.1 in
    err_told c.from_residual.result p.0 _
    (λ (f : TypeFault). (s : Setting) → IsOneOf s c.args.env.now c.args.tables.now target c.args.r.now → StandsInDeclarations s c.args.r.now f)
    (StandsInTypes c.args.env.now (class_in c.args.env.now.metas c.args.tables.now.names) c.args.r.now) p.1 p.2
    (λ f h s one. types_fault c.args.env.now c.args.tables.now target c.args.r.now s one f h)
    c.in_err-types.ensures.fault

pub returns-in_err-models-clause-fault : goal.returns-in_err-models-clause-fault
returns-in_err-models-clause-fault c =
    let target : List ℕ = chars c.args.target.now in
    let given : NamesWith (List ℕ) = object_models (shown_relations c.args.tables.now) c.args.r.now in
    let p = err_from_is_err_and c.from_residual-in_err-models.result c.from_residual-in_err-models.ensures.1 in
    err_told c.from_residual-in_err-models.result p.0 _
    (λ (f : TypeFault). (s : Setting) → IsOneOf s c.args.env.now c.args.tables.now target c.args.r.now → StandsInDeclarations s c.args.r.now f)
    (IsMixFault c.in_ok-types.types (first_entries given) given) p.1 p.2
    (λ f h s one. mixed_stands c.args.env.now c.args.tables.now target c.args.r.now s one c.in_ok-types.types c.in_ok-types.ensures.types c.in_ok-types.ensures.typed f h)
    c.in_err-models.ensures.fault

pub bound_variables-requires : goal.bound_variables-requires
bound_variables-requires c =
    had c.args.env.now c.args.tables.now (chars c.args.target.now) c.args.r.now c.requires.0 c.requires.1 c.in_ok-types.types c.in_ok-types.ensures.types c.in_ok-types.ensures.typed

pub returns-clause-variables : goal.returns-clause-variables
returns-clause-variables c =
    let target : List ℕ = chars c.args.target.now in
    let numbers : List (List ℕ) = map {A = List ℕ × ℕ} {B = List ℕ} (λ e. e.0) c.args.tables.now.names.models in
    let Bound : List ℕ → Type 0 = IsBoundVariable c.in_ok-types.types (each_once (universal_names target c.args.r.now)) target c.args.r.now in
    ok_told c.bound_variables.result (All Bound (variables_of c.args.r.now)) (AllZip (IsVarOf c.in_ok-types.types c.in_ok-models.models numbers) (variables_of c.args.r.now))
    (λ vars. (s : Setting) → IsOneOf s c.args.env.now c.args.tables.now target c.args.r.now → AreVariables s c.args.r.now vars)
    (λ vars bound all s one. are_those c.args.env.now c.args.tables.now target c.args.r.now s one c.in_ok-types.types c.in_ok-types.ensures.types c.in_ok-types.ensures.typed
    c.in_ok-models.models c.in_ok-models.ensures.models c.in_ok-models.ensures.own vars all)
    c.bound_variables.ensures.bound c.bound_variables.ensures.vars

pub returns-clause-only : goal.returns-clause-only
returns-clause-only c =
    let target : List ℕ = chars c.args.target.now in
    let numbers : List (List ℕ) = map {A = List ℕ × ℕ} {B = List ℕ} (λ e. e.0) c.args.tables.now.names.models in
    let Bound : List ℕ → Type 0 = IsBoundVariable c.in_ok-types.types (each_once (universal_names target c.args.r.now)) target c.args.r.now in
    ok_told c.bound_variables.result (All Bound (variables_of c.args.r.now)) (AllZip (IsVarOf c.in_ok-types.types c.in_ok-models.models numbers) (variables_of c.args.r.now))
    (λ vars. (s : Setting) (other : List Var) → IsOneOf s c.args.env.now c.args.tables.now target c.args.r.now → AreVariables s c.args.r.now other → other ≡ vars)
    (λ vars bound all s other one are. made_one c.args.env.now c.args.tables.now target c.args.r.now s one c.in_ok-types.ensures.typed other vars are
    (are_those c.args.env.now c.args.tables.now target c.args.r.now s one c.in_ok-types.types c.in_ok-types.ensures.types c.in_ok-types.ensures.typed
    c.in_ok-models.models c.in_ok-models.ensures.models c.in_ok-models.ensures.own vars all))
    c.bound_variables.ensures.bound c.bound_variables.ensures.vars

pub returns-clause-one : goal.returns-clause-one
returns-clause-one c =
    let target : List ℕ = chars c.args.target.now in
    let numbers : List (List ℕ) = map {A = List ℕ × ℕ} {B = List ℕ} (λ e. e.0) c.args.tables.now.names.models in
    let Bound : List ℕ → Type 0 = IsBoundVariable c.in_ok-types.types (each_once (universal_names target c.args.r.now)) target c.args.r.now in
    ok_told c.bound_variables.result (All Bound (variables_of c.args.r.now)) (AllZip (IsVarOf c.in_ok-types.types c.in_ok-models.models numbers) (variables_of c.args.r.now))
    (λ vars. (s : Setting) → IsOneOf s c.args.env.now c.args.tables.now target c.args.r.now → HaveOneType s c.args.r.now vars)
    (λ vars bound all s one. one_of_each c.args.env.now c.args.tables.now target c.args.r.now s one c.in_ok-types.types c.in_ok-types.ensures.types c.in_ok-types.ensures.typed
    c.in_ok-models.models vars all)
    c.bound_variables.ensures.bound c.bound_variables.ensures.vars

pub returns-clause-bound : goal.returns-clause-bound
returns-clause-bound c =
    let target : List ℕ = chars c.args.target.now in
    let numbers : List (List ℕ) = map {A = List ℕ × ℕ} {B = List ℕ} (λ e. e.0) c.args.tables.now.names.models in
    let Bound : List ℕ → Type 0 = IsBoundVariable c.in_ok-types.types (each_once (universal_names target c.args.r.now)) target c.args.r.now in
    answered_told c.bound_variables.result (All Bound (variables_of c.args.r.now))
    ((s : Setting) → IsOneOf s c.args.env.now c.args.tables.now target c.args.r.now → AllBound s c.args.r.now)
    (AllZip (IsVarOf c.in_ok-types.types c.in_ok-models.models numbers) (variables_of c.args.r.now))
    (λ vars bound all s one. all_of_them_bound c.args.env.now c.args.tables.now target c.args.r.now s one c.in_ok-types.types c.in_ok-types.ensures.types c.in_ok-types.ensures.typed
    c.in_ok-models.models c.in_ok-models.ensures.models c.in_ok-models.ensures.own vars all bound)
    c.bound_variables.ensures.bound c.bound_variables.ensures.vars

pub returns-clause-none : goal.returns-clause-none
returns-clause-none c =
    let target : List ℕ = chars c.args.target.now in
    let numbers : List (List ℕ) = map {A = List ℕ × ℕ} {B = List ℕ} (λ e. e.0) c.args.tables.now.names.models in
    let Bound : List ℕ → Type 0 = IsBoundVariable c.in_ok-types.types (each_once (universal_names target c.args.r.now)) target c.args.r.now in
    answered_told c.bound_variables.result (All Bound (variables_of c.args.r.now))
    ((s : Setting) (f : TypeFault) → IsOneOf s c.args.env.now c.args.tables.now target c.args.r.now → ¬ StandsInDeclarations s c.args.r.now f)
    (AllZip (IsVarOf c.in_ok-types.types c.in_ok-models.models numbers) (variables_of c.args.r.now))
    (λ vars bound all s f one. none_of_them c.args.env.now c.args.tables.now target c.args.r.now s one c.in_ok-types.types c.in_ok-types.ensures.types c.in_ok-types.ensures.typed
    c.in_ok-models.models c.in_ok-models.ensures.models c.in_ok-models.ensures.own vars all bound f)
    c.bound_variables.ensures.bound c.bound_variables.ensures.vars

pub returns-clause-fault : goal.returns-clause-fault
returns-clause-fault c =
    let target : List ℕ = chars c.args.target.now in
    fault_of_result c.bound_variables.result
    (λ (f : TypeFault). IsModelFault c.in_ok-types.types c.in_ok-models.models (variables_of c.args.r.now) f ⊎ IsUnboundVariable c.in_ok-types.types (each_once (universal_names target c.args.r.now)) target c.args.r.now (variables_of c.args.r.now) f)
    (λ (f : TypeFault). (s : Setting) → IsOneOf s c.args.env.now c.args.tables.now target c.args.r.now → StandsInDeclarations s c.args.r.now f)
    (λ f h s one. made_stands c.args.env.now c.args.tables.now target c.args.r.now s one c.in_ok-types.types c.in_ok-types.ensures.types c.in_ok-types.ensures.typed
    c.in_ok-models.models c.in_ok-models.ensures.models f h)
    c.bound_variables.ensures.fault
