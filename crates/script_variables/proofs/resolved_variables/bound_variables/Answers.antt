use Rattle.std.proofs.Common.{◌≡◌, ◌⊎◌, ℕ, List, true, map, sym, subst, ◌∙◌, inl, inr}
use Rattle.std.specs.Prelude.{All, IfOk, chars, is_some}
use Rattle.std.specs.List.{AllZip}
use Rattle.std.proofs.lemmas.Result.{err_from_is_err_and}
use Rattle.mof_metamodel.specs.NameTables.{value_of}
use Rattle.ocl_environments.specs.declared.fault.TypeFault.{TypeFault}
use Rattle.ocl_types.proofs.QueryLemmas.{err_told, fault_of_result}
use Rattle.script_scopes.specs.ScriptNames.{each_once}
use Rattle.script_scopes.specs.Occurrences.{variables_of}
use Rattle.script_scopes.specs.UniversalNames.{universal_names}
use Rattle.script_variables.specs.Bindings.{IsBoundVariable, IsUnboundVariable}
use Rattle.script_variables.specs.Variables.{IsVarOf, IsModelFault}
use Rattle.script_scopes.proofs.RefusalLemmas.{given}
use Rattle.script_variables.proofs.resolved_variables.bound_variables.Goals as goal

pub variables-requires : goal.variables-requires
variables-requires c = subst (All (λ (v : List ℕ). is_some (value_of c.args.types.now v) ≡ true)) (sym (c.as_slice-named.ensures ∙ c.in_ok-listed.ensures)) c.requires

pub returns-clause-vars : goal.returns-clause-vars
returns-clause-vars c =
    let numbers : List (List ℕ) = map {A = List ℕ × ℕ} {B = List ℕ} (λ e. e.0) c.args.names.now.models in
    subst (λ (ns : List (List ℕ)). IfOk c.variables.result (AllZip (IsVarOf c.args.types.now c.args.models.now numbers) ns)) (c.as_slice-named.ensures ∙ c.in_ok-listed.ensures) c.variables.ensures.vars

pub returns-clause-bound : goal.returns-clause-bound
returns-clause-bound c =
    let target : List ℕ = chars c.args.target.now in
    let Bound : List ℕ → Type 0 = IsBoundVariable c.args.types.now (each_once (universal_names target c.args.r.now)) target c.args.r.now in
    given c.variables.result (All Bound (variables_of c.args.r.now)) (subst (All Bound) (c.as_slice-named.ensures ∙ c.in_ok-listed.ensures) c.in_ok-refuse_data.ensures.bound)

pub returns-in_err-refuse_data-clause-fault : goal.returns-in_err-refuse_data-clause-fault
returns-in_err-refuse_data-clause-fault c =
    let target : List ℕ = chars c.args.target.now in
    let universal : List (List ℕ) = each_once (universal_names target c.args.r.now) in
    let p = err_from_is_err_and c.from_residual-in_err-refuse_data.result c.from_residual-in_err-refuse_data.ensures.1 in
    err_told c.from_residual-in_err-refuse_data.result p.0 _
    (λ (f : TypeFault). IsModelFault c.args.types.now c.args.models.now (variables_of c.args.r.now) f ⊎ IsUnboundVariable c.args.types.now universal target c.args.r.now (variables_of c.args.r.now) f)
    (IsUnboundVariable c.args.types.now universal target c.args.r.now c.as_slice-named.result.now) p.1 p.2
    (λ f h. inr (subst (λ (ns : List (List ℕ)). IsUnboundVariable c.args.types.now universal target c.args.r.now ns f) (c.as_slice-named.ensures ∙ c.in_ok-listed.ensures) h))
    c.in_err-refuse_data.ensures.fault

pub returns-clause-fault : goal.returns-clause-fault
returns-clause-fault c =
    let target : List ℕ = chars c.args.target.now in
    let universal : List (List ℕ) = each_once (universal_names target c.args.r.now) in
    fault_of_result c.variables.result (IsModelFault c.args.types.now c.args.models.now c.as_slice-named.result.now)
    (λ (f : TypeFault). IsModelFault c.args.types.now c.args.models.now (variables_of c.args.r.now) f ⊎ IsUnboundVariable c.args.types.now universal target c.args.r.now (variables_of c.args.r.now) f)
    (λ f h. inl (subst (λ (ns : List (List ℕ)). IsModelFault c.args.types.now c.args.models.now ns f) (c.as_slice-named.ensures ∙ c.in_ok-listed.ensures) h))
    c.variables.ensures.fault
