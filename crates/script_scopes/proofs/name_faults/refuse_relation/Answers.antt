use Rattle.std.proofs.Common.{ℕ, List, ◌++◌, map}
use Rattle.std.specs.Prelude.{All, Contains}
use Rattle.ocl_types.proofs.QueryLemmas.{fault_of_result}
use Rattle.script_scopes.specs.ScriptNames.{each_once}
use Rattle.script_scopes.specs.Occurrences.{variables_of, template_variables}
use Rattle.script_scopes.specs.Faults.{typed_names}
use Rattle.script_scopes.specs.Refusals.{IsUnknownFault, HasNamesInOrder, StandsInNames}
use Rattle.script_scopes.proofs.RefusalLemmas.{given_then, in_order, undeclared_stands}
use Rattle.script_scopes.proofs.name_faults.refuse_relation.Goals as goal

pub returns-clause-in_order : goal.returns-clause-in_order
returns-clause-in_order c =
    let models : List (List ℕ) = map {A = List ℕ × ℕ} {B = List ℕ} (λ e. e.0) c.args.models.now in
    given_then c.refuse_undeclared.result
    (All (Contains (each_once (typed_names c.args.r.now ++ template_variables c.args.r.now))) (variables_of c.args.r.now)) (HasNamesInOrder models c.args.r.now)
    (λ all. in_order models c.args.r.now c.in_ok-refuse_domains.ensures.known c.in_ok-refuse_domains.ensures.one_domain c.in_ok-refuse_typed_twice.ensures.none c.in_ok-refuse_two_templates.ensures.none all)
    c.refuse_undeclared.ensures.none

pub returns-clause-fault : goal.returns-clause-fault
returns-clause-fault c =
    let models : List (List ℕ) = map {A = List ℕ × ℕ} {B = List ℕ} (λ e. e.0) c.args.models.now in
    fault_of_result c.refuse_undeclared.result (IsUnknownFault (each_once (typed_names c.args.r.now ++ template_variables c.args.r.now)) (variables_of c.args.r.now))
    (StandsInNames models c.args.r.now) (undeclared_stands models c.args.r.now) c.refuse_undeclared.ensures.fault
