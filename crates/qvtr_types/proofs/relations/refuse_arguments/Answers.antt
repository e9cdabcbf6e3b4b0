use Rattle.std.proofs.Common.{◌⊎◌, ℕ, List, map, ◌∙◌}
use Rattle.std.proofs.lemmas.List.{length-map}
use Rattle.ocl_environments.specs.declared.fault.TypeFault.{TypeFault}
use Rattle.ocl_types.proofs.QueryLemmas.{fault_of_result}
use Rattle.script_scopes.specs.Conjuncts.{clause_conjuncts}
use Rattle.script_scopes.specs.Environments.{Setting}
use Rattle.script_scopes.specs.Faults.{StandsInExpressions}
use Rattle.qvtr_types.specs.ResolvedConjuncts.{ClauseReach}
use Rattle.qvtr_types.specs.LoneArguments.{IsUnrelatedFault}
use Rattle.qvtr_types.specs.ScriptScopes.{IsDeclared, IsScriptScopeOf, scope_roots}
use Rattle.qvtr_types.proofs.RelationLaws.{both_given, over_types, over_count, over_roots, over_related, over_stands}
use Rattle.qvtr_types.proofs.relations.refuse_arguments.Goals as goal

abbrev shown : List (List ℕ × ℕ) → List (List ℕ)
shown es = map {A = List ℕ × ℕ} {B = List ℕ} (λ e. e.0) es

pub refuse_unrelated-requires-clause-types : goal.refuse_unrelated-requires-clause-types
refuse_unrelated-requires-clause-types c =
    over_types c.requires.setting.0 c.args.env.now c.args.scope.now c.requires.setting.1 c.args.r.now c.args.variables.now.vars.now c.requires.setting.2
    (shown c.args.variables.now.numbers.now) c.requires.numbers

pub refuse_unrelated-requires-clause-count : goal.refuse_unrelated-requires-clause-count
refuse_unrelated-requires-clause-count c =
    over_count c.requires.setting.0 c.args.env.now c.args.scope.now c.requires.setting.1 c.args.r.now c.args.variables.now.vars.now c.requires.setting.2
    (shown c.args.variables.now.numbers.now) c.requires.numbers
    ∙ length-map {A = List ℕ × ℕ} {B = List ℕ} c.args.variables.now.numbers.now (λ e. e.0)

pub refuse_unrelated-requires-clause-roots : goal.refuse_unrelated-requires-clause-roots
refuse_unrelated-requires-clause-roots c =
    over_roots c.requires.setting.0 c.args.env.now c.args.scope.now c.requires.setting.1 c.args.r.now c.args.variables.now.vars.now c.requires.setting.2
    (shown c.args.variables.now.numbers.now) c.requires.numbers

pub returns-clause-related : goal.returns-clause-related
returns-clause-related c =
    both_given c.refuse_unrelated.result _ _ _
    (λ whens wheres s h own. over_related s c.args.env.now c.args.scope.now h c.args.r.now c.args.variables.now.vars.now own (shown c.args.variables.now.numbers.now) c.requires.numbers whens wheres)
    c.refuse_unrelated.ensures.whens c.refuse_unrelated.ensures.wheres

pub returns-clause-fault : goal.returns-clause-fault
returns-clause-fault c =
    let over : ClauseReach =
    record { env = c.args.env.now; variables = shown c.args.variables.now.numbers.now; relations = shown c.args.scope.now.relations.now; roots = scope_roots c.args.scope.now } in
    fault_of_result c.refuse_unrelated.result
    (λ (f : TypeFault). IsUnrelatedFault over c.args.variables.now.vars.now (clause_conjuncts c.args.r.now.when) f ⊎ IsUnrelatedFault over c.args.variables.now.vars.now (clause_conjuncts c.args.r.now.wheres) f)
    (λ (f : TypeFault). (s : Setting) → IsScriptScopeOf s c.args.env.now c.args.scope.now → IsDeclared s c.args.r.now c.args.variables.now.vars.now
    → StandsInExpressions s c.args.r.now c.args.variables.now.vars.now f)
    (λ f x s h own. over_stands s c.args.env.now c.args.scope.now h c.args.r.now c.args.variables.now.vars.now own (shown c.args.variables.now.numbers.now) c.requires.numbers f x)
    c.refuse_unrelated.ensures.fault
