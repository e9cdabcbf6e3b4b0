use Rattle.std.proofs.Common.{ℕ, List, Bor, map, length, refl, sym, ap, subst, ◌∙◌}
use Rattle.std.specs.Prelude.{chars}
use Rattle.std.specs.List.{AllZip}
use Rattle.std.proofs.lemmas.List.{length-map}
use Rattle.std.proofs.lemmas.Result.{IfOk-weaker}
use Rattle.qv_syntax.specs.declared.program.Var.{Var}
use Rattle.qv_syntax.specs.declared.script.RelationTree.{RelationTree}
use Rattle.qv_syntax.specs.declared.script.Script.{Script}
use Rattle.ocl_environments.specs.declared.fault.TypeFault.{TypeFault}
use Rattle.ocl_types.proofs.QueryLemmas.{fault_of_result}
use Rattle.script_scopes.specs.Occurrences.{relations_of}
use Rattle.script_scopes.specs.Directions.{IsStratum}
use Rattle.script_scopes.specs.Environments.{Setting}
use Rattle.script_scopes.specs.Faults.{StandsInScript}
use Rattle.qvtr_types.specs.RootVariables.{AreRootsOf}
use Rattle.qvtr_types.specs.ScriptScopes.{IsDeclared}
use Rattle.qvtr_types.specs.ResolvedScripts.{IsScriptReach, IsResolvedTo}
use Rattle.qvtr_types.proofs.ZipLemmas.{zip_length}
use Rattle.qvtr_types.proofs.ScriptLaws.{script_scope, variables_counted}
use Rattle.qvtr_types.proofs.resolved_scripts.resolve_typed.Goals as goal

abbrev shown : List (Bor RelationTree) → List RelationTree
shown rs = map {A = Bor RelationTree} {B = RelationTree} (λ r. r.now) rs

abbrev roots_shown : List (List (Bor Var)) → List (List Var)
roots_shown rs = map (map {A = Bor Var} {B = Var} (λ r. r.now)) rs

pub all_roots-requires-clause-count : goal.all_roots-requires-clause-count
all_roots-requires-clause-count c =
    sym (zip_length (IsDeclared c.requires.setting.0) (relations_of c.args.script.now) c.args.vars.now c.requires.setting.2)
    ∙ ap (λ (xs : List RelationTree). length xs) (sym c.requires.listed)
    ∙ length-map {A = Bor RelationTree} {B = RelationTree} c.args.listed.0.now (λ r. r.now)

pub all_roots-requires-clause-each : goal.all_roots-requires-clause-each
all_roots-requires-clause-each c =
    let s : Setting = c.requires.setting.0 in
    let rs : List RelationTree = shown c.args.listed.0.now in
    variables_counted s rs c.args.vars.now (subst (λ (x : List RelationTree). AllZip (IsDeclared s) x c.args.vars.now) (sym c.requires.listed) c.requires.setting.2)

pub resolve_each-rels-requires-clause-layers : goal.resolve_each-rels-requires-clause-layers
resolve_each-rels-requires-clause-layers c =
    sym (zip_length (IsStratum c.args.script.now) (relations_of c.args.script.now) c.args.listed.1.now c.requires.layers)
    ∙ ap (λ (xs : List RelationTree). length xs) (sym c.requires.listed)
    ∙ length-map {A = Bor RelationTree} {B = RelationTree} c.args.listed.0.now (λ r. r.now)

pub resolve_each-rels-requires-clause-count : goal.resolve_each-rels-requires-clause-count
resolve_each-rels-requires-clause-count c =
    sym (zip_length (IsDeclared c.requires.setting.0) (relations_of c.args.script.now) c.args.vars.now c.requires.setting.2)
    ∙ ap (λ (xs : List RelationTree). length xs) (sym c.requires.listed)
    ∙ length-map {A = Bor RelationTree} {B = RelationTree} c.args.listed.0.now (λ r. r.now)

pub resolve_each-rels-requires-clause-setting : goal.resolve_each-rels-requires-clause-setting
resolve_each-rels-requires-clause-setting c =
    let s : Setting = c.requires.setting.0 in
    let target : List ℕ = chars c.args.over.0.now in
    let rs : List RelationTree = shown c.args.listed.0.now in
    let all : AllZip (IsDeclared s) rs c.args.vars.now =
    subst (λ (x : List RelationTree). AllZip (IsDeclared s) x c.args.vars.now) (sym c.requires.listed) c.requires.setting.2 in
    let roots : AreRootsOf rs c.args.vars.now (roots_shown c.as_slice.result.now) =
    subst (λ (x : List (List (Bor Var))). AreRootsOf rs c.args.vars.now (roots_shown x)) (sym c.as_slice.ensures) c.in-Ok-or_drop.ensures in (
      s,
      script_scope s c.args.env.now c.args.script.now target c.requires.setting.1 _ rs c.args.vars.now c.requires.listed refl c.requires.models c.requires.metas c.in_ok-numbers.ensures all roots,
      all,
    )

-- the same whichever the setting
pub returns-2-clause-are : goal.returns-2-clause-are
returns-2-clause-are c =
    let target : List ℕ = chars c.args.over.0.now in
    let rs : List RelationTree = shown c.args.listed.0.now in
    let roots : AreRootsOf rs c.args.vars.now (roots_shown c.as_slice.result.now) =
    subst (λ (x : List (List (Bor Var))). AreRootsOf rs c.args.vars.now (roots_shown x)) (sym c.as_slice.ensures) c.in-Ok-or_drop.ensures in
    IfOk-weaker c.resolve_each-rels.result _
    (λ rels. (s : Setting) → IsScriptReach s c.args.env.now c.args.script.now target → AllZip (IsDeclared s) (relations_of c.args.script.now) c.args.vars.now → AllZip (IsResolvedTo s) (relations_of c.args.script.now) rels)
    (λ rels h s reach own.
    let all : AllZip (IsDeclared s) rs c.args.vars.now =
    subst (λ (x : List RelationTree). AllZip (IsDeclared s) x c.args.vars.now) (sym c.requires.listed) own in
    let layers : AllZip (IsStratum s.script) rs c.args.listed.1.now =
    subst (λ (x : Script). AllZip (IsStratum x) rs c.args.listed.1.now) (sym reach.of_script)
    (subst (λ (x : List RelationTree). AllZip (IsStratum c.args.script.now) x c.args.listed.1.now) (sym c.requires.listed) c.requires.layers) in
    subst (λ (x : List RelationTree). AllZip (IsResolvedTo s) x rels) c.requires.listed
    (h s (script_scope s c.args.env.now c.args.script.now target reach _ rs c.args.vars.now c.requires.listed refl c.requires.models c.requires.metas c.in_ok-numbers.ensures all roots) all layers))
    c.resolve_each-rels.ensures.are

pub returns-2-clause-fault : goal.returns-2-clause-fault
returns-2-clause-fault c =
    let target : List ℕ = chars c.args.over.0.now in
    let rs : List RelationTree = shown c.args.listed.0.now in
    let roots : AreRootsOf rs c.args.vars.now (roots_shown c.as_slice.result.now) =
    subst (λ (x : List (List (Bor Var))). AreRootsOf rs c.args.vars.now (roots_shown x)) (sym c.as_slice.ensures) c.in-Ok-or_drop.ensures in
    fault_of_result c.resolve_each-rels.result _
    (λ (f : TypeFault). (s : Setting) → IsScriptReach s c.args.env.now c.args.script.now target → AllZip (IsDeclared s) (relations_of c.args.script.now) c.args.vars.now → StandsInScript s f)
    (λ f h s reach own.
    let all : AllZip (IsDeclared s) rs c.args.vars.now =
    subst (λ (x : List RelationTree). AllZip (IsDeclared s) x c.args.vars.now) (sym c.requires.listed) own in
    h s (script_scope s c.args.env.now c.args.script.now target reach _ rs c.args.vars.now c.requires.listed refl c.requires.models c.requires.metas c.in_ok-numbers.ensures all roots) all reach.typed)
    c.resolve_each-rels.ensures.fault
