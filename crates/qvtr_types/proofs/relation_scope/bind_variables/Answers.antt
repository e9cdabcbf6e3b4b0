use Rattle.std.proofs.Common.{◌≡◌, ℕ, List, [], take, arith, ap, sym, subst, ◌∙◌}
use Rattle.std.specs.Prelude.{is_some, IsTrue, All}
use Rattle.std.proofs.lemmas.List.{take_all}
use Rattle.std.proofs.lemmas.List.Elements.{All-contains}
use Rattle.mof_metamodel.specs.NameTables.{NamesWith, value_of}
use Rattle.qv_syntax.specs.declared.program.Var.{Var}
use Rattle.ocl_environments.specs.declared.variable.Variable.{Variable}
use Rattle.ocl_environments.specs.Environments.{Environment, is_variable, with_variable}
use Rattle.script_scopes.specs.Environments.{named_variables}
use Rattle.qvtr_types.proofs.RelationScopeLaws.{unbound_yet, one_bound}
use Rattle.qvtr_types.proofs.relation_scope.bind_variables.Goals as goal

pub bind_variable-requires-clause-unbound : goal.bind_variable-requires-clause-unbound
bind_variable-requires-clause-unbound c =
    ap (λ (e : Environment). is_some (value_of e.variables c.index-names-place.result)) c.loop-place.invariant
    ∙ unbound_yet c.args.names.now c.args.vars.now c.requires.count c.loop-place.place (omega arith) c.index-names-place.result c.index-names-place.is c.requires.apart

pub bind_variable-requires-clause-typed : goal.bind_variable-requires-clause-typed
bind_variable-requires-clause-typed c =
    subst (λ (e : Environment). IsTrue (is_variable e ([], record { ty = c.index-vars-place.result.ty; model = c.index-vars-place.result.model }))) (sym c.loop-place.invariant)
    (All-contains (λ (v : Var). IsTrue (is_variable c.args.env.now ([], record { ty = v.ty; model = v.model }))) c.args.vars.now c.index-vars-place.result c.requires.typed
    (c.loop-place.place, omega (arith, c.requires.count), sym c.index-vars-place.is))

pub loop-place-preserved : goal.loop-place-preserved
loop-place-preserved c =
    let name : List ℕ = c.index-names-place.result in
    let variable : Variable = record { ty = c.index-vars-place.result.ty; model = c.index-vars-place.result.model } in
    c.in_ok-bind_variable.ensures.ok ∙ ap (λ (e : Environment). with_variable e name variable) c.loop-place.invariant
    ∙ ap (λ (vs : NamesWith Variable). record c.args.env.now { variables = vs })
    (sym (one_bound c.args.names.now c.args.vars.now c.requires.count c.loop-place.place (omega arith) name c.index-names-place.is c.index-vars-place.result c.index-vars-place.is))
