use Rattle.std.proofs.Common.{ℕ, ◌+◌, List, [], ◌∷◌, ◌++◌, Bor, map, take, arith, sym, subst}
use Rattle.std.specs.Prelude.{chars, Contains}
use Rattle.std.specs.List.{AllZip}
use Rattle.std.proofs.lemmas.List.{take_all}
use Rattle.std.proofs.lemmas.Result.{err_from_is_err_and}
use Rattle.qv_syntax.specs.declared.program.Var.{Var}
use Rattle.qv_syntax.specs.declared.script.RelationTree.{RelationTree}
use Rattle.ocl_environments.specs.declared.fault.TypeFault.{TypeFault}
use Rattle.ocl_types.proofs.QueryLemmas.{err_told}
use Rattle.script_scopes.specs.Environments.{Setting}
use Rattle.script_scopes.specs.Faults.{StandsInDeclarations}
use Rattle.script_variables.specs.ScriptSettings.{IsOneOf, AreOfScript, StandsInOneOf}
use Rattle.qvtr_types.specs.ScriptScopes.{IsDeclared}
use Rattle.script_scopes.proofs.LoopLemmas.{shown_more, zip_push}
use Rattle.script_scopes.proofs.MemberLemmas.{to_map}
use Rattle.qvtr_types.proofs.declared_variables.all_variables.Goals as goal

abbrev shown : List (Bor RelationTree) → List RelationTree
shown rs = map {A = Bor RelationTree} {B = RelationTree} (λ r. r.now) rs

pub relation_variables-requires : goal.relation_variables-requires
relation_variables-requires c = (
  c.requires.0,
  c.requires.1 c.relation-item.result.now
      (to_map {X = Bor RelationTree} {Y = RelationTree} (λ r. r.now) c.args.relations.now c.relation-item.result (c.loop-relation.relation-index, omega arith, sym c.relation-item.is)),
)

pub returns-in_err-vars-clause-fault : goal.returns-in_err-vars-clause-fault
returns-in_err-vars-clause-fault c =
    let target : List ℕ = chars c.args.target.now in
    let r : RelationTree = c.relation-item.result.now in
    let among : Contains (shown c.args.relations.now) r =
    to_map {X = Bor RelationTree} {Y = RelationTree} (λ r. r.now) c.args.relations.now c.relation-item.result (c.loop-relation.relation-index, omega arith, sym c.relation-item.is) in
    let p = err_from_is_err_and c.from_residual.result c.from_residual.ensures.1 in
    err_told c.from_residual.result p.0 _
    (λ (f : TypeFault). (s : Setting) → AreOfScript s c.args.env.now c.args.tables.now target (shown c.args.relations.now) → StandsInOneOf s (shown c.args.relations.now) f)
    (λ (f : TypeFault). (s : Setting) → IsOneOf s c.args.env.now c.args.tables.now target r → StandsInDeclarations s r f) p.1 p.2
    (λ f h s are. record { r = r; among = among; stands = h s (are r among) })
    c.in_err-vars.ensures.fault

pub loop-relation-preserved : goal.loop-relation-preserved
loop-relation-preserved c = λ s are.
    let i : ℕ = c.loop-relation.relation-index in
    let r : RelationTree = c.relation-item.result.now in
    let vars : List Var = c.in_ok-vars.vars in
    let among : Contains (shown c.args.relations.now) r =
    to_map {X = Bor RelationTree} {Y = RelationTree} (λ r. r.now) c.args.relations.now c.relation-item.result (i, omega arith, sym c.relation-item.is) in
    let one : IsDeclared s r vars = record {
      among = (are r among).among;
      faultless = λ f. c.in_ok-vars.ensures.none s f (are r among);
      are = c.in_ok-vars.ensures.variables s (are r among);
      only = λ other. c.in_ok-vars.ensures.only s other (are r among);
      one = c.in_ok-vars.ensures.one s (are r among);
      bound = c.in_ok-vars.ensures.bound s (are r among);
    } in
    subst (AllZip (IsDeclared s) (shown (take (i + 1) c.args.relations.now))) (sym c.in_ok-push.ensures.ok)
    (subst (λ (rs : List RelationTree). AllZip (IsDeclared s) rs (c.loop-relation.out ++ vars ∷ []))
    (sym (shown_more {X = Bor RelationTree} {Y = RelationTree} (λ r. r.now) c.args.relations.now i c.relation-item.result (omega arith) c.relation-item.is))
    (zip_push (IsDeclared s) (shown (take i c.args.relations.now)) c.loop-relation.out r vars (c.loop-relation.invariant s are) one))

pub returns-clause-declared : goal.returns-clause-declared
returns-clause-declared c = λ s are.
    subst (λ (rs : List (Bor RelationTree)). AllZip (IsDeclared s) (shown rs) c.loop-relation.out) (take_all c.loop-relation.relation-index c.args.relations.now (omega arith)) (c.loop-relation.invariant s are)
