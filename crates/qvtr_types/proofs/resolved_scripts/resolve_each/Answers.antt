use Rattle.std.proofs.Common.{◌≡◌, ℕ, ◌+◌, ◌<◌, List, [], ◌∷◌, ◌++◌, Bor, map, take, length, get_or, arith, refl, sym, ap, subst, ◌∙◌}
use Rattle.std.specs.Prelude.{Some, Err, slice_get}
use Rattle.std.specs.List.{AllZip}
use Rattle.std.specs.Option.{option_map}
use Rattle.std.proofs.lemmas.Option.{slice_get-get_or, slice_get-map}
use Rattle.std.proofs.lemmas.List.{take_all}
use Rattle.qv_syntax.specs.declared.program.Rel.{Rel}
use Rattle.qv_syntax.specs.declared.program.Var.{Var}
use Rattle.qv_syntax.specs.declared.script.RelationTree.{RelationTree}
use Rattle.ocl_environments.specs.declared.fault.TypeFault.{TypeFault}
use Rattle.ocl_environments.specs.Environments.{Environment}
use Rattle.ocl_types.proofs.QueryLemmas.{err_told}
use Rattle.script_scopes.specs.Directions.{IsStratum}
use Rattle.script_scopes.specs.Environments.{Setting}
use Rattle.script_scopes.specs.Faults.{HasQueries, StandsInExpressions, StandsInScript}
use Rattle.script_scopes.proofs.LoopLemmas.{shown_more, zip_push}
use Rattle.qvtr_types.specs.ScriptScopes.{IsDeclared, IsScriptScopeOf}
use Rattle.qvtr_types.specs.ResolvedScripts.{IsResolvedTo}
use Rattle.qvtr_types.proofs.DataNameLaws.{zip_here}
use Rattle.qvtr_types.proofs.ScriptLaws.{resolved_to}
use Rattle.qvtr_types.proofs.resolved_scripts.resolve_each.Goals as goal

abbrev shown : List (Bor RelationTree) → List RelationTree
shown rs = map {A = Bor RelationTree} {B = RelationTree} (λ r. r.now) rs

shown_at : (rs : List (Bor RelationTree)) (i : ℕ) (r : Bor RelationTree) → i < length rs → r ≡ get_or rs i r → slice_get (shown rs) i ≡ Some r.now
shown_at rs i r below is =
    slice_get-map (λ (x : Bor RelationTree). x.now) rs i ∙ ap (option_map (λ (x : Bor RelationTree). x.now)) (slice_get-get_or rs i r below ∙ ap Some (sym is))

there : {X : Type 0} (xs : List X) (i : ℕ) (x : X) → i < length xs → x ≡ get_or xs i x → slice_get xs i ≡ Some x
there xs i x below is = slice_get-get_or xs i x below ∙ ap Some (sym is)

-- the relation at a place has the variables there
own_at : (s : Setting) (rs : List (Bor RelationTree)) (vars : List (List Var)) (i : ℕ) (r : Bor RelationTree) (vs : List Var) → AllZip (IsDeclared s) (shown rs) vars → i < length rs → i < length vars
    → r ≡ get_or rs i r → vs ≡ get_or vars i vs → IsDeclared s r.now vs
own_at s rs vars i r vs all below within is are = zip_here (IsDeclared s) (shown rs) vars i r.now vs all (shown_at rs i r below is) (there vars i vs within are)

pub resolve_relation-requires-clause-empty : goal.resolve_relation-requires-clause-empty
resolve_relation-requires-clause-empty c = ap (λ (e : Environment). e.variables) c.loop-place.invariant.0 ∙ c.requires.empty

pub resolve_relation-requires-clause-setting : goal.resolve_relation-requires-clause-setting
resolve_relation-requires-clause-setting c =
    let s : Setting = c.requires.setting.0 in (
      s,
      subst (λ (e : Environment). IsScriptScopeOf s e c.args.scope.now) (sym c.loop-place.invariant.0) c.requires.setting.1,
      subst (IsDeclared s c.index-relations-place.result.now) (sym c.as_slice.ensures)
          (own_at s c.args.relations.now c.args.vars.now c.loop-place.place c.index-relations-place.result c.index-vars-place.result c.requires.setting.2 (omega arith) (omega (arith, c.requires.count))
          c.index-relations-place.is c.index-vars-place.is),
    )

pub returns-in-loop-place-clause-fault : goal.returns-in-loop-place-clause-fault
returns-in-loop-place-clause-fault c =
    let r : RelationTree = c.index-relations-place.result.now in
    let vs : List Var = c.as_slice.result.now in
    err_told {X = List Rel} (Err c.or_drop-from.result) c.or_drop-from.result c.in-Err-or_drop.field-0
    (λ (f : TypeFault). (s : Setting) → IsScriptScopeOf s c.args.env.now c.args.scope.now → AllZip (IsDeclared s) (shown c.args.relations.now) c.args.vars.now → HasQueries s → StandsInScript s f)
    (λ (f : TypeFault). (s : Setting) → IsScriptScopeOf s c.loop-place.env c.args.scope.now → IsDeclared s r vs → StandsInExpressions s r vs f) refl c.or_drop-from.ensures
    (λ f h s over all typed.
    let own : IsDeclared s r vs = subst (IsDeclared s r) (sym c.as_slice.ensures)
    (own_at s c.args.relations.now c.args.vars.now c.loop-place.place c.index-relations-place.result c.index-vars-place.result all (omega arith) (omega (arith, c.requires.count))
    c.index-relations-place.is c.index-vars-place.is) in
    StandsInScript.expression r vs f typed own.among own.are
    (h s (subst (λ (e : Environment). IsScriptScopeOf s e c.args.scope.now) (sym c.loop-place.invariant.0) over) own))
    c.in-Err-or_drop.ensures.fault

pub loop-place-preserved : goal.loop-place-preserved
loop-place-preserved c =
    let i : ℕ = c.loop-place.place in
    let r : RelationTree = c.index-relations-place.result.now in
    let vs : List Var = c.as_slice.result.now in
    let rel : Rel = c.in-Ok-or_drop.field-0 in (
      c.in-Ok-or_drop.ensures.kept ∙ c.loop-place.invariant.0,
      λ s over all layers.
          let here : IsScriptScopeOf s c.loop-place.env c.args.scope.now = subst (λ (e : Environment). IsScriptScopeOf s e c.args.scope.now) (sym c.loop-place.invariant.0) over in
          let own : IsDeclared s r vs = subst (IsDeclared s r) (sym c.as_slice.ensures)
          (own_at s c.args.relations.now c.args.vars.now i c.index-relations-place.result c.index-vars-place.result all (omega arith) (omega (arith, c.requires.count))
          c.index-relations-place.is c.index-vars-place.is) in
          let layer : IsStratum s.script r (get_or c.args.strata.now i 0) =
          zip_here (IsStratum s.script) (shown c.args.relations.now) c.args.strata.now i r (get_or c.args.strata.now i 0) layers
          (shown_at c.args.relations.now i c.index-relations-place.result (omega arith) c.index-relations-place.is)
          (slice_get-get_or c.args.strata.now i 0 (omega (arith, c.requires.layers))) in
          let one : IsResolvedTo s r rel = resolved_to s r vs rel c.in-Ok-or_drop.ensures.vars own (c.in-Ok-or_drop.ensures.is s here own layer) (c.in-Ok-or_drop.ensures.settled s here own) (λ f. c.in-Ok-or_drop.ensures.none s f here own) in
          subst (AllZip (IsResolvedTo s) (shown (take (i + 1) c.args.relations.now))) (sym c.in-Ok-or_drop-2.ensures.ok)
          (subst (λ (rs : List RelationTree). AllZip (IsResolvedTo s) rs (c.loop-place.out ++ rel ∷ []))
          (sym (shown_more {X = Bor RelationTree} {Y = RelationTree} (λ r. r.now) c.args.relations.now i c.index-relations-place.result (omega arith) c.index-relations-place.is))
          (zip_push (IsResolvedTo s) (shown (take i c.args.relations.now)) c.loop-place.out r rel (c.loop-place.invariant.1 s over all layers) one)),
    )

pub returns-clause-are : goal.returns-clause-are
returns-clause-are c = λ s over all layers.
    subst (λ (rs : List (Bor RelationTree)). AllZip (IsResolvedTo s) (shown rs) c.loop-place.out) (take_all c.loop-place.place c.args.relations.now (omega arith)) (c.loop-place.invariant.1 s over all layers)

pub returns-clause-kept : goal.returns-clause-kept
returns-clause-kept c = c.loop-place.invariant.0
