use Rattle.std.proofs.Common.{◌≡◌, List, Bor, map, ap, sym, subst, ◌∙◌}
use Rattle.std.specs.Prelude.{Some, slice_get}
use Rattle.std.proofs.lemmas.Option.{same_Some, none-some}
use Rattle.std.proofs.lemmas.Result.{on_ok_weaker}
use Rattle.mof_metamodel.specs.declared.desc.MetaDesc.{MetaDesc}
use Rattle.qv_syntax.specs.declared.program.Var.{Var}
use Rattle.ocl_types.proofs.QueryLemmas.{fault_of_result}
use Rattle.qvtr_types.specs.Expressions.{HaveTypes}
use Rattle.qvtr_types.specs.ResolvedConjuncts.{ClauseReach, reach_of}
use Rattle.qvtr_types.specs.LoneArguments.{AreRelatedTo, HasUnrelated, CallUnrelated}
use Rattle.qvtr_types.proofs.ResolvedConjunctLaws.{roots_at, roots_typed}
use Rattle.qvtr_types.proofs.LoneLaws.{one_there}
use Rattle.qvtr_types.proofs.lone_arguments.refuse_call.Goals as goal

abbrev shown : List (Bor Var) → List Var
shown rs = map {A = Bor Var} {B = Var} (λ r. r.now) rs

pub refuse_arguments-requires-clause-types : goal.refuse_arguments-requires-clause-types
refuse_arguments-requires-clause-types c = subst (λ (ms : List MetaDesc). HaveTypes ms c.args.scope.now.variables.vars.now) (sym c.metas.ensures.value) c.requires.types

pub refuse_arguments-requires-clause-roots : goal.refuse_arguments-requires-clause-roots
refuse_arguments-requires-clause-roots c =
    subst (λ (ms : List MetaDesc). HaveTypes ms (shown c.as_slice-roots.result.now)) (sym c.metas.ensures.value)
    (subst (λ (rs : List (Bor Var)). HaveTypes c.args.scope.now.env.now.metas (shown rs)) (c.index-scope-place.is ∙ sym c.as_slice-roots.ensures)
    (roots_typed c.args.scope.now c.in-Some.place c.index-scope-place.result c.in-Some.ensures.within c.index-scope-place.is c.requires.roots))

pub returns-in-Some-clause-related : goal.returns-in-Some-clause-related
returns-in-Some-clause-related c =
    let reach : ClauseReach = reach_of c.args.scope.now in
    let its : List Var = shown c.as_slice-roots.result.now in
    let asked : slice_get reach.roots c.in-Some.place ≡ Some its =
    roots_at c.args.scope.now c.in-Some.place c.index-scope-place.result c.in-Some.ensures.within c.index-scope-place.is c.requires.roots
    ∙ ap (λ (rs : List (Bor Var)). Some (shown rs)) (c.index-scope-place.is ∙ sym c.as_slice-roots.ensures) in
    on_ok_weaker c.refuse_arguments.result
    (λ related number roots at has.
    subst (λ (rs : List Var). AreRelatedTo reach.env.metas reach.variables c.args.scope.now.variables.vars.now c.args.call.1.now rs)
    (one_there reach.roots c.in-Some.place number its roots (same_Some c.in-Some.place number (c.in-Some.ensures.number ∙ at)) asked has)
    (subst (λ (ms : List MetaDesc). AreRelatedTo ms reach.variables c.args.scope.now.variables.vars.now c.args.call.1.now its) c.metas.ensures.value related))
    c.refuse_arguments.ensures.related

pub returns-in-Some-clause-fault : goal.returns-in-Some-clause-fault
returns-in-Some-clause-fault c =
    let reach : ClauseReach = reach_of c.args.scope.now in
    let its : List Var = shown c.as_slice-roots.result.now in
    fault_of_result c.refuse_arguments.result (HasUnrelated c.metas.result.now reach.variables c.args.scope.now.variables.vars.now c.args.call.1.now its)
    (CallUnrelated reach c.args.scope.now.variables.vars.now c.args.call.0.now c.args.call.1.now)
    (λ f h. record {
      number = c.in-Some.place;
      roots = its;
      called = sym c.in-Some.ensures.number;
      has = roots_at c.args.scope.now c.in-Some.place c.index-scope-place.result c.in-Some.ensures.within c.index-scope-place.is c.requires.roots
          ∙ ap (λ (rs : List (Bor Var)). Some (shown rs)) (c.index-scope-place.is ∙ sym c.as_slice-roots.ensures);
      unrelated = subst (λ (ms : List MetaDesc). HasUnrelated ms reach.variables c.args.scope.now.variables.vars.now c.args.call.1.now its f) c.metas.ensures.value h;
    })
    c.refuse_arguments.ensures.fault

pub returns-in-None-clause-related : goal.returns-in-None-clause-related
returns-in-None-clause-related c = λ number roots at has. absurd (none-some number (c.in-None.ensures.number ∙ at))
