use Rattle.std.proofs.Common.{◌≡◌, ℕ, List, Bor, map, ap, sym, subst, ◌∙◌}
use Rattle.std.specs.Prelude.{Some, slice_get}
use Rattle.std.proofs.lemmas.Result.{err_from_is_err_and}
use Rattle.qv_syntax.specs.declared.program.Var.{Var}
use Rattle.qv_syntax.specs.declared.program.Conj.TheVariants as conjs
use Rattle.ocl_types.proofs.QueryLemmas.{err_told}
use Rattle.qvtr_types.specs.Expressions.{HaveTypes, StandsInArguments}
use Rattle.qvtr_types.specs.ResolvedConjuncts.{ClauseReach, reach_of, StandsInCallWith}
use Rattle.qvtr_types.proofs.ResolvedConjunctLaws.{roots_at, roots_typed}
use Rattle.qvtr_types.proofs.resolved_conjuncts.resolve_call.Goals as goal

pub type_arguments-requires : goal.type_arguments-requires
type_arguments-requires c =
    subst (λ (rs : List (Bor Var)). HaveTypes c.args.scope.now.env.now.metas (map (λ r. r.now) rs)) (c.index-scope-place.is ∙ sym c.as_slice-roots.ensures)
    (roots_typed c.args.scope.now c.args.place c.index-scope-place.result c.requires.within c.index-scope-place.is c.requires.roots)

pub returns-in_err-trees-clause-fault : goal.returns-in_err-trees-clause-fault
returns-in_err-trees-clause-fault c =
    let reach : ClauseReach = reach_of c.args.scope.now in
    let roots : List Var = map {A = Bor Var} {B = Var} (λ r. r.now) c.as_slice-roots.result.now in
    let asked : slice_get reach.roots c.args.place ≡ Some roots =
    roots_at c.args.scope.now c.args.place c.index-scope-place.result c.requires.within c.index-scope-place.is c.requires.roots
    ∙ ap (λ (rs : List (Bor Var)). Some (map {A = Bor Var} {B = Var} (λ r. r.now) rs)) (c.index-scope-place.is ∙ sym c.as_slice-roots.ensures) in
    let p = err_from_is_err_and c.from_residual.result c.from_residual.ensures.1 in
    err_told c.from_residual.result p.0 _ (StandsInCallWith reach c.args.place c.args.call.0.now c.args.call.1.now) (StandsInArguments reach.env c.args.call.0.now roots c.args.call.1.now)
    p.1 p.2 (λ f h. record { roots = roots; asked = asked; stands = h }) c.in_err-trees.ensures.fault

pub returns-2-clause-is : goal.returns-2-clause-is
returns-2-clause-is c =
    let reach : ClauseReach = reach_of c.args.scope.now in
    let roots : List Var = map {A = Bor Var} {B = Var} (λ r. r.now) c.as_slice-roots.result.now in
    let asked : slice_get reach.roots c.args.place ≡ Some roots =
    roots_at c.args.scope.now c.args.place c.index-scope-place.result c.requires.within c.index-scope-place.is c.requires.roots
    ∙ ap (λ (rs : List (Bor Var)). Some (map {A = Bor Var} {B = Var} (λ r. r.now) rs)) (c.index-scope-place.is ∙ sym c.as_slice-roots.ensures) in
    record {
      roots = roots;
      asked = asked;
      trees = c.in_ok-trees.trees;
      is = ap (λ (n : ℕ). conjs.Call n c.in_ok-trees.trees) c.in-Ok-or_drop.ensures.number;
      fit = c.in_ok-trees.ensures.are;
    }
