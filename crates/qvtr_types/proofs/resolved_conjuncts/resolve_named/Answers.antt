use Rattle.std.proofs.Common.{◌≡◌, ℕ, List, Bor, ap, sym, subst, ◌∙◌}
use Rattle.std.specs.Prelude.{Option, Some}
use Rattle.std.specs.Option.{option_map}
use Rattle.std.proofs.lemmas.Result.{IfOk-weaker}
use Rattle.mof_metamodel.specs.declared.text.Text.{Text}
use Rattle.qv_syntax.specs.declared.expr.Expr.{Expr}
use Rattle.qv_syntax.specs.declared.program.Conj.{Conj}
use Rattle.ocl_types.proofs.QueryLemmas.{fault_of_result}
use Rattle.script_scopes.specs.CallRows.{number_in}
use Rattle.qvtr_types.specs.ResolvedConjuncts.{ClauseReach, reach_of, called_number, IsCallWith, StandsInCallWith, IsResolved, StandsInConjunct}
use Rattle.qvtr_types.proofs.resolved_conjuncts.resolve_named.Goals as goal

pub returns-in-Some-clause-is : goal.returns-in-Some-clause-is
returns-in-Some-clause-is c =
    let reach : ClauseReach = reach_of c.args.scope.now in
    let said : Option (List ℕ × Expr) = option_map {T = Bor Text × Bor Expr} {U = List ℕ × Expr} (λ p. (p.0.now, p.1.now)) c.args.equation in
    let number : called_number reach c.args.conjunct.now ≡ Some c.in-Some.place = ap (number_in reach.relations) c.requires.call ∙ sym c.in-Some.ensures.number in
    IfOk-weaker c.resolve_call.result (IsCallWith reach c.in-Some.place c.args.call.1.now) (IsResolved reach said c.args.conjunct.now)
    (λ conj h. subst (IsResolved reach said c.args.conjunct.now) (sym h.is)
    (IsResolved.call c.args.call.0.now c.args.call.1.now c.in-Some.place h.roots h.trees c.requires.call number h.asked h.fit))
    c.resolve_call.ensures.is

pub returns-in-Some-clause-fault : goal.returns-in-Some-clause-fault
returns-in-Some-clause-fault c =
    let reach : ClauseReach = reach_of c.args.scope.now in
    let number : called_number reach c.args.conjunct.now ≡ Some c.in-Some.place = ap (number_in reach.relations) c.requires.call ∙ sym c.in-Some.ensures.number in
    fault_of_result c.resolve_call.result (StandsInCallWith reach c.in-Some.place c.args.call.0.now c.args.call.1.now) (StandsInConjunct reach c.args.conjunct.now)
    (λ f h. StandsInConjunct.arguments c.args.call.0.now c.args.call.1.now c.in-Some.place h.roots c.requires.call number h.asked h.stands)
    c.resolve_call.ensures.fault
