use Rattle.std.proofs.Common.{◌≡◌, ℕ, List, [], ◌∷◌, ◌++◌, ◌+◌, Bor, Bool, map, take, arith, refl, ap, sym, subst, ◌∙◌}
use Rattle.std.specs.Prelude.{Err}
use Rattle.qv_syntax.specs.declared.expr.Expr.{Expr}
use Rattle.qv_syntax.specs.declared.program.Conj.{Conj}
use Rattle.ocl_types.proofs.QueryLemmas.{err_told}
use Rattle.qvtr_types.specs.Equations.{equation_test, equation_behind, given_by, with_given, given_after}
use Rattle.qvtr_types.specs.ResolvedConjuncts.{ClauseReach, reach_of, IsResolved, StandsInConjunct, AreResolved, StandsInOne}
use Rattle.script_scopes.proofs.LoopLemmas.{shown_more}
use Rattle.script_scopes.proofs.MemberLemmas.{to_map}
use Rattle.qvtr_types.proofs.GivenLaws.{after_more}
use Rattle.qvtr_types.proofs.ResolvedConjunctLaws.{resolved_push}
use Rattle.qvtr_types.proofs.resolved_conjuncts.resolve_listed.Goals as goal

pub loop-conjunct-preserved : goal.loop-conjunct-preserved
loop-conjunct-preserved c =
    let reach : ClauseReach = reach_of c.args.scope.now in
    let test : List ℕ → Bool = equation_test c.args.scope.now.variables c.args.wanted in
    let i : ℕ = c.loop-conjunct.conjunct-index in
    let so_far : List Expr = map {A = Bor Expr} {B = Expr} (λ r. r.now) (take i c.args.conjuncts.now) in
    let e : Expr = c.conjunct-item.result.now in
    let resolved : Conj = c.in-Ok-or_drop.field-0 in
    let more : map {A = Bor Expr} {B = Expr} (λ r. r.now) (take (i + 1) c.args.conjuncts.now) ≡ so_far ++ e ∷ [] =
    shown_more {X = Bor Expr} {Y = Expr} (λ r. r.now) c.args.conjuncts.now i c.conjunct-item.result (omega arith) c.conjunct-item.is in (
      c.in-Ok-or_drop.ensures.met ∙ ap (λ (ns : List (List ℕ)). with_given ns (given_by e)) c.loop-conjunct.invariant.0 ∙ sym (after_more [] so_far e) ∙ ap (given_after []) (sym more),
      subst (λ (cs : List Conj). AreResolved reach test [] (map {A = Bor Expr} {B = Expr} (λ r. r.now) (take (i + 1) c.args.conjuncts.now)) cs) (sym c.in-Ok-or_drop-2.ensures.ok)
          (subst (λ (es : List Expr). AreResolved reach test [] es (c.loop-conjunct.out ++ resolved ∷ [])) (sym more)
          (resolved_push reach test [] so_far c.loop-conjunct.out e resolved c.loop-conjunct.invariant.1
          (subst (λ (ns : List (List ℕ)). IsResolved reach (equation_behind test ns e) e resolved) c.loop-conjunct.invariant.0 c.in-Ok-or_drop.ensures.is))),
    )

pub returns-in-loop-conjunct-clause-fault : goal.returns-in-loop-conjunct-clause-fault
returns-in-loop-conjunct-clause-fault c =
    let reach : ClauseReach = reach_of c.args.scope.now in
    let e : Expr = c.conjunct-item.result.now in
    let all : List Expr = map {A = Bor Expr} {B = Expr} (λ r. r.now) c.args.conjuncts.now in
    err_told {X = List Conj} (Err c.or_drop-from.result) c.or_drop-from.result c.in-Err-or_drop.field-0 (StandsInOne reach all) (StandsInConjunct reach e) refl c.or_drop-from.ensures
    (λ f h. record {
      conjunct = e;
      among = to_map {X = Bor Expr} {Y = Expr} (λ r. r.now) c.args.conjuncts.now c.conjunct-item.result (c.loop-conjunct.conjunct-index, omega arith, sym c.conjunct-item.is);
      stands = h;
    })
    c.in-Err-or_drop.ensures.fault
