use Rattle.std.proofs.Common.{◌≡◌, ℕ, List, Bor, map, arith, refl, sym, ap, subst, ◌∙◌, below_more}
use Rattle.std.specs.Prelude.{Some, slice_get}
use Rattle.std.proofs.lemmas.Option.{slice_get-get_or, slice_get_within}
use Rattle.std.proofs.lemmas.List.{length-map}
use Rattle.std.proofs.lemmas.Result.{err_from_is_err_and}
use Rattle.qv_syntax.specs.declared.expr.Expr.{Expr}
use Rattle.qv_syntax.specs.declared.program.Var.{Var}
use Rattle.ocl_types.proofs.QueryLemmas.{err_told}
use Rattle.qvtr_types.specs.LoneArguments.{IsRelated, IsUnrelated, HasUnrelated}
use Rattle.qvtr_types.proofs.ArgumentLaws.{root_at, root_typed}
use Rattle.qvtr_types.proofs.LoneLaws.{one_there}
use Rattle.qvtr_types.proofs.lone_arguments.refuse_arguments.Goals as goal

abbrev shown : List (Bor Var) → List Var
shown rs = map {A = Bor Var} {B = Var} (λ r. r.now) rs

pub returns-then-place-roots-clause-related : goal.returns-then-place-roots-clause-related
returns-then-place-roots-clause-related c = λ p arg root given asked.
    let within = slice_get_within (shown c.args.roots.now) p root asked in
    let long = length-map {A = Bor Var} {B = Var} c.args.roots.now (λ r. r.now) in
    let past = c.if-place-roots.true in
    c.loop-place.invariant p (omega (arith, within, long, past)) arg root given asked

pub refuse_argument-requires-clause-root : goal.refuse_argument-requires-clause-root
refuse_argument-requires-clause-root c =
    let here = c.if-place-roots.false in
    root_typed c.args.roots.now c.loop-place.place c.index-roots-place.result (omega (arith, here)) c.index-roots-place.is c.args.metas.now c.requires.roots

pub returns-in_err-refuse_argument-clause-fault : goal.returns-in_err-refuse_argument-clause-fault
returns-in_err-refuse_argument-clause-fault c =
    let names : List (List ℕ) = map {A = List ℕ × ℕ} {B = List ℕ} (λ e. e.0) c.args.variables.now.numbers.now in
    let here = c.if-place-roots.false in
    let p = err_from_is_err_and c.from_residual.result c.from_residual.ensures.1 in
    err_told c.from_residual.result p.0 _ (HasUnrelated c.args.metas.now names c.args.variables.now.vars.now c.args.args.now (shown c.args.roots.now))
    (IsUnrelated c.args.metas.now names c.args.variables.now.vars.now c.index-args-place.result c.index-roots-place.result.now) p.1 p.2
    (λ f h. record {
      place = c.loop-place.place;
      arg = c.index-args-place.result;
      root = c.index-roots-place.result.now;
      given = slice_get-get_or c.args.args.now c.loop-place.place c.index-args-place.result c.loop-place-test.true ∙ ap Some (sym c.index-args-place.is);
      asked = root_at c.args.roots.now c.loop-place.place c.index-roots-place.result (omega (arith, here)) c.index-roots-place.is;
      unrelated = h;
    })
    c.in_err-refuse_argument.ensures.fault

pub loop-place-preserved : goal.loop-place-preserved
loop-place-preserved c =
    let names : List (List ℕ) = map {A = List ℕ × ℕ} {B = List ℕ} (λ e. e.0) c.args.variables.now.numbers.now in
    let vars : List Var = c.args.variables.now.vars.now in
    let i : ℕ = c.loop-place.place in
    let here = c.if-place-roots.false in
    let at_arg : slice_get c.args.args.now i ≡ Some c.index-args-place.result =
    slice_get-get_or c.args.args.now i c.index-args-place.result c.loop-place-test.true ∙ ap Some (sym c.index-args-place.is) in
    let at_root : slice_get (shown c.args.roots.now) i ≡ Some c.index-roots-place.result.now =
    root_at c.args.roots.now i c.index-roots-place.result (omega (arith, here)) c.index-roots-place.is in
    below_more (λ (p : ℕ). (arg : Expr) (root : Var) → slice_get c.args.args.now p ≡ Some arg → slice_get (shown c.args.roots.now) p ≡ Some root → IsRelated c.args.metas.now names vars arg root)
    i c.loop-place.invariant
    (λ arg root given asked.
    subst (λ (e : Expr). IsRelated c.args.metas.now names vars e root) (one_there c.args.args.now i i c.index-args-place.result arg refl at_arg given)
    (subst (λ (x : Var). IsRelated c.args.metas.now names vars c.index-args-place.result x) (one_there (shown c.args.roots.now) i i c.index-roots-place.result.now root refl at_root asked)
    c.in_ok-refuse_argument.ensures.related))

pub returns-clause-related : goal.returns-clause-related
returns-clause-related c = λ p arg root given asked.
    let within = slice_get_within c.args.args.now p arg given in
    let past = c.loop-place-test.false in
    c.loop-place.invariant p (omega (arith, within, past)) arg root given asked
