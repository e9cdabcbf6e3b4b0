use Rattle.std.proofs.Common.{◌≡◌, ◌<◌, ℕ, ◌+◌, List, [], ◌∷◌, Bor, map, length, arith, refl, sym, ap, subst, ◌∙◌, length-append}
use Rattle.std.specs.Prelude.{Some, Err, slice_get}
use Rattle.std.proofs.lemmas.Option.{slice_get-get_or}
use Rattle.qv_syntax.specs.declared.expr.Expr.{Expr}
use Rattle.qv_syntax.specs.declared.typed.Typed.{Typed}
use Rattle.qv_syntax.specs.declared.program.Var.{Var}
use Rattle.qv_syntax.specs.ProgramTypes.{typing_of}
use Rattle.ocl_types.proofs.QueryLemmas.{err_told}
use Rattle.qvtr_types.specs.Expressions.{IsGiven, StandsInGiven, StandsInArguments}
use Rattle.qvtr_types.proofs.ArgumentLaws.{root_at, root_typed, each_more}
use Rattle.qvtr_types.proofs.expressions.type_each.Goals as goal

abbrev shown : List (Bor Var) → List Var
shown rs = map {A = Bor Var} {B = Var} (λ r. r.now) rs

pub type_given-requires : goal.type_given-requires
type_given-requires c =
    root_typed c.args.roots.now c.loop-place.place c.index-roots-place.result (omega (arith, c.requires.count, c.loop-place-test.true)) c.index-roots-place.is c.args.env.now.metas c.requires.types

pub returns-in-loop-place-clause-fault : goal.returns-in-loop-place-clause-fault
returns-in-loop-place-clause-fault c =
    let within : c.loop-place.place < length c.args.roots.now = omega (arith, c.requires.count, c.loop-place-test.true) in
    let e : Expr = c.index-args-place.result in
    let root : Var = c.index-roots-place.result.now in
    err_told {X = List Typed} (Err c.or_drop-from.result) c.or_drop-from.result c.in-Err-or_drop.field-0 (StandsInArguments c.args.env.now c.args.called.now (shown c.args.roots.now) c.args.args.now) (StandsInGiven c.args.env.now (typing_of root) c.args.called.now e) refl c.or_drop-from.ensures
    (λ f h. StandsInArguments.argument c.loop-place.place root e (root_at c.args.roots.now c.loop-place.place c.index-roots-place.result within c.index-roots-place.is)
    (slice_get-get_or c.args.args.now c.loop-place.place e c.loop-place-test.true ∙ ap Some (sym c.index-args-place.is)) h)
    c.in-Err-or_drop.ensures.fault

pub loop-place-preserved : goal.loop-place-preserved
loop-place-preserved c =
    let within : c.loop-place.place < length c.args.roots.now = omega (arith, c.requires.count, c.loop-place-test.true) in
    let e : Expr = c.index-args-place.result in
    let root : Var = c.index-roots-place.result.now in
    let long : length c.push.new.self ≡ c.loop-place.place + 1 =
    ap (λ (ts : List Typed). length ts) c.in-Ok-or_drop-2.ensures.ok ∙ length-append c.loop-place.trees (c.in-Ok-or_drop.field-0 ∷ []) ∙ ap (λ (n : ℕ). n + 1) c.loop-place.invariant.0 in (
      long,
      subst
          (λ (ts : List Typed). (p : ℕ) (root : Var) (e : Expr) (tree : Typed) → slice_get (shown c.args.roots.now) p ≡ Some root → slice_get c.args.args.now p ≡ Some e → slice_get ts p ≡ Some tree
          → IsGiven c.args.env.now (typing_of root) e tree)
          (sym c.in-Ok-or_drop-2.ensures.ok)
          (each_more (λ root e tree. IsGiven c.args.env.now (typing_of root) e tree) (shown c.args.roots.now) c.args.args.now c.loop-place.trees root e c.in-Ok-or_drop.field-0 c.loop-place.invariant.1
          (ap (slice_get (shown c.args.roots.now)) c.loop-place.invariant.0 ∙ root_at c.args.roots.now c.loop-place.place c.index-roots-place.result within c.index-roots-place.is)
          (ap (slice_get c.args.args.now) c.loop-place.invariant.0 ∙ slice_get-get_or c.args.args.now c.loop-place.place e c.loop-place-test.true ∙ ap Some (sym c.index-args-place.is))
          c.in-Ok-or_drop.ensures.is),
    )
