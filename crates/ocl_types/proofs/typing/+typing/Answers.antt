use Rattle.std.proofs.Common.{◌≡◌, ◌∙◌, Ok, Err, refl, sym, ap, subst, arith}
use Rattle.qv_syntax.specs.declared.expr.Expr.{Expr}
use Rattle.ocl_environments.specs.declared.part.TypedPart.{TypedPart}
use Rattle.ocl_environments.specs.Environments.{Environment}
use Rattle.ocl_types.proofs.QueryLemmas.{gives_told}
use Rattle.ocl_types.proofs.TypingLaws.{at, let_done, let_fault, links_fall}
use Rattle.ocl_types.proofs.typing.+typing.Goals as goal

pub type_part-type_linked-requires : goal.type_part-type_linked-requires
type_part-type_linked-requires t c =
    let fall = links_fall c.args.expr.now c.in-Chain.first c.in-Chain.rest c.as_slice.result.now c.in-Chain.span c.in-Chain.is c.as_slice.ensures in
    (omega (arith, c.decreases, fall), tt {0})

pub type_let-returns-in-Let-5-clause-value : goal.type_let-returns-in-Let-5-clause-value
type_let-returns-in-Let-5-clause-value t c =
    gives_told {X = TypedPart} (Err c.or_drop-from-in-Let-4.result) c.or_drop-from-in-Let-4.result c.in-Err-or_drop-body.field-0 (at c.args.expr.now c.args.scope.now)
    (λ f. at c.get-in-Let.result.now c.enter.new.self ≡ Err f) refl c.or_drop-from-in-Let-4.ensures
    (λ f fails. subst (λ (e : Expr). at e c.args.scope.now ≡ Err f) (sym c.in-Let.is)
    (let_fault c.in-Let.name c.in-Let.ty c.in-Let.value c.in-Let.body c.in-Let.span c.args.scope.now c.type_part.new.scope c.enter.new.self c.metas.result.now c.in-Ok-or_drop-text.field-0
    c.in_ok-wanted-in-Let.wanted c.in-Ok-or_drop.field-0 c.in-Ok-or_drop-variable.field-0 c.in_ok-wanted-in-Let.ensures.given
    (subst (λ (e : Expr). at e c.args.scope.now ≡ Ok c.in-Ok-or_drop.field-0) c.get.ensures c.in-Ok-or_drop.ensures.value) c.in-Ok-or_drop.ensures.scope
    (c.metas.ensures.value ∙ ap (λ (e : Environment). e.metas) c.env.ensures) c.in-Ok-or_drop-variable.ensures c.in-Ok-or_drop-text.ensures c.in-Ok-or_drop-2.ensures.ok f
    (subst (λ (e : Expr). at e c.enter.new.self ≡ Err f) c.get-in-Let.ensures fails)))
    c.in-Err-or_drop-body.ensures.value

pub type_let-returns-clause-value : goal.type_let-returns-clause-value
type_let-returns-clause-value t c =
    subst (λ (e : Expr). at e c.args.scope.now ≡ Ok c.in_ok-let_part-in-Let.field-0) (sym c.in-Let.is)
    (let_done c.in-Let.name c.in-Let.ty c.in-Let.value c.in-Let.body c.in-Let.span c.args.scope.now c.type_part.new.scope c.enter.new.self c.metas.result.now c.in-Ok-or_drop-text.field-0
    c.in_ok-wanted-in-Let.wanted c.in-Ok-or_drop.field-0 c.in-Ok-or_drop-variable.field-0 c.in_ok-wanted-in-Let.ensures.given
    (subst (λ (e : Expr). at e c.args.scope.now ≡ Ok c.in-Ok-or_drop.field-0) c.get.ensures c.in-Ok-or_drop.ensures.value) c.in-Ok-or_drop.ensures.scope
    (c.metas.ensures.value ∙ ap (λ (e : Environment). e.metas) c.env.ensures) c.in-Ok-or_drop-variable.ensures c.in-Ok-or_drop-text.ensures c.in-Ok-or_drop-2.ensures.ok
    c.in-Ok-or_drop-body.field-0 c.in_ok-let_part-in-Let.field-0 c.size-number.result
    (subst (λ (e : Expr). at e c.enter.new.self ≡ Ok c.in-Ok-or_drop-body.field-0) c.get-in-Let.ensures c.in-Ok-or_drop-body.ensures.value) c.size-number.ensures c.in_ok-let_part-in-Let.ensures)
