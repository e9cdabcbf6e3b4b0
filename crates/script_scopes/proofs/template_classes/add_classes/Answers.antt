use Rattle.std.proofs.Common.{arith, sym, map}
use Rattle.std.proofs.lemmas.Result.{err_from_is_err_and}
use Rattle.ocl_types.proofs.QueryLemmas.{err_told}
use Rattle.script_scopes.specs.LocatedPieces.{shown_located}
use Rattle.script_scopes.specs.VariableTypes.{class_in, class_typing, HasClass, LacksClass, IsClassFault}
use Rattle.script_scopes.proofs.MemberLemmas.{to_map}
use Rattle.script_scopes.proofs.LoopLemmas.{collected_more, all_shown_more}
use Rattle.script_scopes.proofs.template_classes.add_classes.Goals as goal

pub returns-in_err-add_class-clause-fault : goal.returns-in_err-add_class-clause-fault
returns-in_err-add_class-clause-fault c =
    let p = err_from_is_err_and c.from_residual.result c.from_residual.ensures.1 in
    err_told c.from_residual.result p.0 _ (IsClassFault (class_in c.args.metas.now c.args.names.now) (map shown_located c.args.pieces.now)) (LacksClass (class_in c.args.metas.now c.args.names.now) (shown_located c.piece-item.result)) p.1 p.2
    (λ f h. record {
      piece = shown_located c.piece-item.result;
      among = to_map shown_located c.args.pieces.now c.piece-item.result (c.loop-piece.piece-index, omega arith, sym c.piece-item.is);
      lacks = h;
    })
    c.in_err-add_class.ensures.fault

pub loop-piece-preserved : goal.loop-piece-preserved
loop-piece-preserved c = record {
  typed = collected_more shown_located c.args.pieces.now c.loop-piece.piece-index c.piece-item.result (omega arith) c.piece-item.is
      (class_typing (class_in c.args.metas.now c.args.names.now)) c.args.out.now _ _ c.loop-piece.invariant.typed c.in_ok-add_class.ensures.typed;
  known = all_shown_more shown_located c.args.pieces.now c.loop-piece.piece-index c.piece-item.result (omega arith) c.piece-item.is
      (HasClass (class_in c.args.metas.now c.args.names.now)) c.loop-piece.invariant.known c.in_ok-add_class.ensures.known;
}
