use Rattle.std.proofs.Common.{arith, sym, subst, map, List}
use Rattle.std.specs.Prelude.{All}
use Rattle.std.proofs.lemmas.List.{take_all}
use Rattle.std.proofs.lemmas.Result.{err_from_is_err_and}
use Rattle.ocl_types.proofs.QueryLemmas.{err_told}
use Rattle.ocl_environments.specs.declared.fault.TypeFault.{TypeFault}
use Rattle.std.specs.Prelude.{Err, ◌≡◌}
use Rattle.script_scopes.specs.declared.written.WrittenType.{WrittenType}
use Rattle.script_scopes.specs.VariableTypes.{shown_written, single_type, written_typing, HasSingle, IsWrittenFault}
use Rattle.script_scopes.proofs.MemberLemmas.{to_map}
use Rattle.script_scopes.proofs.LoopLemmas.{collected_more, all_shown_more}
use Rattle.script_variables.proofs.variable_types.add_typings.Goals as goal

pub returns-in_err-add_typing-clause-fault : goal.returns-in_err-add_typing-clause-fault
returns-in_err-add_typing-clause-fault c =
    let p = err_from_is_err_and c.from_residual.result c.from_residual.ensures.1 in
    err_told c.from_residual.result p.0 _ (IsWrittenFault c.args.env.now (map shown_written c.args.written.now)) (λ (f : TypeFault). single_type c.args.env.now (shown_written c.w-item.result).1 ≡ Err f) p.1 p.2
    (λ f h. record {
      name = (shown_written c.w-item.result).0;
      tree = (shown_written c.w-item.result).1;
      among = to_map shown_written c.args.written.now c.w-item.result (c.loop-w.w-index, omega arith, sym c.w-item.is);
      is = h;
    })
    c.in_err-add_typing.ensures.fault

pub loop-w-preserved : goal.loop-w-preserved
loop-w-preserved c = record {
  typed = collected_more shown_written c.args.written.now c.loop-w.w-index c.w-item.result (omega arith) c.w-item.is
      (written_typing c.args.env.now) c.args.out.now _ _ c.loop-w.invariant.typed c.in_ok-add_typing.ensures.typed;
  single = all_shown_more shown_written c.args.written.now c.loop-w.w-index c.w-item.result (omega arith) c.w-item.is
      (HasSingle c.args.env.now) c.loop-w.invariant.single c.in_ok-add_typing.ensures.single;
}

pub returns-clause-single : goal.returns-clause-single
returns-clause-single c =
    subst (λ (ws : List WrittenType). All (HasSingle c.args.env.now) (map shown_written ws)) (take_all c.loop-w.w-index c.args.written.now (omega arith)) c.loop-w.invariant.single
