use Rattle.std.proofs.Common.{rules, sym, subst}
use Rattle.std.specs.Prelude.{FitsSigned}
use Rattle.std.specs.Int.{w64}
use Rattle.trace_log.specs.TraceHeld.{IsHeldValue}
use Rattle.trace_log.proofs.TermLaws.{begun_term, held_target}
use Rattle.trace_log.proofs.trace_pairs.begin_value.Goals as goal
use Rattle.trace_log.proofs.trace_pairs.begin_value.Goals.{in-Str+in_ok-write_named-in-Str, in-Int+in_ok-write_integer-in-Int, in-Bool+in_ok-write_flag-in-Bool, in-Lit+in_ok-write_named-in-Lit, in-Obj+in_ok-write_source-in-Obj}

pub returns-in-Term-clause-tokens : goal.returns-in-Term-clause-tokens
returns-in-Term-clause-tokens c =
    begun_term c.args.value.now c.in-Term.term c.as_slice.result.now c.args.writer.now.tokens c.begin_term.new.writer.tokens c.in-Term.is
    c.as_slice.ensures c.in_ok-begin_term-in-Term.ensures.tokens.1

pub returns-in-Term-clause-held : goal.returns-in-Term-clause-held
returns-in-Term-clause-held c =
    held_target c.args.value.now c.in-Term.term c.as_slice.result.now c.in-Term.is c.as_slice.ensures c.in_ok-begin_term-in-Term.ensures.held

pub returns-clause-held : goal.returns-clause-held
returns-clause-held c = λ _. elim c.match-value.branch [
  | in-Str+in_ok-write_named-in-Str w ↦ subst IsHeldValue (sym w.in-Str.is) (IsHeldValue.text w.in-Str.text w.in_ok-write_named-in-Str.ensures.held)
  | in-Int+in_ok-write_integer-in-Int w ↦
      let fits : FitsSigned w64 w.in-Int.integer = search rules in
      subst IsHeldValue (sym w.in-Int.is) (IsHeldValue.integer w.in-Int.integer fits)
  | in-Bool+in_ok-write_flag-in-Bool w ↦ subst IsHeldValue (sym w.in-Bool.is) (IsHeldValue.flag w.in-Bool.flag)
  | in-Lit+in_ok-write_named-in-Lit w ↦
      subst IsHeldValue (sym w.in-Lit.is) (IsHeldValue.literal w.in-Lit.name w.in_ok-write_named-in-Lit.ensures.held)
  | in-Obj+in_ok-write_source-in-Obj w ↦
      let o = w.in_ok-write_source-in-Obj.ensures in
      subst IsHeldValue (sym w.in-Obj.is) (IsHeldValue.source w.in-Obj.model w.in-Obj.id o.model o.id)
]
