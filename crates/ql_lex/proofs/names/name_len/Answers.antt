use Rattle.std.proofs.Common.{sym, ◌∙◌, ap, arith, drop, length, length-drop}
use Rattle.std.proofs.lemmas.List.{drop-drop, drop_all}
use Rattle.ql_lex.specs.Forms.{name_len, step_len}
use Rattle.ql_lex.proofs.Laws.{name_len-step, name_len-end}
use Rattle.ql_lex.proofs.names.name_len.Goals as goal

pub loop-len-preserved : goal.loop-len-preserved
loop-len-preserved c =
    let bytes = c.args.bytes.now in let len = c.loop-len.len in let n = c.step_len-step.result in
    let step = name_len-step (drop len bytes) n (omega (arith, ap step_len c.bytes_behind.ensures, c.step_len-step.ensures.value)) (omega arith)
    (omega (arith, c.step_len-step.ensures.within, ap length c.bytes_behind.ensures)) in
    let moved = ap (λ xs. name_len xs 0) (drop-drop n len bytes) in
    (omega (arith, step, moved, c.loop-len.invariant.0), omega (arith, c.step_len-step.ensures.within, ap length c.bytes_behind.ensures, length-drop len bytes))

pub returns-after-loop-len-clause-value : goal.returns-after-loop-len-clause-value
unfolding name_len
returns-after-loop-len-clause-value c =
    omega (arith, c.loop-len.invariant.0, ap (λ xs. name_len xs 0) (drop_all c.loop-len.len c.args.bytes.now (omega arith)))

pub returns-then-step-eq0-clause-value : goal.returns-then-step-eq0-clause-value
returns-then-step-eq0-clause-value c =
    omega (arith, c.loop-len.invariant.0, name_len-end (drop c.loop-len.len c.args.bytes.now) (ap step_len (sym c.bytes_behind.ensures) ∙ sym c.step_len-step.ensures.value ∙ c.if-step-eq0.true))
