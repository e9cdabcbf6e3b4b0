use Rattle.std.proofs.Common.{sym, ◌∙◌, arith}
use Rattle.ql_lex.proofs.Laws.{comment_end-goes, comment_end-ends, comment_end-none}
use Rattle.ql_lex.proofs.texts.find_comment_end.Goals as goal

pub returns-then-ends_comment-clause-value : goal.returns-then-ends_comment-clause-value
returns-then-ends_comment-clause-value c =
    sym (comment_end-ends c.args.bytes.now c.loop-i.i c.loop-i.star (omega arith) (sym c.ends_comment.ensures ∙ c.if-ends_comment.true)) ∙ c.loop-i.invariant

pub loop-i-preserved : goal.loop-i-preserved
loop-i-preserved c =
    sym (comment_end-goes c.args.bytes.now c.loop-i.i c.loop-i.star (omega arith) (sym c.ends_comment.ensures ∙ c.if-ends_comment.false)) ∙ c.loop-i.invariant

pub returns-clause-value : goal.returns-clause-value
returns-clause-value c = sym (comment_end-none c.args.bytes.now c.loop-i.i c.loop-i.star (omega arith)) ∙ c.loop-i.invariant
