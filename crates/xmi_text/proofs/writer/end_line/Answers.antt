use Rattle.std.proofs.Common.{arith, ◌≡◌, ◌*◌, ◌∙◌, ap, ◌++◌, ◌∷◌, [], replicate}
use Rattle.xmi_text.proofs.writing.Literals.{line_end-more}
use Rattle.xmi_text.proofs.writer.end_line.Goals as goal

-- one more level
pub loop-level-preserved : goal.loop-level-preserved
loop-level-preserved c =
    c.in_ok-push-3.ensures.ok
    ∙ ap (λ p. p ++ 32 ∷ []) (c.in_ok-push-2.ensures.ok ∙ ap (λ p. p ++ 32 ∷ []) c.loop-level.invariant)
    ∙ line_end-more c.args.piece.now c.loop-level._level

-- the line feed
pub loop-level-init : goal.loop-level-init
loop-level-init c = c.in_ok-push.ensures.ok

pub returns : goal.returns
returns c =
    let whole : c.loop-level._level ≡ c.args.depth = omega arith in
    c.loop-level.invariant ∙ ap (λ n. c.args.piece.now ++ 10 ∷ replicate (2 * n) 32) whole
