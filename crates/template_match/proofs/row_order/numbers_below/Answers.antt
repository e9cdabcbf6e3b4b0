use Rattle.std.proofs.Common.{◌≡◌, ◌+◌, ◌++◌, ◌∷◌, [], ◌∙◌, sym, ap, arith}
use Rattle.mof_metamodel.proofs.TableLemmas.{range_more}
use Rattle.template_match.proofs.row_order.numbers_below.Goals as goal

pub loop-number-preserved : goal.loop-number-preserved
loop-number-preserved c =
    let n = c.loop-number.number in
    c.in_ok-push.ensures.items ∙ ap (λ ns. ns ++ n ∷ []) c.loop-number.invariant ∙ sym (range_more 0 n n (let e : 0 + n ≡ n = omega arith in e))
