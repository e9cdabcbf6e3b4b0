-- Behind the first list, the second one has elements left or not.
use Rattle.std.specs.Prelude.{cond, nat_lt}
use Rattle.std.specs.declared.cmp.Ordering.TheVariants.{Less, Equal}
use Rattle.std.proofs.Common.{◌≡◌, length, sym, ap, ◌∙◌, arith}
use Rattle.term_table.specs.declared.comparing.Compared.TheVariants.{Decided}
use Rattle.term_table.proofs.ComparedLaws.{keys_end}
use Rattle.term_table.proofs.comparing.keys_compared.Goals as goal

pub returns : goal.returns
returns c =
    let at : c.loop-place.place ≡ length c.args.ones.now = omega arith in
    let last : c.ended.result ≡ cond (nat_lt (length c.args.ones.now) (length c.args.others.now)) Less Equal = cc in
    ap Decided last ∙ sym (keys_end c.args.ones.now c.args.others.now c.loop-place.place at) ∙ c.loop-place.invariant
