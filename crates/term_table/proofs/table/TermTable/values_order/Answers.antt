-- Behind the first list, the second one has elements left or not.
use Rattle.std.specs.Prelude.{cond, nat_lt}
use Rattle.std.specs.Option.{option_cmp, option_map}
use Rattle.std.specs.declared.cmp.Ordering.TheVariants.{Less, Equal}
use Rattle.std.proofs.Common.{◌≡◌, length, sym, ◌∙◌, arith}
use Rattle.repair_semantics.specs.Terms.{value_order}
use Rattle.term_table.specs.TermTables.{value_in}
use Rattle.term_table.proofs.ComparedLaws.{pairs_end}
use Rattle.term_table.proofs.table.TermTable.values_order.Goals as goal

pub returns : goal.returns
returns c =
    let at : c.loop-place.place ≡ length c.args.ones.now = omega arith in
    let last : c.ended.result ≡ cond (nat_lt (length c.args.ones.now) (length c.args.others.now)) Less Equal = cc in
    last ∙ sym (pairs_end (option_cmp value_order) (option_map (value_in c.args.self.now)) c.args.ones.now c.args.others.now c.loop-place.place at) ∙ c.loop-place.invariant
