use Rattle.std.proofs.Common.{◌<◌, ◌+◌, List, length, drop, get_or, sym, ap, ◌∙◌, arith}
use Rattle.std.specs.Prelude.{Option}
use Rattle.term_table.specs.declared.numbered.NumberedValue.{NumberedValue}
use Rattle.entry_making.specs.CallNumbers.{with_root, with_numbers}
use Rattle.entry_making.proofs.CallLaws.{next_root}
use Rattle.entry_walk.proofs.exploring.put_roots.Goals as goal

pub loop-i-preserved : goal.loop-i-preserved
loop-i-preserved c =
    let i = c.loop-i.i in
    let doms = c.args.domains.now in
    let xs = c.args.given.now in
    let below : i < length doms = omega (arith, c.loop-i-test.true) in
    let put = c.in_ok-put_root.ensures
    ∙ ap (λ (o : Option NumberedValue). with_root c.loop-i.values (get_or doms i c.index-domains-i.result).root o) c.given_at.ensures in
    ap (λ (b : List (Option NumberedValue)). with_numbers b (drop (i + 1) doms) (drop (i + 1) xs)) put
    ∙ sym (next_root c.loop-i.values doms xs i c.index-domains-i.result below)
    ∙ c.loop-i.invariant
