use Rattle.std.proofs.Common.{sym, ◌∙◌}
use Rattle.qvtr_engine.proofs.NumberingLaws.{stands_here, still_left}
use Rattle.qvtr_engine.proofs.RequestLaws.{item_at}
use Rattle.qvtr_engine.proofs.numbering_inputs.place_of.Goals as goal

pub returns-then-is_name : goal.returns-then-is_name
returns-then-is_name g c =
    stands_here c.args.found.now c.loop-i.i c.index-found-i.result c.args.name.now
    (item_at c.args.found.now c.loop-i.i c.index-found-i.result c.loop-i-test.true c.index-found-i.is)
    (sym c.is_name.ensures ∙ c.if-is_name.true) c.loop-i.invariant

pub loop-i-preserved : goal.loop-i-preserved
loop-i-preserved g c =
    still_left c.args.found.now c.loop-i.i c.index-found-i.result c.args.name.now
    (item_at c.args.found.now c.loop-i.i c.index-found-i.result c.loop-i-test.true c.index-found-i.is)
    (sym c.is_name.ensures ∙ c.if-is_name.false) c.loop-i.invariant
