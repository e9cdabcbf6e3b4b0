use Rattle.std.proofs.Common.{arith, length, drop}
use Rattle.std.proofs.lemmas.List.{take_at}
use Rattle.object_tables.proofs.DepthLemmas.{greatest-begin, greatest-end}
use Rattle.object_tables.proofs.model.Model.greatest_depth.Goals as goal

pub returns : goal.returns
returns c = greatest-end c.args.self.now c.loop-o.depths.items c.loop-o.greatest c.loop-o.o c.loop-o.invariant (let e = c.end-o-end.ensures.number in omega arith)

pub loop-o-init : goal.loop-o-init
loop-o-init c = greatest-begin c.args.self.now _ _ c.in_ok-depths.ensures c.end.ensures.number

pub deepen-greatest-requires-clause-before : goal.deepen-greatest-requires-clause-before
deepen-greatest-requires-clause-before c = rw c.as_mut_slice.ensures.value c.loop-o.invariant

pub loop-o-preserved : goal.loop-o-preserved
loop-o-preserved c = rw (take_at c.deepen-greatest.new.depths (drop (length c.deepen-greatest.new.depths) c.loop-o.depths.items) c.loop-o.depths.len (omega arith)) c.deepen-greatest.ensures
