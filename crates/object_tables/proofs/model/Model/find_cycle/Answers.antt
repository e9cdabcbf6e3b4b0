use Rattle.std.proofs.Common.{arith, length, drop}
use Rattle.std.proofs.lemmas.List.{take_at}
use Rattle.object_tables.proofs.ClimbLemmas.{search-begin, search-least, search-acyclic}
use Rattle.object_tables.proofs.model.Model.find_cycle.Goals as goal

pub returns-clause-least : goal.returns-clause-least
returns-clause-least c = search-least c.args.self.now c.loop-o.marks.items c.loop-o.least c.loop-o.o c.loop-o.invariant (let e = c.end-o-end.ensures.number in omega arith)

pub returns-clause-none : goal.returns-clause-none
returns-clause-none c = search-acyclic c.args.self.now c.loop-o.marks.items c.loop-o.least c.loop-o.o c.loop-o.invariant (let e = c.end-o-end.ensures.number in omega arith)

pub loop-o-init : goal.loop-o-init
loop-o-init c = search-begin c.args.self.now _ _ c.in_ok-marks.ensures c.end.ensures.number

pub search_from-least-requires : goal.search_from-least-requires
search_from-least-requires c = rw c.as_mut_slice.ensures.value c.loop-o.invariant

pub loop-o-preserved : goal.loop-o-preserved
loop-o-preserved c = rw (take_at c.search_from-least.new.marks (drop (length c.search_from-least.new.marks) c.loop-o.marks.items) c.loop-o.marks.len (omega arith)) c.search_from-least.ensures
