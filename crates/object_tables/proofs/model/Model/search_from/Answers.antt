use Rattle.object_tables.proofs.ClimbLemmas.{IsWalked, search-some}
use Rattle.object_tables.proofs.model.Model.search_from.Goals as goal

pub returns-in-Some : goal.returns-in-Some
returns-in-Some c =
    let walked : IsWalked c.args.self.now c.args.marks.now c.mark_way.new.marks c.args.o.0 = record { marked = c.in-Some.ensures.marked; more = c.in-Some.ensures.more; here = c.in-Some.ensures.here } in
    search-some c.args.self.now c.args.marks.now c.mark_way.new.marks c.args.least c.args.o.0 c.in-Some.on_cycle.0 c.least_around.result c.lesser.result c.requires walked c.in-Some.ensures.around
    c.least_around.ensures.least c.least_around.ensures.cycle c.lesser.ensures.second c.lesser.ensures.first c.lesser.ensures.one
