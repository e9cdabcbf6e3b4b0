use Rattle.std.proofs.Common.{sym, subst}
use Rattle.entry_walk.specs.Ends.{AreAllEntries}
use Rattle.entry_walk.specs.Walking.{HasWalked}
use Rattle.entry_walk.proofs.EndLaws.{whole_end}
use Rattle.entry_walk.proofs.walk.with_calls.Goals as goal

pub returns-in_ok-all_entries-in-All-clause-end : goal.returns-in_ok-all_entries-in-All-clause-end
returns-in_ok-all_entries-in-All-clause-end c =
    let (metas, can) = c.requires.premises in
    let program = c.args.world.now.program.now in
    let models = c.args.world.now.models.now in
    let terms = c.walk_from.new.table in
    let walked = subst (HasWalked program models terms c.args.tops) c.in-All.is c.in_ok-finished.ensures.walked in
    subst (AreAllEntries program models terms) (sym c.in_ok-all_entries-in-All.ensures) (whole_end metas program can.evaluable.well models terms c.args.tops c.in-All.finished walked)
