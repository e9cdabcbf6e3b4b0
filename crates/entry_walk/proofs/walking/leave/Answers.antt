use Rattle.entry_walk.specs.FinishedTables.{IsUnfinished}
use Rattle.entry_walk.proofs.PlaceLaws.{last_is}
use Rattle.entry_walk.proofs.walking.leave.Goals as goal

pub add-requires : goal.add-requires
add-requires c = last_is (IsUnfinished c.args.finished.now) c.args.path.now c.requires.0 c.pop.new.self c.requires.1 c.in-Some.call c.requires.2 c.requires.3 c.in-Some.ensures
