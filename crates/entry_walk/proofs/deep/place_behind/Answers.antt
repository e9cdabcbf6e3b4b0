use Rattle.entry_walk.proofs.WayLaws.{behind_none, behind_lower, behind_within}
use Rattle.entry_walk.proofs.deep.place_behind.Goals as goal

pub unreachable-requires : goal.unreachable-requires
unreachable-requires c = behind_none c.args.finished.now c.args.place c.at.result.now c.requires.stepped c.requires.high c.at.ensures c.in-None.is

pub returns-clause-lower : goal.returns-clause-lower
returns-clause-lower c = behind_lower c.args.finished.now c.args.place c.in-Some.behind c.at.result.now c.requires.stepped c.at.ensures c.in-Some.is

pub returns-clause-within : goal.returns-clause-within
returns-clause-within c = behind_within c.args.finished.now c.args.place c.in-Some.behind c.at.result.now c.requires.stepped c.at.ensures c.in-Some.is
