use Rattle.std.proofs.Common.{take}
use Rattle.std.specs.Prelude.{All}
use Rattle.repair_cases.specs.Small.{IsSmall}
use Rattle.repair_cases.proofs.small.is_small.Given as goal

abbrev pub invariant-loop-rel : goal.invariant-loop-rel
invariant-loop-rel l = All IsSmall (take l.rel-index l.rels)
