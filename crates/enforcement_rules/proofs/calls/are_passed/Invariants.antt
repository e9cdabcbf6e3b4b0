use Rattle.std.proofs.Common.{◌≡◌, drop, map}
use Rattle.std.specs.List.{list_all}
use Rattle.enforcement_rules.specs.CallTests.{shown_pair, is_right_pair}
use Rattle.enforcement_rules.proofs.calls.are_passed.Given as goal

abbrev pub invariant-loop-pair : goal.invariant-loop-pair
invariant-loop-pair l = let p = is_right_pair l.task.metas.now l.task.program.now l.task.rel.now l.clause l.called in list_all p (map shown_pair (drop l.pair-index l.pairs)) ≡ list_all p (map shown_pair l.pairs)
