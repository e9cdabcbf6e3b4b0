use Rattle.std.proofs.Common.{◌≡◌, drop}
use Rattle.std.specs.List.{list_any}
use Rattle.enforcement_rules.specs.PatternTests.{is_unmarked}
use Rattle.enforcement_rules.proofs.patterns.any_unmarked.Given as goal

abbrev pub invariant-loop-dom : goal.invariant-loop-dom
invariant-loop-dom l = list_any (is_unmarked l.program) (drop l.dom-index l.rel.domains) ≡ list_any (is_unmarked l.program) l.rel.domains
