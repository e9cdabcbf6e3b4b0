use Rattle.std.proofs.Common.{◌≡◌, ◌++◌, take}
use Rattle.enforcement_rules.specs.ReaderTests.{rules_from}
use Rattle.enforcement_rules.proofs.readers.put_queries.Given as goal

abbrev pub invariant-loop-query : goal.invariant-loop-query
invariant-loop-query l = record { counted : l.q ≡ l.query-index; rules : l.rules ≡ l.fn.rules ++ rules_from l.program l.meta 0 (take l.query-index l.queries) }
