use Rattle.std.proofs.Common.{◌≡◌, ◌++◌, drop}
use Rattle.std.specs.Option.{option_map}
use Rattle.relation_calls.specs.Tables.{row_of}
use Rattle.relation_calls.proofs.matches.row_of.Given as goal

abbrev pub invariant-loop-dom : goal.invariant-loop-dom
invariant-loop-dom l = option_map (λ more. l.row ++ more) (row_of (drop l.dom-index l.domains) l.g.values) ≡ row_of l.domains l.g.values
