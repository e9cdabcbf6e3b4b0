use Rattle.std.proofs.Common.{◌≡◌, drop}
use Rattle.relation_calls.specs.Seeds.{first_root}
use Rattle.relation_calls.proofs.seeds.first_root.Given as goal

abbrev pub invariant-loop-dom : goal.invariant-loop-dom
invariant-loop-dom l = first_root l.program (drop l.dom-index l.domains) ≡ first_root l.program l.domains
