use Rattle.std.proofs.Common.{◌≡◌, ℕ, List, [], map, take, drop}
use Rattle.mof_metamodel.specs.MetaFaults.{first_repeat}
use Rattle.script_scopes.proofs.repeats.first_repeat.Given as goal

-- the names so far were met, and none of them stands before itself
abbrev pub invariant-loop-name : goal.invariant-loop-name
invariant-loop-name l = record {
  met : map {A = List ℕ × ℕ} {B = List ℕ} (λ e. e.0) l.met ≡ take l.name-index l.names;
  apart : first_repeat (take l.name-index l.names) (drop l.name-index l.names) ≡ first_repeat [] l.names;
}
