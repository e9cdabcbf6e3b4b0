use Rattle.std.proofs.Common.{◌≡◌, ◌++◌, drop, map}
use Rattle.clap.specs.Matches.{found_of}
use Rattle.clap.specs.Walk.{rows_of}
use Rattle.command_words.specs.Commands.{values_in}
use Rattle.command_words.proofs.reading.values_of.Given as goal

-- the values so far, and those of the names that are left, are those of all names
abbrev pub invariant-loop-name : goal.invariant-loop-name
invariant-loop-name l =
    map (λ s. s.now) l.values.items ++ values_in (rows_of (found_of l.matches)) (map (λ s. s.now) (drop l.name-index l.names))
    ≡ values_in (rows_of (found_of l.matches)) (map (λ s. s.now) l.names)
