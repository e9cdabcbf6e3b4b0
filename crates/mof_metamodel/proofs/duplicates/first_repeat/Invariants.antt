use Rattle.std.proofs.Common.{◌≡◌, ℕ, List, [], map, take, drop}
use Rattle.std.specs.Prelude.{is_some}
use Rattle.std.specs.List.{list_any}
use Rattle.mof_metamodel.specs.Metamodels.{same_name}
use Rattle.mof_metamodel.specs.MetaFaults.{first_repeat}
use Rattle.mof_metamodel.specs.Tables.{number_in}
use Rattle.mof_metamodel.proofs.duplicates.first_repeat.Given as goal

-- the names so far are apart, and are those that were met
abbrev pub invariant-loop-name : goal.invariant-loop-name
invariant-loop-name l = (first_repeat (map (λ n. n.now) (take l.name-index l.names)) (map (λ n. n.now) (drop l.name-index l.names)) ≡ first_repeat [] (map (λ n. n.now) l.names))
    × ((q : List ℕ) → is_some (number_in l.met q) ≡ list_any (same_name q) (map (λ n. n.now) (take l.name-index l.names)))
