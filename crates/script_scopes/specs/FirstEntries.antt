-- Names with what they stand for, of which the first of each name stays.
use Rattle.std.specs.Prelude.{ℕ, is_some, if◌then◌else◌, List, [], ◌∷◌}
use Rattle.mof_metamodel.specs.NameTables.{NamesWith, value_of, with_value}

-- one more, unless its name is there
abbrev pub with_first : {X : Type 0} → NamesWith X → List ℕ → X → NamesWith X
with_first entries name x = if is_some (value_of entries name) then entries else with_value entries name x

-- more of them, one behind the other
abbrev pub entries_onto : {X : Type 0} → NamesWith X → NamesWith X → NamesWith X
entries_onto entries [] = entries
entries_onto entries (e ∷ more) = entries_onto (with_first entries e.0 e.1) more

-- the first of each name
abbrev pub first_entries : {X : Type 0} → NamesWith X → NamesWith X
first_entries entries = entries_onto [] entries
