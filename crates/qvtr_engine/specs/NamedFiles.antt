-- What stands at the paths of the words, by the names that it has there.
use Rattle.std.specs.Prelude.{ℕ, List, [], ◌∷◌, if◌then◌else◌}
use Rattle.mof_metamodel.specs.Characters.{same_name}
use Rattle.qvtr_engine.specs.CheckWords.{Bound}
use Rattle.qvtr_engine.specs.CheckedNames.{name_of}

-- that of a name, of items in the order of these words; another item where none has the name
abbrev pub named_item : {A : Type 0} → A → List Bound → List A → List ℕ → A
named_item other [] items name = other
named_item other (b ∷ bs) [] name = other
named_item other (b ∷ bs) (item ∷ items) name = if same_name name (name_of b) then item else named_item other bs items name
