-- Entries that calls in when clauses look for, by the roots of their domains (QVT 1.3, sections 7.3 and 7.10.2; entries and the numbers of
-- their terms are this engine's own).
use Rattle.std.specs.Prelude.{◌≡◌, ◌↔◌, List, map, Option, Some, Contains}
use Rattle.qv_syntax.specs.declared.program.Program.{Program}
use Rattle.repair_semantics.specs.declared.term.Term.{Term}
use Rattle.repair_semantics.specs.declared.entry.Entry.{Entry}
use Rattle.repair_semantics.specs.declared.entry.EntryName.{EntryName}
use Rattle.repair_semantics.specs.Entries.{IsMatchFor}
use Rattle.term_table.specs.TermTables.{value_in}
use Rattle.entry_bindings.specs.declared.matching.Match.{Match}

-- the name in which numbers stand for terms of this table
abbrev pub name_in : List Term → Match → EntryName
name_in terms m = record { rel = m.rel; roots = map (value_in terms) m.roots }

-- the names of matches
abbrev pub names_in : List Term → List Match → List EntryName
names_in terms ms = map (name_in terms) ms

-- each of the calls is made and is among these
abbrev pub AreAmong : List EntryName → List (Option EntryName) → Type 0
AreAmong names calls = (o : Option EntryName) → Contains calls o → (c : EntryName) × (o ≡ Some c) × Contains names c

-- the names are those of the entries that are matches for calls
abbrev pub AreNamesOf : Program → List EntryName → List Entry → Type 0
AreNamesOf program names entries = (c : EntryName) → Contains names c ↔ ((m : Entry) × Contains entries m × IsMatchFor program c m)
