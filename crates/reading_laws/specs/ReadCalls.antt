-- Calls between entries, and those over models as which they are read (QVT 1.3, sections 7.3 and 7.10.2).
use Rattle.std.specs.Prelude.{List, Option, None, Some}
use Rattle.std.specs.List.{AllZip}
use Rattle.qv_syntax.specs.declared.program.Program.{Program}
use Rattle.qvtr_semantics.specs.Calls.{RelationCall}
use Rattle.repair_semantics.specs.declared.entry.EntryName.{EntryName}
use Rattle.reading_laws.specs.Readings.{Numbering, ReadsCall}

-- both are made, and the second is the first as it is read, or neither is made
abbrev pub IsReadCall : Program → Numbering → Option EntryName → Option RelationCall → Type 0
IsReadCall program number None None = Unit {0}
IsReadCall program number None (Some to) = ⊥
IsReadCall program number (Some from) None = ⊥
IsReadCall program number (Some from) (Some to) = ReadsCall program number from to

abbrev pub AreReadCalls : Program → Numbering → List (Option EntryName) → List (Option RelationCall) → Type 0
AreReadCalls program number = AllZip (IsReadCall program number)
