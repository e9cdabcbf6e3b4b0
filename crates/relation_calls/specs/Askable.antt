-- Calls that can be asked of a program: the relation is one of it, and the roots give its primitive domains values.
use Rattle.std.specs.Prelude.{◌≡◌, ◌<◌, ℕ, List, Option, None, Some, length, slice_get, Contains}
use Rattle.mof_metamodel.specs.declared.desc.MetaDesc.{MetaDesc}
use Rattle.qv_syntax.specs.declared.program.Program.{Program}
use Rattle.qv_syntax.specs.declared.program.Rel.{Rel}
use Rattle.qv_syntax.specs.WellFormed.{IsWellFormed}
use Rattle.qvtr_semantics.specs.Calls.{RelationCall}
use Rattle.template_match.specs.Posed.{HasPrimitives}

-- the program is well formed over some metamodels
abbrev pub IsFormed : Program → Type 0
IsFormed program = (metas : List MetaDesc) × IsWellFormed metas program

pub record IsAskable (program : Program) (c : RelationCall) : Type 0 where
  pub rel : Rel
  pub found : slice_get program.rels c.rel ≡ Some rel
  pub places : length c.roots ≡ length rel.vars
  pub primitives : HasPrimitives rel c.roots

abbrev pub stratum_in : Option Rel → ℕ
stratum_in None = 0
stratum_in (Some rel) = rel.stratum

-- the stratum of the relation of that number
abbrev pub stratum_of : Program → ℕ → ℕ
stratum_of program number = stratum_in (slice_get program.rels number)

-- the calls can be asked, and their relations stand in strata below that one
abbrev pub AreBelow : Program → ℕ → List (Option RelationCall) → Type 0
AreBelow program stratum calls = (d : RelationCall) → Contains calls (Some d) → IsAskable program d × (stratum_of program d.rel < stratum)
