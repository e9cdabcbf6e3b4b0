-- What holds of a relation whose rules are asked, and of what is found once for its program.
use Rattle.std.specs.Prelude.{◌≡◌, ◌<◌, ◌↔◌, ℕ, List, length, Some, slice_get, AllPairs, IsTrue}
use Rattle.mof_metamodel.specs.declared.desc.MetaDesc.{MetaDesc}
use Rattle.qv_syntax.specs.declared.program.Program.{Program}
use Rattle.qv_syntax.specs.declared.program.Rel.{Rel}
use Rattle.qv_syntax.specs.Directions.{IsMeant}
use Rattle.qv_syntax.specs.Keys.{AreOfTwoClasses}
use Rattle.qv_syntax.specs.ProgramNumbers.{IsRelationInRange, HasNumbersInRange}
use Rattle.enforcement_rules.specs.declared.enforcement.Tables.{Tables}
use Rattle.enforcement_rules.specs.declared.task.Task.{Task}
use Rattle.enforcement_rules.specs.Keys.{HasTwoKeys}
use Rattle.enforcement_rules.specs.KeyTests.{AreKeyNumbers, IsKeyTable}
use Rattle.enforcement_rules.specs.ReaderTests.{AreReaders}
use Rattle.enforcement_rules.specs.TargetParts.{target_meta}

-- it is a relation of the program, as a transformation means it, and its numbers name what is there
pub record IsRelationOf (metas : List MetaDesc) (program : Program) (rel : Rel) : Type 0 where
  pub number : ℕ
  pub found : slice_get program.rels number ≡ Some rel
  pub meant : IsMeant program number rel
  pub range : IsRelationInRange metas program rel

-- the task has a relation of its program, and the tables are those of the program
pub record IsTask (task : Task) : Type 0 where
  pub meta : task.meta < length task.metas.now
  pub target : task.meta ≡ target_meta task.program.now
  pub relation : IsRelationOf task.metas.now task.program.now task.rel.now
  pub range : HasNumbersInRange task.metas.now task.program.now
  pub one : AllPairs AreOfTwoClasses task.program.now.keys
  pub readers : AreReaders task.program.now task.readers.now
  pub numbers : AreKeyNumbers task.program.now task.keys.now
  pub keys : IsKeyTable task.metas.now task.program.now task.keys.now

pub record AreTables (metas : List MetaDesc) (program : Program) (tables : Tables) : Type 0 where
  pub meta : tables.meta < length metas
  pub target : tables.meta ≡ target_meta program
  pub readers : AreReaders program tables.readers.now
  pub numbers : AreKeyNumbers program tables.keys.now
  pub keys : IsKeyTable metas program tables.keys.now
  pub two : IsTrue tables.has_two_keys ↔ HasTwoKeys metas program
