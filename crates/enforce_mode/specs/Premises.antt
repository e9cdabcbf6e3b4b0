-- What is asked of demands, so that what they demand can be made of a target (QVT 1.3, sections 7.2 and 7.10.2).
use Rattle.std.specs.Prelude.{◌≡◌, List}
use Rattle.mof_metamodel.specs.declared.desc.MetaDesc.{MetaDesc}
use Rattle.object_tables.specs.Models.{ModelData}
use Rattle.qv_syntax.specs.declared.program.Program.{Program}
use Rattle.repair_semantics.specs.declared.entry.Entry.{Entry}
use Rattle.repair_semantics.specs.Demands.{demands_of, demanded_terms}
use Rattle.repair_semantics.specs.Conflicts.{AreAtPeace}
use Rattle.repair_laws.specs.Enforced.{AreEnforced}
use Rattle.demand_set.specs.DemandSets.{DemandData}

-- They are the demands of all entries of a program that can be enforced over these sources, none of which is unmet, and are not in conflict.
pub record AreDemandsFor (metas : List MetaDesc) (program : Program) (sources : List ModelData) (m : ModelData) (d : DemandData) : Type 0 where
  pub entries : List Entry
  pub enforced : AreEnforced metas program sources m entries
  pub list : d.list ≡ demands_of program sources entries
  pub terms : d.terms ≡ demanded_terms d.list
  pub peaceful : AreAtPeace m.meta d.list

-- of some metamodels and sources
pub record AreDemands (program : Program) (m : ModelData) (d : DemandData) : Type 0 where
  pub metas : List MetaDesc
  pub sources : List ModelData
  pub are : AreDemandsFor metas program sources m d
