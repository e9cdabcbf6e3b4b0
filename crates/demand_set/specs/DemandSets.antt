-- The entries of a program, what they demand, and the objects of the target that are demanded; and why there is no such set that a target could
-- meet (QVT 1.3, sections 7.2 and 7.10.2; what is refused is this engine's own).
use Rattle.std.specs.Prelude.{◌≡◌, List}
use Rattle.object_tables.specs.Models.{ModelData}
use Rattle.qv_syntax.specs.declared.program.Program.{Program}
use Rattle.repair_semantics.specs.declared.term.Term.{Term}
use Rattle.repair_semantics.specs.declared.entry.Entry.{Entry}
use Rattle.repair_semantics.specs.declared.entry.EntryName.{EntryName}
use Rattle.repair_semantics.specs.declared.demand.Demand.{Demand}
use Rattle.repair_semantics.specs.declared.demand.Clash.{Clash}
use Rattle.repair_semantics.specs.TargetItems.{target_metamodel}
use Rattle.repair_semantics.specs.EntryChains.{CyclicEntries, DeepEntries, IsUnmet}
use Rattle.repair_semantics.specs.EntryOrder.{AreEntries}
use Rattle.repair_semantics.specs.Demands.{demands_of, demanded_terms}
use Rattle.repair_semantics.specs.Conflicts.{AreAtPeace, IsClash}
use Rattle.entry_finding.specs.Found.{IsUnmetAt}
use Rattle.demand_set.specs.declared.demand_error.DemandError.{DemandError}
use Rattle.demand_set.specs.declared.demand_error.DemandError.TheVariants as errors

-- entries, demands and terms
pub record DemandData : Type 0 where
  pub entries : List Entry
  pub list : List Demand
  pub terms : List Term

-- all entries in order, their demands, and the terms that are demanded; no chain of calls comes back to a call or is too long, no entry is
-- unmet, and no two demands are in conflict
pub record IsDemandSet (program : Program) (models : List ModelData) (d : DemandData) : Type 0 where
  pub entries : AreEntries program models d.entries
  pub list : d.list ≡ demands_of program models d.entries
  pub terms : d.terms ≡ demanded_terms d.list
  pub acyclic : (chain : List EntryName) → ¬ CyclicEntries program models chain
  pub short : (chain : List EntryName) → ¬ DeepEntries program models chain
  pub met : (e : Entry) → ¬ IsUnmet program models e
  pub peaceful : AreAtPeace (target_metamodel program models) d.list

-- two demands of the entries are in conflict, and this is told of them; no chain of calls comes back to a call or is too long, and no entry is unmet
pub record IsConflict (program : Program) (models : List ModelData) (clash : Clash) : Type 0 where
  pub entries : List Entry
  pub are : AreEntries program models entries
  pub acyclic : (chain : List EntryName) → ¬ CyclicEntries program models chain
  pub short : (chain : List EntryName) → ¬ DeepEntries program models chain
  pub met : (e : Entry) → ¬ IsUnmet program models e
  pub clash_is : IsClash (target_metamodel program models) entries (demands_of program models entries) clash

-- what an error says
abbrev pub IsRefusal : Program → List ModelData → DemandError → Type 0
IsRefusal program models (errors.Cycle chain) = CyclicEntries program models chain
IsRefusal program models (errors.Deep chain) = DeepEntries program models chain
IsRefusal program models (errors.Unmet entry place) = IsUnmet program models entry × IsUnmetAt program models entry place
IsRefusal program models (errors.Conflict clash) = IsConflict program models clash
IsRefusal program models errors.NoMemory = Unit {0}
