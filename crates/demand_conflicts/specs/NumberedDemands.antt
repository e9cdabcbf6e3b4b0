-- Demands by number as demands between terms, and what is told of a conflict between two of them.
use Rattle.std.specs.Prelude.{◌≡◌, ◌<◌, List, map, length, Some, slice_get}
use Rattle.mof_metamodel.specs.declared.desc.MetaDesc.{MetaDesc}
use Rattle.mof_metamodel.specs.Tables.{IsPropOf}
use Rattle.repair_semantics.specs.declared.term.Term.{Term}
use Rattle.repair_semantics.specs.declared.demand.Demand.{Demand}
use Rattle.repair_semantics.specs.Claims.{Claim}
use Rattle.repair_semantics.specs.Conflicts.{IsToldPlace, AreInConflict}
use Rattle.term_table.specs.TermTables.{term_at, value_in, IsWithin}
use Rattle.demand_conflicts.specs.declared.demand.NumberedDemand.{NumberedDemand}
use Rattle.demand_conflicts.specs.declared.conflict.FoundConflict.{FoundConflict}

-- the demand that a numbered one is in a table of terms
abbrev pub demand_in : List Term → NumberedDemand → Demand
demand_in terms d = record { entry = d.entry; owner = term_at terms d.owner; prop = d.prop; value = value_in terms d.value }

-- the demands of a list
abbrev pub demands_in : List Term → List NumberedDemand → List Demand
demands_in terms ds = map (demand_in terms) ds

-- its numbers are numbers of the table
abbrev pub IsDemandWithin : List Term → NumberedDemand → Type 0
IsDemandWithin terms d = (d.owner < length terms) × IsWithin terms d.value

-- its property is one of the metamodel
abbrev pub IsDemandOf : MetaDesc → NumberedDemand → Type 0
IsDemandOf meta d = IsPropOf meta d.prop

-- Two demands of the list in conflict, by their places, the first one before the second, and the place that gets two values, as it is told.
pub record IsFound (meta : MetaDesc) (terms : List Term) (ds : List NumberedDemand) (found : FoundConflict) : Type 0 where
  pub first : Demand
  pub second : Demand
  pub c : Claim Term
  pub d : Claim Term
  pub before : found.first < found.second
  pub first_is : slice_get (demands_in terms ds) found.first ≡ Some first
  pub second_is : slice_get (demands_in terms ds) found.second ≡ Some second
  pub conflict : AreInConflict meta (demands_in terms ds) first second c d
  pub owner_within : found.owner < length terms
  pub place : IsToldPlace c.spot first (term_at terms found.owner) found.prop
