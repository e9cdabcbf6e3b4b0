use Rattle.std.specs.Prelude.{◌<◌, length, All}
use Rattle.std.proofs.Common.{subst}
use Rattle.repair_semantics.specs.declared.demand.Demand.{Demand}
use Rattle.demand_set.specs.DemandSets.{DemandData}
use Rattle.demand_set.proofs.ListingLaws.{placed_told}
use Rattle.demand_set.proofs.set.DemandSet.numbered.Goals as goal

pub returns-clause-placed : goal.returns-clause-placed
returns-clause-placed c =
    let P : DemandData → Type 0 = λ v. All (λ (d : Demand). d.entry < length v.entries) v.list in
    subst P c.self.view_is (placed_told c.self.inside.table c.self.inside.entries c.self.inside.list c.self.invariant.placed)
