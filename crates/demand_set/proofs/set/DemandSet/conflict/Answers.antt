-- The conflict that is found by number, where there is one, is one between the demands of the set.
use Rattle.std.specs.Prelude.{map, All}
use Rattle.std.proofs.Common.{ap, sym, subst, ◌∙◌}
use Rattle.std.proofs.lemmas.Option.{MatchOption-at_some, MatchOption-at_none}
use Rattle.mof_metamodel.specs.Tables.{IsPropOf}
use Rattle.repair_semantics.specs.declared.demand.Demand.{Demand}
use Rattle.repair_semantics.specs.Conflicts.{AreAtPeace, IsClash}
use Rattle.demand_conflicts.specs.NumberedDemands.{demands_in, IsDemandWithin, IsDemandOf, IsFound}
use Rattle.demand_set.specs.Listings.{listed_in, IsListedWithin}
use Rattle.demand_set.specs.DemandSets.{DemandData}
use Rattle.demand_set.proofs.ClashLaws.{props_known, listed_below}
use Rattle.demand_set.proofs.set.DemandSet.conflict.Goals as goal

pub conflict_among-requires : goal.conflict_among-requires
conflict_among-requires c =
    subst (All (IsDemandOf c.args.meta.now)) (sym c.as_slice-list.ensures)
    (props_known c.args.meta.now c.self.inside.table c.self.inside.list
    (subst (All (λ (d : Demand). IsPropOf c.args.meta.now d.prop)) (sym (ap (λ (v : DemandData). v.list) c.self.view_is)) c.requires))

found_is : (c : goal.After-as_slice-entries) → IsFound c.args.meta.now c.self.inside.table c.as_slice-list.result.now c.in-Some.found
found_is c =
    MatchOption-at_some (AreAtPeace c.args.meta.now (demands_in c.self.inside.table c.as_slice-list.result.now)) (IsFound c.args.meta.now c.self.inside.table c.as_slice-list.result.now)
    c.in-Some.found c.in-Some.is
    (c.in_ok-conflict_among.ensures c.self.inside.table c.len-count.ensures.distinct (subst (All (IsDemandWithin c.self.inside.table)) (sym c.as_slice-list.ensures) c.self.invariant.demands_within))

pub clash_of-requires-clause-entries : goal.clash_of-requires-clause-entries
clash_of-requires-clause-entries c = subst (All (IsListedWithin c.self.inside.table)) (sym c.as_slice-entries.ensures) c.self.invariant.entries_within

pub clash_of-requires-clause-first : goal.clash_of-requires-clause-first
clash_of-requires-clause-first c =
    let f = found_is c in listed_below c.self.inside.table c.as_slice-list.result.now c.in-Some.found.first f.first f.first_is

pub clash_of-requires-clause-second : goal.clash_of-requires-clause-second
clash_of-requires-clause-second c =
    let f = found_is c in listed_below c.self.inside.table c.as_slice-list.result.now c.in-Some.found.second f.second f.second_is

pub clash_of-requires-clause-owner : goal.clash_of-requires-clause-owner
clash_of-requires-clause-owner c = (found_is c).owner_within

pub returns-in-None : goal.returns-in-None
returns-in-None c =
    subst (AreAtPeace c.args.meta.now) (ap (demands_in c.self.inside.table) c.as_slice-list.ensures ∙ ap (λ (v : DemandData). v.list) c.self.view_is)
    (MatchOption-at_none (AreAtPeace c.args.meta.now (demands_in c.self.inside.table c.as_slice-list.result.now)) (IsFound c.args.meta.now c.self.inside.table c.as_slice-list.result.now)
    c.in-None.is
    (c.in_ok-conflict_among.ensures c.self.inside.table c.len-count.ensures.distinct (subst (All (IsDemandWithin c.self.inside.table)) (sym c.as_slice-list.ensures) c.self.invariant.demands_within)))

pub returns-in_ok-clash_of-in-Some : goal.returns-in_ok-clash_of-in-Some
returns-in_ok-clash_of-in-Some c =
    let meta = c.args.meta.now in
    let table = c.self.inside.table in
    let clash = c.in_ok-clash_of-in-Some.field-0 in
    let found : IsFound meta table c.as_slice-list.result.now c.in-Some.found =
    MatchOption-at_some (AreAtPeace meta (demands_in table c.as_slice-list.result.now)) (IsFound meta table c.as_slice-list.result.now) c.in-Some.found c.in-Some.is
    (c.in_ok-conflict_among.ensures table c.len-count.ensures.distinct (subst (All (IsDemandWithin table)) (sym c.as_slice-list.ensures) c.self.invariant.demands_within)) in
    let P : DemandData → Type 0 = λ v. IsClash meta v.entries v.list clash in
    subst P c.self.view_is
    (subst (λ es. IsClash meta (map (listed_in table) es) (demands_in table c.self.inside.list) clash) c.as_slice-entries.ensures
    (subst (λ ds. IsClash meta (map (listed_in table) c.as_slice-entries.result.now) (demands_in table ds) clash) c.as_slice-list.ensures
    (c.in_ok-clash_of-in-Some.ensures meta found)))
