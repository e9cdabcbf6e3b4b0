-- Conflicts: two demands, possibly of one entry, with claims of one single place that differ: a single attribute with two values, a single link
-- end with two partners, an object with two containers or two container properties (that such demands are refused is this engine's own).
use Rattle.std.specs.Prelude.{◌≡◌, ◌<◌, ℕ, List, Some, slice_get, Contains, IsTrue}
use Rattle.mof_metamodel.specs.declared.desc.MetaDesc.{MetaDesc}
use Rattle.mof_metamodel.specs.declared.desc.PropId.{PropId}
use Rattle.repair_semantics.specs.declared.term.Term.{Term}
use Rattle.repair_semantics.specs.declared.term.TermValue.{TermValue, out-TermValue}
use Rattle.repair_semantics.specs.declared.term.TermValue.TheOpen as of
use Rattle.repair_semantics.specs.declared.entry.Entry.{Entry}
use Rattle.repair_semantics.specs.declared.demand.Demand.{Demand}
use Rattle.repair_semantics.specs.declared.demand.Clash.{Clash}
use Rattle.repair_semantics.specs.Terms.{same_term}
use Rattle.repair_semantics.specs.Claims.{Held, Fact, Spot, Claim, claims_of, are_against}

-- a value as what a slot holds
abbrev pub held_in : of.TermValue-F TermValue Term → Held Term
held_in (of.Val d) = Held.datum d
held_in (of.Term t) = Held.object t

-- what a demand says
abbrev pub fact_of : Demand → Fact Term
fact_of d = record { owner = d.owner; prop = d.prop.0; holds = held_in (out-TermValue d.value) }

-- the place that gets two values, as it is told: of a container the part, with the property of the first demand
abbrev pub IsToldPlace : Spot Term → Demand → Term → PropId → Type 0
IsToldPlace (Spot.slot t p) d owner prop = (owner ≡ t) × (prop.0 ≡ p)
IsToldPlace (Spot.container t) d owner prop = (owner ≡ t) × (prop ≡ d.prop)

-- two demands, the first one before the second, with claims of one single place that differ
pub record AreInConflict (meta : MetaDesc) (demands : List Demand) (first second : Demand) (c d : Claim Term) : Type 0 where
  pub earlier : ℕ
  pub later : ℕ
  pub before : earlier < later
  pub first_is : slice_get demands earlier ≡ Some first
  pub second_is : slice_get demands later ≡ Some second
  pub of_first : Contains (claims_of meta (fact_of first)) c
  pub of_second : Contains (claims_of meta (fact_of second)) d
  pub against : IsTrue (are_against meta same_term c d)

-- what is told of a conflict: the place, and both demands with their entries
pub record IsClash (meta : MetaDesc) (entries : List Entry) (demands : List Demand) (clash : Clash) : Type 0 where
  pub first : Demand
  pub second : Demand
  pub c : Claim Term
  pub d : Claim Term
  pub conflict : AreInConflict meta demands first second c d
  pub place : IsToldPlace c.spot first clash.owner clash.prop
  pub first_entry : slice_get entries first.entry ≡ Some clash.first
  pub first_item : clash.first_item ≡ first.prop
  pub first_value : clash.first_value ≡ first.value
  pub second_entry : slice_get entries second.entry ≡ Some clash.second
  pub second_item : clash.second_item ≡ second.prop
  pub second_value : clash.second_value ≡ second.value

-- no two demands are in conflict
abbrev pub AreAtPeace : MetaDesc → List Demand → Type 0
AreAtPeace meta demands = (first second : Demand) (c d : Claim Term) → ¬ AreInConflict meta demands first second c d
