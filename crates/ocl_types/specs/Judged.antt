-- How rules of typing are said: what a rule asks of its parts, each demand with the fault that stands where it isn't met, and what
-- the rule gives. Demands and parts have no order: each that isn't met has its fault, whatever the others are.
use Rattle.std.specs.Prelude.{◌≡◌, Option, None, Some, ◌⊎◌, Ok, Err}
use Rattle.ocl_environments.specs.declared.fault.TypeFault.{TypeFault}
use Rattle.ocl_environments.specs.Outcomes.{RuleResult}

-- what something may be, and which faults stand in it
pub record Judged (X : Type 0) : Type 1 where
  pub has : X → Type 0
  pub stands : TypeFault → Type 0

-- it is this, and no fault stands in it
abbrev pub gives : {X : Type 0} → X → Judged X
gives x = record { has = λ y. y ≡ x; stands = λ f. ⊥ }

-- it is nothing, for this fault
abbrev pub refuses : {X : Type 0} → TypeFault → Judged X
refuses f = record { has = λ y. ⊥; stands = λ g. g ≡ f }

-- what has one answer, or one fault
abbrev pub tells : {X : Type 0} → RuleResult X → Judged X
tells r = record { has = λ x. r ≡ Ok x; stands = λ f. r ≡ Err f }

-- what a relation says; where it says nothing of anything, faults that are named stand
abbrev pub says : {X : Type 0} → (X → Type 0) → (TypeFault → Type 0) → Judged X
says {X = X} R S = record { has = R; stands = λ f. ((x : X) → ¬ (R x)) × S f }

-- a demand: where it isn't met, its fault stands
abbrev pub asks : {X : Type 0} → Type 0 → TypeFault → Judged X → Judged X
asks P f rest = record { has = λ x. P × rest.has x; stands = λ g. ((¬ P) × (g ≡ f)) ⊎ rest.stands g }

-- something that has to be there, or else the fault stands
abbrev pub finds : {X Y : Type 0} → Option X → TypeFault → (X → Judged Y) → Judged Y
finds (Some x) f rest = rest x
finds None f rest = refuses f

-- of a part: its faults are those of the whole, and where it is something, so are those of what is made of that
abbrev pub taking : {X Y : Type 0} → Judged X → (X → Judged Y) → Judged Y
taking {X = X} part rest = record { has = λ y. (x : X) × part.has x × (rest x).has y; stands = λ f. part.stands f ⊎ ((x : X) × part.has x × (rest x).stands f) }

-- two parts side by side
abbrev pub both : {X Y : Type 0} → Judged X → Judged Y → Judged (X × Y)
both one other = record { has = λ p. one.has p.0 × other.has p.1; stands = λ f. one.stands f ⊎ other.stands f }
