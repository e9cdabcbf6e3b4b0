-- What comes of a binding that meets the source of a relation.
use Rattle.std.specs.Prelude.{ℕ, Bool, true, false, List, [], ◌∷◌, Option, None, Some}
use Rattle.object_tables.specs.Models.{ModelData}
use Rattle.qv_syntax.specs.declared.program.Program.{Program}
use Rattle.qv_syntax.specs.declared.program.Rel.{Rel}
use Rattle.qvtr_semantics.specs.Templates.{Values}
use Rattle.qvtr_semantics.specs.Calls.{AllAsked, Match, HoldsFor, TargetHolds, calls_of}
use Rattle.relation_calls.specs.declared.outcome.Outcome.{Outcome}
use Rattle.relation_calls.specs.declared.outcome.Outcome.TheVariants as outcomes

-- its calls in the when clause don't all match; they match, and it has no partner whose calls in the where clause hold, where so many
-- may still be made within one another; or it has one
abbrev pub IsOutcome : Program → List ModelData → ℕ → Rel → Values → Outcome → Type 0
IsOutcome program models n rel b outcomes.Unmatched = ¬ AllAsked (Match program models) (calls_of program models b rel.whens)
IsOutcome program models n rel b outcomes.Alone =
    AllAsked (Match program models) (calls_of program models b rel.whens) × ((g : Values) → ¬ TargetHolds (HoldsFor program models n) program models rel b g)
IsOutcome program models n rel b outcomes.Partnered =
    AllAsked (Match program models) (calls_of program models b rel.whens) × (g : Values) × TargetHolds (HoldsFor program models n) program models rel b g

-- of each binding its outcome
abbrev pub AreOutcomes : Program → List ModelData → ℕ → Rel → List Values → List Outcome → Type 0
AreOutcomes program models n rel [] [] = Unit {0}
AreOutcomes program models n rel (b ∷ bs) (o ∷ os) = IsOutcome program models n rel b o × AreOutcomes program models n rel bs os
AreOutcomes program models n rel bs os = ⊥

abbrev pub is_alone : Outcome → Bool
is_alone outcomes.Alone = true
is_alone o = false

abbrev pub is_partnered : Outcome → Bool
is_partnered outcomes.Partnered = true
is_partnered o = false

-- the first binding that is alone
abbrev pub first_alone : List Values → List Outcome → Option Values
first_alone (b ∷ bs) (outcomes.Alone ∷ os) = Some b
first_alone (b ∷ bs) (o ∷ os) = first_alone bs os
first_alone bs os = None
