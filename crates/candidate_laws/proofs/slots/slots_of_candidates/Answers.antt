use Rattle.std.specs.Prelude.{◌≢◌, ℕ}
use Rattle.repair_semantics.specs.Claims.{Held}
use Rattle.candidate_laws.specs.Parts.{made_contents}
use Rattle.candidate_laws.proofs.Lists.{pairs_later}
use Rattle.candidate_laws.proofs.MadeSlots.{values_are, partners_are, once_in_slot}
use Rattle.candidate_laws.proofs.slots.slots_of_candidates.Goals as goal

pub returns-clause-values : goal.returns-clause-values
returns-clause-values c = values_are

pub returns-clause-partners : goal.returns-clause-partners
returns-clause-partners c = partners_are

pub returns-clause-once : goal.returns-clause-once
returns-clause-once c = λ program m demands placeable o p class is has.
    pairs_later (λ (h i : Held ℕ). h ≢ i) (made_contents program m demands o p) (once_in_slot program m demands placeable o p class is has)
