use Rattle.object_tables.proofs.EditLemmas.{pair_of, pair-near, pair-far, pair-linked, pair-joined}
use Rattle.object_tables.proofs.model.Model.linked.Goals as goal

pub is_joined-requires-clause-first_place : goal.is_joined-requires-clause-first_place
is_joined-requires-clause-first_place c =
    pair-near _ _ _ _ _ _ _ (pair_of _ _ _ _ _ _ _ _ _ _ c.self.invariant.tied c.self.view_is c.requires.reference c.requires.live c.ends-near.ensures.near c.ends-near.ensures.far)

pub is_joined-requires-clause-second_place : goal.is_joined-requires-clause-second_place
is_joined-requires-clause-second_place c =
    pair-far _ _ _ _ _ _ _ (pair_of _ _ _ _ _ _ _ _ _ _ c.self.invariant.tied c.self.view_is c.requires.reference c.requires.live c.ends-near.ensures.near c.ends-near.ensures.far)

pub returns : goal.returns
returns c =
    let s = pair_of _ _ _ _ _ _ _ _ _ _ c.self.invariant.tied c.self.view_is c.requires.reference c.requires.live c.ends-near.ensures.near c.ends-near.ensures.far in (
      (λ h. pair-linked _ _ _ _ _ _ _ _ c.self.view_is s (c.is_joined.ensures.0 h)),
      (λ h. c.is_joined.ensures.1 (pair-joined _ _ _ _ _ _ _ _ _ _ c.self.invariant.tied c.self.view_is s h)),
    )
