use Rattle.object_tables.proofs.EditLemmas.{pair_of, pair-near, pair-far, pair-joined, pair-tied_unlink, pair-seen_unlink}
use Rattle.object_tables.proofs.KeptEdits.{kept_unlinked}
use Rattle.object_tables.proofs.WholeLemmas.{kept_after}
use Rattle.object_tables.proofs.model.Model.unlink.Goals as goal

pub part-requires-clause-first_place : goal.part-requires-clause-first_place
part-requires-clause-first_place c =
    pair-near _ _ _ _ _ _ _ (pair_of _ _ _ _ _ _ _ _ _ _ c.self.invariant.tied c.self.view_is c.requires.reference c.requires.live c.ends-near.ensures.near c.ends-near.ensures.far)

pub part-requires-clause-second_place : goal.part-requires-clause-second_place
part-requires-clause-second_place c =
    pair-far _ _ _ _ _ _ _ (pair_of _ _ _ _ _ _ _ _ _ _ c.self.invariant.tied c.self.view_is c.requires.reference c.requires.live c.ends-near.ensures.near c.ends-near.ensures.far)

pub part-requires-clause-joined : goal.part-requires-clause-joined
part-requires-clause-joined c =
    pair-joined _ _ _ _ _ _ _ _ _ _ c.self.invariant.tied c.self.view_is
    (pair_of _ _ _ _ _ _ _ _ _ _ c.self.invariant.tied c.self.view_is c.requires.reference c.requires.live c.ends-near.ensures.near c.ends-near.ensures.far) c.requires.pair

pub invariant_of-self : goal.invariant_of-self
invariant_of-self c = record {
  tied = pair-tied_unlink _ _ _ _ _ _ _ _ _ c.self.invariant.tied c.part.ensures;
  few = c.self.invariant.few;
  kept = kept_after _ _ _ _ _ _ _ c.self.invariant c.self.view_is
      (pair-seen_unlink _ _ _ _ _ _ _ _ _ _ _ c.self.invariant.tied c.self.view_is
      (pair_of _ _ _ _ _ _ _ _ _ _ c.self.invariant.tied c.self.view_is c.requires.reference c.requires.live c.ends-near.ensures.near c.ends-near.ensures.far) c.part.ensures)
      (λ k. kept_unlinked _ _ _ _ k);
}

pub returns : goal.returns
returns c =
    pair-seen_unlink _ _ _ _ _ _ _ _ _ _ _ c.self.invariant.tied c.self.view_is
    (pair_of _ _ _ _ _ _ _ _ _ _ c.self.invariant.tied c.self.view_is c.requires.reference c.requires.live c.ends-near.ensures.near c.ends-near.ensures.far) c.part.ensures

pub part-requires-clause-first_object : goal.part-requires-clause-first_object
part-requires-clause-first_object c = (pair_of _ _ _ _ _ _ _ _ _ _ c.self.invariant.tied c.self.view_is c.requires.reference c.requires.live c.ends-near.ensures.near c.ends-near.ensures.far).a_placed.object

pub part-requires-clause-second_object : goal.part-requires-clause-second_object
part-requires-clause-second_object c = (pair_of _ _ _ _ _ _ _ _ _ _ c.self.invariant.tied c.self.view_is c.requires.reference c.requires.live c.ends-near.ensures.near c.ends-near.ensures.far).b_placed.object
