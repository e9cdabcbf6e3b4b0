use Rattle.std.proofs.Common.{◌∙◌, rules}
use Rattle.std.proofs.lemmas.Fn.{always_returns_same}
use Rattle.slot_claims.specs.ClaimOrder.{element_order}
use Rattle.slot_claims.proofs.ElementLaws.{found_among}
use Rattle.slot_claims.proofs.added.is_among.Goals as goal

pub returns : goal.returns
returns c =
    c.is_ok.ensures.value
    ∙ found_among c.args.sorted.now c.args.element c.requires c.binary_search_by.result c.binary_search_by.ensures.bound
    (c.binary_search_by.ensures.position (λ f. element_order f c.args.element) (always_returns_same _ _ _ (λ a r f' k. search rules)))
