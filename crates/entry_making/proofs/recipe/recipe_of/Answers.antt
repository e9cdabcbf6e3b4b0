use Rattle.std.proofs.Common.{ap, ◌∙◌}
use Rattle.entry_making.specs.declared.content.OwnedItem.{OwnedItem}
use Rattle.std.proofs.Common.{List, map}
use Rattle.entry_making.specs.Items.{shown_item}
use Rattle.entry_making.proofs.DecodedLaws.{items_within}
use Rattle.entry_making.proofs.recipe.recipe_of.Goals as goal

pub keyed_of-requires-clause-within : goal.keyed_of-requires-clause-within
keyed_of-requires-clause-within c =
    items_within c.args.meta.now c.as_slice.result.now _ (ap (λ (its : List OwnedItem). map shown_item its) c.as_slice.ensures ∙ c.in_ok-items.ensures) c.requires.props
