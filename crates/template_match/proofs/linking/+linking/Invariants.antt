use Rattle.std.proofs.Common.{◌≡◌, ◌++◌, map, take}
use Rattle.std.specs.List.{flat_map}
use Rattle.template_match.specs.Links.{links_of_item}
use Rattle.template_match.proofs.linking.+linking.Given as goal

abbrev pub invariant-add_item_links-loop-item : goal.invariant-add_item_links-loop-item
invariant-add_item_links-loop-item l = l.out ≡ l.fn.out ++ flat_map (λ f. f l.holder) (map links_of_item (take l.item-index l.items))
