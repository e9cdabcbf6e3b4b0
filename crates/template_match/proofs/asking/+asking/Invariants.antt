use Rattle.std.proofs.Common.{◌≡◌, ◌++◌, map, take}
use Rattle.std.specs.List.{flat_map}
use Rattle.template_match.specs.Asked.{asked_values, asked_in_item}
use Rattle.template_match.proofs.asking.+asking.Given as goal

abbrev pub invariant-add_items_asked-loop-item : goal.invariant-add_items_asked-loop-item
invariant-add_items_asked-loop-item l = asked_values l.out ≡ asked_values l.fn.out ++ flat_map (λ f. f l.holder) (map asked_in_item (take l.item-index l.items))
