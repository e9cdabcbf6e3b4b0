use Rattle.std.proofs.Common.{◌≡◌, ◌++◌, map, take}
use Rattle.std.specs.List.{flat_map}
use Rattle.template_match.specs.Shapes.{shapes_in_item}
use Rattle.template_match.proofs.shaping.+shaping.Given as goal

abbrev pub invariant-add_item_shapes-loop-item : goal.invariant-add_item_shapes-loop-item
invariant-add_item_shapes-loop-item l = l.out ≡ l.fn.out ++ flat_map (λ f. f l.holder) (map shapes_in_item (take l.item-index l.items))
