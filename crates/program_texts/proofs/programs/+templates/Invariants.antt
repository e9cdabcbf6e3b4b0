use Rattle.std.proofs.Common.{◌≡◌, map, drop}
use Rattle.program_texts.specs.Stored.{all_true, is_item_stored}
use Rattle.program_texts.proofs.programs.+templates.Given as goal

abbrev pub invariant-stored_items-loop-item : goal.invariant-stored_items-loop-item
invariant-stored_items-loop-item l = all_true (map is_item_stored (drop l.item-index l.items)) ≡ all_true (map is_item_stored l.items)
