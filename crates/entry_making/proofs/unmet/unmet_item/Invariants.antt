use Rattle.std.proofs.Common.{◌≡◌, map, drop}
use Rattle.entry_making.specs.Items.{shown_item}
use Rattle.entry_making.specs.UnmetNumbers.{unmet_item}
use Rattle.entry_making.proofs.unmet.unmet_item.Given as goal

abbrev pub invariant-loop-item : goal.invariant-loop-item
invariant-loop-item l = record {
  value : unmet_item l.world.program.now l.world.models.now l.rel l.fn.known (map shown_item (drop l.item-index l.items))
      ≡ unmet_item l.world.program.now l.world.models.now l.rel l.fn.known (map shown_item l.items);
  kept : l.known ≡ l.fn.known;
}
