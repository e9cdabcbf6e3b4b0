use Rattle.std.proofs.Common.{◌≡◌, map, take}
use Rattle.entry_making.specs.Items.{shown_item}
use Rattle.entry_making.specs.DemandNumbers.{number_demands}
use Rattle.entry_making.proofs.demands.put_demands.Given as goal

abbrev pub invariant-loop-item : goal.invariant-loop-item
invariant-loop-item l = record {
  demands : l.out ≡ number_demands l.world.program.now l.world.models.now l.fn.known (map shown_item (take l.item-index l.items));
  kept : l.known ≡ l.fn.known;
}
