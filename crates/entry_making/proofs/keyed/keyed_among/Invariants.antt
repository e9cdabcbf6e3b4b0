use Rattle.std.proofs.Common.{◌≡◌, map, take}
use Rattle.entry_making.specs.Items.{shown_item}
use Rattle.entry_making.specs.KeyedVariables.{shown_keyed, keyed_among}
use Rattle.entry_making.proofs.keyed.keyed_among.Given as goal

abbrev pub invariant-loop-v : goal.invariant-loop-v
invariant-loop-v l = map shown_keyed l.out ≡ keyed_among l.task.program.now l.task.meta.now l.task.rel.now (map shown_item l.task.items.now) (take l.v-index l.order)
