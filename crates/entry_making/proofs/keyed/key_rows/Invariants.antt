use Rattle.std.proofs.Common.{◌≡◌, map}
use Rattle.std.specs.List.{range_with_len}
use Rattle.entry_making.specs.Items.{shown_item}
use Rattle.entry_making.specs.KeyedVariables.{key_row, keyed_at}
use Rattle.entry_making.proofs.keyed.key_rows.Given as goal

abbrev pub invariant-loop-v : goal.invariant-loop-v
invariant-loop-v l = l.rows ≡ map (λ v. key_row (keyed_at l.task.program.now l.task.meta.now l.task.rel.now (map shown_item l.task.items.now) v)) (range_with_len 0 l.v)
