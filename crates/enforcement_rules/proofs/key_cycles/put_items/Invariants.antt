use Rattle.std.proofs.Common.{◌≡◌, ◌++◌, ◌||◌, ℕ, length, drop}
use Rattle.enforcement_rules.specs.KeyCycles.{item_variables}
use Rattle.enforcement_rules.specs.KeyTests.{item_props}
use Rattle.enforcement_rules.specs.NumberSets.{has, is_among}
use Rattle.enforcement_rules.proofs.key_cycles.put_items.Given as goal

abbrev pub invariant-loop-item : goal.invariant-loop-item
invariant-loop-item l = record {
  out : l.out ++ item_variables (length l.task.rel.now.vars) (has l.asked) (has l.taken) (drop l.item-index l.items) ≡ l.fn.out ++ item_variables (length l.task.rel.now.vars) (has l.asked) (has l.fn.taken) l.items;
  taken : (q : ℕ) → (has l.taken q || is_among (item_props (drop l.item-index l.items)) q) ≡ (has l.fn.taken q || is_among (item_props l.items) q);
}
