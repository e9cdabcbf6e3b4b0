use Rattle.std.proofs.Common.{◌++◌, ◌||◌, length, arith}
use Rattle.enforcement_rules.specs.KeyCycles.{item_variables}
use Rattle.enforcement_rules.specs.KeyTests.{item_props}
use Rattle.enforcement_rules.specs.NumberSets.{has, is_among}
use Rattle.enforcement_rules.proofs.KeyCycleLaws.{items_on, taken_on}
use Rattle.enforcement_rules.proofs.key_cycles.put_items.Goals as goal

pub loop-item-preserved : goal.loop-item-preserved
loop-item-preserved c =
    let count = length c.args.task.now.rel.now.vars in
    let asked = has c.args.asked.now in
    let at = c.args.items.now in
    record {
      out = items_on count asked at c.loop-item.item-index c.item-item.result (omega arith) c.item-item.is (has c.loop-item.taken) (has c.put_item.new.taken) c.in_ok-put_item.ensures.taken
          c.loop-item.out c.put_item.new.out (c.args.out.now ++ item_variables count asked (has c.args.taken.now) at) c.loop-item.invariant.out c.in_ok-put_item.ensures.out;
      taken = λ q. taken_on count asked at c.loop-item.item-index c.item-item.result (omega arith) c.item-item.is (has c.loop-item.taken) (has c.put_item.new.taken) c.in_ok-put_item.ensures.taken
          q (has c.args.taken.now q || is_among (item_props at) q) (c.loop-item.invariant.taken q);
    }
