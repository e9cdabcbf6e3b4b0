use Rattle.enforcement_rules.specs.NumberSets.{has}
use Rattle.enforcement_rules.specs.Standings.{shown_standing}
use Rattle.enforcement_rules.proofs.KeyCycleLaws.{key_variables_told}
use Rattle.enforcement_rules.proofs.key_cycles.key_variables.Goals as goal

pub returns : goal.returns
returns c =
    key_variables_told c.args.task.now.metas.now c.args.task.now.program.now c.args.task.now.rel.now c.args.task.now.meta (shown_standing c.args.standing.now) c.args.key c.key_props.result.now c.key_props.ensures
    (has c.in_ok-asked.asked) c.in_ok-asked.ensures (has c.new-taken.result) c.new-taken.ensures c.as_slice.result.now c.as_slice.ensures (has c.put_items.new.taken) c.in_ok-put_items.ensures.taken
    c.new-out.result c.put_items.new.out c.put_parent.new.out c.new-out.ensures c.in_ok-put_items.ensures.out c.in_ok-put_parent.ensures
