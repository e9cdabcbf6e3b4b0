use Rattle.std.proofs.Common.{get_or, arith}
use Rattle.enforcement_rules.proofs.ListLaws.{at_place}
use Rattle.enforcement_rules.proofs.key_table.any_many.Goals as goal

pub is_many-requires : goal.is_many-requires
is_many-requires c = c.requires (get_or c.args.props.now c.loop-p.p-index (record { 0 = 0 })) (at_place c.args.props.now c.loop-p.p-index (record { 0 = 0 }) (omega arith))
