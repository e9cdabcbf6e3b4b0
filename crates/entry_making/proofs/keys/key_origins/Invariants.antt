use Rattle.std.proofs.Common.{◌≡◌, map, take}
use Rattle.entry_making.specs.Items.{shown_item}
use Rattle.entry_making.specs.Givers.{shown_origin, key_giver}
use Rattle.entry_making.proofs.keys.key_origins.Given as goal

abbrev pub invariant-loop-prop : goal.invariant-loop-prop
invariant-loop-prop l = map shown_origin l.keys ≡ map (key_giver l.meta (map shown_item l.items) l.variable) (take l.prop-index l.props)
