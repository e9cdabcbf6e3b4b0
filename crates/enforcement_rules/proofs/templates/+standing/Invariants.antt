use Rattle.std.proofs.Common.{map, take}
use Rattle.enforcement_rules.specs.Standings.{shown_standing, Adds, IsOfItems}
use Rattle.enforcement_rules.proofs.templates.+standing.Given as goal

-- those of the items so far are added
abbrev pub invariant-put_items-loop-item : goal.invariant-put_items-loop-item
invariant-put_items-loop-item l = Adds (IsOfItems l.parent (take l.item-index l.items)) (map shown_standing l.fn.out) (map shown_standing l.out)
