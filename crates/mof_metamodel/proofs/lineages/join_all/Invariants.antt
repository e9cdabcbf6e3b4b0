use Rattle.std.proofs.Common.{◌≡◌, [], map, drop, length}
use Rattle.mof_metamodel.specs.Metamodels.{all_united}
use Rattle.mof_metamodel.specs.Tables.{line_at, class_numbers, AreMarks, HasOrders}
use Rattle.mof_metamodel.proofs.lineages.join_all.Given as goal

-- what is left gives the whole; what is there is marked, and each class with the classes of its order
abbrev pub invariant-loop-s : goal.invariant-loop-s
invariant-loop-s l = (all_united l.joint (map (line_at l.orders) (class_numbers (drop l.s-index l.supers))) ≡ all_united [] (map (line_at l.orders) (class_numbers l.supers)))
    × (length l.marks.items ≡ length l.orders) × AreMarks l.marks.items l.joint × HasOrders l.orders l.joint
