use Rattle.std.proofs.Common.{◌≡◌}
use Rattle.repair_cases.proofs.drawing.set_all.Given as goal

-- the model keeps its metamodel
abbrev pub invariant-loop-prop : goal.invariant-loop-prop
invariant-loop-prop l = l.model.meta ≡ l.fn.model.meta
