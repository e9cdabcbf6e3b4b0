use Rattle.std.proofs.Common.{◌≡◌}
use Rattle.repair_cases.proofs.drawing.edit_often.Given as goal

-- the model keeps its metamodel
abbrev pub invariant-loop-edit : goal.invariant-loop-edit
invariant-loop-edit l = l.model.meta ≡ l.fn.model.meta
