use Rattle.std.proofs.Common.{ℕ, ◌<◌, Some, IsTrue, get_or}
use Rattle.object_tables.specs.declared.value.Value.{Value}
use Rattle.object_tables.specs.Models.{is_value_of}
use Rattle.object_tables.proofs.model.contents.are_of_type.Given as goal

-- those so far are of the type
abbrev pub invariant-loop-value : goal.invariant-loop-value
invariant-loop-value l = (k : ℕ) (d : Value) → k < l.value-index → IsTrue (is_value_of l.meta (Some l.ty) (get_or l.values k d))
