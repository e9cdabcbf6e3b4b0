use Rattle.std.proofs.Common.{◌≡◌, ◌<◌, ℕ, length}
use Rattle.std.specs.Prelude.{slice_index_or}
use Rattle.mof_metamodel.specs.declared.desc.Prop.{Prop}
use Rattle.mof_metamodel.specs.Metamodels.{IsProp}
use Rattle.mof_metamodel.proofs.resolved.resolved_props.Given as goal

-- the properties so far are resolved
abbrev pub invariant-loop-p : goal.invariant-loop-p
invariant-loop-p l = (length l.props ≡ l.p) × ((p : ℕ) (d : Prop) → p < l.p → IsProp l.named p (slice_index_or l.props p d))
