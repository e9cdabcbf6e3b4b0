-- What of a program belongs to its target, as tests.
use Rattle.std.specs.Prelude.{ℕ, Bool, false, not, Option, None, Some, nat_eq, slice_get}
use Rattle.qv_syntax.specs.declared.ty.Ty.{Ty}
use Rattle.qv_syntax.specs.declared.program.Program.{Program}
use Rattle.qv_syntax.specs.declared.program.Rel.{Rel}
use Rattle.qv_syntax.specs.declared.program.Var.{Var}
use Rattle.ocl_environments.specs.Environments.{class_of}
use Rattle.std.specs.Prelude.{is_some}

abbrev pub is_of_target : Program → Option ℕ → Bool
is_of_target program None = false
is_of_target program (Some m) = nat_eq m program.target

abbrev pub has_model : Program → Option Var → Bool
has_model program None = false
has_model program (Some var) = is_of_target program var.model

abbrev pub is_target_variable : Program → Rel → ℕ → Bool
is_target_variable program rel v = has_model program (slice_get rel.vars v)

abbrev pub has_class : Ty → Bool
has_class ty = is_some (class_of ty)

abbrev pub is_object : Option Var → Bool
is_object None = false
is_object (Some var) = has_class var.ty

abbrev pub is_object_variable : Rel → ℕ → Bool
is_object_variable rel v = is_object (slice_get rel.vars v)

abbrev pub is_data : Option Var → Bool
is_data None = false
is_data (Some var) = not (has_class var.ty)

abbrev pub is_data_variable : Rel → ℕ → Bool
is_data_variable rel v = is_data (slice_get rel.vars v)
