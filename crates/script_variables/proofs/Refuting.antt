-- Wrong answers that the definitions exclude. A contract says of the code's result what the definition does, so it refuses code
-- that answers these.
use Rattle.std.specs.Prelude.{◌≡◌, ℕ, Bool, true, false, List, slice_index_or, Contains, Option, None, Some}
use Rattle.std.proofs.Common.{sym, ◌∙◌, true≢false}
use Rattle.mof_metamodel.specs.NameTables.{NamesWith}
use Rattle.qv_syntax.specs.declared.ty.Ty.{Ty}
use Rattle.qv_syntax.specs.declared.program.Var.{Var}
use Rattle.ocl_environments.specs.declared.fault.TypeFault.{TypeFault}
use Rattle.script_variables.specs.Bindings.{data_number, IsBoundData, IsUnboundData}
use Rattle.script_variables.specs.Variables.{is_class, IsVarOf}

not_both : (model : Option ℕ) (number : ℕ) → model ≡ None → model ≡ Some number → ⊥
not_both model number none some = cc

-- ---- variables of objects

-- the model of a variable of objects is forgotten
pub model_forgotten : (types : NamesWith Ty) (models : NamesWith (List ℕ)) (numbers : List (List ℕ)) (name : List ℕ) (var : Var)
    → is_class var.ty ≡ true → var.model ≡ None → IsVarOf types models numbers name var → ⊥
model_forgotten types models numbers name var object none is = not_both var.model _ none (is.object object).2

-- ---- variables of data

-- a variable of data that isn't bound is accepted
pub unbound_accepted : (types : NamesWith Ty) (bound : List Bool) (v : List ℕ) (n : ℕ) → Contains (data_number types v) n
    → slice_index_or bound n false ≡ false → IsBoundData types bound v → ⊥
unbound_accepted types bound v n has unbound is = true≢false (sym (is n has) ∙ unbound)

-- a variable of data that is bound is refused
pub bound_refused : (types : NamesWith Ty) (bound : List Bool) (v : List ℕ) (fault : TypeFault)
    → ((n : ℕ) → Contains (data_number types v) n → slice_index_or bound n false ≡ true) → IsUnboundData types bound v fault → ⊥
bound_refused types bound v fault all is = true≢false (sym (all is.number is.has) ∙ is.unbound)
