-- What a repair may write: a value that its slot can hold, and a value that its variable may have (QVT 1.3, sections 7.2.3 and 7.10.2).
use Rattle.std.specs.Prelude.{◌≡◌, ℕ, true, List, Some, IsTrue}
use Rattle.mof_metamodel.specs.declared.desc.MetaDesc.{MetaDesc}
use Rattle.mof_metamodel.specs.Metamodels.{type_of}
use Rattle.object_tables.specs.declared.value.Value.{Value}
use Rattle.object_tables.specs.Models.{is_value_of}
use Rattle.qv_syntax.specs.declared.program.Var.{Var}
use Rattle.qv_syntax.specs.ProgramTypes.{typing_of}
use Rattle.qvtr_semantics.specs.declared.datum.Datum.{Datum}
use Rattle.qvtr_semantics.specs.declared.datum.Datum.TheVariants.{Val}
use Rattle.qvtr_semantics.specs.Objects.{Setting, value_datum}
use Rattle.qvtr_semantics.specs.Bindings.{is_value_for}
use Rattle.evaluation_laws.specs.TypedValues.{IsDatumOfTyping}

-- the value, which expressions see as a datum with this number, may stand at the property of the metamodel of number m, and is read there as this datum
pub record IsHeld (meta : MetaDesc) (p m number : ℕ) (v : Value) : Type 0 where
  pub fits : IsTrue (is_value_of meta (type_of meta p) v)
  pub read : Val number v ≡ value_datum m v

-- the variable may have the value, which is of its type
pub record IsAllowed (metas : List MetaDesc) (s : Setting) (var : Var) (d : Datum) : Type 0 where
  pub allowed : is_value_for s (Some var) (Some d) ≡ true
  pub typed : IsDatumOfTyping metas s (typing_of var) d
