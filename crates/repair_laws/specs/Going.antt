-- Demands that can stand in a model of the target (MOF 2.5.1, Reflection: values and partners of their types).
use Rattle.std.specs.Prelude.{◌≡◌, true, false, Some, Contains}
use Rattle.mof_metamodel.specs.Metamodels.{props_of, type_of}
use Rattle.object_tables.specs.declared.value.Value.{Value}
use Rattle.object_tables.specs.Models.{ModelData, is_class_type}
use Rattle.qv_syntax.specs.declared.program.Program.{Program}
use Rattle.qvtr_semantics.specs.declared.datum.Datum.{Datum}
use Rattle.qvtr_semantics.specs.Objects.{value_datum}
use Rattle.qvtr_semantics.specs.Outs.{value_of_datum}
use Rattle.repair_semantics.specs.declared.term.Term.{Term, out-Term}
use Rattle.repair_semantics.specs.declared.demand.Demand.{Demand}
use Rattle.repair_semantics.specs.Terms.{datum_in, term_in}
use Rattle.repair_semantics.specs.TargetItems.{target_meta_number}

-- a datum that a slot of an attribute can hold, as one of the target's values is seen
pub record IsSeen (program : Program) (d : Datum) : Type 0 where
  pub value : Value
  pub value_is : value_of_datum d ≡ Some value
  pub seen : value_datum (target_meta_number program) value ≡ d

-- the property is one of the class of the demand's owner, a reference where the value is a term, and an attribute where it is a datum
pub record GoesInto (program : Program) (m : ModelData) (d : Demand) : Type 0 where
  pub has : Contains (props_of m.meta (out-Term d.owner).class.0) d.prop.0
  pub object : (t : Term) → term_in d.value ≡ Some t → is_class_type (type_of m.meta d.prop.0) ≡ true
  pub attribute : (x : Datum) → datum_in d.value ≡ Some x → is_class_type (type_of m.meta d.prop.0) ≡ false
  pub datum : (x : Datum) → datum_in d.value ≡ Some x → IsSeen program x
