-- Demands that the target's metamodel allows (MOF 2.5.1, Reflection: values and partners of their types, objects of classes that aren't abstract).
use Rattle.std.specs.Prelude.{◌≡◌, ◌<◌, false, Some, IsTrue}
use Rattle.mof_metamodel.specs.Metamodels.{class_count, class_at as meta_class, type_of}
use Rattle.object_tables.specs.declared.value.Value.{Value}
use Rattle.object_tables.specs.Models.{ModelData, is_value_of, ConformsTo}
use Rattle.qv_syntax.specs.declared.program.Program.{Program}
use Rattle.qvtr_semantics.specs.declared.datum.Datum.{Datum}
use Rattle.qvtr_semantics.specs.Outs.{value_of_datum}
use Rattle.repair_semantics.specs.declared.term.Term.{Term, out-Term}
use Rattle.repair_semantics.specs.declared.demand.Demand.{Demand}
use Rattle.repair_semantics.specs.Terms.{datum_in, term_in}

-- what is demanded may stand at the property: a datum is a value of the property's type, and an object is of a class that conforms to it
pub record IsTypedDemand (program : Program) (m : ModelData) (d : Demand) : Type 0 where
  pub datum : (x : Datum) (v : Value) → datum_in d.value ≡ Some x → value_of_datum x ≡ Some v
      → IsTrue (is_value_of m.meta (type_of m.meta d.prop.0) v)
  pub term : (t : Term) → term_in d.value ≡ Some t → ConformsTo m.meta (out-Term t).class.0 (type_of m.meta d.prop.0)

-- an object of the term's class can be made
pub record IsConcreteTerm (m : ModelData) (t : Term) : Type 0 where
  pub class : (out-Term t).class.0 < class_count m.meta
  pub concrete : (meta_class m.meta (out-Term t).class.0).is_abstract ≡ false
