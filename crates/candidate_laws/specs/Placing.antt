-- Demands that a target can take: each says of a term, at a property of its class, a value that may stand there (MOF 2.5.1, Reflection: values
-- and partners of their types). That enforcement may make objects of these terms is said with it (QVT 1.3, section 7.2).
use Rattle.std.specs.Prelude.{◌≡◌, ◌<◌, ◌≤◌, ◌+◌, ◌^◌, ℕ, true, false, List, length, Some, Contains, IsTrue}
use Rattle.mof_metamodel.specs.declared.desc.MetaDesc.{MetaDesc}
use Rattle.mof_metamodel.specs.Metamodels.{class_count, class_at as meta_class, props_of, type_of}
use Rattle.object_tables.specs.declared.value.Value.{Value}
use Rattle.object_tables.specs.Models.{ModelData, is_class_type, is_value_of, ConformsTo}
use Rattle.object_tables.specs.Kept.{Kept}
use Rattle.qv_syntax.specs.declared.program.Program.{Program}
use Rattle.qvtr_semantics.specs.declared.datum.Datum.{Datum}
use Rattle.qvtr_semantics.specs.Objects.{value_datum}
use Rattle.qvtr_semantics.specs.Outs.{value_of_datum}
use Rattle.repair_semantics.specs.declared.term.Term.{Term, out-Term}
use Rattle.repair_semantics.specs.declared.demand.Demand.{Demand}
use Rattle.repair_semantics.specs.Terms.{datum_in, term_in}
use Rattle.repair_semantics.specs.TargetItems.{target_meta_number}
use Rattle.repair_semantics.specs.Demands.{demanded_terms}
use Rattle.repair_semantics.specs.Conflicts.{AreAtPeace}
use Rattle.repair_semantics.specs.Images.{image}
use Rattle.repair_semantics.specs.CandidateObjects.{fresh_terms}

-- a datum that the attribute can hold: a value of its type, and as one of the target's values is seen
pub record IsValueFor (program : Program) (meta : MetaDesc) (p : ℕ) (d : Datum) : Type 0 where
  pub value : Value
  pub value_is : value_of_datum d ≡ Some value
  pub seen : value_datum (target_meta_number program) value ≡ d
  pub typed : IsTrue (is_value_of meta (type_of meta p) value)

-- the property is an attribute that can hold the datum
pub record IsAttributeFor (program : Program) (meta : MetaDesc) (p : ℕ) (d : Datum) : Type 0 where
  pub attribute : is_class_type (type_of meta p) ≡ false
  pub value : IsValueFor program meta p d

-- a term that the reference can lead to: of a class that conforms to its type
pub record IsTermFor (meta : MetaDesc) (p : ℕ) (t : Term) : Type 0 where
  pub reference : is_class_type (type_of meta p) ≡ true
  pub conforms : ConformsTo meta (out-Term t).class.0 (type_of meta p)

-- what a demand says can stand in a model: the property is one of the class of its owner, a reference that can lead to its value where that
-- is a term, and an attribute that can hold it where it is a datum
pub record CanStand (program : Program) (meta : MetaDesc) (d : Demand) : Type 0 where
  pub has : Contains (props_of meta (out-Term d.owner).class.0) d.prop.0
  pub object : (t : Term) → term_in d.value ≡ Some t → IsTermFor meta d.prop.0 t
  pub datum : (x : Datum) → datum_in d.value ≡ Some x → IsAttributeFor program meta d.prop.0 x

-- a class of the metamodel of which there can be objects
pub record IsConcrete (meta : MetaDesc) (class : ℕ) : Type 0 where
  pub known : class < class_count meta
  pub concrete : (meta_class meta class).is_abstract ≡ false

-- the demands can be placed in the target
pub record Placeable (program : Program) (m : ModelData) (demands : List Demand) : Type 0 where
  -- the target keeps what every model keeps
  pub kept : Kept m
  -- what each demand says can stand in a model
  pub stand : (d : Demand) → Contains demands d → CanStand program m.meta d
  -- there can be objects of each demanded term's class
  pub concrete : (t : Term) → Contains (demanded_terms demands) t → IsConcrete m.meta (out-Term t).class.0
  -- two demanded terms with one image are one term
  pub apart : (t u : Term) (o : ℕ) → Contains (demanded_terms demands) t → Contains (demanded_terms demands) u → image program m t ≡ Some o
      → image program m u ≡ Some o → t ≡ u
  -- no two demands are in conflict
  pub peaceful : AreAtPeace m.meta demands
  -- there are identifiers enough for fresh objects
  pub few : length (fresh_terms program m (demanded_terms demands)) + length m.objects ≤ 2 ^ 64
