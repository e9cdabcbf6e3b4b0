-- What may be added as a part of an object.
use Rattle.std.specs.Prelude.{◌≡◌, ◌<◌, ℕ, true, false, List, Contains, IsTrue}
use Rattle.mof_metamodel.specs.Characters.{is_identifier_text}
use Rattle.mof_metamodel.specs.Metamodels.{class_count, props_of, prop_at, type_of}
use Rattle.object_tables.specs.declared.value.Value.TheVariants as values
use Rattle.object_tables.specs.Models.{ModelData, is_class_type, is_value_of, IsPartnerFor}
use Rattle.example_models.specs.declared.parts.Part.{Part}

-- objects of the class have the attribute, and the text may stand there
pub record MayHold (m : ModelData) (class attribute : ℕ) (text : List ℕ) : Type 0 where
  pub has : Contains (props_of m.meta class) attribute
  pub attribute_there : is_class_type (type_of m.meta attribute) ≡ false
  pub typed : IsTrue (is_value_of m.meta (type_of m.meta attribute) (values.Str text))

-- the object has an identifier, texts that its attributes may hold, and a container that its reference may lead to
pub record IsPart (m : ModelData) (part : Part) : Type 0 where
  pub class : part.class.0 < class_count m.meta
  pub identifier : IsTrue (is_identifier_text part.id)
  pub name : MayHold m part.class.0 0 part.name
  pub text : MayHold m part.class.0 part.attribute.0 part.text
  pub has : Contains (props_of m.meta part.class.0) part.reference.0
  pub reference : is_class_type (type_of m.meta part.reference.0) ≡ true
  pub up : (prop_at m.meta part.reference.0).composite ≡ false
  pub container : IsPartnerFor m part.reference.0 part.container.0
