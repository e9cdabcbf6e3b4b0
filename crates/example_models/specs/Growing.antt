-- A source on its way: which objects it has before the next one comes.
use Rattle.std.specs.Prelude.{ℕ, ◌+◌, ◌*◌, ◌/◌, ◌%◌, List, [], ◌∷◌, ◌++◌, Option, Some, length, codes, ◌<◌, ◌≤◌}
use Rattle.object_tables.specs.declared.value.Value.TheVariants as values
use Rattle.object_tables.specs.declared.value.ObjId.{ObjId}
use Rattle.object_tables.specs.Objects.{Object}
use Rattle.object_tables.specs.Models.{ModelData, with_values, linked, added}
use Rattle.example_models.specs.declared.limits.TheConstants.{MAX_SOURCE_CLASSES, SEEDS}
use Rattle.example_models.specs.declared.parts.Part.{Part}
use Rattle.example_models.specs.ClsTable.{cls_desc}
use Rattle.example_models.specs.Source.{class_name, attribute_name, class_id, attribute_id, attribute_prim, package_object, package_objects, packages_objects, class_objects, classes_objects}

-- a source may have so many classes and this seed
pub record IsSize (classes seed : ℕ) : Type 0 where
  pub classes_few : classes ≤ MAX_SOURCE_CLASSES
  pub seed_low : seed < SEEDS

-- a model of packages and classes with these objects
abbrev pub model_of : List (Option Object) → ModelData
model_of objects = record { meta = cls_desc; objects = objects }

-- those before package k, and the package with so many classes
abbrev pub up_to_class : ℕ → ℕ → ℕ → ℕ → List (Option Object)
up_to_class n seed k classes = packages_objects n seed k ++ package_objects seed k classes

-- those before class i, which its package has already
abbrev pub before_class : ℕ → ℕ → ℕ → List (Option Object)
before_class n seed i =
    packages_objects n seed (i / 100) ++ Some (package_object seed (i / 100) (i % 100 + 1)) ∷ classes_objects seed (100 * (i / 100)) (i % 100)

-- those, and the class with so many attributes
abbrev pub up_to_attribute : ℕ → ℕ → ℕ → ℕ → List (Option Object)
up_to_attribute n seed i attributes = before_class n seed i ++ class_objects seed i attributes

-- a text at an attribute of the object
abbrev pub with_text : ModelData → ℕ → ℕ → List ℕ → ModelData
with_text m o p text = with_values m o p (values.Str text ∷ [])

-- one more object with a name, another text and a container
abbrev pub with_part : ModelData → Part → ModelData
with_part m part =
    linked (with_text (with_text (added m part.class.0 part.id) (length m.objects) 0 part.name) (length m.objects) part.attribute.0 part.text)
    part.reference.0 (length m.objects) part.container.0

-- class i in the package that is this object
abbrev pub class_part : ℕ → ObjId → Part
class_part i owner = record {
  class = record { 0 = 2 };
  id = class_id i;
  name = class_name i;
  attribute = record { 0 = 3 };
  text = codes "persistent";
  reference = record { 0 = 2 };
  container = owner;
}

-- attribute j of class i, which is this object
abbrev pub attribute_part : ℕ → ℕ → ℕ → ObjId → Part
attribute_part seed i j owner = record {
  class = record { 0 = 3 };
  id = attribute_id i j;
  name = attribute_name j;
  attribute = record { 0 = 9 };
  text = attribute_prim seed i j;
  reference = record { 0 = 8 };
  container = owner;
}
