-- What stands in the slots of objects, by the names of properties (MOF 2.5.1, Reflection; UML 2.5.1, 9.8.3). Nothing stands where the
-- object's class has no property of the name.
use Rattle.std.specs.Prelude.{ℕ, Bool, List, [], ◌∷◌, Option, None, Some, if◌then◌else◌}
use Rattle.std.specs.Option.{option_and_then}
use Rattle.mof_metamodel.specs.Metamodels.{prop_number, type_of, same_name}
use Rattle.object_tables.specs.declared.value.Value.{Value}
use Rattle.object_tables.specs.Models.{ModelData, class_at, values_at, partners_at, is_class_type}
use Rattle.model_assembly.specs.Profile.{class_text}

-- the object is of the class of this name, and not only of one that conforms to it
abbrev pub is_of_class : ModelData → List ℕ → ℕ → Bool
is_of_class m name o = same_name (class_text m o) name

-- the property of this name of the object's class, inherited ones included
abbrev pub prop_in : ModelData → ℕ → List ℕ → Option ℕ
prop_in m o name = option_and_then (λ c. prop_number m.meta c name) (class_at m o)

-- the values at a property, if it is an attribute
abbrev pub values_in : ModelData → ℕ → Option ℕ → List Value
values_in m o None = []
values_in m o (Some p) = if is_class_type (type_of m.meta p) then [] else values_at m o p

-- the partners at a property, if it is a reference
abbrev pub partners_in : ModelData → ℕ → Option ℕ → List ℕ
partners_in m o None = []
partners_in m o (Some p) = if is_class_type (type_of m.meta p) then partners_at m o p else []

abbrev pub values_named : ModelData → ℕ → List ℕ → List Value
values_named m o name = values_in m o (prop_in m o name)

abbrev pub partners_named : ModelData → ℕ → List ℕ → List ℕ
partners_named m o name = partners_in m o (prop_in m o name)

-- the first of several
abbrev pub first_of : List ℕ → Option ℕ
first_of [] = None
first_of (b ∷ bs) = Some b

abbrev pub partner_named : ModelData → ℕ → List ℕ → Option ℕ
partner_named m o name = first_of (partners_named m o name)
