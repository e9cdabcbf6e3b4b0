-- Descriptions of classes and properties, from their names (MOF 2.5.1, 12.4: EMOF's Class and Property). Properties are in no order.
use Rattle.std.specs.Prelude.{ℕ, Bool, true, false, nat_lt, List, [], ◌∷◌, codes, None, Some}
use Rattle.std.specs.List.{list_all}
use Rattle.mof_metamodel.specs.declared.desc.ClassDesc.{ClassDesc}
use Rattle.mof_metamodel.specs.declared.desc.PropDesc.{PropDesc}

-- whether each byte is an ASCII character
abbrev pub is_ascii : List ℕ → Bool
is_ascii text = list_all (λ b. nat_lt b 128) text

-- a property of at most one value or partner
abbrev pub optional : List ℕ → List ℕ → PropDesc
optional name type_name =
    record { name = name; type_name = type_name; lower = 0; upper = Some 1; composite = false; ordered = false; opposite = None }

-- one that has to have a value
abbrev pub required : List ℕ → List ℕ → PropDesc
required name type_name = record (optional name type_name) { lower = 1 }

-- a reference to at most one object of a class, which has the opposite of this name
abbrev pub one : List ℕ → List ℕ → List ℕ → PropDesc
one name class opposite = record (optional name class) { opposite = Some (record { class = class; prop = opposite }) }

-- one to any number of objects
abbrev pub many : List ℕ → List ℕ → List ℕ → PropDesc
many name class opposite = record (one name class opposite) { upper = None }

-- the same, of which each object is a part
abbrev pub parts : List ℕ → List ℕ → List ℕ → PropDesc
parts name class opposite = record (many name class opposite) { composite = true }

-- a class without superclasses
abbrev pub class_with : List ℕ → Bool → List PropDesc → ClassDesc
class_with name is_abstract props = record { name = name; is_abstract = is_abstract; supers = []; props = props }

-- a concrete class with one superclass
abbrev pub class_under : List ℕ → List ℕ → List PropDesc → ClassDesc
class_under name above props = record { name = name; is_abstract = false; supers = above ∷ []; props = props }

-- the abstract class of what has a name
abbrev pub named_class : ClassDesc
named_class = class_with (codes "Named") true (required (codes "name") (codes "String") ∷ [])
