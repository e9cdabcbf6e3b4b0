-- The metamodel of files that hold metamodels: after the class part of EMOF (MOF 2.5.1, 12.4).
use Rattle.std.specs.Prelude.{ℕ, Bool, true, false, List, [], ◌∷◌, ◌++◌, codes, None, Some}
use Rattle.mof_metamodel.specs.declared.desc.MetaDesc.{MetaDesc}
use Rattle.mof_metamodel.specs.declared.desc.ClassDesc.{ClassDesc}
use Rattle.mof_metamodel.specs.declared.desc.PropDesc.{PropDesc}

-- a property of at most one value or partner
abbrev pub optional : List ℕ → List ℕ → PropDesc
optional name type_name =
    record { name = name; type_name = type_name; lower = 0; upper = Some 1; composite = false; ordered = false; opposite = None }

-- one that has to have a value
abbrev pub required : List ℕ → List ℕ → PropDesc
required name type_name = record (optional name type_name) { lower = 1 }

-- one of any number of partners, in an order
abbrev pub sequence : List ℕ → List ℕ → PropDesc
sequence name type_name = record (optional name type_name) { upper = None; ordered = true }

-- the same, of which each partner is a part
abbrev pub parts : List ℕ → List ℕ → PropDesc
parts name type_name = record (sequence name type_name) { composite = true }

-- a property with an opposite: that of the class of this name
abbrev pub opposed : PropDesc → List ℕ → List ℕ → PropDesc
opposed property class name = record property { opposite = Some (record { class = class; prop = name }) }

-- a class with one superclass
abbrev pub class_under : List ℕ → Bool → List ℕ → List PropDesc → ClassDesc
class_under name is_abstract above props = record { name = name; is_abstract = is_abstract; supers = above ∷ []; props = props }

abbrev pub named_class : ClassDesc
named_class = record { name = codes "Named"; is_abstract = true; supers = []; props = required (codes "name") (codes "String") ∷ [] }

abbrev pub type_class : ClassDesc
type_class =
    class_under (codes "Type") true (codes "Named")
    (opposed (optional (codes "package") (codes "Package")) (codes "Package") (codes "ownedType") ∷ [])

abbrev pub package_class : ClassDesc
package_class =
    class_under (codes "Package") false (codes "Named")
    (optional (codes "uri") (codes "String")
    ∷ opposed (parts (codes "ownedType") (codes "Type")) (codes "Type") (codes "package")
    ∷ [])

abbrev pub class_class : ClassDesc
class_class =
    class_under (codes "Class") false (codes "Type")
    (optional (codes "isAbstract") (codes "Boolean")
    ∷ sequence (codes "superClass") (codes "Class")
    ∷ opposed (parts (codes "ownedAttribute") (codes "Property")) (codes "Property") (codes "class")
    ∷ [])

abbrev pub primitive_type_class : ClassDesc
primitive_type_class = class_under (codes "PrimitiveType") false (codes "Type") []

abbrev pub enumeration_class : ClassDesc
enumeration_class = class_under (codes "Enumeration") false (codes "Type") (parts (codes "ownedLiteral") (codes "EnumerationLiteral") ∷ [])

abbrev pub literal_class : ClassDesc
literal_class = class_under (codes "EnumerationLiteral") false (codes "Named") []

-- the properties of a property that say what it is of
abbrev pub ends : List PropDesc
ends = opposed (optional (codes "class") (codes "Class")) (codes "Class") (codes "ownedAttribute") ∷ optional (codes "type") (codes "Type") ∷ []

-- its bounds, and the text of its default
abbrev pub bounds : List PropDesc
bounds =
    optional (codes "lower") (codes "Integer")
    ∷ optional (codes "upper") (codes "String")
    ∷ optional (codes "default") (codes "String")
    ∷ []

-- its marks
abbrev pub marks : List PropDesc
marks =
    optional (codes "isComposite") (codes "Boolean")
    ∷ optional (codes "isOrdered") (codes "Boolean")
    ∷ optional (codes "isUnique") (codes "Boolean")
    ∷ []

-- those marks that a metamodel has no need of, and the opposite
abbrev pub others : List PropDesc
others =
    optional (codes "isReadOnly") (codes "Boolean")
    ∷ optional (codes "isDerived") (codes "Boolean")
    ∷ optional (codes "isID") (codes "Boolean")
    ∷ optional (codes "opposite") (codes "Property")
    ∷ []

abbrev pub property_class : ClassDesc
property_class = class_under (codes "Property") false (codes "Named") (((ends ++ bounds) ++ marks) ++ others)

abbrev pub emof_classes : List ClassDesc
emof_classes =
    named_class ∷ type_class ∷ package_class ∷ class_class ∷ primitive_type_class ∷ enumeration_class ∷ literal_class ∷ property_class ∷ []

abbrev pub emof : MetaDesc
emof = record { name = codes "EMOF"; classes = emof_classes; enums = [] }
