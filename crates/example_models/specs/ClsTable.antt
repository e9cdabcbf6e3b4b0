-- The metamodel Cls: packages of classes, which have attributes, superclasses and classes that they use. A bound that isn't
-- written is 0..1, `many` and `parts` are 0..*, and no property is ordered.
use Rattle.std.specs.Prelude.{List, [], ◌∷◌, codes}
use Rattle.mof_metamodel.specs.declared.desc.MetaDesc.{MetaDesc}
use Rattle.mof_metamodel.specs.declared.desc.ClassDesc.{ClassDesc}
use Rattle.mof_metamodel.specs.declared.desc.PropDesc.{PropDesc}
use Rattle.example_models.specs.Descriptions.{optional, one, many, parts, class_under, named_class}

abbrev pub package_class : ClassDesc
package_class = class_under (codes "Package") (codes "Named") (parts (codes "classes") (codes "Class") (codes "owner") ∷ [])

abbrev pub class_props : List PropDesc
class_props =
    one (codes "owner") (codes "Package") (codes "classes")
    ∷ optional (codes "kind") (codes "String")
    ∷ optional (codes "parent") (codes "Class")
    ∷ many (codes "uses") (codes "Class") (codes "usedBy")
    ∷ many (codes "usedBy") (codes "Class") (codes "uses")
    ∷ parts (codes "attrs") (codes "Attr") (codes "owner")
    ∷ []

abbrev pub class_class : ClassDesc
class_class = class_under (codes "Class") (codes "Named") class_props

abbrev pub attr_props : List PropDesc
attr_props =
    one (codes "owner") (codes "Class") (codes "attrs")
    ∷ optional (codes "prim") (codes "String")
    ∷ optional (codes "ref") (codes "Class")
    ∷ []

abbrev pub attr_class : ClassDesc
attr_class = class_under (codes "Attr") (codes "Named") attr_props

abbrev pub cls_classes : List ClassDesc
cls_classes = named_class ∷ package_class ∷ class_class ∷ attr_class ∷ []

abbrev pub cls_desc : MetaDesc
cls_desc = record { name = codes "Cls"; classes = cls_classes; enums = [] }
