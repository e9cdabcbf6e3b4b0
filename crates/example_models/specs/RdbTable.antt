-- The metamodel Rdb: schemas of tables, which have columns; remarks and audits; folders in folders. A bound that isn't written is
-- 0..1, `parts` are 0..*, and no property is ordered.
use Rattle.std.specs.Prelude.{false, List, [], ◌∷◌, codes}
use Rattle.mof_metamodel.specs.declared.desc.MetaDesc.{MetaDesc}
use Rattle.mof_metamodel.specs.declared.desc.ClassDesc.{ClassDesc}
use Rattle.mof_metamodel.specs.declared.desc.PropDesc.{PropDesc}
use Rattle.example_models.specs.Descriptions.{optional, required, one, parts, class_with, class_under, named_class}

abbrev pub schema_class : ClassDesc
schema_class = class_under (codes "Schema") (codes "Named") (parts (codes "tables") (codes "Table") (codes "schema") ∷ [])

abbrev pub table_props : List PropDesc
table_props =
    one (codes "schema") (codes "Schema") (codes "tables")
    ∷ optional (codes "kind") (codes "String")
    ∷ optional (codes "note") (codes "String")
    ∷ parts (codes "columns") (codes "Column") (codes "table")
    ∷ []

abbrev pub table_class : ClassDesc
table_class = class_under (codes "Table") (codes "Named") table_props

abbrev pub column_class : ClassDesc
column_class =
    class_under (codes "Column") (codes "Named")
    (one (codes "table") (codes "Table") (codes "columns") ∷ optional (codes "type") (codes "String") ∷ [])

abbrev pub remark_class : ClassDesc
remark_class = class_with (codes "Remark") false (optional (codes "text") (codes "String") ∷ [])

abbrev pub audit_class : ClassDesc
audit_class = class_under (codes "Audit") (codes "Named") (required (codes "by") (codes "String") ∷ [])

abbrev pub folder_class : ClassDesc
folder_class =
    class_under (codes "Folder") (codes "Named")
    (parts (codes "sub") (codes "Folder") (codes "up") ∷ one (codes "up") (codes "Folder") (codes "sub") ∷ [])

abbrev pub rdb_classes : List ClassDesc
rdb_classes = named_class ∷ schema_class ∷ table_class ∷ column_class ∷ remark_class ∷ audit_class ∷ folder_class ∷ []

abbrev pub rdb_desc : MetaDesc
rdb_desc = record { name = codes "Rdb"; classes = rdb_classes; enums = [] }
