-- How types are printed, and how a path is.
use Rattle.std.specs.Prelude.{ℕ, List, [], ◌∷◌, ◌++◌, codes, map}
use Rattle.std.specs.List.{flat_map}
use Rattle.qv_syntax.specs.declared.name.Name.{Name}
use Rattle.mof_metamodel.specs.declared.desc.MetaDesc.{MetaDesc}
use Rattle.mof_metamodel.specs.Metamodels.{class_at, enum_at}
use Rattle.qv_syntax.specs.declared.ty.Ty.{Ty, fold-Ty}
use Rattle.qv_syntax.specs.declared.ty.Ty.TheOpen as of
use Rattle.qv_syntax.specs.declared.type_tree.Kind.{Kind}
use Rattle.qv_syntax.specs.declared.type_tree.Kind.TheVariants as kinds
use Rattle.qv_syntax.specs.declared.name.Path.{Path}
use Rattle.ocl_environments.specs.Environments.{meta_at}

abbrev pub kind_text : Kind → List ℕ
kind_text kinds.Set = codes "Set"
kind_text kinds.Bag = codes "Bag"
kind_text kinds.Sequence = codes "Sequence"
kind_text kinds.OrderedSet = codes "OrderedSet"

-- a type as it is written, classes and enumerations by their names
abbrev pub type_text_step : List MetaDesc → of.Ty-F (List ℕ) → List ℕ
type_text_step metas of.Str = codes "String"
type_text_step metas of.Int = codes "Integer"
type_text_step metas of.Bool = codes "Boolean"
type_text_step metas (of.Enum m e) = (enum_at (meta_at metas m) e.0).name
type_text_step metas (of.Class m c) = (class_at (meta_at metas m) c.0).name
type_text_step metas (of.Coll kind inner) = kind_text kind ++ codes "(" ++ inner ++ codes ")"
type_text_step metas of.Null = codes "Null"

abbrev pub type_text : List MetaDesc → Ty → List ℕ
type_text metas = fold-Ty (List ℕ) (type_text_step metas)

-- names, each behind `::`
abbrev pub behind_colons : List (List ℕ) → List ℕ
behind_colons names = flat_map (λ name. codes "::" ++ name) names

-- names with `::` between them
abbrev pub joined_names : List (List ℕ) → List ℕ
joined_names [] = []
joined_names (name ∷ names) = name ++ behind_colons names

abbrev pub texts_of : List Name → List (List ℕ)
texts_of names = map (λ n. n.text) names

abbrev pub names_of : Path → List (List ℕ)
names_of path = texts_of path.names

abbrev pub path_text : Path → List ℕ
path_text path = joined_names (names_of path)
