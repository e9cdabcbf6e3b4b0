-- Words of the profile, and a model by the names of its metamodel (XMI 2.5.1, clause 7; MOF 2.5.1, 12.4).
use Rattle.std.specs.Prelude.{ℕ, ◌&&◌, Bool, nat_eq, is_some, List, [], filter, length, codes, Option, None, Some}
use Rattle.std.specs.List.{list_any, range_with_len}
use Rattle.mof_metamodel.specs.declared.desc.MetaDesc.{MetaDesc}
use Rattle.mof_metamodel.specs.Metamodels.{props_of, prop_at, class_at as meta_class}
use Rattle.object_tables.specs.Models.{ModelData, object_at, class_at, id_at, partners_at}

-- the namespace of XMI 2.5.1, and its version
abbrev pub xmi_namespace : List ℕ
xmi_namespace = codes "http://www.omg.org/spec/XMI/20131001"

abbrev pub xmi_version : List ℕ
xmi_version = codes "20131001"

-- names of elements and attributes of the namespace
abbrev pub xmi_document : List ℕ
xmi_document = codes "xmi:XMI"

abbrev pub xmi_id : List ℕ
xmi_id = codes "xmi:id"

abbrev pub xmi_type : List ℕ
xmi_type = codes "xmi:type"

abbrev pub prop_name : MetaDesc → ℕ → List ℕ
prop_name meta p = (prop_at meta p).name

abbrev pub class_name : MetaDesc → ℕ → List ℕ
class_name meta c = (meta_class meta c).name

-- the identifier, or an empty text where the object is gone
abbrev pub id_or_none : Option (List ℕ) → List ℕ
id_or_none None = []
id_or_none (Some id) = id

abbrev pub id_text : ModelData → ℕ → List ℕ
id_text m o = id_or_none (id_at m o)

-- the name of an object's class
abbrev pub name_or_none : MetaDesc → Option ℕ → List ℕ
name_or_none meta None = []
name_or_none meta (Some c) = class_name meta c

abbrev pub class_text : ModelData → ℕ → List ℕ
class_text m o = name_or_none m.meta (class_at m o)

-- the properties of an object's class in class order
abbrev pub props_or_none : MetaDesc → Option ℕ → List ℕ
props_or_none meta None = []
props_or_none meta (Some c) = props_of meta c

abbrev pub object_props : ModelData → ℕ → List ℕ
object_props m o = props_or_none m.meta (class_at m o)

-- the objects by number
abbrev pub live_numbers : ModelData → List ℕ
live_numbers m = filter (λ o. is_some (object_at m o)) (range_with_len 0 (length m.objects))

-- an object contains another by this property
abbrev pub contains_by : ModelData → ℕ → ℕ → ℕ → Bool
contains_by m o a p = (prop_at m.meta p).composite && list_any (nat_eq o) (partners_at m a p)

-- an object has a container
abbrev pub is_part : ModelData → ℕ → Bool
is_part m o = list_any (λ a. list_any (contains_by m o a) (object_props m a)) (live_numbers m)
