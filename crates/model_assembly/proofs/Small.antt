-- A small metamodel, a class Class with name, uses and usedBy, and a model of it.
use Rattle.std.specs.Prelude.{ℕ, Bool, true, false, List, [], ◌∷◌, codes, Option, None, Some}
use Rattle.mof_metamodel.specs.declared.desc.MetaDesc.{MetaDesc}
use Rattle.mof_metamodel.specs.declared.desc.PropDesc.{PropDesc}
use Rattle.mof_metamodel.specs.declared.desc.OppDesc.{OppDesc}
use Rattle.object_tables.specs.declared.value.Value.TheVariants as values
use Rattle.object_tables.specs.Objects.{Object, Slot}
use Rattle.object_tables.specs.Models.{ModelData, no_slot}

abbrev pub opposite : List ℕ → Option OppDesc
opposite name = Some (record { class = codes "Class"; prop = name })

abbrev pub data_prop : List ℕ → ℕ → Option ℕ → PropDesc
data_prop name lower upper = record { name = name; type_name = codes "String"; lower = lower; upper = upper; composite = false; ordered = false; opposite = None }

abbrev pub reference : List ℕ → Option OppDesc → PropDesc
reference name opp = record { name = name; type_name = codes "Class"; lower = 0; upper = None; composite = false; ordered = false; opposite = opp }

abbrev pub cls : MetaDesc
cls = record {
  name = codes "Cls";
  classes = record {
    name = codes "Class";
    is_abstract = false;
    supers = [];
    props = data_prop (codes "name") 1 (Some 1) ∷ reference (codes "uses") (opposite (codes "usedBy")) ∷ reference (codes "usedBy") (opposite (codes "uses")) ∷ [];
  } ∷ [];
  enums = [];
}

abbrev pub text_slot : List ℕ → Slot
text_slot text = record { values = values.Str text ∷ []; partners = [] }

abbrev pub link_slot : List ℕ → Slot
link_slot numbers = record { values = []; partners = numbers }

abbrev pub object : List ℕ → List Slot → Option Object
object id slots = Some (record { class = 0; id = id; slots = slots })

-- one class that uses another, whose name has a line feed and a sign of markup
abbrev pub two_classes : ModelData
two_classes = record {
  meta = cls;
  objects =
      object (codes "c1") (text_slot (codes "A") ∷ link_slot (1 ∷ []) ∷ no_slot ∷ [])
      ∷ object (codes "_1") (text_slot (66 ∷ 10 ∷ 38 ∷ []) ∷ no_slot ∷ link_slot (0 ∷ []) ∷ [])
      ∷ [];
}

-- a class Box with tags, and parts whose owner it is
abbrev pub box_reference : List ℕ → Option ℕ → Bool → List ℕ → PropDesc
box_reference name upper composite opp = record {
  name = name;
  type_name = codes "Box";
  lower = 0;
  upper = upper;
  composite = composite;
  ordered = false;
  opposite = Some (record { class = codes "Box"; prop = opp });
}

abbrev pub boxes : MetaDesc
boxes = record {
  name = codes "Boxes";
  classes = record {
    name = codes "Box";
    is_abstract = false;
    supers = [];
    props =
        data_prop (codes "tags") 0 None ∷ box_reference (codes "parts") None true (codes "owner")
        ∷ box_reference (codes "owner") (Some 1) false (codes "parts") ∷ [];
  } ∷ [];
  enums = [];
}

-- a box that has an empty tag, another tag, and a part
abbrev pub box_in_box : ModelData
box_in_box = record {
  meta = boxes;
  objects =
      object (codes "c") (no_slot ∷ no_slot ∷ link_slot (1 ∷ []) ∷ [])
      ∷ object (codes "b") (record { values = values.Str [] ∷ values.Str (codes "x") ∷ []; partners = [] } ∷ link_slot (0 ∷ []) ∷ no_slot ∷ [])
      ∷ [];
}
