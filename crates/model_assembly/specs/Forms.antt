-- How a property is written in an object's element (XMI 2.5.1, clause 9): values as attributes or as child elements, references as
-- attributes of identifiers, and contained objects as child elements.
use Rattle.std.specs.Prelude.{ℕ, ◌==◌, Bool, false, Option, None, Some, if◌then◌else◌}
use Rattle.mof_metamodel.specs.declared.desc.MetaDesc.{MetaDesc}
use Rattle.mof_metamodel.specs.Metamodels.{prop_at, type_of, opposite_of}
use Rattle.object_tables.specs.Models.{is_class_type}
use Rattle.model_assembly.specs.declared.form.Form.{Form}
use Rattle.model_assembly.specs.declared.form.Form.TheVariants.{Attribute, Elements, Identifiers, Parts, Nesting}

-- at most one value or partner (UML 2.5.1, 7.5.3)
abbrev pub is_one : Option ℕ → Bool
is_one None = false
is_one (Some upper) = upper == 1

-- the opposite is composite (UML 2.5.1, 9.5.3)
abbrev pub is_composite : MetaDesc → Option ℕ → Bool
is_composite meta None = false
is_composite meta (Some p) = (prop_at meta p).composite

abbrev pub attribute_form : MetaDesc → ℕ → Form
attribute_form meta p = if is_one (prop_at meta p).upper then Attribute else Elements

abbrev pub reference_form : MetaDesc → ℕ → Form
reference_form meta p =
    if (prop_at meta p).composite then Parts
    else if is_composite meta (opposite_of meta p) then Nesting
    else Identifiers

abbrev pub form_of : MetaDesc → ℕ → Form
form_of meta p = if is_class_type (type_of meta p) then reference_form meta p else attribute_form meta p
