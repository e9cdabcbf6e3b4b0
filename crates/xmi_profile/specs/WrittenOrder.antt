-- The objects of a model in the order in which their elements are written (XMI 2.5.1, clause 9): the objects that nothing contains by
-- number, each followed by its parts in the order of its class's properties and of its partners.
use Rattle.std.specs.Prelude.{ℕ, zero, suc, List, [], ◌∷◌}
use Rattle.std.specs.List.{flat_map}
use Rattle.object_tables.specs.declared.limit.TheConstants.{MAX_DEPTH}
use Rattle.object_tables.specs.Models.{ModelData, partners_at}
use Rattle.model_assembly.specs.declared.form.Form.{Form}
use Rattle.model_assembly.specs.declared.form.Form.TheVariants as forms
use Rattle.xmi_profile.specs.Canon.{top_numbers}
use Rattle.model_assembly.specs.Forms.{form_of}
use Rattle.model_assembly.specs.Profile.{object_props}

abbrev pub parts_by : ModelData → ℕ → ℕ → Form → List ℕ
parts_by m o p forms.Parts = partners_at m o p
parts_by m o p forms.Attribute = []
parts_by m o p forms.Elements = []
parts_by m o p forms.Identifiers = []
parts_by m o p forms.Nesting = []

-- the objects that an object contains by a property
abbrev pub parts_at : ModelData → ℕ → ℕ → List ℕ
parts_at m o p = parts_by m o p (form_of m.meta p)

-- and by any
abbrev pub parts_of : ModelData → ℕ → List ℕ
parts_of m o = flat_map (parts_at m o) (object_props m o)

-- an object and its parts, which nest so many levels deep
abbrev pub order_of : ModelData → ℕ → ℕ → List ℕ
order_of m zero o = []
order_of m (suc levels) o = o ∷ flat_map (order_of m levels) (parts_of m o)

-- all objects
abbrev pub written_order : ModelData → List ℕ
written_order m = flat_map (order_of m MAX_DEPTH) (top_numbers m)
