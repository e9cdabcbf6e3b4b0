-- The tree of elements that a model is written as (XMI 2.5.1, clause 9). An object's element has its identifier, its class, its single
-- values and its partners as attributes. Many values and contained objects are child elements, each on a line of its own.
use Rattle.std.specs.Prelude.{ℕ, zero, suc, List, [], ◌∷◌, map, codes}
use Rattle.std.specs.List.{flat_map}
use Rattle.mof_metamodel.specs.declared.desc.MetaDesc.{MetaDesc}
use Rattle.object_tables.specs.declared.limit.TheConstants.{MAX_DEPTH}
use Rattle.object_tables.specs.declared.value.Value.{Value}
use Rattle.object_tables.specs.Models.{ModelData, values_at, partners_at}
use Rattle.xmi_text.specs.Trees.{Nodes, Ends, Run, Element, Tree}
use Rattle.xmi_text.specs.Writing.{line_end}
use Rattle.model_assembly.specs.declared.form.Form.{Form}
use Rattle.model_assembly.specs.declared.form.Form.TheVariants as forms
use Rattle.model_assembly.specs.Attributes.{Attrs}
use Rattle.xmi_profile.specs.Canon.{value_text, spaced, typed_name, depth_over, top_numbers}
use Rattle.model_assembly.specs.Forms.{form_of}
use Rattle.model_assembly.specs.Profile.{xmi_namespace, xmi_version, xmi_document, xmi_id, xmi_type, prop_name, id_text, object_props}

-- Attributes

abbrev pub value_pair : MetaDesc → ℕ → List Value → Attrs
value_pair meta p [] = []
value_pair meta p (v ∷ vs) = (prop_name meta p, value_text meta v) ∷ []

abbrev pub partners_pair : ModelData → ℕ → List ℕ → Attrs
partners_pair m p [] = []
partners_pair m p (b ∷ bs) = (prop_name m.meta p, spaced (map (id_text m) (b ∷ bs))) ∷ []

abbrev pub pair_by : ModelData → ℕ → ℕ → Form → Attrs
pair_by m o p forms.Attribute = value_pair m.meta p (values_at m o p)
pair_by m o p forms.Identifiers = partners_pair m p (partners_at m o p)
pair_by m o p forms.Elements = []
pair_by m o p forms.Parts = []
pair_by m o p forms.Nesting = []

-- the attribute of a property, where it has one
abbrev pub pair_at : ModelData → ℕ → ℕ → Attrs
pair_at m o p = pair_by m o p (form_of m.meta p)

abbrev pub object_attrs : ModelData → ℕ → Attrs
object_attrs m o = (xmi_id, id_text m o) ∷ (xmi_type, typed_name m o) ∷ flat_map (pair_at m o) (object_props m o)

-- Child elements

-- nodes of each item, before others
abbrev pub each_before : {X : Type 0} → (X → Nodes → Nodes) → List X → Nodes → Nodes
each_before f [] more = more
each_before f (x ∷ xs) more = f x (each_before f xs more)

-- a text, where it has a character
abbrev pub text_nodes : List ℕ → Nodes
text_nodes [] = Ends
text_nodes (c ∷ cs) = Run (c ∷ cs) Ends

-- the element of one value of many
abbrev pub value_nodes : MetaDesc → ℕ → ℕ → Value → Nodes → Nodes
value_nodes meta depth p v more = Run (line_end depth) (Element (prop_name meta p) [] (text_nodes (value_text meta v)) more)

-- the elements of a property, given those of a contained object
abbrev pub nodes_by : ModelData → ℕ → (List ℕ → ℕ → Nodes → Nodes) → ℕ → ℕ → Form → Nodes → Nodes
nodes_by m depth part o p forms.Elements more = each_before (value_nodes m.meta depth p) (values_at m o p) more
nodes_by m depth part o p forms.Parts more = each_before (part (prop_name m.meta p)) (partners_at m o p) more
nodes_by m depth part o p forms.Attribute more = more
nodes_by m depth part o p forms.Identifiers more = more
nodes_by m depth part o p forms.Nesting more = more

abbrev pub child_nodes : ModelData → ℕ → (List ℕ → ℕ → Nodes → Nodes) → ℕ → ℕ → Nodes → Nodes
child_nodes m depth part o p more = nodes_by m depth part o p (form_of m.meta p) more

-- none where there is none, and else others
abbrev pub unless_none : Nodes → Nodes → Nodes
unless_none Ends others = Ends
unless_none (Run characters more) others = others
unless_none (Element name attrs inner more) others = others

-- child elements, and behind them the line on which their element ends, where there are some
abbrev pub lined : ℕ → (Nodes → Nodes) → Nodes
lined depth children = unless_none (children Ends) (children (Run (line_end depth) Ends))

-- Objects

-- an object's element of this name before others, where it and its parts may nest so many levels deep
abbrev pub object_nodes : ModelData → ℕ → List ℕ → ℕ → Nodes → Nodes
object_nodes m zero element o more = more
object_nodes m (suc levels) element o more =
    Run (line_end (depth_over levels))
    (Element element (object_attrs m o)
    (lined (depth_over levels) (each_before (child_nodes m (suc (depth_over levels)) (object_nodes m levels) o) (object_props m o))) more)

abbrev pub top_nodes : ModelData → ℕ → Nodes → Nodes
top_nodes m o more = object_nodes m MAX_DEPTH (typed_name m o) o more

-- the whole tree: the document, with the elements of the objects that nothing contains, by number
abbrev pub written_tree : ModelData → Tree
written_tree m = record {
  name = xmi_document;
  attrs = (codes "xmi:version", xmi_version) ∷ (codes "xmlns:xmi", xmi_namespace) ∷ (codes "xmlns:m", m.meta.name) ∷ [];
  inner = each_before (top_nodes m) (top_numbers m) (Run (line_end 0) Ends);
}
