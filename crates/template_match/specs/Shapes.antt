-- What the templates of a side ask of the objects of their variables alone: the class, and that nothing stands at a property (QVT 1.3,
-- section 7.11.2).
use Rattle.std.specs.Prelude.{ℕ, Bool, List, [], ◌∷◌, if◌then◌else◌}
use Rattle.std.specs.List.{flat_map}
use Rattle.std.specs.Option.{option_map_or}
use Rattle.mof_metamodel.specs.declared.desc.PropId.{PropId}
use Rattle.qv_syntax.specs.declared.program.Program.{Program}
use Rattle.qv_syntax.specs.declared.program.Rel.{Rel}
use Rattle.qv_syntax.specs.declared.program.Dom.{Dom}
use Rattle.qv_syntax.specs.declared.program.Tmpl.{Tmpl, fold-Tmpl}
use Rattle.qv_syntax.specs.declared.program.Item.{Item, fold-Item}
use Rattle.qv_syntax.specs.declared.program.ItemValue.{ItemValue, fold-ItemValue}
use Rattle.qv_syntax.specs.declared.program.ItemValue.TheOpen as layers
use Rattle.qvtr_semantics.specs.declared.datum.Datum.{Datum}
use Rattle.qvtr_semantics.specs.Objects.{Setting, held_at}
use Rattle.qvtr_semantics.specs.Templates.{is_empty_slot, is_of_class}
use Rattle.template_match.specs.declared.side.Side.{Side}
use Rattle.template_match.specs.declared.shape.Feature.{Feature}
use Rattle.template_match.specs.declared.shape.Feature.TheVariants.{Class, Empty}
use Rattle.template_match.specs.declared.shape.Shape.{Shape}
use Rattle.template_match.specs.Sides.{is_of_side}

-- ---- of a value, by the variable and the property; of an item, by the variable; of a template

abbrev pub value_shapes : layers.ItemValue-F (ℕ → PropId → List Shape) (ℕ → List Shape) (List Shape) → ℕ → PropId → List Shape
value_shapes layers.Null u prop = record { holder = u; feature = Empty prop } ∷ []
value_shapes (layers.Expr e) u prop = []
value_shapes (layers.Nested t) u prop = t

abbrev pub item_shapes : layers.Item-F (ℕ → PropId → List Shape) (ℕ → List Shape) (List Shape) → ℕ → List Shape
item_shapes i u = i.value u i.prop

abbrev pub tmpl_shapes : layers.Tmpl-F (ℕ → PropId → List Shape) (ℕ → List Shape) (List Shape) → List Shape
tmpl_shapes t = record { holder = t.var; feature = Class t.class } ∷ flat_map (λ f. f t.var) t.items

abbrev pub shapes_in : Tmpl → List Shape
shapes_in = fold-Tmpl (ℕ → PropId → List Shape) (ℕ → List Shape) (List Shape) value_shapes item_shapes tmpl_shapes

abbrev pub shapes_in_item : Item → ℕ → List Shape
shapes_in_item = fold-Item (ℕ → PropId → List Shape) (ℕ → List Shape) (List Shape) value_shapes item_shapes tmpl_shapes

abbrev pub shapes_in_value : ItemValue → ℕ → PropId → List Shape
shapes_in_value = fold-ItemValue (ℕ → PropId → List Shape) (ℕ → List Shape) (List Shape) value_shapes item_shapes tmpl_shapes

-- those of the templates of a side's domains
abbrev pub domain_shapes : Side → Program → Dom → List Shape
domain_shapes side program dom = if is_of_side side program dom then option_map_or shapes_in dom.template [] else []

abbrev pub side_shapes : Side → Program → Rel → List Shape
side_shapes side program rel = flat_map (domain_shapes side program) rel.domains

-- ---- which objects have it

abbrev pub has_feature : Setting → Datum → Feature → Bool
has_feature s d (Class class) = is_of_class s class.0 d
has_feature s d (Empty prop) = is_empty_slot (held_at s d prop.0)
