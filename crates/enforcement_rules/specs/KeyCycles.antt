-- Which variables stand in the key values of which, as tests and as edges of a graph.
use Rattle.std.specs.Prelude.{◌||◌, ◌&&◌, ℕ, Bool, false, not, nat_eq, List, [], ◌∷◌, ◌++◌, Option, None, Some, length, if◌then◌else◌}
use Rattle.std.specs.List.{flat_map}
use Rattle.mof_metamodel.specs.declared.desc.MetaDesc.{MetaDesc}
use Rattle.mof_metamodel.specs.Tables.{prop_numbers}
use Rattle.ocl_environments.specs.Environments.{meta_at}
use Rattle.qv_syntax.specs.declared.program.Program.{Program}
use Rattle.qv_syntax.specs.declared.program.Rel.{Rel}
use Rattle.qv_syntax.specs.declared.program.Tmpl.{Tmpl, out-Tmpl}
use Rattle.qv_syntax.specs.declared.program.Item.{Item}
use Rattle.qv_syntax.specs.declared.program.ItemValue.{ItemValue, out-ItemValue}
use Rattle.qv_syntax.specs.declared.program.ItemValue.TheOpen as layers
use Rattle.enforcement_rules.specs.declared.standing.Place.{Place}
use Rattle.enforcement_rules.specs.declared.class_key.ClassKey.{ClassKey}
use Rattle.enforcement_rules.specs.Edges.{Edge, edges_from}
use Rattle.enforcement_rules.specs.KeyTests.{Keys, key_at, key_props, is_made, item_props, opposite_number}
use Rattle.enforcement_rules.specs.Mentions.{variables_of}
use Rattle.enforcement_rules.specs.NumberSets.{is_among}
use Rattle.enforcement_rules.specs.Standings.{Shown}

-- ---- items

abbrev pub no_number : ℕ → Bool
no_number q = false

abbrev pub with_number : (ℕ → Bool) → ℕ → ℕ → Bool
with_number taken p q = nat_eq q p || taken q

-- the property is asked for, and no item before gives it
abbrev pub is_new : (ℕ → Bool) → (ℕ → Bool) → ℕ → Bool
is_new asked taken p = asked p && not (taken p)

abbrev pub value_variables : ℕ → layers.ItemValue-F ItemValue Item Tmpl → List ℕ
value_variables count layers.Null = []
value_variables count (layers.Expr e) = variables_of count e
value_variables count (layers.Nested part) = (out-Tmpl part).var ∷ []

abbrev pub new_variables : ℕ → (ℕ → Bool) → (ℕ → Bool) → Item → List ℕ
new_variables count asked taken item = if is_new asked taken item.prop.0 then value_variables count (out-ItemValue item.value) else []

-- those of the first item at each property that is asked for
abbrev pub item_variables : ℕ → (ℕ → Bool) → (ℕ → Bool) → List Item → List ℕ
item_variables count asked taken [] = []
item_variables count asked taken (item ∷ items) = new_variables count asked taken item ++ item_variables count asked (with_number taken item.prop.0) items

-- ---- the parent

abbrev pub given_parent : (ℕ → Bool) → (ℕ → Bool) → ℕ → ℕ → List ℕ
given_parent asked taken parent p = if is_new asked taken p then parent ∷ [] else []

abbrev pub opposite_parent : (ℕ → Bool) → (ℕ → Bool) → ℕ → Option ℕ → List ℕ
opposite_parent asked taken parent None = []
opposite_parent asked taken parent (Some p) = given_parent asked taken parent p

-- the parent, if the opposite of its property is asked for and no item gives it
abbrev pub parent_variable : MetaDesc → (ℕ → Bool) → (ℕ → Bool) → Option Place → List ℕ
parent_variable desc asked taken None = []
parent_variable desc asked taken (Some place) = opposite_parent asked taken place.parent (opposite_number desc (Some place))

-- ---- templates

module _ (metas : List MetaDesc) (program : Program) (rel : Rel) (meta : ℕ) where
  -- the variables in the key values of a template
  abbrev pub key_variables : Shown → ClassKey → List ℕ
  key_variables s k =
      let asked = is_among (prop_numbers (key_props program k)) in
      item_variables (length rel.vars) asked no_number (out-Tmpl s.0).items ++ parent_variable (meta_at metas meta) asked (is_among (item_props (out-Tmpl s.0).items)) s.1

  abbrev pub class_variables : Shown → Option ClassKey → List ℕ
  class_variables s None = []
  class_variables s (Some k) = key_variables s k

  abbrev pub template_variables : Keys → (ℕ → Bool) → Shown → List ℕ
  template_variables keys existential s = if is_made rel existential s then class_variables s (key_at keys (out-Tmpl s.0).class.0) else []

  abbrev pub template_edges : Keys → (ℕ → Bool) → Shown → List Edge
  template_edges keys existential s = edges_from (out-Tmpl s.0).var (template_variables keys existential s)

  abbrev pub key_edges : Keys → (ℕ → Bool) → List Shown → List Edge
  key_edges keys existential templates = flat_map (template_edges keys existential) templates
