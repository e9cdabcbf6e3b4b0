-- The links of a template: which variable's value stands in which slot of which variable's object (QVT 1.3, section 7.11.2).
use Rattle.std.specs.Prelude.{ℕ, List, [], ◌∷◌, ◌++◌, Option, None, Some}
use Rattle.std.specs.List.{flat_map}
use Rattle.std.specs.Option.{option_map_or}
use Rattle.mof_metamodel.specs.declared.desc.PropId.{PropId}
use Rattle.qv_syntax.specs.declared.typed.Typed.{Typed}
use Rattle.qv_syntax.specs.declared.typed.Node.{Node, out-Node}
use Rattle.qv_syntax.specs.declared.typed.Call.{Call}
use Rattle.qv_syntax.specs.declared.typed.Call.TheOpen as nodes
use Rattle.qv_syntax.specs.declared.typed.TypedInfix.{TypedInfix}
use Rattle.qv_syntax.specs.declared.typed.TypedPostfix.{TypedPostfix}
use Rattle.qv_syntax.specs.declared.program.Program.{Program}
use Rattle.qv_syntax.specs.declared.program.Rel.{Rel}
use Rattle.qv_syntax.specs.declared.program.Dom.{Dom}
use Rattle.qv_syntax.specs.declared.program.Tmpl.{Tmpl, fold-Tmpl}
use Rattle.qv_syntax.specs.declared.program.Item.{Item, fold-Item}
use Rattle.qv_syntax.specs.declared.program.ItemValue.{ItemValue, fold-ItemValue}
use Rattle.qv_syntax.specs.declared.program.ItemValue.TheOpen as layers
use Rattle.template_match.specs.declared.side.Side.{Side}
use Rattle.template_match.specs.declared.link.Link.{Link}
use Rattle.template_match.specs.Sides.{is_of_side}
use Rattle.std.specs.Prelude.{if◌then◌else◌}

-- the variable that the expression is
abbrev pub variable_alone : nodes.Node-F Call Node Typed TypedInfix TypedPostfix → Option ℕ
variable_alone (nodes.Variable number) = Some number
variable_alone d = None

-- the variable whose value stands in the slot, and the links of templates within
pub record Held : Type 0 where
  pub var : Option ℕ
  pub links : List Link

-- a template's variable, and its links
pub record Linked : Type 0 where
  pub var : ℕ
  pub links : List Link

abbrev pub own_link : ℕ → PropId → Option ℕ → List Link
own_link u prop None = []
own_link u prop (Some v) = record { holder = u; prop = prop; variable = v } ∷ []

abbrev pub value_links : layers.ItemValue-F Held (ℕ → List Link) Linked → Held
value_links layers.Null = record { var = None; links = [] }
value_links (layers.Expr e) = record { var = variable_alone (out-Node e.node); links = [] }
value_links (layers.Nested t) = record { var = Some t.var; links = t.links }

abbrev pub item_links : layers.Item-F Held (ℕ → List Link) Linked → ℕ → List Link
item_links i u = own_link u i.prop i.value.var ++ i.value.links

abbrev pub tmpl_links : layers.Tmpl-F Held (ℕ → List Link) Linked → Linked
tmpl_links t = record { var = t.var; links = flat_map (λ f. f t.var) t.items }

abbrev pub linked : Tmpl → Linked
linked = fold-Tmpl Held (ℕ → List Link) Linked value_links item_links tmpl_links

abbrev pub links_of_item : Item → ℕ → List Link
links_of_item = fold-Item Held (ℕ → List Link) Linked value_links item_links tmpl_links

abbrev pub held_in : ItemValue → Held
held_in = fold-ItemValue Held (ℕ → List Link) Linked value_links item_links tmpl_links

abbrev pub links_of : Tmpl → List Link
links_of t = (linked t).links

-- the links of the templates of a side's domains
abbrev pub domain_links : Side → Program → Dom → List Link
domain_links side program dom = if is_of_side side program dom then option_map_or links_of dom.template [] else []

abbrev pub side_links : Side → Program → Rel → List Link
side_links side program rel = flat_map (domain_links side program) rel.domains
