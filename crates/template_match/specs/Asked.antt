-- What is asked of the slots of objects: by the items of a side's templates (QVT 1.3, section 7.11.2.3), and by the conditions and equations
-- of its clause (section 7.11.1.4) that compare `x.p`, a property of one value at most, with something else. An item's expression that is a
-- variable alone is told by a link.
use Rattle.std.specs.Prelude.{ℕ, List, [], ◌∷◌, ◌++◌, map, Option, None, Some, if◌then◌else◌}
use Rattle.std.specs.List.{flat_map}
use Rattle.std.specs.Option.{option_map, option_map_or}
use Rattle.mof_metamodel.specs.declared.desc.PropId.{PropId}
use Rattle.qv_syntax.specs.declared.operator.Operator.{Operator}
use Rattle.qv_syntax.specs.declared.operator.Operator.TheVariants as operators
use Rattle.qv_syntax.specs.declared.typed.Typed.{Typed}
use Rattle.qv_syntax.specs.declared.typed.Node.{Node, out-Node}
use Rattle.qv_syntax.specs.declared.typed.Call.{Call, out-Call}
use Rattle.qv_syntax.specs.declared.typed.Call.TheOpen as nodes
use Rattle.qv_syntax.specs.declared.typed.TypedInfix.{TypedInfix}
use Rattle.qv_syntax.specs.declared.typed.TypedPostfix.{TypedPostfix}
use Rattle.qv_syntax.specs.declared.typed.Values.TheVariants.{Single}
use Rattle.qv_syntax.specs.declared.program.Program.{Program}
use Rattle.qv_syntax.specs.declared.program.Rel.{Rel}
use Rattle.qv_syntax.specs.declared.program.Dom.{Dom}
use Rattle.qv_syntax.specs.declared.program.Tmpl.{Tmpl, fold-Tmpl}
use Rattle.qv_syntax.specs.declared.program.Item.{Item, fold-Item}
use Rattle.qv_syntax.specs.declared.program.ItemValue.{ItemValue, fold-ItemValue}
use Rattle.qv_syntax.specs.declared.program.ItemValue.TheOpen as layers
use Rattle.qv_syntax.specs.declared.program.Conj.{Conj}
use Rattle.qv_syntax.specs.declared.program.Conj.TheVariants as conjuncts
use Rattle.template_match.specs.declared.side.Side.{Side}
use Rattle.template_match.specs.declared.asked.AskedBy.{AskedBy}
use Rattle.template_match.specs.declared.asked.AskedBy.TheVariants as askers
use Rattle.template_match.specs.declared.asked.Asked.{Asked}
use Rattle.template_match.specs.Links.{variable_alone}
use Rattle.template_match.specs.Sides.{clause_of, is_of_side}

-- what asks: an item with its expression, a condition with its other side, an equation with its variable
pub data Asker : Type 0 where
  item : Typed → Asker
  condition : Typed → Asker
  equation : ℕ → Asker

-- the value of that stands in the slot of the object of the variable
pub record AskedValue : Type 0 where
  pub holder : ℕ
  pub prop : PropId
  pub by : Asker

abbrev pub asker_of : AskedBy → Asker
asker_of (askers.Item e) = Asker.item e.now
asker_of (askers.Condition e) = Asker.condition e.now
asker_of (askers.Equation v) = Asker.equation v

abbrev pub asked_value : Asked → AskedValue
asked_value asked = record { holder = asked.holder; prop = asked.prop; by = asker_of asked.by }

abbrev pub asked_values : List Asked → List AskedValue
asked_values asked = map asked_value asked

abbrev pub asked_unless : Option ℕ → ℕ → PropId → Typed → List AskedValue
asked_unless None u prop e = record { holder = u; prop = prop; by = Asker.item e } ∷ []
asked_unless (Some v) u prop e = []

abbrev pub own_asked : ℕ → PropId → Typed → List AskedValue
own_asked u prop e = asked_unless (variable_alone (out-Node e.node)) u prop e

-- of a value, by the variable and the property; of an item, by the variable; of a template
abbrev pub value_asked : layers.ItemValue-F (ℕ → PropId → List AskedValue) (ℕ → List AskedValue) (List AskedValue) → ℕ → PropId → List AskedValue
value_asked layers.Null u prop = []
value_asked (layers.Expr e) u prop = own_asked u prop e
value_asked (layers.Nested t) u prop = t

abbrev pub item_asked : layers.Item-F (ℕ → PropId → List AskedValue) (ℕ → List AskedValue) (List AskedValue) → ℕ → List AskedValue
item_asked i u = i.value u i.prop

abbrev pub tmpl_asked : layers.Tmpl-F (ℕ → PropId → List AskedValue) (ℕ → List AskedValue) (List AskedValue) → List AskedValue
tmpl_asked t = flat_map (λ f. f t.var) t.items

abbrev pub asked_in : Tmpl → List AskedValue
asked_in = fold-Tmpl (ℕ → PropId → List AskedValue) (ℕ → List AskedValue) (List AskedValue) value_asked item_asked tmpl_asked

abbrev pub asked_in_item : Item → ℕ → List AskedValue
asked_in_item = fold-Item (ℕ → PropId → List AskedValue) (ℕ → List AskedValue) (List AskedValue) value_asked item_asked tmpl_asked

abbrev pub asked_in_value : ItemValue → ℕ → PropId → List AskedValue
asked_in_value = fold-ItemValue (ℕ → PropId → List AskedValue) (ℕ → List AskedValue) (List AskedValue) value_asked item_asked tmpl_asked

-- those of the templates of a side's domains
abbrev pub domain_asked : Side → Program → Dom → List AskedValue
domain_asked side program dom = if is_of_side side program dom then option_map_or asked_in dom.template [] else []

-- ---- `x.p` alone: x and p

abbrev pub single_prop : nodes.Call-F Call Node Typed TypedInfix TypedPostfix → Option PropId
single_prop (nodes.Property prop Single) = Some prop
single_prop call = None

abbrev pub slot_by : Option ℕ → List TypedPostfix → Option (ℕ × PropId)
slot_by (Some x) (step ∷ []) = option_map (λ prop. (x, prop)) (single_prop (out-Call step.call))
slot_by x steps = None

abbrev pub slot_alone : nodes.Node-F Call Node Typed TypedInfix TypedPostfix → Option (ℕ × PropId)
slot_alone (nodes.Calls part steps) = slot_by (variable_alone (out-Node part.node)) steps
slot_alone d = None

-- ---- conditions `x.p = e` and `e = x.p`, equations `v = x.p`

abbrev pub asked_at : Option (ℕ × PropId) → Asker → List AskedValue
asked_at None by = []
asked_at (Some slot) by = record { holder = slot.0; prop = slot.1; by = by } ∷ []

abbrev pub compared_by : Operator → Typed → Typed → List AskedValue
compared_by operators.Equal one other = asked_at (slot_alone (out-Node one.node)) (Asker.condition other) ++ asked_at (slot_alone (out-Node other.node)) (Asker.condition one)
compared_by o one other = []

abbrev pub chain_asked : Typed → List TypedInfix → List AskedValue
chain_asked first (link ∷ []) = compared_by link.operator first link.right
chain_asked first links = []

abbrev pub condition_asked : nodes.Node-F Call Node Typed TypedInfix TypedPostfix → List AskedValue
condition_asked (nodes.Chain first rest) = chain_asked first rest
condition_asked d = []

abbrev pub conjunct_asked : Conj → List AskedValue
conjunct_asked (conjuncts.Cond e) = condition_asked (out-Node e.node)
conjunct_asked (conjuncts.Equation v e) = asked_at (slot_alone (out-Node e.node)) (Asker.equation v)
conjunct_asked (conjuncts.Call rel args) = []

-- ---- what a side asks by its templates and its clause

abbrev pub side_asked : Side → Program → Rel → List AskedValue
side_asked side program rel = flat_map (domain_asked side program) rel.domains ++ flat_map conjunct_asked (clause_of side rel)
