-- What the expressions of a relation say of the target, as tests.
use Rattle.std.specs.Prelude.{ℕ, Bool, true, false, ◌&&◌, ◌||◌, not, is_some, List, Option, None, Some}
use Rattle.std.specs.List.{list_any}
use Rattle.qv_syntax.specs.declared.typed.Typed.{Typed}
use Rattle.qv_syntax.specs.declared.typed.Node.{Node, out-Node}
use Rattle.qv_syntax.specs.declared.typed.Call.{Call}
use Rattle.qv_syntax.specs.declared.typed.Call.TheOpen as nodes
use Rattle.qv_syntax.specs.declared.typed.TypedInfix.{TypedInfix}
use Rattle.qv_syntax.specs.declared.typed.TypedPostfix.{TypedPostfix}
use Rattle.qv_syntax.specs.declared.program.Program.{Program}
use Rattle.qv_syntax.specs.declared.program.Rel.{Rel}
use Rattle.qv_syntax.specs.declared.program.Tmpl.{Tmpl, out-Tmpl}
use Rattle.qv_syntax.specs.declared.program.Item.{Item}
use Rattle.qv_syntax.specs.declared.program.ItemValue.{ItemValue, out-ItemValue}
use Rattle.qv_syntax.specs.declared.program.ItemValue.TheOpen as layers
use Rattle.qv_syntax.specs.declared.program.Conj.{Conj}
use Rattle.qv_syntax.specs.declared.program.Conj.TheVariants as conjuncts
use Rattle.enforcement_rules.specs.declared.mention.Mention.{Mention}
use Rattle.enforcement_rules.specs.declared.mention.Mention.TheVariants as mentions
use Rattle.enforcement_rules.specs.Mentions.{mentions_in}
use Rattle.enforcement_rules.specs.KnownTests.{is_marked}
use Rattle.enforcement_rules.specs.ReaderTests.{is_of_meta}
use Rattle.enforcement_rules.specs.Standings.{Shown}
use Rattle.enforcement_rules.specs.TargetTests.{is_target_variable}

-- the variable that the expression is
abbrev pub variable_alone : nodes.Node-F Call Node Typed TypedInfix TypedPostfix → Option ℕ
variable_alone (nodes.Variable number) = Some number
variable_alone d = None

module _ (program : Program) (rel : Rel) (meta : ℕ) (readers : List Bool) where
  -- what is named is of the target; a variable may stand alone in some places
  abbrev pub is_touch : Bool → Mention → Bool
  is_touch may_stand (mentions.Variable v) = not may_stand && is_target_variable program rel v
  is_touch may_stand (mentions.Query q) = is_marked readers q
  is_touch may_stand (mentions.Extent model) = is_of_meta program meta model

  abbrev pub touches : Bool → Typed → Bool
  touches in_object_place e = list_any (is_touch (in_object_place && is_some (variable_alone (out-Node e.node)))) (mentions_in e)

  abbrev pub value_touches : layers.ItemValue-F ItemValue Item Tmpl → Bool
  value_touches layers.Null = false
  value_touches (layers.Expr e) = touches true e
  value_touches (layers.Nested part) = false

  abbrev pub item_touches : Item → Bool
  item_touches item = value_touches (out-ItemValue item.value)

  abbrev pub template_touches : Shown → Bool
  template_touches s = list_any item_touches (out-Tmpl s.0).items

  abbrev pub conjunct_touches : Conj → Bool
  conjunct_touches (conjuncts.Cond e) = touches false e
  conjunct_touches (conjuncts.Equation v e) = touches false e
  conjunct_touches (conjuncts.Call number args) = list_any (touches true) args

  -- one of the expressions of a relation touches the target, of the templates of its domains
  abbrev pub touches_target : List Shown → Bool
  touches_target templates = (list_any conjunct_touches rel.whens || list_any conjunct_touches rel.wheres) || list_any template_touches templates
