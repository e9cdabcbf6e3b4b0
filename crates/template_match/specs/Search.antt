-- A search for the bindings of one side of a relation: one variable gets a value after another. The value of a variable is taken from a slot
-- of an object that has been chosen, from a conjunct that says what it is, from the objects at one of whose properties a value stands, from
-- rows of tables, or from the objects of its class.
use Rattle.std.specs.Prelude.{ℕ, Bool, true, false, ◌&&◌, List, [], ◌∷◌, map, Option, None, Some, is_some, slice_get, slice_set, if◌then◌else◌}
use Rattle.std.specs.List.{list_any}
use Rattle.mof_metamodel.specs.declared.desc.ClassId.{ClassId}
use Rattle.object_tables.specs.Models.{ModelData}
use Rattle.qv_syntax.specs.declared.ty.Ty.{Ty}
use Rattle.qv_syntax.specs.declared.ty.Ty.TheVariants as types
use Rattle.qv_syntax.specs.declared.operator.Operator.{Operator}
use Rattle.qv_syntax.specs.declared.operator.Operator.TheVariants as operators
use Rattle.qv_syntax.specs.declared.typed.Typed.{Typed}
use Rattle.qv_syntax.specs.declared.typed.Node.{Node, out-Node}
use Rattle.qv_syntax.specs.declared.typed.Call.{Call}
use Rattle.qv_syntax.specs.declared.typed.Call.TheOpen as nodes
use Rattle.qv_syntax.specs.declared.typed.TypedInfix.{TypedInfix}
use Rattle.qv_syntax.specs.declared.typed.TypedPostfix.{TypedPostfix}
use Rattle.qv_syntax.specs.declared.program.Var.{Var}
use Rattle.qv_syntax.specs.declared.program.Conj.{Conj}
use Rattle.qv_syntax.specs.declared.program.Conj.TheVariants as conjuncts
use Rattle.qvtr_semantics.specs.declared.datum.Datum.{Datum}
use Rattle.qvtr_semantics.specs.declared.datum.Datum.TheVariants.{Obj}
use Rattle.qvtr_semantics.specs.declared.binding.Binding.{Binding}
use Rattle.qvtr_semantics.specs.Data.{distinct, in_order}
use Rattle.qvtr_semantics.specs.Objects.{Setting, is_number_among, held_by, object_datum, extent_of}
use Rattle.qvtr_semantics.specs.Expressions.{setting}
use Rattle.qvtr_semantics.specs.Templates.{Values, value_at}
use Rattle.template_match.specs.declared.link.Link.{Link}
use Rattle.template_match.specs.declared.candidates.Candidates.{Candidates}
use Rattle.template_match.specs.declared.candidates.Candidates.TheVariants as places
use Rattle.template_match.specs.Problems.{Problem}
use Rattle.template_match.specs.Joins.{are_joined}
use Rattle.template_match.specs.Rows.{cells_in}
use Rattle.template_match.specs.Ready.{is_ready}
use Rattle.template_match.specs.Links.{variable_alone}
use Rattle.template_match.specs.Sides.{clause_of, meets_side}

abbrev pub sought : Problem → List ℕ
sought p = p.variables

abbrev pub conjuncts_in : Problem → List Conj
conjuncts_in p = clause_of p.side p.rel

-- ---- which variables are open

-- the place of a variable is there and has no value
abbrev pub is_vacant : Option (Option Datum) → Bool
is_vacant (Some None) = true
is_vacant o = false

-- a variable that is sought and has no value yet
abbrev pub is_open : Problem → Values → ℕ → Bool
is_open p a v = is_number_among v (sought p) && is_vacant (slice_get a v)

abbrev pub is_any_open : Problem → Values → Bool
is_any_open p a = list_any (is_open p a) (sought p)

-- ---- what gives a variable values: a link whose object has been chosen

abbrev pub usable_link : Problem → Values → Link → Bool
usable_link p a l = is_open p a l.variable && is_some (value_at a l.holder)

-- ---- a conjunct `v = e`: v and e
abbrev pub saying_by : Operator → Option ℕ → Typed → Option (ℕ × Typed)
saying_by operators.Equal (Some v) e = Some (v, e)
saying_by o v e = None

abbrev pub saying_chain : Typed → List TypedInfix → Option (ℕ × Typed)
saying_chain first (l ∷ []) = saying_by l.operator (variable_alone (out-Node first.node)) l.right
saying_chain first ls = None

abbrev pub saying_node : nodes.Node-F Call Node Typed TypedInfix TypedPostfix → Option (ℕ × Typed)
saying_node (nodes.Chain first rest) = saying_chain first rest
saying_node d = None

abbrev pub saying : Conj → Option (ℕ × Typed)
saying (conjuncts.Equation v e) = Some (v, e)
saying (conjuncts.Cond e) = saying_node (out-Node e.node)
saying (conjuncts.Call rel args) = None

abbrev pub usable_saying : Problem → Values → Option (ℕ × Typed) → Bool
usable_saying p a None = false
usable_saying p a (Some s) = is_open p a s.0 && is_ready a s.1

abbrev pub usable_conjunct : Problem → Values → Conj → Bool
usable_conjunct p a c = usable_saying p a (saying c)

-- the model and the class of a variable for objects
abbrev pub extent_by : Ty → Option ℕ → Option (ℕ × ClassId)
extent_by (types.Class meta class) (Some m) = Some (m, class)
extent_by ty m = None

abbrev pub extent_for : Option Var → Option (ℕ × ClassId)
extent_for None = None
extent_for (Some var) = extent_by var.ty var.model

abbrev pub usable_variable : Problem → Values → ℕ → Bool
usable_variable p a v = is_open p a v && is_some (extent_for (slice_get p.rel.vars v))

-- ---- which values it may have

abbrev pub setting_in : Problem → Setting
setting_in p = setting p.program p.models

abbrev pub some_data : Option (List Datum) → List Datum
some_data None = []
some_data (Some ds) = ds

abbrev pub objects_in : ℕ → ClassId → Option ModelData → List Datum
objects_in m class None = []
objects_in m class (Some model) = map (object_datum m) (extent_of model class.0)

abbrev pub objects_of : List ModelData → Option (ℕ × ClassId) → List Datum
objects_of models None = []
objects_of models (Some x) = objects_in x.0 x.1 (slice_get models x.0)

-- where the candidates for a variable stand: nowhere, in a slot of an object, they are the objects of a model that hold a value, or they stand
-- in a column of rows, and each is taken once
abbrev pub data_in : Setting → Candidates → List Datum
data_in s places.Nowhere = []
data_in s (places.Slot m o prop) = some_data (held_by s m o.0 prop.0)
data_in s (places.Holders m holders) = map (λ h. Obj m h.object) holders.now
data_in s (places.Rows table k numbers) = in_order (distinct (cells_in table.now k numbers.now))

-- ---- bindings

abbrev pub with_value : Values → ℕ → Datum → Values
with_value a v d = slice_set a v (Some d)

-- the binding stands in a row of each join, and meets the side
abbrev pub fits : Problem → Values → Bool
fits p a = are_joined p.joins a && meets_side p.side p.variables p.program p.models p.rel a

-- the binding alone, if it is one
abbrev pub tested : Problem → Values → List Values
tested p a = if fits p a then a ∷ [] else []

-- the values in bindings
abbrev pub values_of : List Binding → List Values
values_of bs = map (λ b. b.values) bs
