-- What expressions and their parts mean among the models of a program, with so many calls of queries left.
use Rattle.std.specs.Prelude.{ℕ, List, ◌++◌, ◌∷◌, [], map, Option, None, slice_get}
use Rattle.std.specs.Option.{option_map}
use Rattle.object_tables.specs.Models.{ModelData, class_at}
use Rattle.qv_syntax.specs.declared.typed.Call.{Call, fold-Call}
use Rattle.qv_syntax.specs.declared.typed.Node.{Node, fold-Node}
use Rattle.qv_syntax.specs.declared.typed.Typed.{Typed}
use Rattle.qv_syntax.specs.declared.typed.TypedInfix.{TypedInfix, fold-TypedInfix}
use Rattle.qv_syntax.specs.declared.typed.TypedPostfix.{TypedPostfix, fold-TypedPostfix}
use Rattle.qvtr_semantics.specs.declared.datum.Datum.{Datum}
use Rattle.qvtr_semantics.specs.declared.datum.Datum.TheVariants.{Obj, Val}
use Rattle.qvtr_semantics.specs.declared.out.Out.{Out}
use Rattle.qvtr_semantics.specs.declared.out.Out.TheVariants.{One}
use Rattle.qvtr_semantics.specs.Outs.{and_then}
use Rattle.qvtr_semantics.specs.Objects.{Setting, ObjectClass}
use Rattle.qvtr_semantics.specs.Expressions.{Scope, Meaning, Operated, Called, Queries, variable, setting, queries_within, meaning, node_meaning, call_meaning, typed_meaning, infix_meaning, postfix_meaning}
use Rattle.ocl_eval.specs.declared.world.World.{World}
use Rattle.ocl_eval.specs.declared.reached.Reached.{Reached}
use Rattle.ocl_eval.specs.declared.reached.Reached.TheVariants.{Own, Variable, Growing}

-- a world with so many calls left
abbrev pub with_calls : World → ℕ → World
with_calls w n = record w { calls = n }

abbrev pub setting_of : World → Setting
setting_of w = setting w.program.now w.models.now

abbrev pub queries_of : World → Queries
queries_of w = queries_within w.program.now.queries (setting_of w) w.calls

abbrev pub meaning_of : World → Typed → Meaning
meaning_of w = meaning (setting_of w) (queries_of w)

abbrev pub node_of : World → Node → Meaning
node_of w = fold-Node Called Meaning Meaning Operated Called (call_meaning (setting_of w)) (node_meaning (setting_of w) (queries_of w)) typed_meaning infix_meaning postfix_meaning

abbrev pub call_of : World → Call → Called
call_of w = fold-Call Called Meaning Meaning Operated Called (call_meaning (setting_of w)) (node_meaning (setting_of w) (queries_of w)) typed_meaning infix_meaning postfix_meaning

abbrev pub infix_of : World → TypedInfix → Operated
infix_of w = fold-TypedInfix Called Meaning Meaning Operated Called (call_meaning (setting_of w)) (node_meaning (setting_of w) (queries_of w)) typed_meaning infix_meaning postfix_meaning

abbrev pub postfix_of : World → TypedPostfix → Called
postfix_of w = fold-TypedPostfix Called Meaning Meaning Operated Called (call_meaning (setting_of w)) (node_meaning (setting_of w) (queries_of w)) typed_meaning infix_meaning postfix_meaning

-- the values of the body behind these variables, one for each element
abbrev pub each_behind : Meaning → Scope → List Datum → List Out
each_behind body scope ds = map (λ d. body (scope ++ One d ∷ [])) ds

-- the value that is reached
abbrev pub reached_in : Scope → Reached → Out
reached_in scope (Own x) = x
reached_in scope (Variable number) = variable scope number
reached_in scope (Growing x) = x

-- the metamodel and the class of a live object of these models
abbrev pub class_in : List ModelData → Datum → Option ObjectClass
class_in models (Obj m o) = and_then (slice_get models m) (λ model. option_map (λ class. record { meta = model.meta; class = class }) (class_at model o.0))
class_in models (Val m v) = None
