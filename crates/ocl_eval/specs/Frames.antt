-- What is stacked in an evaluation makes of the value for which it waits: frames that wait for the value of a part of an expression, and
-- callers that wait for the value of a query.
use Rattle.std.specs.Prelude.{◌≡◌, ◌≤◌, ◌+◌, suc, min, Bool, true, List, ℕ, [], ◌∷◌, ◌++◌, ◌-◌, length, take, drop, map, All}
use Rattle.std.specs.List.{fold}
use Rattle.qv_syntax.specs.declared.operation.CollectionOperation.TheVariants as of_collections
use Rattle.qv_syntax.specs.declared.typed.TypedInfix.{TypedInfix}
use Rattle.qv_syntax.specs.declared.typed.TypedPostfix.{TypedPostfix}
use Rattle.qvtr_semantics.specs.declared.out.Out.{Out}
use Rattle.qvtr_semantics.specs.Outs.{boolean_of}
use Rattle.qvtr_semantics.specs.Expressions.{Scope, with_variable, all_operated, all_called, in_scope, negation, negated, chosen, literal, operated, operation, on_collection, with_collection, variable}
use Rattle.ocl_eval.specs.Progress.{advanced, iterator_result}
use Rattle.ocl_eval.specs.Memos.{IsTold}
use Rattle.ocl_eval.specs.Worlds.{with_calls, queries_of, meaning_of, infix_of, postfix_of, each_behind, reached_in}
use Rattle.ocl_eval.specs.declared.world.World.{World}
use Rattle.ocl_eval.specs.declared.progress.Progress.{Progress}
use Rattle.ocl_eval.specs.declared.frame.Applied.{Applied}
use Rattle.ocl_eval.specs.declared.frame.Applied.TheVariants as applied
use Rattle.ocl_eval.specs.declared.frame.Listed.{Listed}
use Rattle.ocl_eval.specs.declared.frame.Listed.TheVariants as listed
use Rattle.ocl_eval.specs.declared.frame.Control.{Control}
use Rattle.ocl_eval.specs.declared.frame.Control.TheVariants as controls
use Rattle.ocl_eval.specs.declared.frame.Iteration.{Iteration}
use Rattle.ocl_eval.specs.declared.frame.Frame.{Frame}
use Rattle.ocl_eval.specs.declared.frame.Frame.TheVariants as frames
use Rattle.ocl_eval.specs.declared.frame.Caller.{Caller}
use Rattle.ocl_eval.specs.declared.frame.Stacked.{Stacked}
use Rattle.ocl_eval.specs.declared.frame.Stacked.TheVariants as stacked
use Rattle.ocl_eval.specs.declared.memo.Memo.{Memo}
use Rattle.ocl_eval.specs.declared.machine.Machine.{Machine}

-- An evaluation counts down the calls of queries that may still be made, and what it finds it would find with other numbers of them too. Of
-- `left` that it has there may be up to `spare` fewer, and any more, unless a query wasn't called for want of calls (`exhausted`): `calls` is
-- one of these numbers where it is covered.
pub record Cover : Type 0 where
  pub calls : ℕ
  pub left : ℕ
  pub spare : ℕ
  pub exhausted : Bool

-- what was found would be found with that number of calls too
pub record IsCovered (c : Cover) : Type 0 where
  pub enough : c.left ≤ c.calls + c.spare
  pub all : c.exhausted ≡ true → c.calls ≤ c.left

-- a value, the variables in reach, and for how many calls of queries it is asked
pub record Standing : Type 0 where
  pub cover : Cover
  pub scope : Scope
  pub out : Out

-- what an operation gives for these values of its arguments
abbrev pub application : Scope → Applied → List Out → Out
application scope (applied.Operation o x) args = operation o x args
application scope (applied.Collection o x) args = with_collection x (λ c. on_collection o c args)
application scope (applied.Variable o number) args = with_collection (variable scope number) (λ c. on_collection o c args)
application scope (applied.Including x) args = with_collection (reached_in scope x) (λ c. on_collection of_collections.Including c args)
application scope (applied.Union x) args = with_collection (reached_in scope x) (λ c. on_collection of_collections.Union c args)

-- what calls, one after another, give
abbrev pub called : World → Scope → Out → List TypedPostfix → Out
called w scope x calls = all_called scope x (map (postfix_of w) calls)

-- what operators with the parts behind them give
abbrev pub joined : World → Scope → Out → List TypedInfix → Out
joined w scope x links = all_operated scope x (map (infix_of w) links)

-- what is made of a list of values
abbrev pub made : World → Scope → Listed → List Out → Out
made w scope (listed.Literal kind) values = literal kind values
made w scope (listed.Query query) values = queries_of w query values
made w scope (listed.Applied operation calls) values = called w scope (application scope operation values) calls.now

-- what an iterator gives in the end, where the body's variable comes behind these
abbrev pub iteration_result : World → Scope → Iteration → Progress → Out
iteration_result w scope i p = called w (scope ++ i.behind.items) (iterator_result i.iterator (record { kind = i.kind; elements = i.elements }) (fold advanced p (each_behind (meaning_of w i.body.now) scope (drop i.next i.elements)))) i.calls.now

-- the variables but for the last
abbrev pub without_last : Scope → Scope
without_last scope = take (length scope - 1) scope

-- the value of the part to which the frame belongs, and what is in reach of it
abbrev pub returned : World → Frame → Standing → Standing
returned w frames.Not s = record s { out = negation s.out }
returned w frames.Negated s = record s { out = negated s.out }
returned w (frames.If one other) s = record s { out = chosen (boolean_of s.out) (meaning_of (with_calls w s.cover.calls) one.now s.scope) (meaning_of (with_calls w s.cover.calls) other.now s.scope) }
returned w (frames.Let number body) s = record s { out = meaning_of (with_calls w s.cover.calls) body.now (with_variable s.scope number s.out) }
returned w (frames.Body behind) s = record s { scope = without_last s.scope ++ behind.items }
returned w (frames.First rest) s = record s { out = joined (with_calls w s.cover.calls) s.scope s.out rest.now }
returned w (frames.Right operator x rest) s = record s { out = joined (with_calls w s.cover.calls) s.scope (operated operator x s.out) rest.now }
returned w (frames.Calls calls) s = record s { out = called (with_calls w s.cover.calls) s.scope s.out calls.now }
returned w (frames.List values rest of) s = record s { out = made (with_calls w s.cover.calls) s.scope of (values ++ s.out ∷ in_scope s.scope (map (meaning_of (with_calls w s.cover.calls)) rest.now)) }
returned w (frames.Element i progress) s = record s { scope = without_last s.scope ++ i.behind.items; out = iteration_result (with_calls w s.cover.calls) (without_last s.scope) i (advanced progress s.out) }

-- the calls that are left where a query is called, by those that are left in its body
abbrev pub cover_below : Caller → Cover → Cover
cover_below caller c = record { calls = suc c.calls; left = suc c.left; spare = min caller.spare c.spare; exhausted = c.exhausted }

-- where the evaluation stands behind what was on top of the stack
abbrev pub returned_to : World → Stacked → Standing → Standing
returned_to w (stacked.Frame frame) s = returned w frame s
returned_to w (stacked.Caller caller) s = record { cover = cover_below caller s.cover; scope = caller.scope; out = s.out }

-- what arrives at a caller
pub record Arrival : Type 0 where
  pub caller : Caller
  pub standing : Standing

-- what arrives at the caller, if one was on top of the stack
abbrev pub arrived_at : Stacked → Standing → List Arrival
arrived_at (stacked.Frame frame) s = []
arrived_at (stacked.Caller caller) s = record { caller = caller; standing = s } ∷ []

-- what all that is stacked makes of a value, the last of it first
abbrev pub after : World → List Stacked → Standing → Standing
after w [] s = s
after w (x ∷ xs) s = returned_to w x (after w xs s)

-- what arrives at the callers on the way, at the last of them first
abbrev pub arrivals : World → List Stacked → Standing → List Arrival
arrivals w [] s = []
arrivals w (x ∷ xs) s = arrivals w xs s ++ arrived_at x (after w xs s)

-- what comes of an evaluation: the world, which stays but for the calls left, what is remembered, what comes out in the end, and what
-- arrives at the callers on the way
pub record Outcome : Type 0 where
  pub world : World
  pub memo : Memo
  pub last : Standing
  pub arrivals : List Arrival

-- what a stack makes of a value
abbrev pub stack_outcome : World → Memo → List Stacked → Standing → Outcome
stack_outcome w memo xs s = record { world = w; memo = memo; last = after w xs s; arrivals = arrivals w xs s }

-- what a stack makes of a value that comes to something on top of it
abbrev pub outcome_below : World → Memo → List Stacked → Stacked → Standing → Outcome
outcome_below w memo xs top s = record { world = w; memo = memo; last = after w xs (returned_to w top s); arrivals = arrived_at top s ++ arrivals w xs (returned_to w top s) }

-- the value for which what comes next stands
abbrev pub value_of : World → Scope → Control → Out
value_of w scope (controls.Part part) = meaning_of w part.now scope
value_of w scope (controls.Calls x calls) = called w scope (reached_in scope x) calls.now
value_of w scope (controls.Query query args) = queries_of w query args
value_of w scope (controls.Value x) = x

-- so many calls, for where an evaluation stands
abbrev pub cover : ℕ → Machine → Cover
cover n m = record { calls = n; left = m.world.calls; spare = m.spare; exhausted = m.exhausted }

-- a value where an evaluation stands, if so many calls are left
abbrev pub standing : ℕ → Machine → Out → Standing
standing n m x = record { cover = cover n m; scope = m.scope; out = x }

-- what comes of an evaluation with a value
abbrev pub outcome_of : Machine → Standing → Outcome
outcome_of m s = stack_outcome (with_calls m.world 0) m.memo m.stack.items s

-- what comes of an evaluation, if so many calls are left
abbrev pub outcome : ℕ → Machine → Control → Outcome
outcome n m c = outcome_of m (standing n m (value_of (with_calls m.world n) m.scope c))

-- what arrives is the value of the call, for each number of calls that is covered, and the calls that are left are counted right
pub record IsAnswer (w : World) (a : Arrival) : Type 0 where
  pub left : a.caller.calls ≡ suc a.standing.cover.left
  pub spare : a.standing.cover.spare ≤ a.standing.cover.left
  pub value : IsCovered a.standing.cover → a.standing.out ≡ queries_of (with_calls w (suc a.standing.cover.calls)) a.caller.query a.standing.scope

-- what is wanted of an evaluation
pub record Wanted : Type 0 where
  pub calls : ℕ
  pub scope : Scope
  pub out : Out

-- in the end comes out what is wanted, if so many calls are left as that is asked for, and what arrives at callers on the way is right
pub record IsRight (w : World) (wanted : Wanted) (o : Outcome) : Type 0 where
  pub left : o.last.cover.left ≡ wanted.calls
  pub scope : IsCovered o.last.cover → o.last.scope ≡ wanted.scope
  pub value : IsCovered o.last.cover → o.last.cover.calls ≡ wanted.calls → o.last.out ≡ wanted.out
  pub arrivals : All (IsAnswer w) o.arrivals

-- that is so whatever number of calls is asked for, and what is remembered is right
pub record IsLed (w : World) (wanted : Wanted) (o : ℕ → Outcome) : Type 0 where
  pub world : (n : ℕ) → (o n).world ≡ with_calls w 0
  pub memo : (n : ℕ) → IsTold w (o n).memo
  pub right : (n : ℕ) → IsRight w wanted (o n)
