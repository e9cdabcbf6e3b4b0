-- The value of an expression (OCL 2.4, chapter 11 and annex A.2.2): by recursion on the tree, one clause for each form. A part that isn't of
-- the kind that is asked for gives invalid, and so does a number that names nothing.
use Rattle.std.specs.Prelude.{ℕ, zero, suc, Bool, true, false, int_lt, int_le, ℤ, List, [], ◌∷◌, ◌++◌, map, length, take, Option, None, Some, slice_get, slice_index_or}
use Rattle.std.specs.Option.{option_map}
use Rattle.object_tables.specs.declared.value.Value.TheVariants as values
use Rattle.object_tables.specs.Models.{ModelData}
use Rattle.qv_syntax.specs.declared.operator.Operator.{Operator}
use Rattle.qv_syntax.specs.declared.operator.Operator.TheVariants as operators
use Rattle.qv_syntax.specs.declared.operation.Operation.{Operation}
use Rattle.qv_syntax.specs.declared.operation.Operation.TheVariants as operations
use Rattle.qv_syntax.specs.declared.operation.ClassOperation.{ClassOperation}
use Rattle.qv_syntax.specs.declared.operation.ClassOperation.TheVariants as tests
use Rattle.qv_syntax.specs.declared.operation.CollectionOperation.{CollectionOperation}
use Rattle.qv_syntax.specs.declared.operation.CollectionOperation.TheVariants as of_collections
use Rattle.qv_syntax.specs.declared.program.Program.{Program}
use Rattle.qv_syntax.specs.declared.query.Query.{Query}
use Rattle.qv_syntax.specs.declared.type_tree.Kind.{Kind}
use Rattle.qv_syntax.specs.declared.type_tree.Kind.TheVariants as kinds
use Rattle.qv_syntax.specs.declared.typed.Typed.{Typed, fold-Typed}
use Rattle.qv_syntax.specs.declared.typed.Call.TheOpen as of
use Rattle.qvtr_semantics.specs.declared.datum.Datum.{Datum}
use Rattle.qvtr_semantics.specs.declared.datum.Datum.TheVariants.{Val}
use Rattle.qvtr_semantics.specs.declared.out.Out.{Out}
use Rattle.qvtr_semantics.specs.declared.out.Out.TheVariants as outs
use Rattle.qvtr_semantics.specs.Outs.{Collection, and_then, given, datum_of, integer_of, string_of, boolean_of, collection_of, boolean, truth, all_given}
use Rattle.qvtr_semantics.specs.Integers as integers
use Rattle.qvtr_semantics.specs.Strings as strings
use Rattle.qvtr_semantics.specs.Truth as logic
use Rattle.qvtr_semantics.specs.Equality.{equal, unequal, is_known_true}
use Rattle.qvtr_semantics.specs.Collections as collections
use Rattle.qvtr_semantics.specs.Iterators.{iterated, collect}
use Rattle.qvtr_semantics.specs.Objects as objects
use Rattle.qvtr_semantics.specs.Objects.{Setting}

-- the values of the variables by their numbers
abbrev pub Scope : Type 0
Scope = List Out

abbrev pub variable : Scope → ℕ → Out
variable scope number = slice_index_or scope number outs.Invalid

-- one more variable, which has the number
abbrev pub with_variable : Scope → ℕ → Out → Scope
with_variable scope number value = take number scope ++ value ∷ []

-- ---- operators

abbrev pub on_integers : {X : Type 0} → (ℤ → ℤ → X) → Out → Out → Option X
on_integers f x y = and_then (integer_of x) (λ i. option_map (f i) (integer_of y))

abbrev pub on_strings : {X : Type 0} → (List ℕ → List ℕ → X) → Out → Out → Option X
on_strings f x y = and_then (string_of x) (λ s. option_map (f s) (string_of y))

abbrev pub result : Option Out → Out
result out = given out (λ x. x)

abbrev pub or_else : Option Out → Option Out → Out
or_else None second = result second
or_else (Some x) second = x

-- of Integers the sum, of Strings one behind the other
abbrev pub added : Out → Out → Out
added x y = or_else (on_integers integers.plus x y) (on_strings strings.concatenated x y)

abbrev pub operated : Operator → Out → Out → Out
operated operators.Implies x y = truth (logic.implies (boolean_of x) (boolean_of y))
operated operators.Xor x y = truth (logic.xor (boolean_of x) (boolean_of y))
operated operators.Or x y = truth (logic.or (boolean_of x) (boolean_of y))
operated operators.And x y = truth (logic.and (boolean_of x) (boolean_of y))
operated operators.Equal x y = truth (equal x y)
operated operators.NotEqual x y = truth (unequal x y)
operated operators.Less x y = truth (on_integers int_lt x y)
operated operators.Greater x y = truth (on_integers (λ i j. int_lt j i) x y)
operated operators.AtMost x y = truth (on_integers int_le x y)
operated operators.AtLeast x y = truth (on_integers (λ i j. int_le j i) x y)
operated operators.Plus x y = added x y
operated operators.Minus x y = result (on_integers integers.minus x y)
operated operators.Times x y = result (on_integers integers.times x y)

abbrev pub negation : Out → Out
negation x = truth (logic.negation (boolean_of x))

abbrev pub negated : Out → Out
negated x = given (integer_of x) integers.negated

-- the other branch isn't looked at
abbrev pub chosen : Option Bool → Out → Out → Out
chosen None x y = outs.Invalid
chosen (Some true) x y = x
chosen (Some false) x y = y

-- ---- collections

-- a collection literal holds no null and no collection
abbrev pub literal : Kind → List Out → Out
literal kind elements = given (all_given (map datum_of elements)) (collections.collection kind)

-- ---- operations on single values

abbrev pub is_undefined : Out → Out
is_undefined outs.Null = boolean true
is_undefined outs.Invalid = boolean true
is_undefined x = boolean false

abbrev pub is_invalid : Out → Out
is_invalid outs.Invalid = boolean true
is_invalid x = boolean false

-- what `->` takes of a single value
abbrev pub singleton : Out → Out
singleton (outs.One d) = outs.Many kinds.Set (d ∷ [])
singleton outs.Null = outs.Many kinds.Set []
singleton x = outs.Invalid

-- the argument of that place
abbrev pub argument : List Out → ℕ → Out
argument args place = slice_index_or args place outs.Invalid

abbrev pub to_string : Out → Out
to_string x = or_else (option_map strings.integer_text (integer_of x)) (option_map strings.boolean_text (boolean_of x))

abbrev pub substring : Out → Out → Out → Out
substring x lower upper = given (string_of x) (λ s. given (integer_of lower) (λ l. given (integer_of upper) (strings.substring s l)))

abbrev pub operation : Operation → Out → List Out → Out
operation operations.Absolute x args = given (integer_of x) integers.absolute
operation operations.Divide x args = result (on_integers integers.quotient x (argument args 0))
operation operations.Modulo x args = result (on_integers integers.remainder x (argument args 0))
operation operations.Maximum x args = result (on_integers integers.maximum x (argument args 0))
operation operations.Minimum x args = result (on_integers integers.minimum x (argument args 0))
operation operations.ToString x args = to_string x
operation operations.Length x args = given (string_of x) strings.size
operation operations.Concatenate x args = result (on_strings strings.concatenated x (argument args 0))
operation operations.ToInteger x args = given (string_of x) strings.to_integer
operation operations.Substring x args = substring x (argument args 0) (argument args 1)
operation operations.IsUndefined x args = is_undefined x
operation operations.IsInvalid x args = is_invalid x
operation operations.AsSingletonSet x args = singleton x

-- type tests and casts of an object
abbrev pub class_operation : Setting → ClassOperation → ℕ → Out → Out
class_operation s tests.IsTypeOf class x = given (datum_of x) (objects.is_type_of s class)
class_operation s tests.IsKindOf class x = given (datum_of x) (objects.is_of_kind s class)
class_operation s tests.AsType class x = given (datum_of x) (objects.as_type s class)

-- ---- operations on collections

abbrev pub with_datum : Out → (Datum → Out) → Out
with_datum x f = given (datum_of x) f

abbrev pub with_collection : Out → (Collection → Out) → Out
with_collection x f = given (collection_of x) f

abbrev pub with_integer : Out → (ℤ → Out) → Out
with_integer x f = given (integer_of x) f

abbrev pub on_collection : CollectionOperation → Collection → List Out → Out
on_collection of_collections.Size c args = collections.size c
on_collection of_collections.IsEmpty c args = collections.is_empty c
on_collection of_collections.NotEmpty c args = collections.not_empty c
on_collection of_collections.Includes c args = with_datum (argument args 0) (collections.includes c)
on_collection of_collections.Excludes c args = with_datum (argument args 0) (collections.excludes c)
on_collection of_collections.IncludesAll c args = with_collection (argument args 0) (collections.includes_all c)
on_collection of_collections.ExcludesAll c args = with_collection (argument args 0) (collections.excludes_all c)
on_collection of_collections.Count c args = with_datum (argument args 0) (collections.count c)
on_collection of_collections.Sum c args = integers.sum c.elements
on_collection of_collections.Including c args = with_datum (argument args 0) (collections.including c)
on_collection of_collections.Excluding c args = with_datum (argument args 0) (collections.excluding c)
on_collection of_collections.Union c args = with_collection (argument args 0) (collections.union c)
on_collection of_collections.Intersection c args = with_collection (argument args 0) (collections.intersection c)
on_collection of_collections.AsSet c args = collections.as_kind kinds.Set c
on_collection of_collections.AsBag c args = collections.as_kind kinds.Bag c
on_collection of_collections.AsSequence c args = collections.as_kind kinds.Sequence c
on_collection of_collections.AsOrderedSet c args = collections.as_kind kinds.OrderedSet c
on_collection of_collections.First c args = collections.first c
on_collection of_collections.Last c args = collections.last c
on_collection of_collections.At c args = with_integer (argument args 0) (collections.at c)
on_collection of_collections.Append c args = with_datum (argument args 0) (collections.append c)
on_collection of_collections.Prepend c args = with_datum (argument args 0) (collections.prepend c)

-- ---- the fold

-- what an expression is in a scope
abbrev pub Meaning : Type 0
Meaning = Scope → Out

-- an operator with what stands behind it
pub record Operated : Type 0 where
  pub operator : Operator
  pub right : Meaning

-- what is called on a value
abbrev pub Called : Type 0
Called = Scope → Out → Out

abbrev pub all_operated : Scope → Out → List Operated → Out
all_operated scope x [] = x
all_operated scope x (o ∷ os) = all_operated scope (operated o.operator x (o.right scope)) os

abbrev pub all_called : Scope → Out → List Called → Out
all_called scope x [] = x
all_called scope x (call ∷ calls) = all_called scope (call scope x) calls

abbrev pub in_scope : Scope → List Meaning → List Out
in_scope scope meanings = map (λ m. m scope) meanings

-- the values of the body, one for each element
abbrev pub each : Scope → ℕ → Meaning → List Datum → List Out
each scope number body ds = map (λ d. body (with_variable scope number (outs.One d))) ds

-- a query's value for the values of its parameters
abbrev pub Queries : Type 0
Queries = ℕ → List Out → Out

abbrev pub node_meaning : Setting → Queries → of.Node-F Called Meaning Meaning Operated Called → Meaning
node_meaning s queries (of.Number value) scope = integers.integer value
node_meaning s queries (of.Str value) scope = outs.One (Val 0 (values.Str value))
node_meaning s queries (of.Bool value) scope = boolean value
node_meaning s queries of.Null scope = outs.Null
node_meaning s queries of.Invalid scope = outs.Invalid
node_meaning s queries (of.EnumLiteral meta enumeration place) scope = outs.One (Val meta (values.Lit enumeration place))
node_meaning s queries (of.Variable number) scope = variable scope number
node_meaning s queries (of.Let number value body) scope = body (with_variable scope number (value scope))
node_meaning s queries (of.Chain first rest) scope = all_operated scope (first scope) rest
node_meaning s queries (of.Not operand) scope = negation (operand scope)
node_meaning s queries (of.Negated operand) scope = negated (operand scope)
node_meaning s queries (of.Calls part calls) scope = all_called scope (part scope) calls
node_meaning s queries (of.If condition one other) scope = chosen (boolean_of (condition scope)) (one scope) (other scope)
node_meaning s queries (of.Coll kind elements) scope = literal kind (in_scope scope elements)
node_meaning s queries (of.Extent model class) scope = objects.extent s model class.0
node_meaning s queries (of.Query query args) scope = queries query (in_scope scope args)

abbrev pub infix_meaning : of.TypedInfix-F Called Meaning Meaning Operated Called → Operated
infix_meaning i = record { operator = i.operator; right = i.right }

abbrev pub call_meaning : Setting → of.Call-F Called Meaning Meaning Operated Called → Called
call_meaning s (of.Property prop gives) scope x = with_datum x (objects.property s prop.0 gives)
call_meaning s (of.CollectProperty prop gives) scope x = with_collection x (λ c. collect c (map (objects.property s prop.0 gives) c.elements))
call_meaning s (of.Operation o args) scope x = operation o x (in_scope scope args)
call_meaning s (of.Class o class) scope x = class_operation s o class.0 x
call_meaning s (of.Collection o args) scope x = with_collection x (λ c. on_collection o c (in_scope scope args))
call_meaning s (of.Iterator kind number body) scope x = with_collection x (λ c. iterated kind c (each scope number body c.elements))

abbrev pub postfix_meaning : of.TypedPostfix-F Called Meaning Meaning Operated Called → Called
postfix_meaning p = p.call

abbrev pub typed_meaning : of.Typed-F Called Meaning Meaning Operated Called → Meaning
typed_meaning t = t.node

abbrev pub meaning : Setting → Queries → Typed → Meaning
meaning s queries = fold-Typed Called Meaning Meaning Operated Called (call_meaning s) (node_meaning s queries) typed_meaning infix_meaning postfix_meaning

-- ---- queries

abbrev pub query_value : Setting → Queries → Option Query → List Out → Out
query_value s queries None args = outs.Invalid
query_value s queries (Some query) args = meaning s queries query.body args

-- the values of queries, where so many calls may still be made within one another
abbrev pub queries_within : List Query → Setting → ℕ → Queries
queries_within qs s zero query args = outs.Invalid
queries_within qs s (suc n) query args = query_value s (queries_within qs s n) (slice_get qs query) args

-- ---- expressions of a program

abbrev pub setting : Program → List ModelData → Setting
setting program models = record { slots = program.models; models = models }

-- the value of an expression, by the values of the variables that it may name. Queries call each other without a cycle, so as many calls
-- as there are queries are enough.
abbrev pub value : Program → List ModelData → Typed → Scope → Out
value program models = meaning (setting program models) (queries_within program.queries (setting program models) (length program.queries))

-- the value of a variable of a relation
abbrev pub bound_value : Option Datum → Out
bound_value None = outs.Invalid
bound_value (Some d) = outs.One d

abbrev pub scope_of : List (Option Datum) → Scope
scope_of values = map bound_value values

-- the value of an expression for values of the variables of a relation
abbrev pub value_for : Program → List ModelData → Typed → List (Option Datum) → Out
value_for program models typed values = value program models typed (scope_of values)

-- the value of a condition is true
abbrev pub is_true : Program → List ModelData → Typed → List (Option Datum) → Bool
is_true program models typed values = is_known_true (boolean_of (value_for program models typed values))
