-- Values of the variables of a relation in which objects of the target are terms, and values of expressions for them (QVT 1.3, sections
-- 7.2 and 7.10). Expressions but for a variable alone speak of no object of the target, so they have their values by the data alone.
use Rattle.std.specs.Prelude.{◌≡◌, ℕ, Bool, false, List, [], ◌∷◌, map, length, replicate, Option, None, Some, slice_index_or, slice_set}
use Rattle.std.specs.Option.{option_map, option_and_then}
use Rattle.object_tables.specs.Models.{ModelData}
use Rattle.qv_syntax.specs.declared.program.Program.{Program}
use Rattle.qv_syntax.specs.declared.program.Rel.{Rel}
use Rattle.qv_syntax.specs.declared.program.Dom.{Dom}
use Rattle.qv_syntax.specs.declared.typed.Typed.{Typed}
use Rattle.qv_syntax.specs.declared.typed.TypedInfix.{TypedInfix}
use Rattle.qv_syntax.specs.declared.typed.TypedPostfix.{TypedPostfix}
use Rattle.qv_syntax.specs.declared.typed.Node.{Node, out-Node}
use Rattle.qv_syntax.specs.declared.typed.Call.{Call}
use Rattle.qv_syntax.specs.declared.typed.Call.TheOpen as nodes
use Rattle.qvtr_semantics.specs.Outs.{datum_of}
use Rattle.qvtr_semantics.specs.declared.out.Out.{Out}
use Rattle.qvtr_semantics.specs.Expressions.{Scope, value, scope_of}
use Rattle.qvtr_semantics.specs.Templates.{Values}
use Rattle.template_match.specs.Sources.{is_target_variable}
use Rattle.repair_semantics.specs.declared.term.Term.{Term}
use Rattle.repair_semantics.specs.declared.term.TermValue.{TermValue}
use Rattle.repair_semantics.specs.declared.term.TermValue.TheVariants as values
use Rattle.repair_semantics.specs.Terms.{datum_in, term_in}

-- one place for each variable of a relation; nothing where a variable has no value
abbrev pub TermValues : Type 0
TermValues = List (Option TermValue)

-- the value of a variable
abbrev pub value_of : TermValues → ℕ → Option TermValue
value_of b v = slice_index_or b v None

-- the term that a variable has
abbrev pub term_of : TermValues → ℕ → Option Term
term_of b v = option_and_then term_in (value_of b v)

-- data and source objects alone, without the terms
abbrev pub data_in : TermValues → Values
data_in b = map (option_and_then datum_in) b

-- the second gives each variable the value that the first gives it, if it gives one
abbrev pub TermsExtend : TermValues → TermValues → Type 0
TermsExtend a b = (v : ℕ) (x : TermValue) → value_of a v ≡ Some x → value_of b v ≡ Some x

-- ---- roots of domains

-- no variable has a value
abbrev pub no_values : Rel → TermValues
no_values rel = replicate (length rel.vars) None

-- values with those of the roots of some domains
abbrev pub with_roots : TermValues → List Dom → List TermValue → TermValues
with_roots b [] xs = b
with_roots b doms [] = b
with_roots b (dom ∷ doms) (x ∷ xs) = with_roots (slice_set b dom.root (Some x)) doms xs

-- the roots of the domains have these values
abbrev pub root_values : Rel → List TermValue → TermValues
root_values rel xs = with_roots (no_values rel) rel.domains xs

-- ---- values of expressions

-- the variable, if the node is one
abbrev pub variable_at : nodes.Node-F Call Node Typed TypedInfix TypedPostfix → Option ℕ
variable_at (nodes.Variable number) = Some number
variable_at node = None

-- the variable that an expression is, where it is one alone
abbrev pub variable_alone : Typed → Option ℕ
variable_alone e = variable_at (out-Node e.node)

-- values of variables, and the same data as values of expressions, which may be null or invalid too
pub record Known : Type 0 where
  pub values : TermValues
  pub scope : Scope

-- the variables have these values and no others
abbrev pub known : TermValues → Known
known b = record { values = b; scope = scope_of (data_in b) }

-- a value that is neither null nor invalid
abbrev pub given_out : Out → Option TermValue
given_out out = option_map (λ d. values.Val d) (datum_of out)

-- the value of an expression, which may be this variable alone
abbrev pub given_by : Program → List ModelData → Known → Typed → Option ℕ → Option TermValue
given_by program models k e None = given_out (value program models e k.scope)
given_by program models k e (Some v) = value_of k.values v

-- the value of an expression, a term for a variable of the target; nothing where it is null or invalid
abbrev pub given_value : Program → List ModelData → Known → Typed → Option TermValue
given_value program models k e = given_by program models k e (variable_alone e)

-- the variable is one for objects of the target
abbrev pub is_target_one : Program → Rel → Option ℕ → Bool
is_target_one program rel None = false
is_target_one program rel (Some v) = is_target_variable program rel v

-- the expression is a variable for objects of the target
abbrev pub is_target_alone : Program → Rel → Typed → Bool
is_target_alone program rel e = is_target_one program rel (variable_alone e)
