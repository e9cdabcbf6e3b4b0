-- The names that an expression uses, in the order of the text: variables that it doesn't bring in itself, and what it calls by name
-- (OCL 2.4, section 9.4). A variable of a let is in reach in its body, one of an iterator in the iterator's body.
use Rattle.std.specs.Prelude.{ℕ, Bool, true, false, ◌&&◌, not, if◌then◌else◌, List, [], ◌∷◌, ◌++◌, Option, None, Some, filter, nat_le, length, codes}
use Rattle.std.specs.List.{flat_map, filter_map}
use Rattle.mof_metamodel.specs.Characters.{same_name}
use Rattle.qv_syntax.specs.declared.name.Name.{Name}
use Rattle.qv_syntax.specs.declared.expr.Expr.{Expr, fold-Expr}
use Rattle.qv_syntax.specs.declared.expr.Infix.{Infix, fold-Infix}
use Rattle.qv_syntax.specs.declared.expr.Postfix.{Postfix, fold-Postfix}
use Rattle.qv_syntax.specs.declared.expr.Args.{Args, fold-Args}
use Rattle.qv_syntax.specs.declared.expr.Args.TheOpen as of
use Rattle.script_scopes.specs.declared.usage.Usage.{Usage}
use Rattle.script_scopes.specs.declared.usage.Usage.TheVariants.{Variable, Call}

-- ---- of a list of names

-- the usage is one of this variable
abbrev pub is_of : List ℕ → Usage → Bool
is_of name (Variable n) = same_name name n
is_of name (Call n) = false

-- those of other variables, and all calls
abbrev pub without : List ℕ → List Usage → List Usage
without name usages = filter (λ u. not (is_of name u)) usages

abbrev pub variable_in : Usage → Option (List ℕ)
variable_in (Variable n) = Some n
variable_in (Call n) = None

abbrev pub call_in : Usage → Option (List ℕ)
call_in (Variable n) = None
call_in (Call n) = Some n

-- ---- of each form

-- of an expression; one or two names may be the path of a class, behind which `.allInstances()` gives its extent
pub record ExprUsages : Type 0 where
  pub usages : List Usage
  pub is_class : Bool

-- of a call behind a part
pub record CallUsages : Type 0 where
  pub usages : List Usage
  pub is_extent : Bool

-- of what stands between parentheses
pub record ArgsUsages : Type 0 where
  pub usages : List Usage
  pub is_empty : Bool

abbrev used : List Usage → ExprUsages
used usages = record { usages = usages; is_class = false }

abbrev pub named_usages : List Name → List Usage
named_usages (name ∷ []) = Variable name.text ∷ []
named_usages names = []

-- what is called first makes the part a class: `.allInstances()` behind one or two names
abbrev pub is_extent : Bool → List CallUsages → Bool
is_extent is_class [] = false
is_extent is_class (call ∷ calls) = is_class && call.is_extent

-- the part, if it isn't a class, and the calls behind it
abbrev pub calls_usages : ExprUsages → List CallUsages → List Usage
calls_usages part calls = (if is_extent part.is_class calls then [] else part.usages) ++ flat_map (λ c. c.usages) calls

abbrev pub expr_step : of.Expr-F ArgsUsages ExprUsages CallUsages (List Usage) → ExprUsages
expr_step (of.Let name ty value body span) = used (value.usages ++ without name.text body.usages)
expr_step (of.Chain first rest span) = used (first.usages ++ flat_map (λ r. r) rest)
expr_step (of.Not operand span) = used operand.usages
expr_step (of.Negated operand span) = used operand.usages
expr_step (of.Calls part calls span) = used (calls_usages part calls)
expr_step (of.Number value span) = used []
expr_step (of.Str value span) = used []
expr_step (of.Bool value span) = used []
expr_step (of.Null span) = used []
expr_step (of.Invalid span) = used []
expr_step (of.Parens inner span) = used inner.usages
expr_step (of.If condition one other span) = used (condition.usages ++ one.usages ++ other.usages)
expr_step (of.Coll kind elements span) = used (flat_map (λ e. e.usages) elements)
expr_step (of.Call name args span) = used (Call name.text ∷ args.usages)
expr_step (of.Named path) = record { usages = named_usages path.names; is_class = nat_le (length path.names) 2 }

abbrev pub is_all_instances : List ℕ → Bool
is_all_instances name = same_name (codes "allInstances") name

abbrev pub infix_step : of.Infix-F ArgsUsages ExprUsages CallUsages (List Usage) → List Usage
infix_step link = link.right.usages

abbrev pub postfix_step : of.Postfix-F ArgsUsages ExprUsages CallUsages (List Usage) → CallUsages
postfix_step (of.Property name) = record { usages = []; is_extent = false }
postfix_step (of.Dot name args span) = record { usages = args.usages; is_extent = is_all_instances name.text && args.is_empty }
postfix_step (of.Arrow name args span) = record { usages = args.usages; is_extent = false }
postfix_step (of.Iterator name variable ty body span) = record { usages = without variable.text body.usages; is_extent = false }

abbrev pub is_nothing : {X : Type 0} → List X → Bool
is_nothing [] = true
is_nothing (x ∷ xs) = false

abbrev pub args_step : of.Args-F ArgsUsages ExprUsages CallUsages (List Usage) → ArgsUsages
args_step (of.Values values) = record { usages = flat_map (λ e. e.usages) values; is_empty = is_nothing values }
args_step (of.Class path) = record { usages = []; is_empty = false }

-- ---- of trees

abbrev pub expr_usages : Expr → ExprUsages
expr_usages = fold-Expr ArgsUsages ExprUsages CallUsages (List Usage) args_step expr_step postfix_step infix_step

abbrev pub infix_usages : Infix → List Usage
infix_usages = fold-Infix ArgsUsages ExprUsages CallUsages (List Usage) args_step expr_step postfix_step infix_step

abbrev pub postfix_usages : Postfix → CallUsages
postfix_usages = fold-Postfix ArgsUsages ExprUsages CallUsages (List Usage) args_step expr_step postfix_step infix_step

abbrev pub args_usages : Args → ArgsUsages
args_usages = fold-Args ArgsUsages ExprUsages CallUsages (List Usage) args_step expr_step postfix_step infix_step

abbrev pub usages : Expr → List Usage
usages e = (expr_usages e).usages

-- the variables of a relation or a query that an expression names, and what it calls by name, each as often as it does
abbrev pub variables_in : Expr → List (List ℕ)
variables_in e = filter_map variable_in (usages e)

abbrev pub calls_in : Expr → List (List ℕ)
calls_in e = filter_map call_in (usages e)
