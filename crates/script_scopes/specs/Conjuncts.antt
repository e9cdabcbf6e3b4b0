-- The conjuncts of when and where clauses (QVT 1.3, section 7.11.1.4): `a and b` counts as two; parentheses, and a part on which
-- nothing is called, are looked through.
use Rattle.std.specs.Prelude.{ℕ, Bool, true, false, if◌then◌else◌, List, [], ◌∷◌, ◌++◌, Option, None, Some}
use Rattle.std.specs.List.{flat_map, list_all}
use Rattle.qv_syntax.specs.declared.name.Name.{Name}
use Rattle.qv_syntax.specs.declared.operator.Operator.{Operator}
use Rattle.qv_syntax.specs.declared.operator.Operator.TheVariants as operators
use Rattle.qv_syntax.specs.declared.expr.Expr.{Expr, out-Expr, fold-Expr, rec-Expr}
use Rattle.qv_syntax.specs.declared.expr.Infix.{Infix, out-Infix, rec-Infix}
use Rattle.qv_syntax.specs.declared.expr.Postfix.{Postfix}
use Rattle.qv_syntax.specs.declared.expr.Args.{Args, out-Args}
use Rattle.qv_syntax.specs.declared.expr.Args.TheOpen as of
use Rattle.qv_syntax.specs.declared.script.BlockTree.{BlockTree}

-- ---- conjuncts

abbrev pub is_and : Operator → Bool
is_and operators.And = true
is_and operator = false

-- what an expression is split into, given itself
pub record Splitting : Type 1 where
  pub of : Expr → List Expr

-- of an operator and the part behind it: whether it is `and`, and the conjuncts of the part
pub record BehindOperator : Type 1 where
  pub is_and : Bool
  pub conjuncts : List Expr

-- the conjuncts of an expression, from the whole and those of its parts
abbrev pub conjuncts_rule : {X X' X'' X3 : Type 0} → (X' → Expr) → (X' → Splitting) → (X3 → BehindOperator) → of.Expr-F X X' X'' X3 → Expr → List Expr
conjuncts_rule part expr link (of.Chain first rest span) whole =
    if list_all (λ l. (link l).is_and) rest then (expr first).of (part first) ++ flat_map (λ l. (link l).conjuncts) rest else whole ∷ []
conjuncts_rule part expr link (of.Parens inner span) whole = (expr inner).of (part inner)
conjuncts_rule part expr link (of.Calls inner [] span) whole = (expr inner).of (part inner)
conjuncts_rule part expr link layer whole = whole ∷ []

abbrev pub splitting : Expr → Splitting
splitting = rec-Expr (Unit {1}) Splitting (Unit {1}) BehindOperator
    (λ X X' X'' X3 a part s l args expr call link layer. tt)
    (λ X X' X'' X3 a part s l args expr call link layer. record { of = conjuncts_rule part expr link layer })
    (λ X X' X'' X3 a part s l args expr call link layer. tt)
    (λ X X' X'' X3 a part s l args expr call link layer. record { is_and = is_and layer.operator; conjuncts = (expr layer.right).of (part layer.right) })

abbrev pub behind : Infix → BehindOperator
behind = rec-Infix (Unit {1}) Splitting (Unit {1}) BehindOperator
    (λ X X' X'' X3 a part s l args expr call link layer. tt)
    (λ X X' X'' X3 a part s l args expr call link layer. record { of = conjuncts_rule part expr link layer })
    (λ X X' X'' X3 a part s l args expr call link layer. tt)
    (λ X X' X'' X3 a part s l args expr call link layer. record { is_and = is_and layer.operator; conjuncts = (expr layer.right).of (part layer.right) })

-- the conjuncts of an expression, in the order of the text
abbrev pub conjuncts : Expr → List Expr
conjuncts e = (splitting e).of e

-- those of a clause; one that isn't written has none
abbrev pub clause_conjuncts : Option BlockTree → List Expr
clause_conjuncts (Some block) = flat_map conjuncts block.exprs
clause_conjuncts None = []

-- ---- what a conjunct is

abbrev pub one_name : List Name → Option (List ℕ)
one_name (name ∷ []) = Some name.text
one_name names = None

abbrev pub alone_step : of.Expr-F (Unit {0}) (Option (List ℕ)) (Unit {0}) (Unit {0}) → Option (List ℕ)
alone_step (of.Parens inner span) = inner
alone_step (of.Calls inner [] span) = inner
alone_step (of.Named path) = one_name path.names
alone_step layer = None

-- the name, if the expression is a variable alone
abbrev pub name_alone : Expr → Option (List ℕ)
name_alone = fold-Expr (Unit {0}) (Option (List ℕ)) (Unit {0}) (Unit {0}) (λ a. tt) alone_step (λ p. tt) (λ i. tt)

abbrev pub equal_to : Operator → Expr → Option Expr
equal_to operators.Equal e = Some e
equal_to operator e = None

abbrev pub behind_equals : List Infix → Option Expr
behind_equals (link ∷ []) = equal_to (out-Infix link).operator (out-Infix link).right
behind_equals links = None

-- a variable, and the expression that it is to equal
abbrev pub variable_with : Option (List ℕ) → Option Expr → Option (List ℕ × Expr)
variable_with (Some name) (Some e) = Some (name, e)
variable_with name e = None

abbrev pub equation_in : of.Expr-F Args Expr Postfix Infix → Option (List ℕ × Expr)
equation_in (of.Chain first rest span) = variable_with (name_alone first) (behind_equals rest)
equation_in layer = None

-- the variable and the expression, if the conjunct is `v = e`
abbrev pub equation_of : Expr → Option (List ℕ × Expr)
equation_of e = equation_in (out-Expr e)

abbrev pub called_with : List ℕ → of.Args-F Args Expr Postfix Infix → Option (List ℕ × List Expr)
called_with name (of.Values values) = Some (name, values)
called_with name (of.Class path) = None

abbrev pub call_in : of.Expr-F Args Expr Postfix Infix → Option (List ℕ × List Expr)
call_in (of.Call name args span) = called_with name.text (out-Args args)
call_in layer = None

-- the name and the arguments, if the conjunct is `name(e1, ..)`
abbrev pub call_of : Expr → Option (List ℕ × List Expr)
call_of e = call_in (out-Expr e)

-- ---- `null` as what an item asks for

abbrev pub null_step : of.Expr-F (Unit {0}) Bool (Unit {0}) (Unit {0}) → Bool
null_step (of.Null span) = true
null_step (of.Parens inner span) = inner
null_step layer = false

-- the literal `null`, in parentheses or not: as an item it asks for an empty slot
abbrev pub is_null : Expr → Bool
is_null = fold-Expr (Unit {0}) Bool (Unit {0}) (Unit {0}) (λ a. tt) null_step (λ p. tt) (λ i. tt)
