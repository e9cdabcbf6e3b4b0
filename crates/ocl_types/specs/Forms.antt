-- The forms of expressions whose typing is a function of its own.
use Rattle.std.specs.Prelude.{Bool, true, false}
use Rattle.qv_syntax.specs.declared.expr.Expr.{Expr, out-Expr}
use Rattle.qv_syntax.specs.declared.expr.Infix.{Infix}
use Rattle.qv_syntax.specs.declared.expr.Postfix.{Postfix, out-Postfix}
use Rattle.qv_syntax.specs.declared.expr.Args.{Args}
use Rattle.qv_syntax.specs.declared.expr.Args.TheOpen as of

abbrev pub is_let_layer : of.Expr-F Args Expr Postfix Infix → Bool
is_let_layer (of.Let name ty value body span) = true
is_let_layer layer = false

-- `let .. in ..`
abbrev pub is_let : Expr → Bool
is_let e = is_let_layer (out-Expr e)

abbrev pub is_if_layer : of.Expr-F Args Expr Postfix Infix → Bool
is_if_layer (of.If condition one other span) = true
is_if_layer layer = false

-- `if .. then .. else .. endif`
abbrev pub is_if : Expr → Bool
is_if e = is_if_layer (out-Expr e)

abbrev pub is_calls_layer : of.Expr-F Args Expr Postfix Infix → Bool
is_calls_layer (of.Calls part calls span) = true
is_calls_layer layer = false

-- a part with calls behind it
abbrev pub is_calls : Expr → Bool
is_calls e = is_calls_layer (out-Expr e)

abbrev pub is_iterator_layer : of.Postfix-F Args Expr Postfix Infix → Bool
is_iterator_layer (of.Iterator name variable ty body span) = true
is_iterator_layer layer = false

-- `->name(variable | ..)`
abbrev pub is_iterator : Postfix → Bool
is_iterator p = is_iterator_layer (out-Postfix p)
