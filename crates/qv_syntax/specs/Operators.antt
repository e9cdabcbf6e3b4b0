-- How the operators of expressions bind.
use Rattle.std.specs.Prelude.{ℕ}
use Rattle.qv_syntax.specs.declared.operator.Operator.{Operator}
use Rattle.qv_syntax.specs.declared.operator.Operator.TheVariants.{Implies, Xor, Or, And, Equal, NotEqual, Less, Greater, AtMost, AtLeast, Plus, Minus, Times}

-- the level of an operator: one of a higher level binds tighter, those of one level go from left to right
abbrev pub level_of : Operator → ℕ
level_of Implies = 0
level_of Xor = 1
level_of Or = 2
level_of And = 3
level_of Equal = 4
level_of NotEqual = 4
level_of Less = 5
level_of Greater = 5
level_of AtMost = 5
level_of AtLeast = 5
level_of Plus = 6
level_of Minus = 6
level_of Times = 7
