-- The names in reach within an expression: those of an environment, and the variables that the expression itself brings in.
use Rattle.std.specs.Prelude.{◌-◌, ℕ, List, take, length}
use Rattle.ocl_environments.specs.declared.variable.Variable.{Variable}
use Rattle.ocl_environments.specs.Environments.{Environment, NamesWith, with_value}
use Rattle.ocl_environments.specs.Parts.{within}

-- what contracts see as `Scope`
pub record Reach : Type 0 where
  -- what is in reach around the expression
  pub outer : Environment
  -- the lets and the iterator variables in force, the outermost first
  pub locals : NamesWith Variable

-- the names in reach, as an environment
abbrev pub in_reach : Reach → Environment
in_reach scope = within scope.outer scope.locals

-- a variable more
abbrev pub entered : Reach → List ℕ → Variable → Reach
entered scope name variable = record scope { locals = with_value scope.locals name variable }

-- without the last variable
abbrev pub left : Reach → Reach
left scope = record scope { locals = take (length scope.locals - 1) scope.locals }
