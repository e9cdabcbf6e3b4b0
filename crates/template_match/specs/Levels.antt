-- A search on its way: it has given variables values, one after another, and of each there is a level, with the candidates that are left for
-- it. What the levels owe are the bindings that give one of these variables a candidate that is left, and those before it what they have.
-- The last level comes first.
use Rattle.std.specs.Prelude.{◌≡◌, ◌⊎◌, ◌↔◌, ⊤, ℕ, true, List, [], ◌∷◌, Option, None, Some, slice_set, Contains}
use Rattle.qvtr_semantics.specs.declared.datum.Datum.{Datum}
use Rattle.qvtr_semantics.specs.Templates.{Values, value_at}
use Rattle.template_match.specs.declared.branch.Branch.{Branch}
use Rattle.template_match.specs.declared.prepared.Prepared.{Prepared}
use Rattle.template_match.specs.Problems.{Problem}
use Rattle.template_match.specs.Search.{is_open}
use Rattle.template_match.specs.Posed.{IsSought}
use Rattle.template_match.specs.Prepared.{problem_in, IsPrepared}
use Rattle.template_match.specs.Branches.{IsBranch, IsFound}

abbrev pub without_value : Values → ℕ → Values
without_value a v = slice_set a v None

-- the variable was open where its level began
pub record IsLevel (s : Prepared) (a : Values) (level : Branch) : Type 0 where
  pub prepared : IsPrepared s a
  pub opens : is_open (problem_in s) a level.variable ≡ true

-- the levels that led to this binding
abbrev pub AreLevels : Prepared → Values → List Branch → Type 0
AreLevels s a [] = ⊤
AreLevels s a (level ∷ before) = IsLevel s (without_value a level.variable) level × AreLevels s (without_value a level.variable) before

-- a binding that is looked for from here, and gives the variable one of the candidates that are left
abbrev pub IsLeft : Problem → Values → Branch → Values → Type 0
IsLeft p a level b = IsSought p a b × ((d : Datum) × Contains level.candidates d × (value_at b level.variable ≡ Some d))

abbrev pub IsOwed : Problem → Values → List Branch → Values → Type 0
IsOwed p a [] b = ⊥
IsOwed p a (level ∷ before) b = IsLeft p (without_value a level.variable) level b ⊎ IsOwed p (without_value a level.variable) before b

-- it is found, or will be
abbrev pub IsFoundOrOwed : Problem → Values → List Branch → List Values → Values → Type 0
IsFoundOrOwed p a levels found b = Contains found b ⊎ IsOwed p a levels b

-- what begins at a binding: a level, or all is found that is looked for from there on
abbrev pub IsBegun : Problem → Values → List Values → List Values → Option Branch → Type 0
IsBegun p a olds news None = IsFound p a olds news
IsBegun p a olds news (Some level) = (news ≡ olds) × IsBranch p a level

-- levels behind others: what is found or owed then, was so before, or is looked for from this binding on
pub record AreMore (s : Prepared) (a : Values) (before : List Branch) (olds : List Values) (after : List Branch) (news : List Values) : Type 0 where
  pub levels : AreLevels s a after
  pub all : (b : Values) → IsFoundOrOwed (problem_in s) a after news b ↔ (IsFoundOrOwed (problem_in s) a before olds b ⊎ IsSought (problem_in s) a b)

-- a step from a binding and its levels to others: what is found or owed stays the same
pub record IsStep (s : Prepared) (a : Values) (before : List Branch) (olds : List Values) (c : Values) (after : List Branch) (news : List Values) : Type 0 where
  pub levels : AreLevels s c after
  pub same : (b : Values) → IsFoundOrOwed (problem_in s) c after news b ↔ IsFoundOrOwed (problem_in s) a before olds b
