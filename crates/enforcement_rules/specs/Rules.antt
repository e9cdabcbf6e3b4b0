-- When a program can be enforced towards its target: each relation of the direction keeps the rules E1 to E11 (QVT 1.3, sections 7.2,
-- 7.9 and 7.10.2).
use Rattle.std.specs.Prelude.{◌≡◌, ◌<◌, ℕ, List, Some, true, slice_get}
use Rattle.mof_metamodel.specs.declared.desc.MetaDesc.{MetaDesc}
use Rattle.qv_syntax.specs.declared.program.Program.{Program}
use Rattle.qv_syntax.specs.declared.program.Rel.{Rel}
use Rattle.enforcement_rules.specs.KnownVariables.{HasUndeterminedData}
use Rattle.enforcement_rules.specs.Expressions.{TouchesTarget}
use Rattle.enforcement_rules.specs.Patterns.{IsUnmarked, HasUnsettledPart, HasUnmadeObject}
use Rattle.enforcement_rules.specs.Keys.{HasUnkeyedTemplate, HasManyValuedKey, HasTwoKeys, HasKeyCycle}
use Rattle.enforcement_rules.specs.Calls.{HasUnmatchedCall, HasWrongArgument}

-- the relation breaks the rule of this number
pub data Breaks (metas : List MetaDesc) (program : Program) (rel : Rel) (rule : ℕ) : Type 0 where
  e1 : rule ≡ 1 → IsUnmarked program rel → Breaks metas program rel rule
  e2 : rule ≡ 2 → TouchesTarget program rel → Breaks metas program rel rule
  e3 : rule ≡ 3 → HasUnsettledPart metas program rel → Breaks metas program rel rule
  e4 : rule ≡ 4 → HasUnmadeObject metas program rel → Breaks metas program rel rule
  e5 : rule ≡ 5 → HasUnkeyedTemplate metas program rel → Breaks metas program rel rule
  e6 : rule ≡ 6 → HasManyValuedKey metas program rel → Breaks metas program rel rule
  e7 : rule ≡ 7 → HasTwoKeys metas program → Breaks metas program rel rule
  e8 : rule ≡ 8 → HasKeyCycle metas program rel → Breaks metas program rel rule
  e9 : rule ≡ 9 → HasUnmatchedCall program rel → Breaks metas program rel rule
  e10 : rule ≡ 10 → HasWrongArgument metas program rel → Breaks metas program rel rule
  e11 : rule ≡ 11 → HasUndeterminedData program rel → Breaks metas program rel rule

-- a relation of the direction breaks the rule
pub record BreaksAt (metas : List MetaDesc) (program : Program) (number rule : ℕ) : Type 0 where
  pub rel : Rel
  pub found : slice_get program.rels number ≡ Some rel
  pub in_direction : rel.in_direction ≡ true
  pub breaks : Breaks metas program rel rule

-- the first relation of the direction, in the order of the text, that breaks a rule, with the least that it breaks
pub record Broken (metas : List MetaDesc) (program : Program) (number rule : ℕ) : Type 0 where
  pub breaks : BreaksAt metas program number rule
  pub least : (lesser : ℕ) → lesser < rule → ¬ BreaksAt metas program number lesser
  pub first : (earlier other : ℕ) → earlier < number → ¬ BreaksAt metas program earlier other

-- no relation of the direction breaks a rule
abbrev pub IsEnforceable : List MetaDesc → Program → Type 0
IsEnforceable metas program = (number rule : ℕ) → ¬ BreaksAt metas program number rule
