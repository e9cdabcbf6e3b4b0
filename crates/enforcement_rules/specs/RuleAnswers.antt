-- What is answered where a program can't be enforced.
use Rattle.std.specs.Prelude.{ℕ, Result, Ok, Err}
use Rattle.enforcement_rules.specs.declared.fault.RuleError.{RuleError}
use Rattle.enforcement_rules.specs.declared.fault.RuleError.TheVariants as errors

-- where a relation and a rule are answered, they are such
abbrev pub IfBroken : {X : Type 0} → Result X RuleError → (ℕ → ℕ → Type 0) → Type 0
IfBroken (Ok x) Holds = Unit {0}
IfBroken (Err errors.NoMemory) Holds = Unit {0}
IfBroken (Err (errors.Broken b)) Holds = Holds b.relation b.rule
