-- Which variables of a relation are known before its target is made: those of its sources, of its callers and of its when clause, and data
-- that follow from these (QVT 1.3, sections 7.10.2 and 7.11.1.4).
use Rattle.std.specs.Prelude.{◌<◌, ℕ, length, Contains}
use Rattle.qv_syntax.specs.declared.typed.Typed.{Typed}
use Rattle.qv_syntax.specs.declared.program.Program.{Program}
use Rattle.qv_syntax.specs.declared.program.Rel.{Rel}
use Rattle.qv_syntax.specs.declared.program.Conj.TheVariants as conjuncts
use Rattle.qv_syntax.specs.Parts.{Names}
use Rattle.qv_syntax.specs.Relations.{IsUniversal, IsDataVariable}

-- the variables of the relation that an expression names; those of `let` and of iterators have numbers behind these
pub record NamesOf (rel : Rel) (e : Typed) (v : ℕ) : Type 0 where
  pub own : v < length rel.vars
  pub names : Names e v

-- The least set that these two rules give. So equations that go round in a circle determine nothing.
pub data IsKnown (program : Program) (rel : Rel) : ℕ → Type 0 where
  universal : (v : ℕ) → IsUniversal program rel v → IsKnown program rel v
  -- an existential data variable by its equation in where
  determined : (v : ℕ) (e : Typed) → ¬ IsUniversal program rel v → IsDataVariable rel v → Contains rel.wheres (conjuncts.Equation v e)
      → ((w : ℕ) → NamesOf rel e w → IsKnown program rel w) → IsKnown program rel v

-- E11: each existential data variable has its equation in where, which determines it over known variables, and these equations have no
-- cycle. It is broken where one isn't known.
pub record HasUndeterminedData (program : Program) (rel : Rel) : Type 0 where
  pub v : ℕ
  pub data_variable : IsDataVariable rel v
  pub existential : ¬ IsUniversal program rel v
  pub unknown : ¬ IsKnown program rel v
