-- Which variables of an entry have values that are given: the universal ones, and of an entry that is called the root of its target domain (QVT 1.3,
-- section 7.11.1.4; that this root is given is this engine's own). The entry makes the values of all others.
use Rattle.std.specs.Prelude.{◌≡◌, ◌⊎◌, ℕ, Bool, true, Contains}
use Rattle.qv_syntax.specs.declared.program.Program.{Program}
use Rattle.qv_syntax.specs.declared.program.Rel.{Rel}
use Rattle.qv_syntax.specs.declared.program.Dom.{Dom}
use Rattle.qv_syntax.specs.Relations.{IsTargetDomain}

-- the variable is the root of the domain of the target
pub record IsTargetRoot (program : Program) (rel : Rel) (v : ℕ) : Type 0 where
  pub dom : Dom
  pub of : IsTargetDomain program rel dom
  pub root : dom.root ≡ v

abbrev pub IsGiven : Program → Rel → Bool → ℕ → Type 0
IsGiven program rel called v = Contains rel.universal v ⊎ ((called ≡ true) × IsTargetRoot program rel v)
