-- The least rule that a relation breaks, as it is found by one test after another.
use Rattle.std.specs.Prelude.{◌≡◌, ◌<◌, ℕ, true, List, Option, None, Some}
use Rattle.mof_metamodel.specs.declared.desc.MetaDesc.{MetaDesc}
use Rattle.qv_syntax.specs.declared.program.Program.{Program}
use Rattle.qv_syntax.specs.declared.program.Rel.{Rel}
use Rattle.enforcement_rules.specs.Rules.{Breaks}

module _ (metas : List MetaDesc) (program : Program) (rel : Rel) where
  -- the rules below this one are kept
  abbrev pub AreKeptBelow : ℕ → Type 0
  AreKeptBelow n = (lesser : ℕ) → lesser < n → ¬ Breaks metas program rel lesser

  -- the least rule that is broken, or none below the one that is asked for next
  abbrev pub IsLeastBelow : ℕ → Option ℕ → Type 0
  IsLeastBelow next None = AreKeptBelow next
  IsLeastBelow next (Some rule) = Breaks metas program rel rule × AreKeptBelow rule

  -- the relation is one of the direction and breaks the rule
  abbrev pub BreaksHere : ℕ → Type 0
  BreaksHere rule = (rel.in_direction ≡ true) × Breaks metas program rel rule

  -- the least such rule, or none
  abbrev pub IsBrokenBy : Option ℕ → Type 0
  IsBrokenBy None = (rule : ℕ) → ¬ BreaksHere rule
  IsBrokenBy (Some rule) = BreaksHere rule × ((lesser : ℕ) → lesser < rule → ¬ BreaksHere lesser)
