-- Variables are few, where their numbers are: each is a universal or an existential one.
use Rattle.std.specs.Prelude.{◌≡◌, ◌<◌, ◌≤◌, ◌^◌, ℕ, zero, suc, List, [], ◌∷◌, length, Some, slice_get, Contains}
use Rattle.std.proofs.Common.{refl, arith, inl, inr}
use Rattle.std.proofs.lemmas.Bool.{cases_lt}
use Rattle.std.proofs.lemmas.List.Elements.{All-contains}
use Rattle.mof_metamodel.specs.declared.desc.MetaDesc.{MetaDesc}
use Rattle.qv_syntax.specs.declared.program.Program.{Program}
use Rattle.qv_syntax.specs.declared.program.Rel.{Rel}
use Rattle.qv_syntax.specs.declared.program.Var.{Var}
use Rattle.qv_syntax.specs.Directions.{HasVariables}
use Rattle.qv_syntax.specs.Relations.{IsUniversal}
use Rattle.qv_syntax.specs.WellFormed.{IsWellFormed}
use Rattle.enforcement_rules.proofs.ListLaws.{among_some}
use Rattle.enforce_steps.specs.Premises.{AreFew, AreNumbered, IsNumbered}

some_there : {X : Type 0} (xs : List X) (i : ℕ) → i < length xs → (x : X) × (slice_get xs i ≡ Some x)
some_there [] i low = absurd (omega (arith, low))
some_there (x ∷ xs) zero low = (x, refl)
some_there (x ∷ xs) (suc i) low = some_there xs i (omega (arith, low))

-- a number that is among few is low
among_few : (v : ℕ) (numbers : List ℕ) → AreFew numbers → Contains numbers v → 2 ^ 32 ≤ v → ⊥
among_few v numbers few has high = let low = All-contains (λ (w : ℕ). w < 2 ^ 32) numbers v few has in omega (arith, low, high)

-- so no variable has a high one
no_high : (program : Program) (rel : Rel) (v : ℕ) (var : Var) → HasVariables program rel → slice_get rel.vars v ≡ Some var → IsNumbered rel → 2 ^ 32 ≤ v → ⊥
no_high program rel v var has found numbered high =
    let none : ¬ IsUniversal program rel v = λ is. among_few v rel.universal numbered.0 ((has.universal v var found).1 is) high in
    among_few v rel.existential numbered.1 ((has.existential v var found).1 none) high

pub few_variables : (metas : List MetaDesc) (program : Program) → IsWellFormed metas program → AreNumbered program.rels → (rel : Rel) → Contains program.rels rel → length rel.vars ≤ 2 ^ 32
few_variables metas program well numbered rel has = elim (cases_lt (2 ^ 32) (length rel.vars)) [
  | inl more ↦ (let there = some_there rel.vars (2 ^ 32) more in
      let at = among_some program.rels rel has in
      absurd (no_high program rel (2 ^ 32) there.0 (well.relations at.0 rel at.1).variables there.1 (All-contains IsNumbered program.rels rel numbered has) (omega arith)))
  | inr few ↦ few
]
