-- A copy of a model's parts.
use Rattle.std.proofs.Common.{◌≡◌, ℕ, List}
use Rattle.mof_metamodel.specs.declared.desc.MetaDesc.{MetaDesc}
use Rattle.object_tables.specs.Rows.{Row}
use Rattle.object_tables.specs.Tied.{IsTied}
use Rattle.object_tables.proofs.AddLemmas.{tied-given_up}

-- a copy's parts are tied
pub tied-copy : (meta : MetaDesc) (rows new : List Row) (finds finds' : List ℕ → ℕ → Type 0) (live : ℕ) → IsTied meta rows finds live → new ≡ rows
    → ((bytes : List ℕ) (o : ℕ) → finds bytes o → finds' bytes o) → IsTied meta new finds' live
tied-copy meta rows new finds finds' live t e h = tied-given_up meta rows new finds finds' live t e (λ bytes o l f. h bytes o f)
