-- That a model's parts stay whole: what an edit shows is kept where what was shown before it is.
use Rattle.std.proofs.Common.{◌≡◌, ℕ, ◌≤◌, List, sym, subst}
use Rattle.mof_metamodel.specs.declared.desc.MetaDesc.{MetaDesc}
use Rattle.object_tables.specs.Rows.{Row}
use Rattle.object_tables.specs.declared.limit.TheConstants.{MAX_OBJECTS}
use Rattle.object_tables.specs.Models.{ModelData, live_count}
use Rattle.object_tables.specs.Kept.{Kept}
use Rattle.object_tables.specs.Whole.{IsWhole}
use Rattle.object_tables.proofs.ModelLemmas.{seen}
use Rattle.object_tables.proofs.AddLemmas.{live_seen}

pub kept_seen : (meta : MetaDesc) (rows : List Row) (finds : List ℕ → ℕ → Type 0) (live : ℕ) (v : ModelData) → IsWhole meta rows finds live → seen meta rows ≡ v
    → Kept v
kept_seen meta rows finds live v w e = subst Kept e w.kept

pub kept_after : (meta : MetaDesc) (rows new : List Row) (finds : List ℕ → ℕ → Type 0) (live : ℕ) (v v' : ModelData) → IsWhole meta rows finds live
    → seen meta rows ≡ v → seen meta new ≡ v' → (Kept v → Kept v')
    → Kept (seen meta new)
kept_after meta rows new finds live v v' w e e' f = subst Kept (sym e') (f (kept_seen meta rows finds live v w e))

pub kept_unchanged : (meta : MetaDesc) (rows new : List Row) (finds : List ℕ → ℕ → Type 0) (live : ℕ) → IsWhole meta rows finds live → new ≡ rows → Kept (seen meta new)
kept_unchanged meta rows new finds live w e = subst (λ rs. Kept (seen meta rs)) (sym e) w.kept

-- a model has at most so many live objects, and numbers
pub few_seen : (meta : MetaDesc) (rows : List Row) (finds : List ℕ → ℕ → Type 0) (live : ℕ) (v : ModelData) → IsWhole meta rows finds live → seen meta rows ≡ v
    → live_count v ≤ MAX_OBJECTS
few_seen meta rows finds live v w e = subst (λ (n : ℕ). n ≤ MAX_OBJECTS) (sym (live_seen meta rows v finds live w.tied e)) w.few
