-- Nothing stands against a sound model, and where a set of demands stands no demands are refused.
use Rattle.std.proofs.Common.{◌≡◌, ℕ, List, Option, None, Some, refl, sym, ap, ◌∙◌, subst, arith}
use Rattle.std.specs.Option.{option_map}
use Rattle.object_tables.specs.declared.breach.BreachKind.{BreachKind}
use Rattle.object_tables.specs.declared.breach.BreachKind.TheVariants as kinds
use Rattle.object_tables.specs.declared.limit.LimitKind.TheVariants as limits
use Rattle.object_tables.specs.Models.{ModelData}
use Rattle.object_tables.specs.Validity.{Valid, IsFirst}
use Rattle.qv_syntax.specs.declared.program.Program.{Program}
use Rattle.repair_semantics.specs.TargetItems.{target_metamodel}
use Rattle.repair_semantics.specs.Demands.{demands_of}
use Rattle.repair_semantics.specs.Conflicts.{AreInConflict}
use Rattle.repair_semantics.proofs.EntryOrderLaws.{entries_once}
use Rattle.demand_set.specs.declared.demand_error.DemandError.{DemandError}
use Rattle.demand_set.specs.declared.demand_error.DemandError.TheVariants as demands
use Rattle.demand_set.specs.DemandSets.{DemandData, IsDemandSet, IsRefusal}
use Rattle.enforce_mode.specs.declared.error.EnforceError.{EnforceError}
use Rattle.enforce_mode.specs.declared.error.EnforceError.TheVariants as making
use Rattle.enforce_mode.specs.Made.{IsSound, IsAgainst}

-- a valid model breaks no rule
unbroken : (m : ModelData) → Valid m → (kind : BreachKind) (o : ℕ) (prop : Option ℕ) → IsFirst m kind o prop → ⊥
unbroken m v kinds.Lower o (Some p) (few, before) = (v.bounds o p).lower few
unbroken m v kinds.Upper o (Some p) ((enough, many), before) = (v.bounds o p).upper many
unbroken m v kinds.ContainmentCycle o (Some p) (none, before) = none
unbroken m v kind o None (same, least, kept) = v.acyclic o least.cycle

-- what stands against a sound model is want of memory alone
pub only_memory : (made : ModelData) → IsSound made → (e : EnforceError) → IsAgainst made e → e ≡ making.NoMemory
only_memory made sound making.NoMemory against = refl
only_memory made sound (making.Invalid b id) against = absurd (unbroken made sound.valid b.kind b.object.0 (option_map (λ p. p.0) b.prop) against.1)
only_memory made sound (making.Limit limits.Objects) against = absurd (let few = sound.few in omega (arith, few, against))
only_memory made sound (making.Limit limits.Depth) against = absurd (sound.flat against.2)

-- where there is a set of demands none is refused
pub not_refused : (program : Program) (models : List ModelData) (d : DemandData) → IsDemandSet program models d → (e : DemandError) → IsRefusal program models e → e ≡ demands.NoMemory
not_refused program models d is demands.NoMemory refusal = refl
not_refused program models d is (demands.Cycle chain) refusal = absurd (is.acyclic chain refusal)
not_refused program models d is (demands.Deep chain) refusal = absurd (is.short chain refusal)
not_refused program models d is (demands.Unmet entry place) refusal = absurd (is.met entry refusal.0)
not_refused program models d is (demands.Conflict clash) refusal =
    let c = refusal.clash_is in
    let same = entries_once program models refusal.entries d.entries refusal.are is.entries in
    absurd (is.peaceful c.first c.second c.c c.d
    (subst (λ list. AreInConflict (target_metamodel program models) list c.first c.second c.c c.d) (ap (demands_of program models) same ∙ sym is.list) c.conflict))
