use Rattle.std.proofs.Common.{◌≡◌, ℕ, [], drop, map}
use Rattle.std.specs.Prelude.{nat_eq}
use Rattle.std.specs.List.{list_any}
use Rattle.mof_metamodel.specs.Metamodels.{united}
use Rattle.object_tables.specs.declared.value.ObjId.{ObjId}
use Rattle.model_assembly.specs.AssemblyOrders.{targets_run}
use Rattle.model_assembly.proofs.assembly.orders.distinct_targets.Given as goal

-- the targets so far, and those of the rest that aren't among them
abbrev pub invariant-loop-naming : goal.invariant-loop-naming
invariant-loop-naming l = (united (map (λ (b : ObjId). b.0) l.targets.items) (targets_run l.object l.property (drop l.naming-index l.namings)) ≡ united [] (targets_run l.object l.property l.namings))
    × ((q : ℕ) → list_any (nat_eq q) l.met.set.keys ≡ list_any (nat_eq q) (map (λ (b : ObjId). b.0) l.targets.items))
