-- The object of a breach is one of the model.
use Rattle.std.proofs.Common.{ℕ}
use Rattle.std.specs.Prelude.{Option, None, Some, option_map}
use Rattle.object_tables.specs.declared.breach.Breach.{Breach}
use Rattle.object_tables.specs.declared.breach.BreachKind.{BreachKind}
use Rattle.object_tables.specs.declared.breach.BreachKind.TheVariants as kinds
use Rattle.object_tables.specs.Containment.{IsOnCycle}
use Rattle.object_tables.specs.Kept.{Kept}
use Rattle.object_tables.specs.Models.{ModelData, IsLive}
use Rattle.object_tables.specs.Validity.{IsBrokenAt, IsFirst, IsFirstBreach, IsPropertyOf}
use Rattle.object_tables.proofs.ModelLemmas.{live_from_class}
use Rattle.object_tables.proofs.KeptLemmas.{sound_of, linked_partner}

owner_live : (m : ModelData) (o p : ℕ) → IsPropertyOf m o p → IsLive m o
owner_live m o p h = live_from_class m o h.class h.class_is

broken_live : (m : ModelData) (kind : BreachKind) (o p : ℕ) → IsBrokenAt m kind o p → IsLive m o
broken_live m kinds.Lower o p h = owner_live m o p h.property
broken_live m kinds.Upper o p h = owner_live m o p h.1.property
broken_live m kinds.ContainmentCycle o p h = absurd h

cycle_live : (m : ModelData) (o : ℕ) → Kept m → IsOnCycle m o → IsLive m o
cycle_live m o k (a, path, by, rest) = let partner = linked_partner m by.0 a o (sound_of m k) by.1.linked in live_from_class m o partner.class partner.class_is

pub breach_live : (m : ModelData) (b : Breach) → Kept m → IsFirstBreach m b → IsLive m b.object.0
breach_live m b k h = by (option_map (λ p. p.0) b.prop) h
  where
    by : (o : Option ℕ) → IsFirst m b.kind b.object.0 o → IsLive m b.object.0
    by None f = cycle_live m b.object.0 k f.1.cycle
    by (Some p) f = broken_live m b.kind b.object.0 p f.0
