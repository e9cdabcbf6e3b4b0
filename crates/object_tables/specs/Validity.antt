-- Valid models, and where the others first break a rule (MOF 2.5.1, 12.4 and UML 2.5.1, 7.5.3: multiplicities; 9.5.3: composition).
use Rattle.std.specs.Prelude.{◌≡◌, ◌<◌, ℕ, if◌then◌else◌, Option, Some, None, length, Contains, option_map}
use Rattle.mof_metamodel.specs.Metamodels.{props_of, prop_at, type_of}
use Rattle.object_tables.specs.declared.breach.Breach.{Breach}
use Rattle.object_tables.specs.declared.breach.BreachKind.{BreachKind}
use Rattle.object_tables.specs.declared.breach.BreachKind.TheVariants as kinds
use Rattle.object_tables.specs.Models.{ModelData, class_at, is_class_type, values_at, partners_at, slot_number}
use Rattle.object_tables.specs.Containment.{IsOnCycle, IsAcyclic}
use Rattle.object_tables.specs.Kept.{Kept}

-- the property is one of the object's class
pub record IsPropertyOf (m : ModelData) (o p : ℕ) : Type 0 where
  pub class : ℕ
  pub class_is : class_at m o ≡ Some class
  pub has : Contains (props_of m.meta class) p

-- how many partners an object has at a reference, or values at an attribute
abbrev pub count_at : ModelData → ℕ → ℕ → ℕ
count_at m o p = if is_class_type (type_of m.meta p) then length (partners_at m o p) else length (values_at m o p)

-- at a property of its class the object has fewer than the lower bound
pub record HasTooFew (m : ModelData) (o p : ℕ) : Type 0 where
  pub property : IsPropertyOf m o p
  pub below : count_at m o p < (prop_at m.meta p).lower

-- at a property of its class the object has more than the upper bound; an upper bound of None is unbounded
pub record HasTooMany (m : ModelData) (o p : ℕ) : Type 0 where
  pub property : IsPropertyOf m o p
  pub bound : ℕ
  pub bound_is : (prop_at m.meta p).upper ≡ Some bound
  pub above : bound < count_at m o p

-- no bound is broken at the property of the object
pub record KeepsBounds (m : ModelData) (o p : ℕ) : Type 0 where
  pub lower : ¬ HasTooFew m o p
  pub upper : ¬ HasTooMany m o p

-- what a model keeps, with all bounds, and without a cycle of containers
pub record Valid (m : ModelData) : Type 0 where
  pub kept : Kept m
  pub bounds : (o p : ℕ) → KeepsBounds m o p
  pub acyclic : IsAcyclic m

-- no bound is broken at an object before o, nor at a property of o before p in class order
pub record IsKeptBefore (m : ModelData) (o p : ℕ) : Type 0 where
  pub objects : (a q : ℕ) → a < o → KeepsBounds m a q
  pub properties : (c q : ℕ) → class_at m o ≡ Some c → slot_number m.meta c q < slot_number m.meta c p → KeepsBounds m o q

-- the bound that is broken at a property of an object: the lower one, or else the upper one
abbrev pub IsBrokenAt : ModelData → BreachKind → ℕ → ℕ → Type 0
IsBrokenAt m kinds.Lower o p = HasTooFew m o p
IsBrokenAt m kinds.Upper o p = (¬ HasTooFew m o p) × HasTooMany m o p
IsBrokenAt m kinds.ContainmentCycle o p = ⊥

-- the least object on a cycle of containers
pub record IsLeastOnCycle (m : ModelData) (o : ℕ) : Type 0 where
  pub cycle : IsOnCycle m o
  pub least : (a : ℕ) → a < o → ¬ IsOnCycle m a

-- the first breach: a bound that is broken before all others, or where none is broken the least object on a cycle
abbrev pub IsFirst : ModelData → BreachKind → ℕ → Option ℕ → Type 0
IsFirst m kind o (Some p) = IsBrokenAt m kind o p × IsKeptBefore m o p
IsFirst m kind o None = (kind ≡ kinds.ContainmentCycle) × IsLeastOnCycle m o × ((a p : ℕ) → KeepsBounds m a p)

abbrev pub IsFirstBreach : ModelData → Breach → Type 0
IsFirstBreach m b = IsFirst m b.kind b.object.0 (option_map (λ p. p.0) b.prop)
