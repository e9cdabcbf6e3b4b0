-- What of a relation doesn't go round in a circle, so that what its entries make can be computed in an order: its equations, and the variables in
-- key values. It follows from the rules E11 and E8 and from what a transformation means (QVT 1.3, section 7.10.2).
use Rattle.std.specs.Prelude.{◌≡◌, ◌<◌, ℕ, List, Some, true, length, Contains, All}
use Rattle.mof_metamodel.specs.declared.desc.MetaDesc.{MetaDesc}
use Rattle.mof_metamodel.specs.Metamodels.{prop_count}
use Rattle.qv_syntax.specs.declared.typed.Typed.{Typed}
use Rattle.qv_syntax.specs.declared.program.Program.{Program}
use Rattle.qv_syntax.specs.declared.program.Rel.{Rel}
use Rattle.enforcement_rules.specs.KnownVariables.{NamesOf}
use Rattle.repair_semantics.specs.TargetItems.{TargetItem, target_items}
use Rattle.repair_semantics.specs.Making.{equation_of}
use Rattle.entry_making.specs.Orders.{HasNoCycle}
use Rattle.entry_making.specs.Givers.{Giver, KeyGivers, key_givers, is_made}

-- the equation of the first variable names the second one
pub record WaitsForEquation (rel : Rel) (v w : ℕ) : Type 0 where
  pub e : Typed
  pub equation : equation_of rel.wheres v ≡ Some e
  pub names : NamesOf rel e w

-- the first variable is made, and the second one stands in a key value of it
pub record WaitsForKey (program : Program) (desc : MetaDesc) (rel : Rel) (v w : ℕ) : Type 0 where
  pub made : is_made program rel v ≡ true
  pub givers : KeyGivers
  pub are : key_givers program desc rel (target_items program rel) v ≡ Some givers
  pub among : Contains givers.keys (Giver.variable w)

-- the properties of its target items are ones of the metamodel too
pub record IsOrderable (program : Program) (desc : MetaDesc) (rel : Rel) : Type 0 where
  pub props : All (λ (item : TargetItem). item.prop.0 < prop_count desc) (target_items program rel)
  pub equations : HasNoCycle (WaitsForEquation rel)
  pub keys : HasNoCycle (WaitsForKey program desc rel)
