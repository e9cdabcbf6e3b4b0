-- Which properties a class has, and which literals an enumeration (MOF 2.5.1, 12.4; UML 2.5.1, 9.2).
use Rattle.std.specs.Prelude.{◌≡◌, ◌≢◌, ◌↔◌, ℕ, ◌<◌, List, length, Contains}
use Rattle.mof_metamodel.specs.declared.desc.MetaDesc.{MetaDesc}
use Rattle.mof_metamodel.specs.declared.desc.PropId.{PropId}
use Rattle.mof_metamodel.specs.Metamodels.{Conforms, prop_count, prop_at, owner_of, props_of, enum_at, literal_at}

-- a property is one of the class exactly where the class conforms to its owner
abbrev pub HasWhatItConformsTo : MetaDesc → ℕ → Type 0
HasWhatItConformsTo desc c = (p : ℕ) → p < prop_count desc → Contains (props_of desc c) p ↔ Conforms desc c (owner_of desc p)

-- the property is one of the class, and has this name
pub record IsPropNamed (desc : MetaDesc) (c : ℕ) (name : List ℕ) (p : PropId) : Type 0 where
  pub has : Contains (props_of desc c) p.0
  pub named : (prop_at desc p.0).name ≡ name

-- no property of the class has this name
abbrev pub HasNoPropNamed : MetaDesc → ℕ → List ℕ → Type 0
HasNoPropNamed desc c name = (p : ℕ) → Contains (props_of desc c) p → (prop_at desc p).name ≢ name

-- no literal of the enumeration has this name
abbrev pub HasNoLiteral : MetaDesc → ℕ → List ℕ → Type 0
HasNoLiteral desc e name = (l : ℕ) → l < length (enum_at desc e).literals → literal_at desc e l ≢ name
