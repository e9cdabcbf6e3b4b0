-- The table of keys: for each class of the target's metamodel its key.
use Rattle.std.specs.Prelude.{◌≡◌, ◌<◌, ℕ, suc, nat_eq, List, [], ◌∷◌, Some, set, Contains, if◌then◌else◌}
use Rattle.std.specs.List.{list_any}
use Rattle.mof_metamodel.specs.declared.desc.MetaDesc.{MetaDesc}
use Rattle.mof_metamodel.specs.declared.desc.PropId.{PropId}
use Rattle.mof_metamodel.specs.Metamodels.{prop_count}
use Rattle.qv_syntax.specs.declared.program.Key.{Key}
use Rattle.enforcement_rules.specs.declared.class_key.ClassKey.{ClassKey}
use Rattle.enforcement_rules.specs.KeyTests.{Keys, is_many_prop}

-- where the key is one of this metamodel, its class and its properties are there
pub record IsKeyWithin (desc : MetaDesc) (meta count : ℕ) (key : Key) : Type 0 where
  pub class : key.meta ≡ meta → key.class.0 < count
  pub props : key.meta ≡ meta → (p : PropId) → Contains key.props p → p.0 < prop_count desc

-- what the table says of the key of this number
abbrev pub class_key : MetaDesc → ℕ → Key → ClassKey
class_key desc k key = record { key = k; is_many = list_any (is_many_prop desc) key.props }

abbrev pub with_key : MetaDesc → ℕ → ℕ → Key → Keys → Keys
with_key desc meta k key table = if nat_eq key.meta meta then set table key.class.0 (Some (class_key desc k key)) else table

-- of keys from this number on
abbrev pub with_keys : MetaDesc → ℕ → ℕ → List Key → Keys → Keys
with_keys desc meta k [] table = table
with_keys desc meta k (key ∷ keys) table = with_keys desc meta (suc k) keys (with_key desc meta k key table)
