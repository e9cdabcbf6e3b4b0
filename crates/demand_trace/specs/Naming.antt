-- Where the code finds names: the metamodel of the target, and for each of its classes the place of its key among the keys of the program.
use Rattle.std.specs.Prelude.{◌≡◌, ◌<◌, ℕ, suc, Bool, ◌&&◌, ◌==◌, is_some, List, [], ◌∷◌, Option, None, Some, slice_get, slice_index_or, set, length, Contains, All, if◌then◌else◌}
use Rattle.std.specs.Option.{option_map, option_and_then}
use Rattle.mof_metamodel.specs.declared.desc.PropId.{PropId}
use Rattle.mof_metamodel.specs.declared.desc.ClassId.{ClassId}
use Rattle.mof_metamodel.specs.Tables.{IsPropOf}
use Rattle.qv_syntax.specs.declared.program.Program.{Program}
use Rattle.qv_syntax.specs.declared.program.Key.{Key}
use Rattle.repair_semantics.specs.TargetItems.{key_of}
use Rattle.demand_trace.specs.declared.names.Names.{Names}
use Rattle.demand_trace.specs.Traces.{World, target_meta}

-- ---- the places of keys, for each class that of its first one

abbrev pub Places : Type 0
Places = List (Option ℕ)

abbrev pub place_at : Places → ℕ → Option ℕ
place_at table c = slice_index_or table c None

-- the table with a place for the class, if it has none yet
abbrev pub with_first : ℕ → ℕ → Places → Places
with_first c place table = if is_some (place_at table c) then table else set table c (Some place)

-- the same of a key, if it is one of the metamodel of this number
abbrev pub with_key : ℕ → ℕ → Key → Places → Places
with_key number place key table = if key.meta == number then with_first key.class.0 place table else table

-- and of keys from this place on
abbrev pub with_keys : ℕ → ℕ → List Key → Places → Places
with_keys number place [] table = table
with_keys number place (key ∷ keys) table = with_keys number (suc place) keys (with_key number place key table)

-- the class of the key has a place in a table of so many
abbrev pub HasPlace : ℕ → ℕ → Key → Type 0
HasPlace number count key = key.meta ≡ number → key.class.0 < count

-- the properties of the key at a place
abbrev pub props_at : Program → Option ℕ → Option (List PropId)
props_at program place = option_map (λ (key : Key). key.props) (option_and_then (slice_get program.keys) place)

-- the table has the keys of the target's classes
abbrev pub AreKeyPlaces : Program → Places → Type 0
AreKeyPlaces program table = (c : ℕ) → props_at program (place_at table c) ≡ key_of program c

-- ---- names

abbrev pub world : Names → World
world n = record { program = n.program.now; metas = n.metas.now; models = n.models.now }

-- the names are found: the metamodel is the target's, the table has the keys of its classes, and their properties are its own
pub record FindsNames (n : Names) : Type 0 where
  pub target : n.target.now ≡ target_meta (world n)
  pub keys : AreKeyPlaces n.program.now n.keys.now
  pub props : (c : ℕ) (props : List PropId) → key_of n.program.now c ≡ Some props → All (IsPropOf n.target.now) props
