-- Where the code finds names: the metamodel of the target, with the number of its properties, and for each class the place of its key among
-- the keys of the program.
use Rattle.std.specs.Prelude.{◌≡◌, ℕ, ◌+◌, ◌-◌, ◌==◌, ◌&&◌, List, [], Option, None, Some, position, length, slice_get, MatchOption, if◌then◌else◌}
use Rattle.std.specs.Option.{option_map_or, option_and_then, option_or}
use Rattle.std.specs.BTreeMap.{BTreeMap, get}
use Rattle.std.specs.Ordering.{nat_cmp}
use Rattle.mof_metamodel.specs.declared.desc.MetaDesc.{MetaDesc}
use Rattle.mof_metamodel.specs.declared.desc.PropId.{PropId}
use Rattle.mof_metamodel.specs.Metamodels.{prop_count}
use Rattle.qv_syntax.specs.declared.program.Program.{Program}
use Rattle.qv_syntax.specs.declared.program.Key.{Key}
use Rattle.repair_semantics.specs.TargetItems.{target_metamodel, no_metamodel, is_key_of}
use Rattle.answer_texts.specs.Question.{Question}
use Rattle.answer_texts.specs.AskedView.{asked_view}
use Rattle.entry_texts.specs.declared.names.Names.{Names}
use Rattle.entry_texts.specs.declared.names.Target.{Target}

-- ---- the properties of a metamodel

-- the number behind a property
abbrev pub behind_prop : Option PropId → ℕ
behind_prop prop = option_map_or (λ (p : PropId). p.0 + 1) prop 0

-- the number behind that of the last of some properties, or 0
abbrev pub number_behind : List PropId → ℕ
number_behind props = behind_prop (slice_get props (length props - 1))

-- ---- the places of keys

-- the place of the first of the keys that is one of the class
abbrev pub place_of : Program → List Key → ℕ → Option ℕ
place_of program keys class = position (is_key_of program class) keys

-- the table has the place of each class among the keys
abbrev pub ArePlaces : Program → List Key → BTreeMap ℕ ℕ → Type 0
ArePlaces program keys places = (class : ℕ) → get nat_cmp places class ≡ place_of program keys class

-- the place is put behind the class, if it has none
abbrev pub PutsPlace : ℕ → ℕ → BTreeMap ℕ ℕ → BTreeMap ℕ ℕ → Type 0
PutsPlace own place before after = (class : ℕ) → get nat_cmp after class ≡ option_or (get nat_cmp before class) (if own == class then Some place else None)

-- the place is put behind the class of the key, if the key is one of the metamodel of this number
abbrev pub PutsKey : ℕ → Key → ℕ → BTreeMap ℕ ℕ → BTreeMap ℕ ℕ → Type 0
PutsKey number key place before after =
    (class : ℕ) → get nat_cmp after class ≡ option_or (get nat_cmp before class) (if (key.meta == number) && (key.class.0 == class) then Some place else None)

-- the properties of the key at a place
abbrev pub props_at : Program → Option ℕ → List PropId
props_at program place = option_map_or (λ (key : Key). key.props) (option_and_then (slice_get program.keys) place) []

-- ---- names

abbrev pub question : Names → Question
question n = asked_view n.asked.now

-- the metamodel of the target, and how many properties it has
abbrev pub IsTarget : MetaDesc → Target → Type 0
IsTarget desc target = (target.meta.now ≡ desc) × (target.props ≡ prop_count desc)

-- the metamodel is the target's, if it has one, and the table has the places of keys
pub record FindsNames (n : Names) : Type 0 where
  pub target : MatchOption n.target (target_metamodel (question n).program (question n).models ≡ no_metamodel) (IsTarget (target_metamodel (question n).program (question n).models))
  pub places : ArePlaces n.asked.now.program.now n.asked.now.program.now.keys n.places.now
