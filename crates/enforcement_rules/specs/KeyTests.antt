-- What the keys of the target's classes are, as tests.
use Rattle.std.specs.Prelude.{◌≡◌, ◌<◌, ◌||◌, ◌&&◌, ℕ, Bool, false, not, is_some, List, [], ◌++◌, Option, None, Some, map, length, slice_get, slice_index_or, Contains}
use Rattle.std.specs.List.{list_any, list_all}
use Rattle.std.specs.Option.{option_to_list}
use Rattle.mof_metamodel.specs.declared.desc.MetaDesc.{MetaDesc}
use Rattle.mof_metamodel.specs.declared.desc.PropId.{PropId}
use Rattle.mof_metamodel.specs.Metamodels.{prop_at, opposite_of}
use Rattle.ocl_environments.specs.Environments.{meta_at}
use Rattle.ocl_environments.specs.Navigation.{is_single}
use Rattle.qv_syntax.specs.declared.program.Program.{Program}
use Rattle.qv_syntax.specs.declared.program.Rel.{Rel}
use Rattle.qv_syntax.specs.declared.program.Key.{Key}
use Rattle.qv_syntax.specs.declared.program.Tmpl.{out-Tmpl}
use Rattle.qv_syntax.specs.declared.program.Item.{Item}
use Rattle.enforcement_rules.specs.declared.standing.Place.{Place}
use Rattle.enforcement_rules.specs.declared.class_key.ClassKey.{ClassKey}
use Rattle.enforcement_rules.specs.Keys.{IsKeyOf}
use Rattle.enforcement_rules.specs.NumberSets.{is_among}
use Rattle.enforcement_rules.specs.Standings.{Shown}
use Rattle.enforcement_rules.specs.TargetParts.{target_desc}

abbrev pub Keys : Type 0
Keys = List (Option ClassKey)

-- the key of the class of this number
abbrev pub key_at : Keys → ℕ → Option ClassKey
key_at keys class = slice_index_or keys class None

-- each number is one of a key of the program
abbrev pub AreKeyNumbers : Program → Keys → Type 0
AreKeyNumbers program keys = (class : ℕ) (k : ClassKey) → key_at keys class ≡ Some k → k.key < length program.keys

abbrev pub no_key : Key
no_key = record { meta = 0; class = record { 0 = 0 }; props = [] }

abbrev pub key_props : Program → ClassKey → List PropId
key_props program k = (slice_index_or program.keys k.key no_key).props

-- the relation makes the template's objects
abbrev pub is_made : Rel → (ℕ → Bool) → Shown → Bool
is_made rel existential s = existential (out-Tmpl s.0).var && (rel.top || is_some s.1)

-- ---- E5

abbrev pub item_props : List Item → List ℕ
item_props items = map (λ i. i.prop.0) items

-- the opposite of the property at which the template stands
abbrev pub opposite_number : MetaDesc → Option Place → Option ℕ
opposite_number desc None = None
opposite_number desc (Some place) = opposite_of desc place.prop.0

abbrev pub given_props : MetaDesc → Shown → List ℕ
given_props desc s = item_props (out-Tmpl s.0).items ++ option_to_list (opposite_number desc s.1)

abbrev pub is_given : (ℕ → Bool) → PropId → Bool
is_given given p = given p.0

abbrev pub are_given : List ℕ → List PropId → Bool
are_given given props = list_all (is_given (is_among given)) props

abbrev pub is_keyed_by : List MetaDesc → Program → ℕ → Shown → Option ClassKey → Bool
is_keyed_by metas program meta s None = false
is_keyed_by metas program meta s (Some k) = are_given (given_props (meta_at metas meta) s) (key_props program k)

abbrev pub is_keyed : List MetaDesc → Program → ℕ → Keys → Shown → Bool
is_keyed metas program meta keys s = is_keyed_by metas program meta s (key_at keys (out-Tmpl s.0).class.0)

abbrev pub is_unkeyed : List MetaDesc → Program → Rel → ℕ → Keys → (ℕ → Bool) → Shown → Bool
is_unkeyed metas program rel meta keys existential s = is_made rel existential s && not (is_keyed metas program meta keys s)

abbrev pub has_unkeyed : List MetaDesc → Program → Rel → ℕ → Keys → (ℕ → Bool) → List Shown → Bool
has_unkeyed metas program rel meta keys existential templates = list_any (is_unkeyed metas program rel meta keys existential) templates

-- ---- E6

abbrev pub is_many_key : Option ClassKey → Bool
is_many_key None = false
is_many_key (Some k) = k.is_many

abbrev pub is_many : Rel → Keys → (ℕ → Bool) → Shown → Bool
is_many rel keys existential s = is_made rel existential s && is_many_key (key_at keys (out-Tmpl s.0).class.0)

abbrev pub has_many : Rel → Keys → (ℕ → Bool) → List Shown → Bool
has_many rel keys existential templates = list_any (is_many rel keys existential) templates

-- ---- the table of keys

abbrev pub is_many_prop : MetaDesc → PropId → Bool
is_many_prop desc p = not (is_single (prop_at desc p.0).upper)

-- what the table says of a class: its key, and whether a property of that may have several values
pub record IsKeyAt (metas : List MetaDesc) (program : Program) (class : ℕ) (k : ClassKey) : Type 0 where
  pub key : Key
  pub found : slice_get program.keys k.key ≡ Some key
  pub is : IsKeyOf program (record { 0 = class }) key
  pub many : k.is_many ≡ list_any (is_many_prop (target_desc metas program)) key.props

pub record IsKeyTable (metas : List MetaDesc) (program : Program) (keys : Keys) : Type 0 where
  pub some : (class : ℕ) (k : ClassKey) → key_at keys class ≡ Some k → IsKeyAt metas program class k
  pub none : (class : ℕ) (key : Key) → key_at keys class ≡ None → ¬ IsKeyOf program (record { 0 = class }) key

-- the variables of the templates are those of the relation
abbrev pub HaveVariables : Rel → List Shown → Type 0
HaveVariables rel templates = (s : Shown) → Contains templates s → (out-Tmpl s.0).var < length rel.vars
