-- Which fault a description has first, where it is no metamodel: for each kind of fault the name at which it is first found, in the
-- order of the description. What the kinds of faults are is said by the conditions of `WellMeta`, each of which one kind breaks.
use Rattle.std.specs.Prelude.{◌≡◌, ℕ, ◌<◌, Bool, true, false, ◌==◌, ◌||◌, ◌&&◌, not, nat_le, List, [], ◌∷◌, ◌++◌, Option, None, Some, map, length, sum_by, codes, is_some, if◌then◌else◌, IsTrue}
use Rattle.std.specs.List.{list_any, list_all, range_with_len}
use Rattle.std.specs.Option.{option_or}
use Rattle.mof_metamodel.specs.declared.desc.MetaDesc.{MetaDesc}
use Rattle.mof_metamodel.specs.declared.desc.ClassDesc.{ClassDesc}
use Rattle.mof_metamodel.specs.declared.desc.EnumDesc.{EnumDesc}
use Rattle.mof_metamodel.specs.declared.desc.PropDesc.{PropDesc}
use Rattle.mof_metamodel.specs.declared.desc.OppDesc.{OppDesc}
use Rattle.mof_metamodel.specs.declared.desc.PropType.{PropType}
use Rattle.mof_metamodel.specs.declared.desc.PropType.TheVariants as types
use Rattle.mof_metamodel.specs.declared.fault.MetaError.{MetaError}
use Rattle.mof_metamodel.specs.declared.fault.MetaError.TheVariants as errors
use Rattle.mof_metamodel.specs.declared.fault.MetaKind.{MetaKind}
use Rattle.mof_metamodel.specs.declared.fault.MetaKind.TheVariants as kinds
use Rattle.mof_metamodel.specs.declared.limits.TheConstants.{MAX_CLASSES, MAX_ENUMS, MAX_PROPS, MAX_LITERALS}
pub use Rattle.mof_metamodel.specs.WellMeta.{WellMeta, IsAcyclic, IsWithinLimits, HasGoodNames, HasDistinctNames, HasKnownNames, HasGoodBounds, HasGoodOpposites, HasOneContainer, is_name, is_prop_name}
use Rattle.mof_metamodel.specs.Metamodels.{same_name, class_count, enum_count, class_number, enum_number, class_at, enum_at, IsCircular, props_of, prop_count, owner_of, prop_at, is_primitive, type_named, type_of, opposite_number, opposite_of}

-- the first name that is found for an item of the list
abbrev pub first_of : {X : Type 0} → (X → Option (List ℕ)) → List X → Option (List ℕ)
first_of find_in [] = None
first_of find_in (x ∷ xs) = option_or (find_in x) (first_of find_in xs)

-- the name, where the test fails
abbrev pub unless : Bool → List ℕ → Option (List ℕ)
unless holds name = if holds then None else Some name

-- a name in a class or an enumeration, behind a full stop
abbrev pub qualified : List ℕ → List ℕ → List ℕ
qualified outer inner = outer ++ 46 ∷ inner

-- Limit: there are more classes, enumerations, properties or literals than a metamodel may have

abbrev pub is_within_limits : MetaDesc → Bool
is_within_limits desc =
    nat_le (length desc.classes) MAX_CLASSES && nat_le (length desc.enums) MAX_ENUMS
    && nat_le (sum_by (λ c. length c.props) desc.classes) MAX_PROPS && nat_le (sum_by (λ e. length e.literals) desc.enums) MAX_LITERALS

-- BadName: a wrong name

abbrev pub bad_name_in_class : ClassDesc → Option (List ℕ)
bad_name_in_class c = option_or (unless (is_name c.name) c.name) (first_of (λ p. unless (is_prop_name p.name) (qualified c.name p.name)) c.props)

abbrev pub bad_name_in_enum : EnumDesc → Option (List ℕ)
bad_name_in_enum e = option_or (unless (is_name e.name) e.name) (first_of (λ l. unless (is_name l) (qualified e.name l)) e.literals)

abbrev pub first_bad_name : MetaDesc → Option (List ℕ)
first_bad_name desc = option_or (unless (is_name desc.name) desc.name) (option_or (first_of bad_name_in_class desc.classes) (first_of bad_name_in_enum desc.enums))

-- DuplicateName: two classes or enumerations share a name or have a primitive's name, or two literals of an enumeration, or two
-- properties of a class, inherited ones included. Of two equal names the later one is at fault.

-- the first name that stands before it in the list, or among those that were met
abbrev pub first_repeat : List (List ℕ) → List (List ℕ) → Option (List ℕ)
first_repeat met [] = None
first_repeat met (name ∷ names) = if list_any (same_name name) met then Some name else first_repeat (met ++ name ∷ []) names

abbrev pub in_outer : List ℕ → Option (List ℕ) → Option (List ℕ)
in_outer outer None = None
in_outer outer (Some inner) = Some (qualified outer inner)

-- the number is there, and is this one
abbrev pub is_number : Option ℕ → ℕ → Bool
is_number None n = false
is_number (Some m) n = m == n

-- no primitive and no earlier class has the name of the class
abbrev pub is_new_class : MetaDesc → ℕ → Bool
is_new_class desc c = not (is_primitive (class_at desc c).name) && is_number (class_number desc (class_at desc c).name) c

-- no primitive, no class and no earlier enumeration has the name of the enumeration
abbrev pub is_new_enum : MetaDesc → ℕ → Bool
is_new_enum desc e = not (is_primitive (enum_at desc e).name) && not (is_some (class_number desc (enum_at desc e).name)) && is_number (enum_number desc (enum_at desc e).name) e

abbrev pub duplicate_in_class : MetaDesc → ℕ → Option (List ℕ)
duplicate_in_class desc c =
    option_or (unless (is_new_class desc c) (class_at desc c).name)
    (in_outer (class_at desc c).name (first_repeat [] (map (λ p. (prop_at desc p).name) (props_of desc c))))

abbrev pub duplicate_in_enum : MetaDesc → ℕ → Option (List ℕ)
duplicate_in_enum desc e =
    option_or (unless (is_new_enum desc e) (enum_at desc e).name)
    (in_outer (enum_at desc e).name (first_repeat [] (enum_at desc e).literals))

abbrev pub first_duplicate : MetaDesc → Option (List ℕ)
first_duplicate desc =
    option_or (first_of (duplicate_in_class desc) (range_with_len 0 (class_count desc))) (first_of (duplicate_in_enum desc) (range_with_len 0 (enum_count desc)))

-- UnknownType: a superclass, a type or an opposite names nothing

abbrev pub is_known_opposite : MetaDesc → Option OppDesc → Bool
is_known_opposite desc None = true
is_known_opposite desc (Some o) = is_some (opposite_number desc (Some o))

abbrev pub is_known_prop : MetaDesc → PropDesc → Bool
is_known_prop desc p = is_some (type_named desc p.type_name) && is_known_opposite desc p.opposite

abbrev pub unknown_in_class : MetaDesc → ClassDesc → Option (List ℕ)
unknown_in_class desc c =
    option_or (unless (list_all (λ s. is_some (class_number desc s)) c.supers) c.name)
    (first_of (λ p. unless (is_known_prop desc p) (qualified c.name p.name)) c.props)

abbrev pub first_unknown : MetaDesc → Option (List ℕ)
first_unknown desc = first_of (unknown_in_class desc) desc.classes

-- SuperCycle: a class reaches itself by superclasses

-- the class is the first that does so
pub record IsFirstCircular (desc : MetaDesc) (name : List ℕ) : Type 0 where
  pub class : ℕ
  pub within : class < class_count desc
  pub circular : IsCircular desc class
  pub first : (c : ℕ) → c < class → IsCircular desc c → ⊥
  pub named : name ≡ (class_at desc class).name

-- BadBounds: the lower bound is above the upper, or the upper is 0

abbrev pub has_bounds : ℕ → Option ℕ → Bool
has_bounds lower None = true
has_bounds lower (Some upper) = nat_le lower upper && not (upper == 0)

abbrev pub bad_bounds_in_class : ClassDesc → Option (List ℕ)
bad_bounds_in_class c = first_of (λ p. unless (has_bounds p.lower p.upper) (qualified c.name p.name)) c.props

abbrev pub first_bad_bounds : MetaDesc → Option (List ℕ)
first_bad_bounds desc = first_of bad_bounds_in_class desc.classes

-- a property with the class that owns it
abbrev pub prop_name : MetaDesc → ℕ → List ℕ
prop_name desc p = qualified (class_at desc (owner_of desc p)).name (prop_at desc p).name

-- BadOpposite: an opposite stands at a property that isn't a reference, isn't mutual, is the property itself, its owner isn't
-- the first one's type or the reverse, or a container end isn't single

-- the type is the class of this number
abbrev pub is_class : Option PropType → ℕ → Bool
is_class None c = false
is_class (Some types.Str) c = false
is_class (Some types.Int) c = false
is_class (Some types.Bool) c = false
is_class (Some (types.Enum e)) c = false
is_class (Some (types.Class d)) c = d.0 == c

abbrev pub agree : MetaDesc → ℕ → Option ℕ → Bool
agree desc p None = true
agree desc p (Some q) =
    is_number (opposite_of desc q) p && not (q == p)
    && is_class (type_of desc p) (owner_of desc q) && is_class (type_of desc q) (owner_of desc p)
    && (not (prop_at desc q).composite || is_number (prop_at desc p).upper 1)

abbrev pub first_bad_opposite : MetaDesc → Option (List ℕ)
first_bad_opposite desc = first_of (λ p. unless (agree desc p (opposite_of desc p)) (prop_name desc p)) (range_with_len 0 (prop_count desc))

-- TwoContainers: both ends are composite

abbrev pub has_one_container : MetaDesc → ℕ → Option ℕ → Bool
has_one_container desc p None = true
has_one_container desc p (Some q) = not ((prop_at desc p).composite && (prop_at desc q).composite)

abbrev pub first_two_containers : MetaDesc → Option (List ℕ)
first_two_containers desc = first_of (λ p. unless (has_one_container desc p (opposite_of desc p)) (prop_name desc p)) (range_with_len 0 (prop_count desc))

-- no fault is found
pub record IsSearchedWell (desc : MetaDesc) : Type 0 where
  pub limits : IsTrue (is_within_limits desc)
  pub names : first_bad_name desc ≡ None
  pub distinct : first_duplicate desc ≡ None
  pub known : first_unknown desc ≡ None
  pub acyclic : IsAcyclic desc
  pub bounds : first_bad_bounds desc ≡ None
  pub opposites : first_bad_opposite desc ≡ None
  pub containers : first_two_containers desc ≡ None

-- No fault of these kinds and of those before them stands: limits come first, then names, and then the kinds in the order in
-- which they are declared.
abbrev pub PassesLimits : MetaDesc → Type 0
PassesLimits desc = IsTrue (is_within_limits desc)

abbrev pub PassesNames : MetaDesc → Type 0
PassesNames desc = PassesLimits desc × (first_bad_name desc ≡ None)

abbrev pub PassesDuplicates : MetaDesc → Type 0
PassesDuplicates desc = PassesNames desc × (first_duplicate desc ≡ None)

abbrev pub PassesTypes : MetaDesc → Type 0
PassesTypes desc = PassesDuplicates desc × (first_unknown desc ≡ None)

abbrev pub PassesCycles : MetaDesc → Type 0
PassesCycles desc = PassesTypes desc × IsAcyclic desc

abbrev pub PassesBounds : MetaDesc → Type 0
PassesBounds desc = PassesCycles desc × (first_bad_bounds desc ≡ None)

abbrev pub PassesOpposites : MetaDesc → Type 0
PassesOpposites desc = PassesBounds desc × (first_bad_opposite desc ≡ None)

-- the fault of this kind stands first, at the place of this name
abbrev pub IsFirstFault : MetaDesc → MetaKind → List ℕ → Type 0
IsFirstFault desc kinds.Limit name = (is_within_limits desc ≡ false) × (name ≡ [])
IsFirstFault desc kinds.BadName name = PassesLimits desc × (first_bad_name desc ≡ Some name)
IsFirstFault desc kinds.DuplicateName name = PassesNames desc × (first_duplicate desc ≡ Some name)
IsFirstFault desc kinds.UnknownType name = PassesDuplicates desc × (first_unknown desc ≡ Some name)
IsFirstFault desc kinds.SuperCycle name = PassesTypes desc × IsFirstCircular desc name
IsFirstFault desc kinds.BadBounds name = PassesCycles desc × (first_bad_bounds desc ≡ Some name)
IsFirstFault desc kinds.BadOpposite name = PassesBounds desc × (first_bad_opposite desc ≡ Some name)
IsFirstFault desc kinds.TwoContainers name = PassesOpposites desc × (first_two_containers desc ≡ Some name)

-- no fault is found first
abbrev pub HasNoFault : MetaDesc → Type 0
HasNoFault desc = (kind : MetaKind) (name : List ℕ) → IsFirstFault desc kind name → ⊥

-- the condition that a fault of the kind breaks
abbrev pub Condition : MetaKind → MetaDesc → Type 0
Condition kinds.Limit desc = IsWithinLimits desc
Condition kinds.BadName desc = HasGoodNames desc
Condition kinds.DuplicateName desc = HasDistinctNames desc
Condition kinds.UnknownType desc = HasKnownNames desc
Condition kinds.SuperCycle desc = IsAcyclic desc
Condition kinds.BadBounds desc = HasGoodBounds desc
Condition kinds.BadOpposite desc = HasGoodOpposites desc
Condition kinds.TwoContainers desc = HasOneContainer desc

-- the word by which a fault of the kind is printed
abbrev pub kind_word : MetaKind → List ℕ
kind_word kinds.DuplicateName = codes "DuplicateName"
kind_word kinds.UnknownType = codes "UnknownType"
kind_word kinds.SuperCycle = codes "SuperCycle"
kind_word kinds.BadBounds = codes "BadBounds"
kind_word kinds.BadOpposite = codes "BadOpposite"
kind_word kinds.TwoContainers = codes "TwoContainers"
kind_word kinds.Limit = codes "Limit"
kind_word kinds.BadName = codes "BadName"

-- the conditions that the kinds of faults before it break: limits come first, then names, and then the kinds as they are declared
abbrev pub HoldBefore : MetaKind → MetaDesc → Type 0
HoldBefore kinds.Limit desc = Unit {0}
HoldBefore kinds.BadName desc = IsWithinLimits desc
HoldBefore kinds.DuplicateName desc = IsWithinLimits desc × HasGoodNames desc
HoldBefore kinds.UnknownType desc = IsWithinLimits desc × HasGoodNames desc × HasDistinctNames desc
HoldBefore kinds.SuperCycle desc = IsWithinLimits desc × HasGoodNames desc × HasDistinctNames desc × HasKnownNames desc
HoldBefore kinds.BadBounds desc = IsWithinLimits desc × HasGoodNames desc × HasDistinctNames desc × HasKnownNames desc × IsAcyclic desc
HoldBefore kinds.BadOpposite desc = IsWithinLimits desc × HasGoodNames desc × HasDistinctNames desc × HasKnownNames desc × IsAcyclic desc × HasGoodBounds desc
HoldBefore kinds.TwoContainers desc =
    IsWithinLimits desc × HasGoodNames desc × HasDistinctNames desc × HasKnownNames desc × IsAcyclic desc × HasGoodBounds desc × HasGoodOpposites desc

-- a fault of the kind stands, and none of a kind before it
pub record StandsFirst (desc : MetaDesc) (kind : MetaKind) : Type 0 where
  pub stands : Condition kind desc → ⊥
  pub first : HoldBefore kind desc

-- a refusal names the first fault, unless memory ran out
abbrev pub IsRefusal : MetaDesc → MetaError → Type 0
IsRefusal desc (errors.Fault fault) = IsFirstFault desc fault.kind fault.name
IsRefusal desc errors.NoMemory = Unit {0}

-- the refusal is for a fault of this kind at the place of the name
abbrev pub IsFaultOf : MetaKind → Option (List ℕ) → MetaError → Type 0
IsFaultOf kind None e = ⊥
IsFaultOf kind (Some name) e = e ≡ errors.Fault (record { kind = kind; name = name })
