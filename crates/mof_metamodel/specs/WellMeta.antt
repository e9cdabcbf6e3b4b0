-- When a description is a metamodel: eight conditions on its classes, properties, enumerations and literals, which go by numbers.
-- They are those of EMOF (MOF 2.5.1, 12.4), whose Class, Property and Enumeration are UML's (UML 2.5.1, clauses 7 and 9).
use Rattle.std.specs.Prelude.{◌≡◌, ◌≢◌, ℕ, ◌<◌, ◌≤◌, Bool, false, ◌==◌, ◌||◌, ◌&&◌, not, nat_le, List, length, sum_by, take, codes, Contains, Some, IsSome, IfSome, IsTrue}
use Rattle.std.specs.List.{list_any, list_all}
use Rattle.mof_metamodel.specs.declared.desc.MetaDesc.{MetaDesc}
use Rattle.mof_metamodel.specs.declared.desc.PropType.TheVariants as types
use Rattle.mof_metamodel.specs.declared.limits.TheConstants.{MAX_CLASSES, MAX_ENUMS, MAX_PROPS, MAX_LITERALS}
use Rattle.mof_metamodel.specs.Characters.{is_storable_character, same_name}
use Rattle.mof_metamodel.specs.Metamodels.{class_count, enum_count, class_number, class_at, enum_at, literal_at, Conforms, IsCircular, prop_count, prop_at, owner_of, is_primitive, type_of, opposite_of}

-- Sizes

-- how many literals the enumerations have together
abbrev pub literal_count : MetaDesc → ℕ
literal_count desc = sum_by (λ e. length e.literals) desc.enums

pub record IsWithinLimits (desc : MetaDesc) : Type 0 where
  pub classes : class_count desc ≤ MAX_CLASSES
  pub enums : enum_count desc ≤ MAX_ENUMS
  pub props : prop_count desc ≤ MAX_PROPS
  pub literals : literal_count desc ≤ MAX_LITERALS

-- Names

abbrev pub is_digit : ℕ → Bool
is_digit c = nat_le 48 c && nat_le c 57

abbrev pub is_letter : ℕ → Bool
is_letter c = (nat_le 65 c && nat_le c 90) || (nat_le 97 c && nat_le c 122)

-- an ASCII letter, an ASCII digit, `_`, or a storable character from U+0080 on
abbrev pub is_name_character : ℕ → Bool
is_name_character c = is_letter c || is_digit c || (c == 95) || (nat_le 128 c && is_storable_character c)

abbrev pub begins_with_digit : List ℕ → Bool
begins_with_digit name = list_any is_digit (take 1 name)

-- not empty, no digit first, and each character may stand in a name
abbrev pub is_name : List ℕ → Bool
is_name name = not (length name == 0) && not (begins_with_digit name) && list_all is_name_character name

-- such a name, and not `xmlns`, which no attribute of a model file can have
abbrev pub is_prop_name : List ℕ → Bool
is_prop_name name = is_name name && not (same_name name (codes "xmlns"))

pub record HasGoodNames (desc : MetaDesc) : Type 0 where
  pub metamodel : IsTrue (is_name desc.name)
  pub classes : (c : ℕ) → c < class_count desc → IsTrue (is_name (class_at desc c).name)
  pub props : (p : ℕ) → p < prop_count desc → IsTrue (is_prop_name (prop_at desc p).name)
  pub enums : (e : ℕ) → e < enum_count desc → IsTrue (is_name (enum_at desc e).name)
  pub literals : (e i : ℕ) → e < enum_count desc → i < length (enum_at desc e).literals → IsTrue (is_name (literal_at desc e i))

-- Members that can be told apart (UML 2.5.1, 7.4): types by their names in the package, literals in their enumeration, and properties
-- in each class that owns or inherits them

pub record HasDistinctNames (desc : MetaDesc) : Type 0 where
  pub classes : (c d : ℕ) → c < class_count desc → d < class_count desc → (class_at desc c).name ≡ (class_at desc d).name → c ≡ d
  pub enums : (e f : ℕ) → e < enum_count desc → f < enum_count desc → (enum_at desc e).name ≡ (enum_at desc f).name → e ≡ f
  pub types : (c e : ℕ) → c < class_count desc → e < enum_count desc → (class_at desc c).name ≢ (enum_at desc e).name
  pub class_primitives : (c : ℕ) → c < class_count desc → is_primitive (class_at desc c).name ≡ false
  pub enum_primitives : (e : ℕ) → e < enum_count desc → is_primitive (enum_at desc e).name ≡ false
  pub props : (c p q : ℕ) → c < class_count desc → p < prop_count desc → q < prop_count desc
      → Conforms desc c (owner_of desc p) → Conforms desc c (owner_of desc q) → (prop_at desc p).name ≡ (prop_at desc q).name → p ≡ q
  pub literals : (e i j : ℕ) → e < enum_count desc → i < length (enum_at desc e).literals → j < length (enum_at desc e).literals
      → literal_at desc e i ≡ literal_at desc e j → i ≡ j

-- Names that name something: superclasses, types and opposites

pub record HasKnownNames (desc : MetaDesc) : Type 0 where
  pub supers : (c : ℕ) (name : List ℕ) → c < class_count desc → Contains (class_at desc c).supers name → IsSome (class_number desc name)
  pub types : (p : ℕ) → p < prop_count desc → IsSome (type_of desc p)
  pub opposites : (p : ℕ) → p < prop_count desc → IsSome (prop_at desc p).opposite → IsSome (opposite_of desc p)

-- No class reaches itself by superclasses (UML 2.5.1, 9.9.4, no_cycles_in_generalization).

abbrev pub IsAcyclic : MetaDesc → Type 0
IsAcyclic desc = (c : ℕ) → c < class_count desc → IsCircular desc c → ⊥

-- Bounds: the lower is at most the upper, and the upper isn't 0 (UML 2.5.1, 7.5)

abbrev pub HasGoodBounds : MetaDesc → Type 0
HasGoodBounds desc = (p : ℕ) → p < prop_count desc → IfSome (prop_at desc p).upper (λ upper. ((prop_at desc p).lower ≤ upper) × (0 < upper))

-- Opposites: two properties, each the opposite of the other, each of the class that owns the other, and single where the other
-- one is composite, since then it leads to a container (UML 2.5.1, 9.5 and 9.9.17)

pub record AreOpposites (desc : MetaDesc) (p q : ℕ) : Type 0 where
  pub there : opposite_of desc p ≡ Some q
  pub back : opposite_of desc q ≡ Some p
  pub other : q ≢ p
  pub type : type_of desc p ≡ Some (types.Class (record { 0 = owner_of desc q }))
  pub back_type : type_of desc q ≡ Some (types.Class (record { 0 = owner_of desc p }))
  pub single : IsTrue (prop_at desc q).composite → (prop_at desc p).upper ≡ Some 1

abbrev pub HasGoodOpposites : MetaDesc → Type 0
HasGoodOpposites desc = (p q : ℕ) → p < prop_count desc → opposite_of desc p ≡ Some q → AreOpposites desc p q

-- At most one of two opposites is composite: neither contains the other (UML 2.5.1, 9.5; MOF 2.5.1, 12.4).

abbrev pub HaveOneContainer : MetaDesc → ℕ → ℕ → Type 0
HaveOneContainer desc p q = IsTrue (prop_at desc p).composite → IsTrue (prop_at desc q).composite → ⊥

abbrev pub HasOneContainer : MetaDesc → Type 0
HasOneContainer desc = (p q : ℕ) → p < prop_count desc → opposite_of desc p ≡ Some q → HaveOneContainer desc p q

-- the description is a metamodel
pub record WellMeta (desc : MetaDesc) : Type 0 where
  pub limits : IsWithinLimits desc
  pub names : HasGoodNames desc
  pub distinct : HasDistinctNames desc
  pub known : HasKnownNames desc
  pub acyclic : IsAcyclic desc
  pub bounds : HasGoodBounds desc
  pub opposites : HasGoodOpposites desc
  pub containers : HasOneContainer desc
