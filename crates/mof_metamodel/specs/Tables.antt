-- What the tables of a metamodel hold: what its description says, by number.
use Rattle.std.specs.Prelude.{◌≡◌, ◌≢◌, ℕ, ◌+◌, ◌<◌, ◌≤◌, ◌⊎◌, Bool, true, false, List, [], ◌∷◌, ◌++◌, Option, None, Some, map, length, slice_index_or, position, All, IsSome, IsTrue, is_some, nat_eq, take, Contains, if◌then◌else◌}
use Rattle.std.specs.List.{range_with_len, list_any, flat_map, position_or_len, AllPairs}
use Rattle.std.specs.List.Sorted.{IsNonDecreasingBy}
use Rattle.std.specs.Map.{lookup}
use Rattle.std.specs.Option.{option_map, unwrap_or}
use Rattle.mof_metamodel.specs.declared.desc.PropDesc.{PropDesc}
use Rattle.mof_metamodel.specs.declared.named.Place.{Place}
use Rattle.mof_metamodel.specs.declared.entries.Entry.{Entry}
use Rattle.mof_metamodel.specs.declared.desc.MetaDesc.{MetaDesc}
use Rattle.mof_metamodel.specs.declared.desc.ClassId.{ClassId}
use Rattle.mof_metamodel.specs.declared.desc.EnumId.{EnumId}
use Rattle.mof_metamodel.specs.declared.desc.PropId.{PropId}
use Rattle.mof_metamodel.specs.declared.desc.Prop.{Prop}
use Rattle.mof_metamodel.specs.Metamodels.{same_name, class_count, class_at, enum_count, enum_at, no_prop, prop_count, declared_props, prop_at, first_own, supers_of, with_item, all_united, Conforms, IsCircular, lineage_within, reached_classes, lineage_of, own_props, props_of, IsProp}
use Rattle.mof_metamodel.specs.WellMeta.{WellMeta}
use Rattle.mof_metamodel.specs.MetaFaults.{is_within_limits}

-- what f says of each number below n
abbrev pub table : {X : Type 0} → (ℕ → X) → ℕ → List X
table f n = map f (range_with_len 0 n)

abbrev pub class_numbers : List ClassId → List ℕ
class_numbers ids = map (λ c. c.0) ids

abbrev pub prop_numbers : List PropId → List ℕ
prop_numbers ids = map (λ p. p.0) ids

abbrev pub IsClassOf : MetaDesc → ClassId → Type 0
IsClassOf desc c = c.0 < class_count desc

abbrev pub IsEnumOf : MetaDesc → EnumId → Type 0
IsEnumOf desc e = e.0 < enum_count desc

abbrev pub IsPropOf : MetaDesc → PropId → Type 0
IsPropOf desc p = p.0 < prop_count desc

-- each class has a class order
abbrev pub IsGrounded : MetaDesc → Type 0
IsGrounded desc = (c : ℕ) → c < class_count desc → IsSome (lineage_within desc (class_count desc) c)

-- the properties by number
pub record ArePropsOf (desc : MetaDesc) (props : List Prop) : Type 0 where
  pub count : length props ≡ prop_count desc
  pub each : (p : ℕ) (d : Prop) → p < prop_count desc → IsProp desc p (slice_index_or props p d)

-- names with numbers, the first number of each
abbrev pub Names : Type 0
Names = List (List ℕ × ℕ)

abbrev pub number_in : Names → List ℕ → Option ℕ
number_in names name = lookup (same_name name) names

-- the names with one more, unless it stands among them
abbrev pub with_name : Names → List ℕ → ℕ → Names
with_name names name number = if is_some (number_in names name) then names else names ++ (name, number) ∷ []

-- the names number the items of the list, each by its first place
abbrev pub Numbers : {X : Type 0} → (X → List ℕ) → List X → Names → Type 0
Numbers name_of xs names = (name : List ℕ) → number_in names name ≡ position (λ x. same_name name (name_of x)) xs

abbrev pub place_in : ℕ → ℕ → Place
place_in c i = record { class = c; index = i }

-- the number of the first property that has the name of the property
abbrev pub name_number : MetaDesc → ℕ → ℕ
name_number desc p = position_or_len (λ d. same_name (prop_at desc p).name d.1.name) (declared_props desc)

-- the property at a place
abbrev pub placed : MetaDesc → Place → ℕ × PropDesc
placed desc place = (place.class, slice_index_or (class_at desc place.class).props place.index no_prop)

-- there is a property at the place
abbrev pub IsPlace : MetaDesc → Place → Type 0
IsPlace desc place = (place.class < class_count desc) × (place.index < length (class_at desc place.class).props)

-- the names of a class's own properties, by their places in it
abbrev pub OwnNames : MetaDesc → List Names → Type 0
OwnNames desc own = (length own ≡ class_count desc) × ((c : ℕ) (d : Names) → c < class_count desc → Numbers (λ p. p.name) (class_at desc c).props (slice_index_or own c d))

-- the names of an enumeration's literals, by their places in it
abbrev pub LiteralNames : MetaDesc → List Names → Type 0
LiteralNames desc literals =
    (length literals ≡ enum_count desc) × ((e : ℕ) (d : Names) → e < enum_count desc → Numbers (λ l. l) (enum_at desc e).literals (slice_index_or literals e d))

pub record IsNamed (desc : MetaDesc) (classes enums : Names) (own literals : List Names) (firsts : List ℕ) (places : List Place) : Type 0 where
  pub limits : IsTrue (is_within_limits desc)
  pub classes_are : Numbers (λ c. c.name) desc.classes classes
  pub enums_are : Numbers (λ e. e.name) desc.enums enums
  pub own_are : OwnNames desc own
  pub literals_are : LiteralNames desc literals
  pub firsts_are : firsts ≡ table (first_own desc) (class_count desc)
  pub places_are : map (placed desc) places ≡ declared_props desc
  pub places_within : All (IsPlace desc) places

-- each class's superclasses, in a table
abbrev pub AreSupers : MetaDesc → List (List ClassId) → Type 0
AreSupers desc supers = map class_numbers supers ≡ table (supers_of desc) (class_count desc)

-- the class orders that are found within so many steps
abbrev pub AreLines : MetaDesc → ℕ → List (Option (List ℕ)) → Type 0
AreLines desc n orders = orders ≡ table (lineage_within desc n) (class_count desc)

-- the order of a class among those that were found
abbrev pub line_at : List (Option (List ℕ)) → ℕ → Option (List ℕ)
line_at orders c = slice_index_or orders c None

-- each number of the list is below n
abbrev pub AreBelow : ℕ → List ℕ → Type 0
AreBelow n xs = (q : ℕ) → IsTrue (list_any (nat_eq q) xs) → q < n

-- each number of the first list stands in the second
abbrev pub AreAmong : List ℕ → List ℕ → Type 0
AreAmong xs ys = (q : ℕ) → IsTrue (list_any (nat_eq q) xs) → IsTrue (list_any (nat_eq q) ys)

-- a mark stands at each number that the list has, and at no other
abbrev pub AreMarks : List Bool → List ℕ → Type 0
AreMarks marks xs = (q : ℕ) → q < length marks → slice_index_or marks q false ≡ list_any (nat_eq q) xs

-- class orders of classes, each with the orders of the classes that it has
pub record AreClosed (orders : List (Option (List ℕ))) : Type 0 where
  pub below : (c : ℕ) (r : List ℕ) → line_at orders c ≡ Some r → AreBelow (length orders) r
  pub among : (c q : ℕ) (r s : List ℕ) → line_at orders c ≡ Some r → IsTrue (list_any (nat_eq q) r) → line_at orders q ≡ Some s → AreAmong s r

-- with each class that has an order, the classes of that order stand in the list
abbrev pub HasOrders : List (Option (List ℕ)) → List ℕ → Type 0
HasOrders orders xs = (q : ℕ) (s : List ℕ) → IsTrue (list_any (nat_eq q) xs) → line_at orders q ≡ Some s → AreAmong s xs

-- what a class's superclasses give: their joint order, and the class behind it
abbrev pub new_line : MetaDesc → List (Option (List ℕ)) → ℕ → Option (List ℕ)
new_line desc orders c = option_map (λ cs. with_item cs c) (all_united [] (map (line_at orders) (supers_of desc c)))

-- the classes of a class order; of a class without one those that it reaches
abbrev pub lineage_in : MetaDesc → Option (List ℕ) → ℕ → List ℕ
lineage_in desc order c = unwrap_or order (reached_classes desc c)

-- so many numbers at the head of the list have orders
abbrev pub HaveLines : List (Option (List ℕ)) → List ℕ → ℕ → Type 0
HaveLines orders cs n = (i : ℕ) → i < n → i < length cs → IsSome (line_at orders (slice_index_or cs i 0))

-- Classes whose superclasses all have orders: each stands once among those that are ready, and is marked. Of each class so many
-- superclasses in a row are known to have orders.
pub record IsQueue (desc : MetaDesc) (orders : List (Option (List ℕ))) (known ready : List ℕ) (marks : List Bool) : Type 0 where
  pub orders_count : length orders ≡ class_count desc
  pub known_count : length known ≡ class_count desc
  pub marks_count : length marks ≡ class_count desc
  pub known_are : (c : ℕ) → c < class_count desc → HaveLines orders (supers_of desc c) (slice_index_or known c 0)
  pub once : AllPairs (λ x y. x ≢ y) ready
  pub below : AreBelow (class_count desc) ready
  pub supers_have : (c s : ℕ) → IsTrue (list_any (nat_eq c) ready) → IsTrue (list_any (nat_eq s) (supers_of desc c)) → IsSome (line_at orders s)
  pub marked : AreMarks marks ready

-- a superclass of the class has no order
abbrev pub Waits : MetaDesc → List (Option (List ℕ)) → ℕ → Type 0
Waits desc orders c = (s : ℕ) × IsTrue (list_any (nat_eq s) (supers_of desc c)) × (line_at orders s ≡ None)

-- the class is ready, or waits for the order of a superclass
abbrev pub IsSettled : MetaDesc → List (Option (List ℕ)) → List ℕ → ℕ → Type 0
IsSettled desc orders ready c = IsTrue (list_any (nat_eq c) ready) ⊎ Waits desc orders c

-- the second list begins with the first
abbrev pub Begins : List ℕ → List ℕ → Type 0
Begins xs ys = (zs : List ℕ) × (ys ≡ xs ++ zs)

-- The orders of so many classes that are ready were found, within as many steps. Each class is ready, or waits.
pub record IsFinding (desc : MetaDesc) (orders : List (Option (List ℕ))) (next : ℕ) (ready : List ℕ) : Type 0 where
  pub within : next ≤ length ready
  pub found : (c : ℕ) (r : List ℕ) → line_at orders c ≡ Some r → lineage_within desc next c ≡ Some r
  pub done : HaveLines orders ready next
  pub settled : (c : ℕ) → c < class_count desc → IsSettled desc orders ready c

-- lists that have one number more in those of the first n rows, and at least what they had
pub record AddsUnder (old new : List (List ℕ)) (rows : List ℕ) (n c : ℕ) : Type 0 where
  pub count : length new ≡ length old
  pub kept : (s q : ℕ) → IsTrue (list_any (nat_eq q) (slice_index_or old s [])) → IsTrue (list_any (nat_eq q) (slice_index_or new s []))
  pub only : (s q : ℕ) → IsTrue (list_any (nat_eq q) (slice_index_or new s [])) → IsTrue (list_any (nat_eq q) (slice_index_or old s [])) ⊎ (q ≡ c)
  pub added : (i : ℕ) → i < n → i < length rows → IsTrue (list_any (nat_eq c) (slice_index_or new (slice_index_or rows i 0) []))

-- each of the first n classes stands in the lists of its superclasses
pub record AreSubclasses (desc : MetaDesc) (n : ℕ) (lists : List (List ℕ)) : Type 0 where
  pub count : length lists ≡ class_count desc
  pub below : (s : ℕ) → AreBelow (class_count desc) (slice_index_or lists s [])
  pub listed : (c s : ℕ) → c < n → IsTrue (list_any (nat_eq s) (supers_of desc c)) → IsTrue (list_any (nat_eq c) (slice_index_or lists s []))

-- for each class of a class order, how many properties the classes before it have
abbrev pub starts_of : MetaDesc → List ℕ → List ℕ
starts_of desc cs = table (λ i. length (flat_map (own_props desc) (take i cs))) (length cs)

-- one of the classes is d, or reaches it
abbrev pub IsReached : MetaDesc → List ℕ → ℕ → Type 0
IsReached desc starts d = (e : ℕ) × Contains starts e × Conforms desc e d

-- a mark stands at each class that is reached, and at no other
pub record AreReached (desc : MetaDesc) (starts : List ℕ) (marks : List Bool) : Type 0 where
  pub long : length marks ≡ class_count desc
  pub sound : (d : ℕ) → slice_index_or marks d false ≡ true → IsReached desc starts d
  pub complete : (d : ℕ) → IsReached desc starts d → slice_index_or marks d false ≡ true

-- A walk from classes along superclasses: classes that are reached, the starts among them, each once. Of those before the
-- place `next` the superclasses were met.
pub record IsWalk (desc : MetaDesc) (starts : List ℕ) (next : ℕ) (met : List ℕ) : Type 0 where
  pub begins : AreAmong starts met
  pub once : AllPairs (λ x y. x ≢ y) met
  pub below : AreBelow (class_count desc) met
  pub reached : (q : ℕ) → IsTrue (list_any (nat_eq q) met) → IsReached desc starts q
  pub closed : (i : ℕ) → i < next → i < length met → AreAmong (supers_of desc (slice_index_or met i 0)) met

-- the first class that reaches itself
pub record IsFirstCircle (desc : MetaDesc) (c : ℕ) : Type 0 where
  pub within : c < class_count desc
  pub circular : IsCircular desc c
  pub first : (d : ℕ) → d < c → IsCircular desc d → ⊥

-- Numbers that classes have, each beside its class.

abbrev pub entry : ℕ → ℕ → Entry
entry c v = record { class = c; value = v }

-- the entries go by their classes
abbrev pub AreRising : List Entry → Type 0
AreRising entries = IsNonDecreasingBy (λ e. e.class) entries

-- lists of entries, each in the order of their classes, which are below n
pub record AreOfClasses (n : ℕ) (rows : List (List Entry)) : Type 0 where
  pub rising : (k : ℕ) → AreRising (slice_index_or rows k [])
  pub below : (k : ℕ) (e : Entry) → Contains (slice_index_or rows k []) e → e.class < n

-- lists to which entries of class c came: the i-th of the values to the list of the i-th key, for each of the first n
pub record AddsEntries (old new : List (List Entry)) (keys values : List ℕ) (n c : ℕ) : Type 0 where
  pub count : length new ≡ length old
  pub kept : (k : ℕ) (e : Entry) → Contains (slice_index_or old k []) e → Contains (slice_index_or new k []) e
  pub added : (i : ℕ) → i < n → i < length keys → Contains (slice_index_or new (slice_index_or keys i 0) []) (entry c (slice_index_or values i 0))
  pub only : (k : ℕ) (e : Entry) → Contains (slice_index_or new k []) e
      → Contains (slice_index_or old k []) e ⊎ ((i : ℕ) × (i < length keys) × (k ≡ slice_index_or keys i 0) × (e ≡ entry c (slice_index_or values i 0)))
  pub classes : AreOfClasses c old → AreOfClasses (c + 1) new

-- for the number of each name the classes below n that have a property of this name, each with the property
pub record AreHolders (desc : MetaDesc) (n : ℕ) (holders : List (List Entry)) : Type 0 where
  pub count : length holders ≡ prop_count desc
  pub classes : AreOfClasses n holders
  pub sound : (k : ℕ) (e : Entry) → Contains (slice_index_or holders k []) e → Contains (props_of desc e.class) e.value × (name_number desc e.value ≡ k)
  pub complete : (c p : ℕ) → c < n → Contains (props_of desc c) p → Contains (slice_index_or holders (name_number desc p) []) (entry c p)

-- Class d stands in the class order of c, and so many properties before its own: those of the classes before it.
pub record IsStart (desc : MetaDesc) (c d start : ℕ) : Type 0 where
  pub index : ℕ
  pub within : index < length (lineage_of desc c)
  pub at : slice_index_or (lineage_of desc c) index 0 ≡ d
  pub start_is : start ≡ length (flat_map (own_props desc) (take index (lineage_of desc c)))

-- for each class the classes below n in whose class orders it stands, each with how many properties stand there before its own
pub record AreHeirs (desc : MetaDesc) (n : ℕ) (heirs : List (List Entry)) : Type 0 where
  pub count : length heirs ≡ class_count desc
  pub classes : AreOfClasses n heirs
  pub sound : (d : ℕ) (e : Entry) → Contains (slice_index_or heirs d []) e → IsStart desc e.class d e.value
  pub complete : (c d : ℕ) → c < n → Contains (lineage_of desc c) d → (start : ℕ) × Contains (slice_index_or heirs d []) (entry c start)

-- whether each class has a class order, the properties in class order, and what classes inherit from each
pub record IsOrdered (desc : MetaDesc) (grounded : Bool) (props : List (List PropId)) (heirs : List (List Entry)) : Type 0 where
  pub grounded_is : IsTrue grounded → IsGrounded desc
  pub props_are : map prop_numbers props ≡ table (props_of desc) (class_count desc)
  pub heirs_are : AreHeirs desc (class_count desc) heirs

pub record IsTabled (desc : MetaDesc) (props : List Prop) (names : Names) (holders : List (List Entry)) : Type 0 where
  pub well : WellMeta desc
  pub grounded : IsGrounded desc
  pub props_are : ArePropsOf desc props
  pub names_are : Numbers (λ d. d.1.name) (declared_props desc) names
  pub holders_are : AreHolders desc (class_count desc) holders
