-- Properties by number: each is one that its owner owns, and a class has those of the classes that it conforms to.
use Rattle.std.proofs.Common.{◌≡◌, ℕ, ◌+◌, ◌-◌, ◌<◌, ◌≤◌, zero, suc, List, [], ◌∷◌, length, get_or, map, take, refl, ap, sym, ◌∙◌, arith, subst, inl, inr}
use Rattle.std.specs.Prelude.{Contains, sum_by}
use Rattle.std.specs.List.{flat_map, range_with_len}
use Rattle.std.proofs.lemmas.Bool.{cases_lt}
use Rattle.std.proofs.lemmas.List.{get_or_append_left, get_or-append_right, get_or-map, length-map, length-append, get_or_past}
use Rattle.std.proofs.lemmas.List.Sums.{sum_by-cons}
use Rattle.std.proofs.lemmas.List.FromFn.{length-range_with_len, get_or-range_with_len}
use Rattle.std.proofs.lemmas.List.Elements.{Contains-append_left, Contains-append_right, Contains-append_cases}
use Rattle.mof_metamodel.specs.declared.desc.MetaDesc.{MetaDesc}
use Rattle.mof_metamodel.specs.declared.desc.ClassDesc.{ClassDesc}
use Rattle.mof_metamodel.specs.declared.desc.PropDesc.{PropDesc}
use Rattle.mof_metamodel.specs.Metamodels.{class_count, class_at, no_class, no_prop, first_own, own_props, props_of, prop_count, declared_at, declared_from, lineage_of, owner_of}
use Rattle.mof_metamodel.proofs.TableLemmas.{own_within}

-- ---- the properties of one class

-- the i-th own property of the c-th of these classes
declared-own : (k : ℕ) (cs : List ClassDesc) (c i : ℕ) (d : ℕ × PropDesc) → i < length (get_or cs c no_class).props
    → get_or (declared_from k cs) (sum_by (λ d. length d.props) (take c cs) + i) d ≡ (k + c, get_or (get_or cs c no_class).props i no_prop)
declared-own k [] c i d l = absurd (let e : length (get_or {A = ClassDesc} [] c no_class).props ≡ 0 = ap (λ x. length x.props) (get_or_past [] c no_class (omega arith)) in omega arith)
declared-own k (x ∷ xs) zero i d l =
    let front : List (ℕ × PropDesc) = map (λ p. (k, p)) x.props in
    let own : i < length x.props = l in
    let len : length front ≡ length x.props = length-map x.props (λ p. (k, p)) in
    get_or_append_left front (declared_from (k + 1) xs) d (0 + i) (omega arith)
    ∙ get_or-map (λ p. (k, p)) x.props (0 + i) no_prop d (omega arith)
    ∙ ap (λ j. (k, get_or x.props j no_prop)) (let e : 0 + i ≡ i = omega arith in e)
    ∙ ap (λ j. (j, get_or x.props i no_prop)) (let e : k ≡ k + 0 = omega arith in e)
declared-own k (x ∷ xs) (suc c) i d l =
    let front : List (ℕ × PropDesc) = map (λ p. (k, p)) x.props in
    let before : ℕ = sum_by (λ d. length d.props) (take c xs) in
    let total : sum_by (λ d. length d.props) (take (suc c) (x ∷ xs)) ≡ length x.props + before = sum_by-cons (λ d. length d.props) x (take c xs) in
    let len : length front ≡ length x.props = length-map x.props (λ p. (k, p)) in
    get_or-append_right front (declared_from (k + 1) xs) (length front) (sum_by (λ d. length d.props) (take (suc c) (x ∷ xs)) + i) d refl (omega arith)
    ∙ ap (λ n. get_or (declared_from (k + 1) xs) n d) (let e : (sum_by (λ d. length d.props) (take (suc c) (x ∷ xs)) + i) - length front ≡ before + i = omega arith in e)
    ∙ declared-own (k + 1) xs c i d l
    ∙ ap (λ j. (j, get_or (get_or xs c no_class).props i no_prop)) (let e : (k + 1) + c ≡ k + suc c = omega arith in e)

pub own_is : (desc : MetaDesc) (c i : ℕ) → i < length (class_at desc c).props → declared_at desc (first_own desc c + i) ≡ (c, get_or (class_at desc c).props i no_prop)
own_is desc c i l = declared-own 0 desc.classes c i (0, no_prop) l ∙ ap (λ j. (j, get_or (class_at desc c).props i no_prop)) (let e : 0 + c ≡ c = omega arith in e)

-- a class with a property is one of the classes
pub class_of_own : (desc : MetaDesc) (c i : ℕ) → i < length (class_at desc c).props → c < class_count desc
class_of_own desc c i l = elim (cases_lt c (class_count desc)) [
  | inl short ↦ short
  | inr past ↦ absurd (let e : length (class_at desc c).props ≡ 0 = ap (λ x. length x.props) (get_or_past desc.classes c no_class past) in omega arith)
]

-- ---- the place of a property

owned : (k : ℕ) (cs : List ClassDesc) (n : ℕ) → n < length (declared_from k cs)
    → (c i : ℕ) × (i < length (get_or cs c no_class).props) × (n ≡ sum_by (λ d. length d.props) (take c cs) + i)
owned k [] n l = absurd (omega arith)
owned k (x ∷ xs) n l =
    let front : List (ℕ × PropDesc) = map (λ p. (k, p)) x.props in
    let len : length front ≡ length x.props = length-map x.props (λ p. (k, p)) in
    elim (cases_lt n (length x.props)) [
      | inl here ↦ (0, n, here, (let e : n ≡ 0 + n = omega arith in e))
      | inr past ↦ (
          let m : ℕ = n - length x.props in
          let short : m < length (declared_from (k + 1) xs) = (let s = length-append front (declared_from (k + 1) xs) in omega arith) in
          let (c, i, li, en) = owned (k + 1) xs m short in
          let total : sum_by (λ d. length d.props) (take (suc c) (x ∷ xs)) ≡ length x.props + sum_by (λ d. length d.props) (take c xs) = sum_by-cons (λ d. length d.props) x (take c xs) in (suc c, i, li, omega arith))
    ]

-- a property is the i-th of a class
pub record IsOwned (desc : MetaDesc) (p : ℕ) : Type 0 where
  pub class : ℕ
  pub index : ℕ
  pub within : class < class_count desc
  pub short : index < length (class_at desc class).props
  pub number : p ≡ first_own desc class + index
  pub declared : declared_at desc p ≡ (class, get_or (class_at desc class).props index no_prop)

pub owned_at : (desc : MetaDesc) (p : ℕ) → p < prop_count desc → IsOwned desc p
owned_at desc p l =
    let (c, i, short, number) = owned 0 desc.classes p l in
    record {
      class = c;
      index = i;
      within = class_of_own desc c i short;
      short = short;
      number = number;
      declared = ap (declared_at desc) number ∙ own_is desc c i short;
    }

-- ---- owners

in_range : (a n q : ℕ) → Contains (range_with_len a n) q → (a ≤ q) × (q < a + n)
in_range a zero q (k, l, e) = absurd (omega arith)
in_range a (suc n) q (zero, l, e) = (omega arith, omega arith)
in_range a (suc n) q (suc k, l, e) = let (x, y) = in_range (a + 1) n q (k, omega arith, e) in (omega arith, omega arith)

range_has : (a n i : ℕ) → i < n → Contains (range_with_len a n) (a + i)
range_has a n i l = (i, omega (arith, length-range_with_len a n), get_or-range_with_len a n i (a + i) l)

-- an own property of a class is the i-th of it
pub own_index : (desc : MetaDesc) (c p : ℕ) → Contains (own_props desc c) p → (i : ℕ) × (i < length (class_at desc c).props) × (first_own desc c + i ≡ p)
own_index desc c p h =
    let (low, high) = in_range (first_own desc c) (length (class_at desc c).props) p h in
    (p - first_own desc c, omega arith, omega arith)

pub own_listed : (desc : MetaDesc) (c i : ℕ) → i < length (class_at desc c).props → Contains (own_props desc c) (first_own desc c + i)
own_listed desc c i short = range_has (first_own desc c) (length (class_at desc c).props) i short

pub owner_of_own : (desc : MetaDesc) (c p : ℕ) → Contains (own_props desc c) p → owner_of desc p ≡ c
owner_of_own desc c p h =
    let (i, short, e) = own_index desc c p h in
    ap (owner_of desc) (sym e) ∙ ap (λ x. x.0) (own_is desc c i short)

-- each property is one that its owner owns
pub own_has : (desc : MetaDesc) (p : ℕ) → p < prop_count desc → Contains (own_props desc (owner_of desc p)) p
own_has desc p l =
    let at = owned_at desc p l in
    let owner : owner_of desc p ≡ at.class = ap (λ x. x.0) at.declared in
    subst (λ x. Contains (own_props desc x) p) (sym owner) (subst (λ x. Contains (own_props desc at.class) x) (sym at.number) (range_has (first_own desc at.class) (length (class_at desc at.class).props) at.index at.short))

pub owner_within : (desc : MetaDesc) (p : ℕ) → p < prop_count desc → owner_of desc p < class_count desc
owner_within desc p l = let at = owned_at desc p l in subst (λ x. x < class_count desc) (sym (ap (λ x. x.0) at.declared)) at.within

pub own_known : (desc : MetaDesc) (c p : ℕ) → Contains (own_props desc c) p → p < prop_count desc
own_known desc c p h =
    let (i, short, e) = own_index desc c p h in
    subst (λ x. x < prop_count desc) e (own_within desc c i (class_of_own desc c i short) short)

-- ---- the classes that have a property

pub from_flat_map : {X Y : Type 0} (f : X → List Y) (xs : List X) (y : Y) → Contains (flat_map f xs) y → (x : X) × Contains xs x × Contains (f x) y
from_flat_map f [] y (k, l, e) = absurd (omega arith)
from_flat_map f (x ∷ xs) y c = elim (Contains-append_cases (f x) (flat_map f xs) y c) [
  | inl a ↦ (x, (0, omega arith, refl), a)
  | inr b ↦ (let (z, (k, l, e), g) = from_flat_map f xs y b in (z, (suc k, omega arith, e), g))
]

pub to_flat_map : {X Y : Type 0} (f : X → List Y) (xs : List X) (x : X) (y : Y) → Contains xs x → Contains (f x) y → Contains (flat_map f xs) y
to_flat_map f [] x y (k, l, e) g = absurd (omega arith)
to_flat_map f (z ∷ xs) x y (zero, l, e) g = Contains-append_left (f z) (flat_map f xs) y (subst (λ w. Contains (f w) y) (sym e) g)
to_flat_map f (z ∷ xs) x y (suc k, l, e) g = Contains-append_right (f z) (flat_map f xs) y (to_flat_map f xs x y (k, omega arith, e) g)

-- a class that has a property has its owner among its classes
pub owner_listed : (desc : MetaDesc) (c p : ℕ) → Contains (props_of desc c) p → Contains (lineage_of desc c) (owner_of desc p)
owner_listed desc c p h =
    let (d, listed, own) = from_flat_map (own_props desc) (lineage_of desc c) p h in
    subst (Contains (lineage_of desc c)) (sym (owner_of_own desc d p own)) listed

-- and the reverse
pub listed_has : (desc : MetaDesc) (c p : ℕ) → p < prop_count desc → Contains (lineage_of desc c) (owner_of desc p) → Contains (props_of desc c) p
listed_has desc c p l listed = to_flat_map (own_props desc) (lineage_of desc c) (owner_of desc p) p listed (own_has desc p l)

pub prop_known : (desc : MetaDesc) (c p : ℕ) → Contains (props_of desc c) p → p < prop_count desc
prop_known desc c p h = let (d, listed, own) = from_flat_map (own_props desc) (lineage_of desc c) p h in own_known desc d p own
