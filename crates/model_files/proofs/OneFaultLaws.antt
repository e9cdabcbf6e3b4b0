-- One fault is told of a description, and one breach of a model.
use Rattle.std.proofs.Common.{◌≡◌, ℕ, zero, suc, ◌<◌, ◌≤◌, true, false, List, [], ◌∷◌, get_or, refl, sym, ◌∙◌, ap, ap₂, subst, arith, true≢false, inl, inr, Option, None, Some}
use Rattle.std.specs.Prelude.{option_map, Contains}
use Rattle.std.proofs.lemmas.Bool.{cases_lt}
use Rattle.mof_metamodel.specs.declared.desc.MetaDesc.{MetaDesc}
use Rattle.mof_metamodel.specs.declared.desc.PropId.{PropId}
use Rattle.mof_metamodel.specs.declared.fault.MetaFault.{MetaFault}
use Rattle.mof_metamodel.specs.declared.fault.MetaKind.{MetaKind}
use Rattle.mof_metamodel.specs.declared.fault.MetaKind.TheVariants as kinds
use Rattle.mof_metamodel.specs.MetaFaults.{IsAcyclic, IsFirstFault, IsFirstCircular, PassesLimits, PassesNames, PassesDuplicates, PassesTypes, PassesCycles, PassesBounds, PassesOpposites, is_within_limits, first_bad_name, first_duplicate, first_unknown, first_bad_bounds, first_bad_opposite, first_two_containers}
use Rattle.mof_metamodel.specs.Metamodels.{class_at, props_of}
use Rattle.object_tables.specs.declared.breach.Breach.{Breach}
use Rattle.object_tables.specs.declared.breach.BreachKind.{BreachKind}
use Rattle.object_tables.specs.declared.breach.BreachKind.TheVariants as breaches
use Rattle.object_tables.specs.declared.value.ObjId.{ObjId}
use Rattle.object_tables.specs.Models.{ModelData, slot_number}
use Rattle.object_tables.specs.Validity.{IsFirst, IsFirstBreach, IsBrokenAt, IsKeptBefore, IsPropertyOf, IsLeastOnCycle, KeepsBounds}
use Rattle.object_tables.proofs.ModelLemmas.{index-within, index-same, same_class}
use Rattle.std.proofs.lemmas.Option.{same_Some}

none_some : {X : Type 0} (o : Option X) (x : X) → o ≡ None → o ≡ Some x → ⊥
none_some o x e f = let g : None ≡ Some x = sym e ∙ f in absurd cc

-- ---- faults of a description

-- the place of a kind among the kinds
abbrev rank : MetaKind → ℕ
rank kinds.Limit = 0
rank kinds.BadName = 1
rank kinds.DuplicateName = 2
rank kinds.UnknownType = 3
rank kinds.SuperCycle = 4
rank kinds.BadBounds = 5
rank kinds.BadOpposite = 6
rank kinds.TwoContainers = 7

abbrev in_order : List MetaKind
in_order =
    kinds.Limit
    ∷ kinds.BadName
    ∷ kinds.DuplicateName
    ∷ kinds.UnknownType
    ∷ kinds.SuperCycle
    ∷ kinds.BadBounds
    ∷ kinds.BadOpposite
    ∷ kinds.TwoContainers
    ∷ []

abbrev kind_at : ℕ → MetaKind
kind_at n = get_or in_order n kinds.Limit

ranked : (kind : MetaKind) → kind_at (rank kind) ≡ kind
ranked kinds.Limit = refl
ranked kinds.BadName = refl
ranked kinds.DuplicateName = refl
ranked kinds.UnknownType = refl
ranked kinds.SuperCycle = refl
ranked kinds.BadBounds = refl
ranked kinds.BadOpposite = refl
ranked kinds.TwoContainers = refl

-- no fault of the kind stands
abbrev HasNone : MetaDesc → MetaKind → Type 0
HasNone desc kinds.Limit = is_within_limits desc ≡ true
HasNone desc kinds.BadName = first_bad_name desc ≡ None
HasNone desc kinds.DuplicateName = first_duplicate desc ≡ None
HasNone desc kinds.UnknownType = first_unknown desc ≡ None
HasNone desc kinds.SuperCycle = IsAcyclic desc
HasNone desc kinds.BadBounds = first_bad_bounds desc ≡ None
HasNone desc kinds.BadOpposite = first_bad_opposite desc ≡ None
HasNone desc kinds.TwoContainers = first_two_containers desc ≡ None

-- no fault of the kind at this place stands
abbrev IsClear : MetaDesc → ℕ → Type 0
IsClear desc n = HasNone desc (kind_at n)

-- nor of the kinds before it
abbrev Passes : MetaDesc → ℕ → Type 0
Passes desc zero = Unit {0}
Passes desc (suc n) = Passes desc n × IsClear desc n

clear_at : (desc : MetaDesc) (n i : ℕ) → i < n → Passes desc n → IsClear desc i
clear_at desc zero i l h = absurd (omega (arith, l))
clear_at desc (suc n) i l h = elim (cases_lt i n) [
  | inl before ↦ clear_at desc n i before h.0
  | inr at ↦ (let same : n ≡ i = omega (arith, l, at) in subst (IsClear desc) same h.1)
]

names_passed : (desc : MetaDesc) → PassesNames desc → Passes desc 2
names_passed desc h = ((tt, h.0), h.1)

duplicates_passed : (desc : MetaDesc) → PassesDuplicates desc → Passes desc 3
duplicates_passed desc h = (names_passed desc h.0, h.1)

types_passed : (desc : MetaDesc) → PassesTypes desc → Passes desc 4
types_passed desc h = (duplicates_passed desc h.0, h.1)

cycles_passed : (desc : MetaDesc) → PassesCycles desc → Passes desc 5
cycles_passed desc h = (types_passed desc h.0, h.1)

bounds_passed : (desc : MetaDesc) → PassesBounds desc → Passes desc 6
bounds_passed desc h = (cycles_passed desc h.0, h.1)

opposites_passed : (desc : MetaDesc) → PassesOpposites desc → Passes desc 7
opposites_passed desc h = (bounds_passed desc h.0, h.1)

passed : (desc : MetaDesc) (kind : MetaKind) (name : List ℕ) → IsFirstFault desc kind name → Passes desc (rank kind)
passed desc kinds.Limit name h = tt
passed desc kinds.BadName name h = (tt, h.0)
passed desc kinds.DuplicateName name h = names_passed desc h.0
passed desc kinds.UnknownType name h = duplicates_passed desc h.0
passed desc kinds.SuperCycle name h = types_passed desc h.0
passed desc kinds.BadBounds name h = cycles_passed desc h.0
passed desc kinds.BadOpposite name h = bounds_passed desc h.0
passed desc kinds.TwoContainers name h = opposites_passed desc h.0

not_clear : (desc : MetaDesc) (kind : MetaKind) (name : List ℕ) → IsFirstFault desc kind name → IsClear desc (rank kind) → ⊥
not_clear desc kinds.Limit name h clear = true≢false (sym clear ∙ h.0)
not_clear desc kinds.BadName name h clear = none_some _ name clear h.1
not_clear desc kinds.DuplicateName name h clear = none_some _ name clear h.1
not_clear desc kinds.UnknownType name h clear = none_some _ name clear h.1
not_clear desc kinds.SuperCycle name h clear = clear h.1.class h.1.within h.1.circular
not_clear desc kinds.BadBounds name h clear = none_some _ name clear h.1
not_clear desc kinds.BadOpposite name h clear = none_some _ name clear h.1
not_clear desc kinds.TwoContainers name h clear = none_some _ name clear h.1

one_circular : (desc : MetaDesc) (n m : List ℕ) → IsFirstCircular desc n → IsFirstCircular desc m → n ≡ m
one_circular desc n m x y = x.named ∙ ap (λ (c : ℕ). (class_at desc c).name) same ∙ sym y.named
  where
    same : x.class ≡ y.class
    same = elim (cases_lt x.class y.class) [
      | inl less ↦ absurd (y.first x.class less x.circular)
      | inr le ↦ elim (cases_lt y.class x.class) [
        | inl less ↦ absurd (x.first y.class less y.circular)
        | inr ge ↦ (let e : x.class ≡ y.class = omega (arith, le, ge) in e)
      ]
    ]

one_name : (desc : MetaDesc) (kind : MetaKind) (n m : List ℕ) → IsFirstFault desc kind n → IsFirstFault desc kind m → n ≡ m
one_name desc kinds.Limit n m x y = x.1 ∙ sym y.1
one_name desc kinds.BadName n m x y = same_Some n m (sym x.1 ∙ y.1)
one_name desc kinds.DuplicateName n m x y = same_Some n m (sym x.1 ∙ y.1)
one_name desc kinds.UnknownType n m x y = same_Some n m (sym x.1 ∙ y.1)
one_name desc kinds.SuperCycle n m x y = one_circular desc n m x.1 y.1
one_name desc kinds.BadBounds n m x y = same_Some n m (sym x.1 ∙ y.1)
one_name desc kinds.BadOpposite n m x y = same_Some n m (sym x.1 ∙ y.1)
one_name desc kinds.TwoContainers n m x y = same_Some n m (sym x.1 ∙ y.1)

not_before : (desc : MetaDesc) (f g : MetaFault) → IsFirstFault desc f.kind f.name → IsFirstFault desc g.kind g.name → rank f.kind < rank g.kind → ⊥
not_before desc f g x y l = not_clear desc f.kind f.name x (clear_at desc (rank g.kind) (rank f.kind) l (passed desc g.kind g.name y))

abbrev fault_of : MetaKind → List ℕ → MetaFault
fault_of kind name = record { kind = kind; name = name }

-- one fault is told of a description
pub one_meta_fault : (desc : MetaDesc) (f g : MetaFault) → IsFirstFault desc f.kind f.name → IsFirstFault desc g.kind g.name → f ≡ g
one_meta_fault desc f g x y = elim (cases_lt (rank f.kind) (rank g.kind)) [
  | inl less ↦ absurd (not_before desc f g x y less)
  | inr le ↦ elim (cases_lt (rank g.kind) (rank f.kind)) [
    | inl less ↦ absurd (not_before desc g f y x less)
    | inr ge ↦ (
        let same : rank f.kind ≡ rank g.kind = omega (arith, le, ge) in
        let kind : f.kind ≡ g.kind = sym (ranked f.kind) ∙ ap kind_at same ∙ ranked g.kind in
        ap₂ fault_of kind (one_name desc g.kind f.name g.name (subst (λ (k : MetaKind). IsFirstFault desc k f.name) kind x) y))
  ]
]

-- ---- breaches

abbrev breach_of : BreachKind → ObjId → Option PropId → Breach
breach_of kind object prop = record { kind = kind; object = object; prop = prop }

abbrev object_of : ℕ → ObjId
object_of o = record { 0 = o }

abbrev prop_of : ℕ → PropId
prop_of p = record { 0 = p }

broken_prop : (m : ModelData) (kind : BreachKind) (o p : ℕ) → IsBrokenAt m kind o p → IsPropertyOf m o p
broken_prop m breaches.Lower o p few = few.property
broken_prop m breaches.Upper o p (enough, many) = many.property
broken_prop m breaches.ContainmentCycle o p none = absurd none

not_kept : (m : ModelData) (kind : BreachKind) (o p : ℕ) → IsBrokenAt m kind o p → KeepsBounds m o p → ⊥
not_kept m breaches.Lower o p few kept = kept.lower few
not_kept m breaches.Upper o p (enough, many) kept = kept.upper many
not_kept m breaches.ContainmentCycle o p none kept = none

one_kind : (m : ModelData) (k l : BreachKind) (o p : ℕ) → IsBrokenAt m k o p → IsBrokenAt m l o p → k ≡ l
one_kind m breaches.Lower breaches.Lower o p x y = refl
one_kind m breaches.Lower breaches.Upper o p x (enough, many) = absurd (enough x)
one_kind m breaches.Upper breaches.Lower o p (enough, many) y = absurd (enough y)
one_kind m breaches.Upper breaches.Upper o p x y = refl
one_kind m breaches.ContainmentCycle l o p none y = absurd none
one_kind m k breaches.ContainmentCycle o p x none = absurd none

one_object : (m : ModelData) (k l : BreachKind) (o u p q : ℕ) → IsBrokenAt m k o p → IsKeptBefore m o p → IsBrokenAt m l u q → IsKeptBefore m u q → o ≡ u
one_object m k l o u p q x before y first = elim (cases_lt o u) [
  | inl less ↦ absurd (not_kept m k o p x (first.objects o p less))
  | inr le ↦ elim (cases_lt u o) [
    | inl less ↦ absurd (not_kept m l u q y (before.objects u q less))
    | inr ge ↦ (let e : o ≡ u = omega (arith, le, ge) in e)
  ]
]

one_prop : (m : ModelData) (k l : BreachKind) (o p q : ℕ) → IsBrokenAt m k o p → IsKeptBefore m o p → IsBrokenAt m l o q → IsKeptBefore m o q → p ≡ q
one_prop m k l o p q x before y first =
    let a : IsPropertyOf m o p = broken_prop m k o p x in
    let b : IsPropertyOf m o q = broken_prop m l o q y in
    let same : b.class ≡ a.class = same_class m o b.class a.class b.class_is a.class_is in
    elim (cases_lt (slot_number m.meta a.class p) (slot_number m.meta a.class q)) [
      | inl less ↦ absurd (not_kept m k o p x (first.properties a.class p a.class_is less))
      | inr le ↦ elim (cases_lt (slot_number m.meta a.class q) (slot_number m.meta a.class p)) [
        | inl less ↦ absurd (not_kept m l o q y (before.properties a.class q a.class_is less))
        | inr ge ↦ index-same (props_of m.meta a.class) p q
            (index-within (props_of m.meta a.class) p a.has)
            (index-within (props_of m.meta a.class) q (subst (λ (c : ℕ). Contains (props_of m.meta c) q) same b.has))
            (omega (arith, le, ge))
      ]
    ]

one_on_cycle : (m : ModelData) (o u : ℕ) → IsLeastOnCycle m o → IsLeastOnCycle m u → o ≡ u
one_on_cycle m o u x y = elim (cases_lt o u) [
  | inl less ↦ absurd (y.least o less x.cycle)
  | inr le ↦ elim (cases_lt u o) [
    | inl less ↦ absurd (x.least u less y.cycle)
    | inr ge ↦ (let e : o ≡ u = omega (arith, le, ge) in e)
  ]
]

one_first : (m : ModelData) (k l : BreachKind) (o u : ObjId) (p q : Option PropId) → IsFirst m k o.0 (option_map (λ r. r.0) p) → IsFirst m l u.0 (option_map (λ r. r.0) q)
    → breach_of k o p ≡ breach_of l u q
one_first m k l o u None None (e, x, kept) (f, y, also) = ap₂ (λ (n : BreachKind) (b : ℕ). breach_of n (object_of b) None) (e ∙ sym f) (one_on_cycle m o.0 u.0 x y)
one_first m k l o u None (Some q) (e, x, kept) (y, before) = absurd (not_kept m l u.0 q.0 y (kept u.0 q.0))
one_first m k l o u (Some p) None (x, before) (f, y, kept) = absurd (not_kept m k o.0 p.0 x (kept o.0 p.0))
one_first m k l o u (Some p) (Some q) (x, before) (y, first) =
    let object : o.0 ≡ u.0 = one_object m k l o.0 u.0 p.0 q.0 x before y first in
    let there : IsBrokenAt m l o.0 q.0 = subst (λ (b : ℕ). IsBrokenAt m l b q.0) (sym object) y in
    let also : IsKeptBefore m o.0 q.0 = subst (λ (b : ℕ). IsKeptBefore m b q.0) (sym object) first in
    let prop : p.0 ≡ q.0 = one_prop m k l o.0 p.0 q.0 x before there also in
    let kind : k ≡ l = one_kind m k l o.0 p.0 x (subst (IsBrokenAt m l o.0) (sym prop) there) in
    ap₂ (λ (n : BreachKind) (b : ℕ). breach_of n (object_of b) (Some p)) kind object
    ∙ ap (λ (r : ℕ). breach_of l u (Some (prop_of r))) prop

-- one breach of a model comes first
pub one_breach : (m : ModelData) (x y : Breach) → IsFirstBreach m x → IsFirstBreach m y → x ≡ y
one_breach m x y = one_first m x.kind y.kind x.object y.object x.prop y.prop
