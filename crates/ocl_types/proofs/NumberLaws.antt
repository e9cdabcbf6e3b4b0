-- The numbers of a typed tree name what is there: variables and queries by their places, the one model of a metamodel, and properties.
use Rattle.std.proofs.Common.{◌≡◌, ◌<◌, ℕ, zero, suc, ◌+◌, ◌&&◌, Bool, true, false, List, [], ◌∷◌, Option, None, Some, map, length, if◌then◌else◌, refl, sym, ap, ◌∙◌, subst, ⊎_elim, inl, inr, arith, eq-eqb}
use Rattle.std.specs.Prelude.{◌==◌, nat_lt, Contains, slice_get}
use Rattle.std.specs.Option.{option_map, option_and_then}
use Rattle.std.proofs.lemmas.Bool.{eqb-true, ltb-true}
use Rattle.std.proofs.lemmas.Option.{none-some, same_Some, slice_get-map, slice_get-get_or, slice_get_within, get_or_from_slice_get}
use Rattle.std.proofs.lemmas.List.Elements.{Contains-append_left, Contains-append_right, Contains-append_cases}
use Rattle.mof_metamodel.specs.declared.desc.MetaDesc.{MetaDesc}
use Rattle.mof_metamodel.specs.declared.desc.ClassId.{ClassId}
use Rattle.mof_metamodel.specs.declared.desc.PropId.{PropId}
use Rattle.mof_metamodel.specs.declared.desc.PropType.{PropType}
use Rattle.mof_metamodel.specs.Metamodels.{class_count, props_of, prop_at, prop_number, type_of, owner_of, Conforms}
use Rattle.mof_metamodel.specs.MetaFaults.{WellMeta}
use Rattle.mof_metamodel.specs.Members.{IsPropNamed}
use Rattle.mof_metamodel.proofs.MetaLaws.{prop_named, has_exactly}
use Rattle.mof_metamodel.proofs.PropLemmas.{prop_known}
use Rattle.qv_syntax.specs.declared.ty.Ty.{Ty}
use Rattle.qv_syntax.specs.declared.ty.Ty.TheVariants as types
use Rattle.qv_syntax.specs.declared.query.ModelSlot.{ModelSlot}
use Rattle.qv_syntax.specs.declared.typed.Values.{Values}
use Rattle.qv_syntax.specs.Types.{IsClassIn}
use Rattle.qv_syntax.specs.TypeRules.{HasProperty}
use Rattle.qv_syntax.specs.TypedTrees.{IsOnlyModelOf}
use Rattle.ocl_environments.specs.Environments.{Environment, AreWell, no_meta, meta_at, class_of, models_of, only, only_model}
use Rattle.ocl_environments.specs.Navigation.{value_type, values_of}
use Rattle.ocl_types.specs.TypingSteps.{described, class_property, property_of}
use Rattle.ocl_types.specs.TypedContext.{context_of}
use Rattle.ocl_types.specs.TypeRules.{HasPropertyNamed}
use Rattle.std.proofs.lemmas.Bool.{and_from}
use Rattle.std.proofs.lemmas.Bool.{and_parts}
use Rattle.ocl_types.proofs.LayerLaws.{is_class, class_of_class}
use Rattle.std.proofs.lemmas.Bool.{lt-ltb}
use Rattle.ocl_types.proofs.ConformanceLaws.{first_in, in_either}
use Rattle.mof_metamodel.proofs.Facts.{nothing_in}

-- ---- names and their places

-- what stands at a place, through a function
pub mapped_there : {X Y : Type 0} (f : X → Y) (xs : List X) (n : ℕ) (x : X) → slice_get xs n ≡ Some x → slice_get (map f xs) n ≡ Some (f x)
mapped_there f xs n x is = slice_get-map f xs n ∙ ap (option_map f) is

-- ---- the one model of a metamodel

only_one : {X : Type 0} (xs : List X) (x : X) → only xs ≡ Some x → xs ≡ x ∷ []
only_one [] x is = absurd (none-some x is)
only_one (y ∷ []) x is = ap (λ z. z ∷ []) (same_Some y x is)
only_one (y ∷ z ∷ xs) x is = absurd (none-some x is)

-- a model of the metamodel is among those that are listed, from a number on
listed : (meta i : ℕ) (slots : List ModelSlot) (k : ℕ) (s : ModelSlot) → slice_get slots k ≡ Some s → s.meta ≡ meta → Contains (models_of meta i slots) (i + k)
listed meta i [] k s is of = absurd (none-some s is)
listed meta i (slot ∷ slots) zero s is of =
    let same : slot.meta ≡ meta = ap (λ (t : ModelSlot). t.meta) (same_Some slot s is) ∙ of in
    let at : i ≡ i + 0 = omega arith in
    Contains-append_left (if slot.meta == meta then i ∷ [] else []) (models_of meta (i + 1) slots) (i + 0)
    (subst (λ b. Contains (if b then i ∷ [] else []) (i + 0)) (sym (eq-eqb slot.meta meta same)) (first_in i (i + 0) [] at))
listed meta i (slot ∷ slots) (suc k) s is of =
    let at : i + 1 + k ≡ i + suc k = omega arith in
    Contains-append_right (if slot.meta == meta then i ∷ [] else []) (models_of meta (i + 1) slots) (i + suc k)
    (subst (Contains (models_of meta (i + 1) slots)) at (listed meta (i + 1) slots k s is of))

-- each of those that are listed is one
from_list : (meta i : ℕ) (slots : List ModelSlot) (q : ℕ) → Contains (models_of meta i slots) q
    → (k : ℕ) × (s : ModelSlot) × (slice_get slots k ≡ Some s) × (s.meta ≡ meta) × (q ≡ i + k)
from_list meta i [] q among = absurd (nothing_in q among)
from_list meta i (slot ∷ slots) q among = ⊎_elim
    (λ (here : Contains (if slot.meta == meta then i ∷ [] else []) q). by (slot.meta == meta) refl here)
    (λ (there : Contains (models_of meta (i + 1) slots) q).
    let f = from_list meta (i + 1) slots q there in
    let at : i + 1 + f.0 ≡ i + suc f.0 = omega arith in
    (suc f.0, f.1, f.2, f.3, f.4 ∙ at))
    (Contains-append_cases (if slot.meta == meta then i ∷ [] else []) (models_of meta (i + 1) slots) q among)
  where
    by : (b : Bool) → (slot.meta == meta) ≡ b → Contains (if b then i ∷ [] else []) q
        → (k : ℕ) × (s : ModelSlot) × (slice_get (slot ∷ slots) k ≡ Some s) × (s.meta ≡ meta) × (q ≡ i + k)
    by true same here = elim (in_either i q [] here) [
      | inl is ↦ let at : i ≡ i + 0 = omega arith in (0, slot, refl, eqb-true slot.meta meta same, sym is ∙ at)
      | inr none ↦ absurd (nothing_in q none)
    ]
    by false same here = absurd (nothing_in q here)

pub only_model_is : (env : Environment) (m model : ℕ) (class : ClassId) → IsClassIn env.metas m class → only_model env.models m ≡ Some model
    → IsOnlyModelOf (context_of env) model m class
unfolding only_model
only_model_is env m model class has is =
    let one : models_of m 0 env.models ≡ model ∷ [] = only_one (models_of m 0 env.models) model is in
    let f = from_list m 0 env.models model (subst (λ xs. Contains xs model) (sym one) (first_in model model [] refl)) in
    let at : 0 + f.0 ≡ f.0 = omega arith in
    record {
      slot = f.1;
      found = subst (λ k. slice_get env.models k ≡ Some f.1) (sym (f.4 ∙ at)) f.2;
      typed = f.3;
      has = has;
      alone = λ other s is_there of.
          let among : Contains (model ∷ []) (0 + other) = subst (λ xs. Contains xs (0 + other)) one (listed m 0 env.models other s is_there of) in
          let back : 0 + other ≡ other = omega arith in
          elim (in_either model (0 + other) [] among) [ inl same ↦ sym (same ∙ back) | inr none ↦ absurd (nothing_in (0 + other) none) ];
    }

-- ---- properties

described_is : (metas : List MetaDesc) (m : ℕ) (c : ClassId) (name : List ℕ) (o : Option PropType) (q : ℕ) (p : PropId × Values × Ty) → m < length metas → c.0 < class_count (meta_at metas m)
    → IsPropNamed (meta_at metas m) c.0 name (record { 0 = q }) → type_of (meta_at metas m) q ≡ o
    → option_map (λ ty. (record { 0 = q }, values_of (prop_at (meta_at metas m) q), value_type m ty)) o ≡ Some p
    → HasPropertyNamed metas (types.Class m c) name p
described_is metas m c name None q p within inside own typed is = absurd (none-some p is)
described_is metas m c name (Some ty) q p within inside own typed is =
    subst (HasPropertyNamed metas (types.Class m c) name) (same_Some (record { 0 = q }, values_of (prop_at (meta_at metas m) q), value_type m ty) p is) (record {
      property = record {
        m = m;
        class = c;
        is = refl;
        has = record { meta = meta_at metas m; found = slice_get-get_or metas m no_meta within; within = inside };
        own = own.has;
        of = ty;
        typed = typed;
        value = refl;
        many = refl;
      };
      named = own.named;
    })

pub class_property_is : (metas : List MetaDesc) (m : ℕ) (c : ClassId) (name : List ℕ) (p : PropId × Values × Ty) → class_property metas m c name ≡ Some p → HasPropertyNamed metas (types.Class m c) name p
class_property_is metas m c name p is = by (nat_lt m (length metas) && nat_lt c.0 (class_count (meta_at metas m))) refl is
  where
    there : (o : Option ℕ) → prop_number (meta_at metas m) c.0 name ≡ o → m < length metas → c.0 < class_count (meta_at metas m)
        → option_and_then (described m (meta_at metas m)) o ≡ Some p → HasPropertyNamed metas (types.Class m c) name p
    there None at within inside is = absurd (none-some p is)
    there (Some q) at within inside is =
        let named : IsPropNamed (meta_at metas m) c.0 name (record { 0 = q }) = prop_named (meta_at metas m) c.0 name (Some (record { 0 = q })) (sym at) in
        described_is metas m c name (type_of (meta_at metas m) q) q p within inside named refl is

    by : (b : Bool) → (nat_lt m (length metas) && nat_lt c.0 (class_count (meta_at metas m))) ≡ b
        → (if b then option_and_then (described m (meta_at metas m)) (prop_number (meta_at metas m) c.0 name) else None) ≡ Some p → HasPropertyNamed metas (types.Class m c) name p
    by true both is =
        let two = and_parts (nat_lt m (length metas)) (nat_lt c.0 (class_count (meta_at metas m))) both in
        there (prop_number (meta_at metas m) c.0 name) refl (ltb-true _ _ two.0) (ltb-true _ _ two.1) is
    by false both is = absurd (none-some p is)

pub property_is : (metas : List MetaDesc) (ty : Ty) (name : List ℕ) (p : PropId × Values × Ty) → property_of metas ty name ≡ Some p → HasPropertyNamed metas ty name p
property_is metas ty name p is = by (class_of ty) refl is
  where
    by : (o : Option (ℕ × ClassId)) → class_of ty ≡ o → option_and_then (λ (c : ℕ × ClassId). class_property metas c.0 c.1 name) o ≡ Some p → HasPropertyNamed metas ty name p
    by None at is = absurd (none-some p is)
    by (Some c) at is = subst (λ t. HasPropertyNamed metas t name p) (sym (is_class ty c at)) (class_property_is metas c.0 c.1 name p is)

module _ (metas : List MetaDesc) (well : AreWell metas) where
  -- the property of a name that a class has is the one that is found
  only_named : (m : ℕ) (meta : MetaDesc) (class : ClassId) (name : List ℕ) (p : PropId) → WellMeta meta → class.0 < class_count meta → IsPropNamed meta class.0 name p
      → prop_number meta class.0 name ≡ Some p.0
  only_named m meta class name p fine inside named = by (prop_number meta class.0 name) refl
    where
      conforms : (q : ℕ) → Contains (props_of meta class.0) q → Conforms meta class.0 (owner_of meta q)
      conforms q own = (has_exactly meta class.0 inside q (prop_known meta class.0 q own)).0 own

      by : (o : Option ℕ) → prop_number meta class.0 name ≡ o → prop_number meta class.0 name ≡ Some p.0
      by None at = absurd (prop_named meta class.0 name None (sym at) p.0 named.has named.named)
      by (Some q) at =
          let other : IsPropNamed meta class.0 name (record { 0 = q }) = prop_named meta class.0 name (Some (record { 0 = q })) (sym at) in
          at ∙ ap (λ n. Some n) (fine.distinct.props class.0 q p.0 inside (prop_known meta class.0 q other.has) (prop_known meta class.0 p.0 named.has)
          (conforms q other.has) (conforms p.0 named.has) (other.named ∙ sym named.named))

  pub property_where : (ty : Ty) (name : List ℕ) (p : PropId × Values × Ty) → HasPropertyNamed metas ty name p → property_of metas ty name ≡ Some p
  property_where ty name p h =
      ap (option_and_then (λ (c : ℕ × ClassId). class_property metas c.0 c.1 name)) (ap class_of has.is ∙ class_of_class has.m has.class)
      ∙ ap (λ b. if b then option_and_then (described has.m meta) (prop_number meta has.class.0 name) else None) (and_from (nat_lt has.m (length metas)) (nat_lt has.class.0 (class_count meta)) (lt-ltb has.m (length metas) within) (lt-ltb has.class.0 (class_count meta) inside))
      ∙ ap (option_and_then (described has.m meta)) (only_named has.m meta has.class name p.0 (well has.m no_meta within) inside named)
      ∙ ap (option_map (λ t. (p.0, values_of (prop_at meta p.0.0), value_type has.m t))) typed
      ∙ ap (λ t. Some (p.0, values_of (prop_at meta p.0.0), t)) (sym has.value)
      ∙ ap (λ v. Some (p.0, v, p.2)) (ap (λ d. values_of (prop_at d p.0.0)) same ∙ sym has.many)
    where
      has : HasProperty metas ty p.0 p.1 p.2
      has = h.property

      meta : MetaDesc
      meta = meta_at metas has.m

      same : meta ≡ has.has.meta
      same = get_or_from_slice_get metas has.m has.has.meta no_meta has.has.found

      within : has.m < length metas
      within = slice_get_within metas has.m has.has.meta has.has.found

      inside : has.class.0 < class_count meta
      inside = subst (λ d. has.class.0 < class_count d) (sym same) has.has.within

      typed : type_of meta p.0.0 ≡ Some has.of
      typed = ap (λ d. type_of d p.0.0) same ∙ has.typed

      named : IsPropNamed meta has.class.0 name p.0
      named = subst (λ d. IsPropNamed d has.class.0 name p.0) (sym same) (record { has = has.own; named = h.named })
