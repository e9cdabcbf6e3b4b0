-- An object has a container exactly where some object's composite property has it as a partner, and the way up from it ends at one that
-- has none.
use Rattle.std.proofs.Common.{length-append, ◌≡◌, ℕ, zero, suc, ◌+◌, ◌<◌, ◌≤◌, Bool, true, false, cond, List, [], ◌∷◌, ◌++◌, length, get_or, refl, sym, ◌∙◌, ap, ap₂, subst, arith, Option, None, Some, inl, inr}
use Rattle.std.specs.Prelude.{◌&&◌, nat_eq, Contains, is_some, filter}
use Rattle.std.specs.List.{list_any, range_with_len}
use Rattle.std.specs.Option.{option_map}
use Rattle.std.proofs.lemmas.Bool.{and_parts, or_cases, eqb-true, eq-eqb, cases_lt, true≢false}
use Rattle.std.proofs.lemmas.List.{get_or_past}
use Rattle.std.proofs.lemmas.List.Folds.{list_any_at}
use Rattle.std.proofs.lemmas.List.FromFn.{length-range_with_len, get_or-range_with_len}
use Rattle.mof_metamodel.specs.Metamodels.{prop_at}
use Rattle.object_tables.specs.Objects.{Object}
use Rattle.object_tables.specs.Containment.{IsContainer, IsContainerPath, IsAcyclic}
use Rattle.object_tables.specs.Kept.{Kept}
use Rattle.object_tables.specs.Models.{ModelData, object_at, class_at, partners_at, IsLive, IsReferenceOf, IsContainedIn, IsTop}
use Rattle.object_tables.proofs.ContainmentLemmas.{path-push, path-few}
use Rattle.object_tables.proofs.KeptLemmas.{sound_of, linked_reference}
use Rattle.model_assembly.specs.Profile.{props_or_none, object_props, live_numbers, contains_by, is_part}
use Rattle.model_assembly.proofs.assembling.ListLaws.{contains_tail}
use Rattle.mof_metamodel.proofs.Facts.{contains_first}

pub any_of : {X : Type 0} (p : X → Bool) (xs : List X) (x : X) → Contains xs x → p x ≡ true → list_any p xs ≡ true
any_of p xs x (k, l, e) h = list_any_at p xs k x l (ap p e ∙ h)

pub one_of : {X : Type 0} (p : X → Bool) (xs : List X) → list_any p xs ≡ true → (x : X) × Contains xs x × (p x ≡ true)
one_of p [] h = absurd cc
one_of p (y ∷ ys) h = elim (or_cases (p y) (list_any p ys) h) [
  | inl here ↦ (y, contains_first y ys, here)
  | inr there ↦ (let found = one_of p ys there in (found.0, contains_tail y found.0 ys found.1, found.2))
]

pub kept_in : {X : Type 0} (p : X → Bool) (xs : List X) (x : X) → Contains xs x → p x ≡ true → Contains (filter p xs) x
kept_in p [] x (k, l, e) h = absurd (omega arith)
kept_in p (y ∷ ys) x c h = by (kept_in p ys x) (p y) refl c
  where
    by : (Contains ys x → p x ≡ true → Contains (filter p ys) x) → (t : Bool) → p y ≡ t → Contains (y ∷ ys) x → Contains (cond t (y ∷ filter p ys) (filter p ys)) x
    by later true e (zero, l, at) = subst (Contains (y ∷ filter p ys)) at (contains_first y (filter p ys))
    by later true e (suc k, l, at) = contains_tail y x (filter p ys) (later (k, omega arith, at) h)
    by later false e (zero, l, at) = absurd (true≢false (sym h ∙ ap p (sym at) ∙ e))
    by later false e (suc k, l, at) = later (k, omega arith, at) h

pub numbered : (n a : ℕ) → a < n → Contains (range_with_len 0 n) a
numbered n a l =
    let len : length (range_with_len 0 n) ≡ n = length-range_with_len 0 n in
    let at : get_or (range_with_len 0 n) a a ≡ a = get_or-range_with_len 0 n a a l ∙ omega arith in
    (a, omega arith, at)

pub known : (m : ModelData) (a : ℕ) → is_some (object_at m a) ≡ true → a < length m.objects
known m a h = elim (cases_lt a (length m.objects)) [
  | inl below ↦ below
  | inr past ↦ absurd (true≢false (sym h ∙ ap is_some (get_or_past m.objects a None past)))
]

classed : (m : ModelData) (a c : ℕ) → class_at m a ≡ Some c → is_some (object_at m a) ≡ true
classed m a c e = by (object_at m a) e
  where
    by : (x : Option Object) → option_map (λ ob. ob.class) x ≡ Some c → is_some x ≡ true
    by None e = absurd cc
    by (Some object) e = refl

pub part_where_contained : (m : ModelData) (o a p : ℕ) → IsReferenceOf m a p → IsContainedIn m o a p → is_part m o ≡ true
part_where_contained m o a p r h =
    let live : is_some (object_at m a) ≡ true = classed m a r.class r.class_is in
    let listed : Contains (live_numbers m) a = kept_in (λ x. is_some (object_at m x)) (range_with_len 0 (length m.objects)) a (numbered (length m.objects) a (known m a live)) live in
    let has : Contains (object_props m a) p = subst (λ (c : Option ℕ). Contains (props_or_none m.meta c) p) (sym r.class_is) r.has in
    let partner : list_any (nat_eq o) (partners_at m a p) ≡ true = any_of (nat_eq o) (partners_at m a p) o h.linked (eq-eqb o o refl) in
    any_of (λ x. list_any (contains_by m o x) (object_props m x)) (live_numbers m) a listed
    (any_of (contains_by m o a) (object_props m a) p has (ap₂ (λ s t. s && t) h.composite partner))

pub no_part_at_top : (m : ModelData) (o : ℕ) → IsTop m o → is_part m o ≡ false
no_part_at_top m o top = by (is_part m o) refl
  where
    by : (t : Bool) → is_part m o ≡ t → t ≡ false
    by false e = refl
    by true e =
        let (a, ca, ha) = one_of (λ x. list_any (contains_by m o x) (object_props m x)) (live_numbers m) e in
        let (p, cp, hp) = one_of (contains_by m o a) (object_props m a) ha in
        let both = and_parts (prop_at m.meta p).composite (list_any (nat_eq o) (partners_at m a p)) hp in
        let (b, cb, hb) = one_of (nat_eq o) (partners_at m a p) both.1 in
        absurd (top a p (record { composite = both.0; linked = subst (Contains (partners_at m a p)) (sym (eqb-true o b hb)) cb }))

-- ---- the way up

module _ (m : ModelData) (k : Kept m) where
  pub reference_of : (b o p : ℕ) → IsContainedIn m b o p → IsReferenceOf m o p
  reference_of b o p h = linked_reference m p o b (sound_of m k) h.linked

  -- the way up from an object ends at one that nothing contains
  pub record HasTop (x : ℕ) : Type 0 where
    pub path : List ℕ
    pub top : ℕ
    pub up : IsContainerPath m x path top
    pub is_top : IsTop m top

  pub climb : IsAcyclic m → (room x at : ℕ) (path : List ℕ) → IsLive m x → IsContainerPath m x path at → length m.objects ≤ room + length path → HasTop x
  climb acyclic zero x at path live up few =
      let l = path-few m x path at acyclic live up in absurd (omega (arith, l, few))
  climb acyclic (suc room) x at path live up few = by (climb acyclic room x) (is_part m at) refl
    where
      by : ((a : ℕ) (way : List ℕ) → IsLive m x → IsContainerPath m x way a → length m.objects ≤ room + length way → HasTop x) → (t : Bool) → is_part m at ≡ t → HasTop x
      by further false e = record { path = path; top = at; up = up; is_top = λ a p c. true≢false (sym (part_where_contained m at a p (reference_of at a p c) c) ∙ e) }
      by further true e =
          let (a, ca, ha) = one_of (λ y. list_any (contains_by m at y) (object_props m y)) (live_numbers m) e in
          let (p, cp, hp) = one_of (contains_by m at a) (object_props m a) ha in
          let both = and_parts (prop_at m.meta p).composite (list_any (nat_eq at) (partners_at m a p)) hp in
          let (b, cb, hb) = one_of (nat_eq at) (partners_at m a p) both.1 in
          let here : IsContainer m at a = (p, record { composite = both.0; linked = subst (Contains (partners_at m a p)) (sym (eqb-true at b hb)) cb }) in
          further a (path ++ a ∷ []) live (path-push m x path at a up here) (omega (arith, few, length-append path (a ∷ [])))
