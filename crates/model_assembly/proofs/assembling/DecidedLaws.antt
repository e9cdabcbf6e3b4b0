-- A model of which is known what every model keeps is valid and within the limit on depth, or it has a fault.
use Rattle.std.proofs.Common.{◌≡◌, ℕ, zero, suc, ◌+◌, ◌<◌, ◌≤◌, Bool, true, false, List, [], ◌∷◌, ◌++◌, length, get_or, map, refl, sym, ◌∙◌, ap, subst, arith, Option, None, Some, inl, inr}
use Rattle.std.specs.Prelude.{Contains, nat_eq}
use Rattle.std.specs.List.{list_any}
use Rattle.std.specs.Option.{option_map}
use Rattle.std.proofs.lemmas.Bool.{and_parts, cases_lt, cases_order, eqb-true, true≢false}
use Rattle.std.proofs.lemmas.List.{length-map, get_or-map}
use Rattle.mof_metamodel.specs.declared.desc.PropId.{PropId}
use Rattle.object_tables.specs.declared.limit.TheConstants.{MAX_DEPTH}
use Rattle.mof_metamodel.specs.Metamodels.{props_of, prop_at}
use Rattle.mof_metamodel.specs.Tables.{prop_numbers}
use Rattle.object_tables.specs.declared.breach.Breach.{Breach}
use Rattle.object_tables.specs.declared.breach.BreachKind.{BreachKind}
use Rattle.object_tables.specs.declared.breach.BreachKind.TheVariants as kinds
use Rattle.object_tables.specs.declared.limit.LimitKind.TheVariants as limits
use Rattle.object_tables.specs.Containment.{IsContainer, IsContainerPath, IsOnCycle, IsAcyclic, IsDepth}
use Rattle.object_tables.specs.Kept.{Kept}
use Rattle.object_tables.specs.Models.{ModelData, object_at, class_at, partners_at, IsLive, IsTop}
use Rattle.object_tables.specs.Objects.{Object}
use Rattle.object_tables.specs.Validity.{IsPropertyOf, count_at, KeepsBounds, IsKeptBefore, IsBrokenAt, IsLeastOnCycle, IsFirstBreach, Valid}
use Rattle.object_tables.proofs.BreachLemmas.{keeps-gone, keeps-all, kept-before}
use Rattle.object_tables.proofs.ContainmentLemmas.{live-below, path-push, LeadsBack, cycle-live, cycle-begin, cycle-step, cycle-top, path-cycle}
use Rattle.object_tables.proofs.DepthLemmas.{depth-same}
use Rattle.object_tables.proofs.KeptLemmas.{sound_of, linked_reference}
use Rattle.object_tables.proofs.ModelLemmas.{live_class, live_from_class}
use Rattle.model_assembly.specs.declared.fault.ModelFault.{ModelFault}
use Rattle.model_assembly.specs.declared.fault.ModelFault.TheVariants as faults
use Rattle.model_assembly.specs.AssemblyChecks.{HasTooDeep, IsSoundModel, IsFaultOf, by_breach, by_depth}
use Rattle.model_assembly.specs.Profile.{object_props, live_numbers, is_part, contains_by}
use Rattle.model_assembly.proofs.WritingParts.{one_of, part_where_contained, HasTop, climb}
use Rattle.model_assembly.proofs.assembling.CheckLaws.{breach_live}

-- ---- bounds

-- a bound is broken at the property, or none is
data Bounded (m : ModelData) (o p : ℕ) : Type 0 where
  breaks : (kind : BreachKind) → IsBrokenAt m kind o p → Bounded m o p
  keeps : KeepsBounds m o p → Bounded m o p

bounded : (m : ModelData) (o p : ℕ) → IsPropertyOf m o p → Bounded m o p
bounded m o p r = elim (cases_lt (count_at m o p) (prop_at m.meta p).lower) [
  | inl few ↦ breaks kinds.Lower (record { property = r; below = few })
  | inr enough ↦ upper enough (prop_at m.meta p).upper refl
]
  where
    some_same : (a b : ℕ) → Some a ≡ Some b → a ≡ b
    some_same a b e = cc

    upper : (prop_at m.meta p).lower ≤ count_at m o p → (u : Option ℕ) → (prop_at m.meta p).upper ≡ u → Bounded m o p
    upper enough None e = keeps (record {
      lower = λ few. (let below = few.below in omega (arith, enough, below));
      upper = λ many. (let none : None ≡ Some many.bound = sym e ∙ many.bound_is in absurd cc);
    })
    upper enough (Some b) e = elim (cases_lt b (count_at m o p)) [
      | inl many ↦ breaks kinds.Upper ((λ few. (let below = few.below in omega (arith, enough, below))), record { property = r; bound = b; bound_is = e; above = many })
      | inr within ↦ keeps (record {
        lower = λ few. (let below = few.below in omega (arith, enough, below));
        upper = λ many. (let same = some_same b many.bound (sym e ∙ many.bound_is) in let above = many.above in omega (arith, within, same, above));
      })
    ]

-- the first breach of bounds, or none
data AllBounded (m : ModelData) (P : Type 0) : Type 0 where
  broken : (b : Breach) → IsFirstBreach m b → AllBounded m P
  kept : P → AllBounded m P

numbers_of : (ps : List ℕ) → List PropId
numbers_of ps = map (λ p. record { 0 = p }) ps

numbers_back : (ps : List ℕ) → prop_numbers (map (λ p. record { 0 = p }) ps) ≡ ps
numbers_back [] = refl
numbers_back (p ∷ ps) = ap (λ (qs : List ℕ). p ∷ qs) (numbers_back ps)

module _ (m : ModelData) (k : Kept m) where
  no_prop : PropId
  no_prop = record { 0 = 0 }

  -- at an object, from a property on
  bounds_from : (o c room i : ℕ) (props : List PropId) → class_at m o ≡ Some c → prop_numbers props ≡ props_of m.meta c → room + i ≡ length props
      → ((j : ℕ) → j < i → KeepsBounds m o (get_or props j no_prop).0) → ((a q : ℕ) → a < o → KeepsBounds m a q) → AllBounded m ((p : ℕ) → KeepsBounds m o p)
  bounds_from o c zero i props class is n each before = kept (keeps-all m o c props no_prop class is (λ j l. each j (omega (arith, l, n))))
  bounds_from o c (suc room) i props class is n each before =
      by (bounded m o (get_or props i no_prop).0 (record { class = c; class_is = class; has = has })) (bounds_from o c room (suc i) props class is (omega (arith, n)))
    where
      within : i < length props
      within = omega (arith, n)

      has : Contains (props_of m.meta c) (get_or props i no_prop).0
      has =
          let count = length-map props (λ (q : PropId). q.0) in
          subst (λ (ps : List ℕ). Contains ps (get_or props i no_prop).0) is
          (i, omega (arith, within, count), get_or-map (λ (q : PropId). q.0) props i no_prop (get_or props i no_prop).0 within)

      more : KeepsBounds m o (get_or props i no_prop).0 → (j : ℕ) → j < suc i → KeepsBounds m o (get_or props j no_prop).0
      more here j l = elim (cases_lt j i) [
        | inl earlier ↦ each j earlier
        | inr late ↦ (let same : i ≡ j = omega (arith, l, late) in subst (λ (n : ℕ). KeepsBounds m o (get_or props n no_prop).0) same here)
      ]

      first : (kind : BreachKind) (p : ℕ) → IsBrokenAt m kind o p → IsKeptBefore m o p → IsBrokenAt m kind o p × IsKeptBefore m o p
      first kind p h g = (h, g)

      by : Bounded m o (get_or props i no_prop).0
          → (((j : ℕ) → j < suc i → KeepsBounds m o (get_or props j no_prop).0) → ((a q : ℕ) → a < o → KeepsBounds m a q) → AllBounded m ((p : ℕ) → KeepsBounds m o p)) → AllBounded m ((p : ℕ) → KeepsBounds m o p)
      by (keeps h) next = next (more h) before
      by (breaks kind h) next =
          broken (record { kind = kind; object = record { 0 = o }; prop = Some (get_or props i no_prop) })
          (first kind (get_or props i no_prop).0 h (kept-before m o c i props no_prop class is within each before))

  object_bounds : (o : ℕ) → ((a q : ℕ) → a < o → KeepsBounds m a q) → AllBounded m ((p : ℕ) → KeepsBounds m o p)
  object_bounds o before = by (object_at m o) refl
    where
      by : (x : Option Object) → object_at m o ≡ x → AllBounded m ((p : ℕ) → KeepsBounds m o p)
      by None e = kept (λ p. keeps-gone m o p (λ live. (let none : false ≡ true = ap some_object (sym e) ∙ live in true≢false (sym none))))
        where
          some_object : Option Object → Bool
          some_object None = false
          some_object (Some object) = true
      by (Some object) e =
          let props : List PropId = map (λ p. record { 0 = p }) (props_of m.meta object.class) in
          bounds_from o object.class (length props) 0 props (ap (option_map (λ ob. ob.class)) e) (numbers_back (props_of m.meta object.class)) (omega arith) (λ j l. absurd (omega (arith, l))) before

  -- from an object on
  objects_bounds : (room o : ℕ) → room + o ≡ length m.objects → ((a q : ℕ) → a < o → KeepsBounds m a q) → AllBounded m ((a q : ℕ) → KeepsBounds m a q)
  objects_bounds zero o n before =
      kept (λ a q. elim (cases_lt a o) [
        | inl l ↦ before a q l
        | inr l ↦ keeps-gone m a q (λ live. (let below = live-below m a live in omega (arith, below, l, n)))
      ])
  objects_bounds (suc room) o n before = by (object_bounds o before) (objects_bounds room (suc o) (omega (arith, n)))
    where
      more : ((p : ℕ) → KeepsBounds m o p) → (a q : ℕ) → a < suc o → KeepsBounds m a q
      more here a q l = elim (cases_lt a o) [
        | inl earlier ↦ before a q earlier
        | inr late ↦ (let same : o ≡ a = omega (arith, l, late) in subst (λ (x : ℕ). KeepsBounds m x q) same (here q))
      ]

      by : AllBounded m ((p : ℕ) → KeepsBounds m o p) → (((a q : ℕ) → a < suc o → KeepsBounds m a q) → AllBounded m ((a q : ℕ) → KeepsBounds m a q)) → AllBounded m ((a q : ℕ) → KeepsBounds m a q)
      by (broken b h) next = broken b h
      by (kept h) next = next (more h)

  -- ---- cycles

  -- an object has a container, or is a top object
  data Upward (o : ℕ) : Type 0 where
    to : (a : ℕ) → IsContainer m o a → Upward o
    topmost : IsTop m o → Upward o

  upward : (o : ℕ) → Upward o
  upward o = by (is_part m o) refl
    where
      by : (t : Bool) → is_part m o ≡ t → Upward o
      by false e = topmost (λ a p c. true≢false (sym (part_where_contained m o a p (linked_reference m p a o (sound_of m k) c.linked) c) ∙ e))
      by true e =
          let (a, ca, ha) = one_of (λ y. list_any (contains_by m o y) (object_props m y)) (live_numbers m) e in
          let (p, cp, hp) = one_of (contains_by m o a) (object_props m a) ha in
          let both = and_parts (prop_at m.meta p).composite (list_any (nat_eq o) (partners_at m a p)) hp in
          let (b, cb, hb) = one_of (nat_eq o) (partners_at m a p) both.1 in
          to a (p, record { composite = both.0; linked = subst (Contains (partners_at m a p)) (sym (eqb-true o b hb)) cb })

  data OnCycle (o : ℕ) : Type 0 where
    on : IsOnCycle m o → OnCycle o
    off : (IsOnCycle m o → ⊥) → OnCycle o

  no_room : (at o n : ℕ) → LeadsBack m at o n n → ⊥
  no_room at o n b = let more = b.more in let few = b.few in omega (arith, more, few)

  -- after some steps up from o
  around : (room at o step : ℕ) (path : List ℕ) → IsContainerPath m o path at → room + step ≡ length m.objects → (IsOnCycle m o → LeadsBack m at o step (length m.objects)) → OnCycle o
  around zero at o step path up n back =
      let ends : step ≡ length m.objects = omega (arith, n) in
      off (λ c. no_room at o (length m.objects) (subst (λ (s : ℕ). LeadsBack m at o s (length m.objects)) ends (back c)))
  around (suc room) at o step path up n back = by (upward at) (around room)
    where
      next : (c : ℕ) → IsContainer m at c → (c ≡ o → ⊥) → IsOnCycle m o → LeadsBack m c o (suc step) (length m.objects)
      next c h differs cycle =
          let same : step + 1 ≡ suc step = omega arith in
          subst (λ (s : ℕ). LeadsBack m c o s (length m.objects)) same (cycle-step m at o step (length m.objects) c k (back cycle) h differs)

      by : Upward at
          → ((at o step : ℕ) (path : List ℕ) → IsContainerPath m o path at → room + step ≡ length m.objects → (IsOnCycle m o → LeadsBack m at o step (length m.objects)) → OnCycle o) → OnCycle o
      by (topmost top) further = off (λ c. cycle-top m at o step (length m.objects) (back c) top)
      by (to c h) further = elim (cases_order c o) [
        | inl same ↦ on (path-cycle m o path at up (subst (IsContainer m at) same h))
        | inr other ↦
            further c o (suc step) (path ++ c ∷ []) (path-push m o path at c up h) (omega (arith, n))
            (next c h (λ same. (elim other [ inl l ↦ omega (arith, l, same) | inr l ↦ omega (arith, l, same) ])))
      ]

  on_cycle : (o : ℕ) → OnCycle o
  on_cycle o = around (length m.objects) o o 0 [] refl (omega arith) (cycle-begin m o)

  data Acyclic : Type 0 where
    cyclic : (o : ℕ) → IsLeastOnCycle m o → Acyclic
    acyclic : IsAcyclic m → Acyclic

  -- from an object on
  cycles_from : (room o : ℕ) → room + o ≡ length m.objects → ((a : ℕ) → a < o → IsOnCycle m a → ⊥) → Acyclic
  cycles_from zero o n before = acyclic (λ a c. (let below = live-below m a (cycle-live m a c) in before a (omega (arith, below, n)) c))
  cycles_from (suc room) o n before = by (on_cycle o) (cycles_from room (suc o) (omega (arith, n)))
    where
      more : (IsOnCycle m o → ⊥) → (a : ℕ) → a < suc o → IsOnCycle m a → ⊥
      more here a l = elim (cases_lt a o) [
        | inl earlier ↦ before a earlier
        | inr late ↦ (let same : o ≡ a = omega (arith, l, late) in subst (λ (x : ℕ). IsOnCycle m x → ⊥) same here)
      ]

      by : OnCycle o → (((a : ℕ) → a < suc o → IsOnCycle m a → ⊥) → Acyclic) → Acyclic
      by (on c) next = cyclic o (record { cycle = c; least = before })
      by (off c) next = next (more c)

  -- ---- validity

  data Decided : Type 0 where
    first : (b : Breach) → IsFirstBreach m b → Decided
    valid : Valid m → Decided

  validity : Decided
  validity = by (objects_bounds (length m.objects) 0 (omega arith) (λ a q l. absurd (omega (arith, l))))
    where
      of_cycles : ((a q : ℕ) → KeepsBounds m a q) → Acyclic → Decided
      of_cycles h (cyclic o c) = first (record { kind = kinds.ContainmentCycle; object = record { 0 = o }; prop = None }) (refl, c, h)
      of_cycles h (acyclic none) = valid (record { kept = k; bounds = h; acyclic = none })

      by : AllBounded m ((a q : ℕ) → KeepsBounds m a q) → Decided
      by (broken b h) = first b h
      by (kept h) = of_cycles h (cycles_from (length m.objects) 0 (omega arith) (λ a l. absurd (omega (arith, l))))

  -- ---- depth

  data Deep : Type 0 where
    deep : HasTooDeep m → Deep
    shallow : ((o d : ℕ) → IsLive m o → IsDepth m o d → d ≤ MAX_DEPTH) → Deep

  abbrev IsShallowAt : ℕ → Type 0
  IsShallowAt o = (d : ℕ) → IsLive m o → IsDepth m o d → d ≤ MAX_DEPTH

  -- an object is too deep, or isn't
  data DeepAt (o : ℕ) : Type 0 where
    deep_at : HasTooDeep m → DeepAt o
    shallow_at : IsShallowAt o → DeepAt o

  depth_at : IsAcyclic m → (o : ℕ) → DeepAt o
  depth_at none o = by (object_at m o) refl
    where
      of_live : IsLive m o → DeepAt o
      of_live live =
          let t : HasTop m k o = climb m k none (length m.objects) o o [] live refl (omega arith) in
          let depth : IsDepth m o (suc (length t.path)) = (t.path, t.top, t.up, t.is_top, refl) in
          elim (cases_lt MAX_DEPTH (suc (length t.path))) [
            | inl more ↦ deep_at (record { object = o; live = live; depth = suc (length t.path); depth_is = depth; deep = more })
            | inr few ↦ shallow_at (λ d l h. (let same = depth-same m o d (suc (length t.path)) k h depth in omega (arith, same, few)))
          ]

      by : (x : Option Object) → object_at m o ≡ x → DeepAt o
      by None e = shallow_at (λ d live h. (let (c, class) = live_class m o live in absurd (no_class c (sym (ap (option_map (λ ob. ob.class)) e) ∙ class))))
        where
          no_class : (c : ℕ) → None ≡ Some c → ⊥
          no_class c f = cc
      by (Some object) e = of_live (live_from_class m o object.class (ap (option_map (λ ob. ob.class)) e))

  depths_from : IsAcyclic m → (room o : ℕ) → room + o ≡ length m.objects → ((a : ℕ) → a < o → IsShallowAt a) → Deep
  depths_from none zero o n before = shallow (λ a d live h. (let below = live-below m a live in before a (omega (arith, below, n)) d live h))
  depths_from none (suc room) o n before = by (depth_at none o) (depths_from none room (suc o) (omega (arith, n)))
    where
      more : IsShallowAt o → (a : ℕ) → a < suc o → IsShallowAt a
      more here a l = elim (cases_lt a o) [
        | inl earlier ↦ before a earlier
        | inr late ↦ (let same : o ≡ a = omega (arith, l, late) in subst IsShallowAt same here)
      ]

      by : DeepAt o → (((a : ℕ) → a < suc o → IsShallowAt a) → Deep) → Deep
      by (deep_at h) next = deep h
      by (shallow_at h) next = next (more h)

  -- ---- all of it

  pub data Checked : Type 0 where
    sound : IsSoundModel m → Checked
    fault : (f : ModelFault) → IsFaultOf m f → Checked

  of_breach : (b : Breach) → IsFirstBreach m b → Checked
  of_breach b h = by (object_at m b.object.0) refl (breach_live m b k h)
    where
      by : (x : Option Object) → object_at m b.object.0 ≡ x → IsLive m b.object.0 → Checked
      by None e live = (let (c, class) = live_class m b.object.0 live in absurd (no_class c (sym (ap (option_map (λ ob. ob.class)) e) ∙ class)))
        where
          no_class : (c : ℕ) → None ≡ Some c → ⊥
          no_class c f = cc
      by (Some object) e live = fault (faults.Invalid b object.id) (by_breach b h (object.id, refl, ap (option_map (λ ob. ob.id)) e))

  pub checked : Checked
  checked = by validity
    where
      of_depth : Valid m → Deep → Checked
      of_depth v (deep h) = fault (faults.Limit limits.Depth) (by_depth refl v h)
      of_depth v (shallow h) = sound (record { valid = v; depth = h })

      by : Decided → Checked
      by (first b h) = of_breach b h
      by (valid v) = of_depth v (depths_from v.acyclic (length m.objects) 0 (omega arith) (λ a l. absurd (omega (arith, l))))
