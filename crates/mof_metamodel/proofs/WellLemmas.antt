-- A description is a metamodel exactly where no search finds a fault, and is then refused for want of memory alone.
use Rattle.std.proofs.Common.{◌≡◌, ◌≢◌, ℕ, zero, suc, ◌+◌, ◌<◌, ◌≤◌, List, [], Bool, true, false, ◌&&◌, ◌||◌, length, get_or, refl, sym, ◌∙◌, ap, subst, arith, true≢false, eq-eqb}
use Rattle.std.specs.Prelude.{Option, Some, None, Result, Ok, Err, IfErr, IsOkUnless, IsTrue, IfSome, Contains, ◌↔◌, not, is_some, ◌==◌}
use Rattle.std.proofs.lemmas.Bool.{eqb-true, ne_eqb, false≢true}
use Rattle.std.proofs.lemmas.Bool.Decides.{nat_tests}
use Rattle.std.proofs.lemmas.List.{get_or_default}
use Rattle.mof_metamodel.specs.declared.desc.MetaDesc.{MetaDesc}
use Rattle.mof_metamodel.specs.declared.desc.OppDesc.{OppDesc}
use Rattle.mof_metamodel.specs.declared.desc.PropType.{PropType}
use Rattle.mof_metamodel.specs.declared.desc.PropType.TheVariants as types
use Rattle.mof_metamodel.specs.declared.fault.MetaError.{MetaError}
use Rattle.mof_metamodel.specs.declared.fault.MetaError.TheVariants as errors
use Rattle.mof_metamodel.specs.declared.fault.MetaKind.{MetaKind}
use Rattle.mof_metamodel.specs.declared.fault.MetaKind.TheVariants as kinds
use Rattle.mof_metamodel.specs.Metamodels.{class_count, class_at, enum_at, no_class, no_enum, no_prop, class_number, literal_at, prop_count, prop_at, owner_of, first_own, lineage_of, Conforms, IsCircular, type_of, opposite_number, opposite_of}
use Rattle.mof_metamodel.specs.WellMeta.{WellMeta, IsWithinLimits, HasGoodNames, HasDistinctNames, HasKnownNames, HasGoodBounds, AreOpposites, HasGoodOpposites, HasOneContainer, IsAcyclic, is_name, is_prop_name}
use Rattle.mof_metamodel.specs.MetaFaults.{IsSearchedWell, IsRefusal, IsFirstFault, StandsFirst, PassesNames, PassesDuplicates, PassesTypes, PassesBounds, is_within_limits, IsFirstCircular, HasNoFault, first_duplicate, unless, qualified, is_number, is_class, bad_name_in_class, bad_name_in_enum, first_bad_name, is_known_opposite, is_known_prop, unknown_in_class, first_unknown, has_bounds, bad_bounds_in_class, first_bad_bounds, prop_name, agree, first_bad_opposite, has_one_container, first_two_containers}
use Rattle.mof_metamodel.proofs.TableLemmas.{prop_total, own_within}
use Rattle.mof_metamodel.proofs.PropLemmas.{IsOwned, owned_at, own_is}
use Rattle.mof_metamodel.proofs.LineageLemmas.{Has-from_Contains, Contains-from_Has}
use Rattle.mof_metamodel.proofs.ReachLemmas.{lineage_exactly}
use Rattle.mof_metamodel.proofs.DistinctLemmas.{distinct_from, distinct_to}
use Rattle.mof_metamodel.proofs.OnceLemmas.{lineage_once}
use Rattle.mof_metamodel.proofs.SearchLemmas.{not_false, none_parts, none_both, unless_none, unless_true, none_each, none_all, none_number, none_numbers, number_is, is_number_of, passes_each, passes_all}
use Rattle.std.proofs.lemmas.Bool.{not-true}
use Rattle.std.proofs.lemmas.Bool.{and_from}
use Rattle.mof_metamodel.proofs.Facts.{second_true}
use Rattle.mof_metamodel.proofs.Facts.{first_true}

-- ---- limits

pub limits_from : (desc : MetaDesc) → IsTrue (is_within_limits desc) → IsWithinLimits desc
limits_from desc h =
    let total = prop_total desc in
    record {
      classes = grind (arith, nat_tests);
      enums = grind (arith, nat_tests);
      props = grind (arith, nat_tests);
      literals = grind (arith, nat_tests);
    }

pub limits_to : (desc : MetaDesc) → IsWithinLimits desc → IsTrue (is_within_limits desc)
limits_to desc w =
    let total = prop_total desc in
    let classes = w.classes in
    let enums = w.enums in
    let props = w.props in
    let literals = w.literals in
    grind (arith, nat_tests)

-- ---- a fact of each property, class by class

module _ (desc : MetaDesc) where
  -- a property as its class has it
  prop_in : (p : ℕ) (at : IsOwned desc p) → prop_at desc p ≡ get_or (class_at desc at.class).props at.index no_prop
  prop_in p at = ap (λ x. x.1) at.declared

  -- and a property of a class by its number
  in_prop : (c i : ℕ) → i < length (class_at desc c).props → prop_at desc (first_own desc c + i) ≡ get_or (class_at desc c).props i no_prop
  in_prop c i l = ap (λ x. x.1) (own_is desc c i l)

  -- ---- names

  pub names_from : first_bad_name desc ≡ None → HasGoodNames desc
  names_from h =
      let (mine, others) = none_parts _ _ h in
      let (classes, enums) = none_parts _ _ others in
      record {
        metamodel = unless_none (is_name desc.name) desc.name mine;
        classes = λ c l. unless_none (is_name (class_at desc c).name) (class_at desc c).name (none_parts _ _ (none_each bad_name_in_class desc.classes classes c no_class l)).0;
        props = λ p l.
            let at = owned_at desc p l in
            let class = class_at desc at.class in
            let good : is_prop_name (get_or class.props at.index no_prop).name ≡ true =
            unless_none _ (qualified class.name (get_or class.props at.index no_prop).name)
            (none_each (λ p. unless (is_prop_name p.name) (qualified class.name p.name)) class.props
            (none_parts _ _ (none_each bad_name_in_class desc.classes classes at.class no_class at.within)).1 at.index no_prop at.short) in
            ap (λ x. is_prop_name x.name) (prop_in p at) ∙ good;
        enums = λ e l. unless_none (is_name (enum_at desc e).name) (enum_at desc e).name (none_parts _ _ (none_each bad_name_in_enum desc.enums enums e no_enum l)).0;
        literals = λ e i l li.
            unless_none (is_name (literal_at desc e i)) (qualified (enum_at desc e).name (literal_at desc e i))
            (none_each (λ x. unless (is_name x) (qualified (enum_at desc e).name x)) (enum_at desc e).literals
            (none_parts _ _ (none_each bad_name_in_enum desc.enums enums e no_enum l)).1 i [] li);
      }

  pub names_to : HasGoodNames desc → first_bad_name desc ≡ None
  names_to w =
      none_both _ _ (unless_true (is_name desc.name) desc.name w.metamodel)
      (none_both _ _
      (none_all bad_name_in_class desc.classes (λ c d l. subst (λ x. bad_name_in_class x ≡ None) (get_or_default desc.classes c no_class d l)
      (none_both _ _ (unless_true (is_name (class_at desc c).name) (class_at desc c).name (w.classes c l))
      (none_all (λ p. unless (is_prop_name p.name) (qualified (class_at desc c).name p.name)) (class_at desc c).props (λ i e li.
      let here : get_or (class_at desc c).props i e ≡ prop_at desc (first_own desc c + i) = get_or_default (class_at desc c).props i e no_prop li ∙ sym (in_prop c i li) in
      unless_true _ _ (ap (λ x. is_prop_name x.name) here ∙ w.props (first_own desc c + i) (own_within desc c i l li)))))))
      (none_all bad_name_in_enum desc.enums (λ e d l. subst (λ x. bad_name_in_enum x ≡ None) (get_or_default desc.enums e no_enum d l)
      (none_both _ _ (unless_true (is_name (enum_at desc e).name) (enum_at desc e).name (w.enums e l))
      (none_all (λ x. unless (is_name x) (qualified (enum_at desc e).name x)) (enum_at desc e).literals (λ i y li.
      unless_true _ _ (ap is_name (get_or_default (enum_at desc e).literals i y [] li) ∙ w.literals e i l li)))))))

  -- ---- known names

  known_opposite : (o : Option OppDesc) → is_known_opposite desc o ≡ true → is_some o ≡ true → is_some (opposite_number desc o) ≡ true
  known_opposite None k h = absurd (false≢true h)
  known_opposite (Some o) k h = k

  opposite_known : (o : Option OppDesc) → (is_some o ≡ true → is_some (opposite_number desc o) ≡ true) → is_known_opposite desc o ≡ true
  opposite_known None h = refl
  opposite_known (Some o) h = h refl

  pub known_from : first_unknown desc ≡ None → HasKnownNames desc
  known_from h =
      let each = none_each (unknown_in_class desc) desc.classes h in
      let prop : (p : ℕ) → p < prop_count desc → is_known_prop desc (prop_at desc p) ≡ true = λ p l.
      let at = owned_at desc p l in
      let class = class_at desc at.class in
      let good : is_known_prop desc (get_or class.props at.index no_prop) ≡ true =
      unless_none _ (qualified class.name (get_or class.props at.index no_prop).name)
      (none_each (λ p. unless (is_known_prop desc p) (qualified class.name p.name)) class.props (none_parts _ _ (each at.class no_class at.within)).1 at.index no_prop at.short) in
      ap (is_known_prop desc) (prop_in p at) ∙ good in
      record {
        supers = λ c name l there. passes_each (λ s. is_some (class_number desc s)) (class_at desc c).supers (unless_none _ (class_at desc c).name (none_parts _ _ (each c no_class l)).0) name there;
        types = λ p l. first_true _ _ (prop p l);
        opposites = λ p l there. known_opposite (prop_at desc p).opposite (second_true _ _ (prop p l)) there;
      }

  pub known_to : HasKnownNames desc → first_unknown desc ≡ None
  known_to w = none_all (unknown_in_class desc) desc.classes (λ c d l. subst (λ x. unknown_in_class desc x ≡ None) (get_or_default desc.classes c no_class d l)
      (none_both _ _ (unless_true _ (class_at desc c).name (passes_all (λ s. is_some (class_number desc s)) (class_at desc c).supers (λ name there. w.supers c name l there)))
      (none_all (λ p. unless (is_known_prop desc p) (qualified (class_at desc c).name p.name)) (class_at desc c).props (λ i e li.
      let here : get_or (class_at desc c).props i e ≡ prop_at desc (first_own desc c + i) = get_or_default (class_at desc c).props i e no_prop li ∙ sym (in_prop c i li) in
      let within = own_within desc c i l li in
      unless_true _ _ (ap (is_known_prop desc) here ∙ and_from _ _ (w.types (first_own desc c + i) within) (opposite_known (prop_at desc (first_own desc c + i)).opposite (w.opposites (first_own desc c + i) within)))))))

  -- ---- bounds

  bounds_in : (lower : ℕ) (upper : Option ℕ) → has_bounds lower upper ≡ true → IfSome upper (λ u. (lower ≤ u) × (0 < u))
  bounds_in lower None h = tt
  bounds_in lower (Some u) h = (grind (arith, nat_tests), grind (arith, nat_tests))

  in_bounds : (lower : ℕ) (upper : Option ℕ) → IfSome upper (λ u. (lower ≤ u) × (0 < u)) → has_bounds lower upper ≡ true
  in_bounds lower None h = refl
  in_bounds lower (Some u) h = let (a, b) = h in grind (arith, nat_tests)

  pub bounds_from : first_bad_bounds desc ≡ None → HasGoodBounds desc
  bounds_from h p l =
      let at = owned_at desc p l in
      let class = class_at desc at.class in
      let prop = get_or class.props at.index no_prop in
      let good : has_bounds prop.lower prop.upper ≡ true =
      unless_none _ (qualified class.name prop.name)
      (none_each (λ p. unless (has_bounds p.lower p.upper) (qualified class.name p.name)) class.props (none_each bad_bounds_in_class desc.classes h at.class no_class at.within) at.index no_prop at.short) in
      subst (λ x. IfSome x.upper (λ u. (x.lower ≤ u) × (0 < u))) (sym (prop_in p at)) (bounds_in prop.lower prop.upper good)

  pub bounds_to : HasGoodBounds desc → first_bad_bounds desc ≡ None
  bounds_to w = none_all bad_bounds_in_class desc.classes (λ c d l. subst (λ x. bad_bounds_in_class x ≡ None) (get_or_default desc.classes c no_class d l)
      (none_all (λ p. unless (has_bounds p.lower p.upper) (qualified (class_at desc c).name p.name)) (class_at desc c).props (λ i e li.
      let here : get_or (class_at desc c).props i e ≡ prop_at desc (first_own desc c + i) = get_or_default (class_at desc c).props i e no_prop li ∙ sym (in_prop c i li) in
      unless_true _ _ (ap (λ x. has_bounds x.lower x.upper) here ∙ in_bounds _ _ (w (first_own desc c + i) (own_within desc c i l li))))))

  -- ---- opposites

  class_is_of : (t : Option PropType) (c : ℕ) → is_class t c ≡ true → t ≡ Some (types.Class (record { 0 = c }))
  class_is_of None c h = absurd (false≢true h)
  class_is_of (Some types.Str) c h = absurd (false≢true h)
  class_is_of (Some types.Int) c h = absurd (false≢true h)
  class_is_of (Some types.Bool) c h = absurd (false≢true h)
  class_is_of (Some (types.Enum e)) c h = absurd (false≢true h)
  class_is_of (Some (types.Class d)) c h = ap (λ n. Some (types.Class (record { 0 = n }))) (eqb-true d.0 c h)

  is_class_of : (t : Option PropType) (c : ℕ) → t ≡ Some (types.Class (record { 0 = c })) → is_class t c ≡ true
  is_class_of t c h = ap (λ x. is_class x c) h ∙ eq-eqb c c refl

  single_where : (composite : Bool) (upper : Option ℕ) → (not composite || is_number upper 1) ≡ true → IsTrue composite → upper ≡ Some 1
  single_where true upper h t = number_is upper 1 h
  single_where false upper h t = absurd (false≢true t)

  where_single : (composite : Bool) (upper : Option ℕ) → (IsTrue composite → upper ≡ Some 1) → (not composite || is_number upper 1) ≡ true
  where_single true upper h = is_number_of upper 1 (h refl)
  where_single false upper h = refl

  other_from : (p q : ℕ) → not (q == p) ≡ true → q ≢ p
  other_from p q h e = false≢true (sym (not-true (q == p) h) ∙ eq-eqb q p e)

  pub opposites_of : (p q : ℕ) → opposite_of desc p ≡ Some q → agree desc p (Some q) ≡ true → AreOpposites desc p q
  opposites_of p q e a =
      let four = first_true _ _ a in
      let three = first_true _ _ four in
      let two = first_true _ _ three in
      record {
        there = e;
        back = number_is (opposite_of desc q) p (first_true _ _ two);
        other = other_from p q (second_true _ _ two);
        type = class_is_of (type_of desc p) (owner_of desc q) (second_true _ _ three);
        back_type = class_is_of (type_of desc q) (owner_of desc p) (second_true _ _ four);
        single = single_where (prop_at desc q).composite (prop_at desc p).upper (second_true _ _ a);
      }

  pub agree_from : (p q : ℕ) → AreOpposites desc p q → agree desc p (Some q) ≡ true
  agree_from p q w =
      and_from _ _ (and_from _ _ (and_from _ _ (and_from _ _ (is_number_of (opposite_of desc q) p w.back) (not_false (q == p) (ne_eqb q p w.other)))
      (is_class_of (type_of desc p) (owner_of desc q) w.type)) (is_class_of (type_of desc q) (owner_of desc p) w.back_type))
      (where_single (prop_at desc q).composite (prop_at desc p).upper w.single)

  pub opposites_from : first_bad_opposite desc ≡ None → HasGoodOpposites desc
  opposites_from h p q l e =
      let a : agree desc p (opposite_of desc p) ≡ true =
      unless_none _ (prop_name desc p) (none_number (λ p. unless (agree desc p (opposite_of desc p)) (prop_name desc p)) (prop_count desc) h p l) in
      opposites_of p q e (ap (agree desc p) (sym e) ∙ a)

  pub opposites_to : HasGoodOpposites desc → first_bad_opposite desc ≡ None
  opposites_to w = none_numbers (λ p. unless (agree desc p (opposite_of desc p)) (prop_name desc p)) (prop_count desc) (λ p l. unless_true _ (prop_name desc p) (by p l (opposite_of desc p) refl))
    where
      by : (p : ℕ) → p < prop_count desc → (o : Option ℕ) → opposite_of desc p ≡ o → agree desc p o ≡ true
      by p l None e = refl
      by p l (Some q) e = agree_from p q (w p q l e)

  -- ---- containers

  not_both : (a b : Bool) → not (a && b) ≡ true → IsTrue a → IsTrue b → ⊥
  not_both true true h x y = false≢true h
  not_both true false h x y = false≢true y
  not_both false b h x y = false≢true x

  both_not : (a b : Bool) → (IsTrue a → IsTrue b → ⊥) → not (a && b) ≡ true
  both_not true true h = absurd (h refl refl)
  both_not true false h = refl
  both_not false b h = refl

  pub containers_from : first_two_containers desc ≡ None → HasOneContainer desc
  containers_from h p q l e =
      let a : has_one_container desc p (opposite_of desc p) ≡ true =
      unless_none _ (prop_name desc p) (none_number (λ p. unless (has_one_container desc p (opposite_of desc p)) (prop_name desc p)) (prop_count desc) h p l) in
      not_both (prop_at desc p).composite (prop_at desc q).composite (ap (has_one_container desc p) (sym e) ∙ a)

  pub containers_to : HasOneContainer desc → first_two_containers desc ≡ None
  containers_to w = none_numbers (λ p. unless (has_one_container desc p (opposite_of desc p)) (prop_name desc p)) (prop_count desc) (λ p l. unless_true _ (prop_name desc p) (by p l (opposite_of desc p) refl))
    where
      by : (p : ℕ) → p < prop_count desc → (o : Option ℕ) → opposite_of desc p ≡ o → has_one_container desc p o ≡ true
      by p l None e = refl
      by p l (Some q) e = both_not (prop_at desc p).composite (prop_at desc q).composite (w p q l e)

  -- ---- all of it

  -- each class has the classes that it conforms to, and no others
  pub conforms_listed : (c d : ℕ) → c < class_count desc → Conforms desc c d → Contains (lineage_of desc c) d
  conforms_listed c d l h = Contains-from_Has (lineage_of desc c) d ((lineage_exactly desc c d l).1 h)

  pub listed_conforms : (c d : ℕ) → c < class_count desc → Contains (lineage_of desc c) d → Conforms desc c d
  listed_conforms c d l h = (lineage_exactly desc c d l).0 (Has-from_Contains (lineage_of desc c) d h)

  pub well_from_searched : IsSearchedWell desc → WellMeta desc
  well_from_searched s = record {
    limits = limits_from desc s.limits;
    names = names_from s.names;
    distinct = distinct_from desc conforms_listed s.distinct;
    known = known_from s.known;
    acyclic = s.acyclic;
    bounds = bounds_from s.bounds;
    opposites = opposites_from s.opposites;
    containers = containers_from s.containers;
  }

  pub searched_from_well : WellMeta desc → IsSearchedWell desc
  searched_from_well w = record {
    limits = limits_to desc w.limits;
    names = names_to w.names;
    distinct = distinct_to desc listed_conforms (λ c l. lineage_once desc c) w.distinct;
    known = known_to w.known;
    acyclic = w.acyclic;
    bounds = bounds_to w.bounds;
    opposites = opposites_to w.opposites;
    containers = containers_to w.containers;
  }

-- ---- a description without faults

other : (o : Option (List ℕ)) (name : List ℕ) → o ≡ None → o ≡ Some name → ⊥
other o name a b = cc

-- no fault stands first in a description without faults
searched_none : (desc : MetaDesc) (kind : MetaKind) (name : List ℕ) → IsSearchedWell desc → IsFirstFault desc kind name → ⊥
searched_none desc kinds.DuplicateName name well h = other _ name well.distinct h.1
searched_none desc kinds.UnknownType name well h = other _ name well.known h.1
searched_none desc kinds.SuperCycle name well h = well.acyclic h.1.class h.1.within h.1.circular
searched_none desc kinds.BadBounds name well h = other _ name well.bounds h.1
searched_none desc kinds.BadOpposite name well h = other _ name well.opposites h.1
searched_none desc kinds.TwoContainers name well h = other _ name well.containers h.1
searched_none desc kinds.Limit name well h = true≢false (sym well.limits ∙ h.0)
searched_none desc kinds.BadName name well h = other _ name well.names h.1

pub ok_where_well : {T : Type 0} (desc : MetaDesc) (r : Result T MetaError) → IfErr r (IsRefusal desc) → WellMeta desc → IsOkUnless r errors.NoMemory
ok_where_well desc (Ok x) h well = tt
ok_where_well desc (Err errors.NoMemory) h well = refl
ok_where_well desc (Err (errors.Fault fault)) h well = absurd (searched_none desc fault.kind fault.name (searched_from_well desc well) h)

-- where no fault is found first, none is found
searched_from_none : (desc : MetaDesc) → ((kind : MetaKind) (name : List ℕ) → IsFirstFault desc kind name → ⊥) → IsSearchedWell desc
searched_from_none desc none =
    let limits : IsTrue (is_within_limits desc) = by_test (is_within_limits desc) (λ e. none kinds.Limit [] (e, refl)) in
    let names : first_bad_name desc ≡ None = by_name (first_bad_name desc) (λ name e. none kinds.BadName name (limits, e)) in
    let distinct : first_duplicate desc ≡ None = by_name (first_duplicate desc) (λ name e. none kinds.DuplicateName name ((limits, names), e)) in
    let known : first_unknown desc ≡ None = by_name (first_unknown desc) (λ name e. none kinds.UnknownType name (((limits, names), distinct), e)) in
    let acyclic : IsAcyclic desc = by_class (λ name e. none kinds.SuperCycle name ((((limits, names), distinct), known), e)) in
    let bounds : first_bad_bounds desc ≡ None = by_name (first_bad_bounds desc) (λ name e. none kinds.BadBounds name (((((limits, names), distinct), known), acyclic), e)) in
    let opposites : first_bad_opposite desc ≡ None = by_name (first_bad_opposite desc) (λ name e. none kinds.BadOpposite name ((((((limits, names), distinct), known), acyclic), bounds), e)) in
    record {
      limits = limits;
      names = names;
      distinct = distinct;
      known = known;
      acyclic = acyclic;
      bounds = bounds;
      opposites = opposites;
      containers = by_name (first_two_containers desc) (λ name e. none kinds.TwoContainers name (((((((limits, names), distinct), known), acyclic), bounds), opposites), e));
    }
  where
    by_test : (b : Bool) → (b ≡ false → ⊥) → b ≡ true
    by_test true h = refl
    by_test false h = absurd (h refl)

    by_name : (o : Option (List ℕ)) → ((name : List ℕ) → o ≡ Some name → ⊥) → o ≡ None
    by_name None h = refl
    by_name (Some name) h = absurd (h name refl)

    -- no class below n reaches itself
    below : ((name : List ℕ) → IsFirstCircular desc name → ⊥) → (n : ℕ) → n ≤ class_count desc → (c : ℕ) → c < n → IsCircular desc c → ⊥
    below h zero l c lc circular = omega arith
    below h (suc n) l c lc circular = h (class_at desc c).name (record {
      class = c;
      within = omega arith;
      circular = circular;
      first = λ d ld. below h n (omega arith) d (omega arith);
      named = refl;
    })

    by_class : ((name : List ℕ) → IsFirstCircular desc name → ⊥) → IsAcyclic desc
    by_class h c l circular = below h (class_count desc) (omega arith) c l circular

-- a description is a metamodel exactly where no fault is found first in it
pub well_where_none : (desc : MetaDesc) → WellMeta desc ↔ HasNoFault desc
well_where_none desc = (λ well kind name. searched_none desc kind name (searched_from_well desc well), λ none. well_from_searched desc (searched_from_none desc none))

-- a fault that is found first stands, and none of a kind before it does
module _ (desc : MetaDesc) where
  names_known : PassesNames desc → IsWithinLimits desc × HasGoodNames desc
  names_known h = (limits_from desc h.0, names_from desc h.1)

  distinct_known : PassesDuplicates desc → IsWithinLimits desc × HasGoodNames desc × HasDistinctNames desc
  distinct_known h = let known = names_known h.0 in (known.0, known.1, distinct_from desc (conforms_listed desc) h.1)

  types_known : PassesTypes desc → IsWithinLimits desc × HasGoodNames desc × HasDistinctNames desc × HasKnownNames desc
  types_known h = let known = distinct_known h.0 in (known.0, known.1, known.2, known_from desc h.1)

  bounds_known : PassesBounds desc → IsWithinLimits desc × HasGoodNames desc × HasDistinctNames desc × HasKnownNames desc × IsAcyclic desc × HasGoodBounds desc
  bounds_known h = let known = types_known h.0.0 in (known.0, known.1, known.2, known.3, h.0.1, bounds_from desc h.1)

  pub stands_first : (kind : MetaKind) (name : List ℕ) → IsFirstFault desc kind name → StandsFirst desc kind
  stands_first kinds.Limit name h = record { stands = λ w. true≢false (sym (limits_to desc w) ∙ h.0); first = tt }
  stands_first kinds.BadName name h = record { stands = λ w. other _ name (names_to desc w) h.1; first = limits_from desc h.0 }
  stands_first kinds.DuplicateName name h = record { stands = λ w. other _ name (distinct_to desc (listed_conforms desc) (λ c l. lineage_once desc c) w) h.1; first = names_known h.0 }
  stands_first kinds.UnknownType name h = record { stands = λ w. other _ name (known_to desc w) h.1; first = distinct_known h.0 }
  stands_first kinds.SuperCycle name h = record { stands = λ w. w h.1.class h.1.within h.1.circular; first = types_known h.0 }
  stands_first kinds.BadBounds name h =
      let known = types_known h.0.0 in
      record { stands = λ w. other _ name (bounds_to desc w) h.1; first = (known.0, known.1, known.2, known.3, h.0.1) }
  stands_first kinds.BadOpposite name h = record { stands = λ w. other _ name (opposites_to desc w) h.1; first = bounds_known h.0 }
  stands_first kinds.TwoContainers name h =
      let known = bounds_known h.0.0 in
      record { stands = λ w. other _ name (containers_to desc w) h.1; first = (known.0, known.1, known.2, known.3, known.4, known.5, opposites_from desc h.0.1) }
