-- Objects of the target and those with their numbers in a target that is the same are twins.
use Rattle.std.specs.Prelude.{◌≡◌, ◌⊎◌, ◌==◌, ◌&&◌, ℕ, Bool, true, false, List, [], ◌∷◌, map, Option, None, Some, slice_get, Contains, if◌then◌else◌}
use Rattle.std.specs.List.{AllZip, AllByRecursion}
use Rattle.std.specs.Option.{option_map}
use Rattle.std.proofs.Common.{refl, sym, ap, ◌∙◌, subst, inl, inr, eq-eqb}
use Rattle.std.proofs.lemmas.Bool.{and_left, cases_eq, ne_eqb}
use Rattle.mof_metamodel.specs.declared.desc.MetaDesc.{MetaDesc}
use Rattle.mof_metamodel.specs.Metamodels.{props_of, type_of}
use Rattle.mof_metamodel.proofs.Facts.{contains_first}
use Rattle.object_tables.specs.declared.value.ObjId.{ObjId}
use Rattle.object_tables.specs.declared.value.Value.{Value}
use Rattle.object_tables.specs.declared.value.Value.TheVariants as values
use Rattle.object_tables.specs.Kept.{Kept}
use Rattle.object_tables.specs.Models.{ModelData, class_at, is_class_type, values_at, partners_at, IsLive}
use Rattle.object_tables.specs.Sameness.{IsSame}
use Rattle.object_tables.proofs.KeptLemmas.{sound_of, linked_partner}
use Rattle.object_tables.proofs.ModelLemmas.{live_class, live_from_class}
use Rattle.qv_syntax.specs.declared.program.Program.{Program}
use Rattle.qv_syntax.specs.declared.typed.Values.TheVariants as gives
use Rattle.qvtr_semantics.specs.declared.datum.Datum.{Datum}
use Rattle.qvtr_semantics.specs.declared.datum.Datum.TheVariants.{Obj, Val}
use Rattle.qvtr_semantics.specs.Data.{same_datum}
use Rattle.qvtr_semantics.specs.Objects.{Setting, ObjectClass, object_datum, value_datum, meta_of, is_number_among, data_at, held_at, navigated, class_of}
use Rattle.qvtr_semantics.specs.Outs.{and_then, given}
use Rattle.qvtr_semantics.specs.Expressions.{setting}
use Rattle.ocl_eval.proofs.ClassLaws.{among_to}
use Rattle.ocl_eval.specs.OrderLaws.{same_swapped}
use Rattle.template_match.proofs.ListLaws.{contains_later}
use Rattle.source_laws.specs.Agreement.{AgreeBut}
use Rattle.source_laws.specs.SourceValues.{IsOfSources, HasNoTarget}
use Rattle.source_laws.proofs.SettingLaws.{held_same, class_same, property_apart}
use Rattle.same_targets.proofs.Twins.{AreTargets, AllTwins, IsTwinning}

-- ---- objects of a model

module _ (program : Program) (models : List ModelData) (k : ModelData) (is : slice_get models program.target ≡ Some k) where
  -- the class of an object of the target, and what it holds
  class_in : (o : ℕ) → class_of (setting program models) (object_datum program.target o) ≡ option_map (λ class. let c : ObjectClass = record { meta = k.meta; class = class } in c) (class_at k o)
  class_in o = ap (λ found. and_then found (λ (model : ModelData). option_map (λ class. let c : ObjectClass = record { meta = model.meta; class = class } in c) (class_at model o))) is

  held_in : (o p : ℕ) → held_at (setting program models) (object_datum program.target o) p
      ≡ and_then (class_at k o) (λ class. if is_number_among p (props_of k.meta class) then Some (data_at (setting program models) program.target k o p) else None)
  held_in o p =
      ap (λ found. and_then found (λ (model : ModelData). and_then (class_at model o) (λ class.
      if is_number_among p (props_of model.meta class) then Some (data_at (setting program models) program.target model o p) else None))) is

  class_back : (o : ObjId) (c : ObjectClass) → class_of (setting program models) (Obj program.target o) ≡ Some c → IsLive k o.0
  class_back o c h = by (class_at k o.0) refl (sym (class_in o.0) ∙ h)
    where
      by : (x : Option ℕ) → class_at k o.0 ≡ x → option_map (λ class. let z : ObjectClass = record { meta = k.meta; class = class } in z) x ≡ Some c → IsLive k o.0
      by None at g = absurd (cc)
      by (Some class) at g = live_from_class k o.0 class at

-- ---- data of the sources

value_apart : (t meta : ℕ) (v : Value) → IsOfSources t (value_datum meta v)
value_apart t meta (values.Str s) = tt
value_apart t meta (values.Int i) = tt
value_apart t meta (values.Bool b) = tt
value_apart t meta (values.Lit e n) = tt

-- none is an object of the target
never_target : (t : ℕ) (d : Datum) (o : ObjId) → IsOfSources t d → same_datum d (Obj t o) ≡ false
never_target t (Val k v) o apart = refl
never_target t (Obj k x) o apart = and_left (k == t) (x.0 == o.0) (ne_eqb k t apart)

module _ (program : Program) (ms ns : List ModelData) (m n : ModelData) (agree : AgreeBut program.target ms ns) (here : slice_get ms program.target ≡ Some m)
    (there : slice_get ns program.target ≡ Some n) (kept : Kept m) (same : IsSame m n)
  where
    -- a datum of the sources and itself; an object of the target and the one with its number in the other target
    pub data IsTwin (d e : Datum) : Type 0 where
      source : IsOfSources program.target d → d ≡ e → IsTwin d e
      object : (o : ℕ) → IsLive m o → d ≡ object_datum program.target o → e ≡ object_datum program.target (same.image o) → IsTwin d e

    kind : (d e : Datum) → IsTwin d e → (IsOfSources program.target d × (d ≡ e)) ⊎ AreTargets program.target d e
    kind d e (IsTwin.source apart is) = inl (apart, is)
    kind d e (IsTwin.object o live d_is e_is) = inr (record { here = record { 0 = o }; there = record { 0 = same.image o }; here_is = d_is; there_is = e_is })

    -- ---- classes

    class_alike : (d e : Datum) → IsTwin d e → class_of (setting program ms) d ≡ class_of (setting program ns) e
    class_alike d e (IsTwin.source apart is) = class_same program.target program.models ms ns agree d apart ∙ ap (class_of (setting program ns)) is
    class_alike d e (IsTwin.object o live d_is e_is) =
        ap (class_of (setting program ms)) d_is ∙ class_in program ms m here o
        ∙ ap (λ (x : MetaDesc). option_map (λ class. let c : ObjectClass = record { meta = x; class = class } in c) (class_at m o)) (sym same.meta)
        ∙ ap (option_map (λ class. let c : ObjectClass = record { meta = n.meta; class = class } in c)) (sym (same.classes o live))
        ∙ sym (class_in program ns n there (same.image o)) ∙ sym (ap (class_of (setting program ns)) e_is)

    -- ---- what stands in slots

    sources_twins : (ds : List Datum) → AllByRecursion (IsOfSources program.target) ds → AllZip IsTwin ds ds
    sources_twins [] own = tt
    sources_twins (d ∷ ds) own = (IsTwin.source own.0 refl, sources_twins ds own.1)

    source_held : (s : Option (List Datum)) → HasNoTarget program.target (given s (navigated gives.OrderedSet)) → AllTwins IsTwin s s
    source_held None own = tt
    source_held (Some ds) own = sources_twins ds own

    values_twins : (meta : ℕ) (vs : List Value) → AllZip IsTwin (map (value_datum meta) vs) (map (value_datum meta) vs)
    values_twins meta [] = tt
    values_twins meta (v ∷ vs) = (IsTwin.source (value_apart program.target meta v) refl, values_twins meta vs)

    objects_twins : (os : List ℕ) → ((o : ℕ) → Contains os o → IsLive m o)
        → AllZip IsTwin (map (object_datum program.target) os) (map (object_datum program.target) (map same.image os))
    objects_twins [] live = tt
    objects_twins (o ∷ os) live = (IsTwin.object o (live o (contains_first o os)) refl refl, objects_twins os (λ x has. live x (contains_later x o os has)))

    abbrev data_in : Setting → ModelData → ℕ → ℕ → Bool → List Datum
    data_in s k o p b = if b then map (object_datum program.target) (partners_at k o p) else map (value_datum (meta_of s program.target)) (values_at k o p)

    module _ (o p class : ℕ) (class_is : class_at m o ≡ Some class) (has : Contains (props_of m.meta class) p) where
      data_by : (b : Bool) → is_class_type (type_of m.meta p) ≡ b → AllZip IsTwin (data_in (setting program ms) m o p b) (data_in (setting program ns) n (same.image o) p b)
      data_by true reference =
          subst (λ ks. AllZip IsTwin (map (object_datum program.target) (partners_at m o p)) (map (object_datum program.target) ks))
          (sym (same.partners o p (record { class = class; class_is = class_is; has = has; reference = reference })))
          (objects_twins (partners_at m o p) (λ b linked. let w = linked_partner m p o b (sound_of m kept) linked in live_from_class m b w.class w.class_is))
      data_by false attribute =
          subst (λ vs. AllZip IsTwin (map (value_datum (meta_of (setting program ms) program.target)) (values_at m o p)) (map (value_datum (meta_of (setting program ms) program.target)) vs))
          (sym (same.values o p (record { class = class; class_is = class_is; has = has; attribute = attribute })))
          (values_twins (meta_of (setting program ms) program.target) (values_at m o p))

      data_twins : AllZip IsTwin (data_at (setting program ms) program.target m o p) (data_at (setting program ns) program.target n (same.image o) p)
      data_twins =
          subst (λ (x : MetaDesc). AllZip IsTwin (data_at (setting program ms) program.target m o p) (data_in (setting program ns) n (same.image o) p (is_class_type (type_of x p))))
          (sym same.meta) (data_by (is_class_type (type_of m.meta p)) refl)

    abbrev slot_in : Setting → ModelData → ℕ → ℕ → Bool → Option (List Datum)
    slot_in s k o p b = if b then Some (data_at s program.target k o p) else None

    slot_by : (o p class : ℕ) → class_at m o ≡ Some class → (b : Bool) → is_number_among p (props_of m.meta class) ≡ b
        → AllTwins IsTwin (slot_in (setting program ms) m o p b) (slot_in (setting program ns) n (same.image o) p b)
    slot_by o p class class_is true has = data_twins o p class class_is (among_to p (props_of m.meta class) has)
    slot_by o p class class_is false none = tt

    object_held : (o p : ℕ) → IsLive m o → AllTwins IsTwin (held_at (setting program ms) (object_datum program.target o) p)
        (held_at (setting program ns) (object_datum program.target (same.image o)) p)
    object_held o p live =
        let (class, class_is) = live_class m o live in
        let one : held_at (setting program ms) (object_datum program.target o) p ≡ slot_in (setting program ms) m o p (is_number_among p (props_of m.meta class)) =
        held_in program ms m here o p
        ∙ ap (λ x. and_then x (λ c. slot_in (setting program ms) m o p (is_number_among p (props_of m.meta c)))) class_is in
        let other : held_at (setting program ns) (object_datum program.target (same.image o)) p
        ≡ slot_in (setting program ns) n (same.image o) p (is_number_among p (props_of m.meta class)) =
        held_in program ns n there (same.image o) p
        ∙ ap (λ x. and_then x (λ c. slot_in (setting program ns) n (same.image o) p (is_number_among p (props_of n.meta c)))) (same.classes o live ∙ class_is)
        ∙ ap (λ (x : MetaDesc). slot_in (setting program ns) n (same.image o) p (is_number_among p (props_of x class))) same.meta in
        subst (λ s. AllTwins IsTwin s (held_at (setting program ns) (object_datum program.target (same.image o)) p)) (sym one)
        (subst (λ s. AllTwins IsTwin (slot_in (setting program ms) m o p (is_number_among p (props_of m.meta class))) s) (sym other)
        (slot_by o p class class_is (is_number_among p (props_of m.meta class)) refl))

    held_alike : (d e : Datum) (p : ℕ) → IsTwin d e → AllTwins IsTwin (held_at (setting program ms) d p) (held_at (setting program ns) e p)
    held_alike d e p (IsTwin.source apart is) =
        subst (λ s. AllTwins IsTwin (held_at (setting program ms) d p) s)
        (held_same program.target program.models ms ns agree d p apart ∙ ap (λ x. held_at (setting program ns) x p) is)
        (source_held (held_at (setting program ms) d p) (property_apart program.target program.models ms ns agree p gives.OrderedSet d apart))
    held_alike d e p (IsTwin.object o live d_is e_is) =
        subst (λ x. AllTwins IsTwin (held_at (setting program ms) x p) (held_at (setting program ns) e p)) (sym d_is)
        (subst (λ x. AllTwins IsTwin (held_at (setting program ms) (object_datum program.target o) p) (held_at (setting program ns) x p)) (sym e_is) (object_held o p live))

    -- ---- twins are as different as what they are twins of

    numbers_alike : (o q : ℕ) → IsLive m o → IsLive m q → (o == q) ≡ (same.image o == same.image q)
    numbers_alike o q live live_q = elim (cases_eq o q) [
      | inl is ↦ eq-eqb o q is ∙ sym (eq-eqb (same.image o) (same.image q) (ap same.image is))
      | inr differ ↦ ne_eqb o q differ
          ∙ sym (ne_eqb (same.image o) (same.image q) (λ is. differ (sym (same.bijection.back o live) ∙ ap same.origin is ∙ same.bijection.back q live_q)))
    ]

    one_alike : (a b d e : Datum) → IsTwin a d → IsTwin b e → same_datum a b ≡ same_datum d e
    one_alike a b d e (IsTwin.source apart is) (IsTwin.source apart_b is_b) = ap (λ x. same_datum x b) is ∙ ap (same_datum d) is_b
    one_alike a b d e (IsTwin.source apart is) (IsTwin.object q live b_is e_is) =
        ap (same_datum a) b_is ∙ never_target program.target a (record { 0 = q }) apart
        ∙ sym (ap (same_datum d) e_is ∙ never_target program.target d (record { 0 = same.image q }) (subst (IsOfSources program.target) is apart))
    one_alike a b d e (IsTwin.object o live a_is d_is) (IsTwin.source apart is) =
        ap (λ x. same_datum x b) a_is ∙ same_swapped (object_datum program.target o) b ∙ never_target program.target b (record { 0 = o }) apart
        ∙ sym (ap (λ x. same_datum x e) d_is ∙ same_swapped (object_datum program.target (same.image o)) e
        ∙ never_target program.target e (record { 0 = same.image o }) (subst (IsOfSources program.target) is apart))
    one_alike a b d e (IsTwin.object o live a_is d_is) (IsTwin.object q live_q b_is e_is) =
        ap (λ x. same_datum x b) a_is ∙ ap (same_datum (object_datum program.target o)) b_is
        ∙ ap (λ x. (program.target == program.target) && x) (numbers_alike o q live live_q)
        ∙ sym (ap (λ x. same_datum x e) d_is ∙ ap (same_datum (object_datum program.target (same.image o))) e_is)

    pub are_twins : IsTwinning program ms ns IsTwin
    are_twins = record {
      agree = agree;
      kinds = kind;
      sources = λ d apart. IsTwin.source apart refl;
      classes = class_alike;
      held = held_alike;
      one = one_alike;
      total = λ o c h. (object_datum program.target (same.image o.0), IsTwin.object o.0 (class_back program ms m here o c h) refl refl);
      onto = λ o c h.
          let live : IsLive n o.0 = class_back program ns n there o c h in (
            object_datum program.target (same.origin o.0),
            IsTwin.object (same.origin o.0) (same.bijection.covered o.0 live) refl (ap (object_datum program.target) (sym (same.bijection.there o.0 live))),
          );
    }
