-- Attributes of the model that enforcement makes have values of their types, each once, and references partners of their types, each once.
use Rattle.std.specs.Prelude.{◌≡◌, ◌≢◌, ℕ, true, false, List, Option, None, Some, All, AllPairs, Contains, IsTrue}
use Rattle.std.specs.List.{filter_map}
use Rattle.std.proofs.Common.{refl, ap, sym, ◌∙◌, subst, inl, inr, true≢false}
use Rattle.std.proofs.lemmas.List.Elements.{All-contains}
use Rattle.std.proofs.lemmas.Option.{same_Some}
use Rattle.mof_metamodel.specs.declared.desc.MetaDesc.{MetaDesc}
use Rattle.mof_metamodel.specs.declared.desc.PropType.{PropType}
use Rattle.mof_metamodel.specs.declared.desc.PropType.TheVariants as types
use Rattle.mof_metamodel.specs.Metamodels.{props_of, type_of, Conforms}
use Rattle.mof_metamodel.proofs.Facts.{nothing_in}
use Rattle.mof_metamodel.proofs.ReachLemmas.{conforms_through}
use Rattle.object_tables.specs.declared.value.Value.{Value}
use Rattle.object_tables.specs.Objects.{Object}
use Rattle.object_tables.specs.Models.{ModelData, class_at, is_class_type, slot_in, values_at, is_value_of, ConformsTo, IsSlotOf, IsPartnerFor}
use Rattle.object_tables.specs.Kept.{IsWellAttribute, IsWellReference}
use Rattle.object_tables.proofs.KeptLemmas.{sound_of, linked_partner}
use Rattle.qv_syntax.specs.declared.program.Program.{Program}
use Rattle.qvtr_semantics.specs.declared.datum.Datum.{Datum}
use Rattle.qvtr_semantics.specs.Objects.{value_datum}
use Rattle.qvtr_semantics.specs.Outs.{value_of_datum}
use Rattle.repair_semantics.specs.declared.term.Term.{out-Term}
use Rattle.repair_semantics.specs.declared.demand.Demand.{Demand}
use Rattle.repair_semantics.specs.TargetItems.{target_meta_number}
use Rattle.repair_semantics.specs.Claims.{Held}
use Rattle.repair_semantics.specs.Candidates.{value_held, partner_held, candidate}
use Rattle.candidate_laws.specs.Placing.{Placeable}
use Rattle.candidate_laws.specs.Parts.{IsClaimedIn, IsKeptIn, made_contents}
use Rattle.candidate_laws.proofs.Lists.{all_from, none_given, from_filter_map, pairs_later, later_filter_map}
use Rattle.candidate_laws.proofs.Contents.{contents_from}
use Rattle.candidate_laws.proofs.Numbers.{object_of_term}
use Rattle.candidate_laws.proofs.DemandClaims.{claimed_pair, claimed_value}
use Rattle.candidate_laws.proofs.MadeSlots.{value_back, partner_is, held_object, held_datum, Before, before, still, values_are, partners_are, once_in_slot, link_from}

-- the class conforms to what one that it conforms to does
conforming : (meta : MetaDesc) (ty : Option PropType) (c d : ℕ) → Conforms meta c d → ConformsTo meta d ty → ConformsTo meta c ty
conforming meta (Some (types.Class k)) c d up h = conforms_through meta c d k.0 up h
conforming meta ty c d up h = absurd h

module _ (program : Program) (m : ModelData) (demands : List Demand) (placeable : Placeable program m demands) where
  -- ---- attributes

  -- a datum of the type, seen as its value
  record IsGoodDatum (p : ℕ) (h : Held ℕ) : Type 0 where
    datum : Datum
    is : h ≡ Held.datum datum
    value : Value
    value_is : value_of_datum datum ≡ Some value
    seen : value_datum (target_meta_number program) value ≡ datum
    typed : IsTrue (is_value_of m.meta (type_of m.meta p) value)

  module _ (o p class : ℕ) (class_is : class_at (candidate program m demands) o ≡ Some class) (has : Contains (props_of m.meta class) p) where
    value_typed : (v : Value) → is_class_type (type_of m.meta p) ≡ false → Contains (values_at m o p) v
        → IsTrue (is_value_of m.meta (type_of m.meta p) v)
    value_typed v attribute there = by (before program m demands placeable o class class_is)
      where
        by : Before program m demands placeable o class → IsTrue (is_value_of m.meta (type_of m.meta p) v)
        by (Before.old was stays) =
            All-contains (λ w. IsTrue (is_value_of m.meta (type_of m.meta p) w)) (values_at m o p) v
            (placeable.kept.attributes o p (record { class = class; class_is = was; has = has; attribute = attribute })).values.typed there
        by (Before.new gone) = absurd (nothing_in v (subst (λ (x : Option Object). Contains (slot_in m.meta p x).values v) gone there))

    good_datum : is_class_type (type_of m.meta p) ≡ false → (h : Held ℕ) → Contains (made_contents program m demands o p) h → IsGoodDatum p h
    good_datum attribute h c = elim (contents_from program m demands o p h c) [ inl kept ↦ of_kept h kept | inr claimed ↦ of_claimed h claimed ]
      where
        of_kept : (h : Held ℕ) → IsKeptIn program m demands o p h → IsGoodDatum p h
        of_kept (Held.object b) k = absurd (true≢false (sym (held_object program m o p b k.held).0 ∙ attribute))
        of_kept (Held.datum d) k =
            let found = held_datum program m o p d k.held in
            let (v, there, seen) = found.1 in
            record {
              datum = d;
              is = refl;
              value = v;
              value_is = ap value_of_datum (sym seen) ∙ value_back (target_meta_number program) v;
              seen = seen;
              typed = value_typed v attribute there;
            }

        of_claimed : (h : Held ℕ) → IsClaimedIn program m demands o p h → IsGoodDatum p h
        of_claimed (Held.object b) k = absurd (true≢false (sym (claimed_pair program m demands placeable o p b k).reference ∙ attribute))
        of_claimed (Held.datum d) k =
            let v = (claimed_value program m demands placeable o p d k).value in
            record { datum = d; is = refl; value = v.value; value_is = v.value_is; seen = v.seen; typed = v.typed }

    value_same : (h : Held ℕ) (v : Value) (g : IsGoodDatum p h) → value_held h ≡ Some v → g.value ≡ v
    value_same h v g is = same_Some g.value v (sym g.value_is ∙ sym (ap value_held g.is) ∙ is)

    seen_as : (h : Held ℕ) (v : Value) → IsGoodDatum p h → value_held h ≡ Some v → h ≡ Held.datum (value_datum (target_meta_number program) v)
    seen_as h v g is = g.is ∙ ap (λ d. Held.datum d) (sym g.seen ∙ ap (value_datum (target_meta_number program)) (value_same h v g is))

    pub well_attribute : is_class_type (type_of m.meta p) ≡ false → IsWellAttribute (candidate program m demands) o p
    well_attribute attribute = record {
      values = subst (IsSlotOf m.meta p) (sym (values_are program m demands placeable o p class class_is has))
          (record { typed = all_typed; distinct = all_distinct });
      partners = partners_are program m demands placeable o p class class_is has
          ∙ none_given partner_held (made_contents program m demands o p) no_partner;
    }
      where
        good : (h : Held ℕ) → Contains (made_contents program m demands o p) h → IsGoodDatum p h
        good = good_datum attribute

        all_typed : All (λ v. IsTrue (is_value_of m.meta (type_of m.meta p) v)) (filter_map value_held (made_contents program m demands o p))
        all_typed =
            all_from (λ v. IsTrue (is_value_of m.meta (type_of m.meta p) v)) (filter_map value_held (made_contents program m demands o p)) (λ v c.
            let (h, there, is) = from_filter_map value_held (made_contents program m demands o p) v c in
            subst (λ w. IsTrue (is_value_of m.meta (type_of m.meta p) w)) (value_same h v (good h there) is) (good h there).typed)

        all_distinct : AllPairs (λ (v w : Value). v ≢ w) (filter_map value_held (made_contents program m demands o p))
        all_distinct =
            pairs_later (λ (v w : Value). v ≢ w) (filter_map value_held (made_contents program m demands o p))
            (later_filter_map (λ (h i : Held ℕ). h ≢ i) (λ (v w : Value). v ≢ w) value_held (made_contents program m demands o p)
            (λ h i v w a b ne f g same.
            ne (seen_as h v (good h a) f ∙ ap (λ z. Held.datum (value_datum (target_meta_number program) z)) same ∙ sym (seen_as i w (good i b) g)))
            (once_in_slot program m demands placeable o p class class_is has))

        no_partner : (h : Held ℕ) → Contains (made_contents program m demands o p) h → partner_held h ≡ None
        no_partner h c = ap partner_held (good h c).is

    -- ---- references

    good_partner : is_class_type (type_of m.meta p) ≡ true → (b : ℕ) → Contains (made_contents program m demands o p) (Held.object b)
        → IsPartnerFor (candidate program m demands) p b
    good_partner reference b c =
        elim (contents_from program m demands o p (Held.object b) c) [ inl kept ↦ of_kept kept | inr claimed ↦ of_claimed claimed ]
      where
        of_kept : IsKeptIn program m demands o p (Held.object b) → IsPartnerFor (candidate program m demands) p b
        of_kept k =
            let partner = linked_partner m p o b (sound_of m placeable.kept) (held_object program m o p b k.held).1 in
            let stays = still program m demands placeable b partner.class partner.class_is k.left in
            record { class = partner.class; class_is = stays; conforms = partner.conforms }

        of_claimed : IsClaimedIn program m demands o p (Held.object b) → IsPartnerFor (candidate program m demands) p b
        of_claimed k =
            let pair = claimed_pair program m demands placeable o p b k in
            let object = object_of_term program m demands placeable pair.far b pair.far_there pair.far_is in
            record {
              class = object.class;
              class_is = object.class_is;
              conforms = conforming m.meta (type_of m.meta p) object.class (out-Term pair.far).class.0 object.conforms pair.conforms;
            }

    no_value : is_class_type (type_of m.meta p) ≡ true → (h : Held ℕ) → Contains (made_contents program m demands o p) h → value_held h ≡ None
    no_value reference (Held.object b) c = refl
    no_value reference (Held.datum d) c = elim (contents_from program m demands o p (Held.datum d) c) [
      | inl kept ↦ absurd (true≢false (sym reference ∙ (held_datum program m o p d kept.held).0))
      | inr claimed ↦ absurd (true≢false (sym reference ∙ (claimed_value program m demands placeable o p d claimed).attribute))
    ]

    pub well_reference : is_class_type (type_of m.meta p) ≡ true → IsWellReference (candidate program m demands) o p
    well_reference reference = record {
      values = values_are program m demands placeable o p class class_is has
          ∙ none_given value_held (made_contents program m demands o p) (no_value reference);
      partners = λ b linked. good_partner reference b (link_from program m demands placeable p o b linked).within;
      distinct = subst (AllPairs (λ (x y : ℕ). x ≢ y)) (sym (partners_are program m demands placeable o p class class_is has))
          (pairs_later (λ (x y : ℕ). x ≢ y) (filter_map partner_held (made_contents program m demands o p))
          (later_filter_map (λ (h i : Held ℕ). h ≢ i) (λ (x y : ℕ). x ≢ y) partner_held (made_contents program m demands o p)
          (λ h i x y a b ne f g same. ne (partner_is h x f ∙ ap (λ z. Held.object z) same ∙ sym (partner_is i y g)))
          (once_in_slot program m demands placeable o p class class_is has)));
    }
