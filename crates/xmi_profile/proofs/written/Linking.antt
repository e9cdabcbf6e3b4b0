-- The links that the tree of a model writes are those of the model.
use Rattle.std.proofs.Common.{◌≡◌, ℕ, zero, suc, ◌<◌, ◌≤◌, Bool, true, false, cond, List, [], ◌∷◌, ◌++◌, length, get_or, map, refl, sym, ◌∙◌, ap, ap₂, subst, arith, Option, None, Some, inl, inr, append_assoc, append-nil}
use Rattle.std.specs.Prelude.{◌||◌, nat_eq, All, AllPairs, Contains, IsSome, IsTrue, filter_map, position, is_some}
use Rattle.std.specs.List.{list_any, cons_option}
use Rattle.std.specs.Option.{option_map}
use Rattle.std.proofs.lemmas.Bool.{eqb-true, eq-eqb, ne_eqb, cases_lt, cond-true, cond-false, true≢false}
use Rattle.std.proofs.lemmas.List.{get_or-map, length-map}
use Rattle.object_tables.specs.declared.limit.TheConstants.{MAX_DEPTH}
use Rattle.mof_metamodel.specs.Characters.{same_name, is_identifier_text}
use Rattle.mof_metamodel.specs.Metamodels.{prop_at, type_of, opposite_of, united}
use Rattle.mof_metamodel.specs.WellMeta.{AreOpposites}
use Rattle.mof_metamodel.proofs.DistinctLemmas.{IsOnce}
use Rattle.mof_metamodel.proofs.PropLemmas.{prop_known}
use Rattle.mof_metamodel.proofs.SearchLemmas.{position_alone}
use Rattle.object_tables.specs.Containment.{IsDepth}
use Rattle.object_tables.specs.Kept.{Kept}
use Rattle.object_tables.specs.Models.{ModelData, object_at, id_at, partners_at, values_at, is_class_type, IsLive, IsLinked, IsReferenceOf}
use Rattle.object_tables.specs.Objects.{Object}
use Rattle.object_tables.specs.Validity.{Valid, IsPropertyOf, count_at}
use Rattle.object_tables.proofs.KeptLemmas.{sound_of, linked_reference}
use Rattle.mof_metamodel.proofs.Facts.{contains_map}
use Rattle.object_tables.proofs.ModelLemmas.{live_from_class}
use Rattle.model_assembly.specs.declared.form.Form.{Form}
use Rattle.model_assembly.specs.declared.form.Form.TheVariants as forms
use Rattle.model_assembly.specs.Forms.{is_one, is_composite, form_of}
use Rattle.model_assembly.specs.Links.{is_some_target, speaks, Names, IsPair, HasLinks}
use Rattle.model_assembly.specs.Profile.{id_or_none, id_text, object_props}
use Rattle.model_assembly.specs.declared.target.Target.{Target}
use Rattle.model_assembly.specs.declared.target.Target.TheVariants.{Named, Contained}
use Rattle.model_assembly.specs.Source.{Source, attr_text, targets_of, element_targets, targets_at, number_of, target_number, named_at}
use Rattle.xmi_profile.specs.WrittenOrder.{written_order}
use Rattle.xmi_profile.specs.WrittenTree.{partners_pair, pair_by}
use Rattle.model_assembly.proofs.assembling.ListLaws.{contains_tail}
use Rattle.mof_metamodel.proofs.Facts.{contains_first}
use Rattle.xmi_profile.proofs.WritingForms.{class_typed, is_reference}
use Rattle.xmi_profile.proofs.WritingModels.{property_of}
use Rattle.model_assembly.proofs.WritingParts.{any_of, one_of}
use Rattle.xmi_profile.proofs.written.Known.{partner_live}
use Rattle.xmi_profile.proofs.written.Renumbering.{image, origin, renumbered, back, there, origin_live, image_within, partners_there, distinct_images, IsBack, linked_back, kept_there}
use Rattle.xmi_profile.proofs.written.Ordering.{once_first, once_behind, parts_composite}
use Rattle.xmi_profile.proofs.written.Sources.{source, first_text, none_any, all_ids_are, attr_is, attr_none, attr_past}
use Rattle.xmi_profile.proofs.written.Texts.{targets_by, element_targets_are, element_targets_none, element_targets_past, has_property}
use Rattle.xmi_profile.proofs.written.Words.{words_read}

-- ---- lists

pub from_any : (x : ℕ) (xs : List ℕ) → list_any (nat_eq x) xs ≡ true → Contains xs x
from_any x xs h = let (y, c, e) = one_of (nat_eq x) xs h in subst (Contains xs) (sym (eqb-true x y e)) c

pub to_any : (x : ℕ) (xs : List ℕ) → Contains xs x → list_any (nat_eq x) xs ≡ true
to_any x xs c = any_of (nat_eq x) xs x c (eq-eqb x x refl)

pub apart_from : (xs : List ℕ) (y : ℕ) (ys : List ℕ) → IsOnce (xs ++ y ∷ ys) → Contains xs y → ⊥
apart_from [] y ys once (i, l, e) = omega (arith, l)
apart_from (x ∷ xs) y ys once (zero, l, e) = once_first x y (xs ++ y ∷ ys) once (there_in xs y ys) e
  where
    there_in : (zs : List ℕ) (y : ℕ) (ys : List ℕ) → Contains (zs ++ y ∷ ys) y
    there_in [] y ys = contains_first y ys
    there_in (z ∷ zs) y ys = contains_tail z y (zs ++ y ∷ ys) (there_in zs y ys)
apart_from (x ∷ xs) y ys once (suc i, l, e) = apart_from xs y ys (once_behind x (xs ++ y ∷ ys) once) (i, omega (arith, l), e)

pub united_once : (xs ys : List ℕ) → IsOnce (xs ++ ys) → united xs ys ≡ xs ++ ys
united_once xs [] once = sym (append-nil xs)
united_once xs (y ∷ ys) once =
    let new : list_any (nat_eq y) xs ≡ false = none_any (nat_eq y) xs (λ x c. ne_eqb y x (λ same. apart_from xs y ys once (subst (Contains xs) (sym same) c))) in
    let seam : (xs ++ y ∷ []) ++ ys ≡ xs ++ y ∷ ys = append_assoc xs (y ∷ []) ys in
    ap (λ zs. united zs ys) (cond-false (list_any (nat_eq y) xs) xs (xs ++ y ∷ []) new) ∙ united_once (xs ++ y ∷ []) ys (subst IsOnce (sym seam) once) ∙ seam

pub few_rise : (xs : List ℕ) → length xs ≤ 1 → AllPairs (λ b c. b < c) xs
few_rise xs few i j d l lj = absurd (omega (arith, few, l, lj))

module _ (m : ModelData) (v : Valid m) (shallow : (o d : ℕ) → IsLive m o → IsDepth m o d → d ≤ MAX_DEPTH) where
  abbrev s : Source
  s = source m v shallow

  abbrev number : ℕ → ℕ
  number o = image m o

  -- ---- identifiers

  pub id_known : (o : ℕ) → IsLive m o → id_at m o ≡ Some (id_text m o)
  id_known o live = by (object_at m o) live
    where
      by : (x : Option Object) → IsSome x → option_map (λ ob. ob.id) x ≡ Some (id_or_none (option_map (λ ob. ob.id) x))
      by None l = absurd cc
      by (Some object) l = refl

  pub id_proper : (o : ℕ) → IsLive m o → IsTrue (is_identifier_text (id_text m o))
  id_proper o live = by (object_at m o) refl live
    where
      by : (x : Option Object) → object_at m o ≡ x → IsSome x → IsTrue (is_identifier_text (id_or_none (option_map (λ ob. ob.id) x)))
      by None e l = absurd cc
      by (Some object) e l = (v.kept.objects o object e).identifier

  pub same_id : (a b : ℕ) → IsLive m a → IsLive m b → id_text m a ≡ id_text m b → a ≡ b
  same_id a b la lb e = v.kept.identifiers a b (id_text m b) (id_known a la ∙ ap Some e) (id_known b lb)

  pub number_found : (b : ℕ) → IsLive m b → number_of s (id_text m b) ≡ Some (number b)
  number_found b live =
      let ids : List (List ℕ) = map (id_text m) (written_order m) in
      let count : length ids ≡ length (written_order m) = length-map (written_order m) (id_text m) in
      let within = image_within m v shallow b live in
      let at : get_or ids (number b) [] ≡ id_text m b = get_or-map (id_text m) (written_order m) (number b) 0 [] within ∙ ap (id_text m) (back m v shallow b live) in
      ap (position (same_name (id_text m b))) (all_ids_are m v shallow)
      ∙ ap (λ t. position (same_name t) ids) (sym at)
      ∙ position_alone (λ x. x) ids (number b) [] (omega (arith, count, within))
      (λ k l same.
      let lk : k < length (written_order m) = omega (arith, l, count) in
      let there_is : get_or ids k [] ≡ id_text m (origin m k) = get_or-map (id_text m) (written_order m) k 0 [] lk in
      sym (there m v shallow k lk) ∙ ap number (same_id (origin m k) b (origin_live m v shallow k lk) live (sym there_is ∙ same ∙ at)))

  -- ---- what is named

  abbrev pub named_by : ℕ → ℕ → Form → List ℕ
  named_by a p forms.Identifiers = map number (partners_at m a p)
  named_by a p forms.Parts = map number (partners_at m a p)
  named_by a p forms.Nesting = []
  named_by a p forms.Attribute = []
  named_by a p forms.Elements = []

  read_names : (bs : List ℕ) → ((b : ℕ) → Contains bs b → IsLive m b) → filter_map (target_number s) (map Named (map (id_text m) bs)) ≡ map number bs
  read_names [] h = refl
  read_names (b ∷ bs) h = ap₂ (λ x ys. cons_option x ys) (number_found b (h b (contains_first b bs))) (read_names bs (λ c k. h c (contains_tail b c bs k)))

  pub read_parts : (bs : List ℕ) → filter_map (target_number s) (map (λ b. Contained (number b)) bs) ≡ map number bs
  read_parts [] = refl
  read_parts (b ∷ bs) = ap (λ ys. number b ∷ ys) (read_parts bs)

  proper_ids : (bs : List ℕ) → ((b : ℕ) → Contains bs b → IsLive m b) → All (λ (id : List ℕ). IsTrue (is_identifier_text id)) (map (id_text m) bs)
  proper_ids [] h k d l = absurd (omega (arith, l))
  proper_ids (b ∷ bs) h zero d l = id_proper b (h b (contains_first b bs))
  proper_ids (b ∷ bs) h (suc k) d l = proper_ids bs (λ c g. h c (contains_tail b c bs g)) k d (omega (arith, l))

  -- the targets of an attribute of identifiers
  pub attribute_names : (p : ℕ) (bs : List ℕ) → ((b : ℕ) → Contains bs b → IsLive m b) → targets_of (first_text (partners_pair m p bs)) ≡ map Named (map (id_text m) bs)
  attribute_names p [] h = refl
  attribute_names p (b ∷ bs) h = ap (map Named) (words_read (map (id_text m) (b ∷ bs)) (proper_ids (b ∷ bs) h))

  abbrev pub written_targets : ℕ → ℕ → Form → List Target
  written_targets a p f = targets_of (first_text (pair_by m a p f)) ++ targets_by m v shallow a p f

  pub targets_are : (a p : ℕ) → IsReferenceOf m a p → targets_at s (number a) p ≡ written_targets a p (form_of m.meta p)
  targets_are a p r =
      let live : IsLive m a = live_from_class m a r.class r.class_is in
      let has : Contains (object_props m a) p = has_property m v shallow a p r.class r.class_is r.has in
      ap₂ (λ x y. targets_of x ++ y) (attr_is m v shallow a p live has) (element_targets_are m v shallow a p live has)

  partners_are_live : (a p b : ℕ) → Contains (partners_at m a p) b → IsLive m b
  partners_are_live a p b c = partner_live m v.kept a p b c

  -- such a form is none of a reference
  pub no_reference : (p : ℕ) (f : Form) → form_of m.meta p ≡ f → is_class_type (type_of m.meta p) ≡ true → is_reference f ≡ false → ⊥
  no_reference p f e t h = let z : true ≡ false = sym t ∙ class_typed m.meta p f e ∙ h in cc

  numbers_read : (a p : ℕ) → is_class_type (type_of m.meta p) ≡ true → (f : Form) → form_of m.meta p ≡ f → filter_map (target_number s) (written_targets a p f) ≡ named_by a p f
  numbers_read a p t forms.Identifiers e =
      ap (filter_map (target_number s)) (append-nil (targets_of (first_text (partners_pair m p (partners_at m a p)))) ∙ attribute_names p (partners_at m a p) (partners_are_live a p))
      ∙ read_names (partners_at m a p) (partners_are_live a p)
  numbers_read a p t forms.Parts e = read_parts (partners_at m a p)
  numbers_read a p t forms.Nesting e = refl
  numbers_read a p t forms.Attribute e = absurd (no_reference p forms.Attribute e t refl)
  numbers_read a p t forms.Elements e = absurd (no_reference p forms.Elements e t refl)

  named_once : (a p : ℕ) → IsReferenceOf m a p → (f : Form) → IsOnce (named_by a p f)
  named_once a p r forms.Identifiers = distinct_images m v shallow (partners_at m a p) (partners_are_live a p) (v.kept.references a p r).distinct
  named_once a p r forms.Parts = distinct_images m v shallow (partners_at m a p) (partners_are_live a p) (v.kept.references a p r).distinct
  named_once a p r forms.Nesting = λ i j d l lj. absurd (omega (arith, lj))
  named_once a p r forms.Attribute = λ i j d l lj. absurd (omega (arith, lj))
  named_once a p r forms.Elements = λ i j d l lj. absurd (omega (arith, lj))

  pub named_is : (a p : ℕ) → IsReferenceOf m a p → named_at s (number a) p ≡ named_by a p (form_of m.meta p)
  named_is a p r =
      ap (λ ts. united [] (filter_map (target_number s) ts)) (targets_are a p r)
      ∙ ap (united []) (numbers_read a p r.reference (form_of m.meta p) refl)
      ∙ united_once [] (named_by a p (form_of m.meta p)) (named_once a p r (form_of m.meta p))

  -- ---- who names

  pub record IsNamer (k q : ℕ) : Type 0 where
    pub object : ℕ
    pub live : IsLive m object
    pub number_is : number object ≡ k
    pub has : Contains (object_props m object) q

  nothing_named : (k q : ℕ) → attr_text s k q ≡ None → element_targets s k q ≡ [] → named_at s k q ≡ []
  nothing_named k q a e = ap₂ (λ x y. united [] (filter_map (target_number s) (targets_of x ++ y))) a e

  pub namer : (q k x : ℕ) → Names s q k x → IsNamer k q
  namer q k x h = elim (cases_lt k (length (written_order m))) [
    | inl l ↦ inside l (list_any (nat_eq q) (object_props m (origin m k))) refl
    | inr past ↦ absurd (nobody (nothing_named k q (attr_past m v shallow k q past) (element_targets_past m v shallow k q past)))
  ]
    where
      nobody : named_at s k q ≡ [] → ⊥
      nobody e = true≢false (sym h ∙ ap (list_any (nat_eq x)) e)

      inside : k < length (written_order m) → (b : Bool) → list_any (nat_eq q) (object_props m (origin m k)) ≡ b → IsNamer k q
      inside l true e = record { object = origin m k; live = origin_live m v shallow k l; number_is = there m v shallow k l; has = from_any q (object_props m (origin m k)) e }
      inside l false e =
          let live = origin_live m v shallow k l in
          let none : Contains (object_props m (origin m k)) q → ⊥ = λ c. true≢false (sym (to_any q (object_props m (origin m k)) c) ∙ e) in
          absurd (nobody (nothing_named k q
          (ap (λ j. attr_text s j q) (sym (there m v shallow k l)) ∙ attr_none m v shallow (origin m k) q live none)
          (ap (λ j. element_targets s j q) (sym (there m v shallow k l)) ∙ element_targets_none m v shallow (origin m k) q live none)))

  pub reference_of : (b q : ℕ) → Contains (object_props m b) q → is_class_type (type_of m.meta q) ≡ true → IsReferenceOf m b q
  reference_of b q has t = let r : IsPropertyOf m b q = property_of m v.kept b q has in record { class = r.class; class_is = r.class_is; has = r.has; reference = t }

  from_named : (b q x : ℕ) (f : Form) → Contains (named_by b q f) x → Contains (map number (partners_at m b q)) x
  from_named b q x forms.Identifiers c = c
  from_named b q x forms.Parts c = c
  from_named b q x forms.Nesting (i, l, e) = absurd (omega (arith, l))
  from_named b q x forms.Attribute (i, l, e) = absurd (omega (arith, l))
  from_named b q x forms.Elements (i, l, e) = absurd (omega (arith, l))

  -- what is named is linked
  pub names_linked : (q k x : ℕ) → is_class_type (type_of m.meta q) ≡ true → Names s q k x → IsLinked (renumbered m) q k x
  names_linked q k x t h =
      let w : IsNamer k q = namer q k x h in
      let r : IsReferenceOf m w.object q = reference_of w.object q w.has t in
      let there_is : Contains (named_at s k q) x = from_any x (named_at s k q) h in
      let named : named_at s k q ≡ named_by w.object q (form_of m.meta q) = ap (λ j. named_at s j q) (sym w.number_is) ∙ named_is w.object q r in
      let partner : Contains (map number (partners_at m w.object q)) x = from_named w.object q x (form_of m.meta q) (subst (λ xs. Contains xs x) named there_is) in
      subst (λ (j : ℕ). IsLinked (renumbered m) q j x) w.number_is (subst (λ xs. Contains xs x) (sym (partners_there m v shallow w.object q w.live)) partner)

  -- where links are written, what is linked is named
  linked_named : (q b c : ℕ) → IsReferenceOf m b q → named_by b q (form_of m.meta q) ≡ map number (partners_at m b q) → IsLinked m q b c → Names s q (number b) (number c)
  linked_named q b c r e h =
      ap (list_any (nat_eq (number c))) (named_is b q r ∙ e) ∙ to_any (number c) (map number (partners_at m b q)) (contains_map number (partners_at m b q) c h)

  -- ---- opposites

  pub opposites_of : (a p q : ℕ) → IsReferenceOf m a p → opposite_of m.meta p ≡ Some q → AreOpposites m.meta p q
  opposites_of a p q r e = v.kept.well.opposites p q (prop_known m.meta r.class p r.has) e

  pub class_typed_opposite : (p q : ℕ) → AreOpposites m.meta p q → is_class_type (type_of m.meta q) ≡ true
  class_typed_opposite p q o = ap is_class_type o.back_type

  record IsNested (p : ℕ) : Type 0 where
    opposite : ℕ
    opposite_is : opposite_of m.meta p ≡ Some opposite
    composite : (prop_at m.meta opposite).composite ≡ true

  nested : (p : ℕ) → form_of m.meta p ≡ forms.Nesting → IsNested p
  nested p e =
      by (opposite_of m.meta p) refl (of_form (is_class_type (type_of m.meta p)) (prop_at m.meta p).composite (is_composite m.meta (opposite_of m.meta p)) (is_one (prop_at m.meta p).upper) e)
    where
      of_form : (t c q u : Bool) → cond t (cond c forms.Parts (cond q forms.Nesting forms.Identifiers)) (cond u forms.Attribute forms.Elements) ≡ forms.Nesting → q ≡ true
      of_form true true q u h = absurd cc
      of_form true false true u h = refl
      of_form true false false u h = absurd cc
      of_form false c q true h = absurd cc
      of_form false c q false h = absurd cc

      by : (o : Option ℕ) → opposite_of m.meta p ≡ o → is_composite m.meta o ≡ true → IsNested p
      by None e h = absurd cc
      by (Some q) e h = record { opposite = q; opposite_is = e; composite = h }

  -- ---- links

  speaks_is : (a p : ℕ) → IsReferenceOf m a p → speaks s (number a) p ≡ (is_some (first_text (pair_by m a p (form_of m.meta p))) || is_some_target (targets_by m v shallow a p (form_of m.meta p)))
  speaks_is a p r =
      let live : IsLive m a = live_from_class m a r.class r.class_is in
      let has : Contains (object_props m a) p = has_property m v shallow a p r.class r.class_is r.has in
      ap₂ (λ x y. is_some x || is_some_target y) (attr_is m v shallow a p live has) (element_targets_are m v shallow a p live has)

  pub links_are : (a p : ℕ) → IsReferenceOf m a p → HasLinks s (renumbered m) (number a) p
  links_are a p r = record {
    all = λ b pair. elim pair [
      | inl named ↦ names_linked p (number a) b r.reference named
      | inr back_named ↦ (
          let (q, opposite, named) = back_named in
          (k.opposites p q (number a) b opposite).1 (names_linked q b (number a) (class_typed_opposite p q (opposites_of a p q r opposite)) named)
          )
    ];
    only = λ b link. only b link (form_of m.meta p) refl;
    order = ((λ speaking. spoken speaking (form_of m.meta p) refl), (λ silent. few_rise (partners_at (renumbered m) (number a) p) (unspoken silent (form_of m.meta p) refl)));
  }
    where
      k : Kept (renumbered m)
      k = kept_there m v shallow

      live : IsLive m a
      live = live_from_class m a r.class r.class_is

      written : (b : ℕ) → IsLinked (renumbered m) p (number a) b → named_by a p (form_of m.meta p) ≡ map number (partners_at m a p) → Names s p (number a) b
      written b link e =
          let w : IsBack m p (number a) b = linked_back m v shallow p (number a) b link in
          let here : IsLinked m p a (origin m b) = subst (λ (x : ℕ). IsLinked m p x (origin m b)) (back m v shallow a live) w.linked in
          subst (Names s p (number a)) w.second (linked_named p a (origin m b) r e here)

      only : (b : ℕ) → IsLinked (renumbered m) p (number a) b → (f : Form) → form_of m.meta p ≡ f → IsPair s p (number a) b
      only b link forms.Identifiers e = inl (written b link (ap (named_by a p) e))
      only b link forms.Parts e = inl (written b link (ap (named_by a p) e))
      only b link forms.Nesting e =
          let n : IsNested p = nested p e in
          let q : ℕ = n.opposite in
          let t : is_class_type (type_of m.meta q) ≡ true = class_typed_opposite p q (opposites_of a p q r n.opposite_is) in
          let w : IsBack m p (number a) b = linked_back m v shallow p (number a) b link in
          let here : IsLinked m p a (origin m b) = subst (λ (x : ℕ). IsLinked m p x (origin m b)) (back m v shallow a live) w.linked in
          let up : IsLinked m q (origin m b) a = (v.kept.opposites p q a (origin m b) n.opposite_is).0 here in
          let whole : IsReferenceOf m (origin m b) q = linked_reference m q (origin m b) a (sound_of m v.kept) up in
          inr (q, n.opposite_is, subst (λ (x : ℕ). Names s q x (number a)) w.second (linked_named q (origin m b) a whole (ap (named_by (origin m b) q) (parts_composite m v.kept q t n.composite)) up))
      only b link forms.Attribute e = absurd (no_reference p forms.Attribute e r.reference refl)
      only b link forms.Elements e = absurd (no_reference p forms.Elements e r.reference refl)

      spoken : speaks s (number a) p ≡ true → (f : Form) → form_of m.meta p ≡ f → partners_at (renumbered m) (number a) p ≡ named_at s (number a) p
      spoken speaking forms.Identifiers e = partners_there m v shallow a p live ∙ sym (named_is a p r ∙ ap (named_by a p) e)
      spoken speaking forms.Parts e = partners_there m v shallow a p live ∙ sym (named_is a p r ∙ ap (named_by a p) e)
      spoken speaking forms.Nesting e =
          absurd (true≢false (sym speaking ∙ speaks_is a p r ∙ ap (λ f. is_some (first_text (pair_by m a p f)) || is_some_target (targets_by m v shallow a p f)) e))
      spoken speaking forms.Attribute e = absurd (no_reference p forms.Attribute e r.reference refl)
      spoken speaking forms.Elements e = absurd (no_reference p forms.Elements e r.reference refl)

      counted : length (partners_at (renumbered m) (number a) p) ≡ length (partners_at m a p)
      counted = ap length (partners_there m v shallow a p live) ∙ length-map (partners_at m a p) number

      of_identifiers : (bs : List ℕ) → (is_some (first_text (partners_pair m p bs)) || false) ≡ false → length bs ≤ 1
      of_identifiers [] h = omega arith
      of_identifiers (b ∷ bs) h = absurd cc

      of_parts : (bs : List ℕ) → is_some_target (map (λ b. Contained (number b)) bs) ≡ false → length bs ≤ 1
      of_parts [] h = omega arith
      of_parts (b ∷ bs) h = absurd cc

      told : speaks s (number a) p ≡ false → (f : Form) → form_of m.meta p ≡ f → (is_some (first_text (pair_by m a p f)) || is_some_target (targets_by m v shallow a p f)) ≡ false
      told silent f e = ap (λ f. is_some (first_text (pair_by m a p f)) || is_some_target (targets_by m v shallow a p f)) (sym e) ∙ sym (speaks_is a p r) ∙ silent

      one_container : form_of m.meta p ≡ forms.Nesting → length (partners_at m a p) ≤ 1
      one_container e =
          let n : IsNested p = nested p e in
          let upper : (prop_at m.meta p).upper ≡ Some 1 = (opposites_of a p n.opposite r n.opposite_is).single n.composite in
          let count : count_at m a p ≡ length (partners_at m a p) = cond-true (is_class_type (type_of m.meta p)) (length (partners_at m a p)) (length (values_at m a p)) r.reference in
          elim (cases_lt 1 (length (partners_at m a p))) [
            | inl many ↦ absurd ((v.bounds a p).upper (record {
              property = record { class = r.class; class_is = r.class_is; has = r.has };
              bound = 1;
              bound_is = upper;
              above = omega (arith, many, count);
            }))
            | inr few ↦ few
          ]

      unspoken : speaks s (number a) p ≡ false → (f : Form) → form_of m.meta p ≡ f → length (partners_at (renumbered m) (number a) p) ≤ 1
      unspoken silent forms.Identifiers e = let few = of_identifiers (partners_at m a p) (told silent forms.Identifiers e) in omega (arith, few, counted)
      unspoken silent forms.Parts e = let few = of_parts (partners_at m a p) (told silent forms.Parts e) in omega (arith, few, counted)
      unspoken silent forms.Nesting e = let few = one_container e in omega (arith, few, counted)
      unspoken silent forms.Attribute e = absurd (no_reference p forms.Attribute e r.reference refl)
      unspoken silent forms.Elements e = absurd (no_reference p forms.Elements e r.reference refl)
