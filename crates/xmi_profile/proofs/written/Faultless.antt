-- No fault stands in the tree of a model.
use Rattle.std.proofs.Common.{◌≡◌, ℕ, zero, suc, ◌<◌, ◌≤◌, true, false, List, [], ◌∷◌, ◌++◌, length, map, refl, sym, ◌∙◌, ap, ap₂, subst, arith, Option, None, Some, inl, inr, append-nil}
use Rattle.std.specs.Prelude.{◌*◌, ◌||◌, not, nat_eq, replicate, Contains, is_some, slice_get}
use Rattle.std.specs.List.{flat_map, list_any}
use Rattle.std.specs.Option.{option_map, unwrap_or}
use Rattle.std.proofs.lemmas.Bool.{and_parts, cases_lt, cond-false, true≢false}
use Rattle.std.proofs.lemmas.List.{length-map, get_or_past}
use Rattle.std.proofs.lemmas.Option.{slice_get_within}
use Rattle.object_tables.specs.declared.limit.TheConstants.{MAX_DEPTH}
use Rattle.mof_metamodel.specs.Characters.{is_identifier_text}
use Rattle.mof_metamodel.specs.Metamodels.{prop_number, type_of}
use Rattle.mof_metamodel.specs.WellMeta.{is_prop_name}
use Rattle.object_tables.specs.declared.value.Value.{Value}
use Rattle.object_tables.specs.Containment.{IsDepth}
use Rattle.object_tables.specs.Kept.{Kept}
use Rattle.object_tables.specs.Models.{ModelData, object_at, class_at, values_at, partners_at, is_class_type, ConformsTo, IsLive, IsLinked, IsAttributeOf, IsReferenceOf, IsPartnerFor}
use Rattle.object_tables.specs.Validity.{Valid, IsPropertyOf}
use Rattle.object_tables.proofs.ListLemmas.{Contains-from_map}
use Rattle.object_tables.proofs.ModelLemmas.{live_class, live_from_class, same_class}
use Rattle.xmi_text.specs.Trees.{Nodes, Ends, Run, Element}
use Rattle.xmi_text.specs.Writing.{line_end}
use Rattle.model_assembly.specs.declared.fault.ModelFault.{ModelFault}
use Rattle.model_assembly.specs.declared.fault.ModelFault.TheVariants as faults
use Rattle.model_assembly.specs.declared.form.Form.{Form}
use Rattle.model_assembly.specs.declared.form.Form.TheVariants as forms
use Rattle.model_assembly.specs.Attributes.{Attrs, value_where, is_id_name, is_type_name, is_idref_name, is_nil_name, is_kept_name, is_passed_name}
use Rattle.xmi_profile.specs.Canon.{value_text, typed_name, depth_over, top_numbers}
use Rattle.model_assembly.specs.Content.{IsFaultless}
use Rattle.model_assembly.specs.Elements.{Item, inner_place, behind_place}
use Rattle.model_assembly.specs.Faults.{Spot, IsDuplicate, StandsAt, StandsBy}
use Rattle.model_assembly.specs.Forms.{form_of}
use Rattle.model_assembly.specs.Held.{IsHeldModel}
use Rattle.model_assembly.specs.Judged.{runs_in, IsTextAt, IsAlien, IsUnknownClass, is_unknown_of_object, is_unknown_of, IsStranger, IsUnknownAttr, IsWrong, IsWrongValue}
use Rattle.model_assembly.specs.Links.{HasLinks}
use Rattle.model_assembly.specs.Profile.{xmi_id, xmi_type, prop_name, id_text, object_props, props_or_none}
use Rattle.model_assembly.specs.declared.target.Target.{Target}
use Rattle.model_assembly.specs.declared.target.Target.TheVariants.{Named, Contained}
use Rattle.model_assembly.specs.Source.{Source, all_items, file_ids, class_of, targets_of, targets_at, text_in, target_number, named_at}
use Rattle.model_assembly.specs.Values.{is_all_blank, value_of}
use Rattle.xmi_profile.specs.WrittenOrder.{written_order}
use Rattle.xmi_profile.specs.WrittenTree.{value_pair, partners_pair, pair_by, pair_at, object_attrs, each_before, value_nodes, nodes_by, child_nodes, unless_none, lined, object_nodes, top_nodes, written_tree}
use Rattle.model_assembly.proofs.assembling.ListLaws.{in_cons, contains_tail}
use Rattle.mof_metamodel.proofs.Facts.{nothing_in}
use Rattle.mof_metamodel.proofs.Facts.{contains_first}
use Rattle.xmi_profile.proofs.WritingForms.{class_typed}
use Rattle.xmi_profile.proofs.WritingModels.{property_of}
use Rattle.xmi_profile.proofs.written.Items.{bare, good_name, known_class, inner_nodes, value_row, object_row, root_row}
use Rattle.xmi_profile.proofs.written.Known.{IsRow, Root, ValueRow, ObjectRow, IsPlaced, partner_live}
use Rattle.xmi_profile.proofs.written.Linking.{id_proper, same_id, number_found, attribute_names, written_targets, targets_are, no_reference, reference_of, links_are}
use Rattle.xmi_profile.proofs.written.Renumbering.{image, origin, renumbered, there, origin_live, class_there, image_origin, reference_back, linked_there, kept_there}
use Rattle.xmi_profile.proofs.written.Reordered.{moved}
use Rattle.xmi_profile.proofs.written.Spotless.{IsTold, WritesLinks, none_by}
use Rattle.mof_metamodel.proofs.Facts.{contains_at}
use Rattle.xmi_profile.proofs.written.Naming.{prop_read, prop_not_id, prop_not_type, prop_not_idref, prop_not_nil}
use Rattle.xmi_profile.proofs.written.Sources.{source, first_text, item_known, file_ids_are, class_of_is, class_of_past, no_property, slice_get-map}
use Rattle.xmi_profile.proofs.written.Texts.{text_in_nodes, told_value}

-- ---- attributes of an element

abbrev AllAttrs : (List ℕ × List ℕ → Type 0) → Attrs → Type 0
AllAttrs P [] = Unit {0}
AllAttrs P (a ∷ attrs) = P a × AllAttrs P attrs

attrs_both : (P : List ℕ × List ℕ → Type 0) (a b : Attrs) → AllAttrs P a → AllAttrs P b → AllAttrs P (a ++ b)
attrs_both P [] b h k = k
attrs_both P (x ∷ a) b h k = (h.0, attrs_both P a b h.1 k)

attrs_each : {X : Type 0} (P : List ℕ × List ℕ → Type 0) (f : X → Attrs) (xs : List X) → ((x : X) → Contains xs x → AllAttrs P (f x)) → AllAttrs P (flat_map f xs)
attrs_each P f [] h = tt
attrs_each P f (x ∷ xs) h = attrs_both P (f x) (flat_map f xs) (h x (contains_first x xs)) (attrs_each P f xs (λ y c. h y (contains_tail x y xs c)))

attr_at : (P : List ℕ × List ℕ → Type 0) (attrs : Attrs) (n : ℕ) (a : List ℕ × List ℕ) → AllAttrs P attrs → slice_get attrs n ≡ Some a → P a
attr_at P [] n a h e = absurd cc
attr_at P (x ∷ attrs) zero a h e = subst P (ap (λ o. unwrap_or o a) e) h.0
attr_at P (x ∷ attrs) (suc n) a h e = attr_at P attrs n a h.1 e

-- ---- lines are blank

abbrev BlankRuns : Nodes → Type 0
BlankRuns Ends = Unit {0}
BlankRuns (Run characters more) = (is_all_blank characters ≡ true) × BlankRuns more
BlankRuns (Element name attrs inner more) = BlankRuns more

line_blank : (depth : ℕ) → is_all_blank (line_end depth) ≡ true
line_blank depth = spaces (2 * depth)
  where
    spaces : (n : ℕ) → is_all_blank (replicate n 32) ≡ true
    spaces zero = refl
    spaces (suc n) = spaces n

blank_each : {X : Type 0} (f : X → Nodes → Nodes) (xs : List X) (more : Nodes) → ((x : X) (rest : Nodes) → BlankRuns rest → BlankRuns (f x rest)) → BlankRuns more → BlankRuns (each_before f xs more)
blank_each f [] more h b = b
blank_each f (x ∷ xs) more h b = h x (each_before f xs more) (blank_each f xs more h b)

blank_lined : (d : ℕ) (f : Nodes → Nodes) → ((rest : Nodes) → BlankRuns rest → BlankRuns (f rest)) → BlankRuns (lined d f)
blank_lined d f h = by (f Ends)
  where
    by : (nodes : Nodes) → BlankRuns (unless_none nodes (f (Run (line_end d) Ends)))
    by Ends = tt
    by (Run characters more) = h (Run (line_end d) Ends) (line_blank d, tt)
    by (Element name attrs inner more) = h (Run (line_end d) Ends) (line_blank d, tt)

blank_object : (m : ModelData) (levels : ℕ) (element : List ℕ) (o : ℕ) (more : Nodes) → BlankRuns more → BlankRuns (object_nodes m levels element o more)
blank_object m zero element o more b = b
blank_object m (suc levels) element o more b = (line_blank (depth_over levels), b)

blank_children : (m : ModelData) (levels o p : ℕ) (more : Nodes) → BlankRuns more → BlankRuns (child_nodes m (suc (depth_over levels)) (object_nodes m levels) o p more)
blank_children m levels o p more b = by (form_of m.meta p)
  where
    by : (f : Form) → BlankRuns (nodes_by m (suc (depth_over levels)) (object_nodes m levels) o p f more)
    by forms.Attribute = b
    by forms.Identifiers = b
    by forms.Nesting = b
    by forms.Elements = blank_each (value_nodes m.meta (suc (depth_over levels)) p) (values_at m o p) more (λ v rest h. (line_blank (suc (depth_over levels)), h)) b
    by forms.Parts = blank_each (object_nodes m levels (prop_name m.meta p)) (partners_at m o p) more (λ c rest h. blank_object m levels (prop_name m.meta p) c rest h) b

blank_inside : (m : ModelData) (k : Kept m) (image : ℕ → ℕ) (levels o : ℕ) → BlankRuns (inner_nodes m k image levels o)
blank_inside m k image levels o =
    blank_lined (depth_over levels) (each_before (child_nodes m (suc (depth_over levels)) (object_nodes m levels) o) (object_props m o))
    (λ rest h. blank_each (child_nodes m (suc (depth_over levels)) (object_nodes m levels) o) (object_props m o) rest (λ p more b. blank_children m levels o p more b) h)

blank_root : (m : ModelData) → BlankRuns (written_tree m).inner
blank_root m = blank_each (top_nodes m) (top_numbers m) (Run (line_end 0) Ends) (λ o rest h. blank_object m MAX_DEPTH (typed_name m o) o rest h) (line_blank 0, tt)

no_text : (nodes : Nodes) (place : ℕ) (run : ℕ × List ℕ) → BlankRuns nodes → Contains (runs_in nodes place) run → is_all_blank run.1 ≡ true
no_text Ends place run b c = absurd (nothing_in run c)
no_text (Run characters more) place run b c = elim (in_cons (place, characters) (runs_in more (suc place)) run c) [
  | inl same ↦ ap (λ r. is_all_blank r.1) (sym same) ∙ b.0
  | inr there ↦ no_text more (suc place) run b.1 there
]
no_text (Element name attrs inner more) place run b c = no_text more (behind_place place attrs inner) run b c

no_text_at : (item : Item) (place : ℕ) → BlankRuns item.inner → IsTextAt item place → ⊥
no_text_at item place b (characters, c, odd) = true≢false (sym (no_text item.inner (inner_place item.place item.attrs) (place, characters) b c) ∙ odd)

module _ (m : ModelData) (v : Valid m) (shallow : (o d : ℕ) → IsLive m o → IsDepth m o d → d ≤ MAX_DEPTH) where
  abbrev s : Source
  s = source m v shallow

  abbrev number : ℕ → ℕ
  number o = image m o

  abbrev Row : Item → Type 0
  Row item = IsRow m v.kept number item

  -- ---- unknown classes

  classed : (o : ℕ) → IsLive m o → class_at m o ≡ None → ⊥
  classed o live e = let (c, h) = live_class m o live in cc

  no_unknown_class : (item : Item) (place : ℕ) (name : List ℕ) → Row (bare item) → IsUnknownClass item place name → ⊥
  no_unknown_class item place name (Root is) x = subst (λ (i : Item). IsAlien item i.role place name) is x
  no_unknown_class item place name (ValueRow o p w live has form value is) x = subst (λ (i : Item). IsAlien item i.role place name) is x
  no_unknown_class item place name (ObjectRow levels element o within live placed is) x =
      let y : IsAlien item (object_row m v.kept number levels element o within).role place name = subst (λ (i : Item). IsAlien item i.role place name) is x in
      classed o live y.0

  -- ---- unknown properties

  no_stranger : (item : Item) (place : ℕ) (prop : List ℕ) → Row (bare item) → IsStranger item item.role place prop → ⊥
  no_stranger item place prop (Root is) x = subst (λ (i : Item). IsStranger item i.role place prop) is x
  no_stranger item place prop (ValueRow o p w live has form value is) x = subst (λ (i : Item). IsStranger item i.role place prop) is x
  no_stranger item place prop (ObjectRow levels element o within live placed is) x = subst (λ (i : Item). IsStranger item i.role place prop) is x

  abbrev IsKnownName : ℕ → List ℕ × List ℕ → Type 0
  IsKnownName c a = is_unknown_of_object m.meta (Some c) a.0 ≡ false

  known_name : (o c q : ℕ) → class_at m o ≡ Some c → Contains (object_props m o) q → is_unknown_of_object m.meta (Some c) (prop_name m.meta q) ≡ false
  known_name o c q e has =
      let name = prop_name m.meta q in
      let good : is_prop_name name ≡ true = good_name m v.kept number o q has in
      let kept : is_kept_name name ≡ false =
      ap₂ (λ a b. a || b || is_idref_name name || is_nil_name name) (prop_not_id name good) (prop_not_type name good) ∙ ap₂ (λ a b. a || b) (prop_not_idref name good) (prop_not_nil name good) in
      let found : prop_number m.meta c name ≡ Some q =
      prop_read m.meta v.kept.well c q (known_class m v.kept number o c e).0 (subst (λ (x : Option ℕ). Contains (props_or_none m.meta x) q) e has) in
      cond-false (is_id_name name || is_type_name name) false (is_kept_name name || not (is_some (prop_number m.meta c name))) (ap₂ (λ a b. a || b) (prop_not_id name good) (prop_not_type name good))
      ∙ ap₂ (λ a b. a || not (is_some b)) kept found

  names_known : (o c : ℕ) → class_at m o ≡ Some c → AllAttrs (IsKnownName c) (object_attrs m o)
  names_known o c e = (refl, (refl, attrs_each (IsKnownName c) (pair_at m o) (object_props m o) (λ q has. by q (known_name o c q e has) (form_of m.meta q))))
    where
      of_values : (q : ℕ) → is_unknown_of_object m.meta (Some c) (prop_name m.meta q) ≡ false → (vs : List Value) → AllAttrs (IsKnownName c) (value_pair m.meta q vs)
      of_values q h [] = tt
      of_values q h (w ∷ vs) = (h, tt)

      of_partners : (q : ℕ) → is_unknown_of_object m.meta (Some c) (prop_name m.meta q) ≡ false → (bs : List ℕ) → AllAttrs (IsKnownName c) (partners_pair m q bs)
      of_partners q h [] = tt
      of_partners q h (b ∷ bs) = (h, tt)

      by : (q : ℕ) → is_unknown_of_object m.meta (Some c) (prop_name m.meta q) ≡ false → (f : Form) → AllAttrs (IsKnownName c) (pair_by m o q f)
      by q h forms.Attribute = of_values q h (values_at m o q)
      by q h forms.Identifiers = of_partners q h (partners_at m o q)
      by q h forms.Elements = tt
      by q h forms.Parts = tt
      by q h forms.Nesting = tt

  abbrev IsPassed : List ℕ × List ℕ → Type 0
  IsPassed a = is_passed_name a.0 ≡ true

  root_passed : AllAttrs IsPassed (written_tree m).attrs
  root_passed = (refl, (refl, (refl, tt)))

  no_unknown_attr : (item : Item) (place : ℕ) (prop : List ℕ) → Row (bare item) → IsUnknownAttr s item place prop → ⊥
  no_unknown_attr item place prop (Root is) (text, (n, get, at), unknown) =
      let passed : is_passed_name prop ≡ true = attr_at IsPassed (written_tree m).attrs n (prop, text) root_passed (ap (λ (i : Item). slice_get i.attrs n) (sym is) ∙ get) in
      true≢false (sym (and_parts (not (is_passed_name prop)) (is_unknown_of m.meta item.role item.attrs prop) unknown).0 ∙ ap not passed)
  no_unknown_attr item place prop (ValueRow o p w live has form value is) (text, (n, get, at), unknown) =
      let none : slice_get {X = List ℕ × List ℕ} [] n ≡ Some (prop, text) = ap (λ (i : Item). slice_get i.attrs n) (sym is) ∙ get in
      absurd cc
  no_unknown_attr item place prop (ObjectRow levels element o within live placed is) (text, (n, get, at), unknown) =
      let (c, e) = live_class m o live in
      let known : is_unknown_of_object m.meta (Some c) prop ≡ false = attr_at (IsKnownName c) (object_attrs m o) n (prop, text) (names_known o c e) (ap (λ (i : Item). slice_get i.attrs n) (sym is) ∙ get) in
      let of_role : is_unknown_of m.meta item.role item.attrs prop ≡ is_unknown_of_object m.meta (Some c) prop =
      ap (λ (i : Item). is_unknown_of m.meta i.role item.attrs prop) is ∙ ap (λ x. is_unknown_of_object m.meta x prop) e in
      true≢false (sym (and_parts (not (is_passed_name prop)) (is_unknown_of m.meta item.role item.attrs prop) unknown).1 ∙ of_role ∙ known)

  -- ---- repeated identifiers

  id_at_number : (k : ℕ) (id : List ℕ) → slice_get (file_ids s) k ≡ Some id → (k < length (written_order m)) × (id_text m (origin m k) ≡ id)
  id_at_number k id h =
      let here : slice_get (map (id_text m) (written_order m)) k ≡ Some id = ap (λ xs. slice_get xs k) (sym (file_ids_are m v shallow)) ∙ h in
      let l = slice_get_within (map (id_text m) (written_order m)) k id here in
      let same = length-map (written_order m) (id_text m) in
      let within : k < length (written_order m) = omega (arith, l, same) in
      (within, ap (λ o. unwrap_or o id) (sym (slice_get-map (id_text m) (written_order m) k within) ∙ here))

  no_duplicate : (place : ℕ) (id : List ℕ) → IsDuplicate s place id → ⊥
  no_duplicate place id d =
      let (l, e) = id_at_number d.object id d.id_is in
      let (k, f) = id_at_number d.earlier id d.same in
      let same : origin m d.object ≡ origin m d.earlier = same_id m v shallow (origin m d.object) (origin m d.earlier) (origin_live m v shallow d.object l) (origin_live m v shallow d.earlier k) (e ∙ sym f) in
      let numbers : d.object ≡ d.earlier = sym (there m v shallow d.object l) ∙ ap number same ∙ there m v shallow d.earlier k in
      let before = d.before in
      omega (arith, numbers, before)

  -- ---- references

  abbrev n : ModelData
  n = renumbered m

  record IsWrittenTarget (a p : ℕ) (target : Target) : Type 0 where
    object : ℕ
    partner : Contains (partners_at m a p) object
    number_is : target_number s target ≡ Some (number object)

  told : (a p : ℕ) (target : Target) → is_class_type (type_of m.meta p) ≡ true → (f : Form) → form_of m.meta p ≡ f → Contains (written_targets m v shallow a p f) target → IsWrittenTarget a p target
  told a p target t forms.Identifiers e c =
      let bs = partners_at m a p in
      let named = append-nil (targets_of (first_text (partners_pair m p bs))) ∙ attribute_names m v shallow p bs (λ b h. partner_live m v.kept a p b h) in
      let (id, cid, eid) = Contains-from_map Named (map (id_text m) bs) target (subst (λ (ts : List Target). Contains ts target) named c) in
      let (b, cb, eb) = Contains-from_map (id_text m) bs id cid in
      record { object = b; partner = cb; number_is = ap (target_number s) (sym eid ∙ ap Named (sym eb)) ∙ number_found m v shallow b (partner_live m v.kept a p b cb) }
  told a p target t forms.Parts e c =
      let (b, cb, eb) = Contains-from_map (λ b. Contained (number b)) (partners_at m a p) target c in
      record { object = b; partner = cb; number_is = ap (target_number s) (sym eb) }
  told a p target t forms.Nesting e c = absurd (nothing_in target c)
  told a p target t forms.Attribute e c = absurd (no_reference m v shallow p forms.Attribute e t refl)
  told a p target t forms.Elements e c = absurd (no_reference m v shallow p forms.Elements e t refl)

  told_there : (a p : ℕ) (target : Target) → IsReferenceOf n a p → Contains (targets_at s a p) target → IsTold s n.objects a p target
  told_there a p target r c =
      let at : number (origin m a) ≡ a = image_origin m v shallow a (live_from_class n a r.class r.class_is) in
      let there_is : IsReferenceOf m (origin m a) p = reference_back m v shallow a p r in
      let written : targets_at s a p ≡ written_targets m v shallow (origin m a) p (form_of m.meta p) = ap (λ k. targets_at s k p) (sym at) ∙ targets_are m v shallow (origin m a) p there_is in
      let t : IsWrittenTarget (origin m a) p target = told (origin m a) p target r.reference (form_of m.meta p) refl (subst (λ (ts : List Target). Contains ts target) written c) in
      record { object = number t.object; number_is = t.number_is; linked = subst (λ (x : ℕ). IsLinked n p x (number t.object)) at (linked_there m v shallow p (origin m a) t.object t.partner) }

  class_past : (q : ℕ) → length (written_order m) ≤ q → class_at n q ≡ None
  class_past q l =
      let same = length-map (written_order m) (λ o. moved m (written_order m) (object_at m o)) in
      ap (option_map (λ ob. ob.class)) (get_or_past n.objects q None (omega (arith, l, same)))

  classes_are : (q : ℕ) → class_of s q ≡ class_at n q
  classes_are q = elim (cases_lt q (length (written_order m))) [
    | inl l ↦ (
        let live : IsLive m (origin m q) = origin_live m v shallow q l in
        ap (class_of s) (sym (there m v shallow q l)) ∙ class_of_is m v shallow (origin m q) live ∙ sym (class_there m v shallow (origin m q) live) ∙ ap (class_at n) (there m v shallow q l)
        )
    | inr past ↦ class_of_past m v shallow q past ∙ sym (class_past q past)
  ]

  writes : WritesLinks s n.objects
  writes = record {
    classes = classes_are;
    told = told_there;
    links = λ a p r.
        subst (λ (x : ℕ). HasLinks s n x p) (image_origin m v shallow a (live_from_class n a r.class r.class_is)) (links_are m v shallow (origin m a) p (reference_back m v shallow a p r));
  }

  -- ---- wrong values

  module _ (held : IsHeldModel m) where
    abbrev IsRightAttr : ℕ → List ℕ × List ℕ → Type 0
    IsRightAttr c a = (p : ℕ) → prop_number m.meta c a.0 ≡ Some p → is_class_type (type_of m.meta p) ≡ false → value_of m.meta (type_of m.meta p) a.1 ≡ None → ⊥

    none_some : (p : ℕ) → None ≡ Some p → ⊥
    none_some p e = cc

    right_attrs : (o c : ℕ) → class_at m o ≡ Some c → AllAttrs (IsRightAttr c) (object_attrs m o)
    right_attrs o c e = (
      (λ p h t x. none_some p (sym (no_property m v shallow c xmi_id refl) ∙ h)),
      ((λ p h t x. none_some p (sym (no_property m v shallow c xmi_type refl) ∙ h)), attrs_each (IsRightAttr c) (pair_at m o) (object_props m o) (λ q has. by q has (form_of m.meta q) refl)),
    )
      where
        found : (q : ℕ) → Contains (object_props m o) q → prop_number m.meta c (prop_name m.meta q) ≡ Some q
        found q has = prop_read m.meta v.kept.well c q (known_class m v.kept number o c e).0 (subst (λ (x : Option ℕ). Contains (props_or_none m.meta x) q) e has)

        property : (q p : ℕ) → Contains (object_props m o) q → prop_number m.meta c (prop_name m.meta q) ≡ Some p → q ≡ p
        property q p has h = ap (λ x. unwrap_or x p) (sym (found q has) ∙ h)

        of_values : (q : ℕ) → Contains (object_props m o) q → form_of m.meta q ≡ forms.Attribute → (vs : List Value) → values_at m o q ≡ vs → AllAttrs (IsRightAttr c) (value_pair m.meta q vs)
        of_values q has f [] g = tt
        of_values q has f (w ∷ vs) g = (
          (λ p h t x.
              let same : q ≡ p = property q p has h in
              let r : IsPropertyOf m o q = property_of m v.kept o q has in
              let a : IsAttributeOf m o q = record { class = r.class; class_is = r.class_is; has = r.has; attribute = class_typed m.meta q forms.Attribute f } in
              let told : value_of m.meta (type_of m.meta q) (value_text m.meta w) ≡ Some w = told_value m v shallow held o q a w (subst (λ (ws : List Value). Contains ws w) (sym g) (contains_first w vs)) in
              no_value w (sym x ∙ ap (λ y. value_of m.meta (type_of m.meta y) (value_text m.meta w)) (sym same) ∙ told)),
          tt,
        )
          where
            no_value : (w : Value) → None ≡ Some w → ⊥
            no_value w e = cc

        of_partners : (q : ℕ) → Contains (object_props m o) q → form_of m.meta q ≡ forms.Identifiers → (bs : List ℕ) → AllAttrs (IsRightAttr c) (partners_pair m q bs)
        of_partners q has f [] = tt
        of_partners q has f (b ∷ bs) = (
          (λ p h t x.
              let same : q ≡ p = property q p has h in
              true≢false (sym (class_typed m.meta q forms.Identifiers f) ∙ ap (λ y. is_class_type (type_of m.meta y)) same ∙ t)),
          tt,
        )

        by : (q : ℕ) → Contains (object_props m o) q → (f : Form) → form_of m.meta q ≡ f → AllAttrs (IsRightAttr c) (pair_by m o q f)
        by q has forms.Attribute f = of_values q has f (values_at m o q) refl
        by q has forms.Identifiers f = of_partners q has f (partners_at m o q)
        by q has forms.Elements f = tt
        by q has forms.Parts f = tt
        by q has forms.Nesting f = tt

    no_wrong_object : (item : Item) (levels : ℕ) (element : List ℕ) (o : ℕ) (within : Option (ℕ × ℕ)) (place : ℕ) (id : List ℕ) (prop : Option (List ℕ))
        → IsLive m o → IsPlaced m v.kept number o within → bare item ≡ object_row m v.kept number levels element o within
        → IsWrong s item (object_row m v.kept number levels element o within).role place id prop → ⊥
    no_wrong_object item levels element o within place id prop live placed is x = elim x [
      | inl wrong ↦ (
          let written : value_where is_id_name item.attrs ≡ Some (id_text m o) = ap (λ (i : Item). value_where is_id_name i.attrs) is in
          let same : id_text m o ≡ wrong.written = ap (λ y. unwrap_or y wrong.written) (sym written ∙ wrong.found) in
          true≢false (sym (id_proper m v shallow o live) ∙ ap is_identifier_text same ∙ wrong.wrong)
          )
      | inr more ↦ (elim more [
        | inl wrong ↦ (
            let (k, get, at) = wrong.attr in
            attr_at (IsRightAttr wrong.class) (object_attrs m o) k (wrong.name, wrong.text) (right_attrs o wrong.class wrong.class_is) (ap (λ (i : Item). slice_get i.attrs k) (sym is) ∙ get)
            wrong.property wrong.property_is wrong.attribute wrong.wrong
            )
        | inr rest ↦ (elim rest [
          | inl wrong ↦ no_text_at item place (subst (λ (i : Item). BlankRuns i.inner) (sym is) (blank_inside m v.kept number levels o)) wrong.text
          | inr wrong ↦ part within placed wrong.container wrong.property wrong.class wrong.within wrong.class_is wrong.other
        ])
      ])
    ]
      where
        part : (w : Option (ℕ × ℕ)) → IsPlaced m v.kept number o w → (container p c : ℕ) → w ≡ Some (container, p) → class_at m o ≡ Some c → (ConformsTo m.meta c (type_of m.meta p) → ⊥) → ⊥
        part None placed container p c e class other = absurd cc
        part (Some at) placed container p c e class other =
            let same : at ≡ (container, p) = ap (λ y. unwrap_or y at) e in
            let t : is_class_type (type_of m.meta at.1) ≡ true = class_typed m.meta at.1 forms.Parts placed.form in
            let r : IsReferenceOf m placed.container at.1 = reference_of m v shallow placed.container at.1 placed.has t in
            let partner : IsPartnerFor m at.1 o = (v.kept.references placed.container at.1 r).partners o placed.partner in
            let one : partner.class ≡ c = same_class m o partner.class c partner.class_is class in
            other (subst (λ (q : ℕ). ConformsTo m.meta c (type_of m.meta q)) (ap (λ y. y.1) same) (subst (λ (d : ℕ). ConformsTo m.meta d (type_of m.meta at.1)) one partner.conforms))

    no_wrong_value : (item : Item) (place : ℕ) (id : List ℕ) (prop : Option (List ℕ)) → Row (bare item) → IsWrongValue s item place id prop → ⊥
    no_wrong_value item place id prop (Root is) x =
        let y : IsWrong s item (root_row m v.kept number).role place id prop = subst (λ (i : Item). IsWrong s item i.role place id prop) is x in
        no_text_at item place (subst (λ (i : Item). BlankRuns i.inner) (sym is) (blank_root m)) y.0
    no_wrong_value item place id prop (ValueRow o p w live has form value is) x =
        let y : IsWrong s item (value_row m v.kept number o p w).role place id prop = subst (λ (i : Item). IsWrong s item i.role place id prop) is x in
        let r : IsPropertyOf m o p = property_of m v.kept o p has in
        let a : IsAttributeOf m o p = record { class = r.class; class_is = r.class_is; has = r.has; attribute = class_typed m.meta p forms.Elements form } in
        let text : text_in item.inner ≡ value_text m.meta w = ap (λ (i : Item). text_in i.inner) is ∙ text_in_nodes (value_text m.meta w) in
        no_value w (sym y.0.wrong ∙ ap (value_of m.meta (type_of m.meta p)) text ∙ told_value m v shallow held o p a w value)
      where
        no_value : (w : Value) → None ≡ Some w → ⊥
        no_value w e = cc
    no_wrong_value item place id prop (ObjectRow levels element o within live placed is) x =
        no_wrong_object item levels element o within place id prop live placed is (subst (λ (i : Item). IsWrong s item i.role place id prop) is x)

    -- ---- no fault

    pub faultless : IsFaultless s
    faultless = record { at = at; by = by }
      where
        known : (item : Item) → Contains (all_items s) item → Row (bare item)
        known item c = item_known m v shallow item c

        at : (fault : ModelFault) (place : ℕ) → StandsAt s fault place → ⊥
        at (faults.UnknownClass name) place (item, c, x) = no_unknown_class item place name (known item c) x
        at (faults.UnknownProperty id prop) place (item, c, x) = elim x.1 [
          | inl stranger ↦ no_stranger item place prop (known item c) stranger
          | inr attr ↦ no_unknown_attr item place prop (known item c) attr
        ]
        at (faults.WrongValue id prop) place (item, c, x) = no_wrong_value item place id prop (known item c) x
        at (faults.DuplicateId id) place x = no_duplicate place id x
        at (faults.Dangling id prop reference) place x = x
        at (faults.TwoContainers id) place x = x
        at (faults.Mismatch id prop other other_prop) place x = x
        at (faults.Invalid breach id) place x = x
        at (faults.Limit kind) place x = x

        by : (fault : ModelFault) (spot : Spot) → StandsBy s fault spot → ⊥
        by = none_by s n.objects (kept_there m v shallow) writes
