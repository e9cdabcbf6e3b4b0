-- The values and the references that the tree of a model writes are those of the model.
use Rattle.std.proofs.Common.{◌≡◌, ◌≢◌, ℕ, suc, ◌<◌, ◌≤◌, Bool, true, false, cond, List, [], ◌∷◌, ◌++◌, length, map, refl, sym, ◌∙◌, ap, ap₂, subst, arith, Option, None, Some, inl, inr, append-nil}
use Rattle.std.specs.Prelude.{◌==◌, ◌&&◌, AllPairs, Contains, IsTrue, filter_map, slice_get}
use Rattle.std.specs.List.{list_any, cons_option}
use Rattle.std.proofs.lemmas.Bool.{and_parts, ne_eqb, eqb-true, cond-false}
use Rattle.std.proofs.lemmas.Bool.Decides.{Decides-int_eq}
use Rattle.std.proofs.lemmas.List.Elements.{All-contains}
use Rattle.mof_metamodel.specs.declared.desc.EnumId.{EnumId}
use Rattle.object_tables.specs.declared.limit.TheConstants.{MAX_DEPTH}
use Rattle.mof_metamodel.specs.Metamodels.{props_of, prop_at, type_of, opposite_of}
use Rattle.mof_metamodel.proofs.SearchLemmas.{same_true}
use Rattle.object_tables.specs.declared.value.Value.{Value}
use Rattle.object_tables.specs.declared.value.Value.TheVariants as values
use Rattle.object_tables.specs.Containment.{IsDepth}
use Rattle.object_tables.specs.Models.{ModelData, class_at, values_at, partners_at, is_class_type, is_value_of, IsLive, IsAttributeOf}
use Rattle.object_tables.specs.Validity.{Valid, count_at}
use Rattle.object_tables.proofs.ModelLemmas.{live_from_class}
use Rattle.model_assembly.specs.declared.form.Form.{Form}
use Rattle.model_assembly.specs.declared.form.Form.TheVariants as forms
use Rattle.xmi_profile.specs.Canon.{value_text}
use Rattle.model_assembly.specs.Content.{values_of, written_values}
use Rattle.model_assembly.specs.Elements.{Item}
use Rattle.model_assembly.specs.Forms.{is_one, is_composite, form_of}
use Rattle.model_assembly.specs.Held.{IsHeldModel}
use Rattle.model_assembly.specs.Profile.{id_text, object_props, props_or_none}
use Rattle.model_assembly.specs.declared.target.Target.{Target}
use Rattle.model_assembly.specs.declared.target.Target.TheVariants.{Contained}
use Rattle.model_assembly.specs.Source.{Source, all_items, file_ids, listed, text_in, is_at, element_text, texts_at, target_if, part_target, element_target_at, element_targets}
use Rattle.model_assembly.specs.Values.{value_of, same_value, unmet, without_repeats}
use Rattle.xmi_profile.specs.WrittenOrder.{written_order}
use Rattle.xmi_profile.specs.WrittenTree.{value_pair, pair_by, text_nodes}
use Rattle.model_assembly.proofs.assembling.ListLaws.{contains_tail, in_cons}
use Rattle.mof_metamodel.proofs.Facts.{contains_first}
use Rattle.xmi_profile.proofs.WritingForms.{class_typed, is_reference}
use Rattle.xmi_profile.proofs.written.Items.{bare, value_row}
use Rattle.xmi_profile.proofs.written.Known.{IsRow, Root, ValueRow, ObjectRow, IsPlaced}
use Rattle.xmi_profile.proofs.written.Renumbering.{image, image_within}
use Rattle.xmi_profile.proofs.written.Ordering.{object_props_once}
use Rattle.xmi_profile.proofs.written.Rows.{none_each, one_each, filter_map-map, filter_map_same, filter_map_none, filter_map_none_in, IsKeyed, own_at, own_by}
use Rattle.xmi_profile.proofs.written.Sources.{source, first_text, filter_map_all, none_any, item_known, file_ids_are, at_number, attr_is, elsewhere, other_property, at_itself, of_tree}
use Rattle.xmi_profile.proofs.written.Values.{value_read}

-- ---- values without repeats

same_is : (v w : Value) → same_value v w ≡ true → v ≡ w
same_is (values.Str s) (values.Str t) h = ap (λ x. values.Str x) (same_true s t h)
same_is (values.Int i) (values.Int j) h = ap (λ x. values.Int x) ((Decides-int_eq i j).0 h)
same_is (values.Bool true) (values.Bool true) h = refl
same_is (values.Bool false) (values.Bool false) h = refl
same_is (values.Bool true) (values.Bool false) h = absurd cc
same_is (values.Bool false) (values.Bool true) h = absurd cc
same_is (values.Lit e n) (values.Lit f k) h =
    let both = and_parts (e.0 == f.0) (n == k) h in
    let numbered : ℕ → EnumId = λ x. record { 0 = x } in
    ap₂ (λ x y. values.Lit x y) (ap numbered (eqb-true e.0 f.0 both.0)) (eqb-true n k both.1)
same_is (values.Str s) (values.Int j) h = absurd cc
same_is (values.Str s) (values.Bool c) h = absurd cc
same_is (values.Str s) (values.Lit f k) h = absurd cc
same_is (values.Int i) (values.Str t) h = absurd cc
same_is (values.Int i) (values.Bool c) h = absurd cc
same_is (values.Int i) (values.Lit f k) h = absurd cc
same_is (values.Bool b) (values.Str t) h = absurd cc
same_is (values.Bool b) (values.Int j) h = absurd cc
same_is (values.Bool b) (values.Lit f k) h = absurd cc
same_is (values.Lit e n) (values.Str t) h = absurd cc
same_is (values.Lit e n) (values.Int j) h = absurd cc
same_is (values.Lit e n) (values.Bool c) h = absurd cc

pub unmet_all : (met vs : List Value) → ((w : Value) → Contains vs w → Contains met w → ⊥) → AllPairs (λ x y. x ≢ y) vs → unmet met vs ≡ vs
unmet_all met [] fresh apart = refl
unmet_all met (v ∷ vs) fresh apart =
    let new : list_any (same_value v) met ≡ false = none_any (same_value v) met (λ w c. by w c (same_value v w) refl) in
    cond-false (list_any (same_value v) met) (unmet met vs) (v ∷ unmet (v ∷ met) vs) new
    ∙ ap (λ ws. v ∷ ws) (unmet_all (v ∷ met) vs later (λ i j d l lj. apart (suc i) (suc j) d (omega (arith, l)) (omega (arith, lj))))
  where
    by : (w : Value) → Contains met w → (b : Bool) → same_value v w ≡ b → b ≡ false
    by w c true e = absurd (fresh v (contains_first v vs) (subst (Contains met) (sym (same_is v w e)) c))
    by w c false e = refl

    later : (w : Value) → Contains vs w → Contains (v ∷ met) w → ⊥
    later w (i, l, e) c = elim (in_cons v met w c) [
      | inl same ↦ apart 0 (suc i) w (omega arith) (omega (arith, l)) (same ∙ sym e)
      | inr there ↦ fresh w (contains_tail v w vs (i, l, e)) there
    ]

pub text_in_nodes : (text : List ℕ) → text_in (text_nodes text) ≡ text
text_in_nodes [] = refl
text_in_nodes (c ∷ cs) = append-nil (c ∷ cs)

module _ (m : ModelData) (v : Valid m) (shallow : (o d : ℕ) → IsLive m o → IsDepth m o d → d ≤ MAX_DEPTH) where
  abbrev s : Source
  s = source m v shallow

  abbrev number : ℕ → ℕ
  number o = image m o

  -- ---- texts of elements

  abbrev no_text : Option (ℕ × ℕ) → ℕ → Option (List ℕ)
  no_text within o = None

  text_row : (a p o q : ℕ) (w : Value) → element_text (number a) p (value_row m v.kept number o q w) ≡ (cond (is_at (number a) p (number o) q) (Some (value_text m.meta w)) None)
  text_row a p o q w = by (is_at (number a) p (number o) q)
    where
      by : (b : Bool) → cond (b && true) (Some (text_in (text_nodes (value_text m.meta w)))) None ≡ cond b (Some (value_text m.meta w)) None
      by true = ap Some (text_in_nodes (value_text m.meta w))
      by false = refl

  text_key : (a p : ℕ) → IsLive m a → IsKeyed m v.kept number a (element_text (number a) p) no_text
  text_key a p live = record {
    object = λ levels element o within. refl;
    value = λ o q w lo ne. text_row a p o q w ∙ ap (λ t. cond t (Some (value_text m.meta w)) None) (elsewhere m v shallow a p o q live lo ne);
    part = λ o q b lo ne. refl;
    top = λ o. refl;
    root = refl;
  }

  abbrev texts_by : ℕ → ℕ → Form → List (List ℕ)
  texts_by a p forms.Elements = map (value_text m.meta) (values_at m a p)
  texts_by a p forms.Attribute = []
  texts_by a p forms.Identifiers = []
  texts_by a p forms.Parts = []
  texts_by a p forms.Nesting = []

  elements_texts : (a p : ℕ) → IsLive m a → Contains (object_props m a) p → filter_map (element_text (number a) p) (all_items s) ≡ texts_by a p (form_of m.meta p)
  elements_texts a p live has =
      of_tree m v shallow a choose no_text live (text_key a p live) (λ item. refl)
      ∙ one_each own_of (object_props m a) p (object_props_once m v.kept a) has (λ q c ne. other q ne (form_of m.meta q))
      ∙ itself (form_of m.meta p)
    where
      choose : Item → Option (List ℕ)
      choose = element_text (number a) p

      own_of : ℕ → List (List ℕ)
      own_of q = own_at m v.kept number (List ℕ) v.acyclic a choose no_text (text_key a p live) q

      other : (q : ℕ) → q ≢ p → (f : Form) → own_by m v.kept number (List ℕ) v.acyclic a choose no_text (text_key a p live) q f ≡ []
      other q ne forms.Elements =
          filter_map-map choose (value_row m v.kept number a q) (values_at m a q)
          ∙ filter_map_none (λ w. choose (value_row m v.kept number a q w)) (values_at m a q)
          (λ w. text_row a p a q w ∙ ap (λ t. cond t (Some (value_text m.meta w)) None) (other_property m v shallow a p q ne))
      other q ne forms.Parts = filter_map_none (no_text (Some (number a, q))) (partners_at m a q) (λ b. refl)
      other q ne forms.Attribute = refl
      other q ne forms.Identifiers = refl
      other q ne forms.Nesting = refl

      itself : (f : Form) → own_by m v.kept number (List ℕ) v.acyclic a choose no_text (text_key a p live) p f ≡ texts_by a p f
      itself forms.Elements =
          filter_map-map choose (value_row m v.kept number a p) (values_at m a p)
          ∙ filter_map_same (λ w. choose (value_row m v.kept number a p w)) (λ w. Some (value_text m.meta w)) (values_at m a p)
          (λ w. text_row a p a p w ∙ ap (λ t. cond t (Some (value_text m.meta w)) None) (at_itself m v shallow a p))
          ∙ filter_map_all (value_text m.meta) (values_at m a p)
      itself forms.Parts = filter_map_none (no_text (Some (number a, p))) (partners_at m a p) (λ b. refl)
      itself forms.Attribute = refl
      itself forms.Identifiers = refl
      itself forms.Nesting = refl

  -- ---- targets of elements

  abbrev told_target : ℕ → ℕ → Option (ℕ × ℕ) → ℕ → Option Target
  told_target a p within o = part_target (number a) p (number o) within

  abbrev target_of : ℕ → ℕ → Item → Option Target
  target_of a p item = element_target_at (number a) p item.role

  target_key : (a p : ℕ) → IsLive m a → IsKeyed m v.kept number a (target_of a p) (told_target a p)
  target_key a p live = record {
    object = λ levels element o within. refl;
    value = λ o q w lo ne. refl;
    part = λ o q b lo ne. ap (λ t. target_if t (Contained (number b))) (elsewhere m v shallow a p o q live lo ne);
    top = λ o. refl;
    root = refl;
  }

  abbrev pub targets_by : ℕ → ℕ → Form → List Target
  targets_by a p forms.Parts = map (λ b. Contained (number b)) (partners_at m a p)
  targets_by a p forms.Elements = []
  targets_by a p forms.Attribute = []
  targets_by a p forms.Identifiers = []
  targets_by a p forms.Nesting = []

  other_targets : (a p q : ℕ) (live : IsLive m a) → q ≢ p → (f : Form) → own_by m v.kept number Target v.acyclic a (target_of a p) (told_target a p) (target_key a p live) q f ≡ []
  other_targets a p q live ne forms.Elements =
      filter_map-map (target_of a p) (value_row m v.kept number a q) (values_at m a q)
      ∙ filter_map_none (λ w. target_of a p (value_row m v.kept number a q w)) (values_at m a q) (λ w. refl)
  other_targets a p q live ne forms.Parts =
      filter_map_none (told_target a p (Some (number a, q))) (partners_at m a q) (λ b. ap (λ t. target_if t (Contained (number b))) (other_property m v shallow a p q ne))
  other_targets a p q live ne forms.Attribute = refl
  other_targets a p q live ne forms.Identifiers = refl
  other_targets a p q live ne forms.Nesting = refl

  pub element_targets_are : (a p : ℕ) → IsLive m a → Contains (object_props m a) p → element_targets s (number a) p ≡ targets_by a p (form_of m.meta p)
  element_targets_are a p live has =
      of_tree m v shallow a (target_of a p) (told_target a p) live (target_key a p live) (λ item. refl)
      ∙ one_each own_of (object_props m a) p (object_props_once m v.kept a) has (λ q c ne. other_targets a p q live ne (form_of m.meta q))
      ∙ itself (form_of m.meta p)
    where
      own_of : ℕ → List Target
      own_of q = own_at m v.kept number Target v.acyclic a (target_of a p) (told_target a p) (target_key a p live) q

      itself : (f : Form) → own_by m v.kept number Target v.acyclic a (target_of a p) (told_target a p) (target_key a p live) p f ≡ targets_by a p f
      itself forms.Elements =
          filter_map-map (target_of a p) (value_row m v.kept number a p) (values_at m a p)
          ∙ filter_map_none (λ w. target_of a p (value_row m v.kept number a p w)) (values_at m a p) (λ w. refl)
      itself forms.Parts =
          filter_map_same (told_target a p (Some (number a, p))) (λ b. Some (Contained (number b))) (partners_at m a p) (λ b. ap (λ t. target_if t (Contained (number b))) (at_itself m v shallow a p))
          ∙ filter_map_all (λ b. Contained (number b)) (partners_at m a p)
      itself forms.Attribute = refl
      itself forms.Identifiers = refl
      itself forms.Nesting = refl

  -- at what is no property of the object
  pub element_targets_none : (a p : ℕ) → IsLive m a → (Contains (object_props m a) p → ⊥) → element_targets s (number a) p ≡ []
  element_targets_none a p live none =
      of_tree m v shallow a (target_of a p) (told_target a p) live (target_key a p live) (λ item. refl)
      ∙ none_each (λ q. own_at m v.kept number Target v.acyclic a (target_of a p) (told_target a p) (target_key a p live) q) (object_props m a)
      (λ q c. other_targets a p q live (λ same. none (subst (Contains (object_props m a)) same c)) (form_of m.meta q))

  -- at what is no object
  pub element_targets_past : (k p : ℕ) → length (written_order m) ≤ k → element_targets s k p ≡ []
  element_targets_past k p past = filter_map_none_in (λ item. element_target_at k p item.role) (all_items s) (λ item c. by item (item_known m v shallow item c))
    where
      of_place : (o : ℕ) (within : Option (ℕ × ℕ)) → IsPlaced m v.kept number o within → part_target k p (number o) within ≡ None
      of_place o None placed = refl
      of_place o (Some at) placed =
          let l = image_within m v shallow placed.container placed.live in
          ap (λ t. target_if (t && (at.1 == p)) (Contained (number o))) (ne_number at.0 (λ e. omega (arith, l, past, e, placed.number_is)))
        where
          ne_number : (n : ℕ) → (n ≡ k → ⊥) → (n == k) ≡ false
          ne_number n ne = ne_eqb n k ne

      by : (item : Item) → IsRow m v.kept number (bare item) → element_target_at k p item.role ≡ None
      by item (Root is) = ap (λ (i : Item). element_target_at k p i.role) is
      by item (ValueRow o q w live has form value is) = ap (λ (i : Item). element_target_at k p i.role) is
      by item (ObjectRow levels element o within live placed is) = ap (λ (i : Item). element_target_at k p i.role) is ∙ of_place o within placed

  -- ---- values

  pub has_property : (o p c : ℕ) → class_at m o ≡ Some c → Contains (props_of m.meta c) p → Contains (object_props m o) p
  has_property o p c e has = subst (λ (x : Option ℕ). Contains (props_or_none m.meta x) p) (sym e) has

  -- an attribute of at most one value has at most one
  single : (o p : ℕ) → IsAttributeOf m o p → form_of m.meta p ≡ forms.Attribute → 1 < length (values_at m o p) → ⊥
  single o p a e l =
      let one : is_one (prop_at m.meta p).upper ≡ true =
      of_form (is_class_type (type_of m.meta p)) (prop_at m.meta p).composite (is_composite m.meta (opposite_of m.meta p)) (is_one (prop_at m.meta p).upper) e in
      let count : count_at m o p ≡ length (values_at m o p) = cond-false (is_class_type (type_of m.meta p)) (length (partners_at m o p)) (length (values_at m o p)) a.attribute in
      (v.bounds o p).upper (record {
        property = record { class = a.class; class_is = a.class_is; has = a.has };
        bound = 1;
        bound_is = upper_is (prop_at m.meta p).upper one;
        above = subst (λ (n : ℕ). 1 < n) (sym count) l;
      })
    where
      of_form : (t c q u : Bool) → cond t (cond c forms.Parts (cond q forms.Nesting forms.Identifiers)) (cond u forms.Attribute forms.Elements) ≡ forms.Attribute → u ≡ true
      of_form true true q u h = absurd cc
      of_form true false true u h = absurd cc
      of_form true false false u h = absurd cc
      of_form false c q true h = refl
      of_form false c q false h = absurd cc

      upper_is : (u : Option ℕ) → is_one u ≡ true → u ≡ Some 1
      upper_is None h = absurd cc
      upper_is (Some n) h = ap Some (eqb-true n 1 h)

  pub texts_are : (o p : ℕ) → IsAttributeOf m o p → texts_at s (number o) p ≡ map (value_text m.meta) (values_at m o p)
  texts_are o p a =
      ap₂ (λ x y. listed x ++ y) (attr_is m v shallow o p live has) (elements_texts o p live has) ∙ by (form_of m.meta p) refl
    where
      live : IsLive m o
      live = live_from_class m o a.class a.class_is

      has : Contains (object_props m o) p
      has = has_property o p a.class a.class_is a.has

      one_text : (vs : List Value) → (1 < length vs → ⊥) → listed (first_text (value_pair m.meta p vs)) ++ [] ≡ map (value_text m.meta) vs
      one_text [] h = refl
      one_text (w ∷ []) h = refl
      one_text (w ∷ x ∷ vs) h = absurd (h (omega arith))

      reference : (f : Form) → form_of m.meta p ≡ f → is_reference f ≡ true → ⊥
      reference f e h = let t : true ≡ false = sym h ∙ sym (class_typed m.meta p f e) ∙ a.attribute in cc

      by : (f : Form) → form_of m.meta p ≡ f → listed (first_text (pair_by m o p f)) ++ texts_by o p f ≡ map (value_text m.meta) (values_at m o p)
      by forms.Attribute e = one_text (values_at m o p) (single o p a e)
      by forms.Elements e = refl
      by forms.Identifiers e = absurd (reference forms.Identifiers e refl)
      by forms.Parts e = absurd (reference forms.Parts e refl)
      by forms.Nesting e = absurd (reference forms.Nesting e refl)

  module _ (held : IsHeldModel m) where
    pub told_value : (o p : ℕ) → IsAttributeOf m o p → (w : Value) → Contains (values_at m o p) w → value_of m.meta (type_of m.meta p) (value_text m.meta w) ≡ Some w
    told_value o p a w c =
        value_read m.meta v.kept.well (type_of m.meta p) w
        (All-contains (λ w. IsTrue (is_value_of m.meta (type_of m.meta p) w)) (values_at m o p) w (v.kept.attributes o p a).values.typed c)
        (held.values o p w c)

    read_all : (read : List ℕ → Option Value) (vs : List Value) → ((w : Value) → Contains vs w → read (value_text m.meta w) ≡ Some w) → filter_map read (map (value_text m.meta) vs) ≡ vs
    read_all read [] h = refl
    read_all read (w ∷ vs) h = ap₂ (λ x ys. cons_option x ys) (h w (contains_first w vs)) (read_all read vs (λ x c. h x (contains_tail w x vs c)))

    pub values_are : (o p : ℕ) → IsAttributeOf m o p → written_values s (number o) p ≡ values_at m o p
    values_are o p a =
        let live : IsLive m o = live_from_class m o a.class a.class_is in
        let id : slice_get (file_ids s) (number o) ≡ Some (id_text m o) = ap (λ xs. slice_get xs (number o)) (file_ids_are m v shallow) ∙ at_number m v shallow (id_text m) o live in
        ap (values_of s (number o) p) id
        ∙ ap (λ ts. without_repeats (filter_map (value_of m.meta (type_of m.meta p)) ts)) (texts_are o p a)
        ∙ ap without_repeats (read_all (value_of m.meta (type_of m.meta p)) (values_at m o p) (told_value o p a))
        ∙ unmet_all [] (values_at m o p) (λ w c (i, l, e). absurd (omega (arith, l))) (v.kept.attributes o p a).values.distinct
