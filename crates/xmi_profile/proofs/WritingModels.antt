-- The calls of the canonical text of a model may come one after another: names are names of markup, those of a tag differ, texts are
-- storable, and objects nest no deeper than elements may.
use Rattle.std.proofs.Common.{◌≡◌, ℕ, zero, suc, ◌+◌, ◌<◌, Bool, true, false, cond, List, [], ◌∷◌, ◌++◌, length, get_or, map, refl, sym, ◌∙◌, ap, ap₂, subst, arith, Option, None, Some, inl, inr, append_assoc}
use Rattle.std.specs.Prelude.{◌≢◌, ◌==◌, ◌||◌, ◌&&◌, not, nat_lt, nat_eq, Contains, AllPairs, IsTrue, is_some, filter}
use Rattle.std.specs.List.{flat_map, list_all}
use Rattle.std.specs.Option.{option_map}
use Rattle.std.specs.Cmp.Lexicographic.{pointwise, bytes_decides}
use Rattle.std.proofs.lemmas.Bool.{and_parts, true≢false, eqb-true, ltb-true, cases_lt}
use Rattle.std.proofs.lemmas.List.{get_or_past}
use Rattle.std.proofs.lemmas.List.Elements.{All-contains, Contains-get_or}
use Rattle.std.proofs.lemmas.List.Folds.{list_all-append}
use Rattle.mof_metamodel.specs.Characters.{is_storable_text}
use Rattle.mof_metamodel.specs.WellMeta.{is_name_character, is_prop_name, is_name as is_meta_name}
use Rattle.mof_metamodel.specs.declared.desc.MetaDesc.{MetaDesc}
use Rattle.mof_metamodel.specs.declared.desc.PropType.{PropType}
use Rattle.mof_metamodel.specs.declared.desc.PropType.TheVariants as types
use Rattle.object_tables.specs.declared.limit.TheConstants.{MAX_DEPTH}
use Rattle.xmi_text.specs.declared.limits.TheConstants.{MAX_XMI_NESTING}
use Rattle.mof_metamodel.specs.Metamodels.{class_count, prop_count, props_of, prop_at, type_of, opposite_of, enum_at, no_enum, enum_count, literal_at}
use Rattle.mof_metamodel.proofs.MetaLaws.{has_exactly}
use Rattle.mof_metamodel.proofs.OnceLemmas.{props_of_once}
use Rattle.mof_metamodel.proofs.PropLemmas.{prop_known}
use Rattle.object_tables.specs.declared.value.Value.{Value}
use Rattle.object_tables.specs.declared.value.Value.TheVariants as values
use Rattle.object_tables.specs.Objects.{Object}
use Rattle.object_tables.specs.Models.{ModelData, object_at, class_at, values_at, partners_at, is_class_type, is_value_of, IsAttributeOf}
use Rattle.object_tables.specs.Kept.{Kept}
use Rattle.object_tables.specs.Validity.{IsPropertyOf}
use Rattle.xmi_text.specs.Names.{is_name}
use Rattle.xmi_text.specs.Writing.{Written, has, opened, with_attr, nothing, is_whole}
use Rattle.xmi_text.specs.Calls.{Call, Open, Attr, Data, Close, Declare, Line, after_call, wrote}
use Rattle.model_assembly.specs.declared.form.Form.TheVariants as forms
use Rattle.model_assembly.specs.Forms.{is_one, is_composite}
use Rattle.model_assembly.specs.Profile.{xmi_id, xmi_type, prop_name, class_name, id_or_none, id_text, name_or_none, class_text, props_or_none, object_props, live_numbers, is_part}
use Rattle.xmi_profile.specs.Canon.{value_text, spaced, spaced_behind, typed_name, value_attr, partners_attr, attr_by, attr_calls, tag_calls, value_element, children_by, child_calls, depth_over, object_calls, top_calls, top_numbers, head, foot, canon_calls}
use Rattle.xmi_profile.specs.Writable.{CanWrite, children_calls}
use Rattle.xmi_profile.proofs.WritingCalls.{data_rooted, wrote_both, Fits, fits_none, fits_both, fits_each, fits_line, Begins, fits_element, fits_text, length-opened, length-closed, inside_of, may_open_inside, IsAttr, AreAttrs, attrs_come}
use Rattle.model_assembly.proofs.assembling.ListLaws.{contains_tail}
use Rattle.mof_metamodel.proofs.Facts.{contains_first}
use Rattle.xmi_profile.proofs.WritingNames.{markup_name, prefixed_name, name_storable, number_storable}

-- ---- metamodels

meta_name_storable : (name : List ℕ) → is_meta_name name ≡ true → is_storable_text name ≡ true
meta_name_storable name h = name_storable name (and_parts _ (list_all is_name_character name) h).1

prop_name_plain : (name : List ℕ) → is_prop_name name ≡ true → is_meta_name name ≡ true
prop_name_plain name h = (and_parts (is_meta_name name) _ h).0

meta_name_characters : (name : List ℕ) → is_meta_name name ≡ true → list_all is_name_character name ≡ true
meta_name_characters name h = (and_parts _ (list_all is_name_character name) h).1

-- a name of the namespace of XMI has a colon, which no name of a metamodel has
not_prefixed : (prefixed name : List ℕ) → list_all is_name_character prefixed ≡ false → is_meta_name name ≡ true → pointwise nat_eq prefixed name ≡ false
not_prefixed prefixed name bad h = by (pointwise nat_eq prefixed name) refl
  where
    by : (t : Bool) → pointwise nat_eq prefixed name ≡ t → t ≡ false
    by true e = absurd (true≢false (sym (meta_name_characters name h) ∙ ap (list_all is_name_character) (sym ((bytes_decides prefixed name).0 e)) ∙ bad))
    by false e = refl

not_xmi : (name : List ℕ) → is_meta_name name ≡ true → has (xmi_id ∷ xmi_type ∷ []) name ≡ false
not_xmi name h = ap₂ (λ a b. a || (b || false)) (not_prefixed xmi_id name refl h) (not_prefixed xmi_type name refl h)

pub filtered : {X : Type 0} (p : X → Bool) (xs : List X) (x : X) → Contains (filter p xs) x → Contains xs x × (p x ≡ true)
filtered p [] x (k, l, e) = absurd (omega arith)
filtered p (y ∷ ys) x c = by (filtered p ys x) (p y) refl c
  where
    by : (Contains (filter p ys) x → Contains ys x × (p x ≡ true)) → (t : Bool) → p y ≡ t → Contains (cond t (y ∷ filter p ys) (filter p ys)) x → Contains (y ∷ ys) x × (p x ≡ true)
    by later true e (zero, l, at) = (subst (Contains (y ∷ ys)) at (contains_first y ys), ap p (sym at) ∙ e)
    by later true e (suc k, l, at) = let found = later (k, omega arith, at) in (contains_tail y x ys found.0, found.1)
    by later false e c = let found = later c in (contains_tail y x ys found.0, found.1)

-- what the writer writes in three steps
pub record AreCanonSteps (m : ModelData) (w1 w2 w3 : Written) : Type 0 where
  pub head : CanWrite nothing (head m.meta)
  pub tops : CanWrite w1 (flat_map (top_calls m) (top_numbers m))
  pub foot : CanWrite w2 foot
  pub whole : is_whole w3 ≡ true
  pub all : w3 ≡ wrote nothing (canon_calls m)

rooted_after : (w : Written) (call : Call) → w.rooted ≡ true → (after_call w call).rooted ≡ true
rooted_after w (Open name) e = refl
rooted_after w (Attr name value) e = e
rooted_after w (Data text) e = data_rooted w text e
rooted_after w Close e = e
rooted_after w Declare e = e
rooted_after w (Line depth) e = e

rooted_stays : (calls : List Call) (w : Written) → w.rooted ≡ true → (wrote w calls).rooted ≡ true
rooted_stays [] w e = e
rooted_stays (c ∷ calls) w e = rooted_stays calls (after_call w c) (rooted_after w c e)

module _ (m : ModelData) (k : Kept m) where
  -- ---- objects and their properties

  pub property_of : (o p : ℕ) → Contains (object_props m o) p → IsPropertyOf m o p
  property_of o p h = by (class_at m o) refl h
    where
      by : (c : Option ℕ) → class_at m o ≡ c → Contains (props_or_none m.meta c) p → IsPropertyOf m o p
      by None e h = let (i, l, at) = h in absurd (omega arith)
      by (Some c) e h = record { class = c; class_is = e; has = h }

  class_known : (o c : ℕ) → class_at m o ≡ Some c → c < class_count m.meta
  class_known o c e = by (object_at m o) refl e
    where
      by : (x : Option Object) → object_at m o ≡ x → option_map (λ ob. ob.class) x ≡ Some c → c < class_count m.meta
      by None at e = absurd cc
      by (Some object) at e =
          let same : object.class ≡ c = cc in
          subst (λ (x : ℕ). x < class_count m.meta) same (k.objects o object at).class

  prop_named : (o p : ℕ) → IsPropertyOf m o p → is_meta_name (prop_name m.meta p) ≡ true
  prop_named o p r = prop_name_plain (prop_name m.meta p) (k.well.names.props p (prop_known m.meta r.class p r.has))

  props_apart : (c : ℕ) → c < class_count m.meta → AllPairs (λ p q. prop_name m.meta p ≢ prop_name m.meta q) (props_of m.meta c)
  props_apart c lc i j d l lj same =
      let ps = props_of m.meta c in
      let p : ℕ = get_or ps i d in
      let q : ℕ = get_or ps j d in
      let li : i < length ps = omega arith in
      let hp : Contains ps p = Contains-get_or ps i d li in
      let hq : Contains ps q = Contains-get_or ps j d lj in
      let lp : p < prop_count m.meta = prop_known m.meta c p hp in
      let lq : q < prop_count m.meta = prop_known m.meta c q hq in
      props_of_once m.meta c i j d l lj
      (k.well.distinct.props c p q lc lp lq ((has_exactly m.meta c lc p lp).0 hp) ((has_exactly m.meta c lc q lq).0 hq) same)

  object_props_apart : (o : ℕ) → AllPairs (λ p q. prop_name m.meta p ≢ prop_name m.meta q) (object_props m o)
  object_props_apart o = by (class_at m o) refl
    where
      by : (c : Option ℕ) → class_at m o ≡ c → AllPairs (λ p q. prop_name m.meta p ≢ prop_name m.meta q) (props_or_none m.meta c)
      by None e = (λ i j d l lj. absurd (omega arith))
      by (Some c) e = props_apart c (class_known o c e)

  -- ---- texts

  id_storable : (o : ℕ) → is_storable_text (id_text m o) ≡ true
  id_storable o = by (object_at m o) refl
    where
      by : (x : Option Object) → object_at m o ≡ x → is_storable_text (id_or_none (option_map (λ ob. ob.id) x)) ≡ true
      by None e = refl
      by (Some object) e = (and_parts (is_storable_text object.id) _ ((and_parts (is_storable_text object.id && _) _ (k.objects o object e).identifier).0)).0

  class_named : (c : ℕ) → c < class_count m.meta → is_meta_name (class_name m.meta c) ≡ true
  class_named c l = k.well.names.classes c l

  class_storable : (o : ℕ) → is_storable_text (class_text m o) ≡ true
  class_storable o = by (class_at m o) refl
    where
      by : (c : Option ℕ) → class_at m o ≡ c → is_storable_text (name_or_none m.meta c) ≡ true
      by None e = refl
      by (Some c) e = meta_name_storable (class_name m.meta c) (class_named c (class_known o c e))

  literal_known : (e n : ℕ) → n < length (enum_at m.meta e).literals → e < enum_count m.meta
  literal_known e n l = elim (cases_lt e (enum_count m.meta)) [
    | inl below ↦ below
    | inr past ↦ (
        let none : length (enum_at m.meta e).literals ≡ 0 = ap (λ x. length x.literals) (get_or_past m.meta.enums e no_enum past) in
        absurd (omega arith)
        )
  ]

  value_storable : (t : Option PropType) (v : Value) → is_value_of m.meta t v ≡ true → is_storable_text (value_text m.meta v) ≡ true
  value_storable (Some types.Str) (values.Str text) h = h
  value_storable t (values.Int i) h = number_storable i
  value_storable t (values.Bool true) h = refl
  value_storable t (values.Bool false) h = refl
  value_storable (Some (types.Enum e)) (values.Lit f n) h =
      let both = and_parts (e.0 == f.0) (nat_lt n (length (enum_at m.meta e.0).literals)) h in
      let same : e.0 ≡ f.0 = eqb-true e.0 f.0 both.0 in
      let l : n < length (enum_at m.meta f.0).literals = subst (λ (x : ℕ). n < length (enum_at m.meta x).literals) same (ltb-true n _ both.1) in
      meta_name_storable (literal_at m.meta f.0 n) (k.well.names.literals f.0 n (literal_known f.0 n l) l)
  value_storable None (values.Str text) h = absurd cc
  value_storable (Some types.Int) (values.Str text) h = absurd cc
  value_storable (Some types.Bool) (values.Str text) h = absurd cc
  value_storable (Some (types.Enum e)) (values.Str text) h = absurd cc
  value_storable (Some (types.Class c)) (values.Str text) h = absurd cc
  value_storable None (values.Lit f n) h = absurd cc
  value_storable (Some types.Str) (values.Lit f n) h = absurd cc
  value_storable (Some types.Int) (values.Lit f n) h = absurd cc
  value_storable (Some types.Bool) (values.Lit f n) h = absurd cc
  value_storable (Some (types.Class c)) (values.Lit f n) h = absurd cc

  value_at_storable : (o p : ℕ) → IsAttributeOf m o p → (v : Value) → Contains (values_at m o p) v → is_storable_text (value_text m.meta v) ≡ true
  value_at_storable o p a v h =
      value_storable (type_of m.meta p) v (All-contains (λ v. IsTrue (is_value_of m.meta (type_of m.meta p) v)) (values_at m o p) v (k.attributes o p a).values.typed h)

  spaced_storable : (b : ℕ) (bs : List ℕ) → is_storable_text (spaced_behind (id_text m b) (map (id_text m) bs)) ≡ true
  spaced_storable b [] = id_storable b
  spaced_storable b (c ∷ bs) =
      list_all-append _ (id_text m b) (32 ∷ spaced_behind (id_text m c) (map (id_text m) bs))
      ∙ ap₂ (λ s t. s && (true && t)) (id_storable b) (spaced_storable c bs)

  -- ---- attributes

  attr_values : (o p : ℕ) → IsAttributeOf m o p → (vs : List Value) → values_at m o p ≡ vs → IsAttr (prop_name m.meta p) (value_attr m.meta p vs)
  attr_values o p a [] e = inl refl
  attr_values o p a (v ∷ vs) e = inr (value_text m.meta v, refl, value_at_storable o p a v (subst (λ (xs : List Value). Contains xs v) (sym e) (contains_first v vs)))

  attr_partners : (p : ℕ) (bs : List ℕ) → IsAttr (prop_name m.meta p) (partners_attr m p bs)
  attr_partners p [] = inl refl
  attr_partners p (b ∷ bs) = inr (spaced (map (id_text m) (b ∷ bs)), refl, spaced_storable b bs)

  attribute_of : (o p : ℕ) → IsPropertyOf m o p → is_class_type (type_of m.meta p) ≡ false → IsAttributeOf m o p
  attribute_of o p r e = record { class = r.class; class_is = r.class_is; has = r.has; attribute = e }

  attr_formed : (o p : ℕ) → IsPropertyOf m o p → (t c q u : Bool) → is_class_type (type_of m.meta p) ≡ t
      → IsAttr (prop_name m.meta p) (attr_by m o p (cond t (cond c forms.Parts (cond q forms.Nesting forms.Identifiers)) (cond u forms.Attribute forms.Elements)))
  attr_formed o p r true true q u e = inl refl
  attr_formed o p r true false true u e = inl refl
  attr_formed o p r true false false u e = attr_partners p (partners_at m o p)
  attr_formed o p r false c q true e = attr_values o p (attribute_of o p r e) (values_at m o p) refl
  attr_formed o p r false c q false e = inl refl

  attr_comes : (o p : ℕ) → IsPropertyOf m o p → IsAttr (prop_name m.meta p) (attr_calls m o p)
  attr_comes o p r = attr_formed o p r (is_class_type (type_of m.meta p)) (prop_at m.meta p).composite (is_composite m.meta (opposite_of m.meta p)) (is_one (prop_at m.meta p).upper) refl

  attrs_in_tag : (o : ℕ) (w : Written) → w.names ≡ Some (xmi_id ∷ xmi_type ∷ []) → AreAttrs w (flat_map (attr_calls m o) (object_props m o))
  attrs_in_tag o w e = attrs_come (prop_name m.meta) (attr_calls m o) (object_props m o) w (xmi_id ∷ xmi_type ∷ []) e
      (λ p h.
      let r : IsPropertyOf m o p = property_of o p h in
      let named : is_meta_name (prop_name m.meta p) ≡ true = prop_named o p r in
      (attr_comes o p r, markup_name (prop_name m.meta p) named, not_xmi (prop_name m.meta p) named))
      (object_props_apart o)

  -- ---- elements

  tag_begins : (d : ℕ) (element : List ℕ) (o : ℕ) → is_name element ≡ true → suc d < MAX_XMI_NESTING → Begins (suc d) (tag_calls m element o)
  tag_begins d element o n l = record {
    can = λ w e. ((n, may_open_inside w d e l), ((refl, id_storable o, refl), ((refl, class_storable o, refl), (attrs_in_tag o (after w) refl).can)));
    one_more = λ w e. ap length (attrs_in_tag o (after w) refl).elements ∙ length-opened w element (suc d) e;
  }
    where
      after : Written → Written
      after w = with_attr (with_attr (opened w element) xmi_id (id_text m o)) xmi_type (typed_name m o)

  ended_fits : (d depth : ℕ) (tag children : List Call) → Begins (suc d) tag → Fits (suc (suc d)) children → (t : Bool)
      → Fits (suc d) (tag ++ cond t (Close ∷ []) (children ++ (Line depth ∷ Close ∷ [])))
  ended_fits d depth tag children b f true = fits_element (suc d) tag [] b (fits_none (suc (suc d)))
  ended_fits d depth tag children b f false =
      subst (λ (x : List Call). Fits (suc d) (tag ++ x)) (append_assoc children (Line depth ∷ []) (Close ∷ []))
      (fits_element (suc d) tag (children ++ Line depth ∷ []) b (fits_both (suc (suc d)) children (Line depth ∷ []) f (fits_line (suc (suc d)) depth [] (fits_none (suc (suc d))))))

  value_fits : (d depth p : ℕ) (v : Value) → is_name (prop_name m.meta p) ≡ true → is_storable_text (value_text m.meta v) ≡ true → suc d < MAX_XMI_NESTING → Fits (suc d) (value_element m.meta depth p v)
  value_fits d depth p v n s l = fits_line (suc d) depth _ (fits_text d (prop_name m.meta p) (value_text m.meta v) n s l)

  -- parts of such names can be written
  PartsFit : ℕ → (List ℕ → ℕ → List Call) → Type 0
  PartsFit d part = (element : List ℕ) (b : ℕ) → is_name element ≡ true → Fits (suc d) (part element b)

  children_formed : (d depth : ℕ) (part : List ℕ → ℕ → List Call) (o p : ℕ) → IsPropertyOf m o p → ((element : List ℕ) (b : ℕ) → is_name element ≡ true → Fits (suc d) (part element b)) → suc d < MAX_XMI_NESTING
      → (t c q u : Bool) → is_class_type (type_of m.meta p) ≡ t
      → Fits (suc d) (children_by m depth part o p (cond t (cond c forms.Parts (cond q forms.Nesting forms.Identifiers)) (cond u forms.Attribute forms.Elements)))
  children_formed d depth part o p r f l true true q u e =
      fits_each (suc d) (part (prop_name m.meta p)) (partners_at m o p) (λ b h. f (prop_name m.meta p) b (markup_name (prop_name m.meta p) (prop_named o p r)))
  children_formed d depth part o p r f l true false true u e = fits_none (suc d)
  children_formed d depth part o p r f l true false false u e = fits_none (suc d)
  children_formed d depth part o p r f l false c q true e = fits_none (suc d)
  children_formed d depth part o p r f l false c q false e =
      fits_each (suc d) (value_element m.meta depth p) (values_at m o p)
      (λ v h. value_fits d depth p v (markup_name (prop_name m.meta p) (prop_named o p r)) (value_at_storable o p (attribute_of o p r e) v h) l)

  child_fits : (d depth : ℕ) (part : List ℕ → ℕ → List Call) (o p : ℕ) → IsPropertyOf m o p → ((element : List ℕ) (b : ℕ) → is_name element ≡ true → Fits (suc d) (part element b)) → suc d < MAX_XMI_NESTING
      → Fits (suc d) (child_calls m depth part o p)
  child_fits d depth part o p r f l =
      children_formed d depth part o p r f l (is_class_type (type_of m.meta p)) (prop_at m.meta p).composite (is_composite m.meta (opposite_of m.meta p)) (is_one (prop_at m.meta p).upper) refl

  -- an object's element, where so many elements are open and objects may nest so many levels deep
  object_fits : (levels d : ℕ) (element : List ℕ) (o : ℕ) → is_name element ≡ true → d + levels < 255 → Fits (suc d) (object_calls m levels element o)
  object_fits zero d element o n l = fits_none (suc d)
  object_fits (suc levels) d element o n l =
      let inside : suc d < MAX_XMI_NESTING = omega arith in
      let deeper : suc (suc d) < MAX_XMI_NESTING = omega arith in
      let less : suc d + levels < 255 = omega arith in
      fits_line (suc d) (depth_over levels) _
      (ended_fits d (depth_over levels) (tag_calls m element o) (children_calls m levels o) (tag_begins d element o n inside)
      (fits_each (suc (suc d)) (child_calls m (suc (depth_over levels)) (object_calls m levels) o) (object_props m o)
      (λ p h. child_fits (suc d) (suc (depth_over levels)) (object_calls m levels) o p (property_of o p h) (λ part b named. object_fits levels (suc d) part b named less) deeper))
      (length (children_calls m levels o) == 0))

  -- ---- the whole text

  top_named : (o : ℕ) → is_some (object_at m o) ≡ true → is_name (typed_name m o) ≡ true
  top_named o live = by (object_at m o) refl live
    where
      by : (x : Option Object) → object_at m o ≡ x → is_some x ≡ true → is_name (typed_name m o) ≡ true
      by None e h = absurd cc
      by (Some object) e h =
          let name : class_text m o ≡ class_name m.meta object.class = ap (λ x. name_or_none m.meta (option_map (λ ob. ob.class) x)) e in
          ap (λ n. is_name (109 ∷ 58 ∷ n)) name ∙ prefixed_name (class_name m.meta object.class) (class_named object.class (k.objects o object e).class)

  top_live : (o : ℕ) → Contains (top_numbers m) o → is_some (object_at m o) ≡ true
  top_live o h = (filtered (λ x. is_some (object_at m x)) _ o (filtered (λ x. not (is_part m x)) (live_numbers m) o h).0).1

  tops_fit : Fits 1 (flat_map (top_calls m) (top_numbers m))
  tops_fit = fits_each 1 (top_calls m) (top_numbers m) (λ o h. object_fits MAX_DEPTH 0 (typed_name m o) o (top_named o (top_live o h)) (omega arith))

  head_can : CanWrite nothing (head m.meta)
  head_can = (refl, (tt, ((refl, refl), ((refl, refl, refl), ((refl, refl, refl), ((refl, meta_name_storable m.meta.name k.well.names.metamodel, refl), tt))))))

  pub canon_steps : (w1 w2 w3 : Written) → w1 ≡ wrote nothing (head m.meta) → w2 ≡ wrote w1 (flat_map (top_calls m) (top_numbers m)) → w3 ≡ wrote w2 foot → AreCanonSteps m w1 w2 w3
  canon_steps w1 w2 w3 e1 e2 e3 =
      let tops = flat_map (top_calls m) (top_numbers m) in
      let one : length w1.elements ≡ 1 = ap (λ w. length w.elements) e1 in
      let still : length w2.elements ≡ 1 = ap (λ w. length w.elements) e2 ∙ tops_fit.open_still w1 one in
      let rooted : w2.rooted ≡ true = ap (λ w. w.rooted) e2 ∙ rooted_stays tops w1 (ap (λ w. w.rooted) e1) in
      let lined : Written = after_call w2 (Line 0) in
      let none : length w3.elements ≡ 0 = ap (λ w. length w.elements) e3 ∙ length-closed lined 0 still in
      record {
        head = head_can;
        tops = tops_fit.can w1 one;
        foot = (tt, (inside_of lined 0 still, (tt, tt)));
        whole = ap₂ (λ a b. not (nat_lt 0 a) && b) none (ap (λ w. w.rooted) e3 ∙ rooted_stays foot w2 rooted);
        all = e3 ∙ ap (λ w. wrote w foot) (e2 ∙ ap (λ w. wrote w tops) e1) ∙ sym (wrote_both nothing (head m.meta) (tops ++ foot) ∙ wrote_both (wrote nothing (head m.meta)) tops foot);
      }

  pub head_here : (w : Written) (meta : MetaDesc) → w ≡ nothing → meta ≡ m.meta → CanWrite w (head meta)
  head_here w meta e same = subst (λ (x : Written). CanWrite x (head meta)) (sym e) (subst (λ (x : MetaDesc). CanWrite nothing (head x)) (sym same) head_can)
