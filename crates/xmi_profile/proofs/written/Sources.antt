-- What the tree of a model writes: the identifiers, classes, values and references of its objects.
use Rattle.std.proofs.Common.{◌≡◌, ◌≢◌, ◌⊎◌, ℕ, zero, suc, ◌<◌, ◌≤◌, Bool, true, false, cond, List, [], ◌∷◌, ◌++◌, length, get_or, map, refl, sym, ◌∙◌, ap, ap₂, subst, arith, Option, None, Some, inl, inr, append-nil, codes}
use Rattle.std.specs.Prelude.{◌==◌, ◌&&◌, ◌||◌, not, Contains, filter, filter_map, slice_get, is_some}
use Rattle.std.specs.List.{flat_map, list_any}
use Rattle.std.specs.Option.{option_map, unwrap_or}
use Rattle.std.proofs.lemmas.Bool.{eq-eqb, ne_eqb, cond-true, cond-false, true≢false}
use Rattle.std.proofs.lemmas.List.{length-map}
use Rattle.mof_metamodel.specs.declared.desc.PropId.{PropId}
use Rattle.object_tables.specs.declared.limit.TheConstants.{MAX_DEPTH}
use Rattle.mof_metamodel.specs.Characters.{same_name}
use Rattle.mof_metamodel.specs.Members.{IsPropNamed}
use Rattle.mof_metamodel.specs.Metamodels.{prop_number}
use Rattle.mof_metamodel.specs.WellMeta.{is_prop_name}
use Rattle.mof_metamodel.proofs.DistinctLemmas.{IsOnce}
use Rattle.mof_metamodel.proofs.MetaLaws.{prop_named}
use Rattle.mof_metamodel.proofs.PropLemmas.{prop_known}
use Rattle.object_tables.specs.declared.value.Value.{Value}
use Rattle.object_tables.specs.Containment.{IsDepth}
use Rattle.object_tables.specs.Models.{ModelData, class_at, values_at, partners_at, IsLive}
use Rattle.object_tables.specs.Validity.{Valid, IsPropertyOf}
use Rattle.mof_metamodel.proofs.Facts.{contains_map}
use Rattle.model_assembly.specs.declared.fault.Externs.TheVariants as externs
use Rattle.model_assembly.specs.declared.form.Form.{Form}
use Rattle.model_assembly.specs.declared.form.Form.TheVariants as forms
use Rattle.model_assembly.specs.Attributes.{Attrs, first_attr, later, value_where, written_id}
use Rattle.xmi_profile.specs.Canon.{value_text, typed_name, top_numbers}
use Rattle.model_assembly.specs.Elements.{Item, is_object, object_items}
use Rattle.model_assembly.specs.Forms.{form_of}
use Rattle.model_assembly.specs.Profile.{xmi_id, xmi_type, prop_name, id_text, object_props, props_or_none}
use Rattle.model_assembly.specs.Source.{Source, primitive_class, all_items, item_at, item_class, given_id, ids_from, file_ids, uses, is_added, added_names, all_ids, all_classes, object_count, id_of, class_of, is_number, attr_in, attr_of, attr_text, is_at}
use Rattle.xmi_profile.specs.WrittenOrder.{written_order}
use Rattle.xmi_profile.specs.WrittenTree.{value_pair, partners_pair, pair_by, pair_at, object_attrs, written_tree}
use Rattle.model_assembly.proofs.assembling.ListLaws.{contains_tail}
use Rattle.mof_metamodel.proofs.Facts.{contains_first}
use Rattle.xmi_profile.proofs.WritingModels.{property_of}
use Rattle.xmi_profile.proofs.written.Items.{bare, NonePass, known_class, tree_rows}
use Rattle.xmi_profile.proofs.written.Known.{IsRow, Root, ValueRow, ObjectRow, tree_known}
use Rattle.xmi_profile.proofs.written.Renumbering.{image, back, image_within, image_apart, all_numbered}
use Rattle.xmi_profile.proofs.written.Naming.{prop_read}
use Rattle.xmi_profile.proofs.written.Ordering.{top_of, order_all_once, order_has, object_props_once, once_behind, once_first}
use Rattle.xmi_profile.proofs.written.Rows.{filter_map-map, filter_map_same, tops_fit, seen, seen_of, seen_tree, tree_items, IsKeyed, own_at, chosen_tree}

-- ---- lists

pub slice_get-map : {Y : Type 0} (f : ℕ → Y) (xs : List ℕ) (i : ℕ) → i < length xs → slice_get (map f xs) i ≡ Some (f (get_or xs i 0))
slice_get-map f [] i l = absurd (omega (arith, l))
slice_get-map f (x ∷ xs) zero l = refl
slice_get-map f (x ∷ xs) (suc i) l = slice_get-map f xs i (omega (arith, l))

pub slice_get_past : {X : Type 0} (xs : List X) (i : ℕ) → length xs ≤ i → slice_get xs i ≡ None
slice_get_past [] i l = refl
slice_get_past (x ∷ xs) zero l = absurd (omega (arith, l))
slice_get_past (x ∷ xs) (suc i) l = slice_get_past xs i (omega (arith, l))

mapped_get : {X Y : Type 0} (f : X → Y) (xs : List X) (i : ℕ) → option_map f (slice_get xs i) ≡ slice_get (map f xs) i
mapped_get f [] i = refl
mapped_get f (x ∷ xs) zero = refl
mapped_get f (x ∷ xs) (suc i) = mapped_get f xs i

pub none_any : {X : Type 0} (p : X → Bool) (xs : List X) → ((x : X) → Contains xs x → p x ≡ false) → list_any p xs ≡ false
none_any p [] h = refl
none_any p (x ∷ xs) h = ap₂ (λ a b. a || b) (h x (contains_first x xs)) (none_any p xs (λ y c. h y (contains_tail x y xs c)))

none_kept : {X : Type 0} (p : X → Bool) (xs : List X) → ((x : X) → p x ≡ false) → filter p xs ≡ []
none_kept p [] h = refl
none_kept p (x ∷ xs) h = cond-false (p x) (x ∷ filter p xs) (filter p xs) (h x) ∙ none_kept p xs h

pub filter_map_all : {X Z : Type 0} (g : X → Z) (xs : List X) → filter_map (λ x. Some (g x)) xs ≡ map g xs
filter_map_all g [] = refl
filter_map_all g (x ∷ xs) = ap (λ zs. g x ∷ zs) (filter_map_all g xs)

-- ---- the value of an attribute

later_value : (t : Option (ℕ × List ℕ)) → option_map (λ found. found.1) (option_map later t) ≡ option_map (λ found. found.1) t
later_value None = refl
later_value (Some found) = refl

where_skip : (passes : List ℕ → Bool) (a : List ℕ × List ℕ) (rest : Attrs) → passes a.0 ≡ false → value_where passes (a ∷ rest) ≡ value_where passes rest
where_skip passes a rest h =
    ap (option_map (λ found. found.1)) (cond-false (passes a.0) (Some (0, a.1)) (option_map later (first_attr passes rest)) h) ∙ later_value (first_attr passes rest)

where_skip_all : (passes : List ℕ → Bool) (a b : Attrs) → NonePass passes a → value_where passes (a ++ b) ≡ value_where passes b
where_skip_all passes [] b h = refl
where_skip_all passes (x ∷ a) b h = where_skip passes x (a ++ b) h.0 ∙ where_skip_all passes a b h.1

abbrev pub first_text : Attrs → Option (List ℕ)
first_text [] = None
first_text (a ∷ attrs) = Some a.1

-- none, or one of this name
abbrev IsOfName : List ℕ → Attrs → Type 0
IsOfName name attrs = (attrs ≡ []) ⊎ ((text : List ℕ) × (attrs ≡ (name, text) ∷ []))

module _ (m : ModelData) where
  pub pair_of_name : (o p : ℕ) → IsOfName (prop_name m.meta p) (pair_at m o p)
  pair_of_name o p = by (form_of m.meta p)
    where
      of_values : (vs : List Value) → IsOfName (prop_name m.meta p) (value_pair m.meta p vs)
      of_values [] = inl refl
      of_values (v ∷ vs) = inr (value_text m.meta v, refl)

      of_partners : (bs : List ℕ) → IsOfName (prop_name m.meta p) (partners_pair m p bs)
      of_partners [] = inl refl
      of_partners (b ∷ bs) = inr (_, refl)

      by : (f : Form) → IsOfName (prop_name m.meta p) (pair_by m o p f)
      by forms.Attribute = of_values (values_at m o p)
      by forms.Elements = inl refl
      by forms.Identifiers = of_partners (partners_at m o p)
      by forms.Parts = inl refl
      by forms.Nesting = inl refl

  none_of_name : (passes : List ℕ → Bool) (o q : ℕ) → passes (prop_name m.meta q) ≡ false → NonePass passes (pair_at m o q)
  none_of_name passes o q h = elim (pair_of_name o q) [
    | inl none ↦ subst (NonePass passes) (sym none) tt
    | inr one ↦ subst (NonePass passes) (sym one.1) (h, tt)
  ]

  -- no property of the list has the name that passes
  none_in_props : (passes : List ℕ → Bool) (o : ℕ) (qs : List ℕ) → ((q : ℕ) → Contains qs q → passes (prop_name m.meta q) ≡ false) → value_where passes (flat_map (pair_at m o) qs) ≡ None
  none_in_props passes o [] h = refl
  none_in_props passes o (q ∷ qs) h =
      where_skip_all passes (pair_at m o q) (flat_map (pair_at m o) qs) (none_of_name passes o q (h q (contains_first q qs)))
      ∙ none_in_props passes o qs (λ r c. h r (contains_tail q r qs c))

  one_in_props : (passes : List ℕ → Bool) (o p : ℕ) (qs : List ℕ) → IsOnce qs → ((q : ℕ) → Contains qs q → passes (prop_name m.meta q) ≡ (q == p)) → Contains qs p
      → value_where passes (flat_map (pair_at m o) qs) ≡ first_text (pair_at m o p)
  one_in_props passes o p [] once h (i, l, e) = absurd (omega (arith, l))
  one_in_props passes o p (q ∷ qs) once h (zero, l, e) =
      let rest : Attrs = flat_map (pair_at m o) qs in
      let passing : passes (prop_name m.meta q) ≡ true = h q (contains_first q qs) ∙ eq-eqb q p e in
      let none : value_where passes rest ≡ None =
      none_in_props passes o qs (λ r c. h r (contains_tail q r qs c) ∙ ne_eqb r p (λ same. once_first q r qs once c (e ∙ sym same))) in
      elim (pair_of_name o q) [
        | inl empty ↦ ap (λ a. value_where passes (a ++ rest)) empty ∙ none ∙ ap first_text (sym empty) ∙ ap (λ x. first_text (pair_at m o x)) e
        | inr one ↦ (
            ap (λ a. value_where passes (a ++ rest)) one.1
            ∙ ap (option_map (λ found. found.1)) (cond-true (passes (prop_name m.meta q)) (Some (0, one.0)) (option_map later (first_attr passes rest)) passing)
            ∙ ap first_text (sym one.1) ∙ ap (λ x. first_text (pair_at m o x)) e
            )
      ]
  one_in_props passes o p (q ∷ qs) once h (suc i, l, e) =
      let there : Contains qs p = (i, omega (arith, l), e) in
      let other : passes (prop_name m.meta q) ≡ false = h q (contains_first q qs) ∙ ne_eqb q p (once_first q p qs once there) in
      where_skip_all passes (pair_at m o q) (flat_map (pair_at m o) qs) (none_of_name passes o q other)
      ∙ one_in_props passes o p qs (once_behind q qs once) (λ r c. h r (contains_tail q r qs c)) there

  module _ (v : Valid m) (shallow : (o d : ℕ) → IsLive m o → IsDepth m o d → d ≤ MAX_DEPTH) where
    abbrev pub source : Source
    source = record { meta = m.meta; outside = externs.None; tree = written_tree m }

    abbrev number : ℕ → ℕ
    number o = image m o

    abbrev look : Item → Option ℕ × Attrs
    look item = seen m v.kept number item

    top_live : (o : ℕ) → Contains (top_numbers m) o → IsLive m o
    top_live o c = (top_of m v.kept o c).0

    pub tree_is : map bare (all_items source) ≡ tree_items m v.kept number
    tree_is = tree_rows m v.kept number top_live (all_numbered m v shallow)

    pub item_known : (item : Item) → Contains (all_items source) item → IsRow m v.kept number (bare item)
    item_known item c =
        tree_known m v.kept number top_live (bare item) (subst (λ (xs : List Item). Contains xs (bare item)) tree_is (contains_map bare (all_items source) item c))

    -- ---- objects

    look_bare : (xs : List Item) → map look (filter is_object (map bare xs)) ≡ map look (filter is_object xs)
    look_bare [] = refl
    look_bare (x ∷ xs) = by (is_object x) (look_bare xs)
      where
        by : (b : Bool) → map look (filter is_object (map bare xs)) ≡ map look (filter is_object xs)
            → map look (cond b (bare x ∷ filter is_object (map bare xs)) (filter is_object (map bare xs))) ≡ map look (cond b (x ∷ filter is_object xs) (filter is_object xs))
        by true h = ap (λ ys. look x ∷ ys) h
        by false h = h

    objects_seen : map look (object_items (all_items source)) ≡ map (seen_of m v.kept number) (written_order m)
    objects_seen = sym (look_bare (all_items source)) ∙ ap (λ xs. map look (filter is_object xs)) tree_is ∙ seen_tree m v.kept number

    abbrev seen_ids : ℕ → List (Option ℕ × Attrs) → List (List ℕ)
    seen_ids n [] = []
    seen_ids n (x ∷ xs) = unwrap_or (written_id x.1) (given_id n) ∷ seen_ids (suc n) xs

    ids_seen : (n : ℕ) (xs : List Item) → ids_from n xs ≡ seen_ids n (map look xs)
    ids_seen n [] = refl
    ids_seen n (x ∷ xs) = ap (λ ys. unwrap_or (written_id x.attrs) (given_id n) ∷ ys) (ids_seen (suc n) xs)

    ids_written : (n : ℕ) (os : List ℕ) → seen_ids n (map (seen_of m v.kept number) os) ≡ map (id_text m) os
    ids_written n [] = refl
    ids_written n (o ∷ os) = ap (λ ys. id_text m o ∷ ys) (ids_written (suc n) os)

    pub file_ids_are : file_ids source ≡ map (id_text m) (written_order m)
    file_ids_are = ids_seen 0 (object_items (all_items source)) ∙ ap (seen_ids 0) objects_seen ∙ ids_written 0 (written_order m)

    classes_seen : (xs : List Item) → map item_class xs ≡ map (λ x. x.0) (map look xs)
    classes_seen [] = refl
    classes_seen (x ∷ xs) = ap (λ ys. item_class x ∷ ys) (classes_seen xs)

    classes_written : (os : List ℕ) → map (λ x. x.0) (map (seen_of m v.kept number) os) ≡ map (class_at m) os
    classes_written [] = refl
    classes_written (o ∷ os) = ap (λ ys. class_at m o ∷ ys) (classes_written os)

    unused : (name : List ℕ) (item : Item) → Contains (all_items source) item → uses name item.role ≡ false
    unused name item c = by (item_known item c)
      where
        by : IsRow m v.kept number (bare item) → uses name item.role ≡ false
        by (Root is) = ap (λ i. uses name i.role) is
        by (ValueRow o p w live has form value is) = ap (λ i. uses name i.role) is
        by (ObjectRow levels element o within live placed is) = ap (λ i. uses name i.role) is

    pub none_added : added_names source ≡ []
    none_added = none_kept (is_added source) (codes "String" ∷ codes "Integer" ∷ codes "Boolean" ∷ []) (λ name.
        ap (λ t. t && (not (list_any (same_name name) (file_ids source)) && is_some (primitive_class m.meta))) (none_any (λ item. uses name item.role) (all_items source) (unused name)))

    pub all_ids_are : all_ids source ≡ map (id_text m) (written_order m)
    all_ids_are = ap₂ (λ a b. a ++ b) file_ids_are none_added ∙ append-nil (map (id_text m) (written_order m))

    all_classes_are : all_classes source ≡ map (class_at m) (written_order m)
    all_classes_are =
        ap₂ (λ a b. a ++ map (λ name. primitive_class m.meta) b) (classes_seen (object_items (all_items source)) ∙ ap (map (λ x. x.0)) objects_seen ∙ classes_written (written_order m)) none_added
        ∙ append-nil (map (class_at m) (written_order m))

    pub count_is : object_count source ≡ length (written_order m)
    count_is = ap length all_ids_are ∙ length-map (written_order m) (id_text m)

    -- what stands at an object's number
    pub at_number : {Y : Type 0} (f : ℕ → Y) (o : ℕ) → IsLive m o → slice_get (map f (written_order m)) (number o) ≡ Some (f o)
    at_number f o live = slice_get-map f (written_order m) (number o) (image_within m v shallow o live) ∙ ap (λ x. Some (f x)) (back m v shallow o live)

    past_number : {Y : Type 0} (f : ℕ → Y) (q : ℕ) → length (written_order m) ≤ q → slice_get (map f (written_order m)) q ≡ None
    past_number f q l =
        let same = length-map (written_order m) f in
        slice_get_past (map f (written_order m)) q (omega (arith, l, same))

    pub id_of_is : (o : ℕ) → IsLive m o → id_of source (number o) ≡ id_text m o
    id_of_is o live = ap (λ xs. unwrap_or (slice_get xs (number o)) []) all_ids_are ∙ ap (λ x. unwrap_or x []) (at_number (id_text m) o live)

    pub class_of_is : (o : ℕ) → IsLive m o → class_of source (number o) ≡ class_at m o
    class_of_is o live = ap (λ xs. unwrap_or (slice_get xs (number o)) None) all_classes_are ∙ ap (λ x. unwrap_or x None) (at_number (class_at m) o live)

    pub class_of_past : (q : ℕ) → length (written_order m) ≤ q → class_of source q ≡ None
    class_of_past q l = ap (λ xs. unwrap_or (slice_get xs q) None) all_classes_are ∙ ap (λ x. unwrap_or x None) (past_number (class_at m) q l)

    -- ---- attributes

    abbrev attr_seen : ℕ → Option (Option ℕ × Attrs) → Option (List ℕ)
    attr_seen p None = None
    attr_seen p (Some x) = attr_in m.meta x.0 p x.1

    attr_is_seen : (p : ℕ) (x : Option Item) → attr_of m.meta p x ≡ attr_seen p (option_map look x)
    attr_is_seen p None = refl
    attr_is_seen p (Some item) = refl

    attr_at : (q p : ℕ) → attr_text source q p ≡ attr_seen p (slice_get (map (seen_of m v.kept number) (written_order m)) q)
    attr_at q p =
        attr_is_seen p (item_at source q)
        ∙ ap (attr_seen p) (mapped_get look (object_items (all_items source)) q ∙ ap (λ xs. slice_get xs q) objects_seen)

    pub attr_past : (q p : ℕ) → length (written_order m) ≤ q → attr_text source q p ≡ None
    attr_past q p l = attr_at q p ∙ ap (attr_seen p) (past_number (seen_of m v.kept number) q l)

    abbrev passing : ℕ → ℕ → List ℕ → Bool
    passing c p name = is_number (prop_number m.meta c name) p

    -- no property has one of XMI's names
    pub no_property : (c : ℕ) (name : List ℕ) → is_prop_name name ≡ false → prop_number m.meta c name ≡ None
    no_property c name bad = by (prop_number m.meta c name) refl
      where
        numbered : ℕ → PropId
        numbered q = record { 0 = q }

        by : (o : Option ℕ) → prop_number m.meta c name ≡ o → o ≡ None
        by None e = refl
        by (Some q) e =
            let found : IsPropNamed m.meta c name (numbered q) = prop_named m.meta c name (Some (numbered q)) (sym e) in
            let good : is_prop_name (prop_name m.meta q) ≡ true = v.kept.well.names.props q (prop_known m.meta c q found.has) in
            absurd (true≢false (sym good ∙ ap is_prop_name found.named ∙ bad))

    in_object : (o c p : ℕ) → class_at m o ≡ Some c → attr_in m.meta (Some c) p (object_attrs m o) ≡ value_where (passing c p) (flat_map (pair_at m o) (object_props m o))
    in_object o c p e =
        where_skip (passing c p) (xmi_id, id_text m o) (tail_of xmi_type) (ap (λ x. is_number x p) (no_property c xmi_id refl))
        ∙ where_skip (passing c p) (xmi_type, typed_name m o) (flat_map (pair_at m o) (object_props m o)) (ap (λ x. is_number x p) (no_property c xmi_type refl))
      where
        tail_of : List ℕ → Attrs
        tail_of name = (name, typed_name m o) ∷ flat_map (pair_at m o) (object_props m o)

    read_number : (o c q p : ℕ) → class_at m o ≡ Some c → Contains (object_props m o) q → passing c p (prop_name m.meta q) ≡ (q == p)
    read_number o c q p e has =
        ap (λ x. is_number x p) (prop_read m.meta v.kept.well c q (known_class m v.kept number o c e).0 (subst (λ (x : Option ℕ). Contains (props_or_none m.meta x) q) e has))

    attr_of_object : (o c p : ℕ) → IsLive m o → class_at m o ≡ Some c → attr_text source (number o) p ≡ value_where (passing c p) (flat_map (pair_at m o) (object_props m o))
    attr_of_object o c p live e =
        attr_at (number o) p ∙ ap (attr_seen p) (at_number (seen_of m v.kept number) o live) ∙ ap (λ x. attr_in m.meta x p (object_attrs m o)) e ∙ in_object o c p e

    pub attr_is : (o p : ℕ) → IsLive m o → Contains (object_props m o) p → attr_text source (number o) p ≡ first_text (pair_at m o p)
    attr_is o p live has =
        let r : IsPropertyOf m o p = property_of m v.kept o p has in
        attr_of_object o r.class p live r.class_is
        ∙ one_in_props (passing r.class p) o p (object_props m o) (object_props_once m v.kept o) (λ q c. read_number o r.class q p r.class_is c) has

    pub attr_none : (o p : ℕ) → IsLive m o → (Contains (object_props m o) p → ⊥) → attr_text source (number o) p ≡ None
    attr_none o p live none = by (class_at m o) refl
      where
        by : (x : Option ℕ) → class_at m o ≡ x → attr_text source (number o) p ≡ None
        by None e = attr_at (number o) p ∙ ap (attr_seen p) (at_number (seen_of m v.kept number) o live) ∙ ap (λ x. attr_in m.meta x p (object_attrs m o)) e
        by (Some c) e =
            attr_of_object o c p live e
            ∙ none_in_props (passing c p) o (object_props m o) (λ q has. read_number o c q p e has ∙ ne_eqb q p (λ same. none (subst (Contains (object_props m o)) same has)))

    -- ---- elements of one object

    same_number : (a o : ℕ) → IsLive m a → IsLive m o → o ≢ a → (number o == number a) ≡ false
    same_number a o la lo ne = ne_eqb (number o) (number a) (λ e. ne (image_apart m v shallow o a lo la e))

    pub elsewhere : (a p o q : ℕ) → IsLive m a → IsLive m o → o ≢ a → is_at (number a) p (number o) q ≡ false
    elsewhere a p o q la lo ne = ap (λ t. t && (q == p)) (same_number a o la lo ne)

    pub other_property : (a p q : ℕ) → q ≢ p → is_at (number a) p (number a) q ≡ false
    other_property a p q ne = ap₂ (λ s t. s && t) (eq-eqb (number a) (number a) refl) (ne_eqb q p ne)

    pub at_itself : (a p : ℕ) → is_at (number a) p (number a) p ≡ true
    at_itself a p = ap₂ (λ s t. s && t) (eq-eqb (number a) (number a) refl) (eq-eqb p p refl)

    -- what is chosen of the tree, where no place counts
    pub of_tree : {T : Type 0} (a : ℕ) (choose : Item → Option T) (told : Option (ℕ × ℕ) → ℕ → Option T) → IsLive m a → (key : IsKeyed m v.kept number a choose told)
        → ((item : Item) → choose (bare item) ≡ choose item) → filter_map choose (all_items source) ≡ flat_map (own_at m v.kept number T v.acyclic a choose told key) (object_props m a)
    of_tree {T = T} a choose told live key same =
        sym (filter_map-map choose bare (all_items source) ∙ filter_map_same (λ i. choose (bare i)) choose (all_items source) same)
        ∙ ap (filter_map choose) tree_is
        ∙ chosen_tree m v.kept number T v.acyclic a choose told key (order_all_once m v.kept v.acyclic)
        (λ o c. let top = top_of m v.kept o c in (top.0, tops_fit m v.kept shallow o top.0 top.1)) (order_has m v.kept v.acyclic shallow a live)
