-- What the elements of the tree of a model are: its objects and values, in their order.
use Rattle.std.proofs.Common.{◌≡◌, ℕ, zero, suc, ◌+◌, ◌<◌, Bool, true, false, cond, List, [], ◌∷◌, ◌++◌, length, map, refl, sym, ◌∙◌, ap, ap₂, subst, arith, Option, None, Some, append_assoc, append-nil, length-append}
use Rattle.std.specs.Prelude.{Contains, IsSome, filter}
use Rattle.std.specs.List.{flat_map}
use Rattle.std.specs.Option.{option_map}
use Rattle.std.proofs.lemmas.Bool.{cond-false, cond-true}
use Rattle.std.proofs.lemmas.List.{map-append}
use Rattle.std.proofs.lemmas.List.Concat.{flat_map-append}
use Rattle.std.proofs.lemmas.List.Elements.{filter-append}
use Rattle.mof_metamodel.specs.declared.desc.MetaDesc.{MetaDesc}
use Rattle.object_tables.specs.declared.limit.TheConstants.{MAX_DEPTH}
use Rattle.mof_metamodel.specs.Metamodels.{class_count, class_at as meta_class, prop_at, prop_number, type_of}
use Rattle.mof_metamodel.specs.WellMeta.{is_prop_name}
use Rattle.mof_metamodel.proofs.PropLemmas.{prop_known}
use Rattle.object_tables.specs.declared.value.Value.{Value}
use Rattle.object_tables.specs.Objects.{Object}
use Rattle.object_tables.specs.Kept.{Kept, IsWellObject}
use Rattle.object_tables.specs.Models.{ModelData, object_at, class_at, values_at, partners_at, is_class_type, IsLive}
use Rattle.object_tables.specs.Validity.{IsPropertyOf}
use Rattle.object_tables.proofs.KeptLemmas.{sound_of, linked_partner}
use Rattle.object_tables.proofs.ModelLemmas.{live_from_class}
use Rattle.xmi_text.specs.Trees.{Nodes, Ends, Run, Element}
use Rattle.xmi_text.specs.Writing.{line_end}
use Rattle.model_assembly.specs.declared.fault.Externs.TheVariants as externs
use Rattle.model_assembly.specs.declared.form.Form.{Form}
use Rattle.model_assembly.specs.declared.form.Form.TheVariants as forms
use Rattle.model_assembly.specs.Attributes.{Attrs, first_attr, later, is_skipped_name, is_alien_name, is_idref_name}
use Rattle.xmi_profile.specs.Canon.{value_text, typed_name, depth_over, top_numbers}
use Rattle.model_assembly.specs.declared.role.Role.{Role}
use Rattle.model_assembly.specs.declared.role.ObjectRole.{ObjectRole}
use Rattle.model_assembly.specs.declared.role.Role.TheVariants.{Document, Skipped, Alien, AnObject, AValue, Neither}
use Rattle.model_assembly.specs.Elements.{Item, is_object, number_in, number_behind, inner_place, behind_place, items_in, items, role_in, role_in_class, role_at, role_at_reference, object_role, concrete_class}
use Rattle.model_assembly.specs.Forms.{form_of}
use Rattle.model_assembly.specs.Profile.{prop_name, class_text, name_or_none, object_props}
use Rattle.model_assembly.specs.References.{element_target, or_by_href}
use Rattle.xmi_profile.specs.WrittenOrder.{parts_by, parts_at, parts_of, order_of, written_order}
use Rattle.xmi_profile.specs.WrittenTree.{value_pair, partners_pair, pair_by, pair_at, object_attrs, each_before, text_nodes, value_nodes, nodes_by, child_nodes, unless_none, lined, object_nodes, top_nodes, written_tree}
use Rattle.model_assembly.proofs.assembling.ListLaws.{contains_tail}
use Rattle.mof_metamodel.proofs.Facts.{contains_first}
use Rattle.xmi_profile.proofs.WritingModels.{property_of}
use Rattle.xmi_profile.proofs.WritingForms.{class_typed}
use Rattle.xmi_profile.proofs.written.Naming.{class_read, prop_read, prop_not_skipped, prop_not_alien, prop_not_idref}
use Rattle.xmi_profile.proofs.written.Ordering.{composite_parts}

-- ---- lists

pub flat_map-flat_map : {X Y Z : Type 0} (f : Y → List Z) (g : X → List Y) (xs : List X) → flat_map f (flat_map g xs) ≡ flat_map (λ x. flat_map f (g x)) xs
flat_map-flat_map f g [] = refl
flat_map-flat_map f g (x ∷ xs) = flat_map-append f (g x) (flat_map g xs) ∙ ap (λ ys. flat_map f (g x) ++ ys) (flat_map-flat_map f g xs)

-- an element without its place
abbrev pub bare : Item → Item
bare item = record { place = 0; role = item.role; name = item.name; attrs = item.attrs; inner = item.inner }

bare_count : (xs : List Item) → length (filter is_object (map bare xs)) ≡ length (filter is_object xs)
bare_count [] = refl
bare_count (x ∷ xs) = by (is_object x) (bare_count xs)
  where
    by : (b : Bool) → length (filter is_object (map bare xs)) ≡ length (filter is_object xs)
        → length (cond b (bare x ∷ filter is_object (map bare xs)) (filter is_object (map bare xs))) ≡ length (cond b (x ∷ filter is_object xs) (filter is_object xs))
    by true h = ap suc h
    by false h = h

-- ---- nodes and the elements that they are

module _ (meta : MetaDesc) where
  abbrev listed_in : Role → Nodes → ℕ → ℕ → List Item
  listed_in parent nodes place number = items_in meta externs.None parent nodes place number

  abbrev own_items : Role → List ℕ → Attrs → Nodes → ℕ → ℕ → List Item
  own_items role name attrs inner place number =
      (record { place = place; role = role; name = name; attrs = attrs; inner = inner }) ∷ listed_in role inner (inner_place place attrs) (number_in role number)

  abbrev with_own : Role → Role → List ℕ → Attrs → Nodes → Nodes → ℕ → ℕ → List Item
  with_own parent role name attrs inner more place number =
      own_items role name attrs inner place number ++ listed_in parent more (behind_place place attrs inner) (number_behind (own_items role name attrs inner place number) number)

  -- an element whose role is known
  element_listed : (parent role : Role) (name : List ℕ) (attrs : Attrs) (inner more : Nodes) (place number : ℕ) → role_in meta externs.None parent number name attrs ≡ role
      → listed_in parent (Element name attrs inner more) place number ≡ with_own parent role name attrs inner more place number
  element_listed parent role name attrs inner more place number e = ap (λ r. with_own parent r name attrs inner more place number) e

  -- nodes are these elements, and these objects by number from n on, where they stand in an element of the role
  record ListsAs (parent : Role) (f : Nodes → Nodes) (n : ℕ) (os : List ℕ) (rows : List Item) : Type 0 where
    listed : (more : Nodes) (place : ℕ) → (behind : ℕ) × (map bare (listed_in parent (f more) place n) ≡ rows ++ map bare (listed_in parent more behind (n + length os)))
    count : length (filter is_object rows) ≡ length os

  lists_none : (parent : Role) (n : ℕ) → ListsAs parent (λ more. more) n [] []
  lists_none parent n =
      let same : n ≡ n + 0 = omega arith in
      record { listed = λ more place. (place, ap (λ k. map bare (listed_in parent more place k)) same); count = refl }

  lists_both : (parent : Role) (f g : Nodes → Nodes) (n : ℕ) (os ps : List ℕ) (rows more_rows : List Item)
      → ListsAs parent f n os rows → ListsAs parent g (n + length os) ps more_rows → ListsAs parent (λ more. f (g more)) n (os ++ ps) (rows ++ more_rows)
  lists_both parent f g n os ps rows more_rows x y = record {
    listed = λ more place.
        let (b, e) = x.listed (g more) place in
        let (c, h) = y.listed more b in
        let same : (n + length os) + length ps ≡ n + length (os ++ ps) = omega (arith, length-append os ps) in (
          c,
          e ∙ ap (λ xs. rows ++ xs) (h ∙ ap (λ k. more_rows ++ map bare (listed_in parent more c k)) same)
              ∙ sym (append_assoc rows more_rows (map bare (listed_in parent more c (n + length (os ++ ps))))),
        );
    count = ap length (filter-append is_object rows more_rows) ∙ length-append (filter is_object rows) (filter is_object more_rows) ∙ ap₂ (λ a b. a + b) x.count y.count ∙ sym (length-append os ps);
  }

  -- the element of a value
  abbrev value_item : ℕ → ℕ → List ℕ → List ℕ → Item
  value_item k p name text = record { place = 0; role = AValue k p; name = name; attrs = []; inner = text_nodes text }

  none_in_text : (role : Role) (text : List ℕ) (place number : ℕ) → listed_in role (text_nodes text) place number ≡ []
  none_in_text role [] place number = refl
  none_in_text role (c ∷ cs) place number = refl

  lists_value : (parent : Role) (d k p : ℕ) (name text : List ℕ) (n : ℕ) → role_in meta externs.None parent n name [] ≡ AValue k p
      → ListsAs parent (λ more. Run (line_end d) (Element name [] (text_nodes text) more)) n [] (value_item k p name text ∷ [])
  lists_value parent d k p name text n e = record {
    listed = λ more place.
        let behind : ℕ = behind_place (suc place) [] (text_nodes text) in
        let item : Item = record { place = suc place; role = AValue k p; name = name; attrs = []; inner = text_nodes text } in (
          behind,
          ap (map bare) (element_listed parent (AValue k p) name [] (text_nodes text) more (suc place) n e)
              ∙ ap (λ (xs : List Item). map bare ((item ∷ xs) ++ listed_in parent more behind (number_behind (item ∷ xs) n))) (none_in_text (AValue k p) text (inner_place (suc place) []) n),
        );
    count = refl;
  }

  -- the element of an object
  lists_object : (parent : Role) (object : ObjectRole) (d : ℕ) (name : List ℕ) (attrs : Attrs) (inner : Nodes) (n o : ℕ) (os : List ℕ) (rows : List Item)
      → role_in meta externs.None parent n name attrs ≡ AnObject object
      → ((place : ℕ) → map bare (listed_in (AnObject object) inner place (suc n)) ≡ rows) → length (filter is_object rows) ≡ length os
      → ListsAs parent (λ more. Run (line_end d) (Element name attrs inner more)) n (o ∷ os) ((record { place = 0; role = AnObject object; name = name; attrs = attrs; inner = inner }) ∷ rows)
  lists_object parent object d name attrs inner n o os rows e inside counted = record {
    listed = λ more place.
        let behind : ℕ = behind_place (suc place) attrs inner in
        let own : List Item = listed_in (AnObject object) inner (inner_place (suc place) attrs) (suc n) in
        let known : map bare own ≡ rows = inside (inner_place (suc place) attrs) in
        let many : length (filter is_object own) ≡ length os = sym (bare_count own) ∙ ap (λ xs. length (filter is_object xs)) known ∙ counted in
        let row : Item = record { place = 0; role = AnObject object; name = name; attrs = attrs; inner = inner } in (
          behind,
          ap (map bare) (element_listed parent (AnObject object) name attrs inner more (suc place) n e)
              ∙ ap (λ xs. row ∷ xs)
              (map-append bare own (listed_in parent more behind (n + suc (length (filter is_object own))))
              ∙ ap₂ (λ xs j. xs ++ map bare (listed_in parent more behind (n + suc j))) known many),
        );
    count = ap suc counted;
  }

  -- what stands in an element whose end may stand on a line of its own
  lists_inside : (role : Role) (d : ℕ) (f : Nodes → Nodes) (n : ℕ) (os : List ℕ) (rows : List Item) → ListsAs role f n os rows
      → (place : ℕ) → map bare (listed_in role (lined d f) place n) ≡ rows
  lists_inside role d f n os rows x place = by (f Ends) refl
    where
      by : (nodes : Nodes) → f Ends ≡ nodes → map bare (listed_in role (unless_none nodes (f (Run (line_end d) Ends))) place n) ≡ rows
      by Ends e = ap (λ y. map bare (listed_in role y place n)) (sym e) ∙ (x.listed Ends place).1 ∙ append-nil rows
      by (Run characters more) e = (x.listed (Run (line_end d) Ends) place).1 ∙ append-nil rows
      by (Element name attrs inner more) e = (x.listed (Run (line_end d) Ends) place).1 ∙ append-nil rows

  -- ---- numbers

  module _ (image : ℕ → ℕ) where
    -- the images of the objects are the numbers from n on
    abbrev pub IsNumbered : ℕ → List ℕ → Type 0
    IsNumbered n [] = Unit {0}
    IsNumbered n (o ∷ os) = (image o ≡ n) × IsNumbered (suc n) os

    pub numbered_first : (n : ℕ) (a b : List ℕ) → IsNumbered n (a ++ b) → IsNumbered n a
    numbered_first n [] b h = tt
    numbered_first n (o ∷ a) b h = (h.0, numbered_first (suc n) a b h.1)

    pub numbered_rest : (n : ℕ) (a b : List ℕ) → IsNumbered n (a ++ b) → IsNumbered (n + length a) b
    numbered_rest n [] b h =
        let same : n ≡ n + 0 = omega arith in
        subst (λ k. IsNumbered k b) same h
    numbered_rest n (o ∷ a) b h =
        let same : suc n + length a ≡ n + suc (length a) = omega arith in
        subst (λ k. IsNumbered k b) same (numbered_rest (suc n) a b h.1)

    lists_each : {X : Type 0} (parent : Role) (f : X → Nodes → Nodes) (os : X → List ℕ) (rows : X → List Item) (xs : List X) (n : ℕ)
        → ((x : X) (k : ℕ) → Contains xs x → IsNumbered k (os x) → ListsAs parent (f x) k (os x) (rows x))
        → IsNumbered n (flat_map os xs) → ListsAs parent (each_before f xs) n (flat_map os xs) (flat_map rows xs)
    lists_each parent f os rows [] n h num = lists_none parent n
    lists_each parent f os rows (x ∷ xs) n h num =
        lists_both parent (f x) (each_before f xs) n (os x) (flat_map os xs) (rows x) (flat_map rows xs)
        (h x n (contains_first x xs) (numbered_first n (os x) (flat_map os xs) num))
        (lists_each parent f os rows xs (n + length (os x)) (λ y k c. h y k (contains_tail x y xs c)) (numbered_rest n (os x) (flat_map os xs) num))

-- ---- attributes

abbrev pub NonePass : (List ℕ → Bool) → Attrs → Type 0
NonePass passes [] = Unit {0}
NonePass passes (a ∷ attrs) = (passes a.0 ≡ false) × NonePass passes attrs

none_pass_both : (passes : List ℕ → Bool) (a b : Attrs) → NonePass passes a → NonePass passes b → NonePass passes (a ++ b)
none_pass_both passes [] b h k = k
none_pass_both passes (x ∷ a) b h k = (h.0, none_pass_both passes a b h.1 k)

none_pass_each : {X : Type 0} (passes : List ℕ → Bool) (f : X → Attrs) (xs : List X) → ((x : X) → Contains xs x → NonePass passes (f x)) → NonePass passes (flat_map f xs)
none_pass_each passes f [] h = tt
none_pass_each passes f (x ∷ xs) h =
    none_pass_both passes (f x) (flat_map f xs) (h x (contains_first x xs)) (none_pass_each passes f xs (λ y c. h y (contains_tail x y xs c)))

pub none_first : (passes : List ℕ → Bool) (attrs : Attrs) → NonePass passes attrs → first_attr passes attrs ≡ None
none_first passes [] h = refl
none_first passes (a ∷ attrs) h = cond-false (passes a.0) (Some (0, a.1)) (option_map later (first_attr passes attrs)) h.0 ∙ ap (option_map later) (none_first passes attrs h.1)

module _ (m : ModelData) (k : Kept m) (image : ℕ → ℕ) where
  -- the attribute of a property has its name
  none_of_pair : (passes : List ℕ → Bool) (o p : ℕ) → passes (prop_name m.meta p) ≡ false → NonePass passes (pair_at m o p)
  none_of_pair passes o p h = by (form_of m.meta p)
    where
      of_values : (vs : List Value) → NonePass passes (value_pair m.meta p vs)
      of_values [] = tt
      of_values (v ∷ vs) = (h, tt)

      of_partners : (bs : List ℕ) → NonePass passes (partners_pair m p bs)
      of_partners [] = tt
      of_partners (b ∷ bs) = (h, tt)

      by : (f : Form) → NonePass passes (pair_by m o p f)
      by forms.Attribute = of_values (values_at m o p)
      by forms.Elements = tt
      by forms.Identifiers = of_partners (partners_at m o p)
      by forms.Parts = tt
      by forms.Nesting = tt

  pub good_name : (o p : ℕ) → Contains (object_props m o) p → is_prop_name (prop_name m.meta p) ≡ true
  good_name o p h =
      let r : IsPropertyOf m o p = property_of m k o p h in
      k.well.names.props p (prop_known m.meta r.class p r.has)

  -- no attribute of a property has one of XMI's names
  pub none_of_props : (passes : List ℕ → Bool) (o : ℕ) → ((name : List ℕ) → is_prop_name name ≡ true → passes name ≡ false)
      → first_attr passes (flat_map (pair_at m o) (object_props m o)) ≡ None
  none_of_props passes o h =
      none_first passes (flat_map (pair_at m o) (object_props m o))
      (none_pass_each passes (pair_at m o) (object_props m o) (λ p c. none_of_pair passes o p (h (prop_name m.meta p) (good_name o p c))))

  no_target : (o : ℕ) → element_target externs.None (object_attrs m o) ≡ None
  no_target o = ap (λ t. or_by_href externs.None (object_attrs m o) (option_map (λ found. found.1) (option_map later (option_map later t)))) (none_of_props is_idref_name o prop_not_idref)

  -- ---- roles

  pub known_class : (o c : ℕ) → class_at m o ≡ Some c → (c < class_count m.meta) × ((meta_class m.meta c).is_abstract ≡ false)
  known_class o c e = by (object_at m o) refl e
    where
      by : (x : Option Object) → object_at m o ≡ x → option_map (λ ob. ob.class) x ≡ Some c → (c < class_count m.meta) × ((meta_class m.meta c).is_abstract ≡ false)
      by None at e = absurd cc
      by (Some object) at e =
          let same : object.class ≡ c = cc in
          let w : IsWellObject m.meta object = k.objects o object at in
          subst (λ (x : ℕ). (x < class_count m.meta) × ((meta_class m.meta x).is_abstract ≡ false)) same (w.class, w.concrete)

  pub class_is : (o : ℕ) → IsLive m o → concrete_class m.meta (class_text m o) ≡ class_at m o
  class_is o live = by (object_at m o) refl live
    where
      by : (x : Option Object) → object_at m o ≡ x → IsSome x → concrete_class m.meta (class_text m o) ≡ class_at m o
      by None at l = absurd cc
      by (Some object) at l =
          let e : class_at m o ≡ Some object.class = ap (option_map (λ ob. ob.class)) at in
          let known = known_class o object.class e in
          ap (λ c. concrete_class m.meta (name_or_none m.meta c)) e ∙ class_read m.meta k.well object.class known.0 known.1 ∙ sym e

  abbrev pub object_role_of : ℕ → Option (ℕ × ℕ) → ObjectRole
  object_role_of o within = record { number = image o; named = class_text m o; class = class_at m o; within = within }

  abbrev pub role_for : ℕ → Option (ℕ × ℕ) → Role
  role_for o within = AnObject (object_role_of o within)

  role_is : (n o : ℕ) (within : Option (ℕ × ℕ)) → IsLive m o → image o ≡ n → object_role m.meta n (class_text m o) within ≡ role_for o within
  role_is n o within live e =
      ap₂ (λ (i : ℕ) (c : Option ℕ). AnObject (record { number = i; named = class_text m o; class = c; within = within })) (sym e) (class_is o live)

  top_role_is : (n o : ℕ) → IsLive m o → image o ≡ n → role_in m.meta externs.None Document n (typed_name m o) (object_attrs m o) ≡ role_for o None
  top_role_is n o live e = role_is n o None live e

  at_property : (n o p : ℕ) (within : Option (ℕ × ℕ)) (attrs : Attrs) → IsPropertyOf m o p
      → role_in m.meta externs.None (role_for o within) n (prop_name m.meta p) attrs ≡ role_at m.meta externs.None n (image o) attrs (Some p)
  at_property n o p within attrs r =
      let name = prop_name m.meta p in
      let good : is_prop_name name ≡ true = k.well.names.props p (prop_known m.meta r.class p r.has) in
      let at : Option ℕ → Role = λ q. role_at m.meta externs.None n (image o) attrs q in
      ap (λ c. role_in_class m.meta externs.None n (image o) c name attrs) r.class_is
      ∙ cond-false (is_skipped_name name) Skipped (cond (is_alien_name name) Alien (at (prop_number m.meta r.class name))) (prop_not_skipped name good)
      ∙ cond-false (is_alien_name name) Alien (at (prop_number m.meta r.class name)) (prop_not_alien name good)
      ∙ ap at (prop_read m.meta k.well r.class p (known_class o r.class r.class_is).0 r.has)

  value_role : (n o p : ℕ) (within : Option (ℕ × ℕ)) → IsPropertyOf m o p → is_class_type (type_of m.meta p) ≡ false
      → role_in m.meta externs.None (role_for o within) n (prop_name m.meta p) [] ≡ AValue (image o) p
  value_role n o p within r e =
      at_property n o p within [] r
      ∙ cond-false (is_class_type (type_of m.meta p)) (role_at_reference m.meta n (image o) p [] (element_target externs.None [])) (AValue (image o) p) e

  part_role : (n o p b : ℕ) (within : Option (ℕ × ℕ)) → IsPropertyOf m o p → is_class_type (type_of m.meta p) ≡ true → (prop_at m.meta p).composite ≡ true → IsLive m b → image b ≡ n
      → role_in m.meta externs.None (role_for o within) n (prop_name m.meta p) (object_attrs m b) ≡ role_for b (Some (image o, p))
  part_role n o p b within r t c live e =
      let attrs = object_attrs m b in
      let part : Role = object_role m.meta n (class_text m b) (Some (image o, p)) in
      at_property n o p within attrs r
      ∙ cond-true (is_class_type (type_of m.meta p)) (role_at_reference m.meta n (image o) p attrs (element_target externs.None attrs)) (AValue (image o) p) t
      ∙ ap (role_at_reference m.meta n (image o) p attrs) (no_target b)
      ∙ cond-true (prop_at m.meta p).composite part (Neither (image o) p) c
      ∙ role_is n b (Some (image o, p)) live e

  -- ---- rows

  abbrev pub value_row : ℕ → ℕ → Value → Item
  value_row o p v = value_item m.meta (image o) p (prop_name m.meta p) (value_text m.meta v)

  abbrev pub value_rows : ℕ → ℕ → List Value → List Item
  value_rows o p vs = map (value_row o p) vs

  abbrev pub rows_by : (List ℕ → ℕ → Option (ℕ × ℕ) → List Item) → ℕ → ℕ → Form → List Item
  rows_by part o p forms.Elements = value_rows o p (values_at m o p)
  rows_by part o p forms.Parts = flat_map (λ b. part (prop_name m.meta p) b (Some (image o, p))) (partners_at m o p)
  rows_by part o p forms.Attribute = []
  rows_by part o p forms.Identifiers = []
  rows_by part o p forms.Nesting = []

  abbrev pub prop_rows : (List ℕ → ℕ → Option (ℕ × ℕ) → List Item) → ℕ → ℕ → List Item
  prop_rows part o p = rows_by part o p (form_of m.meta p)

  abbrev pub inner_nodes : ℕ → ℕ → Nodes
  inner_nodes levels o = lined (depth_over levels) (each_before (child_nodes m (suc (depth_over levels)) (object_nodes m levels) o) (object_props m o))

  abbrev pub object_row : ℕ → List ℕ → ℕ → Option (ℕ × ℕ) → Item
  object_row levels element o within = record { place = 0; role = role_for o within; name = element; attrs = object_attrs m o; inner = inner_nodes levels o }

  abbrev pub object_rows : ℕ → List ℕ → ℕ → Option (ℕ × ℕ) → List Item
  object_rows zero element o within = []
  object_rows (suc levels) element o within = object_row levels element o within ∷ flat_map (prop_rows (object_rows levels) o) (object_props m o)

  abbrev Numbered : ℕ → List ℕ → Type 0
  Numbered n os = IsNumbered m.meta image n os

  values_listed : (o p n depth : ℕ) (within : Option (ℕ × ℕ)) → IsPropertyOf m o p → is_class_type (type_of m.meta p) ≡ false → (vs : List Value)
      → ListsAs m.meta (role_for o within) (each_before (value_nodes m.meta depth p) vs) n [] (value_rows o p vs)
  values_listed o p n depth within r e [] = lists_none m.meta (role_for o within) n
  values_listed o p n depth within r e (v ∷ vs) =
      lists_both m.meta (role_for o within) (value_nodes m.meta depth p v) (each_before (value_nodes m.meta depth p) vs) n [] [] (value_row o p v ∷ []) (value_rows o p vs)
      (lists_value m.meta (role_for o within) depth (image o) p (prop_name m.meta p) (value_text m.meta v) n (value_role n o p within r e))
      (values_listed o p (n + 0) depth within r e vs)

  -- what the elements of an object are where the objects are numbered in their order
  abbrev Listed : ℕ → Type 0
  Listed levels = (parent : Role) (element : List ℕ) (o : ℕ) (within : Option (ℕ × ℕ)) (n : ℕ) → IsLive m o
      → (image o ≡ n → role_in m.meta externs.None parent n element (object_attrs m o) ≡ role_for o within)
      → Numbered n (order_of m levels o) → ListsAs m.meta parent (object_nodes m levels element o) n (order_of m levels o) (object_rows levels element o within)

  partner_live : (o p b : ℕ) → Contains (partners_at m o p) b → IsLive m b
  partner_live o p b h = let w = linked_partner m p o b (sound_of m k) h in live_from_class m b w.class w.class_is

  child_listed : (levels depth o p n : ℕ) (within : Option (ℕ × ℕ)) → Listed levels → Contains (object_props m o) p → Numbered n (flat_map (order_of m levels) (parts_at m o p))
      → ListsAs m.meta (role_for o within) (child_nodes m depth (object_nodes m levels) o p) n (flat_map (order_of m levels) (parts_at m o p)) (prop_rows (object_rows levels) o p)
  child_listed levels depth o p n within further has num = by (form_of m.meta p) refl num
    where
      r : IsPropertyOf m o p
      r = property_of m k o p has

      by : (f : Form) → form_of m.meta p ≡ f → Numbered n (flat_map (order_of m levels) (parts_by m o p f))
          → ListsAs m.meta (role_for o within) (nodes_by m depth (object_nodes m levels) o p f) n (flat_map (order_of m levels) (parts_by m o p f)) (rows_by (object_rows levels) o p f)
      by forms.Attribute e num = lists_none m.meta (role_for o within) n
      by forms.Identifiers e num = lists_none m.meta (role_for o within) n
      by forms.Nesting e num = lists_none m.meta (role_for o within) n
      by forms.Elements e num = values_listed o p n depth within r (class_typed m.meta p forms.Elements e) (values_at m o p)
      by forms.Parts e num =
          lists_each m.meta image (role_for o within) (object_nodes m levels (prop_name m.meta p)) (order_of m levels) (λ b. object_rows levels (prop_name m.meta p) b (Some (image o, p))) (partners_at m o p) n
          (λ b j c num.
          let live : IsLive m b = partner_live o p b c in
          further (role_for o within) (prop_name m.meta p) b (Some (image o, p)) j live
          (λ h. part_role j o p b within r (class_typed m.meta p forms.Parts e) (composite_parts m k p e) live h) num)
          num

  objects_listed : (levels : ℕ) → Listed levels
  objects_listed zero parent element o within n live role num = lists_none m.meta parent n
  objects_listed (suc levels) parent element o within n live role num =
      let d = depth_over levels in
      let props = object_props m o in
      let os : List ℕ = flat_map (order_of m levels) (parts_of m o) in
      let split : os ≡ flat_map (λ p. flat_map (order_of m levels) (parts_at m o p)) props = flat_map-flat_map (order_of m levels) (parts_at m o) props in
      let rows : List Item = flat_map (prop_rows (object_rows levels) o) props in
      let children : ListsAs m.meta (role_for o within) (each_before (child_nodes m (suc d) (object_nodes m levels) o) props) (suc n) os rows =
      subst (λ xs. ListsAs m.meta (role_for o within) (each_before (child_nodes m (suc d) (object_nodes m levels) o) props) (suc n) xs rows) (sym split)
      (lists_each m.meta image (role_for o within) (child_nodes m (suc d) (object_nodes m levels) o) (λ p. flat_map (order_of m levels) (parts_at m o p)) (prop_rows (object_rows levels) o) props (suc n)
      (λ p j c num. child_listed levels (suc d) o p j within (objects_listed levels) c num)
      (subst (Numbered (suc n)) split num.1)) in
      lists_object m.meta parent (object_role_of o within) d element (object_attrs m o) (inner_nodes levels o) n o os rows (role num.0)
      (lists_inside m.meta (role_for o within) d (each_before (child_nodes m (suc d) (object_nodes m levels) o) props) (suc n) os rows children)
      children.count

  -- the element of the document
  abbrev pub root_row : Item
  root_row = record { place = 0; role = Document; name = (written_tree m).name; attrs = (written_tree m).attrs; inner = (written_tree m).inner }

  pub tree_rows : ((o : ℕ) → Contains (top_numbers m) o → IsLive m o) → Numbered 0 (written_order m)
      → map bare (items m.meta externs.None (written_tree m)) ≡ root_row ∷ flat_map (λ o. object_rows MAX_DEPTH (typed_name m o) o None) (top_numbers m)
  tree_rows live num =
      let tops = lists_each m.meta image Document (top_nodes m) (order_of m MAX_DEPTH) (λ o. object_rows MAX_DEPTH (typed_name m o) o None) (top_numbers m) 0
      (λ o n c num. objects_listed MAX_DEPTH Document (typed_name m o) o None n (live o c) (top_role_is n o (live o c)) num)
      num in
      ap (λ xs. root_row ∷ xs) ((tops.listed (Run (line_end 0) Ends) (inner_place 0 (written_tree m).attrs)).1 ∙ append-nil _)
