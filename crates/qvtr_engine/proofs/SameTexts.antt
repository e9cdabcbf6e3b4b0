-- Models that are the same have one text in XMI: it tells nothing of the numbers of their objects (XMI 2.5.1, clause 9).
use Rattle.std.proofs.Common.{◌≡◌, ◌⊎◌, ℕ, zero, suc, ◌<◌, Bool, true, false, List, [], ◌∷◌, ◌++◌, length, map, refl, sym, ap, ap₂, ◌∙◌, subst, arith, Option, None, Some, inl, inr, Contains, flat_map, encode_utf8_all}
use mathlib.Core.Path.{path_j}
use Rattle.mof_metamodel.specs.declared.desc.MetaDesc.{MetaDesc}
use Rattle.mof_metamodel.specs.Metamodels.{props_of, type_of}
use Rattle.mof_metamodel.proofs.Facts.{nothing_in, contains_first, contains_map}
use Rattle.object_tables.specs.declared.limit.TheConstants.{MAX_DEPTH}
use Rattle.object_tables.specs.Kept.{Kept}
use Rattle.object_tables.specs.Models.{ModelData, class_at, values_at, partners_at, is_class_type, IsLive, IsAttributeOf, IsReferenceOf, IsTop}
use Rattle.object_tables.specs.Objects.{Object}
use Rattle.object_tables.specs.Sameness.{IsSame}
use Rattle.object_tables.proofs.KeptLemmas.{sound_of, linked_reference}
use Rattle.object_tables.proofs.ListLemmas.{Contains-from_map}
use Rattle.object_tables.proofs.ModelLemmas.{live_from_class}
use Rattle.xmi_text.specs.Calls.{Call, Open, Attr, Line, wrote}
use Rattle.xmi_text.specs.Writing.{nothing}
use Rattle.model_assembly.specs.declared.form.Form.{Form}
use Rattle.model_assembly.specs.declared.form.Form.TheVariants as forms
use Rattle.xmi_profile.specs.Canon.{spaced, value_attr, partners_attr, attr_by, attr_calls, tag_calls, value_element, children_by, child_calls, ended, depth_over, object_calls, top_calls, top_numbers, head, foot, canon_calls, canon_bytes}
use Rattle.model_assembly.specs.Forms.{form_of}
use Rattle.model_assembly.specs.Profile.{xmi_id, xmi_type, prop_name, id_or_none, id_text, name_or_none, class_text, props_or_none, object_props, live_numbers, is_part}
use Rattle.model_assembly.proofs.assembling.ListLaws.{in_cons, contains_tail}
use Rattle.xmi_profile.proofs.written.Known.{partner_live}
use Rattle.xmi_profile.proofs.written.Ordering.{top_of, top_listed}
use Rattle.xmi_profile.proofs.written.Reordered.{Rising, rising_filter, range_rises}
use Rattle.std.specs.Prelude.{is_some, not}
use Rattle.std.specs.List.{range_with_len}
use Rattle.object_tables.specs.Models.{object_at}

-- ---- lists

map_twice : {X Y Z : Type 0} (f : Y → Z) (g : X → Y) (xs : List X) → map f (map g xs) ≡ map (λ x. f (g x)) xs
map_twice f g [] = refl
map_twice {Z = Z} f g (x ∷ xs) = ap (λ (zs : List Z). f (g x) ∷ zs) (map_twice f g xs)

map_alike : {X Y : Type 0} (f g : X → Y) (xs : List X) → ((x : X) → Contains xs x → f x ≡ g x) → map f xs ≡ map g xs
map_alike f g [] h = refl
map_alike {Y = Y} f g (x ∷ xs) h = ap₂ (λ (y : Y) (ys : List Y). y ∷ ys) (h x (contains_first x xs)) (map_alike f g xs (λ z c. h z (contains_tail x z xs c)))

flat_alike : {X Y : Type 0} (f g : X → List Y) (xs : List X) → ((x : X) → Contains xs x → f x ≡ g x) → flat_map f xs ≡ flat_map g xs
flat_alike f g [] h = refl
flat_alike {Y = Y} f g (x ∷ xs) h = ap₂ (λ (a b : List Y). a ++ b) (h x (contains_first x xs)) (flat_alike f g xs (λ z c. h z (contains_tail x z xs c)))

flat_mapped : {X Z Y : Type 0} (f : Z → List Y) (image : X → Z) (xs : List X) → flat_map f (map image xs) ≡ flat_map (λ x. f (image x)) xs
flat_mapped f image [] = refl
flat_mapped {Y = Y} f image (x ∷ xs) = ap (λ (b : List Y). f (image x) ++ b) (flat_mapped f image xs)

rising_mapped : (f : ℕ → ℕ) (xs : List ℕ) → Rising xs → ((a b : ℕ) → Contains xs a → Contains xs b → a < b → f a < f b) → Rising (map f xs)
rising_mapped f [] r h = tt
rising_mapped f (x ∷ xs) r h = (
  λ y c.
      let (z, cz, e) = Contains-from_map f xs y c in
      subst (λ t. f x < t) e (h x z (contains_first x xs) (contains_tail x z xs cz) (r.0 z cz)),
  rising_mapped f xs r.1 (λ a b ca cb l. h a b (contains_tail x a xs ca) (contains_tail x b xs cb) l),
)

-- two lists that rise and have the same numbers are one
same_rising : (xs ys : List ℕ) → Rising xs → Rising ys → ((x : ℕ) → Contains xs x → Contains ys x) → ((y : ℕ) → Contains ys y → Contains xs y) → xs ≡ ys
same_rising [] [] r s there back = refl
same_rising [] (y ∷ ys) r s there back = absurd (nothing_in y (back y (contains_first y ys)))
same_rising (x ∷ xs) [] r s there back = absurd (nothing_in x (there x (contains_first x xs)))
same_rising (x ∷ xs) (y ∷ ys) r s there back =
    ap₂ (λ (z : ℕ) (zs : List ℕ). z ∷ zs) first (same_rising xs ys r.1 s.1 (λ z c. on z c (in_cons y ys z (there z (contains_tail x z xs c)))) (λ z c. off z c (in_cons x xs z (back z (contains_tail y z ys c)))))
  where
    least : (x ≡ y) ⊎ Contains xs y → (y ≡ x) ⊎ Contains ys x → x ≡ y
    least (inl e) h = e
    least (inr c) (inl e) = sym e
    least (inr c) (inr d) = let less = r.0 y c in let more = s.0 x d in absurd (omega (arith, less, more))

    first : x ≡ y
    first = least (in_cons x xs y (back y (contains_first y ys))) (in_cons y ys x (there x (contains_first x xs)))

    on : (z : ℕ) → Contains xs z → (y ≡ z) ⊎ Contains ys z → Contains ys z
    on z c (inl e) = let less = r.0 z c in absurd (omega (arith, less, first, e))
    on z c (inr d) = d

    off : (z : ℕ) → Contains ys z → (x ≡ z) ⊎ Contains xs z → Contains xs z
    off z c (inl e) = let less = s.0 z c in absurd (omega (arith, less, first, e))
    off z c (inr d) = d

-- ---- the objects of two models of one metamodel that are the same

module _ (m : ModelData) (objects : List (Option Object)) where
  abbrev k : ModelData
  k = record { meta = m.meta; objects = objects }

  module _ (s : IsSame m k) (km : Kept m) (kk : Kept k) where
    class_same : (o : ℕ) → IsLive m o → class_text k (s.image o) ≡ class_text m o
    class_same o live = ap (name_or_none m.meta) (s.classes o live)

    id_same : (o : ℕ) → IsLive m o → id_text k (s.image o) ≡ id_text m o
    id_same o live = ap id_or_none (s.identifiers o live)

    props_same : (o : ℕ) → IsLive m o → object_props k (s.image o) ≡ object_props m o
    props_same o live = ap (props_or_none m.meta) (s.classes o live)

    -- a property of an object is an attribute or a reference
    kind_of : (o p : ℕ) → Contains (object_props m o) p → IsAttributeOf m o p ⊎ IsReferenceOf m o p
    kind_of o p has = by (class_at m o) refl has
      where
        by_type : (c : ℕ) → class_at m o ≡ Some c → Contains (props_of m.meta c) p → (t : Bool) → is_class_type (type_of m.meta p) ≡ t → IsAttributeOf m o p ⊎ IsReferenceOf m o p
        by_type c e h true t = inr (record { class = c; class_is = e; has = h; reference = t })
        by_type c e h false t = inl (record { class = c; class_is = e; has = h; attribute = t })

        by : (x : Option ℕ) → class_at m o ≡ x → Contains (props_or_none m.meta x) p → IsAttributeOf m o p ⊎ IsReferenceOf m o p
        by None e h = absurd (nothing_in p h)
        by (Some c) e h = by_type c e h (is_class_type (type_of m.meta p)) refl

    attribute_there : (o p : ℕ) → IsAttributeOf m o p → IsAttributeOf k (s.image o) p
    attribute_there o p a = record { class = a.class; class_is = s.classes o (live_from_class m o a.class a.class_is) ∙ a.class_is; has = a.has; attribute = a.attribute }

    reference_there : (o p : ℕ) → IsReferenceOf m o p → IsReferenceOf k (s.image o) p
    reference_there o p a = record { class = a.class; class_is = s.classes o (live_from_class m o a.class a.class_is) ∙ a.class_is; has = a.has; reference = a.reference }

    reference_back : (o p : ℕ) → IsReferenceOf k o p → IsReferenceOf m (s.origin o) p
    reference_back o p a =
        let live : IsLive k o = live_from_class k o a.class a.class_is in
        record {
          class = a.class;
          class_is = sym (s.classes (s.origin o) (s.bijection.covered o live)) ∙ ap (class_at k) (s.bijection.there o live) ∙ a.class_is;
          has = a.has;
          reference = a.reference;
        }

    values_same : (o p : ℕ) → Contains (object_props m o) p → values_at k (s.image o) p ≡ values_at m o p
    values_same o p has = elim (kind_of o p has) [
      | inl a ↦ s.values o p a
      | inr r ↦ (kk.references (s.image o) p (reference_there o p r)).values ∙ sym (km.references o p r).values
    ]

    partners_same : (o p : ℕ) → Contains (object_props m o) p → partners_at k (s.image o) p ≡ map s.image (partners_at m o p)
    partners_same o p has = elim (kind_of o p has) [
      | inl a ↦ (kk.attributes (s.image o) p (attribute_there o p a)).partners ∙ sym (ap (map s.image) (km.attributes o p a).partners)
      | inr r ↦ s.partners o p r
    ]

    -- ---- their start tags

    partners_written : (p : ℕ) (bs : List ℕ) → ((b : ℕ) → Contains bs b → IsLive m b) → partners_attr k p (map s.image bs) ≡ partners_attr m p bs
    partners_written p [] h = refl
    partners_written p (b ∷ bs) h =
        ap (λ (ts : List (List ℕ)). Attr (prop_name m.meta p) (spaced ts) ∷ [])
        (map_twice (id_text k) s.image (b ∷ bs) ∙ map_alike (λ x. id_text k (s.image x)) (id_text m) (b ∷ bs) (λ x c. id_same x (h x c)))

    attr_same : (o p : ℕ) → Contains (object_props m o) p → attr_calls k (s.image o) p ≡ attr_calls m o p
    attr_same o p has = by (form_of m.meta p)
      where
        by : (f : Form) → attr_by k (s.image o) p f ≡ attr_by m o p f
        by forms.Attribute = ap (value_attr m.meta p) (values_same o p has)
        by forms.Identifiers = ap (partners_attr k p) (partners_same o p has) ∙ partners_written p (partners_at m o p) (λ b c. partner_live m km o p b c)
        by forms.Elements = refl
        by forms.Parts = refl
        by forms.Nesting = refl

    attrs_same : (o : ℕ) → IsLive m o → flat_map (attr_calls k (s.image o)) (object_props k (s.image o)) ≡ flat_map (attr_calls m o) (object_props m o)
    attrs_same o live =
        ap (flat_map (attr_calls k (s.image o))) (props_same o live) ∙ flat_alike (attr_calls k (s.image o)) (attr_calls m o) (object_props m o) (λ p has. attr_same o p has)

    tag_same : (element : List ℕ) (o : ℕ) → IsLive m o → tag_calls k element (s.image o) ≡ tag_calls m element o
    tag_same element o live =
        let id : id_text k (s.image o) ≡ id_text m o = id_same o live in
        let class : class_text k (s.image o) ≡ class_text m o = class_same o live in
        let attrs : flat_map (attr_calls k (s.image o)) (object_props k (s.image o)) ≡ flat_map (attr_calls m o) (object_props m o) = attrs_same o live in
        λ i. Open element ∷ Attr xmi_id (id i) ∷ Attr xmi_type (109 ∷ 58 ∷ class i) ∷ attrs i

    -- ---- their elements

    module _ (depth : ℕ) (part other : List ℕ → ℕ → List Call) (same : (name : List ℕ) (b : ℕ) → IsLive m b → part name (s.image b) ≡ other name b) where
      child_same : (o p : ℕ) → Contains (object_props m o) p → child_calls k depth part (s.image o) p ≡ child_calls m depth other o p
      child_same o p has = by (form_of m.meta p)
        where
          by : (f : Form) → children_by k depth part (s.image o) p f ≡ children_by m depth other o p f
          by forms.Elements = ap (flat_map (value_element m.meta depth p)) (values_same o p has)
          by forms.Parts =
              ap (flat_map (part (prop_name m.meta p))) (partners_same o p has) ∙ flat_mapped (part (prop_name m.meta p)) s.image (partners_at m o p)
              ∙ flat_alike (λ b. part (prop_name m.meta p) (s.image b)) (other (prop_name m.meta p)) (partners_at m o p)
              (λ b c. same (prop_name m.meta p) b (partner_live m km o p b c))
          by forms.Attribute = refl
          by forms.Identifiers = refl
          by forms.Nesting = refl

      children_same : (o : ℕ) → IsLive m o
          → flat_map (child_calls k depth part (s.image o)) (object_props k (s.image o)) ≡ flat_map (child_calls m depth other o) (object_props m o)
      children_same o live =
          ap (flat_map (child_calls k depth part (s.image o))) (props_same o live)
          ∙ flat_alike (child_calls k depth part (s.image o)) (child_calls m depth other o) (object_props m o) (λ p has. child_same o p has)

    calls_same : (levels : ℕ) (element : List ℕ) (o : ℕ) → IsLive m o → object_calls k levels element (s.image o) ≡ object_calls m levels element o
    calls_same zero element o live = refl
    calls_same (suc levels) element o live =
        let tag : tag_calls k element (s.image o) ≡ tag_calls m element o = tag_same element o live in
        let children : flat_map (child_calls k (suc (depth_over levels)) (object_calls k levels) (s.image o)) (object_props k (s.image o))
        ≡ flat_map (child_calls m (suc (depth_over levels)) (object_calls m levels) o) (object_props m o) =
        children_same (suc (depth_over levels)) (object_calls k levels) (object_calls m levels) (λ name b lb. calls_same levels name b lb) o live in
        λ i. Line (depth_over levels) ∷ (tag i ++ ended (depth_over levels) (children i))

    top_same : (o : ℕ) → IsLive m o → top_calls k (s.image o) ≡ top_calls m o
    top_same o live =
        ap (λ (t : List ℕ). object_calls k MAX_DEPTH (109 ∷ 58 ∷ t) (s.image o)) (class_same o live) ∙ calls_same MAX_DEPTH (109 ∷ 58 ∷ class_text m o) o live

    -- ---- what nothing contains

    top_there : (a : ℕ) → IsLive m a → IsTop m a → IsTop k (s.image a)
    top_there a live top x p h =
        let r : IsReferenceOf k x p = linked_reference k p x (s.image a) (sound_of k kk) h.linked in
        let lx : IsLive k x = live_from_class k x r.class r.class_is in
        let o : ℕ = s.origin x in
        let there : partners_at k x p ≡ map s.image (partners_at m o p) = ap (λ z. partners_at k z p) (sym (s.bijection.there x lx)) ∙ s.partners o p (reference_back x p r) in
        let (b, cb, eb) = Contains-from_map s.image (partners_at m o p) (s.image a) (subst (λ (xs : List ℕ). Contains xs (s.image a)) there h.linked) in
        let lb : IsLive m b = partner_live m km o p b cb in
        let same : b ≡ a = sym (s.bijection.back b lb) ∙ ap s.origin eb ∙ s.bijection.back a live in
        top o p (record { composite = h.composite; linked = subst (Contains (partners_at m o p)) same cb })

    top_back : (a : ℕ) → IsLive m a → IsTop k (s.image a) → IsTop m a
    top_back a live top x p h =
        let r : IsReferenceOf m x p = linked_reference m p x a (sound_of m km) h.linked in
        top (s.image x) p
        (record { composite = h.composite; linked = subst (λ (xs : List ℕ). Contains xs (s.image a)) (sym (s.partners x p r)) (contains_map s.image (partners_at m x p) a h.linked) })

    tops_rise : (n : ModelData) → Rising (top_numbers n)
    tops_rise n = rising_filter (λ o. not (is_part n o)) (live_numbers n) (rising_filter (λ o. is_some (object_at n o)) (range_with_len 0 (length n.objects)) (range_rises (length n.objects)))

    tops_same : top_numbers k ≡ map s.image (top_numbers m)
    tops_same =
        same_rising (top_numbers k) (map s.image (top_numbers m)) (tops_rise k)
        (rising_mapped s.image (top_numbers m) (tops_rise m) (λ a b ca cb l. let ta = top_of m km a ca in let tb = top_of m km b cb in s.tops a b ta.0 ta.1 tb.0 tb.1 l))
        (λ q c.
        let tq = top_of k kk q c in
        let at : s.image (s.origin q) ≡ q = s.bijection.there q tq.0 in
        let live : IsLive m (s.origin q) = s.bijection.covered q tq.0 in
        subst (Contains (map s.image (top_numbers m))) at
        (contains_map s.image (top_numbers m) (s.origin q) (top_listed m km (s.origin q) live (top_back (s.origin q) live (subst (IsTop k) (sym at) tq.1)))))
        (λ q c.
        let (o, co, e) = Contains-from_map s.image (top_numbers m) q c in
        let to = top_of m km o co in
        subst (Contains (top_numbers k)) e (top_listed k kk (s.image o) (s.bijection.live o to.0) (top_there o to.0 to.1)))

    all_same : canon_calls k ≡ canon_calls m
    all_same =
        ap (λ (tops : List Call). head m.meta ++ (tops ++ foot))
        (ap (flat_map (top_calls k)) tops_same ∙ flat_mapped (top_calls k) s.image (top_numbers m)
        ∙ flat_alike (λ o. top_calls k (s.image o)) (top_calls m) (top_numbers m) (λ o c. top_same o (top_of m km o c).0))

    bytes_same : canon_bytes k ≡ canon_bytes m
    bytes_same = ap (λ (calls : List Call). encode_utf8_all (wrote nothing calls).text) all_same

-- the same of models whose metamodels are equal
abbrev HasText : ModelData → MetaDesc → Type 0
HasText m meta = (objects : List (Option Object)) → IsSame m (record { meta = meta; objects = objects }) → Kept m → Kept (record { meta = meta; objects = objects })
    → canon_bytes (record { meta = meta; objects = objects }) ≡ canon_bytes m

with_meta : (m : ModelData) (meta : MetaDesc) → m.meta ≡ meta → HasText m meta
with_meta m meta e = path_j (λ (d : MetaDesc) (q : m.meta ≡ d). HasText m d) (λ objects s km kk. bytes_same m objects s km kk) e

pub same_bytes : (m k : ModelData) → Kept m → Kept k → IsSame m k → canon_bytes k ≡ canon_bytes m
same_bytes m k km kk s = with_meta m k.meta (sym s.meta) k.objects s km kk
