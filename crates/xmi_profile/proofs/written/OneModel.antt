-- A tree of elements is one model, up to the numbers of objects, and bytes are; and where one model of a tree is valid, each is.
use Rattle.std.proofs.Common.{◌≡◌, ℕ, ◌<◌, Bool, true, false, List, [], ◌∷◌, length, map, refl, sym, ◌∙◌, ap, subst, arith, inl, inr}
use Rattle.std.specs.Prelude.{Contains}
use Rattle.mof_metamodel.specs.declared.desc.MetaDesc.{MetaDesc}
use Rattle.std.proofs.lemmas.Bool.{cond-true, cond-false}
use Rattle.mof_metamodel.specs.Metamodels.{props_of, prop_at, type_of}
use Rattle.object_tables.specs.Containment.{IsContainerPath, IsOnCycle, IsDepth}
use Rattle.object_tables.specs.Kept.{Kept}
use Rattle.object_tables.specs.Models.{ModelData, class_at, id_at, values_at, partners_at, is_class_type, IsLive, IsAttributeOf, IsReferenceOf, IsContainedIn}
use Rattle.object_tables.specs.Sameness.{IsSame}
use Rattle.object_tables.specs.Validity.{Valid, IsPropertyOf, count_at, KeepsBounds}
use Rattle.object_tables.proofs.ContainmentLemmas.{live-below}
use Rattle.object_tables.proofs.KeptLemmas.{sound_of, linked_reference}
use Rattle.object_tables.proofs.ModelLemmas.{live_class, live_from_class}
use Rattle.xmi_text.specs.Trees.{Tree}
use Rattle.xmi_text.proofs.forward.Spelled.{markup_spelled}
use Rattle.xmi_text.proofs.reading.Staying.{one_spelled}
use Rattle.model_assembly.specs.declared.fault.Externs.{Externs}
use Rattle.model_assembly.specs.Content.{Content}
use Rattle.model_assembly.specs.Links.{speaks, HasLinks}
use Rattle.xmi_profile.specs.Reads.{Spells, source_of}
use Rattle.model_assembly.specs.Source.{Source, object_count}
use Rattle.model_assembly.proofs.assembling.ListLaws.{in_cons, contains_tail}
use Rattle.mof_metamodel.proofs.Facts.{nothing_in}
use Rattle.mof_metamodel.proofs.Facts.{contains_first}
use Rattle.xmi_profile.proofs.written.Reordered.{Rising, rising_all}

-- ---- lists that rise

-- of two lists that rise and have the same numbers the first numbers are one
first_same : (x : ℕ) (xs : List ℕ) (y : ℕ) (ys : List ℕ) → Rising (x ∷ xs) → Rising (y ∷ ys) → Contains (y ∷ ys) x → Contains (x ∷ xs) y → x ≡ y
first_same x xs y ys rx ry cx cy = elim (in_cons y ys x cx) [
  | inl same ↦ sym same
  | inr behind ↦ (elim (in_cons x xs y cy) [
    | inl same ↦ same
    | inr after ↦ (let less = ry.0 x behind in let more = rx.0 y after in absurd (omega (arith, less, more)))
  ])
]

tail_in : (x : ℕ) (xs : List ℕ) (y : ℕ) (ys : List ℕ) → Rising (x ∷ xs) → x ≡ y → ((b : ℕ) → Contains (x ∷ xs) b → Contains (y ∷ ys) b) → (b : ℕ) → Contains xs b → Contains ys b
tail_in x xs y ys rx e h b c = elim (in_cons y ys b (h b (contains_tail x b xs c))) [
  | inl same ↦ (let less = rx.0 b c in absurd (omega (arith, less, e, same)))
  | inr there ↦ there
]

rising_same : (xs ys : List ℕ) → Rising xs → Rising ys → ((b : ℕ) → Contains xs b → Contains ys b) → ((b : ℕ) → Contains ys b → Contains xs b) → xs ≡ ys
rising_same [] [] rx ry h g = refl
rising_same [] (y ∷ ys) rx ry h g = absurd (nothing_in y (g y (contains_first y ys)))
rising_same (x ∷ xs) [] rx ry h g = absurd (nothing_in x (h x (contains_first x xs)))
rising_same (x ∷ xs) (y ∷ ys) rx ry h g =
    let same : x ≡ y = first_same x xs y ys rx ry (h x (contains_first x xs)) (g y (contains_first y ys)) in
    ap (λ z. z ∷ xs) same ∙ ap (λ zs. y ∷ zs) (rising_same xs ys rx.1 ry.1 (tail_in x xs y ys rx same h) (tail_in y ys x xs ry (sym same) g))

map_same : (xs : List ℕ) → xs ≡ map (λ x. x) xs
map_same [] = refl
map_same (x ∷ xs) = ap (λ ys. x ∷ ys) (map_same xs)

-- ---- two models of one tree

module _ (s : Source) (a b : ModelData) (ca : Content s a) (cb : Content s b) where
  metas : b.meta ≡ a.meta
  metas = cb.meta ∙ sym ca.meta

  within : (o : ℕ) → IsLive a o → o < object_count s
  within o live = let l = live-below a o live in let count = ca.count in omega (arith, l, count)

  class_same : (o : ℕ) → IsLive a o → class_at b o ≡ class_at a o
  class_same o live = let l = within o live in cb.classes o l ∙ sym (ca.classes o l)

  id_same : (o : ℕ) → IsLive a o → id_at b o ≡ id_at a o
  id_same o live = let l = within o live in cb.ids o l ∙ sym (ca.ids o l)

  pub live_too : (o : ℕ) → IsLive a o → IsLive b o
  live_too o live = let (c, e) = live_class a o live in live_from_class b o c (class_same o live ∙ e)

  attribute_too : (o p : ℕ) → IsAttributeOf a o p → IsAttributeOf b o p
  attribute_too o p h = record {
    class = h.class;
    class_is = class_same o (live_from_class a o h.class h.class_is) ∙ h.class_is;
    has = subst (λ (d : MetaDesc). Contains (props_of d h.class) p) (sym metas) h.has;
    attribute = subst (λ (d : MetaDesc). is_class_type (type_of d p) ≡ false) (sym metas) h.attribute;
  }

  reference_too : (o p : ℕ) → IsReferenceOf a o p → IsReferenceOf b o p
  reference_too o p h = record {
    class = h.class;
    class_is = class_same o (live_from_class a o h.class h.class_is) ∙ h.class_is;
    has = subst (λ (d : MetaDesc). Contains (props_of d h.class) p) (sym metas) h.has;
    reference = subst (λ (d : MetaDesc). is_class_type (type_of d p) ≡ true) (sym metas) h.reference;
  }

  partners_same : (o p : ℕ) → IsReferenceOf a o p → partners_at b o p ≡ partners_at a o p
  partners_same o p r = by (speaks s o p) refl
    where
      la : HasLinks s a o p
      la = ca.references o p r

      lb : HasLinks s b o p
      lb = cb.references o p (reference_too o p r)

      by : (t : Bool) → speaks s o p ≡ t → partners_at b o p ≡ partners_at a o p
      by true e = lb.order.0 e ∙ sym (la.order.0 e)
      by false e = rising_same (partners_at b o p) (partners_at a o p) (rising_all (partners_at b o p) (lb.order.1 e)) (rising_all (partners_at a o p) (la.order.1 e))
          (λ x h. la.all x (lb.only x h)) (λ x h. lb.all x (la.only x h))

-- a tree is one model
pub one_content : (s : Source) (a b : ModelData) → Content s a → Content s b → IsSame a b
one_content s a b ca cb = record {
  meta = metas s a b ca cb;
  image = λ o. o;
  origin = λ o. o;
  bijection = record { live = live_too s a b ca cb; covered = live_too s b a cb ca; back = λ o l. refl; there = λ o l. refl };
  classes = class_same s a b ca cb;
  identifiers = id_same s a b ca cb;
  values = λ o p h. cb.attributes o p (attribute_too s a b ca cb o p h) ∙ sym (ca.attributes o p h);
  partners = λ o p r. partners_same s a b ca cb o p r ∙ map_same (partners_at a o p);
  tops = λ x y lx tx ly ty less. less;
}

-- bytes are one model
pub one_spelled_model : (meta : MetaDesc) (outside : Externs) (bytes : List ℕ) (a b : ModelData) → Spells meta outside bytes a → Spells meta outside bytes b → IsSame a b
one_spelled_model meta outside bytes a b x y =
    let same : x.tree ≡ y.tree = one_spelled bytes x.tree y.tree (markup_spelled bytes x.tree x.markup) (markup_spelled bytes y.tree y.markup) in
    one_content (source_of meta outside x.tree) a b x.model.content (subst (λ (t : Tree). Content (source_of meta outside t) b) (sym same) y.model.content)

-- ---- validity and depths of models of one tree

module _ (s : Source) (a b : ModelData) (ca : Content s a) (cb : Content s b) (kb : Kept b) where
  contained_too : (o x p : ℕ) → IsContainedIn b o x p → IsContainedIn a o x p
  contained_too o x p h = record {
    composite = subst (λ (d : MetaDesc). (prop_at d p).composite ≡ true) (metas s a b ca cb) h.composite;
    linked = subst (λ (ys : List ℕ). Contains ys o) (sym (partners_same s b a cb ca x p (linked_reference b p x o (sound_of b kb) h.linked))) h.linked;
  }

  path_too : (o : ℕ) (path : List ℕ) (x : ℕ) → IsContainerPath b o path x → IsContainerPath a o path x
  path_too o [] x same = same
  path_too o (y ∷ path) x ((p, first), rest) = ((p, contained_too o y p first), path_too y path x rest)

  property_too : (o p : ℕ) → IsPropertyOf b o p → IsPropertyOf a o p
  property_too o p r = record {
    class = r.class;
    class_is = class_same s b a cb ca o (live_from_class b o r.class r.class_is) ∙ r.class_is;
    has = subst (λ (d : MetaDesc). Contains (props_of d r.class) p) (metas s a b ca cb) r.has;
  }

  count_same : (o p : ℕ) → IsPropertyOf b o p → count_at b o p ≡ count_at a o p
  count_same o p r = by (is_class_type (type_of b.meta p)) refl
    where
      by : (t : Bool) → is_class_type (type_of b.meta p) ≡ t → count_at b o p ≡ count_at a o p
      by true e =
          let h : IsReferenceOf b o p = record { class = r.class; class_is = r.class_is; has = r.has; reference = e } in
          cond-true (is_class_type (type_of b.meta p)) (length (partners_at b o p)) (length (values_at b o p)) e
          ∙ ap length (sym (partners_same s b a cb ca o p h))
          ∙ sym (cond-true (is_class_type (type_of a.meta p)) (length (partners_at a o p)) (length (values_at a o p)) (reference_too s b a cb ca o p h).reference)
      by false e =
          let h : IsAttributeOf b o p = record { class = r.class; class_is = r.class_is; has = r.has; attribute = e } in
          let g : IsAttributeOf a o p = attribute_too s b a cb ca o p h in
          cond-false (is_class_type (type_of b.meta p)) (length (partners_at b o p)) (length (values_at b o p)) e
          ∙ ap length (cb.attributes o p h ∙ sym (ca.attributes o p g))
          ∙ sym (cond-false (is_class_type (type_of a.meta p)) (length (partners_at a o p)) (length (values_at a o p)) g.attribute)

  bounds_too : Valid a → (o p : ℕ) → KeepsBounds b o p
  bounds_too v o p = record {
    lower = λ few. (v.bounds o p).lower (record {
      property = property_too o p few.property;
      below = subst (λ (d : MetaDesc). count_at a o p < (prop_at d p).lower) (metas s a b ca cb) (subst (λ (n : ℕ). n < (prop_at b.meta p).lower) (count_same o p few.property) few.below);
    });
    upper = λ many. (v.bounds o p).upper (record {
      property = property_too o p many.property;
      bound = many.bound;
      bound_is = ap (λ (d : MetaDesc). (prop_at d p).upper) (metas s b a cb ca) ∙ many.bound_is;
      above = subst (λ (n : ℕ). many.bound < n) (count_same o p many.property) many.above;
    });
  }

  cycle_too : (o : ℕ) → IsOnCycle b o → IsOnCycle a o
  cycle_too o (x, path, (p, first), rest) = (x, path, (p, contained_too o x p first), path_too x path o rest)

  pub valid_too : Valid a → Valid b
  valid_too v = record { kept = kb; bounds = bounds_too v; acyclic = λ o c. v.acyclic o (cycle_too o c) }

pub depth_too : (s : Source) (a b : ModelData) → Content s a → Content s b → Kept a → Kept b → (o d : ℕ) → IsDepth b o d → IsDepth a o d
depth_too s a b ca cb ka kb o d (path, top, up, is_top, e) =
    (path, top, path_too s a b ca cb kb o path top up, (λ x p h. is_top x p (contained_too s b a cb ca ka top x p h)), e)
