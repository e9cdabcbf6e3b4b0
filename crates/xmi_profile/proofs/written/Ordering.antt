-- Each object of a model without cycles stands once in the order in which objects are written.
use Rattle.std.proofs.Common.{◌≡◌, ◌≢◌, ◌⊎◌, ℕ, zero, suc, ◌+◌, ◌-◌, ◌<◌, ◌≤◌, Bool, true, false, cond, List, [], ◌∷◌, length, get_or, refl, sym, ◌∙◌, ap, subst, arith, Option, None, Some, inl, inr}
use Rattle.std.specs.Prelude.{not, Contains, is_some}
use Rattle.std.specs.List.{flat_map, range_with_len}
use Rattle.std.proofs.lemmas.Bool.{not-true, true≢false}
use Rattle.object_tables.specs.declared.limit.TheConstants.{MAX_DEPTH}
use Rattle.mof_metamodel.specs.Metamodels.{prop_at, type_of, opposite_of}
use Rattle.mof_metamodel.proofs.DistinctLemmas.{IsOnce, once_nil, once_append, once_range}
use Rattle.mof_metamodel.proofs.OnceLemmas.{filter-once, props_of_once}
use Rattle.mof_metamodel.proofs.PropLemmas.{from_flat_map, to_flat_map}
use Rattle.object_tables.specs.Containment.{IsContainer, IsContainerPath, IsAcyclic, IsDepth}
use Rattle.object_tables.specs.Climbs.{LeadsTo}
use Rattle.object_tables.specs.Kept.{Kept}
use Rattle.object_tables.specs.Models.{ModelData, object_at, class_at, is_class_type, IsLive, IsTop, IsContainedIn, IsReferenceOf}
use Rattle.object_tables.specs.Validity.{IsPropertyOf}
use Rattle.object_tables.proofs.ClimbLemmas.{leads-up}
use Rattle.object_tables.proofs.ContainmentLemmas.{container-live, container-same, path-cycle}
use Rattle.object_tables.proofs.KeptLemmas.{sound_of, linked_partner}
use Rattle.object_tables.proofs.ModelLemmas.{live_from_class}
use Rattle.model_assembly.specs.declared.form.Form.{Form}
use Rattle.model_assembly.specs.declared.form.Form.TheVariants as forms
use Rattle.xmi_profile.specs.Canon.{top_numbers}
use Rattle.model_assembly.specs.Forms.{is_one, is_composite, form_of}
use Rattle.model_assembly.specs.Profile.{props_or_none, object_props, live_numbers, is_part}
use Rattle.xmi_profile.specs.WrittenOrder.{parts_by, parts_at, parts_of, order_of, written_order}
use Rattle.model_assembly.proofs.assembling.ListLaws.{contains_tail}
use Rattle.mof_metamodel.proofs.Facts.{contains_first}
use Rattle.xmi_profile.proofs.WritingModels.{filtered, property_of}
use Rattle.model_assembly.proofs.WritingParts.{part_where_contained, no_part_at_top, kept_in, numbered, known, reference_of, HasTop, climb}

-- ---- lists without repeats

once_one_more : (x : ℕ) (xs : List ℕ) → (Contains xs x → ⊥) → IsOnce xs → IsOnce (x ∷ xs)
once_one_more x xs new rest zero zero d l lj = absurd (omega (arith, l))
once_one_more x xs new rest zero (suc j) d l lj = λ same. new (j, omega (arith, lj), at_default xs j d x (omega (arith, lj)) ∙ sym same)
  where
    at_default : (ys : List ℕ) (k d e : ℕ) → k < length ys → get_or ys k e ≡ get_or ys k d
    at_default [] k d e l = absurd (omega (arith, l))
    at_default (y ∷ ys) zero d e l = refl
    at_default (y ∷ ys) (suc k) d e l = at_default ys k d e (omega (arith, l))
once_one_more x xs new rest (suc i) zero d l lj = absurd (omega (arith, l))
once_one_more x xs new rest (suc i) (suc j) d l lj = rest i j d (omega (arith, l)) (omega (arith, lj))

pub once_behind : (x : ℕ) (xs : List ℕ) → IsOnce (x ∷ xs) → IsOnce xs
once_behind x xs h i j d l lj = h (suc i) (suc j) d (omega (arith, l)) (omega (arith, lj))

pub once_first : (x y : ℕ) (xs : List ℕ) → IsOnce (x ∷ xs) → Contains xs y → x ≢ y
once_first x y xs h (k, l, e) same = h 0 (suc k) y (omega arith) (omega (arith, l)) (same ∙ sym e)

-- lists without repeats that have nothing in common
pub once_each : (f : ℕ → List ℕ) (xs : List ℕ) → IsOnce xs → ((x : ℕ) → Contains xs x → IsOnce (f x))
    → ((x y z : ℕ) → Contains xs x → Contains xs y → x ≢ y → Contains (f x) z → Contains (f y) z → ⊥) → IsOnce (flat_map f xs)
once_each f [] o h apart = once_nil
once_each f (x ∷ xs) o h apart =
    once_append (f x) (flat_map f xs) (h x (contains_first x xs))
    (once_each f xs (once_behind x xs o) (λ y c. h y (contains_tail x y xs c)) (λ y z w cy cz. apart y z w (contains_tail x y xs cy) (contains_tail x z xs cz)))
    (λ z here there.
    let (y, cy, hz) = from_flat_map f xs z there in
    apart x y z (contains_first x xs) (contains_tail x y xs cy) (once_first x y xs o cy) here hz)

module _ (m : ModelData) (k : Kept m) where
  -- ---- parts

  pub composite_parts : (p : ℕ) → form_of m.meta p ≡ forms.Parts → (prop_at m.meta p).composite ≡ true
  composite_parts p e = by (is_class_type (type_of m.meta p)) (prop_at m.meta p).composite (is_composite m.meta (opposite_of m.meta p)) (is_one (prop_at m.meta p).upper) e
    where
      by : (t c q u : Bool) → cond t (cond c forms.Parts (cond q forms.Nesting forms.Identifiers)) (cond u forms.Attribute forms.Elements) ≡ forms.Parts → c ≡ true
      by true true q u h = refl
      by true false true u h = absurd cc
      by true false false u h = absurd cc
      by false c q true h = absurd cc
      by false c q false h = absurd cc

  pub parts_composite : (p : ℕ) → is_class_type (type_of m.meta p) ≡ true → (prop_at m.meta p).composite ≡ true → form_of m.meta p ≡ forms.Parts
  parts_composite p t c =
      ap (λ (x : Bool). cond x (cond (prop_at m.meta p).composite forms.Parts (cond (is_composite m.meta (opposite_of m.meta p)) forms.Nesting forms.Identifiers)) (cond (is_one (prop_at m.meta p).upper) forms.Attribute forms.Elements)) t
      ∙ ap (λ (x : Bool). cond x forms.Parts (cond (is_composite m.meta (opposite_of m.meta p)) forms.Nesting forms.Identifiers)) c

  -- what stands among the parts is contained
  part_contained : (o p b : ℕ) → Contains (parts_at m o p) b → IsContainedIn m b o p
  part_contained o p b h = by (form_of m.meta p) refl h
    where
      by : (f : Form) → form_of m.meta p ≡ f → Contains (parts_by m o p f) b → IsContainedIn m b o p
      by forms.Parts e c = record { composite = composite_parts p e; linked = c }
      by forms.Attribute e (i, l, at) = absurd (omega (arith, l))
      by forms.Elements e (i, l, at) = absurd (omega (arith, l))
      by forms.Identifiers e (i, l, at) = absurd (omega (arith, l))
      by forms.Nesting e (i, l, at) = absurd (omega (arith, l))

  pub part_of : (o b : ℕ) → Contains (parts_of m o) b → IsContainer m b o
  part_of o b h = let (p, cp, hp) = from_flat_map (parts_at m o) (object_props m o) b h in (p, part_contained o p b hp)

  pub contained_part : (b o : ℕ) → IsContainer m b o → Contains (parts_of m o) b
  contained_part b o (p, h) =
      let r : IsReferenceOf m o p = reference_of m k b o p h in
      let has : Contains (object_props m o) p = subst (λ (c : Option ℕ). Contains (props_or_none m.meta c) p) (sym r.class_is) r.has in
      to_flat_map (parts_at m o) (object_props m o) p b has (subst (λ (f : Form). Contains (parts_by m o p f) b) (sym (parts_composite p r.reference h.composite)) h.linked)

  pub object_props_once : (o : ℕ) → IsOnce (object_props m o)
  object_props_once o = by (class_at m o)
    where
      by : (c : Option ℕ) → IsOnce (props_or_none m.meta c)
      by None = once_nil
      by (Some c) = props_of_once m.meta c

  parts_at_once : (o p : ℕ) → Contains (object_props m o) p → IsOnce (parts_at m o p)
  parts_at_once o p h = by (form_of m.meta p) refl
    where
      property : IsPropertyOf m o p
      property = property_of m k o p h

      class_typed : (t c q u : Bool) → cond t (cond c forms.Parts (cond q forms.Nesting forms.Identifiers)) (cond u forms.Attribute forms.Elements) ≡ forms.Parts → t ≡ true
      class_typed true c q u h = refl
      class_typed false c q true h = absurd cc
      class_typed false c q false h = absurd cc

      by : (f : Form) → form_of m.meta p ≡ f → IsOnce (parts_by m o p f)
      by forms.Parts e =
          let reference : is_class_type (type_of m.meta p) ≡ true =
          class_typed (is_class_type (type_of m.meta p)) (prop_at m.meta p).composite (is_composite m.meta (opposite_of m.meta p)) (is_one (prop_at m.meta p).upper) e in
          (k.references o p (record { class = property.class; class_is = property.class_is; has = property.has; reference = reference })).distinct
      by forms.Attribute e = once_nil
      by forms.Elements e = once_nil
      by forms.Identifiers e = once_nil
      by forms.Nesting e = once_nil

  parts_once : (o : ℕ) → IsOnce (parts_of m o)
  parts_once o = once_each (parts_at m o) (object_props m o) (object_props_once o) (parts_at_once o)
      (λ p q b cp cq differ hp hq. differ (k.containers b o o p q (part_contained o p b hp) (part_contained o q b hq)).1)

  -- ---- an object and what it contains

  -- what stands in the order of an object leads up to it
  below : (levels o x : ℕ) → Contains (order_of m levels o) x → LeadsTo m x o
  below zero o x (i, l, e) = absurd (omega (arith, l))
  below (suc levels) o x (zero, l, e) = ([], sym e)
  below (suc levels) o x (suc i, l, e) =
      let (b, cb, hb) = from_flat_map (order_of m levels) (parts_of m o) x (i, omega (arith, l), e) in
      leads-up m x b o (below levels b x hb) (part_of o b cb)

  -- of two objects that contain an object one contains the other, or they are the same
  chain : (x : ℕ) (path : List ℕ) (a : ℕ) (way : List ℕ) (b : ℕ) → IsContainerPath m x path a → IsContainerPath m x way b → LeadsTo m a b ⊎ LeadsTo m b a
  chain x [] a way b same w = inl (way, subst (λ z. IsContainerPath m z way b) same w)
  chain x (c ∷ path) a [] b p same = inr (c ∷ path, subst (λ z. IsContainerPath m z (c ∷ path) a) same p)
  chain x (c ∷ path) a (d ∷ way) b (first, p) (second, w) =
      chain c path a way b p (subst (λ z. IsContainerPath m z way b) (sym (container-same m x c d k first second)) w)

  -- two parts of one object don't contain each other
  siblings : (o a b : ℕ) → IsAcyclic m → IsContainer m a o → IsContainer m b o → LeadsTo m a b → a ≡ b
  siblings o a b acyclic ca cb ([], same) = same
  siblings o a b acyclic ca cb (c ∷ path, (first, rest)) =
      let same : c ≡ o = container-same m a c o k first ca in
      let up : IsContainerPath m o path b = subst (λ z. IsContainerPath m z path b) same rest in
      absurd (acyclic o (path-cycle m o path b up cb))

  top_leads : (a b : ℕ) → IsTop m a → LeadsTo m a b → a ≡ b
  top_leads a b top ([], same) = same
  top_leads a b top (c ∷ path, ((p, first), rest)) = absurd (top c p first)

  -- no object stands among those that it contains
  pub not_inside : IsAcyclic m → (levels o : ℕ) → Contains (flat_map (order_of m levels) (parts_of m o)) o → ⊥
  not_inside acyclic levels o h =
      let (b, cb, hb) = from_flat_map (order_of m levels) (parts_of m o) o h in
      let (path, up) = below levels b o hb in
      acyclic o (path-cycle m o path b up (part_of o b cb))

  order_once : IsAcyclic m → (levels o : ℕ) → IsOnce (order_of m levels o)
  order_once acyclic zero o = once_nil
  order_once acyclic (suc levels) o = once_one_more o (flat_map (order_of m levels) (parts_of m o)) (not_inside acyclic levels o)
      (once_each (order_of m levels) (parts_of m o) (parts_once o) (λ b cb. order_once acyclic levels b) apart)
    where
      apart : (a b x : ℕ) → Contains (parts_of m o) a → Contains (parts_of m o) b → a ≢ b → Contains (order_of m levels a) x → Contains (order_of m levels b) x → ⊥
      apart a b x ca cb differ ha hb =
          let (path, p) = below levels a x ha in
          let (way, w) = below levels b x hb in
          elim (chain x path a way b p w) [
            | inl up ↦ differ (siblings o a b acyclic (part_of o a ca) (part_of o b cb) up)
            | inr up ↦ differ (sym (siblings o b a acyclic (part_of o b cb) (part_of o a ca) up))
          ]

  -- ---- all objects

  pub top_of : (o : ℕ) → Contains (top_numbers m) o → IsLive m o × IsTop m o
  top_of o h =
      let found = filtered (λ x. not (is_part m x)) (live_numbers m) o h in
      let live = filtered (λ x. is_some (object_at m x)) (range_with_len 0 (length m.objects)) o found.0 in
      let none : is_part m o ≡ false = not-true (is_part m o) found.1 in (
        live.1,
        λ a p c. true≢false (sym (part_where_contained m o a p (reference_of m k o a p c) c) ∙ none),
      )

  pub order_all_once : IsAcyclic m → IsOnce (written_order m)
  order_all_once acyclic =
      once_each (order_of m MAX_DEPTH) (top_numbers m) (filter-once (λ x. not (is_part m x)) (live_numbers m) (filter-once (λ x. is_some (object_at m x)) (range_with_len 0 (length m.objects)) (once_range 0 (length m.objects))))
      (λ o c. order_once acyclic MAX_DEPTH o)
      (λ a b x ca cb differ ha hb.
      let (path, p) = below MAX_DEPTH a x ha in
      let (way, w) = below MAX_DEPTH b x hb in
      elim (chain x path a way b p w) [
        | inl up ↦ differ (top_leads a b (top_of a ca).1 up)
        | inr up ↦ differ (sym (top_leads b a (top_of b cb).1 up))
      ])

  -- what leads up to a live object is live
  pub live_part : (b o : ℕ) → IsContainer m b o → IsLive m b
  live_part b o (p, h) = let w = linked_partner m p o b (sound_of m k) h.linked in live_from_class m b w.class w.class_is

  pub order_live : (x : ℕ) → Contains (written_order m) x → IsLive m x
  order_live x h =
      let (o, co, ho) = from_flat_map (order_of m MAX_DEPTH) (top_numbers m) x h in
      let (path, up) = below MAX_DEPTH o x ho in
      by path o up (top_of o co).0
    where
      by : (path : List ℕ) (o : ℕ) → IsContainerPath m x path o → IsLive m o → IsLive m x
      by [] o same live = subst (IsLive m) (sym same) live
      by (c ∷ path) o (first, rest) live = live_part x c first

  -- ---- each object stands there

  deeper : (levels o b x : ℕ) → Contains (order_of m levels o) b → IsContainer m x b → Contains (order_of m (suc levels) o) x
  deeper zero o b x (i, l, e) c = absurd (omega (arith, l))
  deeper (suc levels) o b x (zero, l, e) c =
      contains_tail o x (flat_map (order_of m (suc levels)) (parts_of m o))
      (to_flat_map (order_of m (suc levels)) (parts_of m o) x x (contained_part x o (subst (IsContainer m x) (sym e) c)) (contains_first x (flat_map (order_of m levels) (parts_of m x))))
  deeper (suc levels) o b x (suc i, l, e) c =
      let (a, ca, ha) = from_flat_map (order_of m levels) (parts_of m o) b (i, omega (arith, l), e) in
      contains_tail o x (flat_map (order_of m (suc levels)) (parts_of m o))
      (to_flat_map (order_of m (suc levels)) (parts_of m o) a x ca (deeper levels a b x ha c))

  one_level_more : (levels o x : ℕ) → Contains (order_of m levels o) x → Contains (order_of m (suc levels) o) x
  one_level_more zero o x (i, l, e) = absurd (omega (arith, l))
  one_level_more (suc levels) o x (zero, l, e) = (0, omega arith, e)
  one_level_more (suc levels) o x (suc i, l, e) =
      let (a, ca, ha) = from_flat_map (order_of m levels) (parts_of m o) x (i, omega (arith, l), e) in
      contains_tail o x (flat_map (order_of m (suc levels)) (parts_of m o)) (to_flat_map (order_of m (suc levels)) (parts_of m o) a x ca (one_level_more levels a x ha))

  more_levels : (more levels o x : ℕ) → Contains (order_of m levels o) x → Contains (order_of m (more + levels) o) x
  more_levels zero levels o x h =
      let same : levels ≡ 0 + levels = omega arith in
      subst (λ (n : ℕ). Contains (order_of m n o) x) same h
  more_levels (suc more) levels o x h =
      let same : suc (more + levels) ≡ suc more + levels = omega arith in
      subst (λ (n : ℕ). Contains (order_of m n o) x) same (one_level_more (more + levels) o x (more_levels more levels o x h))

  reached : (path : List ℕ) (x top : ℕ) → IsContainerPath m x path top → Contains (order_of m (suc (length path)) top) x
  reached [] x top same = (0, omega arith, sym same)
  reached (b ∷ path) x top (first, rest) = deeper (suc (length path)) top b x (reached path b top rest) first

  pub top_listed : (o : ℕ) → IsLive m o → IsTop m o → Contains (top_numbers m) o
  top_listed o live top =
      let there : Contains (range_with_len 0 (length m.objects)) o = numbered (length m.objects) o (known m o live) in
      kept_in (λ x. not (is_part m x)) (live_numbers m) o (kept_in (λ x. is_some (object_at m x)) (range_with_len 0 (length m.objects)) o there live) (ap not (no_part_at_top m o top))

  pub order_has : IsAcyclic m → ((o d : ℕ) → IsLive m o → IsDepth m o d → d ≤ MAX_DEPTH) → (x : ℕ) → IsLive m x → Contains (written_order m) x
  order_has acyclic shallow x live =
      let t : HasTop m k x = climb m k acyclic (length m.objects) x x [] live refl (omega arith) in
      let deep : suc (length t.path) ≤ MAX_DEPTH = shallow x (suc (length t.path)) live (t.path, t.top, t.up, t.is_top, refl) in
      let there : Contains (order_of m (suc (length t.path)) t.top) x = reached t.path x t.top t.up in
      let all : Contains (order_of m ((MAX_DEPTH - suc (length t.path)) + suc (length t.path)) t.top) x = more_levels (MAX_DEPTH - suc (length t.path)) (suc (length t.path)) t.top x there in
      let same : (MAX_DEPTH - suc (length t.path)) + suc (length t.path) ≡ MAX_DEPTH = omega (arith, deep) in
      to_flat_map (order_of m MAX_DEPTH) (top_numbers m) t.top x (top_listed t.top (live_up t.path x t.top live t.up) t.is_top) (subst (λ (n : ℕ). Contains (order_of m n t.top) x) same all)
    where
      live_up : (path : List ℕ) (x a : ℕ) → IsLive m x → IsContainerPath m x path a → IsLive m a
      live_up [] x a live same = subst (IsLive m) same live
      live_up (b ∷ path) x a live (first, rest) = live_up path b a (container-live m x b first) rest
