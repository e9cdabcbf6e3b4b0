-- A tree of elements is one model, with its numbers: what each object has at each property is written, and besides it has nothing.
use Rattle.std.proofs.Common.{◌≡◌, ℕ, ◌<◌, ◌≤◌, Bool, true, false, List, [], ◌∷◌, length, map, refl, sym, ◌∙◌, ap, ap₂, subst, arith, Option, None, nat_lt}
use Rattle.std.specs.Prelude.{Contains, option_map}
use Rattle.std.proofs.lemmas.Bool.{ltb-true, ltb-false}
use Rattle.std.proofs.lemmas.List.{get_or_past}
use Rattle.object_tables.specs.Kept.{Kept}
use Rattle.object_tables.specs.Models.{ModelData, object_at, class_at, id_at, values_at, partners_at, IsLive, IsAttributeOf, IsReferenceOf}
use Rattle.object_tables.specs.Objects.{Object}
use Rattle.object_tables.specs.Sameness.{IsSame, HasSameParts}
use Rattle.object_tables.proofs.ContainmentLemmas.{live-below}
use Rattle.object_tables.proofs.EqualLaws.{models_equal}
use Rattle.object_tables.proofs.ModelLemmas.{live_from_class}
use Rattle.model_assembly.specs.Content.{Content}
use Rattle.model_assembly.specs.Source.{Source, object_count}
use Rattle.model_assembly.proofs.assembling.ListLaws.{contains_tail}
use Rattle.xmi_profile.proofs.written.OneModel.{one_content}
use Rattle.mof_metamodel.proofs.Facts.{contains_first}

-- a list whose numbers all stay
map_still : (f : ℕ → ℕ) (xs : List ℕ) → ((x : ℕ) → Contains xs x → f x ≡ x) → map f xs ≡ xs
map_still f [] still = refl
map_still f (x ∷ xs) still = ap₂ (λ (y : ℕ) (ys : List ℕ). y ∷ ys) (still x (contains_first x xs)) (map_still f xs (λ y c. still y (contains_tail x y xs c)))

-- ---- two models of one tree

module _ (s : Source) (a b : ModelData) (ca : Content s a) (cb : Content s b) (ka : Kept a) (kb : Kept b) where
  same : IsSame a b
  same = one_content s a b ca cb

  -- past the last number there is no object
  neither : (o : ℕ) → object_count s ≤ o → object_at b o ≡ object_at a o
  neither o l =
      let e = ca.count in
      let f = cb.count in
      get_or_past b.objects o None (omega (arith, f, l)) ∙ sym (get_or_past a.objects o None (omega (arith, e, l)))

  class_both : (o : ℕ) → class_at b o ≡ class_at a o
  class_both o = by (nat_lt o (object_count s)) refl
    where
      by : (t : Bool) → nat_lt o (object_count s) ≡ t → class_at b o ≡ class_at a o
      by true e = let l = ltb-true o (object_count s) e in cb.classes o l ∙ sym (ca.classes o l)
      by false e = ap (option_map (λ (x : Object). x.class)) (neither o (ltb-false o (object_count s) e))

  id_both : (o : ℕ) → id_at b o ≡ id_at a o
  id_both o = by (nat_lt o (object_count s)) refl
    where
      by : (t : Bool) → nat_lt o (object_count s) ≡ t → id_at b o ≡ id_at a o
      by true e = let l = ltb-true o (object_count s) e in cb.ids o l ∙ sym (ca.ids o l)
      by false e = ap (option_map (λ (x : Object). x.id)) (neither o (ltb-false o (object_count s) e))

  live_within : (o : ℕ) → IsLive a o → o < object_count s
  live_within o live = let l = live-below a o live in let e = ca.count in omega (arith, l, e)

  -- an object is its own image
  still : (o : ℕ) → IsLive a o → same.image o ≡ o
  still o live = let l = live_within o live in kb.identifiers (same.image o) o _ (same.identifiers o live ∙ ca.ids o l) (cb.ids o l)

  values_both : (o p : ℕ) → IsAttributeOf a o p → values_at b o p ≡ values_at a o p
  values_both o p h = subst (λ (x : ℕ). values_at b x p ≡ values_at a o p) (still o (live_from_class a o h.class h.class_is)) (same.values o p h)

  partners_both : (o p : ℕ) → IsReferenceOf a o p → partners_at b o p ≡ partners_at a o p
  partners_both o p h =
      let moved : partners_at b o p ≡ map same.image (partners_at a o p) = subst (λ (x : ℕ). partners_at b x p ≡ map same.image (partners_at a o p)) (still o (live_from_class a o h.class h.class_is)) (same.partners o p h) in
      moved ∙ map_still same.image (partners_at a o p) (λ x c. (
      let partner = (ka.references o p h).partners x c in
      still x (live_from_class a x partner.class partner.class_is)))

  same_parts : HasSameParts a b
  same_parts = record {
    meta = cb.meta ∙ sym ca.meta;
    count = cb.count ∙ sym ca.count;
    classes = class_both;
    identifiers = id_both;
    values = values_both;
    partners = partners_both;
  }

  -- a tree is one model
  pub same_content : a ≡ b
  same_content = sym (models_equal a b same_parts ka kb)
