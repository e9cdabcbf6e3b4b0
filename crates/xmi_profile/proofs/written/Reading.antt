-- What is written of a model is read as the same model.
use Rattle.std.proofs.Common.{◌≡◌, ◌≢◌, ℕ, zero, suc, ◌+◌, ◌<◌, ◌≤◌, Bool, true, false, cond, List, [], ◌∷◌, length, get_or, refl, sym, ◌∙◌, ap, subst, arith, Option, None, Some, inl, inr}
use Rattle.std.specs.Prelude.{Contains, filter, count_by, is_some}
use Rattle.std.specs.List.{range_with_len}
use Rattle.std.proofs.lemmas.List.{length-map}
use Rattle.std.proofs.lemmas.List.Sums.{sum_by-cons}
use Rattle.mof_metamodel.specs.declared.desc.MetaDesc.{MetaDesc}
use Rattle.object_tables.specs.declared.limit.TheConstants.{MAX_DEPTH, MAX_OBJECTS}
use Rattle.mof_metamodel.proofs.DistinctLemmas.{IsOnce}
use Rattle.object_tables.specs.Containment.{IsDepth}
use Rattle.object_tables.specs.Models.{ModelData, object_at, class_at, id_at, values_at, live_count, IsLive}
use Rattle.object_tables.specs.Objects.{Object}
use Rattle.object_tables.specs.Sameness.{IsSame}
use Rattle.object_tables.specs.Validity.{Valid}
use Rattle.object_tables.proofs.ModelLemmas.{live_from_class}
use Rattle.object_tables.proofs.SamenessLemmas.{same_back, same_through}
use Rattle.model_assembly.specs.declared.fault.Externs.TheVariants as externs
use Rattle.xmi_profile.specs.Canon.{canon_bytes}
use Rattle.model_assembly.specs.Content.{Content, written_values}
use Rattle.model_assembly.specs.Held.{IsHeldModel, MayBeWritten}
use Rattle.model_assembly.specs.Links.{HasLinks}
use Rattle.model_assembly.specs.Profile.{live_numbers}
use Rattle.xmi_profile.specs.Reads.{Spells}
use Rattle.model_assembly.specs.Source.{Source, object_count, class_of, id_of}
use Rattle.xmi_profile.specs.WrittenOrder.{written_order}
use Rattle.xmi_profile.specs.WrittenTree.{written_tree}
use Rattle.xmi_profile.proofs.written.OneModel.{one_spelled_model}
use Rattle.model_assembly.proofs.assembling.ListLaws.{in_cons, contains_tail}
use Rattle.mof_metamodel.proofs.Facts.{contains_first}
use Rattle.model_assembly.proofs.WritingParts.{kept_in, numbered, known}
use Rattle.xmi_profile.proofs.written.Faultless.{faultless}
use Rattle.xmi_profile.proofs.written.Linking.{id_known, links_are}
use Rattle.xmi_profile.proofs.written.Documents.{canon_markup}
use Rattle.xmi_profile.proofs.written.Renumbering.{image, origin, renumbered, there, origin_live, image_origin, live_back, class_there, id_there, values_there, attribute_back, reference_back, same_model, valid_there, depth_there}
use Rattle.xmi_profile.proofs.written.Ordering.{once_behind, once_first, order_all_once, order_live}
use Rattle.xmi_profile.proofs.written.Sources.{source, count_is, class_of_is, id_of_is}
use Rattle.xmi_profile.proofs.written.Texts.{values_are}

-- ---- how many objects there are

-- a list without one item
record IsWithout (x : ℕ) (ys : List ℕ) : Type 0 where
  rest : List ℕ
  count : length ys ≡ suc (length rest)
  others : (y : ℕ) → Contains ys y → y ≢ x → Contains rest y

without : (x : ℕ) (ys : List ℕ) → Contains ys x → IsWithout x ys
without x [] (i, l, e) = absurd (omega (arith, l))
without x (y ∷ ys) (zero, l, e) = record {
  rest = ys;
  count = refl;
  others = λ z c differs. elim (in_cons y ys z c) [ inl same ↦ absurd (differs (sym same ∙ e)) | inr later ↦ later ];
}
without x (y ∷ ys) (suc i, l, e) =
    let w : IsWithout x ys = without x ys (i, omega (arith, l), e) in
    record {
      rest = y ∷ w.rest;
      count = ap suc w.count;
      others = λ z c differs. elim (in_cons y ys z c) [
        | inl same ↦ subst (Contains (y ∷ w.rest)) same (contains_first y w.rest)
        | inr later ↦ contains_tail y z w.rest (w.others z later differs)
      ];
    }

once_within : (xs ys : List ℕ) → IsOnce xs → ((x : ℕ) → Contains xs x → Contains ys x) → length xs ≤ length ys
once_within [] ys once h = omega arith
once_within (x ∷ xs) ys once h =
    let w : IsWithout x ys = without x ys (h x (contains_first x xs)) in
    let less = once_within xs w.rest (once_behind x xs once) (λ y c. w.others y (h y (contains_tail x y xs c)) (λ same. once_first x y xs once c (sym same))) in
    let count = w.count in
    omega (arith, less, count)

counted : (h : ℕ → Bool) (a : ℕ) (xs : List (Option Object)) → ((i : ℕ) → i < length xs → h (a + i) ≡ is_some (get_or xs i None)) → length (filter h (range_with_len a (length xs))) ≡ count_by is_some xs
counted h a [] e = refl
counted h a (x ∷ xs) e =
    let first : h (a + 0) ≡ is_some x = e 0 (omega arith) in
    let zero_more : a + 0 ≡ a = omega arith in
    let here : h a ≡ is_some x = ap h (sym zero_more) ∙ first in
    by (h a) (is_some x) here
    (counted h (a + 1) xs (λ i l. let next : a + 1 + i ≡ a + suc i = omega arith in ap h next ∙ e (suc i) (omega (arith, l))))
    ∙ sym (sum_by-cons (λ y. cond (is_some y) 1 0) x xs)
  where
    by : (s t : Bool) → s ≡ t → length (filter h (range_with_len (a + 1) (length xs))) ≡ count_by is_some xs
        → length (cond s (a ∷ filter h (range_with_len (a + 1) (length xs))) (filter h (range_with_len (a + 1) (length xs)))) ≡ cond t 1 0 + count_by is_some xs
    by true true e g = omega (arith, g)
    by false false e g = omega (arith, g)
    by true false e g = absurd cc
    by false true e g = absurd cc

module _ (m : ModelData) (held : IsHeldModel m) (v : Valid m) (shallow : (o d : ℕ) → IsLive m o → IsDepth m o d → d ≤ MAX_DEPTH) where
  abbrev s : Source
  s = source m v shallow

  abbrev n : ModelData
  n = renumbered m

  below_count : (q : ℕ) → q < object_count s → q < length (written_order m)
  below_count q l = let same = count_is m v shallow in omega (arith, l, same)

  pub live_count_is : length (live_numbers m) ≡ live_count m
  live_count_is = counted (λ o. is_some (object_at m o)) 0 m.objects (λ i l. let same : 0 + i ≡ i = omega arith in ap (λ o. is_some (object_at m o)) same)

  pub few : live_count m ≤ MAX_OBJECTS → object_count s ≤ MAX_OBJECTS
  few limit =
      let same = count_is m v shallow in
      let all = live_count_is in
      let within = once_within (written_order m) (live_numbers m) (order_all_once m v.kept v.acyclic)
      (λ o c.
      let live : IsLive m o = order_live m v.kept o c in
      kept_in (λ x. is_some (object_at m x)) (range_with_len 0 (length m.objects)) o (numbered (length m.objects) o (known m o live)) live) in
      omega (arith, limit, same, all, within)

  pub content : Content s n
  content = record {
    faultless = faultless m v shallow held;
    meta = refl;
    count = length-map (written_order m) _ ∙ sym (count_is m v shallow);
    classes = λ q l.
        let lq = below_count q l in
        let live : IsLive m (origin m q) = origin_live m v shallow q lq in
        ap (class_at n) (sym (there m v shallow q lq)) ∙ class_there m v shallow (origin m q) live ∙ sym (class_of_is m v shallow (origin m q) live) ∙ ap (class_of s) (there m v shallow q lq);
    ids = λ q l.
        let lq = below_count q l in
        let live : IsLive m (origin m q) = origin_live m v shallow q lq in
        ap (id_at n) (sym (there m v shallow q lq)) ∙ id_there m v shallow (origin m q) live ∙ id_known m v shallow (origin m q) live
        ∙ ap Some (sym (id_of_is m v shallow (origin m q) live) ∙ ap (id_of s) (there m v shallow q lq));
    attributes = λ q p a.
        let live = live_from_class n q a.class a.class_is in
        let at : image m (origin m q) ≡ q = image_origin m v shallow q live in
        ap (λ x. values_at n x p) (sym at) ∙ values_there m v shallow (origin m q) p (live_back m v shallow q live)
        ∙ sym (values_are m v shallow held (origin m q) p (attribute_back m v shallow q p a)) ∙ ap (λ x. written_values s x p) at;
    references = λ q p r.
        let live = live_from_class n q r.class r.class_is in
        subst (λ (x : ℕ). HasLinks s n x p) (image_origin m v shallow q live) (links_are m v shallow (origin m q) p (reference_back m v shallow q p r));
  }

  pub is_read : live_count m ≤ MAX_OBJECTS → (k : ModelData) × Spells m.meta externs.None (canon_bytes m) k × IsSame m k
  is_read limit = (
    n,
    record {
      tree = written_tree m;
      markup = canon_markup m held v.kept;
      model = record { content = content; valid = valid_there m v shallow; objects = few limit; depth = depth_there m v shallow };
    },
    same_model m v shallow,
  )

-- what is written is read as the same model
pub written_read : (m : ModelData) → MayBeWritten m → (k : ModelData) × Spells m.meta externs.None (canon_bytes m) k × IsSame m k
written_read m w = is_read m w.held w.valid w.depth w.objects

-- and as no other
pub read_alone : (m k : ModelData) → MayBeWritten m → Spells m.meta externs.None (canon_bytes m) k → IsSame m k
read_alone m k w x =
    let (a, sa, ma) = written_read m w in
    same_through m a k w.valid.kept sa.model.valid.kept ma (one_spelled_model m.meta externs.None (canon_bytes m) a k sa x)

-- models of one metamodel whose texts are one are the same
pub same_text : (m k : ModelData) → MayBeWritten m → MayBeWritten k → k.meta ≡ m.meta → canon_bytes m ≡ canon_bytes k → IsSame m k
same_text m k w x meta bytes =
    let (b, sb, kb) = written_read k x in
    let here : Spells m.meta externs.None (canon_bytes m) b = subst (λ (d : MetaDesc). Spells d externs.None (canon_bytes m) b) meta (subst (λ (t : List ℕ). Spells k.meta externs.None t b) (sym bytes) sb) in
    same_through m b k w.valid.kept sb.model.valid.kept (read_alone m b w here) (same_back k b x.valid.kept kb)
