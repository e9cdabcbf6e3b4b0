-- The model whose objects are numbered in the order in which they are written: it is the same, and valid where the other is.
use Rattle.std.proofs.Common.{◌≡◌, ℕ, zero, suc, ◌+◌, ◌<◌, ◌≤◌, List, [], ◌∷◌, length, get_or, map, sym, ◌∙◌, ap, arith}
use Rattle.std.specs.Prelude.{Contains, is_some, not}
use Rattle.std.specs.List.{flat_map, range_with_len}
use Rattle.object_tables.specs.declared.limit.TheConstants.{MAX_DEPTH}
use Rattle.mof_metamodel.proofs.DistinctLemmas.{IsOnce}
use Rattle.object_tables.specs.Containment.{IsDepth}
use Rattle.object_tables.specs.Kept.{Kept}
use Rattle.object_tables.specs.Models.{ModelData, object_at, class_at, id_at, values_at, partners_at, IsLive, IsLinked, IsAttributeOf, IsReferenceOf}
use Rattle.object_tables.specs.Sameness.{IsSame}
use Rattle.object_tables.specs.Validity.{Valid}
use Rattle.xmi_profile.specs.Canon.{top_numbers}
use Rattle.model_assembly.specs.Profile.{live_numbers, is_part}
use Rattle.xmi_profile.specs.WrittenOrder.{order_of, written_order}
use Rattle.xmi_profile.proofs.written.Items.{IsNumbered, numbered_rest}
use Rattle.xmi_profile.proofs.written.Ordering.{order_all_once, order_live, order_has, top_listed}
use Rattle.xmi_profile.proofs.written.Reordered as orders
use Rattle.xmi_profile.proofs.written.Reordered.{IsNumbering, Rising, rising_filter, range_rises}

module _ (m : ModelData) where
  abbrev pub image : ℕ → ℕ
  image o = orders.image m (written_order m) o

  abbrev pub origin : ℕ → ℕ
  origin q = orders.origin m (written_order m) q

  abbrev pub renumbered : ModelData
  renumbered = orders.renumbered m (written_order m)

  abbrev pub IsBack : ℕ → ℕ → ℕ → Type 0
  IsBack p a b = orders.IsBack m (written_order m) p a b

  module _ (v : Valid m) (shallow : (o d : ℕ) → IsLive m o → IsDepth m o d → d ≤ MAX_DEPTH) where
    numbering : IsNumbering m (written_order m)
    numbering = record { once = order_all_once m v.kept v.acyclic; all = order_has m v.kept v.acyclic shallow; live = order_live m v.kept }

    pub image_within : (o : ℕ) → IsLive m o → image o < length (written_order m)
    image_within = orders.image_within m (written_order m) v numbering

    pub back : (o : ℕ) → IsLive m o → origin (image o) ≡ o
    back = orders.back m (written_order m) v numbering

    pub there : (q : ℕ) → q < length (written_order m) → image (origin q) ≡ q
    there = orders.there m (written_order m) v numbering

    pub image_apart : (a b : ℕ) → IsLive m a → IsLive m b → image a ≡ image b → a ≡ b
    image_apart = orders.image_apart m (written_order m) v numbering

    pub origin_live : (q : ℕ) → q < length (written_order m) → IsLive m (origin q)
    origin_live = orders.origin_live m (written_order m) v numbering

    pub class_there : (o : ℕ) → IsLive m o → class_at renumbered (image o) ≡ class_at m o
    class_there = orders.class_there m (written_order m) v numbering

    pub id_there : (o : ℕ) → IsLive m o → id_at renumbered (image o) ≡ id_at m o
    id_there = orders.id_there m (written_order m) v numbering

    pub values_there : (o p : ℕ) → IsLive m o → values_at renumbered (image o) p ≡ values_at m o p
    values_there = orders.values_there m (written_order m) v numbering

    pub partners_there : (o p : ℕ) → IsLive m o → partners_at renumbered (image o) p ≡ map image (partners_at m o p)
    partners_there = orders.partners_there m (written_order m) v numbering

    pub image_origin : (q : ℕ) → IsLive renumbered q → image (origin q) ≡ q
    image_origin = orders.image_origin m (written_order m) v numbering

    pub live_back : (q : ℕ) → IsLive renumbered q → IsLive m (origin q)
    live_back = orders.live_back m (written_order m) v numbering

    pub attribute_back : (q p : ℕ) → IsAttributeOf renumbered q p → IsAttributeOf m (origin q) p
    attribute_back = orders.attribute_back m (written_order m) v numbering

    pub reference_back : (q p : ℕ) → IsReferenceOf renumbered q p → IsReferenceOf m (origin q) p
    reference_back = orders.reference_back m (written_order m) v numbering

    pub linked_there : (p a b : ℕ) → IsLinked m p a b → IsLinked renumbered p (image a) (image b)
    linked_there = orders.linked_there m (written_order m) v numbering

    pub linked_back : (p a b : ℕ) → IsLinked renumbered p a b → IsBack p a b
    linked_back = orders.linked_back m (written_order m) v numbering

    pub distinct_images : (bs : List ℕ) → ((b : ℕ) → Contains bs b → IsLive m b) → IsOnce bs → IsOnce (map image bs)
    distinct_images = orders.distinct_images m (written_order m) v numbering

    pub kept_there : Kept renumbered
    kept_there = orders.kept_there m (written_order m) v numbering

    pub valid_there : Valid renumbered
    valid_there = orders.valid_there m (written_order m) v numbering

    pub depth_there : (q d : ℕ) → IsLive renumbered q → IsDepth renumbered q d → d ≤ MAX_DEPTH
    depth_there = orders.depth_there m (written_order m) v numbering shallow

    -- ---- tops

    low : (ts : List ℕ) (n b : ℕ) → IsNumbered m.meta image n (flat_map (order_of m MAX_DEPTH) ts) → Contains ts b → n ≤ image b
    low [] n b num (i, l, e) = absurd (omega (arith, l))
    low (t ∷ ts) n b num (zero, l, e) =
        let first : image t ≡ n = num.0 in
        let same : image b ≡ n = ap image (sym e) ∙ first in
        omega (arith, same)
    low (t ∷ ts) n b num (suc i, l, e) =
        let rest = low ts (n + length (order_of m MAX_DEPTH t)) b (numbered_rest m.meta image n (order_of m MAX_DEPTH t) (flat_map (order_of m MAX_DEPTH) ts) num) (i, omega (arith, l), e) in
        omega (arith, rest)

    rise : (ts : List ℕ) (n a b : ℕ) → Rising ts → IsNumbered m.meta image n (flat_map (order_of m MAX_DEPTH) ts) → Contains ts a → Contains ts b → a < b → image a < image b
    rise [] n a b r num (i, l, e) cb less = absurd (omega (arith, l))
    rise (t ∷ ts) n a b r num (zero, l, e) (zero, lb, eb) less = absurd (let same : a ≡ b = sym e ∙ eb in omega (arith, same, less))
    rise (t ∷ ts) n a b r num (zero, l, e) (suc j, lb, eb) less =
        let first : image t ≡ n = num.0 in
        let same : image a ≡ n = ap image (sym e) ∙ first in
        let rest = low ts (n + length (order_of m MAX_DEPTH t)) b (numbered_rest m.meta image n (order_of m MAX_DEPTH t) (flat_map (order_of m MAX_DEPTH) ts) num) (j, omega (arith, lb), eb) in
        let some : 0 < length (order_of m MAX_DEPTH t) = omega arith in
        omega (arith, same, rest, some)
    rise (t ∷ ts) n a b r num (suc i, l, e) (zero, lb, eb) less =
        let more : t < a = r.0 a (i, omega (arith, l), e) in
        absurd (omega (arith, more, less, eb))
    rise (t ∷ ts) n a b r num (suc i, l, e) (suc j, lb, eb) less =
        rise ts (n + length (order_of m MAX_DEPTH t)) a b r.1 (numbered_rest m.meta image n (order_of m MAX_DEPTH t) (flat_map (order_of m MAX_DEPTH) ts) num)
        (i, omega (arith, l), e) (j, omega (arith, lb), eb) less

    numbered_at : (n : ℕ) (os : List ℕ) → ((i : ℕ) → i < length os → image (get_or os i 0) ≡ n + i) → IsNumbered m.meta image n os
    numbered_at n [] h = tt
    numbered_at n (o ∷ os) h =
        let here : image o ≡ n + 0 = h 0 (omega arith) in (
          omega (arith, here),
          numbered_at (suc n) os (λ i l. let e : image (get_or os i 0) ≡ n + suc i = h (suc i) (omega (arith, l)) in omega (arith, e)),
        )

    pub all_numbered : IsNumbered m.meta image 0 (written_order m)
    all_numbered = numbered_at 0 (written_order m) (λ i l. there i l ∙ omega arith)

    tops_rise : Rising (top_numbers m)
    tops_rise = rising_filter (λ o. not (is_part m o)) (live_numbers m) (rising_filter (λ o. is_some (object_at m o)) (range_with_len 0 (length m.objects)) (range_rises (length m.objects)))

    -- ---- the same model

    pub same_model : IsSame m renumbered
    same_model =
        orders.same_model m (written_order m) v numbering
        (λ a b la ta lb tb less. rise (top_numbers m) 0 a b tops_rise all_numbered (top_listed m v.kept a la ta) (top_listed m v.kept b lb tb) less)
