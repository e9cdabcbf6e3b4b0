-- Which objects are deleted, by the first one on the way up their containers for which that is known.
use Rattle.std.proofs.Common.{◌≡◌, ℕ, zero, suc, ◌<◌, ◌≤◌, List, [], ◌∷◌, Bool, true, false, Option, None, Some, refl, sym, ap, ◌∙◌, subst, arith, length, inl, inr, true≢false}
use Rattle.std.specs.Prelude.{◌&&◌, ◌||◌, ◌⊎◌, not, Contains}
use Rattle.std.specs.List.{list_any, range_with_len}
use Rattle.std.specs.Option.{option_map_or}
use Rattle.std.proofs.lemmas.Bool.{cases_eq, cases_lt, or_left, or_right, and_from, and_right}
use Rattle.std.proofs.lemmas.List.FromFn.{length-range_with_len, get_or-range_with_len}
use Rattle.mof_metamodel.specs.Metamodels.{prop_at, props_of}
use Rattle.mof_metamodel.proofs.Facts.{first_true, second_true}
use Rattle.link_arena.proofs.Members.{IsIn, IsDistinct}
use Rattle.link_arena.proofs.Threaded.{pigeon}
use Rattle.object_tables.specs.Kept.{Kept}
use Rattle.object_tables.specs.Models.{ModelData, class_at, partners_at, IsLive, IsTop, IsContainedIn, IsReferenceOf}
use Rattle.object_tables.specs.Containment.{IsContainer, IsContainerPath}
use Rattle.object_tables.proofs.ContainmentLemmas.{container-live, live-below, container-same}
use Rattle.qvtr_semantics.specs.Objects.{is_number_among, conforms_at}
use Rattle.ocl_eval.proofs.ClassLaws.{among_from, among_to}
use Rattle.template_match.proofs.ListLaws.{any_from, any_at, find_some, find_none}
use Rattle.repair_semantics.specs.Deletions.{is_unneeded, has_part, is_container, container_of, is_deleted_within, is_deleted}

-- ---- containers

module _ (m : ModelData) where
  container_is : (o a : ℕ) → container_of m o ≡ Some a → IsContainer m o a
  container_is o a h = by (class_at m a) (find_some (is_container m o) (range_with_len 0 (length m.objects)) a h).1
    where
      by : (class : Option ℕ) → option_map_or (λ class. list_any (has_part m o a) (props_of m.meta class)) class false ≡ true → IsContainer m o a
      by None is = absurd (true≢false (sym is))
      by (Some class) is =
          let (p, has, held) = any_from (has_part m o a) (props_of m.meta class) is in (
            p,
            record {
              composite = first_true (prop_at m.meta p).composite (is_number_among o (partners_at m a p)) held;
              linked = among_to o (partners_at m a p) (second_true (prop_at m.meta p).composite (is_number_among o (partners_at m a p)) held);
            },
          )

  is_container_by : (o a p : ℕ) → IsContainedIn m o a p → IsReferenceOf m a p → is_container m o a ≡ true
  is_container_by o a p held reference =
      ap (λ x. option_map_or (λ class. list_any (has_part m o a) (props_of m.meta class)) x false) reference.class_is
      ∙ any_at (has_part m o a) (props_of m.meta reference.class) p
      (and_from (prop_at m.meta p).composite (is_number_among o (partners_at m a p)) held.composite
      (among_from o (partners_at m a p) held.linked)) reference.has

  in_range : (n a : ℕ) → a < n → Contains (range_with_len 0 n) a
  in_range n a l = let long = length-range_with_len 0 n in (a, omega (arith, l, long), get_or-range_with_len 0 n a a l ∙ omega arith)

  -- the container that a model tells
  pub contained : Kept m → (o a p : ℕ) → IsContainedIn m o a p → IsReferenceOf m a p → IsLive m a → container_of m o ≡ Some a
  contained kept o a p held reference live = by (container_of m o) refl
    where
      by : (c : Option ℕ) → container_of m o ≡ c → container_of m o ≡ Some a
      by None e = absurd (true≢false (
          sym (is_container_by o a p held reference)
          ∙ find_none (is_container m o) (range_with_len 0 (length m.objects)) a e (in_range (length m.objects) a (live-below m a live))))
      by (Some b) e = e ∙ ap Some (container-same m o b a kept (container_is o b e) (p, held))

  pub topmost : (o : ℕ) → IsTop m o → container_of m o ≡ None
  topmost o top = by (container_of m o) refl
    where
      by : (c : Option ℕ) → container_of m o ≡ c → container_of m o ≡ None
      by None e = e
      by (Some a) e = absurd (let (p, held) = container_is o a e in top a p held)

  -- ---- paths without a repeat

  in_or_out : (x : ℕ) (xs : List ℕ) → IsIn x xs ⊎ (¬ IsIn x xs)
  in_or_out x [] = inr (λ n. n)
  in_or_out x (y ∷ ys) = elim (cases_eq x y) [
    | inl e ↦ inl (inl e)
    | inr ne ↦ elim (in_or_out x ys) [ inl n ↦ inl (inr n) | inr out ↦ inr (λ h. elim h [ inl e ↦ ne e | inr n ↦ out n ]) ]
  ]

  record IsSimple (o above : ℕ) : Type 0 where
    path : List ℕ
    up : IsContainerPath m o path above
    apart : IsDistinct (o ∷ path)

  -- the part of a path from one of its objects on
  simple_from : (o : ℕ) (path : List ℕ) (above x : ℕ) → IsContainerPath m o path above → IsDistinct (o ∷ path) → IsIn x (o ∷ path) → IsSimple x above
  simple_from o path above x up apart (inl e) =
      record { path = path; up = subst (λ y. IsContainerPath m y path above) (sym e) up; apart = subst (λ y. IsDistinct (y ∷ path)) (sym e) apart }
  simple_from o [] above x up apart (inr n) = absurd n
  simple_from o (b ∷ path) above x up apart (inr n) = simple_from b path above x up.1 apart.1 n

  simple : (o : ℕ) (path : List ℕ) (above : ℕ) → IsContainerPath m o path above → IsSimple o above
  simple o [] above up = record { path = []; up = up; apart = ((λ n. n), tt) }
  simple o (b ∷ path) above up =
      let rest = simple b path above up.1 in
      elim (in_or_out o (b ∷ rest.path)) [
        | inl n ↦ simple_from b rest.path above o rest.up rest.apart n
        | inr out ↦ record { path = b ∷ rest.path; up = (up.0, rest.up); apart = (out, rest.apart) }
      ]

  all_live : (o : ℕ) (path : List ℕ) (above x : ℕ) → IsLive m o → IsContainerPath m o path above → IsIn x (o ∷ path) → IsLive m x
  all_live o path above x live up (inl e) = subst (λ y. IsLive m y) (sym e) live
  all_live o [] above x live up (inr n) = absurd n
  all_live o (b ∷ path) above x live up (inr n) = all_live b path above x (container-live m o b up.0) up.1 n

  -- it is shorter than there are objects
  few_above : (o above : ℕ) → IsLive m o → (way : IsSimple o above) → suc (length way.path) ≤ length m.objects
  few_above o above live way = pigeon (length m.objects) (o ∷ way.path) way.apart (λ x n. live-below m x (all_live o way.path above x live way.up n))

-- ---- one container more or less

module _ (m : ModelData) (classes images : List ℕ) where
  abbrev goes : ℕ → ℕ → Bool
  goes n o = is_deleted_within m classes images n o

  abbrev bare : ℕ → Bool
  bare o = is_unneeded m classes images o

  -- what is unneeded goes
  pub unneeded_goes : (n o : ℕ) → is_unneeded m classes images o ≡ true → is_deleted_within m classes images n o ≡ true
  unneeded_goes zero o h = h
  unneeded_goes (suc n) o h = or_left (bare o) (not (is_number_among o images) && option_map_or (goes n) (container_of m o) false) h

  -- an image stays
  pub image_stays : (n o : ℕ) → is_number_among o images ≡ true → is_deleted_within m classes images n o ≡ false
  image_stays n o among = by n
    where
      needed : bare o ≡ false
      needed =
          ap (λ b. list_any (λ class. conforms_at m class o) classes && not b) among
          ∙ and_right (list_any (λ class. conforms_at m class o) classes) false refl

      by : (k : ℕ) → is_deleted_within m classes images k o ≡ false
      by zero = needed
      by (suc k) =
          ap (λ b. b || (not (is_number_among o images) && option_map_or (goes k) (container_of m o) false)) needed
          ∙ ap (λ b. not b && option_map_or (goes k) (container_of m o) false) among

  -- what is neither goes with its container
  pub open_up : (n o a : ℕ) → is_unneeded m classes images o ≡ false → is_number_among o images ≡ false → container_of m o ≡ Some a
      → is_deleted_within m classes images (suc n) o ≡ is_deleted_within m classes images n a
  open_up n o a needed among container =
      ap (λ b. b || (not (is_number_among o images) && option_map_or (goes n) (container_of m o) false)) needed
      ∙ ap (λ b. not b && option_map_or (goes n) (container_of m o) false) among
      ∙ ap (λ x. option_map_or (goes n) x false) container

  pub open_top : (n o : ℕ) → is_unneeded m classes images o ≡ false → is_number_among o images ≡ false → container_of m o ≡ None
      → is_deleted_within m classes images n o ≡ false
  open_top zero o needed among container = needed
  open_top (suc n) o needed among container =
      ap (λ b. b || (not (is_number_among o images) && option_map_or (goes n) (container_of m o) false)) needed
      ∙ ap (λ b. not b && option_map_or (goes n) (container_of m o) false) among
      ∙ ap (λ x. option_map_or (goes n) x false) container

  through : (o a n : ℕ) → is_number_among o images ≡ false → container_of m o ≡ Some a → goes n a ≡ true → goes (suc n) o ≡ true
  through o a n among container h =
      ap (λ b. bare o || (not b && option_map_or (goes n) (container_of m o) false)) among
      ∙ ap (λ x. bare o || option_map_or (goes n) x false) container
      ∙ or_right (bare o) (goes n a) h

  -- What goes in one container more is unneeded, or no image and in a container that goes.
  module _ (P : Type 0) (o : ℕ) where
    by_reason : (t : Bool) → bare o ≡ t → (i : Bool) → is_number_among o images ≡ i → (c : Option ℕ) → container_of m o ≡ c → (n : ℕ)
        → (t || (not i && option_map_or (goes n) c false)) ≡ true
        → (bare o ≡ true → P) → ((a : ℕ) → is_number_among o images ≡ false → container_of m o ≡ Some a → goes n a ≡ true → P) → P
    by_reason true t i j c d n g unneeded with_container = unneeded t
    by_reason false t true j c d n g unneeded with_container = absurd (true≢false (sym g))
    by_reason false t false j None d n g unneeded with_container = absurd (true≢false (sym g))
    by_reason false t false j (Some a) d n g unneeded with_container = with_container a j d g

    reasons : (n : ℕ) → goes (suc n) o ≡ true → (bare o ≡ true → P)
        → ((a : ℕ) → is_number_among o images ≡ false → container_of m o ≡ Some a → goes n a ≡ true → P) → P
    reasons n h = by_reason (bare o) refl (is_number_among o images) refl (container_of m o) refl n h

  more : (n k o : ℕ) → n ≤ k → goes n o ≡ true → goes k o ≡ true
  more zero k o le h = unneeded_goes k o h
  more (suc n) zero o le h = absurd (omega (arith, le))
  more (suc n) (suc k) o le h =
      reasons (goes (suc k) o ≡ true) o n h (unneeded_goes (suc k) o)
      (λ a among container g. through o a k among container (more n k a (omega (arith, le)) g))

  -- ---- no more containers count than there are objects

  -- a path of containers leads up to an object that is unneeded
  record HasCause (o : ℕ) : Type 0 where
    above : ℕ
    path : List ℕ
    up : IsContainerPath m o path above
    unneeded : is_unneeded m classes images above ≡ true

  cause : (n o : ℕ) → goes n o ≡ true → HasCause o
  cause zero o h = record { above = o; path = []; up = refl; unneeded = h }
  cause (suc n) o h =
      reasons (HasCause o) o n h (λ unneeded. record { above = o; path = []; up = refl; unneeded = unneeded })
      (λ a among container g.
      let later = cause n a g in
      record { above = later.above; path = a ∷ later.path; up = (container_is m o a container, later.up); unneeded = later.unneeded })

  -- a path that is no longer serves as well
  shorter : Kept m → (o : ℕ) (path : List ℕ) (above n : ℕ) → IsContainerPath m o path above → bare above ≡ true → length path ≤ n → goes n o ≡ true
      → goes (length path) o ≡ true
  shorter kept o [] above n same unneeded le h = ap bare same ∙ unneeded
  shorter kept o (b ∷ path) above zero up unneeded le h = absurd (omega (arith, le))
  shorter kept o (b ∷ path) above (suc n) (first, rest) unneeded le h =
      reasons (goes (suc (length path)) o ≡ true) o n h (unneeded_goes (suc (length path)) o)
      (λ a among container g.
      let same : a ≡ b = container-same m o a b kept (container_is m o a container) first in
      let later : goes (length path) b ≡ true = shorter kept b path above n rest unneeded (omega (arith, le)) (ap (goes n) (sym same) ∙ g) in
      through o a (length path) among container (ap (goes (length path)) same ∙ later))

  enough : Kept m → (n k o : ℕ) → IsLive m o → length m.objects ≤ suc k → goes n o ≡ true → goes k o ≡ true
  enough kept n k o live few h =
      let found = cause n o h in
      let way = simple m o found.path found.above found.up in
      let short = few_above m o found.above live way in
      elim (cases_lt n (length way.path)) [
        | inl l ↦ more n k o (omega (arith, l, few, short)) h
        | inr le ↦ more (length way.path) k o (omega (arith, few, short)) (shorter kept o way.path found.above n way.up found.unneeded le h)
      ]

  both : (x y : Bool) → (x ≡ true → y ≡ true) → (y ≡ true → x ≡ true) → x ≡ y
  both true y there back = sym (there refl)
  both false true there back = back refl
  both false false there back = refl

  -- an object that is neither unneeded nor an image is deleted where its container is
  pub deleted_up : Kept m → (o a : ℕ) → IsLive m o → IsLive m a → is_unneeded m classes images o ≡ false → is_number_among o images ≡ false
      → container_of m o ≡ Some a
      → is_deleted m classes images o ≡ is_deleted m classes images a
  deleted_up kept o a live live' needed among container = by (length m.objects) refl
    where
      by : (n : ℕ) → length m.objects ≡ n → goes n o ≡ goes n a
      by zero e = let below = live-below m o live in absurd (omega (arith, below, e))
      by (suc k) e =
          open_up k o a needed among container
          ∙ both (goes k a) (goes (suc k) a) (more k (suc k) a (omega arith)) (enough kept (suc k) k a live' (omega (arith, e)))
