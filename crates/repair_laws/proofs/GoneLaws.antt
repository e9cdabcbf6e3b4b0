-- What is deleted is the least set that two rules give: the objects on the way from one up to the first that is unneeded are distinct, so the
-- way is no longer than there are objects.
use Rattle.std.specs.Prelude.{◌≡◌, ◌↔◌, ◌<◌, ◌≤◌, ◌+◌, ◌-◌, ℕ, zero, suc, Bool, true, false, ◌&&◌, ◌||◌, not, cond, List, [], ◌∷◌, length, Option, None, Some}
use Rattle.std.specs.List.{find, range_with_len}
use Rattle.std.specs.Option.{option_map_or}
use Rattle.std.proofs.Common.{refl, ap, sym, ◌∙◌, subst, arith, inl, inr, true≢false}
use Rattle.std.proofs.lemmas.Bool.{cases_lt, or_right}
use Rattle.link_arena.proofs.Members.{IsIn, IsDistinct}
use Rattle.link_arena.proofs.Threaded.{pigeon}
use Rattle.object_tables.specs.Models.{ModelData}
use Rattle.qvtr_semantics.specs.Objects.{is_number_among}
use Rattle.repair_semantics.specs.Deletions.{is_unneeded, is_container, container_of, is_deleted_within, is_deleted}
use Rattle.repair_laws.specs.Gone.{IsGone}

-- ---- containers are objects of the model

none_found : (a : ℕ) → None ≡ Some a → ⊥
none_found a h = cc

one_found : (a b : ℕ) → Some a ≡ Some b → a ≡ b
one_found a b h = cc

found_below : (test : ℕ → Bool) (b n a : ℕ) → find test (range_with_len b n) ≡ Some a → a < b + n
found_below test b zero a h = absurd (none_found a h)
found_below test b (suc n) a h = by (test b) (found_below test (b + 1) n a) h
  where
    by : (t : Bool) → (find test (range_with_len (b + 1) n) ≡ Some a → a < b + 1 + n) → cond t (Some b) (find test (range_with_len (b + 1) n)) ≡ Some a → a < b + suc n
    by true later e = let same = one_found b a e in omega (arith, same)
    by false later e = let below = later e in omega (arith, below)

module _ (m : ModelData) (classes images : List ℕ) where
  abbrev goes : ℕ → ℕ → Bool
  goes n o = is_deleted_within m classes images n o

  abbrev bare : ℕ → Bool
  bare o = is_unneeded m classes images o

  -- ---- what is deleted is of the set

  sound : (n o : ℕ) → goes n o ≡ true → IsGone m classes images o
  sound zero o h = IsGone.unneeded o h
  sound (suc n) o h = by (bare o) refl (is_number_among o images) refl (container_of m o) refl (sound n) h
    where
      by : (u : Bool) → is_unneeded m classes images o ≡ u → (i : Bool) → is_number_among o images ≡ i → (c : Option ℕ) → container_of m o ≡ c
          → ((a : ℕ) → is_deleted_within m classes images n a ≡ true → IsGone m classes images a)
          → (u || (not i && option_map_or (is_deleted_within m classes images n) c false)) ≡ true → IsGone m classes images o
      by true u i j c d later g = IsGone.unneeded o u
      by false u true i c d later g = absurd (true≢false (sym g))
      by false u false i None d later g = absurd (true≢false (sym g))
      by false u false i (Some a) d later g = IsGone.with_container o a i d (later a g)

  -- ---- more containers change nothing

  through : (o a n : ℕ) → is_number_among o images ≡ false → container_of m o ≡ Some a → goes n a ≡ true → goes (suc n) o ≡ true
  through o a n among container h =
      ap (λ b. is_unneeded m classes images o || (not b && option_map_or (is_deleted_within m classes images n) (container_of m o) false)) among
      ∙ ap (λ x. is_unneeded m classes images o || option_map_or (is_deleted_within m classes images n) x false) container
      ∙ or_right (is_unneeded m classes images o) (is_deleted_within m classes images n a) h

  grows : (n o : ℕ) → goes n o ≡ true → goes (suc n) o ≡ true
  grows zero o h = ap (λ b. b || (not (is_number_among o images) && option_map_or (is_deleted_within m classes images 0) (container_of m o) false)) h
  grows (suc n) o h = by (bare o) refl (is_number_among o images) refl (container_of m o) refl (grows n) h
    where
      by : (u : Bool) → is_unneeded m classes images o ≡ u → (i : Bool) → is_number_among o images ≡ i → (c : Option ℕ) → container_of m o ≡ c
          → ((a : ℕ) → is_deleted_within m classes images n a ≡ true → is_deleted_within m classes images (suc n) a ≡ true)
          → (u || (not i && option_map_or (is_deleted_within m classes images n) c false)) ≡ true → is_deleted_within m classes images (suc (suc n)) o ≡ true
      by true u i j c d later g = ap (λ b. b || (not (is_number_among o images) && option_map_or (is_deleted_within m classes images (suc n)) (container_of m o) false)) u
      by false u true i c d later g = absurd (true≢false (sym g))
      by false u false i None d later g = absurd (true≢false (sym g))
      by false u false i (Some a) d later g = through o a (suc n) i d (later a g)

  grows_by : (k n o : ℕ) → goes n o ≡ true → goes (k + n) o ≡ true
  grows_by zero n o h = let same : n ≡ 0 + n = omega arith in subst (λ x. goes x o ≡ true) same h
  grows_by (suc k) n o h = let same : suc (k + n) ≡ suc k + n = omega arith in subst (λ x. goes x o ≡ true) same (grows (k + n) o (grows_by k n o h))

  -- ---- the least number of containers

  record IsLeast (n o : ℕ) : Type 0 where
    goes_at : is_deleted_within m classes images n o ≡ true
    none : (j : ℕ) → j < n → is_deleted_within m classes images j o ≡ false

  least_from : (more i o : ℕ) → ((j : ℕ) → j < i → goes j o ≡ false) → goes (i + more) o ≡ true → (n : ℕ) × IsLeast n o
  least_from zero i o none h = let same : i + 0 ≡ i = omega arith in (i, record { goes_at = subst (λ x. goes x o ≡ true) same h; none = none })
  least_from (suc more) i o none h =
      by (goes i o) refl (λ below. least_from more (suc i) o below (let same : i + suc more ≡ suc i + more = omega arith in subst (λ x. goes x o ≡ true) same h))
    where
      by : (b : Bool) → is_deleted_within m classes images i o ≡ b → (((j : ℕ) → j < suc i → is_deleted_within m classes images j o ≡ false) → (n : ℕ) × IsLeast n o) → (n : ℕ) × IsLeast n o
      by true is later = (i, record { goes_at = is; none = none })
      by false is later = later (λ j l. elim (cases_lt j i) [
        | inl before ↦ none j before
        | inr after ↦ (let same : i ≡ j = omega (arith, l, after) in subst (λ x. is_deleted_within m classes images x o ≡ false) same is)
      ])

  record IsNext (n o : ℕ) : Type 0 where
    container : ℕ
    is : container_of m o ≡ Some container
    least : IsLeast n container

  next : (n o : ℕ) → IsLeast (suc n) o → IsNext n o
  next n o h = by (is_unneeded m classes images o) (h.none 0 (omega arith)) (is_number_among o images) refl (container_of m o) refl h.goes_at
    where
      earlier : (a j : ℕ) → is_number_among o images ≡ false → container_of m o ≡ Some a → j < n → (b : Bool) → is_deleted_within m classes images j a ≡ b → is_deleted_within m classes images j a ≡ false
      earlier a j among container l true is = absurd (true≢false (sym (through o a j among container is) ∙ h.none (suc j) (omega (arith, l))))
      earlier a j among container l false is = is

      by : (u : Bool) → u ≡ false → (i : Bool) → is_number_among o images ≡ i → (c : Option ℕ) → container_of m o ≡ c
          → (u || (not i && option_map_or (is_deleted_within m classes images n) c false)) ≡ true → IsNext n o
      by true u i j c d g = absurd (true≢false u)
      by false u true i c d g = absurd (true≢false (sym g))
      by false u false i None d g = absurd (true≢false (sym g))
      by false u false i (Some a) d g = record {
        container = a;
        is = d;
        least = record { goes_at = g; none = λ j l. earlier a j i d l (is_deleted_within m classes images j a) refl };
      }

  -- ---- the way up is of distinct objects

  record IsAt (n x : ℕ) : Type 0 where
    steps : ℕ
    few : steps ≤ n
    least : IsLeast steps x

  record Way (n o : ℕ) : Type 0 where
    objects : List ℕ
    many : length objects ≡ suc n
    distinct : IsDistinct objects
    below : (x : ℕ) → IsIn x objects → x < length m.objects
    at : (x : ℕ) → IsIn x objects → IsAt n x

  way : (n o : ℕ) → IsLeast n o → o < length m.objects → Way n o
  way zero o h l = record {
    objects = o ∷ [];
    many = refl;
    distinct = (λ i. i, tt);
    below = λ x i. elim i [ inl e ↦ subst (λ y. y < length m.objects) (sym e) l | inr none ↦ absurd none ];
    at = λ x i. elim i [ inl e ↦ subst (λ y. IsAt 0 y) (sym e) (record { steps = 0; few = omega arith; least = h }) | inr none ↦ absurd none ];
  }
  way (suc n) o h l =
      let step = next n o h in
      let found = found_below (is_container m o) 0 (length m.objects) step.container step.is in
      let inside : step.container < length m.objects = omega (arith, found) in
      let more = way n step.container step.least inside in record {
        objects = o ∷ more.objects;
        many = (let many = more.many in omega (arith, many));
        distinct = (λ i. again (more.at o i), more.distinct);
        below = λ x i. elim i [ inl e ↦ subst (λ y. y < length m.objects) (sym e) l | inr later ↦ more.below x later ];
        at = λ x i. elim i [
          | inl e ↦ subst (λ y. IsAt (suc n) y) (sym e) (record { steps = suc n; few = omega arith; least = h })
          | inr later ↦ (let it = more.at x later in record { steps = it.steps; few = (let few = it.few in omega (arith, few)); least = it.least })
        ];
      }
    where
      again : IsAt n o → ⊥
      again it = true≢false (sym it.least.goes_at ∙ h.none it.steps (let few = it.few in omega (arith, few)))

  -- ---- what is of the set is deleted

  found : (o : ℕ) → IsGone m classes images o → (n : ℕ) × (goes n o ≡ true)
  found _ (IsGone.unneeded o h) = (0, h)
  found _ (IsGone.with_container o a among container g) = let above = found a g in (suc above.0, through o a above.0 among container above.1)

  complete : (o : ℕ) → o < length m.objects → IsGone m classes images o → is_deleted m classes images o ≡ true
  complete o l g =
      let some = found o g in
      let least = least_from some.0 0 o (λ j b. absurd (omega (arith, b))) (let same : some.0 ≡ 0 + some.0 = omega arith in subst (λ x. goes x o ≡ true) same some.1) in
      let up = way least.0 o least.1 l in
      let short : length up.objects ≤ length m.objects = pigeon (length m.objects) up.objects up.distinct up.below in
      let many = up.many in
      let n : ℕ = least.0 in
      let rest : length m.objects - n + n ≡ length m.objects = omega (arith, short, many) in
      subst (λ x. goes x o ≡ true) rest (grows_by (length m.objects - n) n o least.1.goes_at)

  pub deleted_is_gone : (o : ℕ) → o < length m.objects → is_deleted m classes images o ≡ true ↔ IsGone m classes images o
  deleted_is_gone o l = (sound (length m.objects) o, complete o l)
