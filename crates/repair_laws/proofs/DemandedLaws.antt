-- Each demanded term has an object in the model that enforcement makes: its image, which stays, or a fresh one.
use Rattle.std.specs.Prelude.{◌≡◌, ◌<◌, ◌+◌, ℕ, zero, suc, Bool, true, false, ◌&&◌, ◌||◌, not, ◌==◌, cond, nat_lt, is_none, is_some, List, [], ◌∷◌, length, Option, None, Some, Contains}
use Rattle.std.specs.List.{position, position_or_len, filter_map, cons_option, list_any}
use Rattle.std.specs.Option.{option_map, option_map_or}
use Rattle.std.proofs.Common.{refl, ap, sym, ◌∙◌, subst, arith, true≢false, get_or}
use Rattle.std.proofs.lemmas.Bool.Decides.{nat_tests}
use Rattle.object_tables.specs.Objects.{Object}
use Rattle.object_tables.specs.Models.{ModelData, object_at}
use Rattle.object_tables.proofs.SlotLemmas.{Contains-to_filter}
use Rattle.qv_syntax.specs.declared.program.Program.{Program}
use Rattle.qvtr_semantics.specs.Objects.{is_number_among, conforms_if, conforms_at}
use Rattle.repair_semantics.specs.declared.term.Term.{Term, out-Term}
use Rattle.repair_semantics.specs.Terms.{same_term}
use Rattle.repair_semantics.specs.Images.{image}
use Rattle.repair_semantics.specs.Deletions.{images_of, is_unneeded, is_deleted_within, container_of, stays}
use Rattle.repair_semantics.specs.CandidateObjects.{CandidateObject, fresh_terms, number_of, term_number}
use Rattle.repair_semantics.proofs.TieLaws.{ties_are_one}
use Rattle.repair_laws.proofs.ImageLaws.{image_conforms}
use Rattle.std.proofs.lemmas.Bool.{or_right}

-- ---- places in lists

found_before : {X : Type 0} (p : X → Bool) (xs : List X) (k : ℕ) (d : X) → k < length xs → p (get_or xs k d) ≡ true → position_or_len p xs < length xs
found_before p [] k d within h = absurd (omega (arith, within))
found_before p (x ∷ xs) zero d within h = subst (λ b. cond (not b) (1 + position_or_len p xs) 0 < length (x ∷ xs)) (sym h) (omega arith)
found_before p (x ∷ xs) (suc k) d within h = step (p x) (found_before p xs k d (omega (arith, within)) h)
  where
    step : (b : Bool) → position_or_len p xs < length xs → cond (not b) (1 + position_or_len p xs) 0 < length (x ∷ xs)
    step true l = omega arith
    step false l = omega (arith, l)

position_there : {X : Type 0} (p : X → Bool) (xs : List X) (k : ℕ) (d : X) → k < length xs → p (get_or xs k d) ≡ true → (i : ℕ) × (position p xs ≡ Some i)
position_there p xs k d within h =
    let l = found_before p xs k d within h in
    let below : nat_lt (position_or_len p xs) (length xs) ≡ true = grind (arith, nat_tests) in
    (position_or_len p xs, ap (λ b. cond b (Some (position_or_len p xs)) None) below)

and_false : (a : Bool) → (a && false) ≡ false
and_false true = refl
and_false false = refl

same_number : (n : ℕ) → (n == n) ≡ true
same_number n = grind (arith, nat_tests)

among_given : (f : Term → Option ℕ) (xs : List Term) (k : ℕ) (t : Term) (o : ℕ) → k < length xs → get_or xs k t ≡ t → f t ≡ Some o → is_number_among o (filter_map f xs) ≡ true
among_given f [] k t o within is h = absurd (omega (arith, within))
among_given f (x ∷ xs) zero t o within is h =
    ap (λ z. is_number_among o (cons_option z (filter_map f xs))) (ap f is ∙ h) ∙ ap (λ b. b || is_number_among o (filter_map f xs)) (same_number o)
among_given f (x ∷ xs) (suc k) t o within is h = by (f x) (among_given f xs k t o (omega (arith, within)) is h)
  where
    by : (z : Option ℕ) → is_number_among o (filter_map f xs) ≡ true → is_number_among o (cons_option z (filter_map f xs)) ≡ true
    by None later = later
    by (Some y) later = or_right (y == o) (is_number_among o (filter_map f xs)) later

module _ (program : Program) (m : ModelData) (terms : List Term) where
  -- ---- each demanded term has an object

  pub has_object : (t : Term) → Contains terms t → (n : ℕ) × (term_number program m terms t ≡ Some n)
  has_object t has = by (image program m t) refl
    where
      by : (o : Option ℕ) → image program m t ≡ o → (n : ℕ) × (term_number program m terms t ≡ Some n)
      by (Some o) is = (o, ap (λ x. number_of program m terms (option_map_or (λ n. CandidateObject.old n) x (CandidateObject.fresh t))) is)
      by None is =
          let kept : Contains (fresh_terms program m terms) t = Contains-to_filter (λ u. is_none (image program m u)) terms t (ap (λ x. is_none x) is) has in
          let tie : same_term t (get_or (fresh_terms program m terms) kept.0 t) ≡ true = subst (λ u. same_term t u ≡ true) (sym kept.2) ((ties_are_one t t).1 refl) in
          let place = position_there (same_term t) (fresh_terms program m terms) kept.0 t kept.1 tie in (
            length m.objects + place.0,
            ap (λ x. number_of program m terms (option_map_or (λ n. CandidateObject.old n) x (CandidateObject.fresh t))) is
                ∙ ap (option_map (λ k. length m.objects + k)) place.1,
          )

  -- ---- the image of a demanded term stays

  among_images : (t : Term) (o : ℕ) → Contains terms t → image program m t ≡ Some o → is_number_among o (images_of program m terms) ≡ true
  among_images t o has is = among_given (image program m) terms has.0 t o has.1 has.2 is

  needed : (classes images : List ℕ) (o : ℕ) → is_number_among o images ≡ true → is_unneeded m classes images o ≡ false
  needed classes images o among = ap (λ b. list_any (λ class. conforms_at m class o) classes && not b) among ∙ and_false (list_any (λ class. conforms_at m class o) classes)

  kept_within : (classes images : List ℕ) (n o : ℕ) → is_number_among o images ≡ true → is_deleted_within m classes images n o ≡ false
  kept_within classes images zero o among = needed classes images o among
  kept_within classes images (suc n) o among =
      ap (λ b. b || (not (is_number_among o images) && option_map_or (is_deleted_within m classes images n) (container_of m o) false)) (needed classes images o among)
      ∙ ap (λ b. not b && option_map_or (is_deleted_within m classes images n) (container_of m o) false) among

  pub live_object : (class o : ℕ) → conforms_at m class o ≡ true → is_some (object_at m o) ≡ true
  live_object class o h = by (object_at m o) h
    where
      by : (x : Option Object) → conforms_if m.meta class (option_map (λ ob. ob.class) x) ≡ true → is_some x ≡ true
      by None e = absurd (true≢false (sym e))
      by (Some ob) e = refl

  pub image_stays : (classes : List ℕ) (t : Term) (o : ℕ) → Contains terms t → image program m t ≡ Some o → stays m classes (images_of program m terms) o ≡ true
  image_stays classes t o has is =
      ap (λ b. is_some (object_at m o) && not b) (kept_within classes (images_of program m terms) (length m.objects) o (among_images t o has is))
      ∙ ap (λ b. b && true) (live_object (out-Term t).class.0 o (image_conforms program m t o is))
