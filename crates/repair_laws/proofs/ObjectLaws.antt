-- Objects of the model that enforcement makes and their numbers: a number leads back to its object, and different terms have different objects.
use Rattle.std.specs.Prelude.{Contains, ◌≡◌, ◌<◌, ◌+◌, ◌-◌, ℕ, zero, suc, false, nat_lt, List, [], ◌∷◌, length, Option, None, Some, slice_get, if◌then◌else◌}
use Rattle.std.specs.List.{position}
use Rattle.std.specs.Option.{option_map, option_map_or}
use Rattle.std.proofs.Common.{refl, ap, sym, ◌∙◌, subst, arith, get_or}
use Rattle.std.proofs.lemmas.Bool.Decides.{nat_tests}
use Rattle.std.proofs.lemmas.List.Quantifiers.{position-Some}
use Rattle.object_tables.specs.Models.{ModelData}
use Rattle.object_tables.specs.Validity.{Valid}
use Rattle.qv_syntax.specs.declared.program.Program.{Program}
use Rattle.repair_semantics.specs.declared.term.Term.{Term}
use Rattle.repair_semantics.specs.Terms.{same_term}
use Rattle.repair_semantics.specs.Images.{image}
use Rattle.repair_semantics.specs.CandidateObjects.{CandidateObject, fresh_terms, number_of, object_of, term_number}
use Rattle.repair_semantics.proofs.TieLaws.{ties_are_one}
use Rattle.reading_laws.specs.Keyed.{TellsByKeys}
use Rattle.repair_laws.specs.Closed.{AreClosed}
use Rattle.repair_laws.proofs.ImageLaws.{image_is_live, one_image_one_term}

no_some : {X : Type 0} (x : X) → ◌≡◌ {A = Option X} None (Some x) → ⊥
no_some x h = cc

pub got_at : {X : Type 0} (xs : List X) (k : ℕ) (d : X) → k < length xs → slice_get xs k ≡ Some (get_or xs k d)
got_at [] k d within = absurd (omega (arith, within))
got_at (x ∷ xs) zero d within = refl
got_at (x ∷ xs) (suc k) d within = got_at xs k d (omega (arith, within))

module _ (program : Program) (m : ModelData) (terms : List Term) where
  abbrev pub fresh : List Term
  fresh = fresh_terms program m terms

  -- the place of a fresh object among them
  pub record HasPlace (t : Term) (n : ℕ) : Type 0 where
    pub place : ℕ
    pub number : n ≡ length m.objects + place
    pub within : place < length fresh
    pub is : (d : Term) → get_or fresh place d ≡ t

  pub fresh_place : (t : Term) (n : ℕ) → number_of program m terms (CandidateObject.fresh t) ≡ Some n → HasPlace t n
  fresh_place t n h = by (position (same_term t) fresh) refl h
    where
      by : (p : Option ℕ) → position (same_term t) fresh ≡ p → option_map (λ k. length m.objects + k) p ≡ Some n → HasPlace t n
      by None is e = absurd (no_some n e)
      by (Some k) is e = let number : length m.objects + k ≡ n = cc in record {
        place = k;
        number = sym number;
        within = (position-Some (same_term t) fresh k t is).0;
        is = λ d. sym ((ties_are_one t (get_or fresh k d)).0 (position-Some (same_term t) fresh k d is).1);
      }

  -- the number of a fresh object leads back to it
  pub leads_back : (t : Term) (n : ℕ) → number_of program m terms (CandidateObject.fresh t) ≡ Some n → object_of program m terms n ≡ Some (CandidateObject.fresh t)
  leads_back t n h =
      let p = fresh_place t n h in
      let number : n ≡ length m.objects + p.place = p.number in
      let past : nat_lt n (length m.objects) ≡ false = grind (arith, nat_tests) in
      let place : n - length m.objects ≡ p.place = omega (arith, number) in
      ap (λ b. if b then Some (CandidateObject.old n) else option_map (λ u. CandidateObject.fresh u) (slice_get fresh (n - length m.objects))) past
      ∙ ap (λ k. option_map (λ u. CandidateObject.fresh u) (slice_get fresh k)) place
      ∙ ap (option_map (λ u. CandidateObject.fresh u)) (got_at fresh p.place t p.within)
      ∙ ap (λ u. Some (CandidateObject.fresh u)) (p.is t)

  -- ---- different terms

  module _ (valid : Valid m) (tells : TellsByKeys program m) (closed : AreClosed program terms) where
    -- the number of a term's object: that of its image, or one behind all numbers of the model
    data IsNumbered (t : Term) (n : ℕ) : Type 0 where
      old : image program m t ≡ Some n → n < length m.objects → IsNumbered t n
      new : HasPlace t n → IsNumbered t n

    numbered : (t : Term) (n : ℕ) → term_number program m terms t ≡ Some n → IsNumbered t n
    numbered t n h = by (image program m t) refl h
      where
        by : (o : Option ℕ) → image program m t ≡ o → number_of program m terms (option_map_or (λ k. CandidateObject.old k) o (CandidateObject.fresh t)) ≡ Some n → IsNumbered t n
        by None is e = IsNumbered.new (fresh_place t n e)
        by (Some o) is e = let same : o ≡ n = cc in subst (λ k. IsNumbered t k) same (IsNumbered.old (is) (image_is_live program m t o is))

    one_number : (t u : Term) (n : ℕ) → Contains terms t → IsNumbered t n → IsNumbered u n → t ≡ u
    one_number t u n has (IsNumbered.old a l) (IsNumbered.old b k) = one_image_one_term program m terms valid tells closed t has u n a b
    one_number t u n has (IsNumbered.old a l) (IsNumbered.new p) = absurd (let e = p.number in omega (arith, l, e))
    one_number t u n has (IsNumbered.new p) (IsNumbered.old b l) = absurd (let e = p.number in omega (arith, l, e))
    one_number t u n has (IsNumbered.new p) (IsNumbered.new q) =
        let places : p.place ≡ q.place = (let a = p.number in let b = q.number in omega (arith, a, b)) in
        sym (p.is t) ∙ ap (λ k. get_or fresh k t) places ∙ q.is t

    pub one_object_one_term : (t u : Term) (n : ℕ) → Contains terms t → term_number program m terms t ≡ Some n → term_number program m terms u ≡ Some n → t ≡ u
    one_object_one_term t u n has a b = one_number t u n has (numbered t n a) (numbered u n b)
