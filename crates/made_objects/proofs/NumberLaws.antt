-- The objects that terms are: their images, and fresh ones in the order of the demanded terms without an image.
use Rattle.std.specs.Prelude.{◌≡◌, ◌≢◌, ◌<◌, ◌+◌, nat_eq, ℕ, zero, suc, Bool, true, false, cond, List, [], ◌∷◌, ◌++◌, map, length, take, set, Option, None, Some, is_none, All, AllPairs, Contains, position}
use Rattle.std.specs.List.{cons_option}
use Rattle.std.specs.Option.{option_map, option_map_or}
use Rattle.std.proofs.Common.{refl, ap, sym, ◌∙◌, arith, inl, inr, get_or, eq-eqb, true≢false}
use Rattle.std.proofs.Math.ListN.{get_or-map as mapped_at}
use Rattle.std.proofs.lemmas.Bool.{cases_eq, ne_eqb}
use Rattle.std.proofs.lemmas.List.{get_or_default, get_or-map, get_or-set_same, get_or-set_other, get_or-take, length-map, length-take, take_more}
use Rattle.std.proofs.lemmas.List.Elements.{All-contains, All-filter}
use Rattle.mof_metamodel.proofs.Facts.{contains_first}
use Rattle.object_tables.specs.declared.value.ObjId.{ObjId}
use Rattle.object_tables.specs.Models.{ModelData}
use Rattle.object_tables.proofs.ListLemmas.{filter-map_all}
use Rattle.qv_syntax.specs.declared.program.Program.{Program}
use Rattle.template_match.proofs.ListLaws.{contains_later}
use Rattle.repair_semantics.specs.declared.term.Term.{Term}
use Rattle.repair_semantics.specs.Terms.{same_term}
use Rattle.repair_semantics.specs.Images.{image}
use Rattle.repair_semantics.specs.Deletions.{images_of}
use Rattle.repair_semantics.specs.CandidateObjects.{CandidateObject, fresh_terms, number_of, term_number}
use Rattle.repair_semantics.proofs.TieLaws.{ties_are_one}
use Rattle.term_table.specs.TermTables.{no_term, term_at, AreDistinct}
use Rattle.term_images.specs.ClassIndexes.{number_of as id_number}
use Rattle.term_images.specs.FoundImages.{image_numbers}
use Rattle.candidate_laws.proofs.Lists.{from_filter}
use Rattle.made_objects.specs.Making.{terms_at}
use Rattle.made_objects.specs.Numbers.{object_number, number_at, object_in, known_in, unknown_in, numbered_at}
use Rattle.made_objects.proofs.PlaceLaws.{no_position, or_last, position_push, position_map}

-- ---- fresh numbers, one after another

-- an earlier one is another one
earlier : (fresh : List ℕ) (place x : ℕ) → AllPairs (λ (a b : ℕ). a ≢ b) fresh → place < length fresh → Contains (take place fresh) x
    → x ≢ get_or fresh place 0
earlier fresh place x once within (j, below, is) same =
    let cut = length-take place fresh in
    let before : j < place = omega (arith, cut, below, within) in
    once j place x before within (sym (get_or-take place fresh j x before) ∙ is ∙ same ∙ get_or_default fresh place 0 x within)

pub next_numbered : (old objects new : List (Option ObjId)) (end place term : ℕ) (fresh : List ℕ) → AllPairs (λ (a b : ℕ). a ≢ b) fresh
    → place < length fresh → term ≡ get_or fresh place 0 → term < length objects → new ≡ set objects term (Some (record { 0 = end + place }))
    → ((k : ℕ) → object_in objects k ≡ numbered_at old end (take place fresh) k)
    → (k : ℕ) → object_in new k ≡ numbered_at old end (take (place + 1) fresh) k
next_numbered old objects new end place term fresh once within this inside written before k = elim (cases_eq k term) [
  | inl same ↦ (
      let found : position (nat_eq k) (take (place + 1) fresh) ≡ Some place =
      ap (position (nat_eq k)) more ∙ position_push (nat_eq k) (take place fresh) term
      ∙ ap (λ o. or_last (nat_eq k) o (nat_eq k term) (length (take place fresh)))
      (no_position (nat_eq k) (take place fresh) (λ x there. ne_eqb k x (λ e. earlier fresh place x once within there (sym e ∙ same ∙ this))))
      ∙ ap (λ b. cond b (Some (length (take place fresh))) None) (eq-eqb k term same)
      ∙ ap (λ n. Some n) short in
      ap (λ xs. get_or xs k None) written ∙ ap (λ n. get_or (set objects term (Some (record { 0 = end + place }))) n None) same
      ∙ get_or-set_same objects term (Some (record { 0 = end + place })) None inside
      ∙ sym (ap (λ o. option_map_or (λ n. Some (record { 0 = end + n })) o (object_in old k)) found))
  | inr other ↦ (
      let unmoved : position (nat_eq k) (take (place + 1) fresh) ≡ position (nat_eq k) (take place fresh) =
      ap (position (nat_eq k)) more ∙ position_push (nat_eq k) (take place fresh) term
      ∙ ap (λ b. or_last (nat_eq k) (position (nat_eq k) (take place fresh)) b (length (take place fresh))) (ne_eqb k term other)
      ∙ unfound (position (nat_eq k) (take place fresh)) in
      ap (λ xs. get_or xs k None) written ∙ get_or-set_other objects term k (Some (record { 0 = end + place })) None other ∙ before k
      ∙ sym (ap (λ o. option_map_or (λ n. Some (record { 0 = end + n })) o (object_in old k)) unmoved))
]
  where
    more : take (place + 1) fresh ≡ take place fresh ++ term ∷ []
    more = take_more fresh place 0 within ∙ ap (λ t. take place fresh ++ t ∷ []) (sym this)

    short : length (take place fresh) ≡ place
    short = let cut = length-take place fresh in omega (arith, cut, within)

    unfound : (o : Option ℕ) → or_last (nat_eq k) o false (length (take place fresh)) ≡ o
    unfound None = refl
    unfound (Some i) = refl

-- ---- where the list has the images of the terms of a table

module _ (program : Program) (m : ModelData) (table : List Term) (terms : List ℕ) (objects : List (Option ObjId))
    (found : image_numbers objects ≡ map (image program m) table) (within : All (λ n. n < length table) terms) where
  pub as_many : length objects ≡ length table
  as_many = sym (length-map objects (option_map id_number)) ∙ ap (λ (ns : List (Option ℕ)). length ns) found ∙ length-map table (image program m)

  image_in : (k : ℕ) → k < length table → option_map id_number (object_in objects k) ≡ image program m (term_at table k)
  image_in k inside =
      sym (mapped_at (option_map id_number) objects k None) ∙ ap (λ (ns : List (Option ℕ)). get_or ns k None) found
      ∙ get_or-map (image program m) table k no_term None inside

  inside_of : (k : ℕ) → Contains terms k → k < length table
  inside_of k there = All-contains (λ n. n < length table) terms k within there

  -- the images of the terms
  known_from : (ks : List ℕ) → ((k : ℕ) → Contains ks k → k < length table)
      → map (λ (o : ObjId). o.0) (known_in objects ks) ≡ images_of program m (terms_at table ks)
  known_from [] inside = refl
  known_from (k ∷ ks) inside =
      step (object_in objects k)
      ∙ ap (λ o. cons_option o (map (λ (o : ObjId). o.0) (known_in objects ks))) (image_in k (inside k (contains_first k ks)))
      ∙ ap (cons_option (image program m (term_at table k))) (known_from ks (λ j c. inside j (contains_later j k ks c)))
    where
      step : (o : Option ObjId) → map (λ (o : ObjId). o.0) (cons_option o (known_in objects ks))
          ≡ cons_option (option_map id_number o) (map (λ (o : ObjId). o.0) (known_in objects ks))
      step None = refl
      step (Some o) = refl

  pub known_images : map (λ (o : ObjId). o.0) (known_in objects terms) ≡ images_of program m (terms_at table terms)
  known_images = known_from terms inside_of

  -- the terms without an image
  pub unknown_fresh : terms_at table (unknown_in objects terms) ≡ fresh_terms program m (terms_at table terms)
  unknown_fresh =
      filter-map_all (term_at table) (λ t. is_none (object_in objects t)) (λ t. is_none (image program m t)) terms
      (λ k there. ap is_none (sym (image_in k (inside_of k there))) ∙ kept (object_in objects k))
    where
      kept : (o : Option ObjId) → is_none (option_map id_number o) ≡ is_none o
      kept None = refl
      kept (Some o) = refl

  pub unknown_within : All (λ n. n < length table) (unknown_in objects terms)
  unknown_within = All-filter (λ t. is_none (object_in objects t)) (λ n. n < length table) terms within

  -- ---- the number of each term

  read_at : (list : List (Option ObjId)) (k : ℕ) → number_at list k ≡ object_number (object_in list k)
  read_at [] k = refl
  read_at (o ∷ os) zero = refl
  read_at (o ∷ os) (suc k) = read_at os k

  module _ (distinct : AreDistinct table) (new : List (Option ObjId)) (end : ℕ) (is_end : end ≡ length m.objects)
      (numbered : (k : ℕ) → object_in new k ≡ numbered_at objects end (unknown_in objects terms) k) where
    absent : (k : ℕ) (o : ObjId) → object_in objects k ≡ Some o → (x : ℕ) → Contains (unknown_in objects terms) x → nat_eq k x ≡ false
    absent k o is x there = ne_eqb k x (λ same. true≢false
        (sym (from_filter (λ t. is_none (object_in objects t)) terms x there).1
        ∙ ap (λ t. is_none (object_in objects t)) (sym same) ∙ ap is_none is))

    one_number : (k x : ℕ) → k < length table → x < length table → same_term (term_at table k) (term_at table x) ≡ nat_eq k x
    one_number k x a b = elim (cases_eq k x) [
      | inl same ↦ (ties_are_one (term_at table k) (term_at table x)).1 (ap (term_at table) same) ∙ sym (eq-eqb k x same)
      | inr other ↦ by other (same_term (term_at table k) (term_at table x)) refl ∙ sym (ne_eqb k x other)
    ]
      where
        by : k ≢ x → (t : Bool) → same_term (term_at table k) (term_at table x) ≡ t → t ≡ false
        by other false h = refl
        by other true h = absurd (other (distinct k x a b ((ties_are_one (term_at table k) (term_at table x)).0 h)))

    fresh_number : (p : Option ℕ) (o : Option ObjId) → o ≡ None
        → object_number (option_map_or (λ j. Some (record { 0 = end + j })) p o) ≡ option_map (λ j. end + j) p
    fresh_number None o is = ap object_number is
    fresh_number (Some j) o is = refl

    pub numbers_of_terms : (k : ℕ) → k < length table → number_at new k ≡ term_number program m (terms_at table terms) (term_at table k)
    numbers_of_terms k inside = read_at new k ∙ ap object_number (numbered k) ∙ by (object_in objects k) refl
      where
        imaged : (o : Option ObjId) → object_in objects k ≡ o
            → term_number program m (terms_at table terms) (term_at table k)
            ≡ number_of program m (terms_at table terms)
            (option_map_or (λ n. CandidateObject.old n) (option_map id_number o) (CandidateObject.fresh (term_at table k)))
        imaged o is = sym (ap
            (λ i. number_of program m (terms_at table terms) (option_map_or (λ n. CandidateObject.old n) i (CandidateObject.fresh (term_at table k))))
            (sym (ap (option_map id_number) is) ∙ image_in k inside))

        by : (o : Option ObjId) → object_in objects k ≡ o
            → object_number (numbered_at objects end (unknown_in objects terms) k) ≡ term_number program m (terms_at table terms) (term_at table k)
        by (Some o) is =
            ap object_number
            (ap (λ p. option_map_or (λ j. Some (record { 0 = end + j })) p (object_in objects k))
            (no_position (nat_eq k) (unknown_in objects terms) (absent k o is)) ∙ is)
            ∙ sym (imaged (Some o) is)
        by None is =
            fresh_number (position (nat_eq k) (unknown_in objects terms)) (object_in objects k) is
            ∙ ap (λ e. option_map (λ j. e + j) (position (nat_eq k) (unknown_in objects terms))) is_end
            ∙ ap (option_map (λ j. length m.objects + j))
            (sym (position_map (nat_eq k) (same_term (term_at table k)) (term_at table) (unknown_in objects terms)
            (λ x there. one_number k x inside (All-contains (λ n. n < length table) (unknown_in objects terms) x unknown_within there)))
            ∙ ap (position (same_term (term_at table k))) unknown_fresh)
            ∙ sym (imaged None is)
