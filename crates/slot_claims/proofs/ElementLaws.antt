-- The elements that claims put into a slot: those of its claims, in their order; and what is told of a list of elements in order.
use Rattle.std.specs.Prelude.{◌≡◌, ◌+◌, ◌<◌, ℕ, zero, suc, nat_lt, Bool, true, false, ◌&&◌, ◌||◌, ◌==◌, not, List, [], ◌∷◌, ◌++◌, map, filter, length, take, Option, None, Some, Result, Ok, Err, is_ok, if◌then◌else◌}
use Rattle.std.specs.List.{AllByRecursion, list_any, cons_option}
use Rattle.std.specs.List.Sorted.{IsStrictlySortedBy, IsSorted, IsPermutation, IsBinarySearchResult, IsSearchInRange, IsPartitionPoint}
use Rattle.std.specs.Ordering.{is_eq, ordering_reverse}
use Rattle.std.specs.declared.cmp.Ordering.{Ordering}
use Rattle.std.specs.declared.cmp.Ordering.TheVariants.{Less, Equal, Greater}
use Rattle.std.proofs.Common.{refl, sym, ap, ◌∙◌, arith, get_or}
use Rattle.std.proofs.lemmas.Cmp.{nat_eq_equiv}
use Rattle.std.proofs.lemmas.Bool.Decides.{nat_tests}
use Rattle.std.proofs.lemmas.List.Kept.{IsStrictlySortedBy-filter}
use mathlib.Core.Path.{fun_ext}
use Rattle.std.proofs.lemmas.List.{take_more, map-append}
use Rattle.std.proofs.lemmas.List.Elements.{filter-append, filter_map-append}
use Rattle.std.proofs.lemmas.List.Sorted.{searchable_from_sorted, list_any-IsPermutation}
use Rattle.std.proofs.lemmas.Map.Views.{exact_unsigned_eq}
use Rattle.demand_conflicts.proofs.SaidLaws.{number_itself, held_is, held_itself}
use Rattle.repair_semantics.specs.Claims.{Held, Spot, Said, Claim, same_held, same_spot}
use Rattle.repair_semantics.specs.Images.{same_number}
use Rattle.repair_semantics.specs.Terms.{each_once}
use Rattle.repair_semantics.specs.Candidates.{element_at, claimed_at, held_order, others_than, with_claimed}
use Rattle.std.specs.Option.{option_to_list}
use Rattle.slot_claims.specs.declared.held_value.Element.{Element}
use Rattle.slot_claims.specs.declared.claim.ObjectClaim.{ObjectClaim}
use Rattle.slot_claims.specs.HeldValues.{element_by}
use Rattle.slot_claims.specs.ObjectClaims.{said_by, claim_by, is_of_spot, element_in, elements_in}
use Rattle.slot_claims.specs.ClaimOrder.{claim_order, element_order}
use Rattle.slot_claims.proofs.ListLaws.{same_by_order}
use Rattle.slot_claims.proofs.OnceLaws.{sorted_is_once}
use Rattle.slot_claims.proofs.OrderLaws.{held_total, held_exact, claims_of_one_spot}

-- ---- the claims of a slot

module _ (o p : ℕ) where
  no_element : (b : Bool) → ◌≡◌ {A = Option (Held ℕ)} None (if b then None else None)
  no_element true = refl
  no_element false = refl

  -- an element of the slot is what a claim of its place says
  element_of_spot : (s : Spot ℕ) (a : Said ℕ) → element_at o p s a ≡ (if same_spot same_number (Spot.slot o p) s then element_in a else None)
  element_of_spot (Spot.slot x q) (Said.element h) =
      ap (λ b. if b && (q == p) then Some h else None) (nat_eq_equiv.symm x o)
      ∙ ap (λ b. if (o == x) && b then Some h else None) (nat_eq_equiv.symm q p)
  element_of_spot (Spot.slot x q) (Said.within y r) = no_element (same_spot same_number (Spot.slot o p) (Spot.slot x q))
  element_of_spot (Spot.container x) (Said.element h) = refl
  element_of_spot (Spot.container x) (Said.within y r) = refl

  -- what claims put into a slot is what those of its place put there
  pub claimed_there : (cs : List (Claim ℕ)) → claimed_at cs o p ≡ elements_in (filter (is_of_spot (Spot.slot o p)) cs)
  claimed_there [] = refl
  claimed_there (c ∷ cs) =
      ap (λ h. cons_option h (claimed_at cs o p)) (element_of_spot c.spot c.said)
      ∙ ap (cons_option (if is_of_spot (Spot.slot o p) c then element_in c.said else None)) (claimed_there cs)
      ∙ by (is_of_spot (Spot.slot o p) c)
    where
      by : (b : Bool) → cons_option (if b then element_in c.said else None) (elements_in (filter (is_of_spot (Spot.slot o p)) cs))
          ≡ elements_in (if b then c ∷ filter (is_of_spot (Spot.slot o p)) cs else filter (is_of_spot (Spot.slot o p)) cs)
      by true = refl
      by false = refl

  -- ---- they stand in order

  not_none : (h : Held ℕ) → ◌≡◌ {A = Option (Held ℕ)} None (Some h) → ⊥
  not_none h is = cc

  same_element : (h i : Held ℕ) → ◌≡◌ {A = Option (Held ℕ)} (Some h) (Some i) → h ≡ i
  same_element h i is = cc

  abbrev IsElement : Held ℕ → Claim ℕ → Type 0
  IsElement h c = c ≡ record { spot = Spot.slot o p; said = Said.element h }

  slot_is : (x q : ℕ) (h : Held ℕ) → x ≡ o → q ≡ p
      → ◌≡◌ {A = Claim ℕ} (record { spot = Spot.slot x q; said = Said.element h }) (record { spot = Spot.slot o p; said = Said.element h })
  slot_is x q h e f =
      let at : ℕ → ℕ → Claim ℕ = λ y r. record { spot = Spot.slot y r; said = Said.element h } in
      ap (λ y. at y q) e ∙ ap (at o) f

  element_from : (s : Spot ℕ) (a : Said ℕ) (h : Held ℕ) → element_at o p s a ≡ Some h → IsElement h (record { spot = s; said = a })
  element_from (Spot.slot x q) (Said.element i) h is = by (x == o) (q == p) refl refl is
    where
      by : (b c : Bool) → (x == o) ≡ b → (q == p) ≡ c → (if b && c then Some i else None) ≡ Some h
          → IsElement h (record { spot = Spot.slot x q; said = Said.element i })
      by true true e f g =
          slot_is x q i (exact_unsigned_eq x o e) (exact_unsigned_eq q p f)
          ∙ ap (λ j. record { spot = Spot.slot o p; said = Said.element j }) (same_element i h g)
      by true false e f g = absurd (not_none h g)
      by false c e f g = absurd (not_none h g)
  element_from (Spot.slot x q) (Said.within y r) h is = absurd (not_none h is)
  element_from (Spot.container x) (Said.element i) h is = absurd (not_none h is)
  element_from (Spot.container x) (Said.within y r) h is = absurd (not_none h is)

  elements_stand : (c d : Claim ℕ) (h i : Held ℕ) → IsElement h c → IsElement i d → claim_order c d ≡ Less → held_order h i ≡ Less
  elements_stand c d h i is also less =
      sym (ap (λ x. claim_order x d) is ∙ ap (claim_order (record { spot = Spot.slot o p; said = Said.element h })) also
      ∙ claims_of_one_spot (Spot.slot o p) (Said.element h) (Said.element i)) ∙ less

  all_behind : (c : Claim ℕ) (h : Held ℕ) → IsElement h c → (ds : List (Claim ℕ)) → AllByRecursion (λ d. claim_order c d ≡ Less) ds
      → AllByRecursion (λ i. held_order h i ≡ Less) (claimed_at ds o p)
  all_behind c h is [] a = tt
  all_behind c h is (d ∷ ds) a = by (element_at o p d.spot d.said) refl (all_behind c h is ds a.1)
    where
      by : (e : Option (Held ℕ)) → element_at o p d.spot d.said ≡ e → AllByRecursion (λ i. held_order h i ≡ Less) (claimed_at ds o p)
          → AllByRecursion (λ i. held_order h i ≡ Less) (cons_option e (claimed_at ds o p))
      by None at rest = rest
      by (Some i) at rest = (elements_stand c d h i is (element_from d.spot d.said i at) a.0, rest)

  claimed_sorted : (cs : List (Claim ℕ)) → IsStrictlySortedBy claim_order cs → IsStrictlySortedBy held_order (claimed_at cs o p)
  unfolding IsStrictlySortedBy
  claimed_sorted [] up = tt
  claimed_sorted (c ∷ cs) up = by (element_at o p c.spot c.said) refl (claimed_sorted cs up.1)
    where
      by : (e : Option (Held ℕ)) → element_at o p c.spot c.said ≡ e → IsStrictlySortedBy held_order (claimed_at cs o p)
          → IsStrictlySortedBy held_order (cons_option e (claimed_at cs o p))
      by None at rest = rest
      by (Some h) at rest = (all_behind c h (element_from c.spot c.said h at) cs up.0, rest)

  -- what is claimed besides what is kept, of claims in order
  besides : (kept : List (Held ℕ)) (cs : List (Claim ℕ)) → IsStrictlySortedBy claim_order cs
      → others_than kept (elements_in (filter (is_of_spot (Spot.slot o p)) cs)) ≡ each_once held_order (others_than kept (claimed_at cs o p))
  besides kept cs up =
      let others = others_than kept (claimed_at cs o p) in
      ap (others_than kept) (sym (claimed_there cs))
      ∙ sorted_is_once held_order held_total held_exact others others
      (IsStrictlySortedBy-filter held_order (λ h. not (list_any (same_held same_number h) kept)) (claimed_at cs o p) (claimed_sorted cs up))
      (record { there = λ h c. c; back = λ h c. c })

  -- what the slot holds, by what it keeps and by the claims of its place
  pub contents_are : (kept elements : List (Held ℕ)) (cs there : List (Claim ℕ)) → IsStrictlySortedBy claim_order cs → kept ≡ elements
      → there ≡ filter (is_of_spot (Spot.slot o p)) cs
      → kept ++ others_than kept (elements_in there) ≡ with_claimed elements (claimed_at cs o p)
  contents_are kept elements cs there up is at =
      ap (λ hs. kept ++ others_than kept (elements_in hs)) at ∙ ap (λ hs. kept ++ hs) (besides kept cs up)
      ∙ ap (λ hs. with_claimed hs (claimed_at cs o p)) is

-- ---- claimed elements, one after another

claimed_again : (cs : List (Claim ℕ)) (c : Claim ℕ) → elements_in (cs ++ c ∷ []) ≡ elements_in cs ++ option_to_list (element_in c.said)
claimed_again cs c = filter_map-append (λ (d : Claim ℕ). element_in d.said) cs (c ∷ []) ∙ ap (λ hs. elements_in cs ++ hs) (by (element_in c.said))
  where
    by : (h : Option (Held ℕ)) → cons_option h [] ≡ option_to_list h
    by None = refl
    by (Some h) = refl

-- one claim more
pub others_more : (kept : List (Held ℕ)) (cs : List ObjectClaim) (k : ℕ) (c : ObjectClaim) → k < length cs → c ≡ get_or cs k c
    → others_than kept (elements_in (map claim_by (take (k + 1) cs)))
    ≡ others_than kept (elements_in (map claim_by (take k cs))) ++ others_than kept (option_to_list (element_in (said_by c.said)))
others_more kept cs k c within is =
    let upto = map claim_by (take k cs) in
    let not_kept : Held ℕ → Bool = λ h. not (list_any (same_held same_number h) kept) in
    let next : map claim_by (take (k + 1) cs) ≡ upto ++ claim_by c ∷ [] =
    ap (map claim_by) (take_more cs k c within) ∙ map-append claim_by (take k cs) (get_or cs k c ∷ []) ∙ ap (λ d. upto ++ claim_by d ∷ []) (sym is)
    in
    ap (λ ds. others_than kept (elements_in ds)) next ∙ ap (others_than kept) (claimed_again upto (claim_by c))
    ∙ filter-append not_kept (elements_in upto) (option_to_list (element_in (said_by c.said)))

-- those that are kept, in another order
pub others_alike : (kept sorted hs : List (Held ℕ)) → IsPermutation kept sorted → others_than sorted hs ≡ others_than kept hs
others_alike kept sorted hs moved =
    ap (λ test. filter test hs) (fun_ext (λ h. ap not (sym (list_any-IsPermutation (same_held same_number h) kept sorted moved))))

-- ---- elements that are looked up

held_ties : (h i : Held ℕ) → same_held same_number h i ≡ is_eq (held_order h i)
held_ties =
    same_by_order (same_held same_number) held_order held_total held_exact (held_is same_number exact_unsigned_eq number_itself)
    (held_itself same_number exact_unsigned_eq number_itself)

held_ties_back : (h i : Held ℕ) → same_held same_number h i ≡ is_eq (held_order i h)
held_ties_back h i = held_ties h i ∙ by (held_order i h) (held_order h i) (held_total.antisymm h i)
  where
    by : (o q : Ordering) → q ≡ ordering_reverse o → is_eq q ≡ is_eq o
    by Less q is = ap is_eq is
    by Equal q is = ap is_eq is
    by Greater q is = ap is_eq is

module _ (es : List Element) (e : Element) where
  -- how an element stands to this one
  abbrev stands : Element → Ordering
  stands f = element_order f e

  tie_there : (fs : List Element) (k : ℕ) → k < length fs → ((d : Element) → stands (get_or fs k d) ≡ Equal)
      → list_any (same_held same_number (element_by e)) (map element_by fs) ≡ true
  tie_there [] k l h = absurd (omega (arith, l))
  tie_there (f ∷ fs) zero l h =
      ap (λ b. b || list_any (same_held same_number (element_by e)) (map element_by fs))
      (held_ties_back (element_by e) (element_by f) ∙ ap is_eq (h f))
  tie_there (f ∷ fs) (suc k) l h = later (same_held same_number (element_by e) (element_by f)) (tie_there fs k (omega (arith, l)) h)
    where
      later : (b : Bool) → list_any (same_held same_number (element_by e)) (map element_by fs) ≡ true
          → (b || list_any (same_held same_number (element_by e)) (map element_by fs)) ≡ true
      later true g = refl
      later false g = g

  no_tie : (fs : List Element) → ((k : ℕ) (d : Element) → k < length fs → is_eq (stands (get_or fs k d)) ≡ false)
      → list_any (same_held same_number (element_by e)) (map element_by fs) ≡ false
  no_tie [] h = refl
  no_tie (f ∷ fs) h =
      ap (λ b. b || list_any (same_held same_number (element_by e)) (map element_by fs))
      (held_ties_back (element_by e) (element_by f) ∙ h 0 f (omega arith))
      ∙ no_tie fs (λ k d l. h (suc k) d (omega (arith, l)))

  -- what a search in halves of elements in order answers
  pub found_among : IsSorted element_order es → (r : Result ℕ ℕ) → IsSearchInRange r (length es) → IsBinarySearchResult stands es r
      → is_ok r ≡ list_any (same_held same_number (element_by e)) (map element_by es)
  found_among up (Ok k) within at = sym (tie_there es k within at)
  found_among up (Err i) within point =
      let at = point (searchable_from_sorted held_total element_by es (element_by e) up) in
      sym (no_tie es (λ k d l. by k d l at (nat_lt k i) refl))
    where
      by : (k : ℕ) (d : Element) → k < length es → IsPartitionPoint (λ f. stands f ≡ Less) (λ f. stands f ≡ Greater) es i → (b : Bool)
          → nat_lt k i ≡ b → is_eq (stands (get_or es k d)) ≡ false
      by k d l at true is = ap is_eq (at.0 k d (omega arith) (grind (arith, nat_tests)))
      by k d l at false is = ap is_eq (at.1 k d (grind (arith, nat_tests)) l)
