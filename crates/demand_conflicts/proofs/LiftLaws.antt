-- Claims of numbered demands are the claims of the demands, number by number: two exclude each other exactly where those do, in a table
-- in which no two terms are equal.
use Rattle.std.specs.Prelude.{◌≡◌, ◌<◌, ℕ, zero, suc, nat_eq, Bool, true, false, ◌&&◌, not, List, [], ◌∷◌, ◌++◌, map, length, Option, None, Some, MatchOption, Result, Ok, Err, IfOk, All, Contains, slice_get}
use Rattle.std.specs.Option.{option_map}
use Rattle.std.proofs.Common.{refl, ap, sym, subst, ◌∙◌}
use Rattle.std.proofs.lemmas.List.{map-append}
use Rattle.std.proofs.lemmas.List.Elements.{All-nil, All-cons, All-append, All-contains, filter_passes}
use Rattle.std.proofs.lemmas.Option.{none-some, same_Some, slice_get-map}
use Rattle.mof_metamodel.specs.declared.desc.MetaDesc.{MetaDesc}
use Rattle.mof_metamodel.specs.Metamodels.{prop_at, opposite_of}
use Rattle.mof_metamodel.proofs.Facts.{contains_at, contains_map}
use Rattle.object_tables.proofs.ListLemmas.{Contains-from_map, Contains-filter}
use Rattle.object_tables.proofs.SlotLemmas.{Contains-to_filter}
use Rattle.repair_semantics.specs.declared.term.Term.{Term}
use Rattle.repair_semantics.specs.declared.term.TermValue.{out-TermValue, out-roll-TermValue}
use Rattle.repair_semantics.specs.declared.term.TermValue.TheOpen as of
use Rattle.repair_semantics.specs.declared.term.TermValue.TheVariants as values
use Rattle.repair_semantics.specs.Terms.{same_term}
use Rattle.repair_semantics.specs.Claims.{Held, Fact, Spot, Said, Claim, part_claim, opposite_claims, far_claims, claims_of, is_single_spot, same_spot, same_said}
use Rattle.repair_semantics.specs.Conflicts.{held_in, fact_of, IsToldPlace, AreAtPeace}
use Rattle.repair_semantics.proofs.TieLaws.{ties_are_one}
use Rattle.term_table.specs.declared.numbered.NumberedValue.{NumberedValue}
use Rattle.term_table.specs.declared.numbered.NumberedValue.TheVariants as numbered
use Rattle.term_table.specs.TermTables.{term_at, value_in, IsWithin, AreDistinct}
use Rattle.demand_conflicts.specs.declared.demand.NumberedDemand.{NumberedDemand}
use Rattle.demand_conflicts.specs.declared.conflict.FoundConflict.{FoundConflict}
use Rattle.demand_conflicts.specs.NumberedClaims.{held_by, fact_by, is_single, single_claims}
use Rattle.demand_conflicts.specs.NumberedDemands.{demand_in, demands_in, IsDemandWithin, IsFound}
use Rattle.demand_conflicts.specs.NumberedConflicts.{HasClaim, AreAgreed, IsNumberedPlace, IsNumberedConflict}
use Rattle.demand_conflicts.proofs.SaidLaws.{spot_is, spot_itself, said_is, said_itself, number_said_itself}

-- ---- Booleans

three_true : (a b c : Bool) → (a && b && c) ≡ true → (a ≡ true) × (b ≡ true) × (c ≡ true)
three_true true true true h = (refl, refl, refl)
three_true true true false h = absurd (cc)
three_true true false c h = absurd (cc)
three_true false b c h = absurd (cc)

all_true : (a b c : Bool) → a ≡ true → b ≡ true → c ≡ true → (a && b && c) ≡ true
all_true a b c x y z = ap (λ t. t && b && c) x ∙ ap (λ t. true && t && c) y ∙ ap (λ t. true && true && t) z

-- ---- objects for objects

module _ {X Y : Type 0} (f : X → Y) where
  -- a fact, a place and a claim of other objects
  abbrev pub held_as : Held X → Held Y
  held_as (Held.datum d) = Held.datum d
  held_as (Held.object x) = Held.object (f x)

  abbrev pub fact_as : Fact X → Fact Y
  fact_as a = record { owner = f a.owner; prop = a.prop; holds = held_as a.holds }

  abbrev pub spot_as : Spot X → Spot Y
  spot_as (Spot.slot x p) = Spot.slot (f x) p
  spot_as (Spot.container x) = Spot.container (f x)

  abbrev pub said_as : Said X → Said Y
  said_as (Said.element h) = Said.element (held_as h)
  said_as (Said.within x p) = Said.within (f x) p

  abbrev pub claim_as : Claim X → Claim Y
  claim_as c = record { spot = spot_as c.spot; said = said_as c.said }

  part_as : (b : Bool) (part whole : X) (p : ℕ) → part_claim b (f part) (f whole) p ≡ map claim_as (part_claim b part whole p)
  part_as true part whole p = refl
  part_as false part whole p = refl

  opposite_as : (meta : MetaDesc) (a b : X) (o : Option ℕ) → opposite_claims meta (f a) (f b) o ≡ map claim_as (opposite_claims meta a b o)
  opposite_as meta a b None = refl
  opposite_as meta a b (Some q) =
      let slot : Claim Y = record { spot = Spot.slot (f b) q; said = Said.element (Held.object (f a)) } in
      ap (λ cs. slot ∷ cs) (part_as (prop_at meta q).composite a b q)

  far_as : (meta : MetaDesc) (a : X) (p : ℕ) (h : Held X) → far_claims meta (f a) p (held_as h) ≡ map claim_as (far_claims meta a p h)
  far_as meta a p (Held.datum d) = refl
  far_as meta a p (Held.object b) =
      let far = opposite_claims meta a b (opposite_of meta p) in
      let composite = (prop_at meta p).composite in
      ap (λ cs. cs ++ part_claim composite (f b) (f a) p) (opposite_as meta a b (opposite_of meta p)) ∙ ap (λ cs. map claim_as far ++ cs) (part_as composite b a p)
      ∙ sym (map-append claim_as far (part_claim composite b a p))

  -- the claims of a fact between other objects
  pub claims_as : (meta : MetaDesc) (a : Fact X) → claims_of meta (fact_as a) ≡ map claim_as (claims_of meta a)
  claims_as meta a =
      let slot : Claim Y = record { spot = Spot.slot (f a.owner) a.prop; said = Said.element (held_as a.holds) } in
      ap (λ cs. slot ∷ cs) (far_as meta a.owner a.prop a.holds)

  single_as : (meta : MetaDesc) (s : Spot X) → is_single_spot meta (spot_as s) ≡ is_single_spot meta s
  single_as meta (Spot.slot x p) = refl
  single_as meta (Spot.container x) = refl

-- ---- numbers below a bound

abbrev IsHeldWithin : ℕ → Held ℕ → Type 0
IsHeldWithin n (Held.datum d) = Unit {0}
IsHeldWithin n (Held.object x) = x < n

abbrev IsSpotWithin : ℕ → Spot ℕ → Type 0
IsSpotWithin n (Spot.slot x p) = x < n
IsSpotWithin n (Spot.container x) = x < n

abbrev IsSaidWithin : ℕ → Said ℕ → Type 0
IsSaidWithin n (Said.element h) = IsHeldWithin n h
IsSaidWithin n (Said.within x p) = x < n

abbrev IsClaimWithin : ℕ → Claim ℕ → Type 0
IsClaimWithin n c = IsSpotWithin n c.spot × IsSaidWithin n c.said

module _ (n : ℕ) where
  abbrev AreWithin : List (Claim ℕ) → Type 0
  AreWithin cs = All (IsClaimWithin n) cs

  none_within : AreWithin []
  none_within = All-nil (IsClaimWithin n)

  part_within : (b : Bool) (part whole p : ℕ) → part < n → whole < n → AreWithin (part_claim b part whole p)
  part_within true part whole p l k = All-cons (IsClaimWithin n) (record { spot = Spot.container part; said = Said.within whole p }) [] (l, k) none_within
  part_within false part whole p l k = none_within

  opposite_within : (meta : MetaDesc) (a b : ℕ) (o : Option ℕ) → a < n → b < n → AreWithin (opposite_claims meta a b o)
  opposite_within meta a b None l k = none_within
  opposite_within meta a b (Some q) l k =
      let composite = (prop_at meta q).composite in
      All-cons (IsClaimWithin n) (record { spot = Spot.slot b q; said = Said.element (Held.object a) }) (part_claim composite a b q) (k, l) (part_within composite a b q l k)

  far_within : (meta : MetaDesc) (a p : ℕ) (h : Held ℕ) → a < n → IsHeldWithin n h → AreWithin (far_claims meta a p h)
  far_within meta a p (Held.datum d) l k = none_within
  far_within meta a p (Held.object b) l k =
      let o = opposite_of meta p in
      let composite = (prop_at meta p).composite in
      All-append (IsClaimWithin n) (opposite_claims meta a b o) (part_claim composite b a p) (opposite_within meta a b o l k) (part_within composite b a p k l)

  claims_within : (meta : MetaDesc) (a : Fact ℕ) → a.owner < n → IsHeldWithin n a.holds → AreWithin (claims_of meta a)
  claims_within meta a l k =
      All-cons (IsClaimWithin n) (record { spot = Spot.slot a.owner a.prop; said = Said.element a.holds }) (far_claims meta a.owner a.prop a.holds) (l, k) (far_within meta a.owner a.prop a.holds l k)

module _ {Y : Type 0} (f : ℕ → Y) (n : ℕ) (apart : (i j : ℕ) → i < n → j < n → f i ≡ f j → i ≡ j) where
  spot_apart : (s t : Spot ℕ) → IsSpotWithin n s → IsSpotWithin n t → spot_as f s ≡ spot_as f t → s ≡ t
  spot_apart (Spot.slot x p) (Spot.slot y q) l k e = let g : f x ≡ f y = cc in let h : p ≡ q = cc in ap (λ z. Spot.slot z p) (apart x y l k g) ∙ ap (Spot.slot y) h
  spot_apart (Spot.slot x p) (Spot.container y) l k e = absurd (cc)
  spot_apart (Spot.container x) (Spot.slot y q) l k e = absurd (cc)
  spot_apart (Spot.container x) (Spot.container y) l k e = let g : f x ≡ f y = cc in ap Spot.container (apart x y l k g)

  held_apart : (h i : Held ℕ) → IsHeldWithin n h → IsHeldWithin n i → held_as f h ≡ held_as f i → h ≡ i
  held_apart (Held.datum d) (Held.datum v) l k e = let g : d ≡ v = cc in ap Held.datum g
  held_apart (Held.datum d) (Held.object y) l k e = absurd (cc)
  held_apart (Held.object x) (Held.datum v) l k e = absurd (cc)
  held_apart (Held.object x) (Held.object y) l k e = let g : f x ≡ f y = cc in ap Held.object (apart x y l k g)

  said_apart : (a b : Said ℕ) → IsSaidWithin n a → IsSaidWithin n b → said_as f a ≡ said_as f b → a ≡ b
  said_apart (Said.element h) (Said.element i) l k e = let g : held_as f h ≡ held_as f i = cc in ap Said.element (held_apart h i l k g)
  said_apart (Said.element h) (Said.within y q) l k e = absurd (cc)
  said_apart (Said.within x p) (Said.element i) l k e = absurd (cc)
  said_apart (Said.within x p) (Said.within y q) l k e = let g : f x ≡ f y = cc in let h : p ≡ q = cc in ap (λ z. Said.within z p) (apart x y l k g) ∙ ap (Said.within y) h

-- ---- demands in a table

get_from_map : {X Y : Type 0} (f : X → Y) (xs : List X) (k : ℕ) (y : Y) → slice_get (map f xs) k ≡ Some y → (x : X) × (slice_get xs k ≡ Some x) × (f x ≡ y)
get_from_map f [] k y h = absurd (none-some y h)
get_from_map f (x ∷ xs) zero y h = (x, refl, same_Some (f x) y h)
get_from_map f (x ∷ xs) (suc k) y h = get_from_map f xs k y h

term_is : (t u : Term) → same_term t u ≡ true → t ≡ u
term_is t u = (ties_are_one t u).0

term_itself : (t : Term) → same_term t t ≡ true
term_itself t = (ties_are_one t t).1 refl

module _ (meta : MetaDesc) (terms : List Term) where
  abbrev in_terms : Claim ℕ → Claim Term
  in_terms = claim_as (term_at terms)

  value_is : (v : NumberedValue) → held_in (out-TermValue (value_in terms v)) ≡ held_as (term_at terms) (held_by v)
  value_is (numbered.Val d) = ap (λ v. held_in (out-TermValue v)) (sym (values.rolls-Val d)) ∙ ap held_in (out-roll-TermValue (of.Val d))
  value_is (numbered.Term n) = ap (λ v. held_in (out-TermValue v)) (sym (values.rolls-Term (term_at terms n))) ∙ ap held_in (out-roll-TermValue (of.Term (term_at terms n)))

  claims_are : (d : NumberedDemand) → claims_of meta (fact_of (demand_in terms d)) ≡ map in_terms (claims_of meta (fact_by d))
  claims_are d =
      ap (λ (h : Held Term). claims_of meta (record { owner = term_at terms d.owner; prop = d.prop.0; holds = h })) (value_is d.value) ∙ claims_as (term_at terms) meta (fact_by d)

  of_number : (d : NumberedDemand) (c : Claim Term) → Contains (claims_of meta (fact_of (demand_in terms d))) c → (n : Claim ℕ) × Contains (claims_of meta (fact_by d)) n × (in_terms n ≡ c)
  of_number d c h = Contains-from_map in_terms (claims_of meta (fact_by d)) c (subst (λ cs. Contains cs c) (claims_are d) h)

  to_term : (d : NumberedDemand) (n : Claim ℕ) → Contains (claims_of meta (fact_by d)) n → Contains (claims_of meta (fact_of (demand_in terms d))) (in_terms n)
  to_term d n h = subst (λ cs. Contains cs (in_terms n)) (sym (claims_are d)) (contains_map in_terms (claims_of meta (fact_by d)) n h)

  value_within : (v : NumberedValue) → IsWithin terms v → IsHeldWithin (length terms) (held_by v)
  value_within (numbered.Val d) h = tt
  value_within (numbered.Term n) h = h

  claim_within : (d : NumberedDemand) (c : Claim ℕ) → IsDemandWithin terms d → Contains (claims_of meta (fact_by d)) c → IsClaimWithin (length terms) c
  claim_within d c within h =
      All-contains (IsClaimWithin (length terms)) (claims_of meta (fact_by d)) c (claims_within (length terms) meta (fact_by d) within.0 (value_within d.value within.1)) h

  module _ (distinct : AreDistinct terms) (ds : List NumberedDemand) (within : All (IsDemandWithin terms) ds) where
    demand_within : (k : ℕ) (d : NumberedDemand) → slice_get ds k ≡ Some d → IsDemandWithin terms d
    demand_within k d at = All-contains (IsDemandWithin terms) ds d within (contains_at ds k d at)

    -- ---- no two are in conflict

    pub at_peace : AreAgreed meta ds → AreAtPeace meta (demands_in terms ds)
    at_peace agreed first second c d conflict =
        let (m, m_at, m_is) = get_from_map (demand_in terms) ds conflict.earlier first conflict.first_is in
        let (n, n_at, n_is) = get_from_map (demand_in terms) ds conflict.later second conflict.second_is in
        let (x, x_of, x_is) = of_number m c (subst (λ e. Contains (claims_of meta (fact_of e)) c) (sym m_is) conflict.of_first) in
        let (y, y_of, y_is) = of_number n d (subst (λ e. Contains (claims_of meta (fact_of e)) d) (sym n_is) conflict.of_second) in
        let (spots, single, differ) = three_true (same_spot same_term c.spot d.spot) (is_single_spot meta c.spot) (not (same_said same_term c.said d.said)) conflict.against in
        let x_spot : spot_as (term_at terms) x.spot ≡ c.spot = ap (λ (e : Claim Term). e.spot) x_is in
        let y_spot : spot_as (term_at terms) y.spot ≡ d.spot = ap (λ (e : Claim Term). e.spot) y_is in
        let one_spot : x.spot ≡ y.spot =
        spot_apart (term_at terms) (length terms) distinct x.spot y.spot (claim_within m x (demand_within conflict.earlier m m_at) x_of).0 (claim_within n y (demand_within conflict.later n n_at) y_of).0
        (x_spot ∙ spot_is same_term term_is term_itself c.spot d.spot spots ∙ sym y_spot)
        in
        let x_single : is_single meta x ≡ true = sym (single_as (term_at terms) meta x.spot) ∙ ap (is_single_spot meta) x_spot ∙ single in
        let y_single : is_single meta y ≡ true = ap (is_single_spot meta) (sym one_spot) ∙ x_single in
        let one_said : x.said ≡ y.said =
        agreed conflict.earlier conflict.later x y
        (record { demand = m; demand_is = m_at; of_demand = Contains-to_filter (is_single meta) (claims_of meta (fact_by m)) x x_single x_of })
        (record { demand = n; demand_is = n_at; of_demand = Contains-to_filter (is_single meta) (claims_of meta (fact_by n)) y y_single y_of })
        one_spot
        in
        let said : c.said ≡ d.said = sym (ap (λ (e : Claim Term). e.said) x_is) ∙ ap (said_as (term_at terms)) one_said ∙ ap (λ (e : Claim Term). e.said) y_is in
        let same : same_said same_term c.said d.said ≡ true = ap (same_said same_term c.said) (sym said) ∙ said_itself same_term term_is term_itself c.said in
        let wrong : false ≡ true = ap not (sym same) ∙ differ in
        cc

    -- ---- two that are

    told_place : (s : Spot ℕ) (d : NumberedDemand) (found : FoundConflict) → IsNumberedPlace s d found → IsToldPlace (spot_as (term_at terms) s) (demand_in terms d) (term_at terms found.owner) found.prop
    told_place (Spot.slot x p) d found place = (ap (term_at terms) place.0, place.1)
    told_place (Spot.container x) d found place = (ap (term_at terms) place.0, place.1)

    told_within : (s : Spot ℕ) (d : NumberedDemand) (found : FoundConflict) → IsNumberedPlace s d found → IsSpotWithin (length terms) s → found.owner < length terms
    told_within (Spot.slot x p) d found place below = subst (λ o. o < length terms) (sym place.0) below
    told_within (Spot.container x) d found place below = subst (λ o. o < length terms) (sym place.0) below

    made_by : (k : ℕ) (c : Claim ℕ) (h : HasClaim meta ds k c) → Contains (claims_of meta (fact_by h.demand)) c
    made_by k c h = Contains-filter (is_single meta) (claims_of meta (fact_by h.demand)) c h.of_demand

    has_within : (k : ℕ) (c : Claim ℕ) → HasClaim meta ds k c → IsClaimWithin (length terms) c
    has_within k c h = claim_within h.demand c (demand_within k h.demand h.demand_is) (made_by k c h)

    has_single : (k : ℕ) (c : Claim ℕ) → HasClaim meta ds k c → is_single_spot meta (spot_as (term_at terms) c.spot) ≡ true
    has_single k c h =
        single_as (term_at terms) meta c.spot
        ∙ All-contains (λ d. is_single meta d ≡ true) (single_claims meta h.demand) c (filter_passes (is_single meta) (claims_of meta (fact_by h.demand))) h.of_demand

    demand_at : (k : ℕ) (d : NumberedDemand) → slice_get ds k ≡ Some d → slice_get (demands_in terms ds) k ≡ Some (demand_in terms d)
    demand_at k d at = slice_get-map (demand_in terms) ds k ∙ ap (option_map (demand_in terms)) at

    -- what two numbered claims say differs where they differ
    still_differ : (a b : Said ℕ) → IsSaidWithin (length terms) a → IsSaidWithin (length terms) b → same_said nat_eq a b ≡ false
        → not (same_said same_term (said_as (term_at terms) a) (said_as (term_at terms) b)) ≡ true
    still_differ a b l k differ = by (same_said same_term (said_as (term_at terms) a) (said_as (term_at terms) b)) refl
      where
        by : (t : Bool) → same_said same_term (said_as (term_at terms) a) (said_as (term_at terms) b) ≡ t → not t ≡ true
        by false is = refl
        by true is =
            let one : a ≡ b = said_apart (term_at terms) (length terms) distinct a b l k (said_is same_term term_is term_itself (said_as (term_at terms) a) (said_as (term_at terms) b) is) in
            let wrong : true ≡ false = sym (number_said_itself a) ∙ ap (same_said nat_eq a) one ∙ differ in
            cc

    pub is_found : (found : FoundConflict) → IsNumberedConflict meta ds found → IsFound meta terms ds found
    is_found found h =
        let first_at = demand_at found.first h.of_first.demand h.of_first.demand_is in
        let second_at = demand_at found.second h.of_second.demand h.of_second.demand_is in
        let c_within = has_within found.first h.c h.of_first in
        let d_within = has_within found.second h.d h.of_second in
        let c_in = in_terms h.c in
        let d_in = in_terms h.d in
        let spots : same_spot same_term c_in.spot d_in.spot ≡ true =
        ap (λ s. same_spot same_term c_in.spot (spot_as (term_at terms) s)) (sym h.spot) ∙ spot_itself same_term term_is term_itself c_in.spot
        in
        record {
          first = demand_in terms h.of_first.demand;
          second = demand_in terms h.of_second.demand;
          c = c_in;
          d = d_in;
          before = h.before;
          first_is = first_at;
          second_is = second_at;
          conflict = record {
            earlier = found.first;
            later = found.second;
            before = h.before;
            first_is = first_at;
            second_is = second_at;
            of_first = to_term h.of_first.demand h.c (made_by found.first h.c h.of_first);
            of_second = to_term h.of_second.demand h.d (made_by found.second h.d h.of_second);
            against =
                all_true (same_spot same_term c_in.spot d_in.spot) (is_single_spot meta c_in.spot) (not (same_said same_term c_in.said d_in.said)) spots (has_single found.first h.c h.of_first)
                (still_differ h.c.said h.d.said c_within.1 d_within.1 h.differ);
          };
          owner_within = told_within h.c.spot h.of_first.demand found h.place c_within.0;
          place = told_place h.c.spot h.of_first.demand found h.place;
        }

-- ---- what is answered of numbers is answered of terms

abbrev IsTold : MetaDesc → List NumberedDemand → Option FoundConflict → Type 0
IsTold meta ds found = MatchOption found (AreAgreed meta ds) (IsNumberedConflict meta ds)

abbrev IsToldOf : MetaDesc → List NumberedDemand → List Term → Option FoundConflict → Type 0
IsToldOf meta ds terms found = MatchOption found (AreAtPeace meta (demands_in terms ds)) (IsFound meta terms ds)

told_of : (meta : MetaDesc) (ds : List NumberedDemand) (found : Option FoundConflict) → IsTold meta ds found → (terms : List Term) → AreDistinct terms → All (IsDemandWithin terms) ds → IsToldOf meta ds terms found
told_of meta ds None h terms distinct within = at_peace meta terms distinct ds within h
told_of meta ds (Some found) h terms distinct within = is_found meta terms distinct ds within found h

pub lifted : {E : Type 0} (meta : MetaDesc) (ds : List NumberedDemand) (r : Result (Option FoundConflict) E) → IfOk r (IsTold meta ds)
    → IfOk r (λ found. (terms : List Term) → AreDistinct terms → All (IsDemandWithin terms) ds → IsToldOf meta ds terms found)
lifted meta ds (Ok found) h = told_of meta ds found h
lifted meta ds (Err e) h = h
