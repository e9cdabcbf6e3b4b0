-- The claims that are heard of a list of demands: those that they make.
use Rattle.std.specs.Prelude.{◌≡◌, ◌<◌, ℕ, zero, suc, ◌+◌, nat_eq, nat_lt, Bool, true, false, List, [], ◌∷◌, ◌++◌, ◌⊎◌, Some, All, Contains, slice_get, length, take}
use Rattle.std.specs.BTreeMap.{BTreeMap}
use Rattle.std.proofs.Common.{refl, ap, sym, subst, ◌∙◌, inl, inr, arith, append_assoc}
use Rattle.std.proofs.lemmas.Bool.Decides.{nat_tests}
use Rattle.std.proofs.lemmas.List.{append-nil}
use Rattle.std.proofs.lemmas.List.Elements.{All-contains, Contains-append_left, Contains-append_right, Contains-append_cases}
use Rattle.std.proofs.lemmas.Option.{same_Some, none-some, slice_get_within}
use Rattle.mof_metamodel.specs.declared.desc.MetaDesc.{MetaDesc}
use Rattle.mof_metamodel.specs.WellMeta.{WellMeta}
use Rattle.mof_metamodel.proofs.Facts.{nothing_in, contains_at, contains_map}
use Rattle.object_tables.proofs.ListLemmas.{Contains-from_map, Contains-filter}
use Rattle.repair_semantics.specs.Claims.{Spot, Claim, claims_of, same_said}
use Rattle.demand_conflicts.specs.declared.demand.NumberedDemand.{NumberedDemand}
use Rattle.demand_conflicts.specs.declared.claims.NumberedSpot.{NumberedSpot}
use Rattle.demand_conflicts.specs.declared.claims.NumberedSpot.TheVariants as spots
use Rattle.demand_conflicts.specs.declared.told.FirstClaim.{FirstClaim}
use Rattle.demand_conflicts.specs.declared.told.Opposed.{Opposed}
use Rattle.demand_conflicts.specs.declared.conflict.FoundConflict.{FoundConflict}
use Rattle.demand_conflicts.specs.NumberedClaims.{fact_by, held_by, spot_by, said_by, is_single, single_claims}
use Rattle.demand_conflicts.specs.NumberedDemands.{IsDemandOf}
use Rattle.demand_conflicts.specs.Heard.{HeardClaim, SpotOrder, heard_by, IsHeard, IsOpposed}
use Rattle.demand_conflicts.specs.NumberedConflicts.{heard_from, HasClaim, AreAgreed, IsNumberedPlace, IsNumberedConflict}
use Rattle.demand_conflicts.proofs.SaidLaws.{number_said_itself}
use Rattle.demand_conflicts.proofs.OneDemandLaws.{one_fact_agrees}

-- ---- lists

pub claimed_heard : (meta : MetaDesc) (n : ℕ) (ds : List NumberedDemand) (k : ℕ) (c : Claim ℕ) → HasClaim meta ds k c → Contains (heard_from meta n ds) (n + k, c)
claimed_heard meta n [] k c h = absurd (none-some h.demand h.demand_is)
claimed_heard meta n (d ∷ ds) zero c h =
    let here : Contains (single_claims meta d) c = subst (λ e. Contains (single_claims meta e) c) (sym (same_Some d h.demand h.demand_is)) h.of_demand in
    let number : n ≡ n + 0 = omega arith in
    Contains-append_left (heard_by n (single_claims meta d)) (heard_from meta (suc n) ds) (n + 0, c)
    (subst (λ m. Contains (heard_by n (single_claims meta d)) (m, c)) number (contains_map (λ (e : Claim ℕ). (n, e)) (single_claims meta d) c here))
claimed_heard meta n (d ∷ ds) (suc k) c h =
    let number : suc n + k ≡ n + suc k = omega arith in
    Contains-append_right (heard_by n (single_claims meta d)) (heard_from meta (suc n) ds) (n + suc k, c)
    (subst (λ m. Contains (heard_from meta (suc n) ds) (m, c)) number (claimed_heard meta (suc n) ds k c (record { demand = h.demand; demand_is = h.demand_is; of_demand = h.of_demand })))

abbrev IsClaimFrom : MetaDesc → ℕ → List NumberedDemand → ℕ → Claim ℕ → Type 0
IsClaimFrom meta n ds j c = (k : ℕ) × (j ≡ n + k) × HasClaim meta ds k c

pub heard_claimed : (meta : MetaDesc) (n : ℕ) (ds : List NumberedDemand) (j : ℕ) (c : Claim ℕ) → Contains (heard_from meta n ds) (j, c) → IsClaimFrom meta n ds j c
heard_claimed meta n [] j c h = absurd (nothing_in (j, c) h)
heard_claimed meta n (d ∷ ds) j c h = by (Contains-append_cases (heard_by n (single_claims meta d)) (heard_from meta (suc n) ds) (j, c) h) (heard_claimed meta (suc n) ds j c)
  where
    by : Contains (heard_by n (single_claims meta d)) (j, c) ⊎ Contains (heard_from meta (suc n) ds) (j, c) → (Contains (heard_from meta (suc n) ds) (j, c) → IsClaimFrom meta (suc n) ds j c)
        → IsClaimFrom meta n (d ∷ ds) j c
    by (inl g) rest =
        let (e, of, is) = Contains-from_map (λ (e : Claim ℕ). (n, e)) (single_claims meta d) (j, c) g in
        let number : n ≡ j = ap (λ (x : HeardClaim). x.0) is in
        (0, omega arith, record { demand = d; demand_is = refl; of_demand = subst (Contains (single_claims meta d)) (ap (λ (x : HeardClaim). x.1) is) of })
    by (inr g) rest =
        let (k, is, has) = rest g in
        (suc k, omega arith, record { demand = has.demand; demand_is = has.demand_is; of_demand = has.of_demand })

heard_next : (meta : MetaDesc) (n : ℕ) (ds : List NumberedDemand) (k : ℕ) (x : NumberedDemand) → slice_get ds k ≡ Some x
    → heard_from meta n (take (suc k) ds) ≡ heard_from meta n (take k ds) ++ heard_by (n + k) (single_claims meta x)
heard_next meta n [] k x h = absurd (none-some x h)
heard_next meta n (d ∷ ds) zero x h =
    let number : n ≡ n + 0 = omega arith in
    append-nil (heard_by n (single_claims meta d)) ∙ ap (λ y. heard_by n (single_claims meta y)) (same_Some d x h) ∙ ap (λ m. heard_by m (single_claims meta x)) number
heard_next meta n (d ∷ ds) (suc k) x h =
    let number : suc n + k ≡ n + suc k = omega arith in
    let before = heard_by n (single_claims meta d) in
    let upto = heard_from meta (suc n) (take k ds) in
    ap (λ hs. before ++ hs) (heard_next meta (suc n) ds k x h ∙ ap (λ m. upto ++ heard_by m (single_claims meta x)) number)
    ∙ sym (append_assoc before upto (heard_by (n + suc k) (single_claims meta x)))

pub heard_more : (meta : MetaDesc) (ds : List NumberedDemand) (k : ℕ) (x : NumberedDemand) → slice_get ds k ≡ Some x
    → heard_from meta 0 (take (k + 1) ds) ≡ heard_from meta 0 (take k ds) ++ heard_by k (single_claims meta x)
heard_more meta ds k x h =
    let next : k + 1 ≡ suc k = omega arith in
    let number : 0 + k ≡ k = omega arith in
    ap (λ m. heard_from meta 0 (take m ds)) next ∙ heard_next meta 0 ds k x h ∙ ap (λ m. heard_from meta 0 (take k ds) ++ heard_by m (single_claims meta x)) number

get_of_take : {X : Type 0} (n : ℕ) (xs : List X) (k : ℕ) (x : X) → slice_get (take n xs) k ≡ Some x → (slice_get xs k ≡ Some x) × (k < n)
get_of_take zero xs k x h = absurd (none-some x h)
get_of_take (suc n) [] k x h = absurd (none-some x h)
get_of_take (suc n) (y ∷ ys) zero x h = (h, omega arith)
get_of_take (suc n) (y ∷ ys) (suc k) x h = let rest = get_of_take n ys k x h in (rest.0, omega arith)

-- ---- all agree

abbrev place_of : Spot ℕ → NumberedSpot
place_of (Spot.slot x p) = spots.Slot x p
place_of (Spot.container x) = spots.Container x

is_place_of : (s : Spot ℕ) → spot_by (place_of s) ≡ s
is_place_of (Spot.slot x p) = refl
is_place_of (Spot.container x) = refl

in_heard : (meta : MetaDesc) (ds : List NumberedDemand) (i : ℕ) (c : Claim ℕ) → HasClaim meta ds i c → Contains (heard_from meta 0 ds) (i, c)
in_heard meta ds i c h = let number : 0 + i ≡ i = omega arith in subst (λ m. Contains (heard_from meta 0 ds) (m, c)) number (claimed_heard meta 0 ds i c h)

pub heard_agreed : (meta : MetaDesc) (order : SpotOrder) (ds : List NumberedDemand) (firsts : BTreeMap NumberedSpot FirstClaim) → IsHeard order (heard_from meta 0 ds) firsts → AreAgreed meta ds
heard_agreed meta order ds firsts known i j c d of_c of_d spot =
    let s = place_of c.spot in
    let At : ℕ → Claim ℕ → Spot ℕ → Type 0 = λ k e z. Contains (heard_from meta 0 ds) (k, record { spot = z; said = e.said }) in
    let first = known.kept i s c.said (subst (At i c) (sym (is_place_of c.spot)) (in_heard meta ds i c of_c)) in
    let second = known.kept j s d.said (subst (At j d) (sym (is_place_of c.spot ∙ spot)) (in_heard meta ds j d of_d)) in
    sym first.2 ∙ ap (λ (f : FirstClaim). said_by f.said) (same_Some first.0 second.0 (sym first.1 ∙ second.1)) ∙ second.2

-- ---- two that don't

module _ (meta : MetaDesc) (well : WellMeta meta) (ds : List NumberedDemand) (props : All (IsDemandOf meta) ds) (i : ℕ) (x : NumberedDemand) (at : slice_get ds i ≡ Some x) (o : Opposed)
    (opposed : IsOpposed (heard_from meta 0 (take i ds)) i (single_claims meta x) o) where
  abbrev earlier_claim : Claim ℕ
  earlier_claim = opposed.against.d

  made : IsClaimFrom meta 0 (take (i + 1) ds) o.first earlier_claim
  made = heard_claimed meta 0 (take (i + 1) ds) o.first earlier_claim (subst (λ hs. Contains hs (o.first, earlier_claim)) (sym (heard_more meta ds i x at)) opposed.against.heard_first)

  at_first : (slice_get ds o.first ≡ Some made.2.demand) × (o.first < i + 1)
  at_first =
      let number : made.0 ≡ o.first = let e = made.1 in omega arith in
      let both = get_of_take (i + 1) ds made.0 made.2.demand made.2.demand_is in
      (ap (slice_get ds) (sym number) ∙ both.0, let below = both.1 in omega arith)

  differ_within : made.2.demand ≡ x → ⊥
  differ_within same =
      let of_same : Contains (single_claims meta x) earlier_claim = subst (λ d. Contains (single_claims meta d) earlier_claim) same made.2.of_demand in
      let claims = claims_of meta (fact_by x) in
      let below = All-contains (IsDemandOf meta) ds x props (contains_at ds i x at) in
      let agree = one_fact_agrees meta well x.owner x.prop.0 (held_by x.value) below earlier_claim opposed.c (Contains-filter (is_single meta) claims earlier_claim of_same) (Contains-filter (is_single meta) claims opposed.c opposed.of_second) opposed.against.spot in
      let told : true ≡ false = sym (number_said_itself earlier_claim.said) ∙ ap (same_said nat_eq earlier_claim.said) agree ∙ opposed.against.differ in
      cc

  pub first_before : o.first < i
  first_before = by (nat_lt o.first i) refl
    where
      by : (b : Bool) → nat_lt o.first i ≡ b → o.first < i
      by true is = grind (arith, nat_tests)
      by false is =
          let below = at_first.1 in
          let number : o.first ≡ i = grind (arith, nat_tests) in
          absurd (differ_within (same_Some made.2.demand x (sym at_first.0 ∙ ap (slice_get ds) number ∙ at)))

  pub first_within : o.first < length ds
  first_within = let before = first_before in let below = slice_get_within ds i x at in omega arith

  pub opposed_conflict : (found : FoundConflict) → found.first ≡ o.first → found.second ≡ i
      → ((d : NumberedDemand) → slice_get ds o.first ≡ Some d → IsNumberedPlace (spot_by o.spot) d found) → IsNumberedConflict meta ds found
  opposed_conflict found first second place =
      let before = first_before in
      let of_first : HasClaim meta ds o.first earlier_claim = record { demand = made.2.demand; demand_is = at_first.0; of_demand = made.2.of_demand } in
      record {
        before = omega arith;
        c = earlier_claim;
        d = opposed.c;
        of_first = record { demand = made.2.demand; demand_is = ap (slice_get ds) first ∙ at_first.0; of_demand = made.2.of_demand };
        of_second = record { demand = x; demand_is = ap (slice_get ds) second ∙ at; of_demand = opposed.of_second };
        spot = opposed.against.spot;
        differ = opposed.against.differ;
        place = subst (λ s. IsNumberedPlace s made.2.demand found) (sym (opposed.against.spot ∙ opposed.spot)) (place made.2.demand at_first.0);
      }
