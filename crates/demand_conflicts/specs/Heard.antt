-- Claims that were heard, each with the place of its demand in a list of demands, and a table of what was claimed first of each place.
use Rattle.std.specs.Prelude.{◌≡◌, ℕ, nat_eq, false, List, [], ◌∷◌, ◌++◌, map, Option, None, Some, MatchOption, Contains}
use Rattle.std.specs.BTreeMap.{BTreeMap, get}
use Rattle.std.specs.declared.cmp.Ordering.{Ordering}
use Rattle.repair_semantics.specs.Claims.{Said, Claim, same_said}
use Rattle.demand_conflicts.specs.declared.claims.NumberedSpot.{NumberedSpot}
use Rattle.demand_conflicts.specs.declared.told.FirstClaim.{FirstClaim}
use Rattle.demand_conflicts.specs.declared.told.Opposed.{Opposed}
use Rattle.demand_conflicts.specs.NumberedClaims.{spot_by, said_by}

-- a claim with the place of its demand
abbrev pub HeardClaim : Type 0
HeardClaim = ℕ × Claim ℕ

-- the claims of the demand at a place
abbrev pub heard_by : ℕ → List (Claim ℕ) → List HeardClaim
heard_by i cs = map (λ c. (i, c)) cs

-- that this is said at the place
abbrev pub claim_at : NumberedSpot → Said ℕ → Claim ℕ
claim_at s said = record { spot = spot_by s; said = said }

-- an order of places, by which they are looked up
abbrev pub SpotOrder : Type 0
SpotOrder = NumberedSpot → NumberedSpot → Ordering

-- a table of what was claimed first of each place
abbrev pub FirstClaims : Type 0
FirstClaims = BTreeMap NumberedSpot FirstClaim

-- The table has a claim of each place of which one was heard, and all that were heard of a place say the same.
pub record IsHeard (order : SpotOrder) (heard : List HeardClaim) (firsts : FirstClaims) : Type 0 where
  pub told : (s : NumberedSpot) (f : FirstClaim) → get order firsts s ≡ Some f → Contains heard (f.demand, claim_at s (said_by f.said))
  pub kept : (i : ℕ) (s : NumberedSpot) (said : Said ℕ) → Contains heard (i, claim_at s said) → (f : FirstClaim) × (get order firsts s ≡ Some f) × (said_by f.said ≡ said)

-- the demand at the place claimed something else of the place of the claim
pub record IsAgainst (heard : List HeardClaim) (c : Claim ℕ) (first : ℕ) : Type 0 where
  pub d : Claim ℕ
  pub heard_first : Contains heard (first, d)
  pub spot : d.spot ≡ c.spot
  pub differ : same_said nat_eq d.said c.said ≡ false

-- the claim is heard too, or the demand of this place claimed something else
abbrev pub IsHeardWith : SpotOrder → List HeardClaim → ℕ → Claim ℕ → FirstClaims → Option ℕ → Type 0
IsHeardWith order heard i c firsts None = IsHeard order (heard ++ (i, c) ∷ []) firsts
IsHeardWith order heard i c firsts (Some first) = IsAgainst heard c first

-- one of the claims of the demand at place i, and something else that was claimed of its place, by an earlier demand or by this one
pub record IsOpposed (heard : List HeardClaim) (i : ℕ) (claims : List (Claim ℕ)) (opposed : Opposed) : Type 0 where
  pub c : Claim ℕ
  pub of_second : Contains claims c
  pub spot : c.spot ≡ spot_by opposed.spot
  pub against : IsAgainst (heard ++ heard_by i claims) c opposed.first

-- whatever was heard before, the table goes on to a claim of the demand at place i, or one is against it
abbrev pub Hears : SpotOrder → ℕ → Claim ℕ → FirstClaims → FirstClaims → Option ℕ → Type 0
Hears order i c before after first = (heard : List HeardClaim) → IsHeard order heard before → IsHeardWith order heard i c after first

-- the same of all claims of the demand
abbrev pub HearsAll : SpotOrder → ℕ → List (Claim ℕ) → FirstClaims → FirstClaims → Option Opposed → Type 0
HearsAll order i claims before after opposed =
    (heard : List HeardClaim) → IsHeard order heard before → MatchOption opposed (IsHeard order (heard ++ heard_by i claims) after) (IsOpposed heard i claims)
