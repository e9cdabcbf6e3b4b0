-- The table of what was claimed first of each place, as claims are heard.
use Rattle.std.specs.Prelude.{◌≡◌, ◌<◌, ℕ, zero, suc, nat_eq, Bool, true, false, List, [], ◌∷◌, ◌++◌, ◌⊎◌, map, length, take, Option, None, Some, Contains}
use Rattle.std.specs.BTreeMap.{BTreeMap, get, IsEmpty, IsUnchanged, Updates, is_at}
use Rattle.std.specs.Map.{lookup}
use Rattle.std.proofs.Common.{refl, ap, sym, subst, ◌∙◌, cond, inl, inr, arith, get_or}
use Rattle.std.proofs.lemmas.List.Elements.{Contains-append_left, Contains-append_right, Contains-append_cases, Contains-push, Contains-push_cases}
use Rattle.std.proofs.lemmas.Map.Lookups.{CmpEqualImpliesEq}
use Rattle.std.proofs.lemmas.Map.Views.{tells_apart}
use Rattle.std.proofs.lemmas.Option.{same_Some, none-some}
use Rattle.mof_metamodel.proofs.Facts.{nothing_in, contains_map}
use Rattle.object_tables.proofs.ListLemmas.{Contains-from_map, Contains-cons}
use Rattle.repair_semantics.specs.Claims.{Said, Claim, same_said}
use Rattle.demand_conflicts.specs.declared.claims.NumberedSpot.{NumberedSpot}
use Rattle.demand_conflicts.specs.declared.claims.NumberedSpot.TheVariants as spots
use Rattle.demand_conflicts.specs.declared.claims.NumberedClaim.{NumberedClaim}
use Rattle.demand_conflicts.specs.declared.told.FirstClaim.{FirstClaim}
use Rattle.demand_conflicts.specs.NumberedClaims.{spot_by, said_by, claim_by}
use Rattle.demand_conflicts.specs.Heard.{HeardClaim, SpotOrder, heard_by, claim_at, IsHeard, IsAgainst, IsOpposed}

-- ---- places

pub spot_by_is : (s t : NumberedSpot) → spot_by s ≡ spot_by t → s ≡ t
spot_by_is (spots.Slot x p) (spots.Slot y q) h = let e : x ≡ y = cc in let f : p ≡ q = cc in ap (λ z. spots.Slot z p) e ∙ ap (spots.Slot y) f
spot_by_is (spots.Slot x p) (spots.Container y) h = absurd (cc)
spot_by_is (spots.Container x) (spots.Slot y q) h = absurd (cc)
spot_by_is (spots.Container x) (spots.Container y) h = let e : x ≡ y = cc in ap spots.Container e

-- a claim of a place of the table's is that claim
same_claim : (i j : ℕ) (s t : NumberedSpot) (said other : Said ℕ) → ◌≡◌ {A = HeardClaim} (i, claim_at s said) (j, claim_at t other) → (s ≡ t) × (said ≡ other)
same_claim i j s t said other e = (spot_by_is s t (ap (λ (h : HeardClaim). h.1.spot) e), ap (λ (h : HeardClaim). h.1.said) e)

-- ---- the table

module _ (order : SpotOrder) where
  pub nothing_heard : (firsts : BTreeMap NumberedSpot FirstClaim) → IsEmpty firsts → IsHeard order [] firsts
  nothing_heard firsts empty = record {
    told = λ s f at. absurd (none-some f (sym (ap (λ es. lookup (is_at (order s)) es) empty) ∙ at));
    kept = λ i s said h. absurd (nothing_in (i, claim_at s said) h);
  }

  pub same_heard : (heard : List HeardClaim) (old new : BTreeMap NumberedSpot FirstClaim) → IsUnchanged old new → IsHeard order heard old → IsHeard order heard new
  same_heard heard old new same known =
      let P : NumberedSpot → Option FirstClaim → Type 0 = λ s o. get order old s ≡ o → get order new s ≡ o in
      let at : (s : NumberedSpot) → get order new s ≡ get order old s = λ s. ap (λ es. lookup (is_at (order s)) es) same in
      record {
        told = λ s f is. known.told s f (sym (at s) ∙ is);
        kept = λ i s said h. let first = known.kept i s said h in (first.0, at s ∙ first.1, first.2);
      }

  abbrev IsKept : BTreeMap NumberedSpot FirstClaim → NumberedSpot → Said ℕ → Type 0
  IsKept firsts s said = (f : FirstClaim) × (get order firsts s ≡ Some f) × (said_by f.said ≡ said)

  -- the same is said again
  pub heard_again : (heard : List HeardClaim) (firsts : BTreeMap NumberedSpot FirstClaim) → IsHeard order heard firsts
      → (i : ℕ) (s : NumberedSpot) (said : Said ℕ) (f : FirstClaim) → get order firsts s ≡ Some f → said_by f.said ≡ said → IsHeard order (heard ++ (i, claim_at s said) ∷ []) firsts
  heard_again heard firsts known i s said f at same = record {
    told = λ t g is. Contains-append_left heard ((i, claim_at s said) ∷ []) (g.demand, claim_at t (said_by g.said)) (known.told t g is);
    kept = λ j t other h. by j t other (Contains-push_cases heard (i, claim_at s said) (j, claim_at t other) h);
  }
    where
      by : (j : ℕ) (t : NumberedSpot) (other : Said ℕ) → Contains heard (j, claim_at t other) ⊎ (◌≡◌ {A = HeardClaim} (i, claim_at s said) (j, claim_at t other)) → IsKept firsts t other
      by j t other (inl h) = known.kept j t other h
      by j t other (inr e) = let both = same_claim i j s t said other e in subst (λ u. IsKept firsts u other) both.0 (f, at, same ∙ both.1)

  -- it is the first of its place
  module _ (exact : CmpEqualImpliesEq order) where
    pub heard_first : (heard : List HeardClaim) (old new : BTreeMap NumberedSpot FirstClaim) → IsHeard order heard old → (s : NumberedSpot) (f : FirstClaim) → get order old s ≡ None
        → Updates order old new s (Some f) → IsHeard order (heard ++ (f.demand, claim_at s (said_by f.said)) ∷ []) new
    heard_first heard old new known s f absent updates = record {
      told = λ t g is. told t g (is_at (order s) t) refl (sym (updates.0 t) ∙ is);
      kept = λ j t other h. kept j t other (Contains-push_cases heard (f.demand, claim_at s (said_by f.said)) (j, claim_at t other) h);
    }
      where
        told : (t : NumberedSpot) (g : FirstClaim) (b : Bool) → is_at (order s) t ≡ b → cond b (Some f) (get order old t) ≡ Some g → Contains (heard ++ (f.demand, claim_at s (said_by f.said)) ∷ []) (g.demand, claim_at t (said_by g.said))
        told t g true same is =
            let P : NumberedSpot → FirstClaim → Type 0 = λ u h. Contains (heard ++ (f.demand, claim_at s (said_by f.said)) ∷ []) (h.demand, claim_at u (said_by h.said)) in
            subst (λ u. P u g) (tells_apart exact s t same) (subst (P s) (same_Some f g is) (Contains-push heard (f.demand, claim_at s (said_by f.said))))
        told t g false same is = Contains-append_left heard ((f.demand, claim_at s (said_by f.said)) ∷ []) (g.demand, claim_at t (said_by g.said)) (known.told t g is)

        old_one : (t : NumberedSpot) (other : Said ℕ) → IsKept old t other → (b : Bool) → is_at (order s) t ≡ b → IsKept new t other
        old_one t other first true same = absurd (none-some first.0 (sym absent ∙ ap (get order old) (tells_apart exact s t same) ∙ first.1))
        old_one t other first false same = (first.0, updates.2 t same ∙ first.1, first.2)

        kept : (j : ℕ) (t : NumberedSpot) (other : Said ℕ) → Contains heard (j, claim_at t other) ⊎ (◌≡◌ {A = HeardClaim} (f.demand, claim_at s (said_by f.said)) (j, claim_at t other)) → IsKept new t other
        kept j t other (inl h) = old_one t other (known.kept j t other h) (is_at (order s) t) refl
        kept j t other (inr e) = let both = same_claim f.demand j s t (said_by f.said) other e in subst (λ u. IsKept new u other) both.0 (f, updates.1, both.1)

  -- something else is said
  pub said_otherwise : (heard : List HeardClaim) (firsts : BTreeMap NumberedSpot FirstClaim) → IsHeard order heard firsts → (s : NumberedSpot) (said : Said ℕ) (f : FirstClaim)
      → get order firsts s ≡ Some f → same_said nat_eq (said_by f.said) said ≡ false → IsAgainst heard (claim_at s said) f.demand
  said_otherwise heard firsts known s said f at differ = record { d = claim_at s (said_by f.said); heard_first = known.told s f at; spot = refl; differ = differ }

-- ---- the claims of a demand, up to one that is against another

among_images : {X Y : Type 0} (f : X → Y) (xs ys : List X) → ((x : X) → Contains xs x → Contains ys x) → (y : Y) → Contains (map f xs) y → Contains (map f ys) y
among_images f xs ys h y c = let (x, of, is) = Contains-from_map f xs y c in subst (Contains (map f ys)) is (contains_map f ys x (h x of))

among_all : {X : Type 0} (k : ℕ) (xs : List X) (x : X) → Contains (take k xs) x → Contains xs x
among_all zero xs x c = absurd (nothing_in x c)
among_all (suc k) [] x c = c
among_all (suc k) (y ∷ ys) x (zero, below, is) = (zero, omega arith, is)
among_all (suc k) (y ∷ ys) x (suc i, below, is) = Contains-cons y ys x (among_all k ys x (i, omega (arith, below), is))

pub opposed_there : (heard : List HeardClaim) (i : ℕ) (cs : List NumberedClaim) (k : ℕ) (x : NumberedClaim) (first : ℕ) → k < length cs → x ≡ get_or cs k x
    → IsAgainst (heard ++ heard_by i (map claim_by (take k cs))) (claim_by x) first → IsOpposed heard i (map claim_by cs) (record { spot = x.spot; first = first })
opposed_there heard i cs k x first below is against =
    let few = heard_by i (map claim_by (take k cs)) in
    let all = heard_by i (map claim_by cs) in
    let e : HeardClaim = (first, against.d) in
    let wider : Contains few e → Contains all e = among_images (λ (c : Claim ℕ). (i, c)) (map claim_by (take k cs)) (map claim_by cs) (among_images claim_by (take k cs) cs (among_all k cs)) e in
    let by : Contains heard e ⊎ Contains few e → Contains (heard ++ all) e =
    λ s. elim s as (λ _. Contains (heard ++ all) e) [ inl h ↦ Contains-append_left heard all e h | inr h ↦ Contains-append_right heard all e (wider h) ]
    in
    record {
      c = claim_by x;
      of_second = contains_map claim_by cs x (k, below, sym is);
      spot = refl;
      against = record { d = against.d; heard_first = by (Contains-append_cases heard few e against.heard_first); spot = against.spot; differ = against.differ };
    }
