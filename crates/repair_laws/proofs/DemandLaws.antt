-- Each demand stands in the model that enforcement makes.
use Rattle.std.specs.Prelude.{◌≡◌, ℕ, zero, suc, true, ◌&&◌, ◌==◌, List, [], ◌∷◌, Option, None, Some, Contains, if◌then◌else◌}
use Rattle.std.specs.List.{filter_map, flat_map, cons_option}
use Rattle.std.specs.Option.{option_map, option_and_then}
use Rattle.std.proofs.Common.{ap, sym, ◌∙◌, subst, arith}
use Rattle.std.proofs.lemmas.Bool.Decides.{nat_tests}
use Rattle.mof_metamodel.specs.Metamodels.{props_of}
use Rattle.object_tables.specs.Objects.{Object}
use Rattle.object_tables.specs.Models.{ModelData, object_at}
use Rattle.qv_syntax.specs.declared.program.Program.{Program}
use Rattle.template_match.proofs.ListLaws.{contains_later, contains_left, contains_right}
use Rattle.mof_metamodel.proofs.Facts.{contains_first}
use Rattle.repair_semantics.specs.declared.term.Term.{Term}
use Rattle.repair_semantics.specs.declared.demand.Demand.{Demand}
use Rattle.repair_semantics.specs.Demands.{demanded_terms}
use Rattle.repair_semantics.specs.Claims.{Held, Fact, Spot, Said, Claim, claims_of, far_claims}
use Rattle.repair_semantics.specs.Conflicts.{fact_of}
use Rattle.repair_semantics.specs.Images.{holds}
use Rattle.repair_semantics.specs.CandidateObjects.{term_number}
use Rattle.repair_semantics.specs.Candidates.{held_by_number, fact_by_number, claims_by_number, element_at, claimed_at, candidate}
use Rattle.repair_laws.specs.Standing.{FitsAt}
use Rattle.repair_laws.proofs.CandidateLaws.{claims_stand}

-- ---- lists

pub in_filter_map : {X Y : Type 0} (f : X → Option Y) (xs : List X) (x : X) (y : Y) → Contains xs x → f x ≡ Some y → Contains (filter_map f xs) y
in_filter_map f [] x y (k, within, is) h = absurd (omega (arith, within))
in_filter_map f (z ∷ zs) x y (zero, within, is) h = subst (λ o. Contains (cons_option o (filter_map f zs)) y) (sym (ap f is ∙ h)) (contains_first y (filter_map f zs))
in_filter_map {X} {Y} f (z ∷ zs) x y (suc k, within, is) h = by (f z) (in_filter_map f zs x y (k, omega (arith, within), is) h)
  where
    by : (o : Option Y) → Contains (filter_map f zs) y → Contains (cons_option o (filter_map f zs)) y
    by None c = c
    by (Some v) c = contains_later y v (filter_map f zs) c

pub in_flat_map : {X Y : Type 0} (f : X → List Y) (xs : List X) (x : X) (y : Y) → Contains xs x → Contains (f x) y → Contains (flat_map f xs) y
in_flat_map f [] x y (k, within, is) c = absurd (omega (arith, within))
in_flat_map f (z ∷ zs) x y (zero, within, is) c = contains_left y (f z) (flat_map f zs) (subst (λ v. Contains (f v) y) (sym is) c)
in_flat_map f (z ∷ zs) x y (suc k, within, is) c = contains_right y (f z) (flat_map f zs) (in_flat_map f zs x y (k, omega (arith, within), is) c)

-- ---- what a demand claims of its own slot

same_number : (n : ℕ) → (n == n) ≡ true
same_number n = grind (arith, nat_tests)

own_element : (o p : ℕ) (h : Held ℕ) → element_at o p (Spot.slot o p) (Said.element h) ≡ Some h
own_element o p h =
    ap (λ b. if b && (p == p) then Some h else None) (same_number o)
    ∙ ap (λ b. if b then Some h else None) (same_number p)

module _ (program : Program) (m : ModelData) (demands : List Demand) where
  abbrev number : Term → Option ℕ
  number = term_number program m (demanded_terms demands)

  fact_is : (d : Demand) (o : ℕ) (h : Held ℕ) → number d.owner ≡ Some o → held_by_number number (fact_of d).holds ≡ Some h
      → fact_by_number number (fact_of d) ≡ Some (record { owner = o; prop = d.prop.0; holds = h })
  fact_is d o h owner held =
      ap (λ x. option_and_then (λ n. option_map (λ k. record { owner = n; prop = d.prop.0; holds = k }) (held_by_number number (fact_of d).holds)) x) owner
      ∙ ap (option_map (λ k. record { owner = o; prop = d.prop.0; holds = k })) held

  is_claimed : (d : Demand) (o : ℕ) (h : Held ℕ) → Contains demands d → number d.owner ≡ Some o → held_by_number number (fact_of d).holds ≡ Some h
      → Contains (claimed_at (claims_by_number m.meta number demands) o d.prop.0) h
  is_claimed d o h has owner held =
      let f : Fact ℕ = record { owner = o; prop = d.prop.0; holds = h } in
      let own : Claim ℕ = record { spot = Spot.slot o d.prop.0; said = Said.element h } in
      let fact : Contains (filter_map (λ e. fact_by_number number (fact_of e)) demands) f = in_filter_map (λ e. fact_by_number number (fact_of e)) demands d f has (fact_is d o h owner held) in
      let claim : Contains (claims_by_number m.meta number demands) own =
      in_flat_map (claims_of m.meta) (filter_map (λ e. fact_by_number number (fact_of e)) demands) f own fact (contains_first own (far_claims m.meta o d.prop.0 h)) in
      in_filter_map (λ (c : Claim ℕ). element_at o d.prop.0 c.spot c.said) (claims_by_number m.meta number demands) own h claim (own_element o d.prop.0 h)

  -- each demand stands in the model
  pub demand_stands : (d : Demand) (o : ℕ) (ob : Object) (h : Held ℕ) → Contains demands d → number d.owner ≡ Some o → held_by_number number (fact_of d).holds ≡ Some h
      → object_at (candidate program m demands) o ≡ Some ob → Contains (props_of m.meta ob.class) d.prop.0 → FitsAt program m d.prop.0 h
      → holds program (candidate program m demands) o d.prop.0 h ≡ true
  demand_stands d o ob h has owner held is property fits = claims_stand program m demands o d.prop.0 ob h is property (is_claimed d o h has owner held) fits
