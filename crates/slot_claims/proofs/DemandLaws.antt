-- The claims of numbered demands are those of the demands, where the list has the number that each term's object has.
use Rattle.std.specs.Prelude.{◌≡◌, ◌+◌, ◌<◌, ℕ, List, [], ◌∷◌, ◌++◌, length, Option, None, Some, All, take}
use Rattle.std.specs.List.{filter_map, flat_map, cons_option}
use Rattle.std.specs.Option.{option_map, option_map_or, option_and_then, option_to_list}
use Rattle.std.proofs.Common.{refl, sym, ap, ◌∙◌, get_or, append-nil}
use Rattle.std.proofs.lemmas.Grind.{flat_map-append}
use Rattle.std.proofs.lemmas.List.Elements.{All-head, All-tail}
use Rattle.mof_metamodel.specs.declared.desc.MetaDesc.{MetaDesc}
use Rattle.mof_metamodel.proofs.TableLemmas.{filter_map_more}
use Rattle.repair_semantics.specs.declared.term.Term.{Term}
use Rattle.repair_semantics.specs.declared.term.TermValue.{out-TermValue, out-roll-TermValue}
use Rattle.repair_semantics.specs.declared.term.TermValue.TheOpen as of
use Rattle.repair_semantics.specs.declared.term.TermValue.TheVariants as values
use Rattle.repair_semantics.specs.Claims.{Held, Fact, claims_of}
use Rattle.repair_semantics.specs.Conflicts.{held_in, fact_of}
use Rattle.repair_semantics.specs.Candidates.{held_by_number, fact_by_number, claims_by_number}
use Rattle.term_table.specs.declared.numbered.NumberedValue.{NumberedValue}
use Rattle.term_table.specs.declared.numbered.NumberedValue.TheVariants as numbered
use Rattle.term_table.specs.TermTables.{term_at, value_in, IsWithin}
use Rattle.demand_conflicts.specs.declared.demand.NumberedDemand.{NumberedDemand}
use Rattle.demand_conflicts.specs.NumberedDemands.{demand_in, demands_in, IsDemandWithin}
use Rattle.slot_claims.specs.DemandClaims.{ObjectNumbers, number_at, held_at, fact_in, demand_claims, all_claims}

-- ---- one demand more

pub claims_more : (meta : MetaDesc) (numbers : ObjectNumbers) (ds : List NumberedDemand) (k : ℕ) (d : NumberedDemand) → k < length ds
    → d ≡ get_or ds k d
    → all_claims meta numbers (take (k + 1) ds) ≡ all_claims meta numbers (take k ds) ++ demand_claims meta numbers d
claims_more meta numbers ds k d within is =
    let before = filter_map (fact_in numbers) (take k ds) in
    ap (flat_map (claims_of meta)) (filter_map_more (fact_in numbers) ds k d within is)
    ∙ flat_map-append (claims_of meta) before (option_to_list (fact_in numbers d))
    ∙ ap (λ cs. flat_map (claims_of meta) before ++ cs) (by (fact_in numbers d))
  where
    by : (f : Option (Fact ℕ)) → flat_map (claims_of meta) (option_to_list f) ≡ option_map_or (claims_of meta) f []
    by None = refl
    by (Some f) = append-nil (claims_of meta f)

-- ---- demands between terms

module _ (table : List Term) (numbers : ObjectNumbers) (number : Term → Option ℕ)
    (agree : (n : ℕ) → n < length table → number_at numbers n ≡ number (term_at table n)) where
  value_agrees : (v : NumberedValue) → IsWithin table v → held_at numbers v ≡ held_by_number number (held_in (out-TermValue (value_in table v)))
  value_agrees (numbered.Val d) within =
      sym (ap (λ v. held_by_number number (held_in (out-TermValue v))) (sym (values.rolls-Val d))
      ∙ ap (λ v. held_by_number number (held_in v)) (out-roll-TermValue (of.Val d)))
  value_agrees (numbered.Term n) within =
      ap (option_map (λ k. Held.object k)) (agree n within)
      ∙ sym (ap (λ v. held_by_number number (held_in (out-TermValue v))) (sym (values.rolls-Term (term_at table n)))
      ∙ ap (λ v. held_by_number number (held_in v)) (out-roll-TermValue (of.Term (term_at table n))))

  fact_agrees : (d : NumberedDemand) → IsDemandWithin table d → fact_in numbers d ≡ fact_by_number number (fact_of (demand_in table d))
  fact_agrees d within =
      let made : ℕ → Option (Held ℕ) → Option (Fact ℕ) = λ o held. option_map (λ h. record { owner = o; prop = d.prop.0; holds = h }) held in
      ap (option_and_then (λ o. made o (held_at numbers d.value))) (agree d.owner within.0)
      ∙ ap (λ held. option_and_then (λ o. made o held) (number (term_at table d.owner))) (value_agrees d.value within.1)

  facts_agree : (ds : List NumberedDemand) → All (IsDemandWithin table) ds
      → filter_map (fact_in numbers) ds ≡ filter_map (λ d. fact_by_number number (fact_of d)) (demands_in table ds)
  facts_agree [] all = refl
  facts_agree (d ∷ ds) all =
      ap (λ f. cons_option f (filter_map (fact_in numbers) ds)) (fact_agrees d (All-head (IsDemandWithin table) d ds all))
      ∙ ap (cons_option (fact_by_number number (fact_of (demand_in table d)))) (facts_agree ds (All-tail (IsDemandWithin table) d ds all))

  -- the claims are those of the demands
  pub claims_are_the_demands : (meta : MetaDesc) (ds : List NumberedDemand) → All (IsDemandWithin table) ds
      → all_claims meta numbers ds ≡ claims_by_number meta number (demands_in table ds)
  claims_are_the_demands meta ds all = ap (flat_map (claims_of meta)) (facts_agree ds all)
