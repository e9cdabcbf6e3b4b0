-- The entries of a relation with some roots, by the bindings that are found for it.
use Rattle.std.specs.Prelude.{◌≡◌, ◌≢◌, ◌↔◌, ◌<◌, ◌≤◌, ◌^◌, ℕ, Bool, List, map, length, Some, slice_get, slice_index_or, Contains, All, AllPairs}
use Rattle.std.specs.Option.{option_map}
use Rattle.std.proofs.Common.{refl, sym, ap, subst, ◌∙◌}
use Rattle.std.proofs.lemmas.List.Elements.{All-contains_itself}
use Rattle.mof_metamodel.specs.declared.desc.MetaDesc.{MetaDesc}
use Rattle.mof_metamodel.proofs.Facts.{contains_at, contains_map}
use Rattle.object_tables.specs.Models.{ModelData}
use Rattle.qv_syntax.specs.declared.program.Program.{Program}
use Rattle.qv_syntax.specs.declared.program.Rel.{Rel}
use Rattle.template_match.specs.Plans.{IsPlanOf}
use Rattle.repair_semantics.specs.declared.term.Term.{Term}
use Rattle.repair_semantics.specs.declared.entry.EntryName.{EntryName}
use Rattle.repair_semantics.specs.EntryValues.{TermValues}
use Rattle.repair_semantics.specs.TargetItems.{target_metamodel}
use Rattle.term_table.specs.TermTables.{value_in, values_in, IsGrown}
use Rattle.entry_making.specs.Recipes.{IsRecipe}
use Rattle.entry_making.specs.KeyedVariables.{AreGiven}
use Rattle.entry_bindings.specs.declared.matching.Match.{Match}
use Rattle.entry_bindings.specs.Starts.{NumberedValues}
use Rattle.entry_bindings.specs.Matches.{names_in}
use Rattle.entry_bindings.specs.Asked.{IsEnforced, AreRoots, HasPrimitiveRoots, AreWithin, AreMatchesWithin, IsEntryBinding}
use Rattle.entry_bindings.proofs.ValueLaws.{mapped_long}
use Rattle.entry_finding.specs.declared.preparation.Preparation.{Preparation}
use Rattle.entry_finding.specs.declared.found.Found.{Found}
use Rattle.entry_finding.specs.declared.found.UnmetEntry.{UnmetEntry}
use Rattle.entry_finding.specs.declared.found.Finding.{Finding}
use Rattle.entry_finding.specs.declared.found.Finding.TheVariants as findings
use Rattle.entry_finding.specs.Premises.{CanBeEnforced}
use Rattle.entry_finding.specs.Prepared.{IsPreparation}
use Rattle.entry_finding.specs.Found.{IsSought, AreFound, IsUnmetAmong, IfMet, IfUnmet}
use Rattle.entry_finding.specs.Made.{IsBindingIn, AreMade, IsOneUnmet}
use Rattle.entry_finding.proofs.GrownLaws.{places_within, names_grown, roots_grown}
use Rattle.entry_finding.proofs.GivenLaws.{are_given}
use Rattle.entry_finding.proofs.AllLaws.{all_found, one_unmet}

-- what is told of what is found tells more
pub met_more : (P Q : Found → Type 0) (f : Finding) → ((found : Found) → P found → Q found) → IfMet P f → IfMet Q f
met_more P Q (findings.Met found) more h = more found h
met_more P Q (findings.Unmet u) more h = tt

pub unmet_more : (P Q : UnmetEntry → Type 0) (f : Finding) → ((u : UnmetEntry) → P u → Q u) → IfUnmet P f → IfUnmet Q f
unmet_more P Q (findings.Met found) more h = tt
unmet_more P Q (findings.Unmet u) more h = more u h

module _ (metas : List MetaDesc) (program : Program) (models : List ModelData) (p : CanBeEnforced metas program models)
    (number : ℕ) (before : List Term) (roots : NumberedValues) (sought : IsSought metas program models number (values_in before roots))
    (prep : Preparation) (prepared : IsPreparation program (target_metamodel program models) number sought.rel prep) where
  abbrev rel : Rel
  rel = prep.recipe.rel.now

  rel_is : sought.rel ≡ rel
  rel_is = sym prepared.recipe.rel_is

  -- what the search for bindings asks
  pub planned : (r : Rel) × IsPlanOf program prep.plan.rel r prep.plan × IsEnforced program r × AreRoots program r (values_in before roots) × HasPrimitiveRoots r (values_in before roots)
  planned = (
    sought.rel,
    record {
      number_is = refl;
      found = ap (slice_get program.rels) prepared.plan.number_is ∙ sought.found;
      source = prepared.plan.source;
      target = prepared.plan.target;
    },
    record { metas = metas; formed = p.evaluable.well; enforceable = p.enforceable; number = number; found = sought.found; direction = sought.direction },
    record { places = sought.places; data_values = sought.has.data_values; terms = sought.has.terms },
    sought.primitive,
  )

  -- what making the entries asks
  pub recipe_is : IsRecipe program (target_metamodel program models) rel prep.recipe
  recipe_is = subst (λ (r : Rel). IsRecipe program (target_metamodel program models) r prep.recipe) rel_is prepared.recipe

  pub found_is : slice_get program.rels number ≡ Some rel
  found_is = sought.found ∙ ap (λ (r : Rel). Some r) rel_is

  pub short_is : length rel.wheres < 2 ^ 32
  short_is = p.wheres rel (contains_at program.rels number rel found_is)

  pub few_is : length rel.vars ≤ 2 ^ 32
  few_is = p.vars rel (contains_at program.rels number rel found_is)

  module _ (ms : List Match) (bs : List NumberedValues)
      (exact : (r : Rel) → slice_get program.rels prep.plan.rel ≡ Some r → (b : TermValues)
      → Contains (map (values_in before) bs) b ↔ IsEntryBinding program models r (names_in before ms) (values_in before roots) b)
      (apart : AllPairs (λ a b. a ≢ b) (map (values_in before) bs)) where
    plan_found : slice_get program.rels prep.plan.rel ≡ Some rel
    plan_found = ap (slice_get program.rels) prepared.plan.number_is ∙ found_is

    -- each binding is one of which an entry can be made
    pub bindings_in : ((b : NumberedValues) → Contains bs b → AreWithin before b) → All (IsBindingIn program rel before) bs
    bindings_in within k d lt = one (slice_index_or bs k d) (All-contains_itself bs k d lt)
      where
        one : (b : NumberedValues) → Contains bs b → IsBindingIn program rel before b
        one b there =
            let binding : IsEntryBinding program models sought.rel (names_in before ms) (values_in before roots) (values_in before b)
            = (exact sought.rel (ap (slice_get program.rels) prepared.plan.number_is ∙ sought.found) (values_in before b)).0 (contains_map (values_in before) bs b there) in
            let given : AreGiven program sought.rel (values_in before b)
            = are_given metas program models p number sought.rel sought.found sought.direction (values_in before roots) (values_in before b) binding.source sought.has in
            record {
              places = sym (mapped_long (option_map (value_in before)) b) ∙ binding.source.places ∙ ap (λ (r : Rel). length r.vars) rel_is;
              within = places_within before b (within b there);
              given = subst (λ (r : Rel). AreGiven program r (values_in before b)) rel_is given;
            }

    module _ (after : List Term) (g : IsGrown before after) (numbers : AreWithin before roots) (names : AreMatchesWithin before ms) where
      exact_after : (b : TermValues) → Contains (map (values_in before) bs) b ↔ IsEntryBinding program models rel (names_in after ms) (values_in after roots) b
      exact_after b =
          subst (λ (ns : List EntryName). Contains (map (values_in before) bs) b ↔ IsEntryBinding program models rel ns (values_in after roots) b) (sym (names_grown before after g ms names))
          (subst (λ (rs : TermValues). Contains (map (values_in before) bs) b ↔ IsEntryBinding program models rel (names_in before ms) rs b) (sym (roots_grown before after g roots numbers))
          (exact rel plan_found b))

      pub are_found : (called : Bool) (found : Found) → AreMade program models after number rel called (map (values_in before) bs) found
          → AreFound program models after (names_in after ms) number called (values_in after roots) found
      are_found called found made = all_found program models number rel called found_is after (names_in after ms) (values_in after roots) (map (values_in before) bs) exact_after apart found made

      pub is_unmet_among : (called : Bool) (u : UnmetEntry) → IsOneUnmet program models after number rel called (map (values_in before) bs) u
          → IsUnmetAmong program models after (names_in after ms) number called (values_in after roots) u
      is_unmet_among called u one = one_unmet program models number rel called found_is after (names_in after ms) (values_in after roots) (map (values_in before) bs) exact_after apart u one
