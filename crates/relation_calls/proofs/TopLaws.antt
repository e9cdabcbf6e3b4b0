-- A top relation whose bindings begin with seeds: what fails, and the chains that are reached, are those of all its bindings.
use Rattle.std.specs.Prelude.{◌≡◌, AllPairs, ◌⊎◌, ◌≤◌, ◌<◌, ℕ, suc, List, [], ◌∷◌, ◌++◌, length, take, get_or, Option, None, Some, slice_get, Contains, MatchOption}
use Rattle.std.specs.Option.{option_map}
use Rattle.std.proofs.Common.{sym, ap, subst, ◌∙◌, inl, inr}
use Rattle.std.proofs.lemmas.Bool.{true≢false}
use Rattle.std.proofs.lemmas.List.Elements.{Contains-append_left, Contains-append_right}
use Rattle.std.proofs.lemmas.Option.{same_Some}
use Rattle.mof_metamodel.proofs.Facts.{contains_first, nothing_in}
use Rattle.qvtr_semantics.specs.declared.limits.TheConstants.{MAX_CALLS}
use Rattle.object_tables.specs.Models.{ModelData}
use Rattle.qv_syntax.specs.declared.program.Program.{Program}
use Rattle.qv_syntax.specs.declared.program.Rel.{Rel}
use Rattle.qvtr_semantics.specs.declared.binding.Binding.{Binding}
use Rattle.qvtr_semantics.specs.Templates.{Values}
use Rattle.qvtr_semantics.specs.Bindings.{Source}
use Rattle.qvtr_semantics.specs.Calls.{RelationCall, SourceMatches, TargetHolds, Match, Holds, free}
use Rattle.qvtr_semantics.specs.Satisfaction.{IsTop, Failing, IsLess}
use Rattle.template_match.specs.Search.{values_of}
use Rattle.template_match.proofs.OrderLaws.{AreBound}
use Rattle.relation_calls.specs.declared.visit.Visit.{Visit}
use Rattle.relation_calls.specs.declared.error.CallError.{CallError}
use Rattle.relation_calls.specs.declared.outcome.Outcome.TheVariants as outcomes
use Rattle.relation_calls.specs.Seen.{TopChain, AreClean}
use Rattle.relation_calls.specs.Faults.{IsFault}
use Rattle.relation_calls.specs.declared.outcome.Outcome.{Outcome}
use Rattle.relation_calls.specs.Outcomes.{IsOutcome, AreOutcomes, first_alone}
use Rattle.relation_calls.specs.Founds.{AreEnough, IsLeastOf}
use Rattle.relation_calls.specs.Visits.{IsSourceBinding, left_of, SeenBy, SeenByAny}
use Rattle.relation_calls.specs.Seeds.{AreSeeds, IsSeedOf, IsAloneFrom, IsAloneFromAny, SeenFrom, IsLeastFound, lesser}
use Rattle.relation_calls.proofs.ChainLaws.{top_chains}
use Rattle.relation_calls.proofs.SeedLaws.{seed_source, free_source}
use Rattle.relation_calls.proofs.ListLaws.{before_or_last, all_taken}
use Rattle.relation_calls.proofs.VisitLaws.{Chains, ByBinding, split, join, fault_in, clean_from, source_binding}
use Rattle.relation_calls.proofs.FailingLaws.{first_least}
use Rattle.relation_calls.proofs.OutsideLaws.{call_at}
use Rattle.relation_calls.proofs.LeastLaws.{lesser_least, least_same}
use Rattle.relation_calls.proofs.StepLaws.{next_values}

-- ---- what is found with a seed

module _ (v : Visit) (f : Values) (bs xs : List Binding) (same : xs ≡ bs) (enough : AreEnough v.program.now v.models.now v.rel.now f (values_of bs)) where
  pub found_least : (sorted : AllPairs (IsLess v.rel.now.universal) (values_of bs)) (os zs : List Outcome) → AreOutcomes v.program.now v.models.now (left_of v) v.rel.now (values_of xs) os
      → (ys : List Binding) → ys ≡ bs → zs ≡ os → (o : Option Binding) → option_map (λ (b : Binding). b.values) o ≡ first_alone (values_of ys) zs → IsLeastFound v.rel.now.universal (IsAloneFrom v f) o
  found_least sorted os zs outcomes_are ys again alike o first =
      first_least v.program.now v.models.now (left_of v) v.rel.now f (values_of bs) os enough sorted
      (subst (λ (ws : List Binding). AreOutcomes v.program.now v.models.now (left_of v) v.rel.now (values_of ws) os) same outcomes_are) o
      (first ∙ ap (λ (ws : List Binding). first_alone (values_of ws) zs) again ∙ ap (first_alone (values_of bs)) alike)

  found_source : (b : Values) → Contains (values_of xs) b → Source v.program.now v.models.now v.rel.now f b
  found_source b has = enough.only b (subst (λ (ws : List Binding). Contains (values_of ws) b) same has)

  pub found_sources : (b : Values) → Contains (values_of xs) b → IsSourceBinding v.rel.now b
  found_sources b has = source_binding v.program.now v.models.now v.rel.now f b (found_source b has)

  pub found_clean : AreClean (SeenByAny v (values_of xs)) → AreClean (SeenFrom v f)
  found_clean clean chain (b, source, by) bad = clean chain (b, subst (λ (ws : List Binding). Contains (values_of ws) b) (sym same) (among b source by), by) bad
    where
      among : (b : Values) → Source v.program.now v.models.now v.rel.now f b → SeenBy v b chain → Contains (values_of bs) b
      among b source (inl asked) = enough.asked b asked.0 chain source asked.1 asked.2 bad
      among b source (inr partner) = enough.matched b source partner.0

  pub found_fault : (e : CallError) → IsFault (SeenByAny v (values_of xs)) e → IsFault (SeenFrom v f) e
  found_fault = fault_in (SeenByAny v (values_of xs)) (SeenFrom v f) (λ chain h. (h.0, found_source h.0 h.1, h.2))

-- ---- seeds one after another

alone_bound : (v : Visit) (f b : Values) → IsAloneFrom v f b → AreBound v.rel.now.universal b
alone_bound v f b alone = (source_binding v.program.now v.models.now v.rel.now f b alone.0).universals

module _ (v : Visit) (seeds : List Binding) (i : ℕ) (seed : Binding) (within : i < length seeds) (is : seed ≡ get_or seeds i seed) where
  abbrev earlier : List Values
  earlier = values_of (take i seeds)

  -- what was found so far, and what is found with the next
  pub next_least : (j : ℕ) (least first : Option Binding) → j ≡ suc i → IsLeastFound v.rel.now.universal (IsAloneFromAny v (values_of (take i seeds))) least
      → IsLeastFound v.rel.now.universal (IsAloneFrom v seed.values) first
      → IsLeastFound v.rel.now.universal (IsAloneFromAny v (values_of (take j seeds))) (lesser v.rel.now.universal least first)
  next_least j least first next one other =
      subst (λ fs. IsLeastFound v.rel.now.universal (IsAloneFromAny v fs) (lesser v.rel.now.universal least first)) (sym (next_values seeds i seed within is j next))
      (least_same v.rel.now.universal (λ b. IsAloneFromAny v earlier b ⊎ IsAloneFrom v seed.values b) (IsAloneFromAny v (earlier ++ seed.values ∷ [])) (lesser v.rel.now.universal least first) to from
      (lesser_least v.rel.now.universal (IsAloneFromAny v earlier) (IsAloneFrom v seed.values) (λ b h. alone_bound v h.0 b h.2) (λ b h. alone_bound v seed.values b h) least first one other))
    where
      to : (b : Values) → IsAloneFromAny v earlier b ⊎ IsAloneFrom v seed.values b → IsAloneFromAny v (earlier ++ seed.values ∷ []) b
      to b (inl (f, has, alone)) = (f, Contains-append_left earlier (seed.values ∷ []) f has, alone)
      to b (inr alone) = (seed.values, Contains-append_right earlier (seed.values ∷ []) seed.values (contains_first seed.values []), alone)

      from : (b : Values) → IsAloneFromAny v (earlier ++ seed.values ∷ []) b → IsAloneFromAny v earlier b ⊎ IsAloneFrom v seed.values b
      from b (f, has, alone) = elim (before_or_last earlier seed.values f has) [
        | inl before ↦ inl (f, before, alone)
        | inr last ↦ inr (subst (λ x. IsAloneFrom v x b) (sym last) alone)
      ]

pub no_least : (v : Visit) (least : Option Binding) → least ≡ None → IsLeastFound v.rel.now.universal (IsAloneFromAny v []) least
no_least v least none = subst (IsLeastFound v.rel.now.universal (IsAloneFromAny v [])) (sym none) (λ b h. nothing_in h.0 h.1)

pub all_least : (v : Visit) (seeds : List Binding) (i : ℕ) (least : Option Binding) → length seeds ≤ i → IsLeastFound v.rel.now.universal (IsAloneFromAny v (values_of (take i seeds))) least
    → IsLeastFound v.rel.now.universal (IsAloneFromAny v (values_of seeds)) least
all_least v seeds i least past h = subst (λ (xs : List Binding). IsLeastFound v.rel.now.universal (IsAloneFromAny v (values_of xs)) least) (all_taken seeds i past) h

-- ---- a top relation

module _ (program : Program) (models : List ModelData) (number : ℕ) (rel : Rel) (top : IsTop program number rel) (seeds : List Values) (are : AreSeeds program models rel seeds) where
  abbrev topmost : RelationCall
  topmost = record { rel = number; roots = free rel }

  abbrev AloneAt : ℕ → Values → Values → Type 0
  AloneAt n f b = Source program models rel f b × IsOutcome program models n rel b outcomes.Alone

  abbrev AloneWith : ℕ → Values → Type 0
  AloneWith n b = (f : Values) × Contains seeds f × AloneAt n f b

  abbrev AloneFromAny : Values → Type 0
  AloneFromAny = AloneWith MAX_CALLS

  abbrev FromSeed : List RelationCall → Values → Chains
  FromSeed upto f chain = (b : Values) × Source program models rel f b × ByBinding program models upto rel b chain

  abbrev FromBehind : List RelationCall → Chains
  FromBehind upto chain = (f : Values) × Contains seeds f × FromSeed upto f chain

  abbrev FromAny : Chains
  FromAny = FromBehind []

  fails : (b : Values) → AloneFromAny b → Failing program models number b
  fails b h =
      record {
        rel = rel;
        top = top;
        source = record { source = free_source program models rel h.0 b (λ v d at. are.universal h.0 v d h.1 at) h.2.0; whens = h.2.1.0 };
        alone = h.2.1.1;
      }

  alone_from : (b : Values) → Failing program models number b → AloneFromAny b
  alone_from b failing =
      let same : failing.rel ≡ rel = same_Some failing.rel rel (sym failing.top.is ∙ top.is) in
      let source : SourceMatches (Match program models) program models rel (free rel) b = subst (λ (r : Rel). SourceMatches (Match program models) program models r (free r) b) same failing.source in
      let alone : (g : Values) → ¬ TargetHolds (Holds program models) program models rel b g = subst (λ (r : Rel). (g : Values) → ¬ TargetHolds (Holds program models) program models r b g) same failing.alone in
      let (f, has, more) = are.all b source.source in
      (f, has, (seed_source program models rel f b more source.source, (source.whens, alone)))

  -- the least that is alone is the least that fails
  least_failing : (o : Option Binding) → IsLeastFound rel.universal AloneFromAny o
      → MatchOption o ((b : Values) → ¬ Failing program models number b) (λ b. IsLeastOf program models number b.values)
  unfolding fails
  least_failing None none = λ b failing. none b (alone_from b failing)
  least_failing (Some b) least = record { failing = fails b.values least.among; least = λ c failing less. least.least c (alone_from c failing) less }

  pub top_value : (n : ℕ) → n ≡ MAX_CALLS → (o : Option Binding) → IsLeastFound rel.universal (AloneWith n) o
      → MatchOption o ((b : Values) → ¬ Failing program models number b) (λ b. IsLeastOf program models number b.values)
  top_value n all o least = least_failing o (subst (λ k. IsLeastFound rel.universal (AloneWith k) o) all least)

  seen_from : (chain : List RelationCall) → TopChain program models topmost chain → FromAny chain
  seen_from chain h =
      let (b, source, by) = split program models [] rel topmost chain top.is ((top_chains program models topmost chain).0 h) in
      let (f, has, more) = are.all b source in
      (f, has, (b, seed_source program models rel f b more source, by))

  from_seen : (chain : List RelationCall) → FromAny chain → TopChain program models topmost chain
  from_seen chain (f, has, (b, source, by)) =
      (top_chains program models topmost chain).1 (join program models [] rel topmost chain b top.is (free_source program models rel f b (λ v d at. are.universal f v d has at) source) by)

  pub top_clean : (upto : List RelationCall) → upto ≡ [] → AreClean (FromBehind upto) → AreClean (TopChain program models topmost)
  top_clean upto none clean = clean_from FromAny (TopChain program models topmost) seen_from (subst (λ u. AreClean (FromBehind u)) none clean)

  pub top_fault : (upto : List RelationCall) → upto ≡ [] → (e : CallError) → IsFault (FromBehind upto) e → IsFault (TopChain program models topmost) e
  top_fault upto none e f = fault_in FromAny (TopChain program models topmost) from_seen e (subst (λ u. IsFault (FromBehind u) e) none f)

  -- seeds with which a search can begin
  pub top_seeds : (f : Values) → Contains seeds f → IsSeedOf rel f
  top_seeds f has = record { places = are.places f has; primitives = λ dom low among none. absurd (true≢false (sym top.top ∙ low)) }

-- ---- the relation that a plan is of

module _ (program : Program) (models : List ModelData) (number other : ℕ) (called rel : Rel) (top : IsTop program number called) (is : slice_get program.rels number ≡ Some rel) (same : other ≡ number) where
  pub top_at : IsTop program other rel
  top_at =
      let one : called ≡ rel = same_Some called rel (sym top.is ∙ is) in
      subst (λ n. IsTop program n rel) (sym same) (subst (IsTop program number) one top)

  one_call : (r : Rel) → IsTop program number r → ◌≡◌ {A = RelationCall} (record { rel = other; roots = free rel }) (record { rel = number; roots = free r })
  one_call r t =
      ap (λ n. call_at n (free rel)) same ∙ ap (λ (x : Rel). call_at number (free x)) (same_Some rel r (sym is ∙ t.is))

  pub clean_at : AreClean (TopChain program models (record { rel = other; roots = free rel })) → (r : Rel) → IsTop program number r → AreClean (TopChain program models (record { rel = number; roots = free r }))
  clean_at clean r t = subst (λ (x : RelationCall). AreClean (TopChain program models x)) (one_call r t) clean

  pub fault_at : (e : CallError) → IsFault (TopChain program models (record { rel = other; roots = free rel })) e → (r : Rel) → IsTop program number r
      → IsFault (TopChain program models (record { rel = number; roots = free r })) e
  fault_at e f r t = subst (λ (x : RelationCall). IsFault (TopChain program models x) e) (one_call r t) f
