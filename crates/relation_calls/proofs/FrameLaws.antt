-- Calls under way: how one begins, what its step may ask, and the answer that it leaves.
use Rattle.std.specs.Prelude.{◌⊎◌, ◌≡◌, ◌<◌, ◌≤◌, ◌-◌, ℕ, suc, not, List, [], ◌∷◌, ◌++◌, length, take, get_or, Option, None, Some, slice_get, Contains, AllPairs, IfOk, IfSome}
use Rattle.std.specs.List.{list_any}
use Rattle.std.specs.declared.result.Result.{Result}
use Rattle.std.specs.declared.result.Result.TheVariants.{Ok, Err}
use Rattle.std.proofs.Common.{refl, sym, ap, subst, ◌∙◌, arith, inl, inr}
use Rattle.std.proofs.lemmas.List.Elements.{Contains-append_left, Contains-append_right, Contains-append_cases}
use Rattle.std.proofs.lemmas.Option.{same_Some, slice_get_read}
use Rattle.qvtr_semantics.specs.declared.limits.TheConstants.{MAX_CALLS}
use Rattle.object_tables.specs.Models.{ModelData}
use Rattle.qv_syntax.specs.declared.program.Program.{Program}
use Rattle.qv_syntax.specs.declared.program.Rel.{Rel}
use Rattle.qvtr_semantics.specs.declared.binding.Binding.{Binding}
use Rattle.qvtr_semantics.specs.Templates.{Values}
use Rattle.qvtr_semantics.specs.Bindings.{Target}
use Rattle.qvtr_semantics.specs.Calls.{RelationCall, AllAsked, Match, calls_of}
use Rattle.qvtr_semantics.specs.Chains.{CallsWhere, MatchChain}
use Rattle.qvtr_semantics.specs.Satisfaction.{IsLess}
use Rattle.template_match.specs.Plans.{IsPlanOf}
use Rattle.template_match.specs.Search.{values_of}
use Rattle.relation_calls.specs.declared.clause_call.Clause.{Clause}
use Rattle.relation_calls.specs.declared.clause_call.Clause.TheVariants as clauses
use Rattle.relation_calls.specs.declared.clause_call.ClauseCall.{ClauseCall}
use Rattle.relation_calls.specs.declared.found.Found.{Found}
use Rattle.relation_calls.specs.declared.frame.Frame.{Frame}
use Rattle.relation_calls.specs.declared.frame.Progress.{Progress}
use Rattle.relation_calls.specs.declared.judging.Judgement.{Judgement}
use Rattle.relation_calls.specs.declared.judging.Judgement.TheVariants as judgements
use Rattle.relation_calls.specs.declared.name.CallName.{CallName}
use Rattle.relation_calls.specs.declared.outcome.Outcome.{Outcome}
use Rattle.relation_calls.specs.Askable.{IsFormed}
use Rattle.relation_calls.specs.Founds.{AreEnough, IsFound}
use Rattle.relation_calls.specs.Frames.{SeenByBindings, CallsOfBindings, IsProgress, EndsWith, IsFrame, IsChainFor, SeenByFrame, IsFrameIn, AreFramesIn, IsPushed, IsResumed, IsTaken}
use Rattle.relation_calls.specs.Links.{IsLinked, AreLinked}
use Rattle.relation_calls.specs.Memos.{IsHeight, IsMatching, IsHolding}
use Rattle.relation_calls.specs.Names.{chain_named}
use Rattle.relation_calls.specs.Outcomes.{AreOutcomes, is_alone, is_partnered}
use Rattle.relation_calls.specs.Owing.{SeenByCall, SeenByBinding, IsJudged, IsCommonHeight, CallsOfBinding, ArePartners}
use Rattle.relation_calls.specs.Seen.{Seen, AreClean}
use Rattle.relation_calls.specs.Visits.{IsChain, IsSourceBinding}
use Rattle.relation_calls.proofs.AskingLaws.{clean_call, called_value, called_clean}
use Rattle.relation_calls.proofs.ChainLaws.{match_chains}
use Rattle.relation_calls.proofs.HeightLaws.{no_calls_height, height_with, call_height}
use Rattle.relation_calls.proofs.HeldLaws.{linked_behind, all_linked, kept_holding}
use Rattle.relation_calls.proofs.ListLaws.{all_taken, before_or_last}
use Rattle.relation_calls.proofs.OutcomeLaws.{matches_where}
use Rattle.relation_calls.proofs.RefusalLaws.{no_chain, length_more}
use Rattle.relation_calls.proofs.StepLaws.{next_values, value_outcomes, value_clean, value_here, values_outcomes, values_clean}
use Rattle.relation_calls.proofs.VisitLaws.{Chains, clean_from, clean_no_values, join, source_binding}
use Rattle.mof_metamodel.proofs.Facts.{only_one}

module _ (program : Program) (models : List ModelData) where
  -- ---- how far bindings are judged

  module _ (upto : List RelationCall) (rel : Rel) (bs : List Binding) where
    abbrev HasPartners : Option (List Binding) → Binding → Type 0
    HasPartners partners b = IfSome partners (λ gs. ArePartners program models upto rel b.values (values_of gs))

    no_partners : (p : Progress) (b : Binding) → p.partners ≡ None → HasPartners p.partners b
    no_partners p b none = subst (λ (gs : Option (List Binding)). HasPartners gs b) (sym none) tt

    -- none is judged
    pub no_progress : (p : Progress) → p.outcomes ≡ [] → p.owed ≡ [] → p.height ≡ 0 → p.partners ≡ None → IsProgress program models upto rel bs p
    no_progress p none nothing low without =
        record {
          few = subst (λ (os : List Outcome). length os ≤ length bs) (sym none) (omega arith);
          outcomes = subst (λ (os : List Outcome). AreOutcomes program models (MAX_CALLS - length upto) rel (values_of (take (length os) bs)) os) (sym none) tt;
          clean = subst (λ (os : List Outcome). AreClean (SeenByBindings program models upto rel (values_of (take (length os) bs)))) (sym none)
              (clean_no_values (SeenByBinding program models upto rel));
          height = subst (λ (os : List Outcome). IsCommonHeight program models (CallsOfBindings program models rel (values_of (take (length os) bs))) p.height) (sym none)
              (subst (IsCommonHeight program models (CallsOfBindings program models rel [])) (sym low)
              (no_calls_height program models (CallsOfBindings program models rel []) (λ d h. let (k, within, is) = h.1 in absurd (omega (arith, within)))));
          owed = λ c has. let (k, within, is) = subst (λ (cs : List ClauseCall). Contains cs c) nothing has in absurd (omega (arith, within));
          partners = λ b at. no_partners p b without;
        }

    -- one more is known, or owes calls
    pub taken : (old new : Progress) (judgement : Judgement) (b : Binding) → length old.outcomes < length bs → b ≡ get_or bs (length old.outcomes) b → IsProgress program models upto rel bs old
        → IsJudged program models upto rel b.values judgement → IsTaken old judgement new → IsProgress program models upto rel bs new
    taken old new (judgements.Known outcome height) b within is before judged becomes =
        let more = length_more old.outcomes outcome in
        let next : length new.outcomes ≡ suc (length old.outcomes) = ap length becomes.0 ∙ more in
        record {
          few = omega (arith, within, next);
          outcomes = subst (λ (os : List Outcome). AreOutcomes program models (MAX_CALLS - length upto) rel (values_of (take (length new.outcomes) bs)) os) (sym becomes.0)
              (value_outcomes bs (length old.outcomes) b within is program models (MAX_CALLS - length upto) rel old.outcomes outcome (length new.outcomes) next before.outcomes judged.0);
          clean = value_clean bs (length old.outcomes) b within is (SeenByBinding program models upto rel) (length new.outcomes) next before.clean judged.1;
          height = subst (IsCommonHeight program models (CallsOfBindings program models rel (values_of (take (length new.outcomes) bs)))) (sym becomes.2)
              (height_with program models (CallsOfBindings program models rel (values_of (take (length old.outcomes) bs))) (CallsOfBinding program models rel b.values)
              (CallsOfBindings program models rel (values_of (take (length new.outcomes) bs))) (either_binding (length old.outcomes) (length new.outcomes) refl next) old.height height before.height judged.2);
          owed = λ c has. before.owed c (subst (λ (cs : List ClauseCall). Contains cs c) becomes.1 has);
          partners = λ x at. no_partners new x becomes.3;
        }
      where
        either_binding : (i j : ℕ) → i ≡ length old.outcomes → j ≡ suc i → (d : RelationCall) → CallsOfBindings program models rel (values_of (take j bs)) d
            → CallsOfBindings program models rel (values_of (take i bs)) d ⊎ CallsOfBinding program models rel b.values d
        either_binding i j at next d (x, has, makes) =
            elim (before_or_last (values_of (take i bs)) b.values x (subst (λ vs. Contains vs x) (next_values bs i b (omega (arith, at, within)) (subst (λ n. b ≡ get_or bs n b) (sym at) is) j next) has)) [
              | inl earlier ↦ inl (x, earlier, makes)
              | inr last ↦ inr (subst (λ y. CallsOfBinding program models rel y d) (sym last) makes)
            ]
    taken old new (judgements.Owed calls partners) b within is before judged becomes =
        record {
          few = subst (λ (os : List Outcome). length os ≤ length bs) (sym becomes.0) before.few;
          outcomes = subst (λ (os : List Outcome). AreOutcomes program models (MAX_CALLS - length upto) rel (values_of (take (length os) bs)) os) (sym becomes.0) before.outcomes;
          clean = subst (λ (os : List Outcome). AreClean (SeenByBindings program models upto rel (values_of (take (length os) bs)))) (sym becomes.0) before.clean;
          height = subst (λ (os : List Outcome). IsCommonHeight program models (CallsOfBindings program models rel (values_of (take (length os) bs))) new.height) (sym becomes.0)
              (subst (IsCommonHeight program models (CallsOfBindings program models rel (values_of (take (length old.outcomes) bs)))) (sym becomes.2) before.height);
          owed = λ c has.
              let one = judged.0 c (subst (λ (cs : List ClauseCall). Contains cs c) becomes.1 has) in
              record {
                askable = one.askable;
                follows = one.follows;
                seen = λ chain seen. (b.values, value_here bs (length old.outcomes) b within is, one.seen chain seen);
              };
          partners = λ x at.
              let here : slice_get bs (length old.outcomes) ≡ Some b = slice_get_read bs (length bs) (length old.outcomes) b refl within is in
              let there : slice_get bs (length old.outcomes) ≡ Some x = subst (λ (os : List Outcome). slice_get bs (length os) ≡ Some x) becomes.0 at in
              subst (HasPartners new.partners) (same_Some b x (sym here ∙ there))
              (subst (λ (gs : Option (List Binding)). HasPartners gs b) (sym becomes.3) judged.1);
        }

    -- all are judged
    module _ (p : Progress) (progress : IsProgress program models upto rel bs p) (past : length bs ≤ length p.outcomes) where
      pub all_outcomes : AreOutcomes program models (MAX_CALLS - length upto) rel (values_of bs) p.outcomes
      all_outcomes = values_outcomes bs (length p.outcomes) past program models (MAX_CALLS - length upto) rel p.outcomes progress.outcomes

      pub all_height : IsCommonHeight program models (CallsOfBindings program models rel (values_of bs)) p.height
      all_height = subst (λ (xs : List Binding). IsCommonHeight program models (CallsOfBindings program models rel (values_of xs)) p.height) (all_taken bs (length p.outcomes) past) progress.height

      pub all_clean : AreClean (SeenByBindings program models upto rel (values_of bs))
      all_clean = values_clean bs (length p.outcomes) past (SeenByBinding program models upto rel) progress.clean

  -- ---- the chain of a call

  module _ (upto : List RelationCall) (d : RelationCall) where
    pub when_chain : (names : List CallName) → names ≡ [] → IsChainFor program models upto clauses.When d (chain_named names)
    when_chain names none =
        subst (λ (ns : List CallName). IsChainFor program models upto clauses.When d (chain_named ns)) (sym none)
        (record { chain = no_chain; ends = refl; linked = λ e calls. tt; seen = λ chain seen. seen })

    where_chain : (names : List CallName) → IsChain upto → IsLinked program models (upto ++ d ∷ []) → chain_named names ≡ upto ++ d ∷ [] → IsChain (chain_named names)
        → IsChainFor program models upto clauses.Where d (chain_named names)
    where_chain names whole linked is longer =
        record {
          chain = longer;
          ends = (upto, whole, is);
          linked = λ e calls. linked_behind program models upto d e names is linked calls;
          seen = λ chain seen. inr (subst (λ u. Seen program models u d chain) is seen);
        }

    pub where_chains : {E : Type 0} → IsChain upto → IsLinked program models (upto ++ d ∷ []) → (result : Result (List CallName) E) → IfOk result (λ names. chain_named names ≡ upto ++ d ∷ [])
        → IfOk result (λ names. IsChain (chain_named names)) → IfOk result (λ names. IsChainFor program models upto clauses.Where d (chain_named names))
    where_chains whole linked (Ok names) is longer = where_chain names whole linked is longer
    where_chains whole linked (Err e) is longer = tt

  -- the bindings of a relation of that number
  pub bindings_found : {E : Type 0} (number : ℕ) (roots : Values) (rel : Rel) → slice_get program.rels number ≡ Some rel → (result : Result (List Binding) E) → IfOk result (λ bs. AreEnough program models rel roots (values_of bs))
      → IfOk result (λ bs. AllPairs (IsLess rel.universal) (values_of bs))
      → IfOk result (λ bs. (r : Rel) → slice_get program.rels number ≡ Some r → AreEnough program models r roots (values_of bs) × AllPairs (IsLess r.universal) (values_of bs))
  bindings_found number roots rel is (Ok bs) enough sorted = λ r found.
      let same : rel ≡ r = same_Some rel r (sym is ∙ found) in
      (subst (λ (x : Rel). AreEnough program models x roots (values_of bs)) same enough, subst (λ (x : Rel). AllPairs (IsLess x.universal) (values_of bs)) same sorted)
  bindings_found number roots rel is (Err e) enough sorted = tt

  -- a call begins
  pub begun : (upto : List RelationCall) (f : Frame) (d : RelationCall) (rel : Rel) → f.key ≡ d → IsPlanOf program d.rel rel f.plan → IsChainFor program models upto f.clause d (chain_named f.upto)
      → AreEnough program models rel d.roots (values_of f.bindings) → AllPairs (IsLess rel.universal) (values_of f.bindings) → f.progress.outcomes ≡ [] → f.progress.owed ≡ [] → f.progress.height ≡ 0 → f.progress.partners ≡ None
      → IsFrameIn program models (SeenByCall program models upto f.clause d) f
  begun upto f d rel same planned chain enough sorted none nothing low without =
      record {
        frame = record {
          rel = rel;
          planned = subst (λ (c : RelationCall). IsPlanOf program c.rel rel f.plan) (sym same) planned;
          chain = chain.chain;
          ends = subst (λ (c : RelationCall). EndsWith f.clause (chain_named f.upto) c) (sym same) chain.ends;
          linked = subst (λ (c : RelationCall). (e : RelationCall) → CallsWhere program models c e → IsLinked program models (chain_named f.upto ++ e ∷ [])) (sym same) chain.linked;
          enough = subst (λ (c : RelationCall). AreEnough program models rel c.roots (values_of f.bindings)) (sym same) enough;
          sorted = sorted;
          progress = no_progress (chain_named f.upto) rel f.bindings f.progress none nothing low without;
        };
        seen = λ rest seen. chain.seen rest (subst (λ (c : RelationCall). Seen program models (chain_named f.upto) c rest) same seen);
      }

  -- ---- a step of a call

  pub plan_found : (f : Frame) (is : IsFrame program models f) → slice_get program.rels f.plan.rel ≡ Some is.rel
  plan_found f is = subst (λ n. slice_get program.rels n ≡ Some is.rel) (sym is.planned.number_is) is.planned.found

  module _ (f : Frame) (is : IsFrame program models f) (r : Rel) (at : slice_get program.rels f.plan.rel ≡ Some r) (us : List CallName) (names : us ≡ f.upto) (bs : List Binding) (here : bs ≡ f.bindings) where
    numbered : slice_get program.rels f.key.rel ≡ Some r
    numbered = subst (λ n. slice_get program.rels n ≡ Some r) is.planned.number_is at

    same : is.rel ≡ r
    same = same_Some is.rel r (sym is.planned.found ∙ numbered)

    pub planned_here : IsPlanOf program f.plan.rel r f.plan
    planned_here = subst (λ n. IsPlanOf program n r f.plan) (sym is.planned.number_is) (subst (λ (x : Rel). IsPlanOf program f.key.rel x f.plan) same is.planned)

    pub chain_here : IsChain (chain_named us)
    chain_here = subst (λ (ns : List CallName). IsChain (chain_named ns)) (sym names) is.chain

    enough_here : AreEnough program models r f.key.roots (values_of bs)
    enough_here =
        subst (λ (xs : List Binding). AreEnough program models r f.key.roots (values_of xs)) (sym here)
        (subst (λ (x : Rel). AreEnough program models x f.key.roots (values_of f.bindings)) same is.enough)

    pub sources_here : (b : Values) → Contains (values_of bs) b → IsSourceBinding r b
    sources_here b has = source_binding program models r f.key.roots b (enough_here.only b has)

    pub linked_here : (b : Values) → Contains (values_of bs) b → AllAsked (Match program models) (calls_of program models b r.whens) → (g : Values) → Target program models r b g
        → AreLinked program models (chain_named us) (calls_of program models g r.wheres)
    linked_here =
        all_linked program models (chain_named us) r f.key (values_of bs) numbered enough_here.only
        (subst (λ (ns : List CallName). (d : RelationCall) → CallsWhere program models f.key d → IsLinked program models (chain_named ns ++ d ∷ [])) (sym names) is.linked)

    pub progress_here : IsProgress program models (chain_named us) r bs f.progress
    progress_here =
        subst (λ (ns : List CallName). IsProgress program models (chain_named ns) r bs f.progress) (sym names)
        (subst (λ (xs : List Binding). IsProgress program models (chain_named f.upto) r xs f.progress) (sym here)
        (subst (λ (x : Rel). IsProgress program models (chain_named f.upto) x f.bindings f.progress) same is.progress))

    pub seen_here : (chain : List RelationCall) → SeenByBindings program models (chain_named us) r (values_of bs) chain → SeenByFrame program models f chain
    seen_here chain (b, has, seen) =
        subst (λ (ns : List CallName). Seen program models (chain_named ns) f.key chain) names (join program models (chain_named us) r f.key chain b numbered (enough_here.only b has) seen)

    pub frame_after : (p : Progress) → IsProgress program models (chain_named us) r bs p → IsFrameIn program models (SeenByFrame program models f) (record f { progress = p })
    frame_after p progress =
        record {
          frame = record {
            rel = is.rel;
            planned = is.planned;
            chain = is.chain;
            ends = is.ends;
            linked = is.linked;
            enough = is.enough;
            sorted = is.sorted;
            progress = subst (λ (x : Rel). IsProgress program models (chain_named f.upto) x f.bindings p) (sym same)
                (subst (λ (xs : List Binding). IsProgress program models (chain_named f.upto) r xs p) here
                (subst (λ (ns : List CallName). IsProgress program models (chain_named ns) r bs p) names progress));
          };
          seen = λ chain seen. seen;
        }

  -- ---- the answer of a call whose bindings are all judged

  module _ (formed : IsFormed program) (f : Frame) (is : IsFrame program models f) (past : length f.bindings ≤ length f.progress.outcomes) where
    abbrev found : Found
    found = record { bindings = f.bindings; outcomes = f.progress.outcomes }

    is_found : IsFound program models (MAX_CALLS - length (chain_named f.upto)) is.rel f.key.roots found
    is_found = record { enough = is.enough; sorted = is.sorted; outcomes = all_outcomes (chain_named f.upto) is.rel f.bindings f.progress is.progress past }

    clean : AreClean (Seen program models (chain_named f.upto) f.key)
    clean = clean_call program models (chain_named f.upto) is.rel f.key (values_of f.bindings) is.planned.found is.enough (all_clean (chain_named f.upto) is.rel f.bindings f.progress is.progress past)

    pub match_kept : f.clause ≡ clauses.When → IsMatching program models f.key (list_any is_partnered f.progress.outcomes)
    match_kept when =
        let none : chain_named f.upto ≡ [] = subst (λ (k : Clause). EndsWith k (chain_named f.upto) f.key) when is.ends in
        record {
          value = matches_where program formed models is.rel found f.key is.planned.found (subst (λ (u : List RelationCall). IsFound program models (MAX_CALLS - length u) is.rel f.key.roots found) none is_found);
          clean = clean_from (Seen program models [] f.key) (MatchChain program models f.key) (λ chain h. (match_chains program models f.key chain).0 h)
              (subst (λ (u : List RelationCall). AreClean (Seen program models u f.key)) none clean);
        }

    pub hold_kept : f.clause ≡ clauses.Where → (height : ℕ) → height ≡ suc f.progress.height → IsHolding program models f.key (record { holds = not (list_any is_alone f.progress.outcomes); height = height })
    hold_kept where_clause height high =
        let (before, whole, ends) = subst (λ (k : Clause). EndsWith k (chain_named f.upto) f.key) where_clause is.ends in
        kept_holding program models before f.key f.key refl (not (list_any is_alone f.progress.outcomes)) whole (called_clean program models before f.key f.upto ends is.chain clean)
        (called_value program models before f.key f.upto ends is.chain is.rel found is.planned.found is_found) height
        (subst (IsHeight program models f.key) (sym high)
        (call_height program models is.rel f.key (values_of f.bindings) f.progress.height is.planned.found is.enough (all_height (chain_named f.upto) is.rel f.bindings f.progress is.progress past)))

  -- ---- frames on a list

  pub frame_in : (S T : Chains) → ((chain : List RelationCall) → S chain → T chain) → (f : Frame) → IsFrameIn program models S f → IsFrameIn program models T f
  frame_in S T into f in_s = record { frame = in_s.frame; seen = λ chain seen. into chain (in_s.seen chain seen) }

  pub some_frame_in : (S T : Chains) → ((chain : List RelationCall) → S chain → T chain) → (o : Option Frame) → IfSome o (IsFrameIn program models S) → IfSome o (IsFrameIn program models T)
  some_frame_in S T into None h = tt
  some_frame_in S T into (Some f) h = frame_in S T into f h

  more_resumed : (old mid new : List Frame) (last f : Frame) → new ≡ mid ++ f ∷ [] → IsResumed program models old last mid → IsFrameIn program models (SeenByFrame program models last) f
      → IsResumed program models old last new
  more_resumed old mid new last f is before one g has = elim (Contains-append_cases mid (f ∷ []) g (subst (λ (fs : List Frame). Contains fs g) is has)) [
    | inl h ↦ before g h
    | inr h ↦ inr (subst (IsFrameIn program models (SeenByFrame program models last)) (only_one f g h) one)
  ]

  pub pushed_resumed : (old mid new : List Frame) (last after : Frame) (begun : Option Frame) → mid ≡ old ++ after ∷ [] → IsFrameIn program models (SeenByFrame program models last) after
      → IfSome begun (IsFrameIn program models (SeenByFrame program models last)) → IsPushed mid begun new → IsResumed program models old last new
  pushed_resumed old mid new last after None is one next pushed =
      more_resumed old old new last after (pushed ∙ is) (λ f has. inl has) one
  pushed_resumed old mid new last after (Some f) is one next pushed =
      more_resumed old mid new last f pushed (more_resumed old old mid last after is (λ f has. inl has) one) next

  module _ (S : Chains) where
    pub no_frames : (frames : List Frame) → frames ≡ [] → AreFramesIn program models S frames
    no_frames frames none f has = let (k, within, is) = subst (λ (fs : List Frame). Contains fs f) none has in absurd (omega (arith, within))

    pub frames_more : (old new : List Frame) (f : Frame) → new ≡ old ++ f ∷ [] → AreFramesIn program models S old → IsFrameIn program models S f → AreFramesIn program models S new
    frames_more old new f is before one g has = elim (Contains-append_cases old (f ∷ []) g (subst (λ (fs : List Frame). Contains fs g) is has)) [
      | inl h ↦ before g h
      | inr h ↦ subst (IsFrameIn program models S) (only_one f g h) one
    ]

    pub frames_pushed : (old new : List Frame) (begun : Option Frame) → IsPushed old begun new → AreFramesIn program models S old → IfSome begun (IsFrameIn program models S) → AreFramesIn program models S new
    frames_pushed old new None pushed before next = λ f has. before f (subst (λ (fs : List Frame). Contains fs f) pushed has)
    frames_pushed old new (Some f) pushed before next = frames_more old new f pushed before next

    module _ (old rest : List Frame) (last : Frame) (is : old ≡ rest ++ last ∷ []) (before : AreFramesIn program models S old) where
      pub last_in : IsFrameIn program models S last
      last_in = before last (subst (λ (fs : List Frame). Contains fs last) (sym is) (Contains-append_right rest (last ∷ []) last (0, omega arith, refl)))

      pub frames_resumed : (new : List Frame) → IsResumed program models rest last new → AreFramesIn program models S new
      frames_resumed new resumed f has = elim (resumed f has) [
        | inl h ↦ before f (subst (λ (fs : List Frame). Contains fs f) (sym is) (Contains-append_left rest (last ∷ []) f h))
        | inr one ↦ frame_in (SeenByFrame program models last) S last_in.seen f one
      ]
