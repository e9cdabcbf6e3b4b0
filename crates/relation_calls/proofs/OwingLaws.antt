-- Answers to the calls of a clause and of partners, and calls that a binding owes.
use Rattle.std.specs.Prelude.{◌≡◌, ◌⊎◌, ◌<◌, ◌≤◌, ◌↔◌, ◌-◌, ℕ, suc, Bool, true, false, List, [], ◌∷◌, ◌++◌, length, take, get_or, Option, None, Some, slice_get, Contains, IsTrue, IfSome}
use Rattle.std.specs.BTreeMap.{get}
use Rattle.std.specs.Option.{option_map}
use Rattle.std.proofs.Common.{refl, sym, ap, subst, ◌∙◌, arith, inl, inr}
use Rattle.std.proofs.lemmas.Bool.{true≢false}
use Rattle.std.proofs.lemmas.List.Elements.{Contains-append_cases}
use Rattle.std.proofs.lemmas.Option.{same_Some}
use Rattle.qvtr_semantics.specs.declared.limits.TheConstants.{MAX_CALLS}
use Rattle.object_tables.specs.Models.{ModelData}
use Rattle.qv_syntax.specs.declared.program.Program.{Program}
use Rattle.qv_syntax.specs.declared.program.Rel.{Rel}
use Rattle.qvtr_semantics.specs.declared.binding.Binding.{Binding}
use Rattle.qvtr_semantics.specs.Templates.{Values}
use Rattle.qvtr_semantics.specs.Bindings.{Target}
use Rattle.qvtr_semantics.specs.Calls.{RelationCall, AllAsked, Match, calls_of}
use Rattle.qvtr_semantics.specs.Chains.{MatchChain}
use Rattle.template_match.specs.Search.{values_of}
use Rattle.relation_calls.specs.declared.clause_call.Clause.{Clause}
use Rattle.relation_calls.specs.declared.clause_call.Clause.TheVariants as clauses
use Rattle.relation_calls.specs.declared.clause_call.ClauseCall.{ClauseCall}
use Rattle.relation_calls.specs.declared.judging.Judgement.TheVariants as judgements
use Rattle.relation_calls.specs.declared.memo.Answer.{Answer}
use Rattle.relation_calls.specs.declared.memo.Memo.{Memo}
use Rattle.relation_calls.specs.declared.name.CallName.{CallName}
use Rattle.relation_calls.specs.declared.outcome.Outcome.TheVariants as outcomes
use Rattle.relation_calls.specs.declared.visit.Visit.{Visit}
use Rattle.relation_calls.specs.Askable.{IsFormed}
use Rattle.relation_calls.specs.CallOrder.{call_order}
use Rattle.relation_calls.specs.Links.{IsLinked, AreLinked}
use Rattle.relation_calls.specs.Memos.{IsTold, IsHeight, both_hold, one_holds}
use Rattle.relation_calls.specs.Names.{call_named, calls_named}
use Rattle.relation_calls.specs.Owing.{asked_in, SeenByCall, SeenByCalls, SeenByBinding, MayFollow, MayAllFollow, IsAnswer, IsAnswerOfAny, IsCallIn, IsOwed, IsJudged, IsCommonHeight, CallsIn, CallsOfPartners, CallsOfBinding, outcome_with}
use Rattle.relation_calls.specs.Outcomes.{IsOutcome}
use Rattle.relation_calls.specs.Seen.{Seen, AreClean}
use Rattle.relation_calls.specs.Visits.{IsChain, upto_of, left_of, match_in, hold_in, whens_of, wheres_of, SeenInWheres, SeenByPartners, SeenByTargets}
use Rattle.relation_calls.proofs.AskingLaws.{partner_value, partner_seen, unmatched_clean, matched_clean}
use Rattle.relation_calls.proofs.CallLaws.{below_whens, below_wheres}
use Rattle.relation_calls.proofs.ChainLaws.{match_chains}
use Rattle.relation_calls.proofs.HeightLaws.{no_calls_height, height_from, height_with}
use Rattle.relation_calls.proofs.HeldLaws.{taken_value, taken_clean, taken_height, taken_few}
use Rattle.relation_calls.proofs.ListLaws.{all_taken, before_or_last}
use Rattle.relation_calls.proofs.StepLaws.{call_here, next_calls, next_values, call_value, call_clean, value_any, value_clean}
use Rattle.relation_calls.proofs.VisitLaws.{clean_from, clean_no_calls, clean_no_values, any_none, by_one, by_none, asked_one}
use Rattle.mof_metamodel.proofs.Facts.{only_one}

-- ---- answers

module _ (program : Program) (models : List ModelData) (upto : List RelationCall) where
  -- of one call
  one_answer : (clause : Clause) (d : RelationCall) (one : Answer) → (IsTrue one.holds ↔ asked_in program models upto clause d) → AreClean (SeenByCall program models upto clause d)
      → IsCommonHeight program models (CallsIn clause (Some d ∷ [])) one.height → IsAnswer program models upto clause (Some d ∷ []) one
  one_answer clause d one value clean height =
      let same = asked_one (asked_in program models upto clause) d in
      record {
        value = (λ h. same.1 (value.0 h), λ h. value.1 (same.0 h));
        clean = clean_from (SeenByCall program models upto clause d) (SeenByCalls program models upto clause (Some d ∷ [])) (λ chain seen. (by_one (SeenByCall program models upto clause) d chain).0 seen) clean;
        height = height;
      }

  -- a call in a when clause begins no chain
  none_behind : (calls : List (Option RelationCall)) → IsCommonHeight program models (CallsIn clauses.When calls) 0
  none_behind calls = no_calls_height program models (CallsIn clauses.When calls) (λ d h. let never = h.0 in absurd (cc))

  pub match_answer : (memo : Memo) → IsTold program models memo → (d : RelationCall) (one : Bool) → get call_order memo.matching d ≡ Some one
      → IsAnswer program models upto clauses.When (Some d ∷ []) (record { holds = one; height = 0 })
  match_answer memo told d one is =
      let kept = told.matching d one is in
      one_answer clauses.When d (record { holds = one; height = 0 }) kept.value
      (clean_from (MatchChain program models d) (Seen program models [] d) (λ chain seen. (match_chains program models d chain).1 seen) kept.clean)
      (none_behind (Some d ∷ []))

  pub hold_answer : (memo : Memo) (told : IsTold program models memo) (key d : RelationCall) (same : key ≡ d) (left : ℕ) (most : left ≡ MAX_CALLS - length upto) → IsChain upto → IsLinked program models (upto ++ d ∷ [])
      → (found : Option Answer) (kept : IfSome found (λ one. (one.height ≤ left) × (get call_order memo.holding key ≡ Some one)))
      → IfSome found (IsAnswer program models upto clauses.Where (Some d ∷ []))
  hold_answer memo told key d same left most whole linked None kept = tt
  hold_answer memo told key d same left most whole linked (Some one) kept =
      one_answer clauses.Where d one (taken_value program models memo told upto key d same left most one kept)
      (taken_clean program models memo told upto key d same left most one kept whole linked)
      (record {
        few = taken_few program models memo told upto key d same left most one kept;
        each = λ e h. subst (λ (c : RelationCall). IsHeight program models c one.height) (same_Some d e (only_one (Some d) (Some e) h.1)) (taken_height program models memo told upto key d same left most one kept);
      })

  -- a conjunct that makes no call
  pub none_answer : (clause : Clause) → IsAnswer program models upto clause (None ∷ []) (record { holds = false; height = 0 })
  none_answer clause =
      record {
        value = (λ h. absurd (true≢false (sym h)), λ h. absurd h);
        clean = by_none (SeenByCall program models upto clause);
        height = no_calls_height program models (CallsIn clause (None ∷ [])) (λ d h. let never : None ≡ Some d = only_one None (Some d) h.1 in absurd (cc));
      }

  -- no calls, and one more
  pub no_answers : (clause : Clause) → IsAnswer program models upto clause [] (record { holds = true; height = 0 })
  no_answers clause =
      record {
        value = (λ h. tt, λ h. refl);
        clean = clean_no_calls (SeenByCall program models upto clause);
        height = no_calls_height program models (CallsIn clause []) (λ d h. let (k, within, is) = h.1 in absurd (omega (arith, within)));
      }

  module _ (calls : List (Option CallName)) (i : ℕ) where
    pub call_follows : (call : Option CallName) → i < length calls → call ≡ get_or calls i call → (clause : Clause) → MayAllFollow program models upto clause (calls_named calls)
        → MayAllFollow program models upto clause (option_map call_named call ∷ [])
    call_follows call within is clause follow d one =
        follow d (subst (Contains (calls_named calls)) (only_one (option_map call_named call) (Some d) one) (call_here calls i call within is))

    pub answer_more : (call : Option CallName) → i < length calls → call ≡ get_or calls i call → (j : ℕ) → j ≡ suc i → (clause : Clause) (all one : Answer)
        → IsAnswer program models upto clause (calls_named (take i calls)) all → IsAnswer program models upto clause (option_map call_named call ∷ []) one
        → IsAnswer program models upto clause (calls_named (take j calls)) (both_hold all one)
    answer_more call within is j next clause all one before last =
        record {
          value = call_value calls i call within is (asked_in program models upto clause) j all.holds one.holds next before.value last.value;
          clean = call_clean calls i call within is (SeenByCall program models upto clause) j next before.clean last.clean;
          height = height_with program models (CallsIn clause (calls_named (take i calls))) (CallsIn clause (option_map call_named call ∷ [])) (CallsIn clause (calls_named (take j calls)))
              either_call all.height one.height before.height last.height;
        }
      where
        either_call : (d : RelationCall) → CallsIn clause (calls_named (take j calls)) d → CallsIn clause (calls_named (take i calls)) d ⊎ CallsIn clause (option_map call_named call ∷ []) d
        either_call d h = elim (Contains-append_cases (calls_named (take i calls)) (option_map call_named call ∷ []) (Some d) (subst (λ cs. Contains cs (Some d)) (next_calls calls i call within is j next) h.1)) [
          | inl before ↦ inl (h.0, before)
          | inr last ↦ inr (h.0, last)
        ]

    pub all_answered : length calls ≤ i → (clause : Clause) (all : Answer) → IsAnswer program models upto clause (calls_named (take i calls)) all → IsAnswer program models upto clause (calls_named calls) all
    all_answered past clause all h = subst (λ cs. IsAnswer program models upto clause (calls_named cs) all) (all_taken calls i past) h

-- of partners
module _ (v : Visit) where
  pub no_partners : IsAnswerOfAny v [] (record { holds = false; height = 0 })
  no_partners =
      record {
        value = any_none (λ g. AllAsked (hold_in v) (wheres_of v g));
        clean = clean_no_values (λ g. SeenInWheres v (wheres_of v g));
        height = no_calls_height v.program.now v.models.now (CallsOfPartners v []) (λ d h. let (k, within, is) = h.1 in absurd (omega (arith, within)));
      }

  module _ (gs : List Binding) (i : ℕ) where
    pub partner_more : (g : Binding) → i < length gs → g ≡ get_or gs i g → (j : ℕ) → j ≡ suc i → (any one : Answer) → IsAnswerOfAny v (values_of (take i gs)) any
        → IsAnswer v.program.now v.models.now (upto_of v) clauses.Where (wheres_of v g.values) one → IsAnswerOfAny v (values_of (take j gs)) (one_holds any one)
    partner_more g within is j next any one before last =
        record {
          value = value_any gs i g within is (λ x. AllAsked (hold_in v) (wheres_of v x)) j any.holds one.holds next before.value last.value;
          clean = value_clean gs i g within is (λ x. SeenInWheres v (wheres_of v x)) j next before.clean last.clean;
          height = height_with v.program.now v.models.now (CallsOfPartners v (values_of (take i gs))) (CallsIn clauses.Where (wheres_of v g.values)) (CallsOfPartners v (values_of (take j gs)))
              either_partner any.height one.height before.height last.height;
        }
      where
        either_partner : (d : RelationCall) → CallsOfPartners v (values_of (take j gs)) d → CallsOfPartners v (values_of (take i gs)) d ⊎ CallsIn clauses.Where (wheres_of v g.values) d
        either_partner d (x, has, makes) = elim (before_or_last (values_of (take i gs)) g.values x (subst (λ vs. Contains vs x) (next_values gs i g within is j next) has)) [
          | inl before ↦ inl (x, before, makes)
          | inr last ↦ inr (refl, subst (λ y. Contains (wheres_of v y) (Some d)) (sym last) makes)
        ]

    pub all_partners : length gs ≤ i → (any : Answer) → IsAnswerOfAny v (values_of (take i gs)) any → IsAnswerOfAny v (values_of gs) any
    all_partners past any h = subst (λ (xs : List Binding). IsAnswerOfAny v (values_of xs) any) (all_taken gs i past) h

-- ---- calls of a clause

pub no_call : (owed : List ClauseCall) → owed ≡ [] → (P : ClauseCall → Type 0) (c : ClauseCall) → Contains owed c → P c
no_call owed none P c has = let (k, within, is) = subst (λ (cs : List ClauseCall). Contains cs c) none has in absurd (omega (arith, within))

abbrev pub AreAdded : (ClauseCall → Type 0) → List ClauseCall → List ClauseCall → Type 0
AreAdded P old new = (c : ClauseCall) → Contains new c → Contains old c ⊎ P c

pub none_added : (P : ClauseCall → Type 0) (old : List ClauseCall) → AreAdded P old old
none_added P old c has = inl has

pub one_added : (P : ClauseCall → Type 0) (old new : List ClauseCall) (last : ClauseCall) → P last → new ≡ old ++ last ∷ [] → AreAdded P old new
one_added P old new last one is c has = elim (Contains-append_cases old (last ∷ []) c (subst (λ (cs : List ClauseCall). Contains cs c) is has)) [
  | inl h ↦ inl h
  | inr h ↦ inr (subst P (only_one last c h) one)
]

pub more_added : (P Q : ClauseCall → Type 0) → ((c : ClauseCall) → Q c → P c) → (old mid new : List ClauseCall) → AreAdded P old mid → AreAdded Q mid new → AreAdded P old new
more_added P Q into old mid new before last c has = elim (last c has) [
  | inl h ↦ before c h
  | inr q ↦ inr (into c q)
]

pub all_added : (P : ClauseCall → Type 0) (old new : List ClauseCall) → old ≡ [] → AreAdded P old new → (c : ClauseCall) → Contains new c → P c
all_added P old new none added c has = elim (added c has) [
  | inl h ↦ no_call old none P c h
  | inr p ↦ p
]

-- a call of one conjunct is one of the clause
pub in_whole : (clause : Clause) (calls : List (Option CallName)) (i : ℕ) (call : Option CallName) → i < length calls → call ≡ get_or calls i call → (c : ClauseCall)
    → IsCallIn clause (option_map call_named call ∷ []) c → IsCallIn clause (calls_named calls) c
in_whole clause calls i call within is c one =
    record {
      in_clause = one.in_clause;
      among = subst (Contains (calls_named calls)) (only_one (option_map call_named call) (Some (call_named c.name)) one.among) (call_here calls i call within is);
    }

-- a copy of the call of a conjunct
pub copied : (clause : Clause) (call : Option CallName) (name copy : CallName) → call ≡ Some name → call_named copy ≡ call_named name
    → IsCallIn clause (option_map call_named call ∷ []) (record { clause = clause; name = copy })
copied clause call name copy is same =
    let at : option_map call_named call ≡ Some (call_named copy) = ap (option_map call_named) is ∙ ap (λ (d : RelationCall). Some d) (sym same) in
    record { in_clause = refl; among = (0, omega arith, at) }

-- ---- what is known of a binding

module _ (program : Program) (models : List ModelData) (formed : IsFormed program) (upto : List RelationCall) (number : ℕ) (rel : Rel) (found : slice_get program.rels number ≡ Some rel) (b : Values) where
  abbrev Whens : List (Option RelationCall)
  Whens = calls_of program models b rel.whens

  pub when_owed : (c : ClauseCall) → IsCallIn clauses.When Whens c → IsOwed program models upto (SeenByBinding program models upto rel b) c
  when_owed c one =
      let d = call_named c.name in
      record {
        askable = (below_whens program models formed number rel b found d one.among).0;
        follows = subst (λ k. MayFollow program models upto k d) (sym one.in_clause) tt;
        seen = λ chain seen. inl (d, one.among, subst (λ k. SeenByCall program models upto k d chain) one.in_clause seen);
      }

  pub unmatched : (answer : Answer) → answer.holds ≡ false → IsAnswer program models upto clauses.When Whens answer → IsJudged program models upto rel b (judgements.Known outcomes.Unmatched 0)
  unmatched answer fails is =
      let never : ¬ AllAsked (Match program models) Whens = λ all. true≢false (sym (is.value.1 all) ∙ fails) in
      (never, unmatched_clean program models upto rel b never is.clean, no_calls_height program models (CallsOfBinding program models rel b) (λ d h. never h.0))

  module _ (whens : AllAsked (Match program models) Whens) where
    pub where_owed : (g : Values) → Target program models rel b g → AreLinked program models upto (calls_of program models g rel.wheres) → (c : ClauseCall)
        → IsCallIn clauses.Where (calls_of program models g rel.wheres) c → IsOwed program models upto (SeenByBinding program models upto rel b) c
    where_owed g target linked c one =
        let d = call_named c.name in
        record {
          askable = (below_wheres program models formed number rel g found d one.among).0;
          follows = subst (λ k. MayFollow program models upto k d) (sym one.in_clause) (linked d one.among);
          seen = λ chain seen. inr (whens, (g, target, (d, one.among, subst (λ k. SeenByCall program models upto k d chain) one.in_clause seen)));
        }

-- ---- what is known where the calls in the when clause match

module _ (v : Visit) (b : Values) (gs : List Values) (exact : (g : Values) → Contains gs g ↔ Target v.program.now v.models.now v.rel.now b g) (whens : AllAsked (match_in v) (whens_of v b))
    (clean : AreClean (SeenByCalls v.program.now v.models.now (upto_of v) clauses.When (whens_of v b))) where
  targets_clean : (any : Answer) → IsAnswerOfAny v gs any → AreClean (SeenByTargets v b)
  targets_clean any answer =
      clean_from (SeenByPartners v gs) (SeenByTargets v b) (λ chain seen. (partner_seen v.program.now v.models.now (upto_of v) v.rel.now b gs exact chain).0 seen) answer.clean

  targets_height : (any : Answer) → IsAnswerOfAny v gs any → IsCommonHeight v.program.now v.models.now (CallsOfBinding v.program.now v.models.now v.rel.now b) any.height
  targets_height any answer =
      height_from v.program.now v.models.now (CallsOfPartners v gs) (CallsOfBinding v.program.now v.models.now v.rel.now b)
      (λ d h. (h.1, (exact h.1).1 h.2, h.3)) any.height answer.height

  known_outcome : (any : Bool) → (IsTrue any ↔ ((g : Values) × Contains gs g × AllAsked (hold_in v) (wheres_of v g))) → IsOutcome v.program.now v.models.now (left_of v) v.rel.now b (outcome_with any)
  known_outcome true value =
      let partner = (partner_value v.program.now v.models.now (left_of v) v.rel.now b gs true exact value).0 refl in (whens, partner.0, partner.1)
  known_outcome false value =
      let one = partner_value v.program.now v.models.now (left_of v) v.rel.now b gs false exact value in (whens, λ g partner. true≢false (sym (one.1 (g, partner))))

  pub partners_known : (any : Answer) → IsAnswerOfAny v gs any → IsJudged v.program.now v.models.now (upto_of v) v.rel.now b (judgements.Known (outcome_with any.holds) any.height)
  partners_known any answer =
      (known_outcome any.holds answer.value, matched_clean v.program.now v.models.now (upto_of v) v.rel.now b clean (targets_clean any answer), targets_height any answer)
