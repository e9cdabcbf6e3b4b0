-- Calls that a binding makes: what their answers are, where some are known, and which are owed, where not all of them are.
use Rattle.std.specs.Prelude.{◌≡◌, ◌↔◌, ◌≤◌, ◌-◌, ◌++◌, ◌∷◌, [], ◌⊎◌, ℕ, Bool, true, false, List, Option, Some, length, Contains, IsTrue, IfSome}
use Rattle.qvtr_semantics.specs.declared.limits.TheConstants.{MAX_CALLS}
use Rattle.object_tables.specs.Models.{ModelData}
use Rattle.qv_syntax.specs.declared.program.Program.{Program}
use Rattle.qv_syntax.specs.declared.program.Rel.{Rel}
use Rattle.qvtr_semantics.specs.Templates.{Values}
use Rattle.qvtr_semantics.specs.Bindings.{Target}
use Rattle.qvtr_semantics.specs.Calls.{RelationCall, Asked, AllAsked, Match, HoldsFor, calls_of}
use Rattle.template_match.specs.Search.{values_of}
use Rattle.relation_calls.specs.declared.clause_call.Clause.{Clause}
use Rattle.relation_calls.specs.declared.clause_call.Clause.TheVariants as clauses
use Rattle.relation_calls.specs.declared.clause_call.ClauseCall.{ClauseCall}
use Rattle.relation_calls.specs.declared.judging.Judgement.{Judgement}
use Rattle.relation_calls.specs.declared.judging.Judgement.TheVariants as judgements
use Rattle.relation_calls.specs.declared.memo.Answer.{Answer}
use Rattle.relation_calls.specs.declared.outcome.Outcome.{Outcome}
use Rattle.relation_calls.specs.declared.outcome.Outcome.TheVariants as outcomes
use Rattle.relation_calls.specs.declared.visit.Visit.{Visit}
use Rattle.relation_calls.specs.Askable.{IsAskable}
use Rattle.relation_calls.specs.Links.{IsLinked}
use Rattle.relation_calls.specs.Memos.{IsHeight}
use Rattle.relation_calls.specs.Names.{call_named}
use Rattle.relation_calls.specs.Outcomes.{IsOutcome}
use Rattle.relation_calls.specs.Seen.{Seen, SeenBehind, AreClean}
use Rattle.relation_calls.specs.Visits.{hold_in, wheres_of, SeenByPartners}

-- ---- heights

-- no chain that begins with one of these calls has more calls, and there are no more than a chain may have
pub record IsCommonHeight (program : Program) (models : List ModelData) (Calls : RelationCall → Type 0) (n : ℕ) : Type 0 where
  pub few : n ≤ MAX_CALLS
  pub each : (d : RelationCall) → Calls d → IsHeight program models d n

-- the calls that begin chains: those in a where clause
abbrev pub CallsIn : Clause → List (Option RelationCall) → RelationCall → Type 0
CallsIn clause calls d = (clause ≡ clauses.Where) × Contains calls (Some d)

-- those that partners make
abbrev pub CallsOfPartners : Visit → List Values → RelationCall → Type 0
CallsOfPartners v gs d = (g : Values) × Contains gs g × Contains (wheres_of v g) (Some d)

-- those that partners of a binding make whose calls in the when clause match
abbrev pub CallsOfBinding : Program → List ModelData → Rel → Values → RelationCall → Type 0
CallsOfBinding program models rel b d =
    AllAsked (Match program models) (calls_of program models b rel.whens) × (g : Values) × Target program models rel b g × Contains (calls_of program models g rel.wheres) (Some d)

-- ---- calls in a clause, behind the chain `upto`

-- what they are asked
abbrev pub asked_in : Program → List ModelData → List RelationCall → Clause → Asked
asked_in program models upto clauses.When = Match program models
asked_in program models upto clauses.Where = HoldsFor program models (MAX_CALLS - length upto)

-- the chains that are come to by one
abbrev pub SeenByCall : Program → List ModelData → List RelationCall → Clause → RelationCall → List RelationCall → Type 0
SeenByCall program models upto clauses.When d chain = Seen program models [] d chain
SeenByCall program models upto clauses.Where d chain = SeenBehind program models upto d chain

abbrev pub SeenByCalls : Program → List ModelData → List RelationCall → Clause → List (Option RelationCall) → List RelationCall → Type 0
SeenByCalls program models upto clause calls chain = (d : RelationCall) × Contains calls (Some d) × SeenByCall program models upto clause d chain

-- a call in a where clause is one that the last call of the chain makes
abbrev pub MayFollow : Program → List ModelData → List RelationCall → Clause → RelationCall → Type 0
MayFollow program models upto clauses.When d = Unit {0}
MayFollow program models upto clauses.Where d = IsLinked program models (upto ++ d ∷ [])

abbrev pub MayAllFollow : Program → List ModelData → List RelationCall → Clause → List (Option RelationCall) → Type 0
MayAllFollow program models upto clause calls = (d : RelationCall) → Contains calls (Some d) → MayFollow program models upto clause d

-- whether all of them match, or hold, and their height, and that no chain that is refused is come to
pub record IsAnswer (program : Program) (models : List ModelData) (upto : List RelationCall) (clause : Clause) (calls : List (Option RelationCall)) (all : Answer) : Type 0 where
  pub value : IsTrue all.holds ↔ AllAsked (asked_in program models upto clause) calls
  pub clean : AreClean (SeenByCalls program models upto clause calls)
  pub height : IsCommonHeight program models (CallsIn clause calls) all.height

-- the same of some partner's
pub record IsAnswerOfAny (v : Visit) (gs : List Values) (any : Answer) : Type 0 where
  pub value : IsTrue any.holds ↔ ((g : Values) × Contains gs g × AllAsked (hold_in v) (wheres_of v g))
  pub clean : AreClean (SeenByPartners v gs)
  pub height : IsCommonHeight v.program.now v.models.now (CallsOfPartners v gs) any.height

-- ---- calls of a binding

-- one of the calls that stand in the clause
pub record IsCallIn (clause : Clause) (calls : List (Option RelationCall)) (c : ClauseCall) : Type 0 where
  pub in_clause : c.clause ≡ clause
  pub among : Contains calls (Some (call_named c.name))

-- a call that can be asked, by which no other chains are come to than these
pub record IsOwed (program : Program) (models : List ModelData) (upto : List RelationCall) (Chains : List RelationCall → Type 0) (c : ClauseCall) : Type 0 where
  pub askable : IsAskable program (call_named c.name)
  pub follows : MayFollow program models upto c.clause (call_named c.name)
  pub seen : (chain : List RelationCall) → SeenByCall program models upto c.clause (call_named c.name) chain → Chains chain

-- by the calls that partners make in the where clause
abbrev pub SeenInTargets : Program → List ModelData → List RelationCall → Rel → Values → List RelationCall → Type 0
SeenInTargets program models upto rel b chain = (g : Values) × Target program models rel b g × SeenByCalls program models upto clauses.Where (calls_of program models g rel.wheres) chain

-- by the calls in the when clause, or, where these match, by those of partners
abbrev pub SeenByBinding : Program → List ModelData → List RelationCall → Rel → Values → List RelationCall → Type 0
SeenByBinding program models upto rel b chain = SeenByCalls program models upto clauses.When (calls_of program models b rel.whens) chain
    ⊎ (AllAsked (Match program models) (calls_of program models b rel.whens) × SeenInTargets program models upto rel b chain)

-- what comes of a binding whose calls in the when clause match, where some partner's hold, or none's
abbrev pub outcome_with : Bool → Outcome
outcome_with true = outcomes.Partnered
outcome_with false = outcomes.Alone

-- the partners of a binding whose calls in the when clause match, by which no chain is come to that is refused
pub record ArePartners (program : Program) (models : List ModelData) (upto : List RelationCall) (rel : Rel) (b : Values) (gs : List Values) : Type 0 where
  pub matched : AllAsked (Match program models) (calls_of program models b rel.whens)
  pub clean : AreClean (SeenByCalls program models upto clauses.When (calls_of program models b rel.whens))
  pub exact : (g : Values) → Contains gs g ↔ Target program models rel b g

-- what comes of it, with the height of the calls that its partners make, or calls that it owes, with its partners where they are found
abbrev pub IsJudged : Program → List ModelData → List RelationCall → Rel → Values → Judgement → Type 0
IsJudged program models upto rel b (judgements.Known outcome height) =
    IsOutcome program models (MAX_CALLS - length upto) rel b outcome × AreClean (SeenByBinding program models upto rel b) × IsCommonHeight program models (CallsOfBinding program models rel b) height
IsJudged program models upto rel b (judgements.Owed calls partners) =
    ((c : ClauseCall) → Contains calls c → IsOwed program models upto (SeenByBinding program models upto rel b) c) × IfSome partners (λ gs. ArePartners program models upto rel b (values_of gs))
