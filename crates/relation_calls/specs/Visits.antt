-- A visit to a relation by a call, and the chains that are come to by parts of it.
use Rattle.std.specs.Prelude.{◌≡◌, ◌≢◌, ◌⊎◌, ◌≤◌, ◌-◌, ℕ, List, [], Option, Some, length, Contains, AllPairs}
use Rattle.qvtr_semantics.specs.declared.limits.TheConstants.{MAX_CALLS}
use Rattle.qv_syntax.specs.declared.program.Rel.{Rel}
use Rattle.qvtr_semantics.specs.Templates.{Values}
use Rattle.qvtr_semantics.specs.Bindings.{Target}
use Rattle.qvtr_semantics.specs.Calls.{RelationCall, Asked, AllAsked, Match, HoldsFor, calls_of}
use Rattle.template_match.specs.Plans.{IsPlanOf}
use Rattle.template_match.specs.Posed.{HasUniversals}
use Rattle.relation_calls.specs.declared.visit.Visit.{Visit}
use Rattle.relation_calls.specs.Names.{chain_named}
use Rattle.relation_calls.specs.Seen.{Seen, SeenBehind}
use Rattle.relation_calls.specs.Askable.{IsFormed}
use Rattle.relation_calls.specs.Links.{AreLinked}

-- a chain that may have a further call
pub record IsChain (upto : List RelationCall) : Type 0 where
  pub few : length upto ≤ MAX_CALLS
  pub distinct : AllPairs (λ c d. c ≢ d) upto

pub record IsVisit (v : Visit) : Type 0 where
  pub formed : IsFormed v.program.now
  pub planned : IsPlanOf v.program.now v.plan.now.rel v.rel.now v.plan.now
  pub chain : IsChain (chain_named v.upto.now)

-- a binding with which partners can be looked for
pub record IsSourceBinding (rel : Rel) (b : Values) : Type 0 where
  pub places : length b ≡ length rel.vars
  pub universals : HasUniversals rel b

-- the chain that ends with the call of the visit
abbrev pub upto_of : Visit → List RelationCall
upto_of v = chain_named v.upto.now

-- how many calls in where clauses may still be made within one another
abbrev pub left_of : Visit → ℕ
left_of v = MAX_CALLS - length (upto_of v)

-- what calls in when clauses are asked, and those in where clauses
abbrev pub match_in : Visit → Asked
match_in v = Match v.program.now v.models.now

abbrev pub hold_in : Visit → Asked
hold_in v = HoldsFor v.program.now v.models.now (left_of v)

abbrev pub whens_of : Visit → Values → List (Option RelationCall)
whens_of v b = calls_of v.program.now v.models.now b v.rel.now.whens

abbrev pub wheres_of : Visit → Values → List (Option RelationCall)
wheres_of v g = calls_of v.program.now v.models.now g v.rel.now.wheres

-- the chain of the visit goes on with each of the calls
abbrev pub GoesOnWith : Visit → List (Option RelationCall) → Type 0
GoesOnWith v calls = AreLinked v.program.now v.models.now (upto_of v) calls

-- with those that the partners make that meet the target for a binding
abbrev pub GoesOnWithTargets : Visit → Values → Type 0
GoesOnWithTargets v b = (g : Values) → Target v.program.now v.models.now v.rel.now b g → GoesOnWith v (wheres_of v g)

-- the chains that are come to by one of the calls in a when clause, or in a where clause
abbrev pub SeenInWhens : Visit → List (Option RelationCall) → List RelationCall → Type 0
SeenInWhens v calls chain = (d : RelationCall) × Contains calls (Some d) × Seen v.program.now v.models.now [] d chain

abbrev pub SeenInWheres : Visit → List (Option RelationCall) → List RelationCall → Type 0
SeenInWheres v calls chain = (d : RelationCall) × Contains calls (Some d) × SeenBehind v.program.now v.models.now (upto_of v) d chain

-- by one of the partners
abbrev pub SeenByPartners : Visit → List Values → List RelationCall → Type 0
SeenByPartners v gs chain = (g : Values) × Contains gs g × SeenInWheres v (wheres_of v g) chain

-- by one of the partners that meet the target for a binding
abbrev pub SeenByTargets : Visit → Values → List RelationCall → Type 0
SeenByTargets v b chain = (g : Values) × Target v.program.now v.models.now v.rel.now b g × SeenInWheres v (wheres_of v g) chain

-- by a binding that meets the source
abbrev pub SeenBy : Visit → Values → List RelationCall → Type 0
SeenBy v b chain = SeenInWhens v (whens_of v b) chain
    ⊎ (AllAsked (match_in v) (whens_of v b) × SeenByTargets v b chain)

abbrev pub SeenByAny : Visit → List Values → List RelationCall → Type 0
SeenByAny v bs chain = (b : Values) × Contains bs b × SeenBy v b chain
