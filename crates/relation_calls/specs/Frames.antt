-- What is under way in a search through calls: bindings of a visit, some of which are judged, and calls, each with the bindings of its
-- relation.
use Rattle.std.specs.Prelude.{◌≡◌, ◌≤◌, ◌⊎◌, ◌-◌, ◌++◌, ◌∷◌, [], max, List, Option, None, Some, length, take, slice_get, Contains, AllPairs, IfSome}
use Rattle.qvtr_semantics.specs.declared.limits.TheConstants.{MAX_CALLS}
use Rattle.object_tables.specs.Models.{ModelData}
use Rattle.qv_syntax.specs.declared.program.Program.{Program}
use Rattle.qv_syntax.specs.declared.program.Rel.{Rel}
use Rattle.qvtr_semantics.specs.declared.binding.Binding.{Binding}
use Rattle.qvtr_semantics.specs.Templates.{Values}
use Rattle.qvtr_semantics.specs.Calls.{RelationCall}
use Rattle.qvtr_semantics.specs.Chains.{CallsWhere}
use Rattle.qvtr_semantics.specs.Satisfaction.{IsLess}
use Rattle.template_match.specs.Plans.{IsPlanOf}
use Rattle.template_match.specs.Search.{values_of}
use Rattle.relation_calls.specs.declared.clause_call.Clause.{Clause}
use Rattle.relation_calls.specs.declared.clause_call.Clause.TheVariants as clauses
use Rattle.relation_calls.specs.declared.clause_call.ClauseCall.{ClauseCall}
use Rattle.relation_calls.specs.declared.frame.Progress.{Progress}
use Rattle.relation_calls.specs.declared.frame.Frame.{Frame}
use Rattle.relation_calls.specs.declared.judging.Judgement.{Judgement}
use Rattle.relation_calls.specs.declared.judging.Judgement.TheVariants as judgements
use Rattle.relation_calls.specs.Founds.{AreEnough}
use Rattle.relation_calls.specs.Links.{IsLinked}
use Rattle.relation_calls.specs.Names.{chain_named}
use Rattle.relation_calls.specs.Outcomes.{AreOutcomes}
use Rattle.relation_calls.specs.Owing.{SeenByCall, SeenByBinding, IsOwed, IsCommonHeight, CallsOfBinding, ArePartners}
use Rattle.relation_calls.specs.Seen.{Seen, AreClean}
use Rattle.relation_calls.specs.Visits.{IsChain}

-- ---- bindings of a relation, asked behind the chain `upto`

-- the chains that are come to by one of them
abbrev pub SeenByBindings : Program → List ModelData → List RelationCall → Rel → List Values → List RelationCall → Type 0
SeenByBindings program models upto rel bs chain = (b : Values) × Contains bs b × SeenByBinding program models upto rel b chain

-- the calls in the where clause that are made by partners of one
abbrev pub CallsOfBindings : Program → List ModelData → Rel → List Values → RelationCall → Type 0
CallsOfBindings program models rel bs d = (b : Values) × Contains bs b × CallsOfBinding program models rel b d

-- of the first bindings it is known what comes of them, the height of the calls that their partners make, and that no chain that is refused
-- is come to by one; calls of some are owed, and of the next binding partners may be found
pub record IsProgress (program : Program) (models : List ModelData) (upto : List RelationCall) (rel : Rel) (bs : List Binding) (p : Progress) : Type 0 where
  pub few : length p.outcomes ≤ length bs
  pub outcomes : AreOutcomes program models (MAX_CALLS - length upto) rel (values_of (take (length p.outcomes) bs)) p.outcomes
  pub clean : AreClean (SeenByBindings program models upto rel (values_of (take (length p.outcomes) bs)))
  pub height : IsCommonHeight program models (CallsOfBindings program models rel (values_of (take (length p.outcomes) bs))) p.height
  pub owed : (c : ClauseCall) → Contains p.owed c → IsOwed program models upto (SeenByBindings program models upto rel (values_of bs)) c
  pub partners : (b : Binding) → slice_get bs (length p.outcomes) ≡ Some b → IfSome p.partners (λ gs. ArePartners program models upto rel b.values (values_of gs))

-- ---- calls

-- the chain that ends with a call in a where clause, or none, where a match is asked for
abbrev pub EndsWith : Clause → List RelationCall → RelationCall → Type 0
EndsWith clauses.When upto d = upto ≡ []
EndsWith clauses.Where upto d = (before : List RelationCall) × IsChain before × (upto ≡ before ++ d ∷ [])

pub record IsFrame (program : Program) (models : List ModelData) (f : Frame) : Type 0 where
  pub rel : Rel
  pub planned : IsPlanOf program f.key.rel rel f.plan
  pub chain : IsChain (chain_named f.upto)
  pub ends : EndsWith f.clause (chain_named f.upto) f.key
  pub linked : (d : RelationCall) → CallsWhere program models f.key d → IsLinked program models (chain_named f.upto ++ d ∷ [])
  pub enough : AreEnough program models rel f.key.roots (values_of f.bindings)
  pub sorted : AllPairs (IsLess rel.universal) (values_of f.bindings)
  pub progress : IsProgress program models (chain_named f.upto) rel f.bindings f.progress

-- a chain behind which a call is asked that goes on with those that it makes, and comes to no other chains than the call
pub record IsChainFor (program : Program) (models : List ModelData) (upto : List RelationCall) (clause : Clause) (d : RelationCall) (longer : List RelationCall) : Type 0 where
  pub chain : IsChain longer
  pub ends : EndsWith clause longer d
  pub linked : (e : RelationCall) → CallsWhere program models d e → IsLinked program models (longer ++ e ∷ [])
  pub seen : (chain : List RelationCall) → Seen program models longer d chain → SeenByCall program models upto clause d chain

-- the chains that are come to from the call
abbrev pub SeenByFrame : Program → List ModelData → Frame → List RelationCall → Type 0
SeenByFrame program models f chain = Seen program models (chain_named f.upto) f.key chain

-- they are among these
pub record IsFrameIn (program : Program) (models : List ModelData) (Chains : List RelationCall → Type 0) (f : Frame) : Type 0 where
  pub frame : IsFrame program models f
  pub seen : (chain : List RelationCall) → SeenByFrame program models f chain → Chains chain

abbrev pub AreFramesIn : Program → List ModelData → (List RelationCall → Type 0) → List Frame → Type 0
AreFramesIn program models Chains frames = (f : Frame) → Contains frames f → IsFrameIn program models Chains f

-- the call that was begun, if there is one, stands behind the others
abbrev pub IsPushed : List Frame → Option Frame → List Frame → Type 0
IsPushed old None new = new ≡ old
IsPushed old (Some f) new = new ≡ old ++ f ∷ []

-- each of the frames is one of the old ones, or of a call to which the last one came
abbrev pub IsResumed : Program → List ModelData → List Frame → Frame → List Frame → Type 0
IsResumed program models old last new = (f : Frame) → Contains new f → Contains old f ⊎ IsFrameIn program models (SeenByFrame program models last) f

-- ---- what becomes known of a binding

abbrev pub IsTaken : Progress → Judgement → Progress → Type 0
IsTaken old (judgements.Known outcome height) new = (new.outcomes ≡ old.outcomes ++ outcome ∷ []) × (new.owed ≡ old.owed) × (new.height ≡ max old.height height) × (new.partners ≡ None)
IsTaken old (judgements.Owed calls partners) new = (new.outcomes ≡ old.outcomes) × (new.owed ≡ calls) × (new.height ≡ old.height) × (new.partners ≡ partners)
