-- The last steps of a check, against the answer.
use Rattle.std.proofs.Common.{◌≡◌, ℕ, ◌<◌, List, length, get_or, inl, inr, sym, ◌∙◌, ap, subst}
use Rattle.std.proofs.lemmas.Option.{slice_get_within, get_or_from_slice_get}
use Rattle.mof_metamodel.specs.declared.desc.MetaDesc.{MetaDesc}
use Rattle.qv_syntax.specs.declared.program.Rel.{Rel}
use Rattle.qv_syntax.specs.declared.script.Script.{Script}
use Rattle.ocl_environments.specs.declared.fault.TypeFault.{TypeFault}
use Rattle.qvtr_types.specs.ResolvedScripts.{IsFaultOf}
use Rattle.qvtr_semantics.specs.Calls.{RelationCall}
use Rattle.qvtr_semantics.specs.Chains.{Chain, IsCyclic, IsDeep}
use Rattle.qvtr_semantics.specs.Satisfaction.{LeastFailing}
use Rattle.qvtr_semantics.specs.Templates.{Values}
use Rattle.relation_calls.specs.Seen.{AreClean}
use Rattle.enforce_steps.specs.declared.cause.Cause.TheVariants as causes
use Rattle.qvtr_engine.specs.declared.outcome.Stop.{Stop}
use Rattle.answer_texts.specs.AnswerTexts.{failing_text, cycle_text, deep_text}
use Rattle.qvtr_engine.specs.CheckReply.{type_refusal}
use Rattle.qvtr_engine.specs.CheckedRelations.{ChainsEnd, ChainsStop, cyclic, deep, IsVerdict, no}
use Rattle.qvtr_engine.specs.CheckedScript.{ScriptRefused, fault}
use Rattle.answer_texts.specs.Question.{Question}
use Rattle.qvtr_engine.specs.Reply.{Reply, fails, refused_for}
use Rattle.qvtr_engine.specs.Steps.{failed, passed}
use Rattle.qvtr_engine.specs.Stops.{OnStop}
use Rattle.qvtr_engine.specs.CheckAnswer.{VerdictAnswer}
use Rattle.qvtr_engine.proofs.StopLaws.{on_stop_wider}

-- a fault that stands is told
pub type_refused : (s : Stop) (path : List ℕ) (metas : List MetaDesc) (script : Script) (target : List ℕ) (f : TypeFault) → IsFaultOf metas script target f
    → OnStop s (λ reply. reply ≡ type_refusal path f) → OnStop s (ScriptRefused path metas script target)
type_refused s path metas script target f stands h =
    on_stop_wider s (λ reply. reply ≡ type_refusal path f) (ScriptRefused path metas script target)
    (λ reply is. subst (ScriptRefused path metas script target) (sym is) (fault f stands)) h

-- the relation of a failing binding is there
pub failing_within : (q : Question) (n : ℕ) (b : Values) → LeastFailing q.program q.models n b → n < length q.program.rels
failing_within q n b least = slice_get_within q.program.rels n least.failing.rel least.failing.top.is

pub told_no : (q : Question) (n : ℕ) (b : Values) (d : Rel) (text : List ℕ) → LeastFailing q.program q.models n b
    → text ≡ failing_text q (get_or q.program.rels n d) b → IsVerdict q (fails text)
told_no q n b d text least is =
    let same : get_or q.program.rels n d ≡ least.failing.rel = get_or_from_slice_get q.program.rels n least.failing.rel d least.failing.top.is in
    let all : text ≡ failing_text q least.failing.rel b = is ∙ ap (λ rel. failing_text q rel b) same in
    subst (λ t. IsVerdict q (fails t)) (sym all) (no n b least)

-- a chain that is reached is told
pub told_cycle : (q : Question) (chain : List RelationCall) (text : List ℕ) → Chain q.program q.models chain × IsCyclic chain → text ≡ cycle_text q chain
    → ChainsStop q (refused_for causes.Chain text)
told_cycle q chain text is told = subst (λ t. ChainsStop q (refused_for causes.Chain t)) (sym told) (cyclic chain (record { reached = is.0; cyclic = is.1 }))

pub told_deep : (q : Question) (chain : List RelationCall) (text : List ℕ) → Chain q.program q.models chain × IsDeep chain → text ≡ deep_text q chain
    → ChainsStop q (refused_for causes.Chain text)
told_deep q chain text is told = subst (λ t. ChainsStop q (refused_for causes.Chain t)) (sym told) (deep chain (record { reached = is.0; deep = is.1 }))

-- no chain is refused, and this is the verdict; or one is
ended : (q : Question) → AreClean (Chain q.program q.models) → ChainsEnd q
ended q clean = record { cyclic = λ chain is. clean chain is.reached (inl is.cyclic); deep = λ chain is. clean chain is.reached (inr is.deep) }

pub judged : (q : Question) (reply : Reply) → AreClean (Chain q.program q.models) → IsVerdict q reply → VerdictAnswer q reply
judged q reply clean verdict = passed (ended q clean) verdict

pub stopped_at_chain : (s : Stop) (q : Question) → OnStop s (ChainsStop q) → OnStop s (VerdictAnswer q)
stopped_at_chain s q h = on_stop_wider s (ChainsStop q) (VerdictAnswer q) (λ reply st. failed st) h
