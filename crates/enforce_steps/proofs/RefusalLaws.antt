-- What is refused, by its text, is an end of the steps.
use Rattle.std.specs.Prelude.{◌≡◌, List, ℕ, Option, None, Some, Result, Ok, Err, IfOk, option_map}
use Rattle.std.proofs.Common.{sym, subst}
use Rattle.mof_metamodel.specs.declared.desc.MetaDesc.{MetaDesc}
use Rattle.mof_metamodel.specs.declared.desc.PropId.{PropId}
use Rattle.mof_metamodel.proofs.PropLemmas.{prop_known}
use Rattle.object_tables.specs.declared.breach.Breach.{Breach}
use Rattle.object_tables.specs.declared.breach.BreachKind.{BreachKind}
use Rattle.object_tables.specs.declared.breach.BreachKind.TheVariants as kinds
use Rattle.object_tables.specs.declared.limit.LimitKind.{LimitKind}
use Rattle.object_tables.specs.declared.limit.LimitKind.TheVariants as limits
use Rattle.object_tables.specs.Models.{ModelData}
use Rattle.object_tables.specs.Validity.{IsFirst}
use Rattle.model_files.specs.FaultTexts.{IsKnownProp}
use Rattle.enforce_mode.specs.declared.error.EnforceError.TheVariants as against
use Rattle.enforce_mode.specs.Made.{IsAgainst}
use Rattle.answer_texts.specs.Question.{Question}
use Rattle.enforce_steps.specs.declared.cause.Cause.{Cause}
use Rattle.enforce_steps.specs.declared.cause.Cause.TheVariants as causes
use Rattle.enforce_steps.specs.declared.cause.StepError.{StepError}
use Rattle.enforce_steps.specs.declared.cause.StepError.TheVariants as errors
use Rattle.enforce_steps.specs.Endings.{Ended, refused, OutputData, OnRefusal, refusal_of}
use Rattle.enforce_steps.specs.StepTexts.{invalid_text, limit_text}
use Rattle.enforce_steps.specs.EnforceAnswer.{DemandsStop, EnforceAnswer, IsMade, MadeStops, TraceAnswer, many, invalid, deep_objects, against as at_made, stopped, stops}

-- a refusal with this text is such an end
pub refusal_is : {E : Type 0} (cause : Cause) (text : Result (List ℕ) E) (told : List ℕ) (IsEnd : Ended → Type 0) → IfOk text (λ t. t ≡ told) → IsEnd (refused cause told)
    → OnRefusal (refusal_of cause text) IsEnd
refusal_is cause (Ok t) told IsEnd is end = subst (λ x. IsEnd (refused cause x)) (sym is) end
refusal_is cause (Err e) told IsEnd is end = tt

-- and of the wider kind
pub refusal_wider : (e : StepError) (IsEnd IsOther : Ended → Type 0) → ((end : Ended) → IsEnd end → IsOther end) → OnRefusal e IsEnd → OnRefusal e IsOther
refusal_wider (errors.Refused cause text) IsEnd IsOther wider end = wider (refused cause text) end
refusal_wider errors.NoMemory IsEnd IsOther wider end = tt

pub stops_enforcement : (q : Question) (o : OutputData) (e : StepError) → OnRefusal e (DemandsStop q) → OnRefusal e (EnforceAnswer q o)
stops_enforcement q o e h = refusal_wider e (DemandsStop q) (EnforceAnswer q o) (λ end s. stopped end s) h

pub stops_trace : (q : Question) (e : StepError) → OnRefusal e (DemandsStop q) → OnRefusal e (TraceAnswer q)
stops_trace q e h = refusal_wider e (DemandsStop q) (TraceAnswer q) (λ end s. stops end s) h

pub stops_made : (q : Question) (o : OutputData) (made : ModelData) (e : StepError) → IsMade q made → OnRefusal e (MadeStops o made) → OnRefusal e (EnforceAnswer q o)
stops_made q o made e is h = refusal_wider e (MadeStops o made) (EnforceAnswer q o) (λ end s. at_made made is end s) h

-- ---- a model that is made

-- the property of a first breach is one of the metamodel
pub known_prop : (m : ModelData) (kind : BreachKind) (o : ℕ) (prop : Option PropId) → IsFirst m kind o (option_map (λ p. p.0) prop) → IsKnownProp m.meta prop
known_prop m kind o None h = tt
known_prop m kinds.Lower o (Some p) h = prop_known m.meta h.0.property.class p.0 h.0.property.has
known_prop m kinds.Upper o (Some p) h = prop_known m.meta h.0.1.property.class p.0 h.0.1.property.has
known_prop m kinds.ContainmentCycle o (Some p) h = absurd h.0

pub known_breach : (meta : MetaDesc) (b : Breach) (id : List ℕ) (made : ModelData) → made.meta ≡ meta → IsAgainst made (against.Invalid b id) → IsKnownProp meta b.prop
known_breach meta b id made is h = subst (λ d. IsKnownProp d b.prop) is (known_prop made b.kind b.object.0 b.prop h.1)

pub breach_stops : (meta : MetaDesc) (o : OutputData) (b : Breach) (id : List ℕ) (made : ModelData) → made.meta ≡ meta → IsAgainst made (against.Invalid b id)
    → MadeStops o made (refused causes.Invalid (invalid_text meta b id))
breach_stops meta o b id made is h = subst (λ d. MadeStops o made (refused causes.Invalid (invalid_text d b id))) is (invalid h.0 b id h.1 h.2)

pub limit_stops : (o : OutputData) (kind : LimitKind) (made : ModelData) → IsAgainst made (against.Limit kind) → MadeStops o made (refused causes.Limit (limit_text o.path kind))
limit_stops o limits.Objects made h = many h
limit_stops o limits.Depth made h = deep_objects h.0 h.1 h.2
