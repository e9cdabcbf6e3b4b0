-- What an enforcement and a trace come to over models that were read: the first of their steps that refuses, or else what they give (QVT 1.3, sections
-- 7.2 and 7.10.2; what is refused, and in which order, is this engine's own).
use Rattle.std.specs.Prelude.{◌≡◌, ◌<◌, ◌≤◌, ℕ, true, false, List, length, Some, slice_get}
use Rattle.object_tables.specs.declared.breach.Breach.{Breach}
use Rattle.object_tables.specs.declared.limit.LimitKind.TheVariants as limits
use Rattle.object_tables.specs.declared.limit.TheConstants.{MAX_OBJECTS}
use Rattle.object_tables.specs.Models.{ModelData, live_count, id_at}
use Rattle.object_tables.specs.Validity.{Valid, IsFirstBreach}
use Rattle.enforcement_rules.specs.declared.fault.NotEnforceable.{NotEnforceable}
use Rattle.enforcement_rules.specs.Rules.{Broken, IsEnforceable}
use Rattle.repair_semantics.specs.declared.demand.Clash.{Clash}
use Rattle.repair_semantics.specs.declared.entry.Entry.{Entry}
use Rattle.repair_semantics.specs.declared.entry.EntryName.{EntryName}
use Rattle.repair_semantics.specs.declared.entry.Place.{Place}
use Rattle.repair_semantics.specs.declared.report.Report.{Report}
use Rattle.repair_semantics.specs.Candidates.{candidate}
use Rattle.repair_semantics.specs.EntryChains.{CyclicEntries, DeepEntries, IsUnmet}
use Rattle.repair_semantics.specs.Reports.{IsReport}
use Rattle.entry_finding.specs.Found.{IsUnmetAt}
use Rattle.demand_set.specs.DemandSets.{DemandData, IsConflict, IsDemandSet}
use Rattle.enforce_mode.specs.Made.{HasFewObjects, IsSound, IsTooDeep}
use Rattle.model_assembly.specs.Held.{IsHeldModel}
use Rattle.trace_log.specs.TraceData.{text_of_trace}
use Rattle.demand_trace.specs.Traces.{trace_of}
use Rattle.answer_texts.specs.Question.{Question}
use Rattle.entry_texts.specs.EntryTexts.{conflict_text, entry_cycle_text, entry_deep_text, rule_text, unmet_text}
use Rattle.enforce_steps.specs.declared.cause.Cause.TheVariants as causes
use Rattle.enforce_steps.specs.Endings.{Ended, refused, unchanged, changed, traced, OutputData}
use Rattle.enforce_steps.specs.Premises.{IsAskable}
use Rattle.enforce_steps.specs.StepTexts.{invalid_text, limit_text, long_text, text_in}

-- ---- the steps that both have: the rules, chains and entries, conflicts

-- They stop: the first relation in the order of the text breaks a rule, its least; or a chain of entries is refused or an entry is unmet, any of them; or,
-- where none is, two demands are in conflict, any of them.
pub data DemandsStop (q : Question) : Ended → Type 0 where
  not_enforceable : (b : NotEnforceable) → Broken q.metas q.program b.relation b.rule → DemandsStop q (refused causes.NotEnforceable (rule_text q b))
  cyclic : IsEnforceable q.metas q.program → (chain : List EntryName) → CyclicEntries q.program q.models chain
      → DemandsStop q (refused causes.Chain (entry_cycle_text q chain))
  deep : IsEnforceable q.metas q.program → (chain : List EntryName) → DeepEntries q.program q.models chain
      → DemandsStop q (refused causes.Chain (entry_deep_text q chain))
  unmet : IsEnforceable q.metas q.program → (e : Entry) (place : Place) → IsUnmet q.program q.models e → IsUnmetAt q.program q.models e place
      → DemandsStop q (refused causes.Unmet (unmet_text q e place))
  conflict : IsEnforceable q.metas q.program → (clash : Clash) → IsConflict q.program q.models clash
      → DemandsStop q (refused causes.Conflict (conflict_text q clash))

-- or they go on, with what is demanded
pub record DemandsEnd (q : Question) (d : DemandData) : Type 0 where
  pub enforceable : IsEnforceable q.metas q.program
  pub are : IsDemandSet q.program q.models d

-- ---- a trace

pub data TraceAnswer (q : Question) : Ended → Type 0 where
  stops : (end : Ended) → DemandsStop q end → TraceAnswer q end
  told : (d : DemandData) → DemandsEnd q d → TraceAnswer q (traced (text_of_trace (trace_of q.program q.metas q.models d)))

-- ---- an enforcement

-- this is made of the target by what is demanded
pub record IsMade (q : Question) (made : ModelData) : Type 0 where
  pub target : ModelData
  pub target_is : slice_get q.models q.program.target ≡ Some target
  pub demands : DemandData
  pub demanded : DemandsEnd q demands
  pub made_is : made ≡ candidate q.program target demands.list

-- and this says what it changes, of a program that can be asked
pub record IsMadeSo (q : Question) (made : ModelData) (report : Report) : Type 0 where
  pub is_made : IsMade q made
  pub is_report : IsReport q.program is_made.target is_made.demands.list report
  pub askable : IsAskable q

-- What stands against a model that is made, and is to be put there: it has too many objects; or its first breach; or it is too deep; or its text is too
-- long.
pub data MadeStops (o : OutputData) (made : ModelData) : Ended → Type 0 where
  many : MAX_OBJECTS < live_count made → MadeStops o made (refused causes.Limit (limit_text o.path limits.Objects))
  invalid : HasFewObjects made → (b : Breach) (id : List ℕ) → IsFirstBreach made b → id_at made b.object.0 ≡ Some id
      → MadeStops o made (refused causes.Invalid (invalid_text made.meta b id))
  deep_objects : HasFewObjects made → Valid made → IsTooDeep made → MadeStops o made (refused causes.Limit (limit_text o.path limits.Depth))
  long : IsSound made → o.limit < length (text_in o.form made) → MadeStops o made (refused causes.Limit (long_text o.path))

-- nothing stands against it: it is sound, its texts are characters and its integers have 64 bits, and its text is short
pub record IsFit (o : OutputData) (made : ModelData) : Type 0 where
  pub sound : IsSound made
  pub held : IsHeldModel made
  pub short : length (text_in o.form made) ≤ o.limit

-- what then comes of it and of its text: nothing changes, or the text is put
pub data MadeEnds (text : List ℕ) (report : Report) : Ended → Type 0 where
  same : report.unchanged ≡ true → MadeEnds text report unchanged
  mended : report.unchanged ≡ false → MadeEnds text report (changed text report)

pub data EnforceAnswer (q : Question) (o : OutputData) : Ended → Type 0 where
  stopped : (end : Ended) → DemandsStop q end → EnforceAnswer q o end
  against : (made : ModelData) → IsMade q made → (end : Ended) → MadeStops o made end → EnforceAnswer q o end
  done : (made : ModelData) (report : Report) → IsMadeSo q made report → IsFit o made → (end : Ended) → MadeEnds (text_in o.form made) report end
      → EnforceAnswer q o end
