-- How an outcome is concluded: a file is put where it asks for that, and what it is is printed.
use Rattle.std.specs.Prelude.{◌≡◌, ◌⊎◌, ℕ, List, Option, Some, None}
use Rattle.std.specs.Option.{option_map}
use Rattle.vault_io.specs.Files.{Files}
use Rattle.repair_semantics.specs.declared.report.Report.{Report}
use Rattle.enforce_steps.specs.StepTexts.{report_text}
use Rattle.qvtr_engine.specs.declared.outcome.Outcome.{Outcome}
use Rattle.qvtr_engine.specs.declared.outcome.Outcome.TheVariants as outcome
use Rattle.qvtr_engine.specs.declared.status.Status.{Status}
use Rattle.qvtr_engine.specs.Outcome.{reply_of, Reports}
use Rattle.qvtr_engine.specs.Putting.{PutEnds}
use Rattle.qvtr_engine.specs.Reply.{fault_text}

-- nothing was put, and it was printed that memory could not be had, or what the reply is
pub record IsReported (told : Option Files) (outcome : Option Outcome) (sink_faulted : Type 0) (before after : Option (List ℕ)) (told_after : Option Files) (result : Status) : Type 0 where
  pub kept : told_after ≡ told
  pub reported : Reports (option_map reply_of outcome) before after sink_faulted result

-- the target's file was put, or memory could not be had before
abbrev pub MendedEnds : Option Files → List ℕ → List ℕ → Report → Type 0 → Type 0 → Option (List ℕ) → Option (List ℕ) → Option Files → Status → Type 0
MendedEnds told path bytes report vault_faulted sink_faulted before after told_after result =
    PutEnds told path bytes (report_text report) (fault_text path) vault_faulted sink_faulted before after told_after result
    ⊎ IsReported told None sink_faulted before after told_after result

abbrev pub OutcomeEnds : Option Files → Outcome → Type 0 → Type 0 → Option (List ℕ) → Option (List ℕ) → Option Files → Status → Type 0
OutcomeEnds told (outcome.Mended path bytes report) vault_faulted sink_faulted before after told_after result =
    MendedEnds told path.now bytes report vault_faulted sink_faulted before after told_after result
OutcomeEnds told o vault_faulted sink_faulted before after told_after result = IsReported told (Some o) sink_faulted before after told_after result
