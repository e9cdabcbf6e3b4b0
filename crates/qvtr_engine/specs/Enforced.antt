-- What an enforcement that is done leaves (QVT 1.3, sections 7.2 and 7.10.2).
use Rattle.std.specs.Prelude.{ℕ, List, Option, Some}
use Rattle.std.specs.FinMap.{insert}
use Rattle.vault_io.specs.Files.{Files}
use Rattle.qv_syntax.specs.declared.program.Program.{Program}
use Rattle.repair_semantics.specs.declared.report.Report.{Report}
use Rattle.enforce_steps.specs.Endings.{Ended, unchanged, changed}
use Rattle.enforce_steps.specs.EnforceAnswer.{EnforceAnswer}
use Rattle.qvtr_engine.specs.CheckWords.{CheckWords}
use Rattle.qvtr_engine.specs.ExecutionAnswer.{output_at}
use Rattle.qvtr_engine.specs.StepsAnswer.{Inputs, ResolvesTo, question_of}
use Rattle.qvtr_engine.specs.Target.{target_form, target_path}

-- the enforcement of what the words name, in the form that the target's file has, comes to this
abbrev pub EnforcesTo : (files : Files) (w : CheckWords) → Inputs files w → Program → Ended → Type 0
EnforcesTo files w i program = EnforceAnswer (question_of files w i program) (output_at (target_form files w) (target_path w))

-- No step refuses: all files are as they were, or the target's file has the text of what is made, and each other one is as it was.
pub data HasEnforced (files : Files) (w : CheckWords) : Option Files → Type 0 where
  stays : (i : Inputs files w) (program : Program) → ResolvesTo files w i program → EnforcesTo files w i program unchanged → HasEnforced files w (Some files)
  mended : (i : Inputs files w) (program : Program) → ResolvesTo files w i program → (bytes : List ℕ) (report : Report) → EnforcesTo files w i program (changed bytes report)
      → HasEnforced files w (Some (insert files (target_path w) bytes))
