-- The verdict on what the words of a check name.
use Rattle.std.specs.Prelude.{◌≡◌, ◌⊎◌}
use Rattle.qv_syntax.specs.declared.program.Program.{Program}
use Rattle.vault_io.specs.Files.{Files}
use Rattle.qvtr_engine.specs.declared.status.Status.{Status}
use Rattle.qvtr_engine.specs.declared.status.Status.TheVariants.{Done, No}
use Rattle.qvtr_engine.specs.CheckWords.{CheckWords}
use Rattle.qvtr_engine.specs.CheckedRelations.{ChainsEnd, IsVerdict}
use Rattle.qvtr_engine.specs.Reply.{Reply}
use Rattle.qvtr_engine.specs.StepsAnswer.{Inputs, ResolvesTo, question_of}

-- No step refuses the files: the script resolves, and no chain of calls is refused. The reply is the verdict on the relations: that they are
-- satisfied, or the least binding that fails.
pub record HasVerdict (files : Files) (w : CheckWords) (reply : Reply) : Type 0 where
  pub inputs : Inputs files w
  pub program : Program
  pub resolved : ResolvesTo files w inputs program
  pub end : ChainsEnd (question_of files w inputs program)
  pub verdict : IsVerdict (question_of files w inputs program) reply

-- a status with which a check is judged
abbrev pub IsJudged : Status → Type 0
IsJudged status = (status ≡ Done) ⊎ (status ≡ No)
