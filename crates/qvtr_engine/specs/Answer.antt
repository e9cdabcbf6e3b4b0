-- What `run` answers for words over the files of a vault: one reply, which says what is printed, with which status, and what the files are
-- then.
use Rattle.std.specs.Prelude.{◌≡◌, ℕ, List, Option, Some, None}
use Rattle.std.specs.FinMap.{insert}
use Rattle.vault_io.specs.Files.{Files}
use Rattle.qvtr_engine.specs.declared.mode.Mode.{Mode}
use Rattle.qvtr_engine.specs.CheckWords.{CheckWords}
use Rattle.qvtr_engine.specs.Command.{Command, executes, converts, generates, IsCommand, IsExecution, IsUsage}
use Rattle.qvtr_engine.specs.ConvertAnswer.{ConvertAnswer}
use Rattle.qvtr_engine.specs.ExecutionAnswer.{ExecutionAnswer, are_alike_last}
use Rattle.qvtr_engine.specs.GenAnswer.{GenAnswer}
use Rattle.qvtr_engine.specs.Reply.{Reply, misused, unread, faulty, too_long, holds, fails, refused_for, kept, mended, traced, converted, generated}
use Rattle.qvtr_engine.specs.StepsAnswer.{AreAlike}
use Rattle.qvtr_engine.specs.Target.{target_path}

-- the reply to a command
abbrev pub IsReply : Files → Command → Reply → Type 0
IsReply files (executes mode w) reply = ExecutionAnswer mode files w reply
IsReply files (converts c) reply = ConvertAnswer files c reply
IsReply files (generates g) reply = GenAnswer g reply

pub data Answer (words : List (List ℕ)) (files : Files) : Reply → Type 0 where
  usage : IsUsage words → Answer words files misused
  replied : (command : Command) → IsCommand words command → (reply : Reply) → IsReply files command reply → Answer words files reply

-- a file that is put
pub record PutData : Type 0 where
  pub path : List ℕ
  pub bytes : List ℕ

-- the one that a reply puts: an enforcement that changes the target puts it, and a conversion what it makes
abbrev pub put_of : Reply → Option PutData
put_of misused = None
put_of (unread path) = None
put_of (faulty is_limit line) = None
put_of (too_long path) = None
put_of holds = None
put_of (fails text) = None
put_of (refused_for cause text) = None
put_of kept = None
put_of (mended path bytes report) = Some (record { path = path; bytes = bytes })
put_of (traced text) = None
put_of (generated summary) = None
put_of (converted path bytes) = Some (record { path = path; bytes = bytes })

abbrev pub files_with : Option PutData → Files → Files
files_with None files = files
files_with (Some p) files = insert files p.path p.bytes

-- the files after a reply
abbrev pub files_after : Reply → Files → Files
files_after reply files = files_with (put_of reply) files

-- one reply, and no other, is the answer
pub record HasOneAnswer (words : List (List ℕ)) (files : Files) : Type 0 where
  pub reply : Reply
  pub is : Answer words files reply
  pub only : (other : Reply) → Answer words files other → other ≡ reply

-- Two answers of which either may be given: they are one, or alike as replies to an execution.
pub data AreAlikeAnswers (words : List (List ℕ)) (files : Files) : Reply → Reply → Type 0 where
  same : (reply : Reply) → AreAlikeAnswers words files reply reply
  executed : (mode : Mode) (w : CheckWords) → IsExecution mode words w → (reply other : Reply)
      → AreAlike (are_alike_last mode (target_path w)) files w reply other → AreAlikeAnswers words files reply other
