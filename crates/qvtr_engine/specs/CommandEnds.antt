-- How the work on a command ends, whether the files are told or not.
use Rattle.std.specs.Prelude.{◌≡◌, ◌⊎◌, ℕ, true, List, Option, Some, None, IfSome}
use Rattle.vault_io.specs.Files.{Files, bound}
use Rattle.example_run.specs.declared.summary.Summary.{Summary}
use Rattle.qvtr_engine.specs.declared.outcome.Outcome.{Outcome}
use Rattle.qvtr_engine.specs.declared.outcome.Stop.{Stop}
use Rattle.qvtr_engine.specs.declared.status.Status.{Status}
use Rattle.qvtr_engine.specs.declared.status.Status.TheVariants.{Done, Fault}
use Rattle.qvtr_engine.specs.Answer.{IsReply, put_of}
use Rattle.qvtr_engine.specs.Command.{Command, paths_of, output_of}
use Rattle.qvtr_engine.specs.Names.{is_among}
use Rattle.qvtr_engine.specs.Outcome.{reply_of, reply_of_stop, Finishes, Reports}
use Rattle.qvtr_engine.specs.Reply.{Reply, generated, status_of, text_of, fault_text}
use Rattle.qvtr_engine.specs.Stops.{StoppedBy}

-- a reply to the command, where the files are told
abbrev pub IsDueReply : Option Files → Command → Reply → Type 0
IsDueReply told command reply = IfSome told (λ files. IsReply files command reply)

-- the reply puts these bytes at the path that the command may put
pub record IsPutBy (command : Command) (reply : Reply) (path bytes : List ℕ) : Type 0 where
  pub puts : put_of reply ≡ Some (record { path = path; bytes = bytes })
  pub at : output_of command ≡ Some path
  pub named : is_among (paths_of command) path ≡ true
  pub done : status_of reply ≡ Done

-- The work was stopped; or the example was run; or an outcome by which nothing is put was printed, or that memory could not be had; or a file was put; or the vault faulted at the put.
pub data CommandEnds (told : Option Files) (command : Command) (vault_faulted sink_faulted : Type 0) (before after : Option (List ℕ)) (told_after : Option Files) (result : Status) : Type 0 where
  stopped : (s : Stop) → StoppedBy s told (λ files. IsReply files command) vault_faulted (paths_of command) → told_after ≡ told
      → Reports (reply_of_stop s) before after sink_faulted result → CommandEnds told command vault_faulted sink_faulted before after told_after result
  concluded : (o : Outcome) → IsDueReply told command (reply_of o) → put_of (reply_of o) ≡ None → Reports (Some (reply_of o)) before after sink_faulted result
      → told_after ≡ told → CommandEnds told command vault_faulted sink_faulted before after told_after result
  summarized : (s : Summary) → IsDueReply told command (generated s) → Reports (Some (generated s)) before after sink_faulted result → told_after ≡ told
      → CommandEnds told command vault_faulted sink_faulted before after told_after result
  starved_of : told_after ≡ told → Reports None before after sink_faulted result → CommandEnds told command vault_faulted sink_faulted before after told_after result
  put_done : (reply : Reply) (path bytes : List ℕ) → IsDueReply told command reply → IsPutBy command reply path bytes → told_after ≡ bound told path bytes
      → Finishes Done (text_of reply) before after sink_faulted result → CommandEnds told command vault_faulted sink_faulted before after told_after result
  put_failed : (reply : Reply) (path bytes : List ℕ) → IsDueReply told command reply → IsPutBy command reply path bytes → vault_faulted
      → (told_after ≡ told) ⊎ (told_after ≡ bound told path bytes) → Finishes Fault (fault_text path) before after sink_faulted result
      → CommandEnds told command vault_faulted sink_faulted before after told_after result
