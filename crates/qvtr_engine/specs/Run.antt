-- How a run ends.
use Rattle.std.specs.Prelude.{◌≡◌, ◌⊎◌, ℕ, true, List, Option, Some}
use Rattle.std.specs.FinMap.{insert}
use Rattle.vault_io.specs.Files.{Files, bound}
use Rattle.object_tables.specs.Models.{ModelData}
use Rattle.vault_io.specs.Sinks.{appended, AppendsPrefix}
use Rattle.qvtr_engine.specs.declared.status.Status.{Status}
use Rattle.qvtr_engine.specs.declared.status.Status.TheVariants.{Done, Fault, NoMemory, Chain, Unmet}
use Rattle.qvtr_engine.specs.Names.{is_among}
use Rattle.qvtr_engine.specs.Command.{Command, IsCommand, output_of, paths_of}
use Rattle.qvtr_engine.specs.ConvertWords.{ConvertWords}
use Rattle.qvtr_engine.specs.ConvertAnswer.{IsConverted, text_in}
use Rattle.qvtr_engine.specs.Reply.{Reply, status_of, text_of, fault_text, no_memory_text}
use Rattle.qvtr_engine.specs.Answer.{Answer, files_after, put_of, PutData}

-- a path of the words
abbrev pub IsPath : List (List ℕ) → List ℕ → Type 0
IsPath words path = (command : Command) × IsCommand words command × (is_among (paths_of command) path ≡ true)

-- What is to be printed, with the status that a run has once it is printed, and the files then: the answer that is owed; or that
-- memory could not be had; or, where the vault faulted, that a file could not be read or put. A file whose put failed may have its
-- new bytes.
pub data Due (words : List (List ℕ)) (files : Files) (faulted : Type 0) : Status → List ℕ → Files → Type 0 where
  answered : (reply : Reply) → Answer words files reply → Due words files faulted (status_of reply) (text_of reply) (files_after reply files)
  starved : Due words files faulted NoMemory no_memory_text files
  faulted_at : faulted → (path : List ℕ) → IsPath words path → Due words files faulted Fault (fault_text path) files
  faulted_after : faulted → (reply : Reply) → Answer words files reply → (put : PutData) → put_of reply ≡ Some put
      → Due words files faulted Fault (fault_text put.path) (insert files put.path put.bytes)

-- The end of a run, by what the sink told before and tells after it, and by the files that the vault tells after it: what is due was
-- printed; or the sink faulted, and took a prefix of it.
pub data Ends (words : List (List ℕ)) (files : Files) (vault_faulted sink_faulted : Type 0) (before after : Option (List ℕ)) (told : Option Files) : Status → Type 0 where
  printed : {status : Status} (text : List ℕ) (then : Files) → Due words files vault_faulted status text then → told ≡ Some then
      → after ≡ appended before text → Ends words files vault_faulted sink_faulted before after told status
  cut_off : {status : Status} (text : List ℕ) (then : Files) → Due words files vault_faulted status text then → told ≡ Some then
      → sink_faulted → AppendsPrefix text before after → Ends words files vault_faulted sink_faulted before after told Fault

-- the one file that a run puts is that which the command may put, and it is put by a run that is done or has a fault
pub record IsPut (words : List (List ℕ)) (before after : Option Files) (status : Status) : Type 0 where
  pub command : Command
  pub words_are : IsCommand words command
  pub path : List ℕ
  pub at : output_of command ≡ Some path
  pub bytes : List ℕ
  pub after_is : after ≡ bound before path bytes
  pub ended : (status ≡ Done) ⊎ (status ≡ Fault)

-- the files are as they were, or one is put
abbrev pub KeepsFiles : List (List ℕ) → Option Files → Option Files → Status → Type 0
KeepsFiles words before after status = (after ≡ before) ⊎ IsPut words before after status

-- Each status has its cause: an answer of this status; of a fault also that the vault or the sink faulted. That memory could not be had
-- says nothing.
abbrev pub IsAnswered : List (List ℕ) → Files → Status → Type 0
IsAnswered words files status = (reply : Reply) × Answer words files reply × (status_of reply ≡ status)

abbrev pub HasCause : List (List ℕ) → Files → Type 0 → Status → Type 0
HasCause words files faulted NoMemory = Unit {0}
HasCause words files faulted Fault = IsAnswered words files Fault ⊎ faulted
HasCause words files faulted status = IsAnswered words files status

-- the status of an answer that is owed, unless memory could not be had, or the vault or the sink faulted
abbrev pub IsOwed : Status → Type 0 → Status → Type 0
IsOwed owed faulted result = (result ≡ owed) ⊎ (result ≡ NoMemory) ⊎ ((result ≡ Fault) × faulted)

-- a chain of calls that is refused may be told in place of an entry that is unmet, and the other way round
pub data AreExchanged : Status → Status → Type 0 where
  unmet_for_chain : AreExchanged Chain Unmet
  chain_for_unmet : AreExchanged Unmet Chain

-- where both stand
pub record IsInPlaceOf (words : List (List ℕ)) (files : Files) (owed result : Status) : Type 0 where
  pub exchanged : AreExchanged owed result
  pub answered : IsAnswered words files result

-- the status of an answer is owed, or one in its place
abbrev pub IsOwedOrOther : List (List ℕ) → Files → Status → Type 0 → Status → Type 0
IsOwedOrOther words files owed faulted result = IsOwed owed faulted result ⊎ IsInPlaceOf words files owed result

-- the words ask for a conversion, and the text of the model that they name, by the metamodel that they name, was put
pub record HasConverted (files : Files) (c : ConvertWords) (told : Option Files) : Type 0 where
  pub model : ModelData
  pub named : IsConverted files c model
  pub put : told ≡ Some (insert files c.output (text_in c.form model))
