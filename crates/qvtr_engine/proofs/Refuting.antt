-- Wrong ends of a run that the definitions exclude, for words that are a command and words that are none, over any files.
use Rattle.std.specs.Prelude.{◌≡◌, ◌≢◌, ◌⊎◌, ℕ, true, List, Option, codes}
use Rattle.std.proofs.Common.{refl, sym, ◌∙◌, inl, inr}
use Rattle.vault_io.specs.Files.{Files}
use Rattle.vault_io.specs.Sinks.{appended}
use Rattle.qvtr_engine.specs.declared.status.Status.{Status}
use Rattle.qvtr_engine.specs.declared.status.Status.TheVariants.{Done, Usage, Fault, Chain, Limit}
use Rattle.qvtr_engine.specs.Answer.{Answer, usage, replied}
use Rattle.qvtr_engine.specs.Command.{Command, IsCommand, IsUsage}
use Rattle.qvtr_engine.specs.Outcome.{Finishes}
use Rattle.qvtr_engine.specs.Paths.{is_new_of}
use Rattle.qvtr_engine.specs.Reply.{Reply, status_of}
use Rattle.qvtr_engine.specs.Run.{HasCause}

-- ---- words that are no command

misused_alone : (words : List (List ℕ)) (files : Files) (reply : Reply) → IsUsage words → Answer words files reply → status_of reply ≡ Usage
misused_alone words files _ none (usage u) = refl
misused_alone words files _ none (replied command is reply r) = absurd (none command is)

one_status : (words : List (List ℕ)) (files : Files) (status : Status) → IsUsage words
    → (reply : Reply) × Answer words files reply × (status_of reply ≡ status) → Usage ≡ status
one_status words files status none (reply, answer, same) = sym (misused_alone words files reply none answer) ∙ same

-- a chain of calls is told
pub run_always_answers_chain : (words : List (List ℕ)) (files : Files) (faulted : Type 0) → IsUsage words → HasCause words files faulted Chain → ⊥
run_always_answers_chain words files faulted none cause = let e = one_status words files Chain none cause in absurd (cc)

-- a limit is told
pub run_always_answers_limit : (words : List (List ℕ)) (files : Files) (faulted : Type 0) → IsUsage words → HasCause words files faulted Limit → ⊥
run_always_answers_limit words files faulted none cause = let e = one_status words files Limit none cause in absurd (cc)

-- the work is done
pub run_always_answers_done : (words : List (List ℕ)) (files : Files) (faulted : Type 0) → IsUsage words → HasCause words files faulted Done → ⊥
run_always_answers_done words files faulted none cause = let e = one_status words files Done none cause in absurd (cc)

-- a fault is told where neither the vault nor the sink had one
pub run_always_answers_fault : (words : List (List ℕ)) (files : Files) → IsUsage words → HasCause words files ⊥ Fault → ⊥
run_always_answers_fault words files none (inl cause) = let e = one_status words files Fault none cause in absurd (cc)
run_always_answers_fault words files none (inr fault) = absurd fault

-- ---- words that are a command

-- they are told to be no command
pub run_always_answers_usage : (words : List (List ℕ)) (command : Command) → IsCommand words command → IsUsage words → ⊥
run_always_answers_usage words command is none = none command is

-- ---- what is printed, and where a file is put

-- a text that was cut off is told as printed
pub fault_of_the_sink_hidden : (text : List ℕ) (before after : Option (List ℕ)) (faulted : Type 0) → after ≢ appended before text
    → Finishes Done text before after faulted Done → ⊥
fault_of_the_sink_hidden text before after faulted cut (inl printed) = cut printed.1
fault_of_the_sink_hidden text before after faulted cut (inr fault) = let e = fault.0 in absurd (cc)

-- a path followed by `.old` is one at which a file is being put; it is the path followed by `.new`
pub path_followed_by_old : is_new_of (codes "a.old") (codes "a") ≡ true → ⊥
path_followed_by_old e = absurd (cc)

pub path_followed_by_new : is_new_of (codes "a.new") (codes "a") ≡ true
path_followed_by_new = refl
