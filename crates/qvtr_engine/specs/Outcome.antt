-- What a command comes to, and how its reply is printed.
use Rattle.std.specs.Prelude.{◌≡◌, ℕ, List, ◌⊎◌, Option, Some, None, IsSomeAnd}
use Rattle.vault_io.specs.Sinks.{appended, AppendsPrefix}
use Rattle.command_words.specs.declared.reading.WordsError.{WordsError}
use Rattle.command_words.specs.declared.reading.WordsError.TheVariants as errors
use Rattle.qvtr_engine.specs.declared.status.Status.{Status}
use Rattle.qvtr_engine.specs.declared.status.Status.TheVariants.{Usage, Fault, NoMemory}
use Rattle.qvtr_engine.specs.declared.outcome.Outcome.{Outcome}
use Rattle.qvtr_engine.specs.declared.outcome.Outcome.TheVariants as outcome
use Rattle.qvtr_engine.specs.declared.outcome.Stop.{Stop}
use Rattle.qvtr_engine.specs.declared.outcome.Stop.TheVariants as stop
use Rattle.qvtr_engine.specs.Reply.{Reply, status_of, text_of, unread, faulty, too_long, holds, fails, refused_for, kept, mended, traced, usage_text, no_memory_text}

-- the reply that an outcome is
abbrev pub reply_of : Outcome → Reply
reply_of outcome.Yes = holds
reply_of (outcome.No text) = fails text
reply_of outcome.Kept = kept
reply_of (outcome.Mended path bytes report) = mended path.now bytes report
reply_of (outcome.Traced text) = traced text

-- the reply that a stop is, unless memory could not be had
abbrev pub reply_of_stop : Stop → Option Reply
reply_of_stop (stop.Fault path) = Some (unread path.now)
reply_of_stop (stop.TooLong path) = Some (too_long path.now)
reply_of_stop (stop.Faulty is_limit line) = Some (faulty is_limit line)
reply_of_stop (stop.Refused cause text) = Some (refused_for cause text)
reply_of_stop stop.NoMemory = None

-- a text was printed and the status is that which goes with it, or the sink faulted and took a prefix of the text
abbrev pub Finishes : Status → List ℕ → Option (List ℕ) → Option (List ℕ) → Type 0 → Status → Type 0
Finishes status text before after faulted result =
    ((result ≡ status) × (after ≡ appended before text)) ⊎ ((result ≡ Fault) × faulted × AppendsPrefix text before after)

-- it was printed that the words are no command, or that memory to read them could not be had
abbrev pub RefusesWords : WordsError → Option (List ℕ) → Option (List ℕ) → Type 0 → Status → Type 0
RefusesWords errors.Usage before after faulted result = Finishes Usage usage_text before after faulted result
RefusesWords errors.NoMemory before after faulted result = Finishes NoMemory no_memory_text before after faulted result

-- the reply that an outcome is was printed, or that memory could not be had
abbrev pub Reports : Option Reply → Option (List ℕ) → Option (List ℕ) → Type 0 → Status → Type 0
Reports reply before after faulted result =
    IsSomeAnd reply (λ r. Finishes (status_of r) (text_of r) before after faulted result)
    ⊎ Finishes NoMemory no_memory_text before after faulted result
