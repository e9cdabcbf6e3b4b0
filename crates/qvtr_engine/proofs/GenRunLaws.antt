-- How a run of the example ends.
use Rattle.std.proofs.Common.{◌≡◌, ℕ, inl, inr, List, refl, sym, ◌∙◌, subst, Option, Some, None}
use Rattle.std.proofs.lemmas.Option.{same_Some}
use Rattle.vault_io.specs.Files.{Files}
use Rattle.command_words.specs.declared.reading.WordsError.{WordsError}
use Rattle.command_words.specs.declared.reading.WordsError.TheVariants as errors
use Rattle.qvtr_engine.specs.declared.mode.Mode.{Mode}
use Rattle.qvtr_engine.specs.declared.gen_words.GenRequest.{GenRequest}
use Rattle.qvtr_engine.specs.declared.status.Status.{Status}
use Rattle.qvtr_engine.specs.declared.status.Status.TheVariants.{Done}
use Rattle.qvtr_engine.specs.CheckWords.{CheckWords}
use Rattle.qvtr_engine.specs.ConvertWords.{ConvertWords}
use Rattle.qvtr_engine.specs.Command.{Command, executes, converts, generates, IsInBounds, command_of}
use Rattle.qvtr_engine.specs.CommandEnds.{CommandEnds, summarized, starved_of}
use Rattle.qvtr_engine.specs.GenAnswer.{GenAnswer, GenerationEnds}
use Rattle.qvtr_engine.specs.GenAnswer as answers
use Rattle.qvtr_engine.specs.GenWords.{IsGeneration}
use Rattle.qvtr_engine.specs.Outcome.{Finishes, RefusesWords}
use Rattle.qvtr_engine.specs.Reply.{generated}
use Rattle.qvtr_engine.proofs.CommandLaws.{command_found, command_again, none_some}
use Rattle.qvtr_engine.proofs.RunLaws.{if_some_all}

-- the work on the command ends so
pub generation_command : (told : Option Files) (g : GenRequest) (vault_faulted sink_faulted : Type 0) (before after : Option (List ℕ)) (result : Status)
    → GenerationEnds g before after sink_faulted result → CommandEnds told (generates g) vault_faulted sink_faulted before after told result
generation_command told g vf sf before after result (inl (text, is, f)) =
    summarized is.summary (if_some_all told (λ files. GenAnswer g (generated is.summary)) (λ files. answers.summarized is.summary is.is))
    (inl (subst (λ t. Finishes Done t before after sf result) is.text_is f)) refl
generation_command told g vf sf before after result (inr f) = starved_of refl (inr f)

-- the numbers of a command that is read
pub command_in_bounds : (words : List (List ℕ)) (command : Command) → command_of words ≡ Some command → IsInBounds command
command_in_bounds words (executes mode w) e = tt
command_in_bounds words (converts c) e = tt
command_in_bounds words (generates g) e = let is : IsGeneration words g = command_found words (generates g) e in is.in_range

-- the command that is read of the words of `gen`
pub generation_read : (words : List (List ℕ)) (command : Command) (g : GenRequest) → command_of words ≡ Some command → IsGeneration words g → command ≡ generates g
generation_read words command g e is = same_Some command (generates g) (sym e ∙ command_again words (generates g) is)

same_request : (g h : GenRequest) → generates g ≡ generates h → g ≡ h
same_request g h e = cc

-- of the command that is run
pub of_request : (g h : GenRequest) (before after : Option (List ℕ)) (faulted : Type 0) (result : Status) → generates g ≡ generates h
    → GenerationEnds g before after faulted result → GenerationEnds h before after faulted result
of_request g h before after faulted result e is = subst (λ r. GenerationEnds r before after faulted result) (same_request g h e) is

-- and the others are none
pub not_executed : (mode : Mode) (w : CheckWords) (g : GenRequest) → executes mode w ≡ generates g → ⊥
not_executed mode w g e = cc

pub not_converted : (c : ConvertWords) (g : GenRequest) → converts c ≡ generates g → ⊥
not_converted c g e = cc

-- where no command was read, memory could not be had
pub words_generation : (words : List (List ℕ)) (before after : Option (List ℕ)) (faulted : Type 0) (error : WordsError) (result : Status)
    → (error ≡ errors.Usage → command_of words ≡ None) → RefusesWords error before after faulted result
    → (g : GenRequest) → IsGeneration words g → GenerationEnds g before after faulted result
words_generation words before after faulted errors.Usage result none f g is =
    absurd (none_some (generates g) (sym (none refl) ∙ command_again words (generates g) is))
words_generation words before after faulted errors.NoMemory result none f g is = inr f
