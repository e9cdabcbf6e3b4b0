-- What a reader of bytes answers: a function of all bytes that were fed, whatever the pieces.
use Rattle.std.specs.Prelude.{ℕ, Bool, ◌≡◌, ◌+◌, ◌≤◌, List, [], ◌∷◌, ◌++◌, length, take, drop, Option, Some, None, Result, Ok, Err, if◌then◌else◌}
use Rattle.xmi_text.specs.States.{start, complete, cleared}
use Rattle.xmi_text.specs.Automaton as automaton
use Rattle.xmi_text.specs.declared.error.TextError.{TextError}
use Rattle.xmi_text.specs.declared.error.TextError.TheVariants as errors
use Rattle.xmi_text.specs.declared.error.TextFault.{TextFault}
use Rattle.xmi_text.specs.declared.mark.Mark.{Mark}
use Rattle.xmi_text.specs.declared.mark.Mark.TheVariants as marks
use Rattle.xmi_text.specs.declared.mark.Step.{Step}
use Rattle.xmi_text.specs.declared.mark.Step.TheVariants as answers
use Rattle.xmi_text.specs.declared.state.State.{State}

-- the state behind bytes that begin at this place
abbrev pub state_from : ℕ → State → List ℕ → State
state_from at s [] = s
state_from at s (b ∷ bytes) = state_from (at + 1) (cleared (automaton.step s at b)) bytes

-- the marks that they complete
abbrev pub marks_from : ℕ → State → List ℕ → List Mark
marks_from at s [] = []
marks_from at s (b ∷ bytes) = complete (automaton.step s at b) ++ marks_from (at + 1) (cleared (automaton.step s at b)) bytes

-- the state behind a text's first bytes
unfoldable pub state_of : List ℕ → State
state_of bytes = state_from 0 start bytes

-- the tags and runs of text that a text's first bytes complete, those before a fault among them
unfoldable pub marks_of : List ℕ → List Mark
marks_of bytes = marks_from 0 start bytes

-- the fault that bytes have however they go on
unfoldable pub fault_of : List ℕ → Option TextFault
fault_of bytes = automaton.fault (state_of bytes)

-- the fault of bytes that end here
unfoldable pub end_fault_of : List ℕ → Option TextFault
end_fault_of bytes = automaton.end_fault (state_of bytes) (length bytes)

-- what a reader was fed, whether that is all, and how many marks before the end it has given
pub record Fed : Type 0 where
  pub bytes : List ℕ
  pub finished : Bool
  pub given : ℕ

abbrev pub or_fault : Step → Option TextFault → Result Step TextError
or_fault step None = Ok step
or_fault step (Some fault) = Err (errors.Fault fault)

-- the answer behind the last mark of a text that ends here, or that may go on
abbrev pub last_by : Bool → State → ℕ → Result Step TextError
last_by finished s length =
    if finished then or_fault (answers.Mark marks.End) (automaton.end_fault s length)
    else or_fault answers.NotYet (automaton.fault s)

abbrev pub last_answer : Fed → Result Step TextError
last_answer fed = last_by fed.finished (state_of fed.bytes) (length fed.bytes)

abbrev pub answer_by : Fed → List Mark → Result Step TextError
answer_by fed [] = last_answer fed
answer_by fed (mark ∷ more) = Ok (answers.Mark mark)

-- the next answer: the first mark that wasn't given, or the end or the fault behind all marks, or that there is no
-- more to say yet
unfoldable pub answer : Fed → Result Step TextError
answer fed = answer_by fed (drop fed.given (marks_of fed.bytes))

-- one more mark was given, unless it is the end
abbrev pub counted : Mark → ℕ
counted marks.End = 0
counted _ = 1

abbrev pub after_answer : Result Step TextError → Fed → Fed
after_answer (Ok (answers.Mark mark)) fed = record fed { given = fed.given + counted mark }
after_answer (Ok answers.NotYet) fed = fed
after_answer (Err e) fed = fed

-- what was answered is this, unless memory could not be had
abbrev pub Answers : Result Step TextError → Result Step TextError → Type 0
Answers (Err errors.NoMemory) expected = Unit {0}
Answers result expected = result ≡ expected

-- the first bytes were stepped over, and of their marks all but the complete ones were given
pub record Reached (bytes : List ℕ) (at given : ℕ) (s : State) : Type 0 where
  pub within : at ≤ length bytes
  pub counted : given ≤ length (marks_of (take at bytes))
  pub state : state_of (take at bytes) ≡ cleared s
  pub marks : drop given (marks_of (take at bytes)) ≡ complete s
