-- What stops the work at the file of a metamodel or a model.
use Rattle.std.specs.Prelude.{◌≡◌, ℕ, Bool, true, false, List}
use Rattle.mof_metamodel.specs.declared.desc.MetaDesc.{MetaDesc}
use Rattle.model_files.specs.declared.fault.FileError.{FileError}
use Rattle.model_files.specs.declared.fault.FileError.TheVariants as errors
use Rattle.model_files.specs.FaultTexts.{is_limit, error_text}
use Rattle.model_files.specs.Files.{IsTold}
use Rattle.qvtr_engine.specs.declared.outcome.Stop.{Stop}
use Rattle.qvtr_engine.specs.declared.outcome.Stop.TheVariants as stop

-- the line tells the error of the file at the path, which passes a limit or doesn't
abbrev pub IsLineOf : Bool → List ℕ → MetaDesc → List ℕ → FileError → Type 0
IsLineOf limit line meta path error = (limit ≡ is_limit error) × (line ≡ error_text meta path error)

-- the work stops at this error of the file at the path, or memory could not be had
abbrev pub IsMisread : Stop → MetaDesc → List ℕ → FileError → Type 0
IsMisread (stop.Fault at) meta path error = ⊥
IsMisread (stop.TooLong at) meta path error = ⊥
IsMisread (stop.Faulty limit line) meta path error = IsLineOf limit line meta path error
IsMisread (stop.Refused cause text) meta path error = ⊥
IsMisread stop.NoMemory meta path error = Unit {0}

-- memory could not be had: nothing is told of the file
abbrev pub is_starved : FileError → Bool
is_starved (errors.Text fault) = false
is_starved (errors.Json fault) = false
is_starved (errors.Content fault) = false
is_starved (errors.Meta fault) = false
is_starved (errors.NoPackage n) = false
is_starved errors.NoMemory = true

-- the work stops for want of memory, or else at this error
abbrev pub IsStopBy : Bool → Stop → MetaDesc → List ℕ → FileError → Type 0
IsStopBy true s meta path error = s ≡ stop.NoMemory
IsStopBy false s meta path error = IsMisread s meta path error

-- at an error that is told
abbrev pub IsUnread : Stop → MetaDesc → List ℕ → (FileError → Type 0) → Type 0
IsUnread (stop.Fault at) meta path IsError = ⊥
IsUnread (stop.TooLong at) meta path IsError = ⊥
IsUnread (stop.Faulty limit line) meta path IsError = (error : FileError) × IsTold error × IsError error × IsLineOf limit line meta path error
IsUnread (stop.Refused cause text) meta path IsError = ⊥
IsUnread stop.NoMemory meta path IsError = Unit {0}
