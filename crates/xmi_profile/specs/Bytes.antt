-- The elements that the bytes of a file spell, or the fault of its markup.
use Rattle.std.specs.Prelude.{ℕ, ◌+◌, List, [], ◌∷◌, drop, Option, None, Some, Result, Ok, Err}
use Rattle.mof_metamodel.specs.declared.desc.MetaDesc.{MetaDesc}
use Rattle.xmi_text.specs.declared.error.TextFault.{TextFault}
use Rattle.xmi_text.specs.declared.error.TextError.{TextError}
use Rattle.xmi_text.specs.declared.error.TextError.TheVariants as faults
use Rattle.xmi_text.specs.declared.mark.Mark.{Mark}
use Rattle.xmi_text.specs.declared.mark.Mark.TheVariants as marks
use Rattle.xmi_text.specs.declared.mark.Step.{Step}
use Rattle.xmi_text.specs.declared.mark.Step.TheVariants as answers
use Rattle.xmi_text.specs.Reading.{Fed, marks_of, end_fault_of}
use Rattle.xmi_text.specs.Trees.{told}
use Rattle.model_assembly.specs.declared.assembly.check.AssemblyError.{AssemblyError}
use Rattle.model_assembly.specs.declared.assembly.check.AssemblyError.TheVariants as put
use Rattle.model_assembly.specs.declared.fault.Externs.{Externs}
use Rattle.xmi_profile.specs.declared.fault.XmiError.{XmiError}
use Rattle.xmi_profile.specs.declared.fault.XmiError.TheVariants as errors
use Rattle.xmi_profile.specs.Listing.{Listing, nothing, listed}

-- the fault of the markup
abbrev pub text_fault : TextError → Option TextFault
text_fault (faults.Fault fault) = Some fault
text_fault faults.NoMemory = None

-- as an error of a reader of models
abbrev pub error_of : TextError → XmiError
error_of (faults.Fault fault) = errors.Text fault
error_of faults.NoMemory = errors.NoMemory

-- why what is written is no model, as an error of a reader
abbrev pub read_error : AssemblyError → XmiError
read_error (put.Content fault) = errors.Content fault
read_error put.NoMemory = errors.NoMemory

-- the next mark of a whole text, or none behind the last one, or the fault
abbrev pub next_by : Option TextFault → List Mark → Result (Option Mark) TextFault
next_by None [] = Ok None
next_by (Some fault) [] = Err fault
next_by fault (mark ∷ more) = Ok (Some mark)

abbrev pub next_of : Fed → Result (Option Mark) TextFault
next_of fed = next_by (end_fault_of fed.bytes) (drop fed.given (marks_of fed.bytes))

-- the same by what a reader answers: it doesn't say that the text may go on
abbrev pub IsSaid : Result Step TextError → Type 0
IsSaid (Ok answers.NotYet) = ⊥
IsSaid answer = Unit {0}

abbrev pub unless_end : Mark → Option Mark
unless_end marks.End = None
unless_end mark = Some mark

abbrev pub mark_of : Result Step TextError → Result (Option Mark) TextError
mark_of (Ok (answers.Mark mark)) = Ok (unless_end mark)
mark_of (Ok answers.NotYet) = Ok None
mark_of (Err error) = Err error

-- one more mark was given
abbrev pub behind_next : Result (Option Mark) TextError → Fed → Fed
behind_next (Ok (Some mark)) fed = record fed { given = fed.given + 1 }
behind_next result fed = fed

-- the elements of bytes, or their fault
abbrev pub unless_fault : Option TextFault → Listing → Result Listing TextFault
unless_fault None listing = Ok listing
unless_fault (Some fault) listing = Err fault

abbrev pub listing_of : MetaDesc → Externs → List ℕ → Result Listing TextFault
listing_of meta outside bytes = unless_fault (end_fault_of bytes) (listed meta outside nothing (told (marks_of bytes)))
