-- One more byte of a text, in any place of the grammar, and the faults that the bytes so far have.
use Rattle.std.specs.Prelude.{ℕ, Bool, true, false, ◌+◌, ◌-◌, ◌==◌, ◌&&◌, ◌||◌, not, nat_lt, List, [], ◌∷◌, ◌++◌, length, slice_get, encode_utf8_all, Option, Some, None, if◌then◌else◌}
use Rattle.xmi_text.specs.declared.limits.TheConstants.{MAX_XMI_NESTING}
use Rattle.xmi_text.specs.ByteClass.{holds_in_name, within}
use Rattle.xmi_text.specs.UtfEight as utf
use Rattle.xmi_text.specs.References as refs
use Rattle.xmi_text.specs.AttrNames.{has_name}
use Rattle.xmi_text.specs.States as states
use Rattle.xmi_text.specs.States.{go, fail, is_inside}
use Rattle.xmi_text.specs.Steps as steps
use Rattle.xmi_text.specs.declared.error.TextFault.{TextFault}
use Rattle.xmi_text.specs.declared.error.TextKind.{TextKind}
use Rattle.xmi_text.specs.declared.error.TextKind.TheVariants as kinds
use Rattle.xmi_text.specs.declared.reference.Reference.{Reference}
use Rattle.xmi_text.specs.declared.utf_eight.Partial.{Partial}
use Rattle.xmi_text.specs.declared.utf_eight.Growth.{Growth}
use Rattle.xmi_text.specs.declared.utf_eight.Growth.TheVariants as growths
use Rattle.xmi_text.specs.declared.utf_eight.Rest.{Rest}
use Rattle.xmi_text.specs.declared.utf_eight.Rest.TheVariants as rests
use Rattle.xmi_text.specs.declared.state.State.{State}
use Rattle.xmi_text.specs.declared.state.Mode.{Mode}
use Rattle.xmi_text.specs.declared.state.Mode.TheVariants as modes
use Rattle.xmi_text.specs.declared.state.Within.{Within}
use Rattle.xmi_text.specs.declared.state.Within.TheVariants as places

-- the `;` of a reference
abbrev pub reference_to : State → ℕ → Within → Option ℕ → State
reference_to s at place None = fail s kinds.BadEntity at
reference_to s at places.Content (Some c) = states.add s modes.Inside (c ∷ []) false
reference_to s at (places.Value quote) (Some c) = states.add_to_value s quote c false

abbrev pub reference_end : State → ℕ → Within → Reference → State
reference_end s at place so_far = reference_to s at place (refs.character so_far)

abbrev pub reference_on : State → ℕ → Within → Option Reference → State
reference_on s at place None = fail s kinds.BadEntity at
reference_on s at place (Some so_far) = go s (modes.Reference at place so_far)

-- a byte of a reference
abbrev pub reference : State → ℕ → Within → Reference → ℕ → State
reference s at place so_far b =
    if b == 59 then reference_end s at place so_far else reference_on s at place (refs.extended so_far b)

-- the innermost element's name
abbrev pub innermost : List (List ℕ) → Option (List ℕ)
innermost names = slice_get names (length names - 1)

abbrev pub byte_of : Option (List ℕ) → ℕ → Option ℕ
byte_of None place = None
byte_of (Some name) place = slice_get (encode_utf8_all name) place

-- a byte of it
abbrev pub wanted : State → ℕ → Option ℕ
wanted s place = byte_of (innermost s.elements) place

-- behind the whole name of an end tag: a byte that a name holds makes it another name
abbrev pub name_behind : State → ℕ → ℕ → ℕ → State
name_behind s less at b =
    if holds_in_name b then fail s kinds.WrongEnd less
    else if nat_lt b 128 then steps.tail s less at b
    else fail s kinds.BadUtf8 at

abbrev pub end_name_by : State → ℕ → ℕ → ℕ → ℕ → Option ℕ → State
end_name_by s less matched at b None = name_behind s less at b
end_name_by s less matched at b (Some w) = if w == b then go s (modes.EndName less (matched + 1)) else fail s kinds.WrongEnd less

-- in the name of an end tag, which has to be the innermost element's
abbrev pub end_name : State → ℕ → ℕ → ℕ → ℕ → State
end_name s less matched at b = end_name_by s less matched at b (wanted s matched)

-- the byte ends an attribute's name that its tag has already
abbrev pub ends_twin : State → Mode → ℕ → Bool
ends_twin s (modes.AttrName colon) b = not (holds_in_name b) && has_name s.attrs s.attr.name
ends_twin s _ b = false

abbrev pub lead_on : State → ℕ → Option Partial → State
lead_on s at None = fail s kinds.BadUtf8 at
lead_on s at (Some p) = record s { partial = Some p }

-- a byte that isn't ASCII, where no character is cut
abbrev pub lead : State → Mode → ℕ → ℕ → State
lead s mode at b =
    if ends_twin s mode b then fail s kinds.DuplicateAttribute s.attr.at else lead_on s at (utf.begun at b)

-- an element may begin here
abbrev pub admits_element : State → Bool
admits_element s = if is_inside s then nat_lt (length s.elements) MAX_XMI_NESTING else not s.rooted

-- a character that isn't ASCII may stand here
abbrev pub admits : State → Mode → Bool
admits s (modes.Less place) = admits_element s
admits s modes.Inside = true
admits s modes.Comment = true
admits s modes.CommentDash = true
admits s modes.CommentDashes = true
admits s (modes.Cdata held) = true
admits s modes.Question = true
admits s (modes.Target colon) = true
admits s modes.Instruction = true
admits s modes.InstructionQuestion = true
admits s (modes.TagName colon) = true
admits s modes.Tag = true
admits s (modes.AttrName colon) = true
admits s (modes.Value quote) = true
admits s _ = false

-- a storable character that isn't ASCII, elsewhere than behind a `<`
abbrev pub admitted : State → Mode → ℕ → ℕ → State
admitted s modes.Inside lead c = states.add s modes.Inside (c ∷ []) false
admitted s (modes.Cdata held) lead c = states.add s states.cdata (states.brackets held ++ c ∷ []) false
admitted s (modes.TagName colon) lead c = states.add_to_tag s colon c
admitted s modes.Tag lead c = states.begin_attr s lead c
admitted s (modes.AttrName colon) lead c = states.add_to_name s colon c
admitted s (modes.Value quote) lead c = states.add_to_value s quote c false
admitted s modes.Comment lead c = go s modes.Comment
admitted s modes.CommentDash lead c = go s modes.Comment
admitted s modes.CommentDashes lead c = go s modes.Comment
admitted s modes.Question lead c = go s (modes.Target false)
admitted s (modes.Target colon) lead c = go s (modes.Target colon)
admitted s modes.Instruction lead c = go s modes.Instruction
admitted s modes.InstructionQuestion lead c = go s modes.Instruction
admitted s _ lead c = fail s kinds.BadMark lead

-- at the start of the bytes: a byte order mark, or a fault at the first byte that differs from one's
abbrev pub start_whole : State → ℕ → ℕ → State
start_whole s lead c =
    if c == 0xfeff then go s modes.Outside
    else if within 0xfec0 0xfefe c then fail s kinds.BadMark 2
    else if within 0xf000 0xffff c then fail s kinds.BadMark 1
    else fail s kinds.BadMark lead

-- U+FFFE and U+FFFF show by their last byte
abbrev pub unstorable : State → Mode → ℕ → ℕ → State
unstorable s mode lead at = fail s kinds.BadMark (if admits s mode then at else lead)

abbrev pub is_unstorable : ℕ → Bool
is_unstorable c = (c == 0xfffe) || (c == 0xffff)

-- a whole character that isn't ASCII, from its first byte at `lead` to its last at `at`
abbrev pub whole : State → Mode → ℕ → ℕ → ℕ → State
whole s modes.Start lead at c = start_whole s lead c
whole s (modes.Less place) lead at c =
    if is_unstorable c then unstorable s (modes.Less place) lead at else steps.begin_element s place lead c
whole s mode lead at c = if is_unstorable c then unstorable s mode lead at else admitted s mode lead c

abbrev pub partial_by : State → Mode → ℕ → ℕ → Growth → State
partial_by s mode lead at growths.Broken = fail s kinds.BadUtf8 lead
partial_by s mode lead at (growths.Partial p) = record s { partial = Some p }
partial_by s mode lead at (growths.Whole c) = record (whole s mode lead at c) { partial = None }

-- one more byte of a character
abbrev pub partial : State → Mode → Partial → ℕ → ℕ → State
partial s mode p at b = partial_by s mode p.lead at (utf.extended p b)

-- an ASCII byte where it takes no memory
abbrev pub plain : State → Mode → ℕ → ℕ → State
plain s (modes.Bang place) at b = steps.bang s place at b
plain s modes.Dash at b = steps.only s 45 modes.Comment at b
plain s modes.Comment at b = steps.comment s modes.CommentDash at b
plain s modes.CommentDash at b = steps.comment s modes.CommentDashes at b
plain s modes.CommentDashes at b = steps.comment_end s at b
plain s (modes.CdataStart matched) at b = steps.cdata_start s matched at b
plain s modes.Question at b = steps.question s at b
plain s (modes.Target colon) at b = steps.target s colon at b
plain s modes.Instruction at b = steps.instruction s at b
plain s modes.InstructionQuestion at b = steps.instruction_end s at b
plain s modes.AfterName at b = steps.equals s at b
plain s modes.BeforeValue at b = steps.before_value s at b
plain s modes.Slash at b = steps.slash s at b
plain s (modes.EndTail place) at b = steps.tail s place at b
plain s _ at b = steps.outside s at b

-- an ASCII byte, elsewhere than in a reference, in `<!DOCTYPE` and in an end tag's name
abbrev pub ascii : State → Mode → ℕ → ℕ → State
ascii s modes.Inside at b = steps.inside s at b
ascii s (modes.Less place) at b = steps.less s place at b
ascii s (modes.Cdata held) at b = steps.cdata s held at b
ascii s (modes.TagName colon) at b = steps.tag_name s colon at b
ascii s modes.Tag at b = steps.tag s at b
ascii s (modes.AttrName colon) at b = steps.attr_name s colon at b
ascii s (modes.Value quote) at b = steps.value s quote at b
ascii s modes.AfterValue at b = steps.part s at b
ascii s mode at b = plain s mode at b

abbrev pub character_by : State → Mode → ℕ → ℕ → Option Partial → State
character_by s mode at b (Some p) = partial s mode p at b
character_by s mode at b None = if nat_lt b 128 then ascii s mode at b else lead s mode at b

-- one more byte of a character, or a character of one byte
abbrev pub character_step : State → Mode → ℕ → ℕ → State
character_step s mode at b = character_by s mode at b s.partial

abbrev pub step_by : State → ℕ → ℕ → Mode → State
step_by s at b (modes.Failed fault) = s
step_by s at b (modes.Reference amp place so_far) = reference s amp place so_far b
step_by s at b (modes.Doctype less word_at matched) = steps.doctype s less word_at matched b
step_by s at b (modes.EndName less matched) = end_name s less matched at b
step_by s at b mode = character_step s mode at b

-- one more byte, at this place
abbrev pub step : State → ℕ → ℕ → State
step s at b = step_by s at b s.mode

-- a fault of a kind at a place
abbrev pub fault_at : TextKind → ℕ → TextFault
fault_at kind at = record { kind = kind; at = at }

abbrev pub fault_by : Mode → Option TextFault
fault_by (modes.Failed fault) = Some fault
fault_by _ = None

-- the fault, where the bytes have one however they go on
abbrev pub fault : State → Option TextFault
fault s = fault_by s.mode

-- the start of a byte order mark may go on; else the first byte that differs is the fault
abbrev pub cut_start_by : ℕ → ℕ → Rest → TextFault
cut_start_by lead length (rests.Two bits) = if bits == 15 then fault_at kinds.OpenTag length else fault_at kinds.BadMark lead
cut_start_by lead length (rests.One bits) =
    if bits == 0x3fb then fault_at kinds.OpenTag length
    else if within 0x3c0 0x3ff bits then fault_at kinds.BadMark 1
    else fault_at kinds.BadMark lead
cut_start_by lead length (rests.Three bits) = fault_at kinds.BadMark lead

abbrev pub cut_start : Partial → ℕ → TextFault
cut_start p length = cut_start_by p.lead length p.rest

-- the bytes end in a character
abbrev pub cut_fault : State → Mode → Partial → ℕ → TextFault
cut_fault s modes.Start p length = cut_start p length
cut_fault s mode p length = if admits s mode then fault_at kinds.OpenTag length else fault_at kinds.BadMark p.lead

-- the bytes end between two characters: they are whole behind the root element
abbrev pub open_fault : State → Mode → ℕ → Option TextFault
open_fault s modes.Outside length = if s.rooted then None else Some (fault_at kinds.OpenTag length)
open_fault s mode length = Some (fault_at kinds.OpenTag length)

abbrev pub ended_by : State → Mode → ℕ → Option Partial → Option TextFault
ended_by s mode length (Some p) = Some (cut_fault s mode p length)
ended_by s mode length None = open_fault s mode length

abbrev pub end_fault_by : State → ℕ → Mode → Option TextFault
end_fault_by s length (modes.Failed fault) = Some fault
end_fault_by s length (modes.Doctype less word_at matched) = Some (fault_at kinds.BadMark word_at)
end_fault_by s length mode = ended_by s mode length s.partial

-- the fault of bytes that end here, if they have one
abbrev pub end_fault : State → ℕ → Option TextFault
end_fault s length = end_fault_by s length s.mode
