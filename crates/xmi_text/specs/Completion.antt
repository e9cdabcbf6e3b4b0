-- How bytes that may go on to a whole text do so: what ends all that is open.
use Rattle.std.specs.Prelude.{ℕ, false, ◌≡◌, ◌⊎◌, ◌+◌, ◌*◌, ◌%◌, nat_lt, List, [], ◌∷◌, ◌++◌, length, drop, replicate, codes, encode_utf8_all, Option, Some, None, if◌then◌else◌}
use Rattle.xmi_text.specs.AttrNames.{has_name}
use Rattle.xmi_text.specs.References as refs
use Rattle.xmi_text.specs.States.{is_inside, front}
use Rattle.xmi_text.specs.Automaton.{innermost, fault_at}
use Rattle.xmi_text.specs.Reading.{end_fault_of}
use Rattle.xmi_text.specs.Writing.{named}
use Rattle.xmi_text.specs.declared.error.TextKind.TheVariants as kinds
use Rattle.xmi_text.specs.declared.mark.Attr.{Attr}
use Rattle.xmi_text.specs.declared.reference.Reference.{Reference}
use Rattle.xmi_text.specs.declared.reference.Reference.TheVariants as ref
use Rattle.xmi_text.specs.declared.utf_eight.Partial.{Partial}
use Rattle.xmi_text.specs.declared.utf_eight.Rest.{Rest}
use Rattle.xmi_text.specs.declared.utf_eight.Rest.TheVariants as rests
use Rattle.xmi_text.specs.declared.state.State.{State}
use Rattle.xmi_text.specs.declared.state.Mode.{Mode}
use Rattle.xmi_text.specs.declared.state.Mode.TheVariants as modes
use Rattle.xmi_text.specs.declared.state.Quote.{Quote}
use Rattle.xmi_text.specs.declared.state.Quote.TheVariants as quotes
use Rattle.xmi_text.specs.declared.state.Within.{Within}
use Rattle.xmi_text.specs.declared.state.Within.TheVariants as places
use Rattle.xmi_text.specs.declared.state.Brackets.{Brackets}
use Rattle.xmi_text.specs.declared.state.Brackets.TheVariants as brackets

-- the bytes are a whole text, or end before it is whole
abbrev pub MayGoOn : List ℕ → Type 0
MayGoOn bytes = (end_fault_of bytes ≡ None) ⊎ (end_fault_of bytes ≡ Some (fault_at kinds.OpenTag (length bytes)))

-- the end tag of an element
abbrev pub end_tag : List ℕ → List ℕ
end_tag name = 60 ∷ 47 ∷ (encode_utf8_all name ++ 62 ∷ [])

-- those of open elements, the innermost element's first
abbrev pub end_tags : List (List ℕ) → List ℕ
end_tags [] = []
end_tags (name ∷ inner) = end_tags inner ++ end_tag name

-- the end of all open elements, or a root element where none was begun
abbrev pub elements_end : State → List ℕ
elements_end s = if s.rooted then end_tags s.elements else codes "<a/>"

-- the end of a tag, and of all open elements
abbrev pub tag_end : State → List ℕ
tag_end s = codes "/>" ++ elements_end s

-- the end of an end tag behind so many bytes of its name, and of the elements around
abbrev pub name_end : State → ℕ → List ℕ
name_end s matched = drop matched (encode_utf8_all (named (innermost s.elements))) ++ 62 ∷ end_tags (front s.elements)

-- as many characters as the names of the attributes have together, and one
abbrev pub size : List Attr → ℕ
size [] = 1
size (a ∷ rest) = length a.name + size rest

-- a name that an attribute has is made longer than all
abbrev pub longer : List Attr → List ℕ → List ℕ
longer attrs name = if has_name attrs name then replicate (size attrs) 97 else []

-- the end of an attribute in its name, and of its tag
abbrev pub attr_end : State → List ℕ → List ℕ
attr_end s name = longer s.attrs name ++ (codes "=\"\"" ++ tag_end s)

abbrev pub quote : Quote → ℕ
quote quotes.Double = 34
quote quotes.Single = 39

-- digits that make a number a storable character's
abbrev pub digits : ℕ → Option ℕ → List ℕ
digits n (Some c) = []
digits n None = if nat_lt n 32 then codes "50" else codes "0"

-- the end of a reference
abbrev pub reference_end : Reference → List ℕ
reference_end ref.Begun = codes "lt;"
reference_end ref.A = codes "mp;"
reference_end ref.Am = codes "p;"
reference_end ref.Ap = codes "os;"
reference_end ref.Apo = codes "s;"
reference_end ref.L = codes "t;"
reference_end ref.G = codes "t;"
reference_end ref.Q = codes "uot;"
reference_end ref.Qu = codes "ot;"
reference_end ref.Quo = codes "t;"
reference_end ref.Hash = codes "50;"
reference_end ref.Hexadecimal = codes "50;"
reference_end (ref.Decimal n) = digits n (refs.storable n) ++ codes ";"
reference_end (ref.Digits n) = digits n (refs.storable n) ++ codes ";"
reference_end _ = codes ";"

-- the end of what a reference stands in
abbrev pub behind_reference : State → Within → List ℕ
behind_reference s places.Content = elements_end s
behind_reference s (places.Value q) = quote q ∷ tag_end s

abbrev pub section_end : Brackets → List ℕ
section_end brackets.None = codes "]]>"
section_end brackets.One = codes "]>"
section_end brackets.Two = codes ">"

-- a lone `<` goes on to the innermost element's end tag, before the root to the root, and behind it to a comment
abbrev pub less_end : State → List ℕ
less_end s =
    if is_inside s then 47 ∷ name_end s 0
    else if s.rooted then codes "!---->"
    else codes "a/>"

-- what ends all that is open between two characters
abbrev pub completion_in : State → Mode → List ℕ
completion_in s (modes.Less at) = less_end s
completion_in s (modes.Bang at) = codes "---->" ++ elements_end s
completion_in s modes.Dash = codes "--->" ++ elements_end s
completion_in s modes.Comment = codes "-->" ++ elements_end s
completion_in s modes.CommentDash = codes "->" ++ elements_end s
completion_in s modes.CommentDashes = codes ">" ++ elements_end s
completion_in s (modes.CdataStart matched) = drop matched (codes "[CDATA[") ++ (codes "]]>" ++ elements_end s)
completion_in s (modes.Cdata held) = section_end held ++ elements_end s
completion_in s modes.Question = codes "a?>" ++ elements_end s
completion_in s (modes.Target colon) = codes "?>" ++ elements_end s
completion_in s modes.Instruction = codes "?>" ++ elements_end s
completion_in s modes.InstructionQuestion = codes ">" ++ elements_end s
completion_in s (modes.TagName colon) = tag_end s
completion_in s modes.Tag = tag_end s
completion_in s (modes.AttrName colon) = attr_end s s.attr.name
completion_in s modes.AfterName = codes "=\"\"" ++ tag_end s
completion_in s modes.BeforeValue = codes "\"\"" ++ tag_end s
completion_in s (modes.Value q) = quote q ∷ tag_end s
completion_in s modes.AfterValue = tag_end s
completion_in s modes.Slash = codes ">" ++ elements_end s
completion_in s (modes.EndName at matched) = name_end s matched
completion_in s (modes.EndTail at) = 62 ∷ end_tags (front s.elements)
completion_in s (modes.Reference at place so_far) = reference_end so_far ++ behind_reference s place
completion_in s mode = elements_end s

-- the least bytes that end a character, and the character
abbrev pub least_rest : Rest → ℕ → List ℕ
least_rest (rests.Three bits) low = low ∷ 0x80 ∷ 0x80 ∷ []
least_rest (rests.Two bits) low = low ∷ 0x80 ∷ []
least_rest (rests.One bits) low = low ∷ []

abbrev pub least : Rest → ℕ → ℕ
least (rests.Three bits) low = (bits * 64 + low % 64) * 4096
least (rests.Two bits) low = (bits * 64 + low % 64) * 64
least (rests.One bits) low = bits * 64 + low % 64

-- the rest of a byte order mark
abbrev pub mark_rest : Rest → List ℕ
mark_rest (rests.Two bits) = 0xbb ∷ 0xbf ∷ []
mark_rest _ = 0xbf ∷ []

-- what ends all that is open behind a character that isn't ASCII
abbrev pub behind_character : State → Mode → ℕ → List ℕ
behind_character s (modes.Less at) c = codes "/>" ++ end_tags s.elements
behind_character s modes.CommentDash c = completion_in s modes.Comment
behind_character s modes.CommentDashes c = completion_in s modes.Comment
behind_character s (modes.Cdata held) c = completion_in s (modes.Cdata brackets.None)
behind_character s modes.Question c = completion_in s (modes.Target false)
behind_character s modes.InstructionQuestion c = completion_in s modes.Instruction
behind_character s modes.Tag c = attr_end s (c ∷ [])
behind_character s (modes.AttrName colon) c = attr_end s (s.attr.name ++ c ∷ [])
behind_character s mode c = completion_in s mode

abbrev pub completion_by : State → Mode → Option Partial → List ℕ
completion_by s mode None = completion_in s mode
completion_by s modes.Start (Some p) = mark_rest p.rest ++ elements_end s
completion_by s mode (Some p) = least_rest p.rest p.low ++ behind_character s mode (least p.rest p.low)

-- what makes bytes whole that may go on: first the end of what is open where they end, then of the open elements
unfoldable pub completion : State → List ℕ
completion s = completion_by s s.mode s.partial
