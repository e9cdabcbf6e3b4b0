-- What one more ASCII byte does in each place of the grammar.
use Rattle.std.specs.Prelude.{ℕ, Bool, true, false, ◌+◌, ◌==◌, ◌&&◌, ◌||◌, not, nat_lt, [], ◌∷◌, ◌++◌, length, Option, Some, None, if◌then◌else◌}
use Rattle.xmi_text.specs.declared.limits.TheConstants.{MAX_XMI_NESTING}
use Rattle.xmi_text.specs.ByteClass.{begins_name, continues_name, is_blank, is_storable_byte}
use Rattle.xmi_text.specs.AttrNames.{has_name}
use Rattle.xmi_text.specs.States as states
use Rattle.xmi_text.specs.States.{go, fail, is_inside, around}
use Rattle.xmi_text.specs.declared.error.TextKind.TheVariants as kinds
use Rattle.xmi_text.specs.declared.reference.Reference.TheVariants as ref
use Rattle.xmi_text.specs.declared.state.State.{State}
use Rattle.xmi_text.specs.declared.state.Mode.{Mode}
use Rattle.xmi_text.specs.declared.state.Mode.TheVariants as modes
use Rattle.xmi_text.specs.declared.state.Quote.{Quote}
use Rattle.xmi_text.specs.declared.state.Quote.TheVariants as quotes
use Rattle.xmi_text.specs.declared.state.Within.TheVariants as places
use Rattle.xmi_text.specs.declared.state.Brackets.{Brackets}
use Rattle.xmi_text.specs.declared.state.Brackets.TheVariants as brackets

-- before or behind the root element: a `<` or a blank
abbrev pub outside : State → ℕ → ℕ → State
outside s at b =
    if b == 60 then go s (modes.Less at)
    else if is_blank b then go s modes.Outside
    else fail s kinds.BadMark at

-- in an element: a `<`, a reference, or a character; a line end is read as one line feed
abbrev pub inside : State → ℕ → ℕ → State
inside s at b =
    if b == 60 then go s (modes.Less at)
    else if b == 38 then go s (modes.Reference at places.Content ref.Begun)
    else if b == 13 then states.add s modes.Inside (10 ∷ []) true
    else if (b == 10) && s.returned then go s modes.Inside
    else if is_storable_byte b then states.add s modes.Inside (b ∷ []) false
    else fail s kinds.BadMark at

-- one more `]` in a CDATA section
abbrev pub bracket : State → Brackets → State
bracket s brackets.None = go s (modes.Cdata brackets.One)
bracket s brackets.One = go s (modes.Cdata brackets.Two)
bracket s brackets.Two = states.add s (modes.Cdata brackets.Two) (93 ∷ []) false

-- two brackets, at least
abbrev pub are_two : Brackets → Bool
are_two brackets.Two = true
are_two _ = false

-- in a CDATA section, which the next `]]>` ends
abbrev pub cdata : State → Brackets → ℕ → ℕ → State
cdata s held at b =
    if b == 93 then bracket s held
    else if (b == 62) && are_two held then go s modes.Inside
    else if b == 13 then states.add s states.cdata (states.brackets held ++ 10 ∷ []) true
    else if (b == 10) && s.returned then go s states.cdata
    else if is_storable_byte b then states.add s states.cdata (states.brackets held ++ b ∷ []) false
    else fail s kinds.BadMark at

-- `</` ends an element, where one is open
abbrev pub end : State → ℕ → ℕ → State
end s less at = if is_inside s then states.begin_end s less else fail s kinds.BadMark at

-- an element too deep, whose `<` ends the run of text before it
abbrev pub too_deep : State → ℕ → State
too_deep s less = fail (record s { ready = states.due s.run }) kinds.Limit less

-- at the first character of a start tag's name: there is one root, and elements are nested up to a limit
abbrev pub begin_element : State → ℕ → ℕ → ℕ → State
begin_element s less at c =
    if is_inside s then (if nat_lt (length s.elements) MAX_XMI_NESTING then states.begin_tag s less c else too_deep s less)
    else if s.rooted then fail s kinds.BadMark at
    else states.begin_tag s less c

-- behind a `<`
abbrev pub less : State → ℕ → ℕ → ℕ → State
less s place at b =
    if b == 33 then go s (modes.Bang place)
    else if b == 63 then go s modes.Question
    else if b == 47 then end s place at
    else if begins_name b then begin_element s place at b
    else fail s kinds.BadName at

-- behind `<!`: a comment, a CDATA section inside an element, or what may become a document type
abbrev pub bang : State → ℕ → ℕ → ℕ → State
bang s place at b =
    if b == 45 then go s modes.Dash
    else if (b == 91) && is_inside s then go s (modes.CdataStart 1)
    else if b == 68 then go s (modes.Doctype place at 1)
    else fail s kinds.BadMark at

-- DOCTYPE
abbrev pub doctype_byte : ℕ → Option ℕ
doctype_byte n =
    if n == 1 then Some 79
    else if n == 2 then Some 67
    else if n == 3 then Some 84
    else if n == 4 then Some 89
    else if n == 5 then Some 80
    else if n == 6 then Some 69
    else None

-- [CDATA[
abbrev pub cdata_byte : ℕ → Option ℕ
cdata_byte n =
    if n == 1 then Some 67
    else if n == 2 then Some 68
    else if n == 3 then Some 65
    else if n == 4 then Some 84
    else if n == 5 then Some 65
    else if n == 6 then Some 91
    else None

-- the byte is the wanted one
abbrev pub is_wanted : Option ℕ → ℕ → Bool
is_wanted None b = false
is_wanted (Some w) b = w == b

-- in the word `DOCTYPE`, whose `D` is the fault if the word isn't whole
abbrev pub doctype : State → ℕ → ℕ → ℕ → ℕ → State
doctype s place word_at matched b =
    if not (is_wanted (doctype_byte matched) b) then fail s kinds.BadMark word_at
    else if nat_lt matched 6 then go s (modes.Doctype place word_at (matched + 1))
    else fail s kinds.Doctype place

-- in the word `[CDATA[`
abbrev pub cdata_start : State → ℕ → ℕ → ℕ → State
cdata_start s matched at b =
    if not (is_wanted (cdata_byte matched) b) then fail s kinds.BadMark at
    else if nat_lt matched 6 then go s (modes.CdataStart (matched + 1))
    else go s states.cdata

-- a storable character that is passed over
abbrev pub passed : State → Mode → ℕ → ℕ → State
passed s mode at b = if is_storable_byte b then go s mode else fail s kinds.BadMark at

-- one byte alone may stand here
abbrev pub only : State → ℕ → Mode → ℕ → ℕ → State
only s wanted mode at b = if b == wanted then go s mode else fail s kinds.BadMark at

-- in a comment, before a dash more
abbrev pub comment : State → Mode → ℕ → ℕ → State
comment s dashed at b = if b == 45 then go s dashed else passed s modes.Comment at b

-- in a comment behind two dashes
abbrev pub comment_end : State → ℕ → ℕ → State
comment_end s at b = if b == 62 then go s (around s) else comment s modes.CommentDashes at b

-- behind `<?`
abbrev pub question : State → ℕ → ℕ → State
question s at b = if begins_name b then go s (modes.Target false) else fail s kinds.BadName at

-- at a `:` in a name, which has one at most
abbrev pub colon : State → Bool → Mode → ℕ → State
colon s had mode at = if had then fail s kinds.BadName at else go s mode

-- in an instruction
abbrev pub instruction : State → ℕ → ℕ → State
instruction s at b = if b == 63 then go s modes.InstructionQuestion else passed s modes.Instruction at b

-- in an instruction behind a `?`
abbrev pub instruction_end : State → ℕ → ℕ → State
instruction_end s at b = if b == 62 then go s (around s) else instruction s at b

-- in the name of an instruction
abbrev pub target : State → Bool → ℕ → ℕ → State
target s had at b =
    if b == 58 then colon s had (modes.Target true) at
    else if continues_name b then go s (modes.Target had)
    else instruction s at b

-- behind a part of a start tag
abbrev pub part : State → ℕ → ℕ → State
part s at b =
    if b == 47 then go s modes.Slash
    else if b == 62 then states.open_tag s at
    else if is_blank b then go s modes.Tag
    else fail s kinds.BadMark at

-- in the name of a start tag
abbrev pub tag_name : State → Bool → ℕ → ℕ → State
tag_name s had at b =
    if b == 58 then (if had then fail s kinds.BadName at else states.add_to_tag s true 58)
    else if continues_name b then states.add_to_tag s had b
    else part s at b

-- behind a blank in a start tag
abbrev pub tag : State → ℕ → ℕ → State
tag s at b = if begins_name b then states.begin_attr s at b else part s at b

-- before the `=` of an attribute
abbrev pub equals : State → ℕ → ℕ → State
equals s at b =
    if b == 61 then go s modes.BeforeValue
    else if is_blank b then go s modes.AfterName
    else fail s kinds.BadMark at

-- the first byte behind an attribute's name shows whether the name is new in its tag
abbrev pub name_end : State → ℕ → ℕ → State
name_end s at b = if has_name s.attrs s.attr.name then fail s kinds.DuplicateAttribute s.attr.at else equals s at b

-- in the name of an attribute
abbrev pub attr_name : State → Bool → ℕ → ℕ → State
attr_name s had at b =
    if b == 58 then (if had then fail s kinds.BadName at else states.add_to_name s true 58)
    else if continues_name b then states.add_to_name s had b
    else name_end s at b

-- before the value of an attribute
abbrev pub before_value : State → ℕ → ℕ → State
before_value s at b =
    if b == 34 then go s (modes.Value quotes.Double)
    else if b == 39 then go s (modes.Value quotes.Single)
    else if is_blank b then go s modes.BeforeValue
    else fail s kinds.BadMark at

abbrev pub quote_byte : Quote → ℕ
quote_byte quotes.Double = 34
quote_byte quotes.Single = 39

-- in the value of an attribute: its quote, a reference, or a character; a line end and a tab are read as one space
abbrev pub value : State → Quote → ℕ → ℕ → State
value s quote at b =
    if b == quote_byte quote then states.end_attr s
    else if b == 60 then fail s kinds.BadMark at
    else if b == 38 then go s (modes.Reference at (places.Value quote) ref.Begun)
    else if b == 13 then states.add_to_value s quote 32 true
    else if (b == 10) && s.returned then go s (modes.Value quote)
    else if (b == 10) || (b == 9) then states.add_to_value s quote 32 false
    else if is_storable_byte b then states.add_to_value s quote b false
    else fail s kinds.BadMark at

-- at the end of an empty element's tag
abbrev pub slash : State → ℕ → ℕ → State
slash s at b = if b == 62 then states.empty_tag s at else fail s kinds.BadMark at

-- behind the name of an end tag
abbrev pub tail : State → ℕ → ℕ → ℕ → State
tail s place at b =
    if b == 62 then states.close_tag s place at
    else if is_blank b then go s (modes.EndTail place)
    else fail s kinds.BadMark at
