-- The profile of markup: which bytes are a document, and of which tree (XML 1.0, Fifth Edition, in UTF-8, without
-- document types). A document is a list of pieces. What a piece is written as, when it is one and what it says stand
-- below, a line for each form.
use Rattle.std.specs.Prelude.{ℕ, ◌≡◌, ◌+◌, ◌*◌, ◌<◌, Bool, true, false, ◌==◌, ◌||◌, ◌&&◌, not, List, [], ◌∷◌, ◌++◌, length, map, codes, encode_utf8_all, Option, Some, None, if◌then◌else◌}
use Rattle.std.specs.Char.{digit_value}
use Rattle.std.specs.List.{list_all}
use Rattle.std.specs.Str.{all_scalars}
use Rattle.mof_metamodel.specs.Characters.{is_blank, is_storable_character, is_storable_text}
use Rattle.xmi_text.specs.declared.limits.TheConstants.{MAX_XMI_NESTING}
use Rattle.xmi_text.specs.ByteClass.{within, continues_name}
use Rattle.xmi_text.specs.Names.{is_far, is_name}
use Rattle.xmi_text.specs.Trees.{Event, Opens, Says, Closes, Tree, events}
use Rattle.xmi_text.specs.Writing.{has}

-- one list begins with another
abbrev pub begins : List ℕ → List ℕ → Bool
begins [] xs = true
begins (p ∷ part) [] = false
begins (p ∷ part) (x ∷ xs) = (p == x) && begins part xs

-- a list stands in another
abbrev pub contains : List ℕ → List ℕ → Bool
contains part [] = begins part []
contains part (x ∷ xs) = begins part (x ∷ xs) || contains part xs

-- the first one passes
abbrev pub starts : {A : Type 0} → (A → Bool) → List A → Bool
starts passes [] = false
starts passes (x ∷ xs) = passes x

-- no two neighbours pass
abbrev pub are_apart : {A : Type 0} → (A → Bool) → List A → Bool
are_apart passes [] = true
are_apart passes (x ∷ xs) = not (passes x && starts passes xs) && are_apart passes xs

-- how line ends are read (2.11): a carriage return is a line feed, and a line feed behind one is part of it
abbrev pub line_ends : Bool → List ℕ → List ℕ
line_ends returned [] = []
line_ends returned (c ∷ cs) =
    if c == 13 then 10 ∷ line_ends true cs
    else if (c == 10) && returned then line_ends false cs
    else c ∷ line_ends false cs

-- a line feed or a tab in an attribute's value is a space (3.3.3)
abbrev pub spaced : ℕ → ℕ
spaced c = if (c == 10) || (c == 9) then 32 else c

-- a reference to a character (4.1, 4.6)
pub data Reference : Type 0 where
  Amp : Reference
  Lt : Reference
  Gt : Reference
  Quot : Reference
  Apos : Reference
  Decimal : (digits : List ℕ) → Reference
  Hexadecimal : (digits : List ℕ) → Reference

abbrev pub is_digit : ℕ → Bool
is_digit c = within 48 57 c

abbrev pub is_hexadecimal_digit : ℕ → Bool
is_hexadecimal_digit c = is_digit c || within 65 70 c || within 97 102 c

-- a number that goes on with digits
abbrev pub number : ℕ → ℕ → List ℕ → ℕ
number base n [] = n
number base n (d ∷ digits) = number base (n * base + digit_value d) digits

abbrev pub reference_text : Reference → List ℕ
reference_text Amp = codes "&amp;"
reference_text Lt = codes "&lt;"
reference_text Gt = codes "&gt;"
reference_text Quot = codes "&quot;"
reference_text Apos = codes "&apos;"
reference_text (Decimal digits) = 38 ∷ 35 ∷ (digits ++ 59 ∷ [])
reference_text (Hexadecimal digits) = 38 ∷ 35 ∷ 120 ∷ (digits ++ 59 ∷ [])

-- the character that it stands for
abbrev pub referred : Reference → ℕ
referred Amp = 38
referred Lt = 60
referred Gt = 62
referred Quot = 34
referred Apos = 39
referred (Decimal digits) = number 10 0 digits
referred (Hexadecimal digits) = number 16 0 digits

-- one or more digits, whose number is a storable character's
abbrev pub is_number : (ℕ → Bool) → List ℕ → ℕ → Bool
is_number is_one digits c = not (length digits == 0) && (list_all is_one digits && (all_scalars (c ∷ []) && is_storable_character c))

abbrev pub is_reference : Reference → Bool
is_reference (Decimal digits) = is_number is_digit digits (number 10 0 digits)
is_reference (Hexadecimal digits) = is_number is_hexadecimal_digit digits (number 16 0 digits)
is_reference _ = true

-- a part of an attribute's value: characters as they are, or a reference
pub data ValuePart : Type 0 where
  Literal : (text : List ℕ) → ValuePart
  Named : (reference : Reference) → ValuePart

abbrev pub is_literal : ValuePart → Bool
is_literal (Literal text) = true
is_literal (Named reference) = false

abbrev pub part_text : ValuePart → List ℕ
part_text (Literal text) = text
part_text (Named reference) = reference_text reference

abbrev pub part_value : ValuePart → List ℕ
part_value (Literal text) = map spaced (line_ends false text)
part_value (Named reference) = referred reference ∷ []

-- no `<`, no `&` and not the quote
abbrev pub is_value_character : ℕ → ℕ → Bool
is_value_character quote c = is_storable_character c && (not (c == 60) && (not (c == 38) && not (c == quote)))

abbrev pub is_part : ℕ → ValuePart → Bool
is_part quote (Literal text) = list_all (is_value_character quote) text
is_part quote (Named reference) = is_reference reference

abbrev pub value_text : List ValuePart → List ℕ
value_text [] = []
value_text (part ∷ parts) = part_text part ++ value_text parts

abbrev pub value_of : List ValuePart → List ℕ
value_of [] = []
value_of (part ∷ parts) = part_value part ++ value_of parts

-- an attribute (3.1) with the blanks before it and around its `=`
pub record Attribute : Type 0 where
  pub before : List ℕ
  pub name : List ℕ
  pub behind_name : List ℕ
  pub before_value : List ℕ
  pub quote : ℕ
  pub value : List ValuePart

abbrev pub attribute_text : Attribute → List ℕ
attribute_text a = a.before ++ (a.name ++ (a.behind_name ++ (61 ∷ (a.before_value ++ (a.quote ∷ (value_text a.value ++ a.quote ∷ []))))))

-- its name and value
abbrev pub pair : Attribute → List ℕ × List ℕ
pair a = (a.name, value_of a.value)

pub record IsAttribute (a : Attribute) : Type 0 where
  pub parted : starts is_blank a.before ≡ true
  pub before : list_all is_blank a.before ≡ true
  pub name : is_name a.name ≡ true
  pub behind_name : list_all is_blank a.behind_name ≡ true
  pub before_value : list_all is_blank a.before_value ≡ true
  pub quote : ((a.quote == 34) || (a.quote == 39)) ≡ true
  pub value : list_all (is_part a.quote) a.value ≡ true
  pub runs : are_apart is_literal a.value ≡ true

abbrev pub attributes_text : List Attribute → List ℕ
attributes_text [] = []
attributes_text (a ∷ attributes) = attribute_text a ++ attributes_text attributes

-- attributes behind those that have these names: no name comes twice
abbrev pub AreAttributes : List (List ℕ) → List Attribute → Type 0
AreAttributes names [] = Unit {0}
AreAttributes names (a ∷ attributes) = IsAttribute a × (has names a.name ≡ false) × AreAttributes (names ++ a.name ∷ []) attributes

-- what stands between `<` and `>` or `/>`
pub record Tag : Type 0 where
  pub name : List ℕ
  pub attributes : List Attribute
  pub blanks : List ℕ

abbrev pub tag_text : Tag → List ℕ
tag_text tag = tag.name ++ (attributes_text tag.attributes ++ tag.blanks)

pub record IsTag (tag : Tag) : Type 0 where
  pub name : is_name tag.name ≡ true
  pub attributes : AreAttributes [] tag.attributes
  pub blanks : list_all is_blank tag.blanks ≡ true

abbrev pub opening : Tag → Event
opening tag = Opens tag.name (map pair tag.attributes)

-- a piece of a document: character data (2.4), a reference, a CDATA section (2.7), a comment (2.5), an instruction
-- (2.6) or a tag (3.1)
pub data Piece : Type 0 where
  Characters : (text : List ℕ) → Piece
  Referred : (reference : Reference) → Piece
  Cdata : (text : List ℕ) → Piece
  Comment : (text : List ℕ) → Piece
  Instruction : (target text : List ℕ) → Piece
  StartTag : (tag : Tag) → Piece
  EmptyTag : (tag : Tag) → Piece
  EndTag : (name blanks : List ℕ) → Piece

abbrev pub piece_text : Piece → List ℕ
piece_text (Characters text) = text
piece_text (Referred reference) = reference_text reference
piece_text (Cdata text) = codes "<![CDATA[" ++ (text ++ codes "]]>")
piece_text (Comment text) = codes "<!--" ++ (text ++ codes "-->")
piece_text (Instruction target text) = codes "<?" ++ (target ++ (text ++ codes "?>"))
piece_text (StartTag tag) = 60 ∷ (tag_text tag ++ 62 ∷ [])
piece_text (EmptyTag tag) = 60 ∷ (tag_text tag ++ 47 ∷ 62 ∷ [])
piece_text (EndTag name blanks) = 60 ∷ 47 ∷ (name ++ (blanks ++ 62 ∷ []))

-- the tags and characters that it means
abbrev pub said : Piece → List Event
said (Characters text) = Says (line_ends false text) ∷ []
said (Referred reference) = Says (referred reference ∷ []) ∷ []
said (Cdata text) = Says (line_ends false text) ∷ []
said (Comment text) = []
said (Instruction target text) = []
said (StartTag tag) = opening tag ∷ []
said (EmptyTag tag) = opening tag ∷ Closes ∷ []
said (EndTag name blanks) = Closes ∷ []

-- a character of character data: no `<` and no `&`
abbrev pub is_content_character : ℕ → Bool
is_content_character c = is_storable_character c && (not (c == 60) && not (c == 38))

-- a character of a name, its first one or another
abbrev pub is_name_character : ℕ → Bool
is_name_character c = continues_name c || ((c == 58) || is_far c)

-- storable characters, without the end of what they stand in
abbrev pub IsUpTo : List ℕ → List ℕ → Type 0
IsUpTo end text = (is_storable_text text ≡ true) × (contains end text ≡ false)

-- an instruction's name is the longest run of name characters
pub record IsInstruction (target text : List ℕ) : Type 0 where
  pub named : is_name target ≡ true
  pub longest : starts is_name_character text ≡ false
  pub up_to : IsUpTo (codes "?>") text

abbrev pub IsPiece : Piece → Type 0
IsPiece (Characters text) = list_all is_content_character text ≡ true
IsPiece (Referred reference) = is_reference reference ≡ true
IsPiece (Cdata text) = IsUpTo (codes "]]>") text
IsPiece (Comment text) = IsUpTo (codes "-->") text
IsPiece (Instruction target text) = IsInstruction target text
IsPiece (StartTag tag) = IsTag tag
IsPiece (EmptyTag tag) = IsTag tag
IsPiece (EndTag name blanks) = list_all is_blank blanks ≡ true

-- a piece that may stand before and behind the root element: blanks, a comment or an instruction
abbrev pub IsAround : Piece → Type 0
IsAround (Characters text) = list_all is_blank text ≡ true
IsAround (Comment text) = IsPiece (Comment text)
IsAround (Instruction target text) = IsPiece (Instruction target text)
IsAround _ = ⊥

abbrev pub AllAround : List Piece → Type 0
AllAround [] = Unit {0}
AllAround (piece ∷ pieces) = IsAround piece × AllAround pieces

abbrev pub is_characters : Piece → Bool
is_characters (Characters text) = true
is_characters _ = false

abbrev pub innermost : List (List ℕ) → Option (List ℕ)
innermost [] = None
innermost (name ∷ names) = Some name

abbrev pub outer : List (List ℕ) → List (List ℕ)
outer [] = []
outer (name ∷ names) = names

-- the elements that are open behind a piece, the innermost first
abbrev pub open_behind : List (List ℕ) → Piece → List (List ℕ)
open_behind names (StartTag tag) = tag.name ∷ names
open_behind names (EndTag name blanks) = outer names
open_behind names _ = names

-- a piece fits in open elements: a start tag where they are fewer than the limit on nesting, an end tag where the innermost
-- one has its name
abbrev pub Fits : List (List ℕ) → Piece → Type 0
Fits names (StartTag tag) = length names < MAX_XMI_NESTING
Fits names (EmptyTag tag) = length names < MAX_XMI_NESTING
Fits names (EndTag name blanks) = innermost names ≡ Some name
Fits names _ = Unit {0}

-- pieces that end the open elements, and nothing behind the end of the last
abbrev pub Closing : List (List ℕ) → List Piece → Type 0
Closing [] [] = Unit {0}
Closing [] (piece ∷ pieces) = ⊥
Closing (name ∷ names) [] = ⊥
Closing (name ∷ names) (piece ∷ pieces) = IsPiece piece × Fits (name ∷ names) piece × Closing (open_behind (name ∷ names) piece) pieces

-- a tag that begins an element
abbrev pub IsRoot : Piece → Type 0
IsRoot (StartTag tag) = IsTag tag
IsRoot (EmptyTag tag) = IsTag tag
IsRoot _ = ⊥

abbrev pub texts : List Piece → List ℕ
texts [] = []
texts (piece ∷ pieces) = piece_text piece ++ texts pieces

abbrev pub all_said : List Piece → List Event
all_said [] = []
all_said (piece ∷ pieces) = said piece ++ all_said pieces

-- characters before what is said: they join those that follow, and none say nothing
abbrev pub say : List ℕ → List Event → List Event
say cs (Says ds ∷ rest) = Says (cs ++ ds) ∷ rest
say [] rest = rest
say (c ∷ cs) rest = Says (c ∷ cs) ∷ rest

-- neighbouring characters in one run
abbrev pub joined_runs : List Event → List Event
joined_runs [] = []
joined_runs (Says cs ∷ rest) = say cs (joined_runs rest)
joined_runs (Opens name attrs ∷ rest) = Opens name attrs ∷ joined_runs rest
joined_runs (Closes ∷ rest) = Closes ∷ joined_runs rest

-- a document (2.1): a byte order mark or none, what stands before the root element, its tag, its pieces up to its end
-- tag, and what stands behind it
pub record Document : Type 0 where
  pub marked : Bool
  pub before : List Piece
  pub root : Piece
  pub inner : List Piece
  pub after : List Piece

pub record IsDocument (d : Document) : Type 0 where
  pub before : AllAround d.before
  pub root : IsRoot d.root
  pub inner : Closing (open_behind [] d.root) d.inner
  pub runs : are_apart is_characters d.inner ≡ true
  pub after : AllAround d.after

abbrev pub order_mark : Bool → List ℕ
order_mark marked = if marked then 0xfeff ∷ [] else []

abbrev pub document_text : Document → List ℕ
document_text d = order_mark d.marked ++ (texts d.before ++ (texts (d.root ∷ d.inner) ++ texts d.after))

-- the bytes are a document's in UTF-8, and the document is the tree
pub record Markup (bytes : List ℕ) (tree : Tree) : Type 0 where
  pub document : Document
  pub whole : IsDocument document
  pub scalars : all_scalars (document_text document) ≡ true
  pub written : bytes ≡ encode_utf8_all (document_text document)
  pub means : joined_runs (all_said (document.root ∷ document.inner)) ≡ events tree

-- the bytes begin a document
abbrev pub Begins : List ℕ → Type 0
Begins bytes = (more : List ℕ) × (tree : Tree) × Markup (bytes ++ more) tree
