-- The marks of a document with their places, and how much of its text completes each. Places and sizes count the
-- bytes of the text in UTF-8, its byte order mark included.
use Rattle.std.specs.Prelude.{ℕ, Bool, true, false, ◌+◌, nat_le, List, [], ◌∷◌, ◌++◌, length, take, encode_utf8_all, if◌then◌else◌}
use Rattle.xmi_text.specs.Markup.{line_ends, referred, Attribute, attribute_text, value_of, Tag, Piece, Characters, Referred, Cdata, Comment, Instruction, StartTag, EmptyTag, EndTag, piece_text, texts, Document, order_mark}
use Rattle.xmi_text.specs.declared.mark.Attr.{Attr}
use Rattle.xmi_text.specs.declared.mark.Mark.{Mark}
use Rattle.xmi_text.specs.declared.mark.Mark.TheVariants as marks

-- a mark, and how many bytes of the text complete it
pub record Timed : Type 0 where
  pub mark : Mark
  pub by : ℕ

abbrev pub timed : ℕ → Mark → Timed
timed by mark = record { mark = mark; by = by }

abbrev pub size : List ℕ → ℕ
size characters = length (encode_utf8_all characters)

-- the place behind a piece
abbrev pub piece_end : ℕ → Piece → ℕ
piece_end at piece = at + size (piece_text piece)

-- attributes from this place on: the place of one is the first byte of its name
abbrev pub attrs_at : ℕ → List Attribute → List Attr
attrs_at at [] = []
attrs_at at (a ∷ attributes) =
    record { name = a.name; value = value_of a.value; at = at + size a.before } ∷ attrs_at (at + size (attribute_text a)) attributes

-- the mark of a start tag whose `<` is at this place
abbrev pub open_at : ℕ → Tag → Mark
open_at at tag = marks.Open tag.name (attrs_at (at + size (60 ∷ tag.name)) tag.attributes) at

-- the marks of a tag: their place is its `<`, for both marks of an empty tag, and its `>` completes them
abbrev pub tag_marks : ℕ → Piece → List Timed
tag_marks at (StartTag tag) = timed (piece_end at (StartTag tag)) (open_at at tag) ∷ []
tag_marks at (EmptyTag tag) = timed (piece_end at (EmptyTag tag)) (open_at at tag) ∷ timed (piece_end at (EmptyTag tag)) (marks.Close at) ∷ []
tag_marks at (EndTag name blanks) = timed (piece_end at (EndTag name blanks)) (marks.Close at) ∷ []
tag_marks at _ = []

-- the characters up to the next tag, where a comment or an instruction says none
abbrev pub run : List Piece → List ℕ
run [] = []
run (Characters text ∷ pieces) = line_ends false text ++ run pieces
run (Referred reference ∷ pieces) = referred reference ∷ run pieces
run (Cdata text ∷ pieces) = line_ends false text ++ run pieces
run (Comment text ∷ pieces) = run pieces
run (Instruction target text ∷ pieces) = run pieces
run (tag ∷ pieces) = []

-- how many bytes show that the next tag begins: those through the `/` or the name's first character behind its `<`
abbrev pub run_end : ℕ → List Piece → ℕ
run_end at [] = at
run_end at (StartTag tag ∷ pieces) = at + size (60 ∷ take 1 tag.name)
run_end at (EmptyTag tag ∷ pieces) = at + size (60 ∷ take 1 tag.name)
run_end at (EndTag name blanks ∷ pieces) = at + size (60 ∷ 47 ∷ [])
run_end at (piece ∷ pieces) = run_end (piece_end at piece) pieces

-- the mark of a run of text, whose place is the first byte behind the tag before it; no character gives no mark
abbrev pub data_at : ℕ → List ℕ → ℕ → List Timed
data_at at [] by = []
data_at at (c ∷ characters) by = timed by (marks.Data (c ∷ characters) at) ∷ []

abbrev pub run_marks : ℕ → List Piece → List Timed
run_marks at pieces = data_at at (run pieces) (run_end at pieces)

abbrev pub is_tag : Piece → Bool
is_tag (StartTag tag) = true
is_tag (EmptyTag tag) = true
is_tag (EndTag name blanks) = true
is_tag _ = false

-- the marks of pieces from this place on: behind each tag stands the mark of the characters up to the next one
abbrev pub marks_at : ℕ → List Piece → List Timed
marks_at at [] = []
marks_at at (piece ∷ pieces) =
    tag_marks at piece ++ ((if is_tag piece then run_marks (piece_end at piece) pieces else []) ++ marks_at (piece_end at piece) pieces)

-- the marks of a document, each with the bytes that complete it
abbrev pub timed_marks : Document → List Timed
timed_marks d = marks_at (size (order_mark d.marked ++ texts d.before)) (d.root ∷ d.inner)

abbrev pub marks_only : List Timed → List Mark
marks_only [] = []
marks_only (m ∷ more) = m.mark ∷ marks_only more

-- the marks of a document
abbrev pub document_marks : Document → List Mark
document_marks d = marks_only (timed_marks d)

abbrev pub complete_within : ℕ → List Timed → List Mark
complete_within n [] = []
complete_within n (m ∷ more) = if nat_le m.by n then m.mark ∷ complete_within n more else complete_within n more

-- those that its text's first n bytes complete
abbrev pub complete_marks : Document → ℕ → List Mark
complete_marks d n = complete_within n (timed_marks d)
