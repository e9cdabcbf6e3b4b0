-- What a writer wrote is a document, of the tree that its calls mean.
use Rattle.std.proofs.Common.{◌≡◌, ℕ, zero, suc, take, ◌-◌, ◌*◌, ◌<◌, Bool, true, false, List, [], ◌∷◌, ◌++◌, length, map, refl, sym, ◌∙◌, ap, ap₂, subst, arith, None, Some, inl, inr, append_assoc, append-nil, length-append}
use Rattle.std.specs.Prelude.{◌==◌, ◌&&◌, not, nat_lt, slice_get, replicate, codes, encode_utf8_all}
use Rattle.std.specs.List.{list_all}
use Rattle.std.proofs.lemmas.Bool.{and_parts, and_from, not-true, true≢false, ltb-true, eqb-true, ne_eqb}
use lib.Utf8.{scalars}
use lib.Utf8 as utf8
use Rattle.mof_metamodel.specs.Characters.{is_blank, is_storable_text}
use Rattle.xmi_text.specs.declared.limits.TheConstants.{MAX_XMI_NESTING}
use Rattle.xmi_text.specs.Names.{is_name}
use Rattle.xmi_text.specs.Trees.{Tree, Event, Opens, Says, Closes, events}
use Rattle.xmi_text.specs.Writing.{Written, nothing, is_empty, is_inside, is_tag, is_whole, may_open, may_attr, is_new, has, opened, with_attr, with_data, closed, escaped, escaped_character, attr_text, tag_end, element_end, named, more_names, declaration, declared, line_end, with_line}
use Rattle.xmi_text.specs.Calls.{Call, Open, Attr, Data, Close, Declare, Line, after_call, wrote, May, AllMay, leading, meant_in, meant}
use Rattle.xmi_text.specs.Markup.{ValuePart, Attribute, IsAttribute, AreAttributes, attribute_text, attributes_text, pair, Tag, IsTag, tag_text, Piece, Characters, Instruction, StartTag, EmptyTag, EndTag, piece_text, IsAround, AllAround, is_characters, are_apart, starts, open_behind, Closing, IsRoot, texts, all_said, say, joined_runs, Document, IsDocument, document_text, Markup}
use Rattle.xmi_text.proofs.forward.Encoded.{if_true, if_false}
use Rattle.xmi_text.proofs.forward.EventTrees.{has_tree}
use Rattle.xmi_text.proofs.forward.Spelled.{stacked, some, length-stacked, inside_by, innermost_by, front_by, root_tag}
use Rattle.xmi_text.proofs.forward.Placed.{say_none}
use Rattle.xmi_text.proofs.writing.Escaping.{spelling, Content, lay_line, spell, Value, spell_value}

-- an attribute as a writer writes it
attribute : (name : List ℕ) (parts : List ValuePart) → Attribute
attribute name parts = record { before = 32 ∷ []; name = name; behind_name = []; before_value = []; quote = 34; value = parts }

attribute_fine : (name value : List ℕ) (v : Value value) → is_name name ≡ true → IsAttribute (attribute name v.parts)
unfolding attribute
attribute_fine name value v e = record { parted = refl; before = refl; name = e; behind_name = refl; before_value = refl; quote = refl; value = v.fine; runs = v.runs }

attribute_pair : (name value : List ℕ) (v : Value value) → pair (attribute name v.parts) ≡ (name, value)
unfolding attribute
attribute_pair name value v = ap (λ x. (name, x)) v.value

attribute_written : (name value : List ℕ) (v : Value value) → attribute_text (attribute name v.parts) ≡ attr_text name value
unfolding attribute
attribute_written name value v = ap (λ x. 32 ∷ (name ++ (61 ∷ 34 ∷ (x ++ 34 ∷ [])))) v.text ∙ sym (simp append_assoc)

-- ## start tags

names_in : List Attribute → List (List ℕ)
names_in [] = []
names_in (a ∷ attributes) = a.name ∷ names_in attributes

names_in-push : (attributes : List Attribute) (a : Attribute) → names_in (attributes ++ a ∷ []) ≡ names_in attributes ++ a.name ∷ []
unfolding names_in
names_in-push [] a = refl
names_in-push (x ∷ attributes) a = ap (λ ns. x.name ∷ ns) (names_in-push attributes a)

attributes_push : (before : List (List ℕ)) (attributes : List Attribute) (a : Attribute) → AreAttributes before attributes → IsAttribute a → has (before ++ names_in attributes) a.name ≡ false → AreAttributes before (attributes ++ a ∷ [])
unfolding names_in
attributes_push before [] a k i e = (i, ap (λ ns. has ns a.name) (sym (append-nil before)) ∙ e, tt)
attributes_push before (x ∷ attributes) a k i e = (
  k.0,
  k.1,
  attributes_push (before ++ x.name ∷ []) attributes a k.2 i (ap (λ ns. has ns a.name) (append_assoc before (x.name ∷ []) (names_in attributes)) ∙ e),
)

attributes_text-push : (attributes : List Attribute) (a : Attribute) → attributes_text (attributes ++ a ∷ []) ≡ attributes_text attributes ++ attribute_text a
attributes_text-push [] a = append-nil (attribute_text a)
attributes_text-push (x ∷ attributes) a = ap (λ t. attribute_text x ++ t) (attributes_text-push attributes a) ∙ sym (append_assoc (attribute_text x) (attributes_text attributes) (attribute_text a))

pairs-push : (attributes : List Attribute) (a : Attribute) → map pair (attributes ++ a ∷ []) ≡ map pair attributes ++ pair a ∷ []
pairs-push [] a = refl
pairs-push (x ∷ attributes) a = ap (λ ps. pair x ∷ ps) (pairs-push attributes a)

-- a start tag that has no blank at its end, and what follows it
record Headed (outer : List (List ℕ)) (written : List ℕ) (es : List Event) : Type 0 where
  root : Piece
  inner : List Piece
  is_root : IsRoot root
  closing : Closing (open_behind outer root) inner
  runs : are_apart is_characters inner ≡ true
  text : texts (root ∷ inner) ≡ written
  said : joined_runs (all_said (root ∷ inner)) ≡ es

abbrev tag_of : List ℕ → List Attribute → Tag
tag_of name attributes = record { name = name; attributes = attributes; blanks = [] }

-- what is written of a start tag that isn't ended
abbrev begun : List ℕ → List Attribute → List ℕ
begun name attributes = 60 ∷ (name ++ attributes_text attributes)

begun_text : (name : List ℕ) (attributes : List Attribute) → 60 ∷ tag_text (tag_of name attributes) ≡ begun name attributes
begun_text name attributes = ap (λ x. 60 ∷ (name ++ x)) (append-nil (attributes_text attributes))

-- a start tag ends
start_tag : (outer : List (List ℕ)) (name : List ℕ) (attributes : List Attribute) (text : List ℕ) (es : List Event) → IsTag (tag_of name attributes) → Content (name ∷ outer) text es → Headed outer (begun name attributes ++ 62 ∷ text) (Opens name (map pair attributes) ∷ es)
start_tag outer name attributes text es i k = record {
  root = StartTag (tag_of name attributes);
  inner = k.pieces;
  is_root = i;
  closing = k.closing;
  runs = k.runs;
  text = ap (λ x. (x ++ 62 ∷ []) ++ texts k.pieces) (begun_text name attributes) ∙ append_assoc (begun name attributes) (62 ∷ []) (texts k.pieces) ∙ ap (λ x. begun name attributes ++ 62 ∷ x) k.text;
  said = ap (λ x. Opens name (map pair attributes) ∷ x) k.said;
}

empty_tag : (outer : List (List ℕ)) (name : List ℕ) (attributes : List Attribute) (text : List ℕ) (es : List Event) → IsTag (tag_of name attributes) → Content outer text es → Headed outer (begun name attributes ++ 47 ∷ 62 ∷ text) (Opens name (map pair attributes) ∷ Closes ∷ es)
empty_tag outer name attributes text es i k = record {
  root = EmptyTag (tag_of name attributes);
  inner = k.pieces;
  is_root = i;
  closing = k.closing;
  runs = k.runs;
  text = ap (λ x. (x ++ 47 ∷ 62 ∷ []) ++ texts k.pieces) (begun_text name attributes) ∙ append_assoc (begun name attributes) (47 ∷ 62 ∷ []) (texts k.pieces) ∙ ap (λ x. begun name attributes ++ 47 ∷ 62 ∷ x) k.text;
  said = ap (λ x. Opens name (map pair attributes) ∷ Closes ∷ x) k.said;
}

root_closing : (n : List ℕ) (names : List (List ℕ)) (p : Piece) (inner : List Piece) → IsRoot p → length (n ∷ names) < MAX_XMI_NESTING → Closing (open_behind (n ∷ names) p) inner → Closing (n ∷ names) (p ∷ inner)
root_closing n names (StartTag tag) inner i h k = (i, h, k)
root_closing n names (EmptyTag tag) inner i h k = (i, h, k)
root_closing n names _ inner i h k = absurd i

-- an element in another
inside : (n : List ℕ) (names : List (List ℕ)) (text : List ℕ) (es : List Event) → length (n ∷ names) < MAX_XMI_NESTING → Headed (n ∷ names) text es → Content (n ∷ names) text es
inside n names text es h k = record {
  pieces = k.root ∷ k.inner;
  text = k.text;
  closing = root_closing n names k.root k.inner k.is_root h k.closing;
  runs = ap (λ x. not (x && starts is_characters k.inner) && are_apart is_characters k.inner) (root_tag k.root k.is_root) ∙ k.runs;
  said = k.said;
}

-- ## the calls

-- no start tag is open
record Between (w : Written) (names : List (List ℕ)) : Type 0 where
  elements : w.elements ≡ stacked names
  none : w.names ≡ None
  rooted : w.rooted ≡ true
  some_text : 0 < length w.text

-- a start tag is open, behind a text
record Tagging (w : Written) (b : List ℕ) (outer : List (List ℕ)) (name : List ℕ) (attributes : List Attribute) : Type 0 where
  elements : w.elements ≡ stacked (name ∷ outer)
  names : w.names ≡ Some (names_in attributes)
  rooted : w.rooted ≡ true
  text : w.text ≡ b ++ begun name attributes
  tag : IsTag (tag_of name attributes)

-- what calls write: up to the end of the root, and blanks behind it
record Suffix (w : Written) (calls : List Call) (names : List (List ℕ)) : Type 0 where
  rest : List ℕ
  after : List ℕ
  blank : list_all is_blank after ≡ true
  text : (wrote w calls).text ≡ w.text ++ (rest ++ after)
  content : Content names rest (joined_runs (meant_in names calls))

record TagSuffix (w : Written) (calls : List Call) (b : List ℕ) (outer : List (List ℕ)) (name : List ℕ) (attributes : List Attribute) : Type 0 where
  rest : List ℕ
  after : List ℕ
  blank : list_all is_blank after ≡ true
  text : (wrote w calls).text ≡ b ++ (rest ++ after)
  headed : Headed outer rest (joined_runs (Opens name (map pair attributes ++ leading calls) ∷ meant_in (name ∷ outer) calls))

-- a text in front of what calls write is the begin of it
regroup : (a part rest after : List ℕ) → a ++ (part ++ (rest ++ after)) ≡ a ++ ((part ++ rest) ++ after)
regroup a part rest after = ap (λ x. a ++ x) (sym (append_assoc part rest after))

inside_is : (w : Written) (names : List (List ℕ)) → w.elements ≡ stacked names → is_inside w ≡ some names
inside_is w names e = inside_by w.elements names e

-- an element begins, where none is open and none was written
no_more : (w : Written) → w.rooted ≡ true → w.elements ≡ stacked [] → may_open w ≡ true → ⊥
no_more w h e m =
    let f : is_inside w ≡ false = inside_is w [] e in
    let g : not w.rooted ≡ true = sym (if_false (is_inside w) (nat_lt (length w.elements) MAX_XMI_NESTING) (not w.rooted) f) ∙ m in
    true≢false (sym g ∙ ap not h)

deep : (w : Written) (n : List ℕ) (names : List (List ℕ)) → w.elements ≡ stacked (n ∷ names) → may_open w ≡ true → length (n ∷ names) < MAX_XMI_NESTING
deep w n names e m =
    let t : is_inside w ≡ true = inside_is w (n ∷ names) e in
    let g : nat_lt (length w.elements) MAX_XMI_NESTING ≡ true = sym (if_true (is_inside w) (nat_lt (length w.elements) MAX_XMI_NESTING) (not w.rooted) t) ∙ m in
    omega (arith, ltb-true (length w.elements) MAX_XMI_NESTING g, ap length e, length-stacked (n ∷ names))

tagging_opened : (w : Written) (name : List ℕ) (b : List ℕ) (outer : List (List ℕ)) → w.elements ≡ stacked outer → w.text ++ tag_end (is_tag w.names) ≡ b → is_name name ≡ true → Tagging (opened w name) b outer name []
unfolding stacked names_in
tagging_opened w name b outer e t i = record {
  elements = ap (λ x. x ++ name ∷ []) e;
  names = refl;
  rooted = refl;
  text = ap (λ x. w.text ++ x) (append_assoc (tag_end (is_tag w.names)) (60 ∷ []) name)
      ∙ sym (append_assoc w.text (tag_end (is_tag w.names)) (60 ∷ name))
      ∙ ap (λ x. x ++ 60 ∷ name) t
      ∙ ap (λ x. b ++ 60 ∷ x) (sym (append-nil name));
  tag = record { name = i; attributes = tt; blanks = refl };
}

said_again : (es : List Event) → joined_runs es ≡ joined_runs (Says [] ∷ es)
said_again es = sym (say_none (joined_runs es))

-- behind characters
abbrev with_some : Written → ℕ → List ℕ → Written
with_some w c cs = record { text = w.text ++ (tag_end (is_tag w.names) ++ escaped (c ∷ cs)); rooted = w.rooted; elements = w.elements; names = None }

data_some : (w : Written) (c : ℕ) (cs : List ℕ) → with_data w (c ∷ cs) ≡ with_some w c cs
data_some w c cs = if_false (length (c ∷ cs) == 0) w (with_some w c cs) (ne_eqb (length (c ∷ cs)) 0 (λ x. omega arith))

-- ## calls where no start tag is open

open_between : (w : Written) (calls : List Call) (n name : List ℕ) (names : List (List ℕ)) → Between w (n ∷ names) → may_open w ≡ true → TagSuffix (opened w name) calls w.text (n ∷ names) name [] → Suffix w (Open name ∷ calls) (n ∷ names)
open_between w calls n name names s m r = record { rest = r.rest; after = r.after; blank = r.blank; text = r.text; content = inside n names r.rest _ (deep w n names s.elements m) r.headed }

none_between : (w : Written) (calls : List Call) (names : List (List ℕ)) → Suffix w calls names → Suffix w (Data [] ∷ calls) names
none_between w calls names r = record { rest = r.rest; after = r.after; blank = r.blank; text = r.text; content = subst (Content names r.rest) (said_again (meant_in names calls)) r.content }

data_between : (w : Written) (calls : List Call) (n : List ℕ) (names : List (List ℕ)) (c : ℕ) (cs : List ℕ) → Between w (n ∷ names) → is_storable_text (c ∷ cs) ≡ true → Suffix (with_some w c cs) calls (n ∷ names) → Suffix w (Data (c ∷ cs) ∷ calls) (n ∷ names)
data_between w calls n names c cs s e r = record {
  rest = escaped (c ∷ cs) ++ r.rest;
  after = r.after;
  blank = r.blank;
  text = ap (λ x. (wrote x calls).text) (data_some w c cs) ∙ r.text
      ∙ ap (λ o. (w.text ++ (tag_end (is_tag o) ++ escaped (c ∷ cs))) ++ (r.rest ++ r.after)) s.none
      ∙ append_assoc w.text (escaped (c ∷ cs)) (r.rest ++ r.after)
      ∙ regroup w.text (escaped (c ∷ cs)) r.rest r.after;
  content = spell n names r.rest (joined_runs (meant_in (n ∷ names) calls)) (c ∷ cs) e r.content;
}

-- a line's end in an element
line_between : (w : Written) (calls : List Call) (n : List ℕ) (names : List (List ℕ)) (depth : ℕ) → Between w (n ∷ names) → Suffix (with_line w depth) calls (n ∷ names) → Suffix w (Line depth ∷ calls) (n ∷ names)
line_between w calls n names depth s r = record {
  rest = line_end depth ++ r.rest;
  after = r.after;
  blank = r.blank;
  text = r.text
      ∙ ap (λ o. (w.text ++ (tag_end (is_tag o) ++ line_end depth)) ++ (r.rest ++ r.after)) s.none
      ∙ append_assoc w.text (line_end depth) (r.rest ++ r.after)
      ∙ regroup w.text (line_end depth) r.rest r.after;
  content = lay_line n names r.rest (joined_runs (meant_in (n ∷ names) calls)) depth r.content;
}

-- behind the root stands no piece
no_pieces : (pieces : List Piece) → Closing [] pieces → texts pieces ≡ []
no_pieces [] k = refl
no_pieces (piece ∷ pieces) k = absurd k

blank_spaces : (count : ℕ) (text : List ℕ) → list_all is_blank text ≡ true → list_all is_blank (replicate count 32 ++ text) ≡ true
blank_spaces zero text e = e
blank_spaces (suc count) text e = and_from (is_blank 32) (list_all is_blank (replicate count 32 ++ text)) refl (blank_spaces count text e)

blank_line : (depth : ℕ) (text : List ℕ) → list_all is_blank text ≡ true → list_all is_blank (line_end depth ++ text) ≡ true
blank_line depth text e = and_from (is_blank 10) (list_all is_blank (replicate (2 * depth) 32 ++ text)) refl (blank_spaces (2 * depth) text e)

-- a line's end behind the root
line_behind : (w : Written) (calls : List Call) (depth : ℕ) → Between w [] → Suffix (with_line w depth) calls [] → Suffix w (Line depth ∷ calls) []
line_behind w calls depth s r =
    let none : r.rest ≡ [] = sym r.content.text ∙ no_pieces r.content.pieces r.content.closing in
    record {
      rest = r.rest;
      after = line_end depth ++ r.after;
      blank = blank_line depth r.after r.blank;
      text = r.text
          ∙ ap (λ o. (w.text ++ (tag_end (is_tag o) ++ line_end depth)) ++ (r.rest ++ r.after)) s.none
          ∙ append_assoc w.text (line_end depth) (r.rest ++ r.after)
          ∙ ap (λ x. w.text ++ (line_end depth ++ (x ++ r.after))) none
          ∙ ap (λ x. w.text ++ (x ++ (line_end depth ++ r.after))) (sym none);
      content = r.content;
    }

end_text : (w : Written) (n : List ℕ) (names : List (List ℕ)) → Between w (n ∷ names) → element_end (is_tag w.names) w.elements ≡ 60 ∷ 47 ∷ (n ++ 62 ∷ [])
end_text w n names s =
    ap (λ o. element_end (is_tag o) w.elements) s.none
    ∙ ap (λ o. 60 ∷ 47 ∷ (named o ++ 62 ∷ [])) (innermost_by w.elements names n s.elements)

close_between : (w : Written) (calls : List Call) (n : List ℕ) (names : List (List ℕ)) → Between w (n ∷ names) → Suffix (closed w) calls names → Suffix w (Close ∷ calls) (n ∷ names)
close_between w calls n names s r = record {
  rest = (60 ∷ 47 ∷ (n ++ 62 ∷ [])) ++ r.rest;
  after = r.after;
  blank = r.blank;
  text = r.text ∙ ap (λ x. (w.text ++ x) ++ (r.rest ++ r.after)) (end_text w n names s)
      ∙ append_assoc w.text (60 ∷ 47 ∷ (n ++ 62 ∷ [])) (r.rest ++ r.after)
      ∙ regroup w.text (60 ∷ 47 ∷ (n ++ 62 ∷ [])) r.rest r.after;
  content = record {
    pieces = EndTag n [] ∷ r.content.pieces;
    text = ap (λ x. (60 ∷ 47 ∷ (n ++ 62 ∷ [])) ++ x) r.content.text;
    closing = (refl, refl, r.content.closing);
    runs = r.content.runs;
    said = ap (λ x. Closes ∷ x) r.content.said;
  };
}

between_closed : (w : Written) (n : List ℕ) (names : List (List ℕ)) → w.elements ≡ stacked (n ∷ names) → w.rooted ≡ true → 0 < length w.text → Between (closed w) names
between_closed w n names e r h = record {
  elements = front_by w.elements names n e;
  none = refl;
  rooted = r;
  some_text = omega (arith, length-append w.text (element_end (is_tag w.names) w.elements));
}

between_some : (w : Written) (names : List (List ℕ)) (c : ℕ) (cs : List ℕ) → w.elements ≡ stacked names → w.rooted ≡ true → 0 < length w.text → Between (with_some w c cs) names
between_some w names c cs e r h = record {
  elements = e;
  none = refl;
  rooted = r;
  some_text = omega (arith, length-append w.text (tag_end (is_tag w.names) ++ escaped (c ∷ cs)));
}

between_line : (w : Written) (names : List (List ℕ)) (depth : ℕ) → w.elements ≡ stacked names → w.rooted ≡ true → 0 < length w.text → Between (with_line w depth) names
between_line w names depth e r h = record {
  elements = e;
  none = refl;
  rooted = r;
  some_text = omega (arith, length-append w.text (tag_end (is_tag w.names) ++ line_end depth));
}

-- the declaration comes before all else
no_declaration : (w : Written) → 0 < length w.text → is_empty w ≡ true → ⊥
no_declaration w h e = omega (arith, eqb-true (length w.text) 0 e)

all_between : (w : Written) (names : List (List ℕ)) → Between w names → is_whole w ≡ true → Suffix w [] names
all_between w [] s e = record {
  rest = [];
  after = [];
  blank = refl;
  text = sym (append-nil w.text);
  content = record { pieces = []; text = refl; closing = tt; runs = refl; said = refl };
}
all_between w (n ∷ names) s e =
    let p = and_parts (not (is_inside w)) w.rooted e in
    absurd (true≢false (sym (inside_is w (n ∷ names) s.elements) ∙ not-true (is_inside w) p.0))

no_attr : (w : Written) (name : List ℕ) → w.names ≡ None → may_attr w name ≡ true → ⊥
no_attr w name e m = true≢false (sym m ∙ ap (λ o. is_new o name) e)

not_inside : (w : Written) → w.elements ≡ stacked [] → is_inside w ≡ true → ⊥
not_inside w e t = true≢false (sym t ∙ inside_is w [] e)

-- ## calls where a start tag is open

tagging_some : (w : Written) (b : List ℕ) (outer : List (List ℕ)) (name : List ℕ) (attributes : List Attribute) → Tagging w b outer name attributes → 0 < length w.text
tagging_some w b outer name attributes t = omega (arith, ap length t.text, length-append b (begun name attributes))

no_attributes : (name : List ℕ) (attributes : List Attribute) (es : List Event) → Opens name (map pair attributes) ∷ es ≡ Opens name (map pair attributes ++ []) ∷ es
no_attributes name attributes es = ap (λ x. Opens name x ∷ es) (sym (append-nil (map pair attributes)))

open_tagging : (w : Written) (calls : List Call) (b : List ℕ) (outer : List (List ℕ)) (name m : List ℕ) (attributes : List Attribute) → Tagging w b outer name attributes → may_open w ≡ true → TagSuffix (opened w m) calls (w.text ++ 62 ∷ []) (name ∷ outer) m [] → TagSuffix w (Open m ∷ calls) b outer name attributes
open_tagging w calls b outer name m attributes t o r = record {
  rest = begun name attributes ++ 62 ∷ r.rest;
  after = r.after;
  blank = r.blank;
  text = r.text ∙ append_assoc w.text (62 ∷ []) (r.rest ++ r.after) ∙ ap (λ x. x ++ 62 ∷ (r.rest ++ r.after)) t.text
      ∙ append_assoc b (begun name attributes) (62 ∷ (r.rest ++ r.after))
      ∙ regroup b (begun name attributes) (62 ∷ r.rest) r.after;
  headed = subst (Headed outer (begun name attributes ++ 62 ∷ r.rest)) (no_attributes name attributes (Opens m (leading calls) ∷ joined_runs (meant_in (m ∷ name ∷ outer) calls)))
      (start_tag outer name attributes r.rest (Opens m (leading calls) ∷ joined_runs (meant_in (m ∷ name ∷ outer) calls)) t.tag
      (inside name outer r.rest (Opens m (leading calls) ∷ joined_runs (meant_in (m ∷ name ∷ outer) calls)) (deep w name outer t.elements o) r.headed));
}

none_tagging : (w : Written) (calls : List Call) (b : List ℕ) (outer : List (List ℕ)) (name : List ℕ) (attributes : List Attribute) → TagSuffix w calls b outer name attributes → TagSuffix w (Data [] ∷ calls) b outer name attributes
none_tagging w calls b outer name attributes r = record {
  rest = r.rest;
  after = r.after;
  blank = r.blank;
  text = r.text;
  headed = subst (Headed outer r.rest) (ap (λ x. Opens name (map pair attributes ++ leading calls) ∷ x) (said_again (meant_in (name ∷ outer) calls))) r.headed;
}

-- characters end the start tag that is open
tagged_text : (w : Written) (b : List ℕ) (outer : List (List ℕ)) (name : List ℕ) (attributes : List Attribute) (part rest after : List ℕ) → Tagging w b outer name attributes → (w.text ++ (tag_end (is_tag w.names) ++ part)) ++ (rest ++ after) ≡ b ++ ((begun name attributes ++ 62 ∷ (part ++ rest)) ++ after)
tagged_text w b outer name attributes part rest after t =
    ap (λ o. (w.text ++ (tag_end (is_tag o) ++ part)) ++ (rest ++ after)) t.names
    ∙ append_assoc w.text (62 ∷ part) (rest ++ after)
    ∙ ap (λ x. x ++ 62 ∷ (part ++ (rest ++ after))) t.text
    ∙ append_assoc b (begun name attributes) (62 ∷ (part ++ (rest ++ after)))
    ∙ ap (λ x. b ++ (begun name attributes ++ 62 ∷ x)) (sym (append_assoc part rest after))
    ∙ regroup b (begun name attributes) (62 ∷ (part ++ rest)) after

data_tagging : (w : Written) (calls : List Call) (b : List ℕ) (outer : List (List ℕ)) (name : List ℕ) (attributes : List Attribute) (c : ℕ) (cs : List ℕ) → Tagging w b outer name attributes → is_storable_text (c ∷ cs) ≡ true → Suffix (with_some w c cs) calls (name ∷ outer) → TagSuffix w (Data (c ∷ cs) ∷ calls) b outer name attributes
data_tagging w calls b outer name attributes c cs t e r =
    let text : List ℕ = escaped (c ∷ cs) ++ r.rest in
    record {
      rest = begun name attributes ++ 62 ∷ text;
      after = r.after;
      blank = r.blank;
      text = ap (λ x. (wrote x calls).text) (data_some w c cs) ∙ r.text ∙ tagged_text w b outer name attributes (escaped (c ∷ cs)) r.rest r.after t;
      headed = subst (Headed outer (begun name attributes ++ 62 ∷ text)) (no_attributes name attributes (say (c ∷ cs) (joined_runs (meant_in (name ∷ outer) calls))))
          (start_tag outer name attributes text (say (c ∷ cs) (joined_runs (meant_in (name ∷ outer) calls))) t.tag (spell name outer r.rest (joined_runs (meant_in (name ∷ outer) calls)) (c ∷ cs) e r.content));
    }

line_tagging : (w : Written) (calls : List Call) (b : List ℕ) (outer : List (List ℕ)) (name : List ℕ) (attributes : List Attribute) (depth : ℕ) → Tagging w b outer name attributes → Suffix (with_line w depth) calls (name ∷ outer) → TagSuffix w (Line depth ∷ calls) b outer name attributes
line_tagging w calls b outer name attributes depth t r =
    let text : List ℕ = line_end depth ++ r.rest in
    record {
      rest = begun name attributes ++ 62 ∷ text;
      after = r.after;
      blank = r.blank;
      text = r.text ∙ tagged_text w b outer name attributes (line_end depth) r.rest r.after t;
      headed = subst (Headed outer (begun name attributes ++ 62 ∷ text)) (no_attributes name attributes (say (line_end depth) (joined_runs (meant_in (name ∷ outer) calls))))
          (start_tag outer name attributes text (say (line_end depth) (joined_runs (meant_in (name ∷ outer) calls))) t.tag (lay_line name outer r.rest (joined_runs (meant_in (name ∷ outer) calls)) depth r.content));
    }

close_tagging : (w : Written) (calls : List Call) (b : List ℕ) (outer : List (List ℕ)) (name : List ℕ) (attributes : List Attribute) → Tagging w b outer name attributes → Suffix (closed w) calls outer → TagSuffix w (Close ∷ calls) b outer name attributes
close_tagging w calls b outer name attributes t r = record {
  rest = begun name attributes ++ 47 ∷ 62 ∷ r.rest;
  after = r.after;
  blank = r.blank;
  text = r.text
      ∙ ap (λ o. (w.text ++ element_end (is_tag o) w.elements) ++ (r.rest ++ r.after)) t.names
      ∙ append_assoc w.text (47 ∷ 62 ∷ []) (r.rest ++ r.after)
      ∙ ap (λ x. x ++ 47 ∷ 62 ∷ (r.rest ++ r.after)) t.text
      ∙ append_assoc b (begun name attributes) (47 ∷ 62 ∷ (r.rest ++ r.after))
      ∙ regroup b (begun name attributes) (47 ∷ 62 ∷ r.rest) r.after;
  headed = subst (Headed outer (begun name attributes ++ 47 ∷ 62 ∷ r.rest)) (no_attributes name attributes (Closes ∷ joined_runs (meant_in outer calls)))
      (empty_tag outer name attributes r.rest (joined_runs (meant_in outer calls)) t.tag r.content);
}

new_name : (w : Written) (names : List (List ℕ)) (name : List ℕ) → w.names ≡ Some names → may_attr w name ≡ true → has names name ≡ false
new_name w names name e m = not-true (has names name) (sym (ap (λ o. is_new o name) e) ∙ m)

tagging_attr : (w : Written) (b : List ℕ) (outer : List (List ℕ)) (name n value : List ℕ) (attributes : List Attribute) (v : Value value) → Tagging w b outer name attributes → is_name n ≡ true → may_attr w n ≡ true → Tagging (with_attr w n value) b outer name (attributes ++ attribute n v.parts ∷ [])
unfolding attribute
tagging_attr w b outer name n value attributes v t i m =
    let a : Attribute = attribute n v.parts in
    record {
      elements = t.elements;
      names = ap (λ o. more_names o n) t.names ∙ ap (λ x. Some x) (sym (names_in-push attributes a));
      rooted = t.rooted;
      text = ap (λ x. x ++ attr_text n value) t.text
          ∙ append_assoc b (begun name attributes) (attr_text n value)
          ∙ ap (λ x. b ++ 60 ∷ x) (append_assoc name (attributes_text attributes) (attr_text n value)
          ∙ ap (λ x. name ++ (attributes_text attributes ++ x)) (sym (attribute_written n value v))
          ∙ ap (λ x. name ++ x) (sym (attributes_text-push attributes a)));
      tag = record {
        name = t.tag.name;
        attributes = attributes_push [] attributes a t.tag.attributes (attribute_fine n value v i) (new_name w (names_in attributes) n t.names m);
        blanks = refl;
      };
    }

attr_tagging : (w : Written) (calls : List Call) (b : List ℕ) (outer : List (List ℕ)) (name n value : List ℕ) (attributes : List Attribute) (v : Value value) → TagSuffix (with_attr w n value) calls b outer name (attributes ++ attribute n v.parts ∷ []) → TagSuffix w (Attr n value ∷ calls) b outer name attributes
attr_tagging w calls b outer name n value attributes v r =
    let a : Attribute = attribute n v.parts in
    let same : map pair (attributes ++ a ∷ []) ++ leading calls ≡ map pair attributes ++ (n, value) ∷ leading calls =
    ap (λ x. x ++ leading calls) (pairs-push attributes a)
    ∙ append_assoc (map pair attributes) (pair a ∷ []) (leading calls)
    ∙ ap (λ x. map pair attributes ++ x ∷ leading calls) (attribute_pair n value v) in
    record { rest = r.rest; after = r.after; blank = r.blank; text = r.text; headed = subst (Headed outer r.rest) (ap (λ x. Opens name x ∷ joined_runs (meant_in (name ∷ outer) calls)) same) r.headed }

none_left : (w : Written) (b : List ℕ) (outer : List (List ℕ)) (name : List ℕ) (attributes : List Attribute) → Tagging w b outer name attributes → is_whole w ≡ true → ⊥
none_left w b outer name attributes t e =
    let p = and_parts (not (is_inside w)) w.rooted e in
    true≢false (sym (inside_is w (name ∷ outer) t.elements) ∙ not-true (is_inside w) p.0)

tagging_behind : (w : Written) (names : List (List ℕ)) (name : List ℕ) → Between w names → is_name name ≡ true → Tagging (opened w name) w.text names name []
tagging_behind w names name s i = tagging_opened w name w.text names s.elements (ap (λ o. w.text ++ tag_end (is_tag o)) s.none ∙ append-nil w.text) i

tagging_in : (w : Written) (b : List ℕ) (outer : List (List ℕ)) (name m : List ℕ) (attributes : List Attribute) → Tagging w b outer name attributes → is_name m ≡ true → Tagging (opened w m) (w.text ++ 62 ∷ []) (name ∷ outer) m []
tagging_in w b outer name m attributes t i = tagging_opened w m (w.text ++ 62 ∷ []) (name ∷ outer) t.elements (ap (λ o. w.text ++ tag_end (is_tag o)) t.names) i

mutual
  content_of : (calls : List Call) (w : Written) (names : List (List ℕ)) → Between w names → AllMay w calls → is_whole (wrote w calls) ≡ true → Suffix w calls names
  content_of [] w names s m e = all_between w names s e
  content_of (Open name ∷ calls) w [] s m e = absurd (no_more w s.rooted s.elements m.0.2)
  content_of (Open name ∷ calls) w (n ∷ names) s m e =
      open_between w calls n name names s m.0.2 (tag_suffix calls (opened w name) w.text (n ∷ names) name [] (tagging_behind w (n ∷ names) name s m.0.1) m.1 e)
  content_of (Attr name value ∷ calls) w names s m e = absurd (no_attr w name s.none m.0.4)
  content_of (Data [] ∷ calls) w names s m e = none_between w calls names (content_of calls w names s m.1 e)
  content_of (Data (c ∷ cs) ∷ calls) w [] s m e = absurd (not_inside w s.elements m.0.2)
  content_of (Data (c ∷ cs) ∷ calls) w (n ∷ names) s m e =
      data_between w calls n names c cs s m.0.1
      (content_of calls (with_some w c cs) (n ∷ names) (between_some w (n ∷ names) c cs s.elements s.rooted s.some_text)
      (subst (λ x. AllMay x calls) (data_some w c cs) m.1) (subst (λ x. is_whole (wrote x calls) ≡ true) (data_some w c cs) e))
  content_of (Close ∷ calls) w [] s m e = absurd (not_inside w s.elements m.0)
  content_of (Close ∷ calls) w (n ∷ names) s m e =
      close_between w calls n names s (content_of calls (closed w) names (between_closed w n names s.elements s.rooted s.some_text) m.1 e)
  content_of (Declare ∷ calls) w names s m e = absurd (no_declaration w s.some_text m.0)
  content_of (Line depth ∷ calls) w [] s m e =
      line_behind w calls depth s (content_of calls (with_line w depth) [] (between_line w [] depth s.elements s.rooted s.some_text) m.1 e)
  content_of (Line depth ∷ calls) w (n ∷ names) s m e =
      line_between w calls n names depth s (content_of calls (with_line w depth) (n ∷ names) (between_line w (n ∷ names) depth s.elements s.rooted s.some_text) m.1 e)

  tag_suffix : (calls : List Call) (w : Written) (b : List ℕ) (outer : List (List ℕ)) (name : List ℕ) (attributes : List Attribute) → Tagging w b outer name attributes → AllMay w calls → is_whole (wrote w calls) ≡ true → TagSuffix w calls b outer name attributes
  tag_suffix [] w b outer name attributes t m e = absurd (none_left w b outer name attributes t e)
  tag_suffix (Open n ∷ calls) w b outer name attributes t m e =
      open_tagging w calls b outer name n attributes t m.0.2
      (tag_suffix calls (opened w n) (w.text ++ 62 ∷ []) (name ∷ outer) n [] (tagging_in w b outer name n attributes t m.0.1) m.1 e)
  tag_suffix (Attr n value ∷ calls) w b outer name attributes t m e =
      let v = spell_value value m.0.3 in
      attr_tagging w calls b outer name n value attributes v
      (tag_suffix calls (with_attr w n value) b outer name (attributes ++ attribute n v.parts ∷ []) (tagging_attr w b outer name n value attributes v t m.0.2 m.0.4) m.1 e)
  tag_suffix (Data [] ∷ calls) w b outer name attributes t m e = none_tagging w calls b outer name attributes (tag_suffix calls w b outer name attributes t m.1 e)
  tag_suffix (Data (c ∷ cs) ∷ calls) w b outer name attributes t m e =
      data_tagging w calls b outer name attributes c cs t m.0.1
      (content_of calls (with_some w c cs) (name ∷ outer) (between_some w (name ∷ outer) c cs t.elements t.rooted (tagging_some w b outer name attributes t))
      (subst (λ x. AllMay x calls) (data_some w c cs) m.1) (subst (λ x. is_whole (wrote x calls) ≡ true) (data_some w c cs) e))
  tag_suffix (Close ∷ calls) w b outer name attributes t m e =
      close_tagging w calls b outer name attributes t
      (content_of calls (closed w) outer (between_closed w name outer t.elements t.rooted (tagging_some w b outer name attributes t)) m.1 e)
  tag_suffix (Declare ∷ calls) w b outer name attributes t m e = absurd (no_declaration w (tagging_some w b outer name attributes t) m.0)
  tag_suffix (Line depth ∷ calls) w b outer name attributes t m e =
      line_tagging w calls b outer name attributes depth t
      (content_of calls (with_line w depth) (name ∷ outer) (between_line w (name ∷ outer) depth t.elements t.rooted (tagging_some w b outer name attributes t)) m.1 e)

-- ## the text is of characters

AllScalars : List (List ℕ) → Type 0
AllScalars [] = Unit {0}
AllScalars (name ∷ names) = (scalars name ≡ true) × AllScalars names

pub scalars-append : (xs ys : List ℕ) → scalars xs ≡ true → scalars ys ≡ true → scalars (xs ++ ys) ≡ true
scalars-append [] ys e f = f
scalars-append (x ∷ xs) ys e f =
    let p = and_parts (utf8.scalar x) (scalars xs) e in
    and_from (utf8.scalar x) (scalars (xs ++ ys)) p.0 (scalars-append xs ys p.1 f)

names_push : (names : List (List ℕ)) (name : List ℕ) → AllScalars names → scalars name ≡ true → AllScalars (names ++ name ∷ [])
unfolding AllScalars
names_push [] name a e = (e, tt)
names_push (n ∷ names) name a e = (a.0, names_push names name a.1 e)

names_take : (i : ℕ) (names : List (List ℕ)) → AllScalars names → AllScalars (take i names)
unfolding AllScalars
names_take zero names a = tt
names_take (suc i) [] a = tt
names_take (suc i) (n ∷ names) a = (a.0, names_take i names a.1)

named_scalars : (names : List (List ℕ)) (i : ℕ) → AllScalars names → scalars (named (slice_get names i)) ≡ true
unfolding AllScalars
named_scalars [] i a = refl
named_scalars (n ∷ names) zero a = a.0
named_scalars (n ∷ names) (suc i) a = named_scalars names i a.1

escaped_one : (c : ℕ) → utf8.scalar c ≡ true → scalars (escaped_character c) ≡ true
escaped_one c e = elim (spelling c) [
  | inl x ↦ x.characters
  | inr w ↦ ap scalars w.text ∙ and_from (utf8.scalar c) true e refl
]

escaped_scalars : (cs : List ℕ) → scalars cs ≡ true → scalars (escaped cs) ≡ true
escaped_scalars [] e = refl
escaped_scalars (c ∷ cs) e =
    let p = and_parts (utf8.scalar c) (scalars cs) e in
    scalars-append (escaped_character c) (escaped cs) (escaped_one c p.0) (escaped_scalars cs p.1)

end_scalars : (b : Bool) → scalars (tag_end b) ≡ true
end_scalars true = refl
end_scalars false = refl

element_scalars : (b : Bool) (names : List (List ℕ)) → AllScalars names → scalars (element_end b names) ≡ true
element_scalars true names a = refl
element_scalars false names a = scalars-append (named (slice_get names (length names - 1))) (62 ∷ []) (named_scalars names (length names - 1) a) refl

space_scalars : (count : ℕ) → scalars (replicate count 32) ≡ true
space_scalars zero = refl
space_scalars (suc count) = and_from (utf8.scalar 32) (scalars (replicate count 32)) refl (space_scalars count)

line_scalars : (depth : ℕ) → scalars (line_end depth) ≡ true
line_scalars depth = and_from (utf8.scalar 10) (scalars (replicate (2 * depth) 32)) refl (space_scalars (2 * depth))

record Scalar (w : Written) : Type 0 where
  names : AllScalars w.elements
  text : scalars w.text ≡ true

behind_scalar : (w : Written) (call : Call) → Scalar w → May w call → Scalar (after_call w call)
behind_scalar w (Open name) s m = record {
  names = names_push w.elements name s.names m.0;
  text = scalars-append w.text (tag_end (is_tag w.names) ++ 60 ∷ [] ++ name) s.text
      (scalars-append (tag_end (is_tag w.names) ++ 60 ∷ []) name (scalars-append (tag_end (is_tag w.names)) (60 ∷ []) (end_scalars (is_tag w.names)) refl) m.0);
}
behind_scalar w (Attr name value) s m = record {
  names = s.names;
  text = scalars-append w.text (attr_text name value) s.text
      (scalars-append (32 ∷ [] ++ name ++ 61 ∷ [] ++ 34 ∷ [] ++ escaped value) (34 ∷ [])
      (scalars-append (32 ∷ [] ++ name ++ 61 ∷ [] ++ 34 ∷ []) (escaped value)
      (scalars-append (32 ∷ [] ++ name ++ 61 ∷ []) (34 ∷ []) (scalars-append (32 ∷ [] ++ name) (61 ∷ []) m.0 refl) refl) (escaped_scalars value m.1))
      refl);
}
behind_scalar w (Data []) s m = s
behind_scalar w (Data (c ∷ cs)) s m =
    subst Scalar (sym (data_some w c cs))
    (record {
      names = s.names;
      text = scalars-append w.text (tag_end (is_tag w.names) ++ escaped (c ∷ cs)) s.text
          (scalars-append (tag_end (is_tag w.names)) (escaped (c ∷ cs)) (end_scalars (is_tag w.names)) (escaped_scalars (c ∷ cs) m.0));
    })
behind_scalar w Close s m = record {
  names = names_take (length w.elements - 1) w.elements s.names;
  text = scalars-append w.text (element_end (is_tag w.names) w.elements) s.text (element_scalars (is_tag w.names) w.elements s.names);
}
behind_scalar w Declare s m = record { names = s.names; text = scalars-append w.text declaration s.text refl }
behind_scalar w (Line depth) s m = record {
  names = s.names;
  text = scalars-append w.text (tag_end (is_tag w.names) ++ line_end depth) s.text
      (scalars-append (tag_end (is_tag w.names)) (line_end depth) (end_scalars (is_tag w.names)) (line_scalars depth));
}

wrote_scalar : (w : Written) (calls : List Call) → Scalar w → AllMay w calls → Scalar (wrote w calls)
wrote_scalar w [] s m = s
wrote_scalar w (call ∷ calls) s m = wrote_scalar (after_call w call) calls (behind_scalar w call s m.0) m.1

-- ## before the root

-- nothing but a declaration and blanks was written
record Leads (w : Written) : Type 0 where
  before : List Piece
  around : AllAround before
  text : texts before ≡ w.text
  elements : w.elements ≡ stacked []
  none : w.names ≡ None
  rootless : w.rooted ≡ false

around_push : (before : List Piece) (piece : Piece) → AllAround before → IsAround piece → AllAround (before ++ piece ∷ [])
around_push [] piece a i = (i, tt)
around_push (p ∷ before) piece a i = (a.0, around_push before piece a.1 i)

texts_push : (before : List Piece) (piece : Piece) → texts (before ++ piece ∷ []) ≡ texts before ++ piece_text piece
texts_push [] piece = append-nil (piece_text piece)
texts_push (p ∷ before) piece = ap (λ x. piece_text p ++ x) (texts_push before piece) ∙ sym (append_assoc (piece_text p) (texts before) (piece_text piece))

-- the declaration as an instruction
abbrev declares : Piece
declares = Instruction (codes "xml") (codes " version=\"1.0\" encoding=\"UTF-8\"")

declares_fine : IsAround declares
declares_fine = record { named = refl; longest = refl; up_to = (refl, refl) }

leads_declared : (w : Written) → Leads w → Leads (declared w)
leads_declared w l = record {
  before = l.before ++ declares ∷ [];
  around = around_push l.before declares l.around declares_fine;
  text = texts_push l.before declares ∙ ap (λ x. x ++ declaration) l.text;
  elements = l.elements;
  none = l.none;
  rootless = l.rootless;
}

leads_line : (w : Written) (depth : ℕ) → Leads w → Leads (with_line w depth)
leads_line w depth l = record {
  before = l.before ++ Characters (line_end depth) ∷ [];
  around = around_push l.before (Characters (line_end depth)) l.around (ap (list_all is_blank) (sym (append-nil (line_end depth))) ∙ blank_line depth [] refl);
  text = texts_push l.before (Characters (line_end depth)) ∙ ap (λ x. x ++ line_end depth) l.text ∙ ap (λ o. w.text ++ (tag_end (is_tag o) ++ line_end depth)) (sym l.none);
  elements = l.elements;
  none = refl;
  rootless = l.rootless;
}

-- the document that calls write
record Wrote (w : Written) (calls : List Call) : Type 0 where
  document : Document
  whole : IsDocument document
  text : (wrote w calls).text ≡ document_text document
  tree : Tree
  said : joined_runs (meant_in [] calls) ≡ events tree
  means : joined_runs (all_said (document.root ∷ document.inner)) ≡ events tree

root_of : (calls : List Call) (w : Written) (name : List ℕ) → (l : Leads w) → TagSuffix (opened w name) calls w.text [] name [] → Wrote w (Open name ∷ calls)
root_of calls w name l t =
    let h = t.headed in
    let tree = has_tree h.root h.inner h.is_root h.closing in
    record {
      document = record { marked = false; before = l.before; root = h.root; inner = h.inner; after = Characters t.after ∷ [] };
      whole = record { before = l.around; root = h.is_root; inner = h.closing; runs = h.runs; after = (t.blank, tt) };
      text = t.text ∙ ap₂ (λ (x y : List ℕ). x ++ (y ++ t.after)) (sym l.text) (sym h.text) ∙ ap (λ x. texts l.before ++ (texts (h.root ∷ h.inner) ++ x)) (sym (append-nil t.after));
      tree = tree.0;
      said = sym h.said ∙ tree.1;
      means = tree.1;
    }

wrote_document : (calls : List Call) (w : Written) → Leads w → AllMay w calls → is_whole (wrote w calls) ≡ true → Wrote w calls
wrote_document [] w l m e =
    let p = and_parts (not (is_inside w)) w.rooted e in
    absurd (true≢false (sym p.1 ∙ l.rootless))
wrote_document (Open name ∷ calls) w l m e =
    let begins : w.text ++ tag_end (is_tag w.names) ≡ w.text = ap (λ o. w.text ++ tag_end (is_tag o)) l.none ∙ append-nil w.text in
    root_of calls w name l (tag_suffix calls (opened w name) w.text [] name [] (tagging_opened w name w.text [] l.elements begins m.0.1) m.1 e)
wrote_document (Attr name value ∷ calls) w l m e = absurd (no_attr w name l.none m.0.4)
wrote_document (Data text ∷ calls) w l m e = absurd (not_inside w l.elements m.0.2)
wrote_document (Close ∷ calls) w l m e = absurd (not_inside w l.elements m.0)
wrote_document (Declare ∷ calls) w l m e =
    let r = wrote_document calls (declared w) (leads_declared w l) m.1 e in
    record { document = r.document; whole = r.whole; text = r.text; tree = r.tree; said = r.said; means = r.means }
wrote_document (Line depth ∷ calls) w l m e =
    let r = wrote_document calls (with_line w depth) (leads_line w depth l) m.1 e in
    record { document = r.document; whole = r.whole; text = r.text; tree = r.tree; said = r.said; means = r.means }

-- ## the law

pub written_markup : (calls : List Call) → AllMay nothing calls → is_whole (wrote nothing calls) ≡ true → (tree : Tree) × (joined_runs (meant calls) ≡ events tree) × Markup (encode_utf8_all (wrote nothing calls).text) tree
unfolding stacked AllScalars
written_markup calls m e =
    let w = wrote_document calls nothing (record { before = []; around = tt; text = refl; elements = refl; none = refl; rootless = refl }) m e in
    let s = wrote_scalar nothing calls (record { names = tt; text = refl }) m in (
      w.tree,
      w.said,
      record {
        document = w.document;
        whole = w.whole;
        scalars = ap scalars (sym w.text) ∙ s.text;
        written = ap encode_utf8_all w.text;
        means = w.means;
      },
    )
