-- The bytes of a document are read as its tree.
use Rattle.std.proofs.Common.{◌≡◌, ℕ, ◌+◌, ◌-◌, ◌<◌, Bool, true, false, List, [], ◌∷◌, ◌++◌, length, take, refl, sym, ◌∙◌, ap, ap₂, subst, arith, None, Some, inl, inr, append_assoc, append-nil, length-append}
use Rattle.std.specs.Prelude.{◌&&◌, not, nat_lt, codes, slice_get}
use Rattle.std.specs.List.{list_all}
use Rattle.std.proofs.Math.Seq.{take-append_seam}
use Rattle.std.proofs.lemmas.Bool.{and_parts, not-true, true≢false, lt-ltb}
use Rattle.std.proofs.lemmas.Str.{encode_ascii, encodes-append}
use lib.Utf8.{encode, encodes, scalars}
use Rattle.mof_metamodel.specs.Characters.{is_blank}
use Rattle.xmi_text.specs.declared.limits.TheConstants.{MAX_XMI_NESTING}
use Rattle.xmi_text.specs.States.{start, complete, cleared, around, front}
use Rattle.xmi_text.specs.Automaton.{step, innermost, end_fault}
use Rattle.xmi_text.specs.Reading.{state_from, marks_from, state_of, marks_of, end_fault_of}
use Rattle.xmi_text.specs.Trees.{Tree, told, Spells}
use Rattle.xmi_text.specs.Places.{Timed, timed, piece_end, size, attrs_at, open_at, tag_marks, run_end, data_at, run_marks, marks_at, timed_marks, document_marks, marks_only}
use Rattle.xmi_text.specs.Places as placed
use Rattle.xmi_text.specs.Markup.{Piece, Characters, Referred, Cdata, Comment, Instruction, StartTag, EmptyTag, EndTag, Reference, reference_text, referred, IsPiece, IsUpTo, IsInstruction, IsAround, AllAround, is_characters, are_apart, starts, open_behind, Fits, Closing, IsRoot, Tag, IsTag, tag_text, piece_text, texts, said, all_said, say, joined_runs, line_ends, is_reference, is_content_character, Document, IsDocument, order_mark, document_text, Markup}
use Rattle.xmi_text.specs.Markup as markup
use Rattle.xmi_text.specs.declared.mark.Attr.{Attr}
use Rattle.xmi_text.specs.declared.mark.Mark.TheVariants as marks
use Rattle.xmi_text.specs.declared.state.State.{State}
use Rattle.xmi_text.specs.declared.state.Mode.TheVariants as modes
use Rattle.xmi_text.specs.declared.state.Within.TheVariants.{Content}
use Rattle.xmi_text.proofs.forward.Placed.{ahead, root_first_mark, told_document}
use Rattle.xmi_text.proofs.forward.Walks.{all_by, timed_from, timed_from-only, Walk, Walk-none, Walk-append, Walk-to}
use Rattle.xmi_text.proofs.forward.Encoded.{at_mode, if_true, Walk-over}
use Rattle.xmi_text.proofs.forward.Stepping.{quiet, content_run, scalars-parts, blank_cases}
use Rattle.xmi_text.proofs.forward.NameSteps.{blank_step, blank_run}
use Rattle.xmi_text.proofs.forward.Asides.{level, comment_walk, instruction_walk, section_walk}
use Rattle.xmi_text.proofs.forward.ValueSteps.{reference_walk}
use Rattle.xmi_text.proofs.forward.TagSteps.{size-append, size-cons, end_text, end_marks, get_seam, Admits, tag_walk, opened, open_end, emptied_tag, slash_walk, empty_end, closed, end_walk}

-- ## open elements

-- the root first
unfoldable pub stacked : List (List ℕ) → List (List ℕ)
stacked [] = []
stacked (name ∷ names) = stacked names ++ name ∷ []

abbrev pub some : List (List ℕ) → Bool
some [] = false
some (name ∷ names) = true

pub length-stacked : (names : List (List ℕ)) → length (stacked names) ≡ length names
unfolding stacked
length-stacked [] = refl
length-stacked (name ∷ names) = omega (arith, length-append (stacked names) (name ∷ []), length-stacked names)

-- the open elements of a state, the innermost first, behind the root's tag
record Stands (s : State) (names : List (List ℕ)) : Type 0 where
  elements : s.elements ≡ stacked names
  rooted : s.rooted ≡ true

pub inside_by : (elements names : List (List ℕ)) → elements ≡ stacked names → nat_lt 0 (length elements) ≡ some names
unfolding stacked
inside_by elements [] e = ap (λ x. nat_lt 0 (length x)) e
inside_by elements (name ∷ names) e = lt-ltb 0 (length elements) (omega (arith, ap length e, length-append (stacked names) (name ∷ [])))

pub innermost_by : (elements names : List (List ℕ)) (name : List ℕ) → elements ≡ stacked (name ∷ names) → innermost elements ≡ Some name
unfolding stacked
innermost_by elements names name e =
    let last : length (stacked names ++ name ∷ []) - 1 ≡ length (stacked names) = omega (arith, length-append (stacked names) (name ∷ [])) in
    ap innermost e ∙ ap (slice_get (stacked names ++ name ∷ [])) last ∙ get_seam (stacked names) name []

pub front_by : (elements names : List (List ℕ)) (name : List ℕ) → elements ≡ stacked (name ∷ names) → front elements ≡ stacked names
unfolding stacked
front_by elements names name e =
    let last : length (stacked names ++ name ∷ []) - 1 ≡ length (stacked names) = omega (arith, length-append (stacked names) (name ∷ [])) in
    ap front e ∙ ap (λ n. take n (stacked names ++ name ∷ [])) last ∙ take-append_seam (stacked names) (name ∷ [])

around_by : (s : State) (names : List (List ℕ)) → s.elements ≡ stacked names → around s ≡ level (some names)
around_by s names e = ap level (inside_by s.elements names e)

-- ## one piece

-- a piece was stepped over, behind characters of a run
record Passed (at : ℕ) (s : State) (names : List (List ℕ)) (run : List ℕ) (r : Bool) (p : Piece) : Type 0 where
  next : State
  left : List ℕ
  returned : Bool
  told : List Timed
  stands : Stands next (open_behind names p)
  walk : Walk at (at_mode (record s { run = run }) (level (some names)) r) (encodes (piece_text p)) told (at_mode (record next { run = left }) (level (some (open_behind names p))) returned)
  means : (ps : List Piece) → ahead s.run_at run at (p ∷ ps) ≡ told ++ ahead next.run_at left (piece_end at p) ps
  fresh : is_characters p ≡ false → returned ≡ false
  out : open_behind names p ≡ [] → left ≡ []

no_names : (name : List ℕ) (names : List (List ℕ)) (xs : List ℕ) → name ∷ names ≡ [] → xs ≡ []
no_names name names xs e = cc

less_walk : (at : ℕ) (s : State) (inside r : Bool) → Walk at (at_mode s (level inside) r) (encode 60) [] (at_mode s (modes.Less at) false)
unfolding encode
less_walk at s true r = record { state = refl; marks = refl }
less_walk at s false r = record { state = refl; marks = refl }

-- characters that a piece adds to the run
joins : (s : State) (run more : List ℕ) (at : ℕ) (ps : List Piece) → data_at s.run_at (run ++ (more ++ placed.run ps)) (run_end at ps) ++ marks_at at ps ≡ ahead s.run_at (run ++ more) at ps
joins s run more at ps = ap (λ (cs : List ℕ). data_at s.run_at cs (run_end at ps) ++ marks_at at ps) (sym (append_assoc run more (placed.run ps)))

characters_piece : (at : ℕ) (s : State) (name : List ℕ) (names : List (List ℕ)) (run : List ℕ) (text : List ℕ) → Stands s (name ∷ names) → scalars text ≡ true → list_all is_content_character text ≡ true → Passed at s (name ∷ names) run false (Characters text)
characters_piece at s name names run text st ok e =
    let c = content_run at (record s { run = run }) false text ok e in
    record {
      next = s;
      left = run ++ line_ends false text;
      returned = c.0;
      told = [];
      stands = st;
      walk = c.1;
      means = λ ps. joins s run (line_ends false text) (piece_end at (Characters text)) ps;
      fresh = λ f. absurd (true≢false f);
      out = no_names name names (run ++ line_ends false text);
    }

reference_piece : (at : ℕ) (s : State) (name : List ℕ) (names : List (List ℕ)) (run : List ℕ) (r : Bool) (reference : Reference) → Stands s (name ∷ names) → is_reference reference ≡ true → Passed at s (name ∷ names) run r (Referred reference)
reference_piece at s name names run r reference st e = record {
  next = s;
  left = run ++ referred reference ∷ [];
  returned = false;
  told = [];
  stands = st;
  walk = reference_walk at (record s { run = run }) Content r reference e;
  means = λ ps. joins s run (referred reference ∷ []) (piece_end at (Referred reference)) ps;
  fresh = λ f. refl;
  out = no_names name names (run ++ referred reference ∷ []);
}

section_piece : (at : ℕ) (s : State) (name : List ℕ) (names : List (List ℕ)) (run : List ℕ) (r : Bool) (text : List ℕ) → Stands s (name ∷ names) → scalars text ≡ true → IsUpTo (codes "]]>") text → Passed at s (name ∷ names) run r (Cdata text)
section_piece at s name names run r text st ok e = record {
  next = s;
  left = run ++ line_ends false text;
  returned = false;
  told = [];
  stands = st;
  walk = section_walk at (record s { run = run }) r text (inside_by s.elements (name ∷ names) st.elements) ok e;
  means = λ ps. joins s run (line_ends false text) (piece_end at (Cdata text)) ps;
  fresh = λ f. refl;
  out = no_names name names (run ++ line_ends false text);
}

comment_piece : (at : ℕ) (s : State) (name : List ℕ) (names : List (List ℕ)) (run : List ℕ) (r : Bool) (text : List ℕ) → Stands s (name ∷ names) → scalars text ≡ true → IsUpTo (codes "-->") text → Passed at s (name ∷ names) run r (Comment text)
comment_piece at s name names run r text st ok e = record {
  next = s;
  left = run;
  returned = false;
  told = [];
  stands = st;
  walk = Walk-to at _ _ _ _ _ _ (ap (λ m. at_mode (record s { run = run }) m false) (around_by s (name ∷ names) st.elements)) refl (comment_walk at (record s { run = run }) true r text ok e);
  means = λ ps. refl;
  fresh = λ f. refl;
  out = no_names name names run;
}

instruction_piece : (at : ℕ) (s : State) (name : List ℕ) (names : List (List ℕ)) (run : List ℕ) (r : Bool) (target text : List ℕ) → Stands s (name ∷ names) → scalars target ≡ true → scalars text ≡ true → IsInstruction target text → Passed at s (name ∷ names) run r (Instruction target text)
instruction_piece at s name names run r target text st ok_target ok e = record {
  next = s;
  left = run;
  returned = false;
  told = [];
  stands = st;
  walk = Walk-to at _ _ _ _ _ _ (ap (λ m. at_mode (record s { run = run }) m false) (around_by s (name ∷ names) st.elements)) refl (instruction_walk at (record s { run = run }) true r target text ok_target ok e);
  means = λ ps. refl;
  fresh = λ f. refl;
  out = no_names name names run;
}

-- ## tags

-- a tag ends the run before it
ended : (from : ℕ) (run : List ℕ) (by : ℕ) (ms rest : List Timed) → data_at from (run ++ []) by ++ (ms ++ rest) ≡ (data_at from run by ++ ms) ++ rest
ended from run by ms rest = ap (λ (cs : List ℕ). data_at from cs by ++ (ms ++ rest)) (append-nil run) ∙ sym (append_assoc (data_at from run by) ms rest)

open_placed : (at : ℕ) (tag : Tag) → attrs_at (at + length (encode 60) + length (encodes tag.name)) tag.attributes ≡ attrs_at (at + size (60 ∷ tag.name)) tag.attributes
open_placed at tag = ap (λ (n : ℕ). attrs_at n tag.attributes) (omega (arith, size-cons 60 tag.name))

name_shown : (at : ℕ) (name : List ℕ) → at + length (encode 60) + length (encodes (take 1 name)) ≡ at + size (60 ∷ take 1 name)
name_shown at name = omega (arith, size-cons 60 (take 1 name))

start_behind : (at : ℕ) (tag : Tag) → at + length (encode 60) + length (encodes (tag_text tag)) + length (encode 62) ≡ piece_end at (StartTag tag)
start_behind at tag = omega (arith, size-cons 60 (tag_text tag ++ 62 ∷ []), size-append (tag_text tag) (62 ∷ []), size-cons 62 [])

empty_behind : (at : ℕ) (tag : Tag) → at + length (encode 60) + length (encodes (tag_text tag)) + length (encode 47) + length (encode 62) ≡ piece_end at (EmptyTag tag)
empty_behind at tag = omega (arith, size-cons 60 (tag_text tag ++ 47 ∷ 62 ∷ []), size-append (tag_text tag) (47 ∷ 62 ∷ []), size-cons 47 (62 ∷ []), size-cons 62 [])

one_byte : length (encode 62) ≡ 1
unfolding encode
one_byte = refl

start_piece : (at : ℕ) (s : State) (names : List (List ℕ)) (run : List ℕ) (r : Bool) (tag : Tag) → s.elements ≡ stacked names → Admits s → scalars (tag_text tag) ≡ true → IsTag tag → Passed at s names run r (StartTag tag)
unfolding stacked
start_piece at s names run r tag e a ok i =
    let l : ℕ = at + length (encode 60) in
    let t = tag_walk l at s run tag ok i a in
    let attrs : List Attr = attrs_at (l + length (encodes tag.name)) tag.attributes in
    let s1 : State = record s { run = []; tag = tag.name; tag_at = at; attrs = attrs; attr = t.last; rooted = true } in
    let m : ℕ = l + length (encodes (tag_text tag)) in
    let ran : List Timed = data_at s.run_at run (l + length (encodes (take 1 tag.name))) in
    let opens : List Timed = timed (m + length (encode 62)) (marks.Open tag.name attrs at) ∷ [] in
    let by : m + 1 ≡ piece_end at (StartTag tag) = omega (arith, start_behind at tag, one_byte) in
    record {
      next = record (opened s1 m) { run_at = piece_end at (StartTag tag) };
      left = [];
      returned = false;
      told = data_at s.run_at run (run_end at (StartTag tag ∷ [])) ++ tag_marks at (StartTag tag);
      stands = record { elements = ap (λ x. x ++ tag.name ∷ []) e; rooted = refl };
      walk = Walk-to at _ _ _ _ _ _ (ap (λ (n : ℕ). at_mode (record (opened s1 m) { run_at = n }) modes.Inside false) by)
          (ap₂ (λ (n : ℕ) (x : Timed). data_at s.run_at run n ++ x ∷ []) (name_shown at tag.name)
          (ap₂ (λ (n : ℕ) (x : List Attr). timed n (marks.Open tag.name x at)) (start_behind at tag) (open_placed at tag)))
          (Walk-append at _ _ _ (encode 60) (encodes (tag_text tag ++ 62 ∷ [])) [] (ran ++ opens) (less_walk at (record s { run = run }) (some names) r)
          (Walk-over l _ _ _ _ _ (encodes-append (tag_text tag) (62 ∷ []))
          (Walk-append l _ _ _ (encodes (tag_text tag)) (encodes (62 ∷ [])) ran opens t.walk
          (Walk-append m _ _ _ (encode 62) [] opens [] (open_end m s1 t.behind) (Walk-none (m + length (encode 62)) (at_mode (opened s1 m) modes.Inside false))))));
      means = λ ps. ended s.run_at run (run_end at (StartTag tag ∷ [])) (tag_marks at (StartTag tag)) (run_marks (piece_end at (StartTag tag)) ps ++ marks_at (piece_end at (StartTag tag)) ps);
      fresh = λ f. refl;
      out = λ f. refl;
    }

empty_piece : (at : ℕ) (s : State) (names : List (List ℕ)) (run : List ℕ) (r : Bool) (tag : Tag) → s.elements ≡ stacked names → Admits s → scalars (tag_text tag) ≡ true → IsTag tag → Passed at s names run r (EmptyTag tag)
empty_piece at s names run r tag e a ok i =
    let l : ℕ = at + length (encode 60) in
    let t = tag_walk l at s run tag ok i a in
    let attrs : List Attr = attrs_at (l + length (encodes tag.name)) tag.attributes in
    let s1 : State = record s { run = []; tag = tag.name; tag_at = at; attrs = attrs; attr = t.last; rooted = true } in
    let m : ℕ = l + length (encodes (tag_text tag)) in
    let n : ℕ = m + length (encode 47) in
    let ran : List Timed = data_at s.run_at run (l + length (encodes (take 1 tag.name))) in
    let both : List Timed = timed (n + length (encode 62)) (marks.Open tag.name attrs at) ∷ timed (n + length (encode 62)) (marks.Close at) ∷ [] in
    let by : n + 1 ≡ piece_end at (EmptyTag tag) = omega (arith, empty_behind at tag, one_byte) in
    record {
      next = record (emptied_tag s1 n) { run_at = piece_end at (EmptyTag tag) };
      left = [];
      returned = false;
      told = data_at s.run_at run (run_end at (EmptyTag tag ∷ [])) ++ tag_marks at (EmptyTag tag);
      stands = record { elements = e; rooted = refl };
      walk = Walk-to at _ _ _ _ _ _ (ap (λ (k : ℕ). at_mode (record (emptied_tag s1 n) { run_at = k }) (level (some names)) false) by)
          (ap₂ (λ (k : ℕ) (x : List Timed). data_at s.run_at run k ++ x) (name_shown at tag.name)
          (ap₂ (λ (k : ℕ) (x : List Attr). timed k (marks.Open tag.name x at) ∷ timed k (marks.Close at) ∷ []) (empty_behind at tag) (open_placed at tag)))
          (Walk-append at _ _ _ (encode 60) (encodes (tag_text tag ++ 47 ∷ 62 ∷ [])) [] (ran ++ both) (less_walk at (record s { run = run }) (some names) r)
          (Walk-over l _ _ _ _ _ (encodes-append (tag_text tag) (47 ∷ 62 ∷ []))
          (Walk-append l _ _ _ (encodes (tag_text tag)) (encodes (47 ∷ 62 ∷ [])) ran both t.walk
          (Walk-append m _ _ _ (encode 47) (encodes (62 ∷ [])) [] both (slash_walk m s1 t.behind)
          (Walk-to n _ _ _ _ _ _ (ap (λ q. at_mode (emptied_tag s1 n) q false) (around_by s1 names e)) refl
          (Walk-append n _ _ _ (encode 62) [] both [] (empty_end n s1) (Walk-none (n + length (encode 62)) (at_mode (emptied_tag s1 n) (around s1) false))))))));
      means = λ ps. ended s.run_at run (run_end at (EmptyTag tag ∷ [])) (tag_marks at (EmptyTag tag)) (run_marks (piece_end at (EmptyTag tag)) ps ++ marks_at (piece_end at (EmptyTag tag)) ps);
      fresh = λ f. refl;
      out = λ f. refl;
    }

same_name : (n name : List ℕ) (names : List (List ℕ)) → markup.innermost (n ∷ names) ≡ Some name → n ≡ name
same_name n name names e = cc

end_piece : (at : ℕ) (s : State) (n : List ℕ) (names : List (List ℕ)) (run : List ℕ) (r : Bool) (name blanks : List ℕ) → Stands s (n ∷ names) → markup.innermost (n ∷ names) ≡ Some name → list_all is_blank blanks ≡ true → Passed at s (n ∷ names) run r (EndTag name blanks)
end_piece at s n names run r name blanks st i b =
    let l : ℕ = at + length (encode 60) in
    let inner : innermost s.elements ≡ Some name = innermost_by s.elements names n st.elements ∙ ap (λ x. Some x) (same_name n name names i) in
    let t = end_walk l at s run name blanks (inside_by s.elements (n ∷ names) st.elements) inner b in
    let left_by : front s.elements ≡ stacked names = front_by s.elements names n st.elements in
    let s1 : State = closed (record s { run = [] }) t.end_at in
    let piece : Piece = EndTag name blanks in
    let ends : t.end_at + length (encode 62) ≡ piece_end at piece = omega (arith, t.ends, size-cons 60 (end_text name blanks)) in
    let by : t.end_at + 1 ≡ piece_end at piece = omega (arith, ends, one_byte) in
    record {
      next = record s1 { run_at = piece_end at piece };
      left = [];
      returned = false;
      told = data_at s.run_at run (run_end at (piece ∷ [])) ++ tag_marks at piece;
      stands = record { elements = left_by; rooted = st.rooted };
      walk = Walk-to at _ _ _ _ _ _ (ap (λ (k : ℕ). at_mode (record s1 { run_at = k }) (level (some names)) false) by)
          (ap₂ (λ (k n : ℕ). data_at s.run_at run k ++ timed n (marks.Close at) ∷ []) (omega (arith, size-cons 60 (47 ∷ []), size-cons 47 [])) ends)
          (Walk-append at _ _ _ (encode 60) (encodes (end_text name blanks)) [] (end_marks l at s.run_at run (t.end_at + length (encode 62))) (less_walk at (record s { run = run }) true r)
          (Walk-to l _ _ _ _ _ _ (ap (λ q. at_mode s1 q false) (around_by s1 names left_by)) refl t.walk));
      means = λ ps. ended s.run_at run (run_end at (piece ∷ [])) (tag_marks at piece) (run_marks (piece_end at piece) ps ++ marks_at (piece_end at piece) ps);
      fresh = λ f. refl;
      out = λ f. refl;
    }

admits_inside : (s : State) (names : List (List ℕ)) (n : List ℕ) → Stands s (n ∷ names) → length (n ∷ names) < MAX_XMI_NESTING → Admits s
admits_inside s names n st h = inl (
  inside_by s.elements (n ∷ names) st.elements,
  lt-ltb (length s.elements) MAX_XMI_NESTING (omega (arith, ap length st.elements, length-stacked (n ∷ names))),
)

one_piece : (at : ℕ) (s : State) (n : List ℕ) (names : List (List ℕ)) (run : List ℕ) (r : Bool) (p : Piece) → Stands s (n ∷ names) → IsPiece p → Fits (n ∷ names) p → scalars (piece_text p) ≡ true → (is_characters p ≡ true → r ≡ false) → Passed at s (n ∷ names) run r p
one_piece at s n names run r (Characters text) st e f ok new = subst (λ q. Passed at s (n ∷ names) run q (Characters text)) (sym (new refl)) (characters_piece at s n names run text st ok e)
one_piece at s n names run r (Referred reference) st e f ok new = reference_piece at s n names run r reference st e
one_piece at s n names run r (Cdata text) st e f ok new =
    section_piece at s n names run r text st (scalars-parts text (codes "]]>") (scalars-parts (codes "<![CDATA[") (text ++ codes "]]>") ok).1).0 e
one_piece at s n names run r (Comment text) st e f ok new =
    comment_piece at s n names run r text st (scalars-parts text (codes "-->") (scalars-parts (codes "<!--") (text ++ codes "-->") ok).1).0 e
one_piece at s n names run r (Instruction target text) st e f ok new =
    let o = scalars-parts target (text ++ codes "?>") (scalars-parts (codes "<?") (target ++ (text ++ codes "?>")) ok).1 in
    instruction_piece at s n names run r target text st o.0 (scalars-parts text (codes "?>") o.1).0 e
one_piece at s n names run r (StartTag tag) st e f ok new =
    start_piece at s (n ∷ names) run r tag st.elements (admits_inside s names n st f) (scalars-parts (tag_text tag) (62 ∷ []) ok).0 e
one_piece at s n names run r (EmptyTag tag) st e f ok new =
    empty_piece at s (n ∷ names) run r tag st.elements (admits_inside s names n st f) (scalars-parts (tag_text tag) (47 ∷ 62 ∷ []) ok).0 e
one_piece at s n names run r (EndTag name blanks) st e f ok new = end_piece at s n names run r name blanks st f e

-- ## the pieces up to the root's end

record Through (at : ℕ) (s : State) (names : List (List ℕ)) (run : List ℕ) (r : Bool) (pieces : List Piece) : Type 0 where
  next : State
  returned : Bool
  stands : Stands next []
  walk : Walk at (at_mode (record s { run = run }) (level (some names)) r) (encodes (texts pieces)) (ahead s.run_at run at pieces) (at_mode next modes.Outside returned)

through : (at : ℕ) (s : State) (names : List (List ℕ)) (run : List ℕ) (r : Bool) (pieces : List Piece) → Stands s names → (names ≡ [] → run ≡ []) → Closing names pieces → scalars (texts pieces) ≡ true → are_apart is_characters pieces ≡ true → (starts is_characters pieces ≡ true → r ≡ false) → Through at s names run r pieces
through at s [] run r [] st out e ok a new = record {
  next = record s { run = run };
  returned = r;
  stands = record { elements = st.elements; rooted = st.rooted };
  walk = Walk-to at _ _ _ _ _ _ refl (sym (ap (λ (x : List ℕ). ahead s.run_at x at []) (out refl))) (Walk-none at (at_mode (record s { run = run }) modes.Outside r));
}
through at s [] run r (p ∷ pieces) st out e ok a new = absurd e
through at s (n ∷ names) run r [] st out e ok a new = absurd e
through at s (n ∷ names) run r (p ∷ pieces) st out e ok a new =
    let o = scalars-parts (piece_text p) (texts pieces) ok in
    let b = and_parts (not (is_characters p && starts is_characters pieces)) (are_apart is_characters pieces) a in
    let one = one_piece at s n names run r p st e.0 e.1 o.0 new in
    let l : ℕ = at + length (encodes (piece_text p)) in
    let apart : starts is_characters pieces ≡ true → one.returned ≡ false = λ x. one.fresh (not_both (is_characters p) (starts is_characters pieces) (not-true (is_characters p && starts is_characters pieces) b.0) x) in
    let more = through l one.next (open_behind (n ∷ names) p) one.left one.returned pieces one.stands one.out e.2 o.1 b.1 apart in
    record {
      next = more.next;
      returned = more.returned;
      stands = more.stands;
      walk = Walk-over at _ _ _ _ _ (encodes-append (piece_text p) (texts pieces))
          (Walk-to at _ _ _ _ _ _ refl (sym (one.means pieces))
          (Walk-append at _ _ _ (encodes (piece_text p)) (encodes (texts pieces)) one.told (ahead one.next.run_at one.left l pieces) one.walk more.walk));
    }
  where
    not_both : (x y : Bool) → (x && y) ≡ false → y ≡ true → x ≡ false
    not_both true y f t = absurd (true≢false (sym t ∙ f))
    not_both false y f t = refl

-- ## around the root

blank_outside : (s : State) (r : Bool) (at c : ℕ) → is_blank c ≡ true → Walk at (at_mode s modes.Outside r) (encode c) [] (at_mode s modes.Outside false)
blank_outside s r at c e = blank_step s modes.Outside modes.Outside r tt (λ q. refl) (λ q. refl) (λ q. refl) (λ q. refl) at c e

blanks_outside : (at : ℕ) (s : State) (r : Bool) (cs : List ℕ) → list_all is_blank cs ≡ true → (k : Bool) × Walk at (at_mode s modes.Outside r) (encodes cs) [] (at_mode s modes.Outside k)
blanks_outside at s r [] e = (r, Walk-none at (at_mode s modes.Outside r))
blanks_outside at s r (c ∷ cs) e = (false, blank_run s modes.Outside modes.Outside r (blank_outside s r) (blank_outside s false) at c cs e)

one_around : (at : ℕ) (s : State) (r : Bool) (p : Piece) → s.elements ≡ [] → IsAround p → scalars (piece_text p) ≡ true → (k : Bool) × Walk at (at_mode s modes.Outside r) (encodes (piece_text p)) [] (at_mode s modes.Outside k)
one_around at s r (Characters text) e i ok = blanks_outside at s r text i
one_around at s r (Comment text) e i ok = (
  false,
  Walk-to at _ _ _ _ _ _ (ap (λ x. at_mode s (level (nat_lt 0 (length x))) false) e) refl
      (comment_walk at s false r text (scalars-parts text (codes "-->") (scalars-parts (codes "<!--") (text ++ codes "-->") ok).1).0 i),
)
one_around at s r (Instruction target text) e i ok =
    let o = scalars-parts target (text ++ codes "?>") (scalars-parts (codes "<?") (target ++ (text ++ codes "?>")) ok).1 in (
      false,
      Walk-to at _ _ _ _ _ _ (ap (λ x. at_mode s (level (nat_lt 0 (length x))) false) e) refl
          (instruction_walk at s false r target text o.0 (scalars-parts text (codes "?>") o.1).0 i),
    )
one_around at s r _ e i ok = absurd i

all_around : (at : ℕ) (s : State) (r : Bool) (pieces : List Piece) → s.elements ≡ [] → AllAround pieces → scalars (texts pieces) ≡ true → (k : Bool) × Walk at (at_mode s modes.Outside r) (encodes (texts pieces)) [] (at_mode s modes.Outside k)
all_around at s r [] e i ok = (r, Walk-none at (at_mode s modes.Outside r))
all_around at s r (p ∷ pieces) e i ok =
    let o = scalars-parts (piece_text p) (texts pieces) ok in
    let one = one_around at s r p e i.0 o.0 in
    let more = all_around (at + length (encodes (piece_text p))) s one.0 pieces e i.1 o.1 in
    (more.0, Walk-over at _ _ _ _ [] (encodes-append (piece_text p) (texts pieces)) (Walk-append at _ _ _ (encodes (piece_text p)) (encodes (texts pieces)) [] [] one.1 more.1))

-- ## a document

admits_root : (s : State) → s.elements ≡ [] → s.rooted ≡ false → Admits s
admits_root s e f = inr (ap (λ x. nat_lt 0 (length x)) e, f)

root_piece : (at : ℕ) (s : State) (r : Bool) (p : Piece) → s.elements ≡ [] → s.rooted ≡ false → IsRoot p → scalars (piece_text p) ≡ true → Passed at s [] [] r p
unfolding stacked
root_piece at s r (StartTag tag) e f i ok = start_piece at s [] [] r tag e (admits_root s e f) (scalars-parts (tag_text tag) (62 ∷ []) ok).0 i
root_piece at s r (EmptyTag tag) e f i ok = empty_piece at s [] [] r tag e (admits_root s e f) (scalars-parts (tag_text tag) (47 ∷ 62 ∷ []) ok).0 i
root_piece at s r _ e f i ok = absurd i

pub root_tag : (p : Piece) → IsRoot p → is_characters p ≡ false
root_tag (StartTag tag) i = refl
root_tag (EmptyTag tag) i = refl
root_tag _ i = absurd i

-- the root's tag and what follows up to its end
record Rooted (at : ℕ) (s : State) (r : Bool) (root : Piece) (inner : List Piece) : Type 0 where
  next : State
  returned : Bool
  stands : Stands next []
  walk : Walk at (at_mode (record s { run = [] }) modes.Outside r) (encodes (texts (root ∷ inner))) (marks_at at (root ∷ inner)) (at_mode next modes.Outside returned)

rooted : (at : ℕ) (s : State) (r : Bool) (root : Piece) (inner : List Piece) → s.elements ≡ [] → s.rooted ≡ false → IsRoot root → Closing (open_behind [] root) inner → scalars (texts (root ∷ inner)) ≡ true → are_apart is_characters inner ≡ true → Rooted at s r root inner
rooted at s r root inner e f i c ok a =
    let o = scalars-parts (piece_text root) (texts inner) ok in
    let one = root_piece at s r root e f i o.0 in
    let l : ℕ = at + length (encodes (piece_text root)) in
    let more = through l one.next (open_behind [] root) one.left one.returned inner one.stands one.out c o.1 a (λ x. one.fresh (root_tag root i)) in
    record {
      next = more.next;
      returned = more.returned;
      stands = more.stands;
      walk = Walk-over at _ _ _ _ _ (encodes-append (piece_text root) (texts inner))
          (Walk-to at _ _ _ _ _ _ refl (sym (one.means inner) ∙ root_first_mark s.run_at at root inner i)
          (Walk-append at _ _ _ (encodes (piece_text root)) (encodes (texts inner)) one.told (ahead one.next.run_at one.left l inner) one.walk more.walk));
    }

-- what follows the byte order mark, or begins the document
record Whole (at : ℕ) (d : Document) : Type 0 where
  next : State
  returned : Bool
  stands : Stands next []
  walk : Walk at (at_mode start modes.Outside false) (encodes (texts d.before ++ (texts (d.root ∷ d.inner) ++ texts d.after))) (marks_at (at + size (texts d.before)) (d.root ∷ d.inner)) (at_mode next modes.Outside returned)

whole : (at : ℕ) (d : Document) → IsDocument d → scalars (texts d.before ++ (texts (d.root ∷ d.inner) ++ texts d.after)) ≡ true → Whole at d
unfolding stacked
whole at d i ok =
    let o = scalars-parts (texts d.before) (texts (d.root ∷ d.inner) ++ texts d.after) ok in
    let q = scalars-parts (texts (d.root ∷ d.inner)) (texts d.after) o.1 in
    let before = all_around at start false d.before refl i.before o.0 in
    let l : ℕ = at + length (encodes (texts d.before)) in
    let ms : List Timed = marks_at l (d.root ∷ d.inner) in
    let root = rooted l start before.0 d.root d.inner refl refl i.root i.inner q.0 i.runs in
    let m : ℕ = l + length (encodes (texts (d.root ∷ d.inner))) in
    let after = all_around m root.next root.returned d.after root.stands.elements i.after q.1 in
    record {
      next = root.next;
      returned = after.0;
      stands = root.stands;
      walk = Walk-over at _ _ _ _ _ (encodes-append (texts d.before) (texts (d.root ∷ d.inner) ++ texts d.after))
          (Walk-append at _ _ _ (encodes (texts d.before)) (encodes (texts (d.root ∷ d.inner) ++ texts d.after)) [] ms before.1
          (Walk-over l _ _ _ _ _ (encodes-append (texts (d.root ∷ d.inner)) (texts d.after))
          (Walk-to l _ _ _ _ _ _ refl (append-nil ms)
          (Walk-append l _ _ _ (encodes (texts (d.root ∷ d.inner))) (encodes (texts d.after)) ms [] root.walk after.1))));
    }

-- the first character of a document without a mark is ASCII
record First (cs : List ℕ) : Type 0 where
  head : ℕ
  tail : List ℕ
  low : head < 128
  same : cs ≡ head ∷ tail

blank_low : (c : ℕ) → is_blank c ≡ true → c < 128
blank_low c e = elim (blank_cases c e) [
  | inl x ↦ omega arith
  | inr k ↦ elim k [ inl x ↦ omega arith | inr l ↦ elim l [ inl x ↦ omega arith | inr x ↦ omega arith ] ]
]

first_of : (before : List Piece) (rest tail : List ℕ) → AllAround before → rest ≡ 60 ∷ tail → First (texts before ++ rest)
first_of [] rest tail i e = record { head = 60; tail = tail; low = omega arith; same = e }
first_of (Characters [] ∷ before) rest tail i e = first_of before rest tail i.1 e
first_of (Characters (c ∷ cs) ∷ before) rest tail i e = record {
  head = c;
  tail = (cs ++ texts before) ++ rest;
  low = blank_low c (and_parts (is_blank c) (list_all is_blank cs) i.0).0;
  same = refl;
}
first_of (Comment text ∷ before) rest tail i e = record { head = 60; tail = ((codes "!--" ++ (text ++ codes "-->")) ++ texts before) ++ rest; low = omega arith; same = refl }
first_of (Instruction target text ∷ before) rest tail i e = record { head = 60; tail = ((codes "?" ++ (target ++ (text ++ codes "?>"))) ++ texts before) ++ rest; low = omega arith; same = refl }
first_of (Referred reference ∷ before) rest tail i e = absurd i.0
first_of (Cdata text ∷ before) rest tail i e = absurd i.0
first_of (StartTag tag ∷ before) rest tail i e = absurd i.0
first_of (EmptyTag tag ∷ before) rest tail i e = absurd i.0
first_of (EndTag name blanks ∷ before) rest tail i e = absurd i.0

root_first : (root : Piece) (rest : List ℕ) → IsRoot root → (tail : List ℕ) × (piece_text root ++ rest ≡ 60 ∷ tail)
root_first (StartTag tag) rest i = ((tag_text tag ++ 62 ∷ []) ++ rest, refl)
root_first (EmptyTag tag) rest i = ((tag_text tag ++ 47 ∷ 62 ∷ []) ++ rest, refl)
root_first _ rest i = absurd i

-- an ASCII byte at the start of the bytes is read as before the root
start_step : (b : ℕ) → b < 128 → step start 0 b ≡ step (at_mode start modes.Outside false) 0 b
start_step b h = if_true (nat_lt b 128) _ _ (lt-ltb b 128 h) ∙ sym (if_true (nat_lt b 128) _ _ (lt-ltb b 128 h))

start_walk : (cs : List ℕ) (ms : List Timed) (t : State) → First cs → Walk 0 (at_mode start modes.Outside false) (encodes cs) ms t → Walk 0 start (encodes cs) ms t
start_walk cs ms t f w =
    let bytes : encodes cs ≡ f.head ∷ encodes f.tail = ap encodes f.same ∙ ap (λ x. x ++ encodes f.tail) (encode_ascii f.head f.low) in
    let outside : Walk 0 (at_mode start modes.Outside false) (f.head ∷ encodes f.tail) ms t = Walk-over 0 _ _ _ _ _ (sym bytes) w in
    Walk-over 0 _ _ _ _ _ bytes
    (record {
      state = ap (λ q. state_from 1 (cleared q) (encodes f.tail)) (start_step f.head f.low) ∙ outside.state;
      marks = ap (λ q. all_by 1 (complete q) ++ timed_from 1 (cleared q) (encodes f.tail)) (start_step f.head f.low) ∙ outside.marks;
    })

mark_walk : Walk 0 start (encode 0xfeff) [] (at_mode start modes.Outside false)
mark_walk = quiet 0 start modes.Start false 0xfeff start modes.Outside false tt refl (λ l. absurd (omega arith)) (λ l p last b. refl)

record Read (d : Document) : Type 0 where
  next : State
  returned : Bool
  stands : Stands next []
  walk : Walk 0 start (encodes (document_text d)) (timed_marks d) (at_mode next modes.Outside returned)

read_by : (d : Document) (marked : Bool) → d.marked ≡ marked → IsDocument d → scalars (order_mark marked ++ (texts d.before ++ (texts (d.root ∷ d.inner) ++ texts d.after))) ≡ true → Read d
read_by d true e i ok =
    let l : ℕ = 0 + length (encode 0xfeff) in
    let w = whole l d i ok in
    let body : List ℕ = texts d.before ++ (texts (d.root ∷ d.inner) ++ texts d.after) in
    let ms : List Timed = marks_at (l + size (texts d.before)) (d.root ∷ d.inner) in
    record {
      next = w.next;
      returned = w.returned;
      stands = w.stands;
      walk = Walk-to 0 _ _ _ _ _ _ refl
          (ap (λ (n : ℕ). marks_at n (d.root ∷ d.inner)) (omega (arith, size-cons 0xfeff (texts d.before))) ∙ ap (λ (x : Bool). marks_at (size (order_mark x ++ texts d.before)) (d.root ∷ d.inner)) (sym e))
          (Walk-over 0 _ _ _ _ _ (ap (λ x. encodes (order_mark x ++ body)) e) (Walk-append 0 _ _ _ (encode 0xfeff) (encodes body) [] ms mark_walk w.walk));
    }
read_by d false e i ok =
    let w = whole 0 d i ok in
    let ms : List Timed = marks_at (0 + size (texts d.before)) (d.root ∷ d.inner) in
    let body : List ℕ = texts d.before ++ (texts (d.root ∷ d.inner) ++ texts d.after) in
    let f = root_first d.root (texts d.inner) i.root in
    record {
      next = w.next;
      returned = w.returned;
      stands = w.stands;
      walk = Walk-to 0 _ _ _ _ _ _ refl
          (ap (λ (n : ℕ). marks_at n (d.root ∷ d.inner)) (omega arith) ∙ ap (λ (x : Bool). marks_at (size (order_mark x ++ texts d.before)) (d.root ∷ d.inner)) (sym e))
          (Walk-over 0 _ _ _ _ _ (ap (λ x. encodes (order_mark x ++ body)) e)
          (start_walk body ms _ (first_of d.before (texts (d.root ∷ d.inner) ++ texts d.after) (f.0 ++ texts d.after) i.before (ap (λ x. x ++ texts d.after) f.1)) w.walk));
    }

-- ## the laws

pub document_timed : (d : Document) → IsDocument d → scalars (document_text d) ≡ true → timed_from 0 start (encodes (document_text d)) ≡ timed_marks d
document_timed d i ok = (read_by d d.marked refl i ok).walk.marks

pub markup_spelled : (bytes : List ℕ) (tree : Tree) → Markup bytes tree → Spells bytes tree
unfolding state_of marks_of end_fault_of
markup_spelled bytes tree m =
    let w = read_by m.document m.document.marked refl m.whole m.scalars in
    let last : end_fault (at_mode w.next modes.Outside w.returned) (length bytes) ≡ None = if_true w.next.rooted _ _ w.stands.rooted in
    record {
      whole = ap (λ q. end_fault q (length bytes)) (ap (state_from 0 start) m.written ∙ w.walk.state) ∙ last;
      read = ap (λ x. told (marks_from 0 start x)) m.written
          ∙ ap told (sym (timed_from-only 0 start (encodes (document_text m.document))) ∙ ap marks_only w.walk.marks)
          ∙ told_document m.document m.whole.root
          ∙ m.means;
    }
