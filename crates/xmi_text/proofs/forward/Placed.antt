-- The marks of a document without their places are what it says.
use Rattle.std.proofs.Common.{◌≡◌, ℕ, ◌+◌, List, [], ◌∷◌, ◌++◌, map, refl, sym, ◌∙◌, ap, append_assoc, append-nil}
use Rattle.std.specs.Prelude.{false}
use Rattle.xmi_text.specs.Trees.{Event, Opens, Says, Closes, pair_of, told}
use Rattle.xmi_text.specs.Markup.{Attribute, attribute_text, pair, Piece, Characters, Referred, Cdata, Comment, Instruction, StartTag, EmptyTag, EndTag, IsRoot, all_said, say, joined_runs, line_ends, referred, texts, Document, order_mark}
use Rattle.xmi_text.specs.Places.{Timed, size, piece_end, attrs_at, run_end, data_at, run_marks, marks_at, document_marks, marks_only}
use Rattle.xmi_text.specs.Places as placed

-- ---- characters that join

pub say_none : (es : List Event) → say [] es ≡ es
say_none [] = refl
say_none (Says cs ∷ es) = refl
say_none (Opens name attrs ∷ es) = refl
say_none (Closes ∷ es) = refl

pub say_say : (xs ys : List ℕ) (es : List Event) → say xs (say ys es) ≡ say (xs ++ ys) es
say_say xs ys (Says ds ∷ es) = ap (λ z. Says z ∷ es) (sym (append_assoc xs ys ds))
say_say xs [] [] = ap (λ z. say z []) (sym (append-nil xs))
say_say [] (y ∷ ys) [] = refl
say_say (x ∷ xs) (y ∷ ys) [] = refl
say_say xs [] (Opens name attrs ∷ es) = ap (λ z. say z (Opens name attrs ∷ es)) (sym (append-nil xs))
say_say [] (y ∷ ys) (Opens name attrs ∷ es) = refl
say_say (x ∷ xs) (y ∷ ys) (Opens name attrs ∷ es) = refl
say_say xs [] (Closes ∷ es) = ap (λ z. say z (Closes ∷ es)) (sym (append-nil xs))
say_say [] (y ∷ ys) (Closes ∷ es) = refl
say_say (x ∷ xs) (y ∷ ys) (Closes ∷ es) = refl

say_opens : (run : List ℕ) (name : List ℕ) (attrs : List (List ℕ × List ℕ)) (es : List Event) → say run (Opens name attrs ∷ es) ≡ say run [] ++ Opens name attrs ∷ es
say_opens [] name attrs es = refl
say_opens (x ∷ run) name attrs es = refl

say_closes : (run : List ℕ) (es : List Event) → say run (Closes ∷ es) ≡ say run [] ++ Closes ∷ es
say_closes [] es = refl
say_closes (x ∷ run) es = refl

-- ---- marks without places

-- the marks of pieces from this place on, behind characters of a run that begins at `from`
abbrev pub ahead : (from : ℕ) (run : List ℕ) (at : ℕ) (pieces : List Piece) → List Timed
ahead from run at pieces = data_at from (run ++ placed.run pieces) (run_end at pieces) ++ marks_at at pieces

told_data : (from : ℕ) (run : List ℕ) (by : ℕ) (ms : List Timed) → told (marks_only (data_at from run by ++ ms)) ≡ say run [] ++ told (marks_only ms)
told_data from [] by ms = refl
told_data from (c ∷ run) by ms = refl

told_attrs : (at : ℕ) (attributes : List Attribute) → map pair_of (attrs_at at attributes) ≡ map pair attributes
told_attrs at [] = refl
told_attrs at (a ∷ attributes) = ap (λ ps. pair a ∷ ps) (told_attrs (at + size (attribute_text a)) attributes)

-- a tag ends the run
told_ended : (from : ℕ) (run : List ℕ) (by : ℕ) (ms : List Timed) → told (marks_only (data_at from (run ++ []) by ++ ms)) ≡ say run [] ++ told (marks_only ms)
told_ended from run by ms = ap (λ (cs : List ℕ). told (marks_only (data_at from cs by ++ ms))) (append-nil run) ∙ told_data from run by ms

told_joins : (from : ℕ) (run more : List ℕ) (at : ℕ) (ps : List Piece) → told (marks_only (ahead from (run ++ more) at ps)) ≡ say (run ++ more) (joined_runs (all_said ps)) → told (marks_only (data_at from (run ++ (more ++ placed.run ps)) (run_end at ps) ++ marks_at at ps)) ≡ say run (say more (joined_runs (all_said ps)))
told_joins from run more at ps e =
    ap (λ (cs : List ℕ). told (marks_only (data_at from cs (run_end at ps) ++ marks_at at ps))) (sym (append_assoc run more (placed.run ps)))
    ∙ e
    ∙ sym (say_say run more (joined_runs (all_said ps)))

pub told_ahead : (from : ℕ) (run : List ℕ) (at : ℕ) (ps : List Piece) → told (marks_only (ahead from run at ps)) ≡ say run (joined_runs (all_said ps))
told_ahead from run at [] = told_ended from run at [] ∙ append-nil (say run [])
told_ahead from run at (Characters text ∷ ps) = told_joins from run (line_ends false text) (piece_end at (Characters text)) ps (told_ahead from (run ++ line_ends false text) (piece_end at (Characters text)) ps)
told_ahead from run at (Referred reference ∷ ps) = told_joins from run (referred reference ∷ []) (piece_end at (Referred reference)) ps (told_ahead from (run ++ referred reference ∷ []) (piece_end at (Referred reference)) ps)
told_ahead from run at (Cdata text ∷ ps) = told_joins from run (line_ends false text) (piece_end at (Cdata text)) ps (told_ahead from (run ++ line_ends false text) (piece_end at (Cdata text)) ps)
told_ahead from run at (Comment text ∷ ps) = told_ahead from run (piece_end at (Comment text)) ps
told_ahead from run at (Instruction target text ∷ ps) = told_ahead from run (piece_end at (Instruction target text)) ps
told_ahead from run at (StartTag tag ∷ ps) =
    let l : ℕ = piece_end at (StartTag tag) in
    told_ended from run (run_end at (StartTag tag ∷ ps)) _
    ∙ ap (λ pairs. say run [] ++ Opens tag.name pairs ∷ told (marks_only (ahead l [] l ps))) (told_attrs (at + size (60 ∷ tag.name)) tag.attributes)
    ∙ ap (λ (es : List Event). say run [] ++ Opens tag.name (map pair tag.attributes) ∷ es) (told_ahead l [] l ps ∙ say_none (joined_runs (all_said ps)))
    ∙ sym (say_opens run tag.name (map pair tag.attributes) (joined_runs (all_said ps)))
told_ahead from run at (EmptyTag tag ∷ ps) =
    let l : ℕ = piece_end at (EmptyTag tag) in
    told_ended from run (run_end at (EmptyTag tag ∷ ps)) _
    ∙ ap (λ pairs. say run [] ++ Opens tag.name pairs ∷ Closes ∷ told (marks_only (ahead l [] l ps))) (told_attrs (at + size (60 ∷ tag.name)) tag.attributes)
    ∙ ap (λ (es : List Event). say run [] ++ Opens tag.name (map pair tag.attributes) ∷ Closes ∷ es) (told_ahead l [] l ps ∙ say_none (joined_runs (all_said ps)))
    ∙ sym (say_opens run tag.name (map pair tag.attributes) (Closes ∷ joined_runs (all_said ps)))
told_ahead from run at (EndTag name blanks ∷ ps) =
    let l : ℕ = piece_end at (EndTag name blanks) in
    told_ended from run (run_end at (EndTag name blanks ∷ ps)) _
    ∙ ap (λ (es : List Event). say run [] ++ Closes ∷ es) (told_ahead l [] l ps ∙ say_none (joined_runs (all_said ps)))
    ∙ sym (say_closes run (joined_runs (all_said ps)))

-- no run stands before the root's tag
pub root_first_mark : (from at : ℕ) (root : Piece) (inner : List Piece) → IsRoot root → ahead from [] at (root ∷ inner) ≡ marks_at at (root ∷ inner)
root_first_mark from at (StartTag tag) inner i = refl
root_first_mark from at (EmptyTag tag) inner i = refl
root_first_mark from at _ inner i = absurd i

pub told_document : (d : Document) → IsRoot d.root → told (document_marks d) ≡ joined_runs (all_said (d.root ∷ d.inner))
told_document d i =
    let at : ℕ = size (order_mark d.marked ++ texts d.before) in
    ap (λ (ms : List Timed). told (marks_only ms)) (sym (root_first_mark at at d.root d.inner i))
    ∙ told_ahead at [] at (d.root ∷ d.inner)
    ∙ say_none (joined_runs (all_said (d.root ∷ d.inner)))
