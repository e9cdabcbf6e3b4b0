-- Laws of the forms, on lists alone.
use Rattle.std.proofs.Common.{◌≡◌, ℕ, zero, suc, ◌+◌, ◌-◌, ◌*◌, ◌<◌, ◌≤◌, Result, Ok, Err, map, slice_get, subst, slice_range, append_assoc, append-nil, Option, add-zero, Bool, true, false, if◌then◌else◌, ◌&&◌, nat_lt, nat_eq, List, [], ◌∷◌, ◌++◌, length, take, drop, get_or, Some, None, refl, sym, ◌∙◌, ap, arith, lt-ltb, le-ltb, zero-add}
use Rattle.std.specs.Prelude.{◌==◌}
use Rattle.std.proofs.lemmas.List.{drop_more, drop_all, drop-drop, map-append, take-take}
use Rattle.ql_lex.specs.Forms.{decimal, front_width, name_len, step_len, comment_end, string_end, closes, escapes, misfit_from, begins_misfit, form, whole_form, whole_form_of, fault}
use Rattle.std.specs.Str.{IsUtf8}
use Rattle.std.proofs.lemmas.Str.{IsUtf8-append}
use Rattle.std.proofs.Math.Nat.{le_refl}
use Rattle.std.proofs.Math.Seq.{take-nil}
use Rattle.std.specs.Cmp.Lexicographic.{bytes_decides}
use Rattle.std.specs.Str.Lossy.{utf8_valid_len}
use Rattle.std.specs.List.{prefix_len, starts_with}
use Rattle.std.specs.Option.{option_map}
use Rattle.std.proofs.lemmas.Option.{slice_get-map, slice_get_read}
use Rattle.std.proofs.lemmas.Bool.{eq-eqb, ne_eqb}
use Rattle.ql_lex.specs.declared.limits.TheConstants.{MAX_SCRIPT}
use Rattle.ql_lex.specs.declared.limits.TheConstants.{MAX_INTEGER}
use Rattle.ql_lex.specs.declared.fault.LexFault.{LexFault}
use Rattle.ql_lex.specs.declared.fault.LexKind.TheVariants.{BadUtf8, Limit}
use Rattle.ql_lex.specs.declared.token.TokenKind.{TokenKind}
use Rattle.mof_metamodel.specs.declared.span.Span.{Span}
use Rattle.ql_lex.specs.declared.piece.Piece.{Piece}
use Rattle.ql_lex.specs.declared.word.Word.{Word}
use Rattle.ql_lex.specs.Lexed.{Lexeme, lexemes_of, with_front, moved, lexed_from, lexed, mark_len, AreSlices}
use Rattle.ql_lex.specs.Answers.{seen, seen_all}
use Rattle.bstr.proofs.lemmas.PieceLemmas.{piece-bounds}

-- further digits make no number less
pub decimal-le : (ds : List ℕ) (before : ℕ) → before ≤ decimal before ds
unfolding decimal
decimal-le [] before = omega arith
decimal-le (d ∷ ds) before = let h : 10 * before + (d - 48) ≤ decimal (10 * before + (d - 48)) ds = decimal-le ds (10 * before + (d - 48)) in omega (arith, h)

-- one more digit
decimal-cons : (d : ℕ) (ds : List ℕ) (before : ℕ) → decimal before (d ∷ ds) ≡ decimal (10 * before + (d - 48)) ds
unfolding decimal
decimal-cons d ds before = refl

pub decimal-step : (ds : List ℕ) (i before : ℕ) → i < length ds
    → decimal before (drop i ds) ≡ decimal (10 * before + (get_or ds i 0 - 48)) (drop (i + 1) ds)
decimal-step ds i before h = ap (decimal before) (drop_more ds i 0 h) ∙ decimal-cons (get_or ds i 0) (drop (i + 1) ds) before

-- a digit that takes a number above the MAX_INTEGER, and none left
pub decimal-over : (ds : List ℕ) (i before : ℕ) → i < length ds → MAX_INTEGER < 10 * before + (get_or ds i 0 - 48)
    → nat_lt MAX_INTEGER (decimal before (drop i ds)) ≡ true
decimal-over ds i before h over =
    let step = decimal-step ds i before h in
    let more = decimal-le (drop (i + 1) ds) (10 * before + (get_or ds i 0 - 48)) in
    lt-ltb MAX_INTEGER (decimal before (drop i ds)) (omega (arith, step, more))

pub decimal-none : (ds : List ℕ) (i before : ℕ) → length ds ≤ i → before ≤ MAX_INTEGER → nat_lt MAX_INTEGER (decimal before (drop i ds)) ≡ false
unfolding decimal
decimal-none ds i before h le = ap (λ xs. nat_lt MAX_INTEGER (decimal before xs)) (drop_all i ds h) ∙ le-ltb MAX_INTEGER before le

-- a front that isn't empty takes a byte, and no more than there are
pub width-some : (bs : List ℕ) → 0 < length bs → 0 < front_width bs
unfolding front_width
width-some bs h = let b = piece-bounds bs h in omega (arith, b.0)

pub width-within : (bs : List ℕ) → 0 < length bs → front_width bs ≤ length bs
unfolding front_width
width-within bs h = (piece-bounds bs h).2

-- a name goes on behind the character at its front
pub name_len-inside : (bs : List ℕ) (n : ℕ) → n ≤ length bs → name_len bs n ≡ n + name_len (drop n bs) 0
unfolding name_len
name_len-inside bs zero h = sym (zero-add (name_len bs 0))
name_len-inside [] (suc n) h = absurd (omega arith)
name_len-inside (b ∷ bs) (suc n) h = ap suc (name_len-inside bs n (omega arith)) ∙ omega arith

name_len-cons : (b : ℕ) (bs : List ℕ) (n : ℕ) → step_len (b ∷ bs) ≡ suc n → name_len (b ∷ bs) 0 ≡ suc (name_len bs n)
unfolding name_len
name_len-cons b bs n e = rw (name_len, e) refl

name_len-none : (b : ℕ) (bs : List ℕ) → step_len (b ∷ bs) ≡ 0 → name_len (b ∷ bs) 0 ≡ 0
unfolding name_len
name_len-none b bs e = rw (name_len, e) refl

-- a character that goes on with a name, and what is behind it
pub name_len-step : (bs : List ℕ) (n : ℕ) → step_len bs ≡ n → 0 < n → n ≤ length bs → name_len bs 0 ≡ n + name_len (drop n bs) 0
unfolding name_len
name_len-step [] n e some within = absurd (omega arith)
name_len-step (b ∷ bs) zero e some within = absurd (omega arith)
name_len-step (b ∷ bs) (suc n) e some within = name_len-cons b bs n e ∙ name_len-inside (b ∷ bs) (suc n) within

-- the name ends where none stands
pub name_len-end : (bs : List ℕ) → step_len bs ≡ 0 → name_len bs 0 ≡ 0
unfolding name_len
name_len-end [] e = refl
name_len-end (b ∷ bs) e = name_len-none b bs e

-- one more byte of a comment, its end, and none left
pub comment_end-cons : (b : ℕ) (bs : List ℕ) (i : ℕ) (star : Bool)
    → comment_end i star (b ∷ bs) ≡ (if star && (b == 47) then Some (i + 1) else comment_end (i + 1) (b == 42) bs)
unfolding comment_end
comment_end-cons b bs i star = refl

pub comment_end-goes : (bs : List ℕ) (i : ℕ) (star : Bool) → i < length bs → (star && (get_or bs i 0 == 47)) ≡ false
    → comment_end i star (drop i bs) ≡ comment_end (i + 1) (get_or bs i 0 == 42) (drop (i + 1) bs)
comment_end-goes bs i star h e = ap (comment_end i star) (drop_more bs i 0 h) ∙ comment_end-cons (get_or bs i 0) (drop (i + 1) bs) i star
    ∙ ap (λ t. if t then Some (i + 1) else comment_end (i + 1) (get_or bs i 0 == 42) (drop (i + 1) bs)) e

pub comment_end-ends : (bs : List ℕ) (i : ℕ) (star : Bool) → i < length bs → (star && (get_or bs i 0 == 47)) ≡ true
    → comment_end i star (drop i bs) ≡ Some (i + 1)
comment_end-ends bs i star h e = ap (comment_end i star) (drop_more bs i 0 h) ∙ comment_end-cons (get_or bs i 0) (drop (i + 1) bs) i star
    ∙ ap (λ t. if t then Some (i + 1) else comment_end (i + 1) (get_or bs i 0 == 42) (drop (i + 1) bs)) e

pub comment_end-none : (bs : List ℕ) (i : ℕ) (star : Bool) → length bs ≤ i → comment_end i star (drop i bs) ≡ None
unfolding comment_end
comment_end-none bs i star h = ap (comment_end i star) (drop_all i bs h)

-- one more byte of a text, its end, and none left
pub string_end-cons : (b : ℕ) (bs : List ℕ) (i : ℕ) (escaped : Bool)
    → string_end i escaped (b ∷ bs) ≡ (if closes escaped b then Some (i + 1) else string_end (i + 1) (escapes escaped b) bs)
unfolding string_end
string_end-cons b bs i escaped = refl

pub string_end-goes : (bs : List ℕ) (i : ℕ) (escaped : Bool) → i < length bs → closes escaped (get_or bs i 0) ≡ false
    → string_end i escaped (drop i bs) ≡ string_end (i + 1) (escapes escaped (get_or bs i 0)) (drop (i + 1) bs)
string_end-goes bs i escaped h e = ap (string_end i escaped) (drop_more bs i 0 h) ∙ string_end-cons (get_or bs i 0) (drop (i + 1) bs) i escaped
    ∙ ap (λ t. if t then Some (i + 1) else string_end (i + 1) (escapes escaped (get_or bs i 0)) (drop (i + 1) bs)) e

pub string_end-ends : (bs : List ℕ) (i : ℕ) (escaped : Bool) → i < length bs → closes escaped (get_or bs i 0) ≡ true
    → string_end i escaped (drop i bs) ≡ Some (i + 1)
string_end-ends bs i escaped h e = ap (string_end i escaped) (drop_more bs i 0 h) ∙ string_end-cons (get_or bs i 0) (drop (i + 1) bs) i escaped
    ∙ ap (λ t. if t then Some (i + 1) else string_end (i + 1) (escapes escaped (get_or bs i 0)) (drop (i + 1) bs)) e

pub string_end-none : (bs : List ℕ) (i : ℕ) (escaped : Bool) → length bs ≤ i → string_end i escaped (drop i bs) ≡ None
unfolding string_end
string_end-none bs i escaped h = ap (string_end i escaped) (drop_all i bs h)

-- one more byte of a text's inside, a misfit, and none left
pub misfit_from-cons : (b : ℕ) (bs : List ℕ) (i : ℕ) (escaped : Bool) → misfit_from i escaped (b ∷ bs)
    ≡ (if begins_misfit escaped (b ∷ bs) then Some (if escaped then i - 1 else i) else misfit_from (i + 1) (escapes escaped b) bs)
unfolding misfit_from
misfit_from-cons b bs i escaped = refl

misfit_from-step : (bs : List ℕ) (i : ℕ) (escaped : Bool) → i < length bs → misfit_from i escaped (drop i bs)
    ≡ (if begins_misfit escaped (drop i bs) then Some (if escaped then i - 1 else i) else misfit_from (i + 1) (escapes escaped (get_or bs i 0)) (drop (i + 1) bs))
misfit_from-step bs i escaped h =
    let cut = drop_more bs i 0 h in
    ap (misfit_from i escaped) cut ∙ misfit_from-cons (get_or bs i 0) (drop (i + 1) bs) i escaped
    ∙ ap (λ xs. if begins_misfit escaped xs then Some (if escaped then i - 1 else i) else misfit_from (i + 1) (escapes escaped (get_or bs i 0)) (drop (i + 1) bs)) (sym cut)

pub misfit_from-goes : (bs : List ℕ) (i : ℕ) (escaped : Bool) → i < length bs → begins_misfit escaped (drop i bs) ≡ false
    → misfit_from i escaped (drop i bs) ≡ misfit_from (i + 1) (escapes escaped (get_or bs i 0)) (drop (i + 1) bs)
misfit_from-goes bs i escaped h e = misfit_from-step bs i escaped h
    ∙ ap (λ t. if t then Some (if escaped then i - 1 else i) else misfit_from (i + 1) (escapes escaped (get_or bs i 0)) (drop (i + 1) bs)) e

pub misfit_from-ends : (bs : List ℕ) (i : ℕ) (escaped : Bool) → i < length bs → begins_misfit escaped (drop i bs) ≡ true
    → misfit_from i escaped (drop i bs) ≡ Some (if escaped then i - 1 else i)
misfit_from-ends bs i escaped h e = misfit_from-step bs i escaped h
    ∙ ap (λ t. if t then Some (if escaped then i - 1 else i) else misfit_from (i + 1) (escapes escaped (get_or bs i 0)) (drop (i + 1) bs)) e

pub misfit_from-none : (bs : List ℕ) (i : ℕ) (escaped : Bool) → length bs ≤ i → misfit_from i escaped (drop i bs) ≡ None
unfolding misfit_from
misfit_from-none bs i escaped h = ap (misfit_from i escaped) (drop_all i bs h)

-- a form of whole characters, one that is cut short by a byte at which none stands, and the same of a fault
pub whole_form-ok : (bs : List ℕ) (p : Piece) → form bs ≡ Ok p → utf8_valid_len (take p.len bs) ≡ p.len → whole_form bs ≡ Ok p
unfolding whole_form
whole_form-ok bs p is whole = ap (whole_form_of bs) is ∙ ap (λ t. if t then Ok p else fault BadUtf8 (utf8_valid_len (take p.len bs))) (eq-eqb _ _ whole)

pub whole_form-cut : (bs : List ℕ) (p : Piece) → form bs ≡ Ok p → (utf8_valid_len (take p.len bs) ≡ p.len → ⊥)
    → whole_form bs ≡ Err (record { kind = BadUtf8; at = utf8_valid_len (take p.len bs) })
unfolding whole_form
whole_form-cut bs p is cut = ap (whole_form_of bs) is ∙ ap (λ t. if t then Ok p else fault BadUtf8 (utf8_valid_len (take p.len bs))) (ne_eqb _ _ cut)

pub whole_form-fault : (bs : List ℕ) (f : LexFault) → form bs ≡ Err f → utf8_valid_len (take f.at bs) ≡ f.at → whole_form bs ≡ Err f
unfolding whole_form
whole_form-fault bs f is whole = ap (whole_form_of bs) is ∙ ap (λ t. if t then Err f else fault BadUtf8 (utf8_valid_len (take f.at bs))) (eq-eqb _ _ whole)

pub whole_form-fault_cut : (bs : List ℕ) (f : LexFault) → form bs ≡ Err f → (utf8_valid_len (take f.at bs) ≡ f.at → ⊥)
    → whole_form bs ≡ Err (record { kind = BadUtf8; at = utf8_valid_len (take f.at bs) })
unfolding whole_form
whole_form-fault_cut bs f is cut = ap (whole_form_of bs) is ∙ ap (λ t. if t then Err f else fault BadUtf8 (utf8_valid_len (take f.at bs))) (ne_eqb _ _ cut)

-- a piece's last bytes make no token
lexed_from-inside : (bs : List ℕ) (at n : ℕ) → n ≤ length bs → lexed_from bs at n ≡ lexed_from (drop n bs) (at + n) 0
unfolding lexed_from
lexed_from-inside bs at zero h = ap (λ k. lexed_from bs k 0) (sym (add-zero at))
lexed_from-inside [] at (suc n) h = absurd (omega arith)
lexed_from-inside (b ∷ bs) at (suc n) h =
    lexed_from-inside bs (at + 1) n (omega arith) ∙ ap (λ k. lexed_from (drop n bs) k 0) (omega arith)

-- what stands at a place: a piece and what is behind it, or a fault
next_of : ℕ → ℕ → List ℕ → Result Piece LexFault → Result (List Lexeme) LexFault
next_of at b bs (Ok piece) = with_front (lexemes_of at (b ∷ bs) piece) (lexed_from bs (at + 1) (piece.len - 1))
next_of at b bs (Err f) = Err (moved at f)

lexed_from-next : (b : ℕ) (bs : List ℕ) (at : ℕ) (r : Result Piece LexFault) → whole_form (b ∷ bs) ≡ r → lexed_from (b ∷ bs) at 0 ≡ next_of at b bs r
unfolding lexed_from next_of
lexed_from-next b bs at (Ok piece) e = rw (lexed_from, e) refl
lexed_from-next b bs at (Err f) e = rw (lexed_from, e) refl

drop-behind : (b : ℕ) (bs : List ℕ) (n : ℕ) → 0 < n → drop n (b ∷ bs) ≡ drop (n - 1) bs
drop-behind b bs zero h = absurd (omega arith)
drop-behind b bs (suc n) h = ap (λ k. drop k bs) (omega arith)

pub lexed_from-piece : (bs : List ℕ) (at : ℕ) (p : Piece) → whole_form bs ≡ Ok p → 0 < p.len → p.len ≤ length bs
    → lexed_from bs at 0 ≡ with_front (lexemes_of at bs p) (lexed_from (drop p.len bs) (at + p.len) 0)
unfolding next_of
lexed_from-piece [] at p e some within = absurd (omega arith)
lexed_from-piece (b ∷ bs) at p e some within =
    let behind = ap (λ xs. lexed_from xs (at + 1 + (p.len - 1)) 0) (sym (drop-behind b bs p.len some))
    ∙ ap (λ k. lexed_from (drop p.len (b ∷ bs)) k 0) (omega arith) in
    lexed_from-next b bs at (Ok p) e ∙ ap (with_front (lexemes_of at (b ∷ bs) p)) (lexed_from-inside bs (at + 1) (p.len - 1) (omega arith) ∙ behind)

pub lexed_from-fault : (bs : List ℕ) (at : ℕ) (f : LexFault) → 0 < length bs → whole_form bs ≡ Err f → lexed_from bs at 0 ≡ Err (moved at f)
unfolding next_of
lexed_from-fault [] at f some e = absurd (omega arith)
lexed_from-fault (b ∷ bs) at f some e = lexed_from-next b bs at (Err f) e

pub lexed_from-end : (bs : List ℕ) (at n : ℕ) → length bs ≤ at → lexed_from (drop at bs) n 0 ≡ Ok []
unfolding lexed_from
lexed_from-end bs at n h = ap (λ xs. lexed_from xs n 0) (drop_all at bs h)

-- tokens in front of tokens
pub with_front-append : (xs ys : List Lexeme) (r : Result (List Lexeme) LexFault) → with_front xs (with_front ys r) ≡ with_front (xs ++ ys) r
with_front-append xs ys (Ok zs) = ap Ok (sym (append_assoc xs ys zs))
with_front-append xs ys (Err f) = refl

-- a token of the list
pub lexeme_at : {X : Type 0} (f : Lexeme → X) (words : List Word) (i : ℕ) (w : Word) → i < length words → w ≡ get_or words i w
    → slice_get (map f (seen_all words)) i ≡ Some (f (seen w))
lexeme_at f words i w within is =
    slice_get-map f (seen_all words) i ∙ ap (option_map f) (slice_get-map seen words i ∙ ap (option_map seen) (slice_get_read words (length words) i w refl within is))

-- what begins with an element that passes has a run of one or more
pub prefix_len-some : (p : ℕ → Bool) (xs : List ℕ) → 0 < length xs → p (get_or xs 0 0) ≡ true → 0 < prefix_len p xs
prefix_len-some p [] h e = absurd (omega arith)
prefix_len-some p (x ∷ xs) h e = let one : prefix_len p (x ∷ xs) ≡ 1 + prefix_len p xs = ap (λ t. if t then 1 + prefix_len p xs else 0) e in omega (arith, one)

-- a piece in front of what is behind it
pub behind_piece : (front : List Lexeme) (bytes : List ℕ) (at : ℕ) (p : Piece) → whole_form (drop at bytes) ≡ Ok p → 0 < p.len → p.len ≤ length (drop at bytes)
    → with_front (front ++ lexemes_of at (drop at bytes) p) (lexed_from (drop (at + p.len) bytes) (at + p.len) 0) ≡ with_front front (lexed_from (drop at bytes) at 0)
behind_piece front bytes at p is some within =
    sym (ap (with_front front) (lexed_from-piece (drop at bytes) at p is some within
    ∙ ap (λ xs. with_front (lexemes_of at (drop at bytes) p) (lexed_from xs (at + p.len) 0)) (drop-drop p.len at bytes))
    ∙ with_front-append front (lexemes_of at (drop at bytes) p) (lexed_from (drop (at + p.len) bytes) (at + p.len) 0))

-- a token at the end of the list, in front of what is behind it
lexemes_of-token : (at : ℕ) (bytes : List ℕ) (p : Piece) (kind : TokenKind) → p.kind ≡ Some kind → lexemes_of at bytes p
    ≡ record { token = record { kind = kind; span = record { start = at; end = at + p.len } }; text = take p.len bytes } ∷ []
lexemes_of-token at bytes p kind is = ap (λ (k : Option TokenKind). lexemes_of at bytes (record { kind = k; len = p.len })) is

pub behind_token : (words more : List Word) (w : Word) (bytes : List ℕ) (at : ℕ) (p : Piece) → more ≡ words ++ w ∷ [] → p.kind ≡ Some w.token.kind
    → w.token.span ≡ record { start = at; end = at + p.len } → w.text.now ≡ take p.len (drop at bytes)
    → whole_form (drop at bytes) ≡ Ok p → 0 < p.len → p.len ≤ length (drop at bytes)
    → with_front (seen_all more) (lexed_from (drop (at + p.len) bytes) (at + p.len) 0) ≡ with_front (seen_all words) (lexed_from (drop at bytes) at 0)
behind_token words more w bytes at p pushed kind span text is some within =
    let one : seen w ∷ [] ≡ lexemes_of at (drop at bytes) p =
    ap (λ (s : Span). record { token = record { kind = w.token.kind; span = s }; text = w.text.now } ∷ []) span
    ∙ ap (λ (t : List ℕ). record { token = record { kind = w.token.kind; span = record { start = at; end = at + p.len } }; text = t } ∷ []) text
    ∙ sym (lexemes_of-token at (drop at bytes) p w.token.kind kind) in
    ap (λ front. with_front front (lexed_from (drop (at + p.len) bytes) (at + p.len) 0))
    (ap seen_all pushed ∙ map-append seen words (w ∷ []) ∙ ap (λ xs. seen_all words ++ xs) one)
    ∙ behind_piece (seen_all words) bytes at p is some within

-- blanks and comments make none
pub behind_nothing : (words : List Word) (bytes : List ℕ) (at : ℕ) (p : Piece) → p.kind ≡ None
    → whole_form (drop at bytes) ≡ Ok p → 0 < p.len → p.len ≤ length (drop at bytes)
    → with_front (seen_all words) (lexed_from (drop (at + p.len) bytes) (at + p.len) 0) ≡ with_front (seen_all words) (lexed_from (drop at bytes) at 0)
behind_nothing words bytes at p kind is some within =
    let none : lexemes_of at (drop at bytes) p ≡ [] = ap (λ (k : Option TokenKind). lexemes_of at (drop at bytes) (record { kind = k; len = p.len })) kind in
    ap (λ front. with_front front (lexed_from (drop (at + p.len) bytes) (at + p.len) 0))
    (sym (append-nil (seen_all words)) ∙ ap (λ xs. seen_all words ++ xs) (sym none))
    ∙ behind_piece (seen_all words) bytes at p is some within

-- a text that is too long, and one that isn't
pub lexed-long : (bs : List ℕ) → MAX_SCRIPT < length bs → lexed bs ≡ Err (record { kind = Limit; at = MAX_SCRIPT })
unfolding lexed
lexed-long bs h = ap (λ t. if t then Err (record { kind = Limit; at = MAX_SCRIPT }) else lexed_from (drop (mark_len bs) bs) (mark_len bs) 0)
    (lt-ltb MAX_SCRIPT (length bs) h)

pub lexed-short : (bs : List ℕ) → length bs ≤ MAX_SCRIPT → lexed bs ≡ lexed_from (drop (mark_len bs) bs) (mark_len bs) 0
unfolding lexed
lexed-short bs h = ap (λ t. if t then Err (record { kind = Limit; at = MAX_SCRIPT }) else lexed_from (drop (mark_len bs) bs) (mark_len bs) 0)
    (le-ltb MAX_SCRIPT (length bs) h)

-- one more token behind the others
pub slices_push : (bytes : List ℕ) (ls : List Lexeme) (l : Lexeme) (from to : ℕ) → AreSlices bytes from ls to → to ≤ l.token.span.start
    → l.token.span.start < l.token.span.end → l.text ≡ slice_range bytes l.token.span.start l.token.span.end
    → AreSlices bytes from (ls ++ l ∷ []) l.token.span.end
slices_push bytes [] l from to are behind some text = (omega arith, some, text, le_refl l.token.span.end)
slices_push bytes (k ∷ ls) l from to are behind some text =
    (are.0, are.1, are.2, slices_push bytes ls l k.token.span.end to are.3 behind some text)

pub slices_widen : (bytes : List ℕ) (ls : List Lexeme) (from to end : ℕ) → AreSlices bytes from ls to → to ≤ end → AreSlices bytes from ls end
slices_widen bytes [] from to end are le = omega arith
slices_widen bytes (k ∷ ls) from to end are le = (are.0, are.1, are.2, slices_widen bytes ls k.token.span.end to end are.3 le)

pub take-more : (n m : ℕ) (xs : List ℕ) → take (n + m) xs ≡ take n xs ++ take m (drop n xs)
take-more zero m xs = ap (λ k. take k xs) (zero-add m)
take-more (suc n) m [] = take-nil (suc n + m) ∙ sym (take-nil m)
take-more (suc n) m (x ∷ xs) =
    let e : suc n + m ≡ suc (n + m) = omega arith in ap (λ k. take k (x ∷ xs)) e ∙ ap (λ ys. x ∷ ys) (take-more n m xs)

-- whole characters behind whole characters
pub whole_more : (bytes rest : List ℕ) (at n : ℕ) → rest ≡ drop at bytes → IsUtf8 (take at bytes) → IsUtf8 (take n rest) → IsUtf8 (take (at + n) bytes)
whole_more bytes rest at n is front more =
    let P : List ℕ → Type 0 = λ xs. IsUtf8 xs in
    subst P (ap (λ xs. take at bytes ++ take n xs) is ∙ sym (take-more at n bytes)) (IsUtf8-append (take at bytes) (take n rest) front more)

-- a front of a front
pub whole_front : (xs : List ℕ) (n m : ℕ) → n ≤ m → IsUtf8 (take n (take m xs)) → IsUtf8 (take n xs)
whole_front xs n m h whole = let P : List ℕ → Type 0 = λ ys. IsUtf8 ys in subst P (take-take n m xs h) whole

-- one more word behind the others
pub slices_word : (bytes : List ℕ) (words more : List Word) (w : Word) (at end : ℕ) → more ≡ words ++ w ∷ [] → w.token.span ≡ record { start = at; end = end }
    → w.text.now ≡ slice_range bytes at end → at < end → AreSlices bytes 0 (seen_all words) at → AreSlices bytes 0 (seen_all more) end
slices_word bytes words more w at end pushed span text some are =
    let start_is : w.token.span.start ≡ at = ap (λ (s : Span). s.start) span in
    let end_is : w.token.span.end ≡ end = ap (λ (s : Span). s.end) span in
    let P : List Lexeme → Type 0 = λ ls. AreSlices bytes 0 ls end in
    let Q : ℕ → Type 0 = λ n. AreSlices bytes 0 (seen_all words ++ seen w ∷ []) n in
    let text_is : w.text.now ≡ slice_range bytes w.token.span.start w.token.span.end =
    text ∙ ap (λ n. slice_range bytes n end) (sym start_is) ∙ ap (λ n. slice_range bytes w.token.span.start n) (sym end_is) in
    subst P (sym (ap seen_all pushed ∙ map-append seen words (w ∷ [])))
    (subst Q end_is (slices_push bytes (seen_all words) (seen w) 0 at are (omega arith) (omega arith) text_is))

-- a text that is a byte order mark
pub whole_mark : (bytes : List ℕ) → starts_with nat_eq bytes (0xEF ∷ 0xBB ∷ 0xBF ∷ []) ≡ true → IsUtf8 (take 3 bytes)
unfolding lib.Utf8.encode
whole_mark bytes h =
    let P : List ℕ → Type 0 = λ xs. IsUtf8 xs in
    let mark : IsUtf8 (0xEF ∷ 0xBB ∷ 0xBF ∷ []) = (0xFEFF ∷ [], (refl, refl)) in
    subst P ((bytes_decides (0xEF ∷ 0xBB ∷ 0xBF ∷ []) (take 3 bytes)).0 h) mark
