-- The tokens of a text by the grammar are those by the counters of bytes.
use Rattle.std.proofs.Common.{◌≡◌, ℕ, zero, suc, ◌+◌, ◌<◌, ◌≤◌, ◌↔◌, ⊎_elim, Bool, true, false, if◌then◌else◌, List, [], ◌∷◌, ◌++◌, length, take, drop, Option, Some, None, Result, Ok, Err, refl, sym, ◌∙◌, ap, subst, arith, take_at, length-append, length-drop}
use Rattle.std.specs.Prelude.{◌==◌, IfOk, IfErr}
use Rattle.std.specs.Str.{IsUtf8, IsValidUpTo}
use Rattle.std.specs.Str.Lossy.{utf8_valid_len}
use Rattle.std.proofs.lemmas.Bool.{cases_lt}
use Rattle.std.proofs.lemmas.Bool.Decides.{nat_tests}
use Rattle.std.proofs.lemmas.List.{drop_at}
use Rattle.std.proofs.lemmas.Str.{utf8_valid_len-IsUtf8}
use Rattle.bstr.proofs.lemmas.LossyLemmas.{utf8_valid_len-cases}
use Rattle.mof_metamodel.specs.Giving.{Gives}
use Rattle.ql_lex.specs.declared.limits.TheConstants.{MAX_SCRIPT}
use Rattle.ql_lex.specs.declared.token.TokenKind.{TokenKind}
use Rattle.ql_lex.specs.declared.fault.LexFault.{LexFault}
use Rattle.ql_lex.specs.declared.fault.LexError.{LexError}
use Rattle.ql_lex.specs.declared.fault.LexError.TheVariants as errors
use Rattle.ql_lex.specs.declared.fault.LexKind.TheVariants.{BadUtf8, Limit}
use Rattle.ql_lex.specs.declared.piece.Piece.{Piece}
use Rattle.ql_lex.specs.Forms.{form, whole_form, whole_form_of, fault}
use Rattle.ql_lex.specs.Lexed.{Lexeme, LexedText, lexemes_of, with_front, moved, lexed, lexed_from, mark_len}
use Rattle.ql_lex.specs.Answers.{Fails, fault_of}
use Rattle.ql_lex.specs.Tokens.{Stands, Lexes, NothingLeft, InFront, IsLexed, token_of}
use Rattle.ql_lex.proofs.Laws.{whole_form-ok, lexed_from-piece, lexed_from-fault, lexed-long, lexed-short}
use Rattle.ql_lex.proofs.FormLaws.{IsSplit, Splits, splits_form}
use Rattle.ql_lex.proofs.StandsLaws.{form_stands, stands_some}

-- ---- pieces of whole characters

-- what a form of whole characters is
record IsWhole (bs : List ℕ) (p : Piece) : Type 0 where
  form_is : form bs ≡ Ok p
  whole : utf8_valid_len (take p.len bs) ≡ p.len

whole_by : (bs : List ℕ) (r : Result Piece LexFault) (p : Piece) → form bs ≡ r → whole_form_of bs r ≡ Ok p → IsWhole bs p
whole_by bs (Ok q) p is e = by (utf8_valid_len (take q.len bs) == q.len) refl e
  where
    by : (t : Bool) → (utf8_valid_len (take q.len bs) == q.len) ≡ t → (if t then Ok q else fault BadUtf8 (utf8_valid_len (take q.len bs))) ≡ Ok p → IsWhole bs p
    by true same e =
        let one : q ≡ p = cc in
        let len : utf8_valid_len (take q.len bs) ≡ q.len = grind (arith, nat_tests) in
        subst (λ (x : Piece). IsWhole bs x) one (record { form_is = is; whole = len })
    by false same e = cc
whole_by bs (Err f) p is e = by (utf8_valid_len (take f.at bs) == f.at) e
  where
    by : (t : Bool) → (if t then Err f else fault BadUtf8 (utf8_valid_len (take f.at bs))) ≡ Ok p → IsWhole bs p
    by true e = cc
    by false e = cc

whole_of : (bs : List ℕ) (p : Piece) → whole_form bs ≡ Ok p → IsWhole bs p
unfolding whole_form
whole_of bs p e = whole_by bs (form bs) p refl e

-- bytes of which all are whole characters
utf8_of : (bs : List ℕ) → utf8_valid_len bs ≡ length bs → IsUtf8 bs
utf8_of bs e = ⊎_elim (λ (whole : IsUtf8 bs). whole) (λ (cut : IsValidUpTo bs (utf8_valid_len bs)). absurd (omega (arith, cut.short, e))) (utf8_valid_len-cases bs)

split_of : (bs : List ℕ) (r : Result Piece LexFault) (p : Piece) → form bs ≡ r → r ≡ Ok p → 0 < length bs → IsSplit bs p
split_of bs r p is e some = subst (Splits bs) (is ∙ e) (splits_form bs some)

-- ---- from the grammar to the counters

token_same : (at : ℕ) (front rest : List ℕ) (kind : Option TokenKind)
    → lexemes_of at (front ++ rest) (record { kind = kind; len = length front }) ≡ token_of at front kind
token_same at front rest None = refl
token_same at front rest (Some k) =
    ap (λ (t : List ℕ). record { token = record { kind = k; span = record { start = at; end = at + length front } }; text = t } ∷ []) (take_at front rest (length front) refl)

in_front : (at : ℕ) (kind : Option TokenKind) (front rest : List ℕ) (more : List Lexeme) → Stands kind front rest → IsUtf8 front
    → lexed_from rest (at + length front) 0 ≡ Ok more → lexed_from (front ++ rest) at 0 ≡ Ok (token_of at front kind ++ more)
in_front at kind front rest more stands utf8 later =
    let p : Piece = record { kind = kind; len = length front } in
    let there : take (length front) (front ++ rest) ≡ front = take_at front rest (length front) refl in
    let valid : utf8_valid_len (take (length front) (front ++ rest)) ≡ length front = ap utf8_valid_len there ∙ utf8_valid_len-IsUtf8 front utf8 in
    let whole : whole_form (front ++ rest) ≡ Ok p = whole_form-ok (front ++ rest) p (form_stands kind front rest stands) valid in
    lexed_from-piece (front ++ rest) at p whole (stands_some kind front rest stands) (omega (arith, length-append front rest))
    ∙ ap (λ xs. with_front (lexemes_of at (front ++ rest) p) (lexed_from xs (at + length front) 0)) (drop_at front rest (length front) refl)
    ∙ ap (with_front (lexemes_of at (front ++ rest) p)) later
    ∙ ap (λ (ls : List Lexeme). Ok (ls ++ more)) (token_same at front rest kind)

pub lexes_counted : (at : ℕ) (bs : List ℕ) (ls : List Lexeme) → Lexes at bs ls → lexed_from bs at 0 ≡ Ok ls
unfolding lexed_from
lexes_counted _ _ _ (NothingLeft at) = refl
lexes_counted _ _ _ (InFront at kind front rest more stands utf8 later) =
    in_front at kind front rest more stands utf8 (lexes_counted (at + length front) rest more later)

-- ---- and back

more_by : (front : List Lexeme) (r : Result (List Lexeme) LexFault) (ls : List Lexeme) → with_front front r ≡ Ok ls
    → (more : List Lexeme) × (r ≡ Ok more) × (front ++ more ≡ ls)
more_by front (Ok more) ls e = (more, refl, cc)
more_by front (Err f) ls e = cc

front_by : (at : ℕ) (bs : List ℕ) (p : Piece) (ls : List Lexeme) → IsWhole bs p → (s : IsSplit bs p) → lexed_from bs at 0 ≡ Ok ls
    → whole_form bs ≡ Ok p → ((n : ℕ) → 0 < n → (more : List Lexeme) → lexed_from (drop n bs) (at + n) 0 ≡ Ok more → Lexes (at + n) (drop n bs) more) → Lexes at bs ls
front_by at bs p ls w s e is later =
    let long : length bs ≡ length s.front + length s.rest = ap length s.is ∙ length-append s.front s.rest in
    let cut : lexed_from bs at 0 ≡ with_front (lexemes_of at bs p) (lexed_from (drop p.len bs) (at + p.len) 0) =
    lexed_from-piece bs at p is (omega (arith, s.some, s.len)) (omega (arith, s.len, long)) in
    let m = more_by (lexemes_of at bs p) (lexed_from (drop p.len bs) (at + p.len) 0) ls (sym cut ∙ e) in
    let front_is : take p.len bs ≡ s.front = ap (take p.len) s.is ∙ take_at s.front s.rest p.len s.len in
    let rest_is : drop p.len bs ≡ s.rest = ap (drop p.len) s.is ∙ drop_at s.front s.rest p.len s.len in
    let utf8 : IsUtf8 s.front = utf8_of s.front (ap utf8_valid_len (sym front_is) ∙ w.whole ∙ sym s.len) in
    let behind : Lexes (at + p.len) (drop p.len bs) m.0 = later p.len (omega (arith, s.some, s.len)) m.0 m.1 in
    let moved_to : Lexes (at + length s.front) s.rest m.0 =
    subst (λ (n : ℕ). Lexes (at + n) s.rest m.0) (sym s.len) (subst (λ (xs : List ℕ). Lexes (at + p.len) xs m.0) rest_is behind) in
    let same : lexemes_of at bs p ≡ token_of at s.front p.kind =
    ap (λ xs. lexemes_of at xs p) s.is ∙ ap (λ n. lexemes_of at (s.front ++ s.rest) (record { kind = p.kind; len = n })) (sym s.len) ∙ token_same at s.front s.rest p.kind in
    let all : token_of at s.front p.kind ++ m.0 ≡ ls = ap (λ (xs : List Lexeme). xs ++ m.0) (sym same) ∙ m.2 in
    subst (λ (xs : List Lexeme). Lexes at bs xs) all
    (subst (λ (xs : List ℕ). Lexes at xs (token_of at s.front p.kind ++ m.0)) (sym s.is) (InFront at p.kind s.front s.rest m.0 s.stands utf8 moved_to))

counted_within : (fuel : ℕ) (at : ℕ) (bs : List ℕ) (ls : List Lexeme) → length bs ≤ fuel → lexed_from bs at 0 ≡ Ok ls → Lexes at bs ls
unfolding lexed_from
counted_within fuel at [] ls within e = let none : [] ≡ ls = cc in subst (λ (xs : List Lexeme). Lexes at [] xs) none (NothingLeft at)
counted_within zero at (b ∷ bs) ls within e = absurd (omega arith)
counted_within (suc fuel) at (b ∷ bs) ls within e =
    by (whole_form (b ∷ bs)) refl (λ n some more e. counted_within fuel (at + n) (drop n (b ∷ bs)) more (omega (arith, some, within, length-drop n (b ∷ bs))) e)
  where
    by : (r : Result Piece LexFault) → whole_form (b ∷ bs) ≡ r
        → ((n : ℕ) → 0 < n → (more : List Lexeme) → lexed_from (drop n (b ∷ bs)) (at + n) 0 ≡ Ok more → Lexes (at + n) (drop n (b ∷ bs)) more) → Lexes at (b ∷ bs) ls
    by (Ok p) is later =
        let w : IsWhole (b ∷ bs) p = whole_of (b ∷ bs) p is in
        front_by at (b ∷ bs) p ls w (split_of (b ∷ bs) (form (b ∷ bs)) p refl w.form_is (omega arith)) e is later
    by (Err f) is later =
        let none : lexed_from (b ∷ bs) at 0 ≡ Err (moved at f) = lexed_from-fault (b ∷ bs) at f (omega arith) is in
        let no : Ok ls ≡ Err (moved at f) = sym e ∙ none in
        absurd cc

-- ---- whole texts

pub lexed_counted : (text : List ℕ) (ls : List Lexeme) → IsLexed text ls → lexed text ≡ Ok ls
lexed_counted text ls l = lexed-short text l.within ∙ lexes_counted (mark_len text) (drop (mark_len text) text) ls l.lexes

pub counted_lexed : (text : List ℕ) (ls : List Lexeme) → lexed text ≡ Ok ls → IsLexed text ls
counted_lexed text ls e = ⊎_elim
    (λ (long : MAX_SCRIPT < length text). let no : Ok ls ≡ Err (record { kind = Limit; at = MAX_SCRIPT }) = sym e ∙ lexed-long text long in absurd cc)
    (λ (short : length text ≤ MAX_SCRIPT). record {
      within = short;
      lexes = counted_within (length (drop (mark_len text) text)) (mark_len text) (drop (mark_len text) text) ls (omega arith) (sym (lexed-short text short) ∙ e);
    })
    (cases_lt MAX_SCRIPT (length text))

pub lexed_is : (text : List ℕ) (ls : List Lexeme) → (lexed text ≡ Ok ls) ↔ IsLexed text ls
lexed_is text ls = (counted_lexed text ls, lexed_counted text ls)

-- what is answered by the counters, by the grammar
pub tokens_given : (text : List ℕ) (result : Result LexedText LexError) → Gives fault_of (λ (t : LexedText). t.lexemes) result (lexed text) → IfOk result (λ t. IsLexed text t.lexemes)
tokens_given text (Ok t) g = counted_lexed text t.lexemes g
tokens_given text (Err e) g = tt

pub only_given : (text : List ℕ) (result : Result LexedText LexError) (ls : List Lexeme) → Gives fault_of (λ (t : LexedText). t.lexemes) result (lexed text) → IsLexed text ls
    → IfErr result (λ e. e ≡ errors.NoMemory)
only_given text (Ok t) ls g l = tt
only_given text (Err (errors.Fault f)) ls g l = let no : Ok ls ≡ Err f = sym (lexed_counted text ls l) ∙ g in cc
only_given text (Err errors.NoMemory) ls g l = refl

pub fault_given : (text : List ℕ) (result : Result LexedText LexError) → Gives fault_of (λ (t : LexedText). t.lexemes) result (lexed text) → IfErr result (λ e. Fails e (lexed text))
fault_given text (Ok t) g = tt
fault_given text (Err e) g = g
