-- Wrong answers that the definitions exclude, each on a small case: what the definition gives, and that it isn't what the wrong
-- code would answer. A contract says that the code's result is what the definition gives, so it refuses that code.
use Rattle.std.specs.Prelude.{◌≡◌, ◌<◌, ◌==◌, ℕ, false, true, List, [], ◌∷◌, codes, take, if◌then◌else◌, Some, Result, Ok, Err}
use Rattle.std.specs.Str.Lossy.{utf8_valid_len}
use Rattle.std.proofs.Common.{refl, ap, subst, arith}
use Rattle.std.proofs.lemmas.Bool.Decides.{nat_tests}
use Rattle.ql_lex.specs.declared.token.TokenKind.TheVariants as kinds
use Rattle.ql_lex.specs.declared.fault.LexKind.TheVariants.{BadUtf8}
use Rattle.ql_lex.specs.declared.fault.LexFault.{LexFault}
use Rattle.ql_lex.specs.declared.piece.Piece.{Piece}
use Rattle.ql_lex.specs.Lexed.{Lexeme, lexemes_of}
use Rattle.ql_lex.specs.Forms.{is_reserved, whole_form_of}

-- ---- the token of `12`, three bytes behind the front of a text

abbrev twelve : ℕ → Lexeme
twelve end = record { token = record { kind = kinds.Number; span = record { start = 3; end = end } }; text = codes "12" }

abbrev end_of : List Lexeme → ℕ
end_of [] = 0
end_of (l ∷ ls) = l.token.span.end

pub span_of_both_digits : lexemes_of 3 (codes "12") (record { kind = Some kinds.Number; len = 2 }) ≡ twelve 5 ∷ []
span_of_both_digits = refl

-- a token that ends behind its first byte
pub span_of_one_byte : lexemes_of 3 (codes "12") (record { kind = Some kinds.Number; len = 2 }) ≡ twelve 4 ∷ [] → ⊥
span_of_one_byte e = let apart : 5 ≡ 4 = ap end_of e in absurd (omega (arith, apart))

-- ---- words

pub a_reserved_word : is_reserved (codes "in") ≡ true
unfolding is_reserved
a_reserved_word = refl

-- a name, where a reserved word stands
pub reserved_word_is_a_name : is_reserved (codes "in") ≡ false → ⊥
unfolding is_reserved
reserved_word_is_a_name e = cc

-- ---- faults

abbrev place_of : Result Piece LexFault → ℕ
place_of (Ok piece) = 0
place_of (Err f) = f.at

-- the fault of a form, or where its first n bytes alone are whole characters, the byte behind these
abbrev told : ℕ → LexFault → Result Piece LexFault
told n f = if n == f.at then Err f else Err (record { kind = BadUtf8; at = n })

told_elsewhere : (n : ℕ) (f : LexFault) → n < f.at → told n f ≡ Err f → ⊥
told_elsewhere n f before e =
    let other : (n == f.at) ≡ false = grind (arith, nat_tests) in
    let broken : Result Piece LexFault = Err (record { kind = BadUtf8; at = n }) in
    let own : Result Piece LexFault = Err f in
    let moved : broken ≡ own = subst (λ b. (if b then own else broken) ≡ own) other e in
    let same : n ≡ f.at = ap place_of moved in
    absurd (omega (arith, before, same))

-- the fault of a form, where a byte before it is no character
pub fault_of_the_later_place : (bytes : List ℕ) (f : LexFault) → utf8_valid_len (take f.at bytes) < f.at → whole_form_of bytes (Err f) ≡ Err f → ⊥
fault_of_the_later_place bytes f before e = told_elsewhere (utf8_valid_len (take f.at bytes)) f before e
