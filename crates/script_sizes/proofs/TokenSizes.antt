-- A text has no more tokens than bytes.
use Rattle.std.specs.Prelude.{◌≤◌, ◌+◌, ℕ, List, length, drop, Option, None, Some}
use Rattle.std.proofs.Common.{arith, length-append, length-drop}
use Rattle.ql_lex.specs.declared.token.TokenKind.{TokenKind}
use Rattle.ql_lex.specs.Lexed.{Lexeme, mark_len}
use Rattle.ql_lex.specs.Tokens.{IsLexed, Lexes, NothingLeft, InFront, token_of}
use Rattle.ql_lex.proofs.StandsLaws.{stands_some}

-- a piece is one token at most
one_token : (at : ℕ) (front : List ℕ) (kind : Option TokenKind) → length (token_of at front kind) ≤ 1
one_token at front None = omega arith
one_token at front (Some kind) = omega arith

few_from : (at : ℕ) (bytes : List ℕ) (ls : List Lexeme) → Lexes at bytes ls → length ls ≤ length bytes
few_from at bytes ls (NothingLeft a) = omega arith
few_from at bytes ls (InFront a kind front rest more stands utf8 lexes) =
    let some = stands_some kind front rest stands in
    let one = one_token a front kind in
    let others = few_from (a + length front) rest more lexes in
    let bytes_are = length-append front rest in
    let tokens_are = length-append (token_of a front kind) more in
    omega (arith, some, one, others, bytes_are, tokens_are)

pub few_tokens : (text : List ℕ) (ls : List Lexeme) → IsLexed text ls → length ls ≤ length text
few_tokens text ls is =
    let few = few_from (mark_len text) (drop (mark_len text) text) ls is.lexes in
    let less = length-drop (mark_len text) text in
    omega (arith, few, less)
