-- The bytes at which tokens stand.
use Rattle.std.specs.Prelude.{ℕ, slice_get}
use Rattle.std.specs.Option.{option_map_or}
use Rattle.ql_lex.specs.Lexed.{LexedText}

-- where the token of this number begins, or the text ends
abbrev pub place_of : LexedText → ℕ → ℕ
place_of text at = option_map_or (λ l. l.token.span.start) (slice_get text.lexemes at) text.end
