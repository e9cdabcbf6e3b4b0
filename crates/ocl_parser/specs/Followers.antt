-- The tokens with which no expression goes on, where it stands in no other.
use Rattle.std.specs.Prelude.{Bool, ◌||◌, not, codes}
use Rattle.ql_lex.specs.Lexed.{Lexeme}
use Rattle.ql_lex.specs.Lexemes.{is_sign}

-- the signs that may follow an expression of a script
abbrev pub follows : Lexeme → Bool
follows l = is_sign (codes "}") l || is_sign (codes ",") l || is_sign (codes ";") l

-- any other token
abbrev pub may_go_on : Lexeme → Bool
may_go_on l = not (follows l)
