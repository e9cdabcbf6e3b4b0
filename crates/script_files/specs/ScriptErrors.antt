-- Errors of tokens and of the parser as errors of a script, and which of them are limits.
use Rattle.std.specs.Prelude.{Bool, true, false}
use Rattle.ocl_parser.specs.declared.error.ParseError.{ParseError}
use Rattle.ocl_parser.specs.declared.error.ParseError.TheVariants as parser
use Rattle.ql_lex.specs.declared.fault.LexError.{LexError}
use Rattle.ql_lex.specs.declared.fault.LexError.TheVariants as lexer
use Rattle.ql_lex.specs.declared.fault.LexKind.{LexKind}
use Rattle.ql_lex.specs.declared.fault.LexKind.TheVariants as kinds
use Rattle.script_files.specs.declared.error.ScriptError.{ScriptError}
use Rattle.script_files.specs.declared.error.ScriptError.TheVariants as errors

abbrev pub of_tokens : LexError → ScriptError
of_tokens (lexer.Fault fault) = errors.Tokens fault
of_tokens lexer.NoMemory = errors.NoMemory

abbrev pub of_parser : ParseError → ScriptError
of_parser (parser.Parse at) = errors.Parse at
of_parser (parser.Limit at) = errors.Limit at
of_parser parser.NoMemory = errors.NoMemory

-- the text is too long
abbrev pub is_length : LexKind → Bool
is_length kinds.Limit = true
is_length kind = false

-- a limit is passed: in bytes, or in nesting
abbrev pub is_limit : ScriptError → Bool
is_limit (errors.Tokens fault) = is_length fault.kind
is_limit (errors.Parse at) = false
is_limit (errors.Limit at) = true
is_limit errors.NoMemory = false
