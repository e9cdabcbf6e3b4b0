-- A wrong answer that the definitions exclude: what the definition gives, and that it isn't what the wrong code would answer. A
-- contract says that the code's result is what the definition gives, so it refuses that code.
use Rattle.std.specs.Prelude.{◌≡◌, ℕ}
use Rattle.std.proofs.Common.{refl}
use Rattle.ocl_parser.specs.declared.error.ParseError.TheVariants as parser
use Rattle.script_files.specs.declared.error.ScriptError.TheVariants as errors
use Rattle.script_files.specs.ScriptErrors.{of_parser}

pub of_the_grammar : (at : ℕ) → of_parser (parser.Parse at) ≡ errors.Parse at
of_the_grammar at = refl

-- a fault of the grammar told as one of nesting
pub parse_told_as_nesting : (at : ℕ) → of_parser (parser.Parse at) ≡ errors.Limit at → ⊥
parse_told_as_nesting at e = cc
