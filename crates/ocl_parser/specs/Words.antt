-- The words that are printed of the kinds of faults.
use Rattle.std.specs.Prelude.{ℕ, List, codes}
use Rattle.ocl_parser.specs.declared.error.ParseError.{ParseError}
use Rattle.ocl_parser.specs.declared.error.ParseError.TheVariants as errors

-- the word of an error's kind
abbrev pub error_word : ParseError → List ℕ
error_word (errors.Parse at) = codes "Parse"
error_word (errors.Limit at) = codes "Limit"
error_word errors.NoMemory = codes "NoMemory"
