-- The words that are printed of the kinds of faults.
use Rattle.std.specs.Prelude.{ℕ, List, codes}
use Rattle.ql_lex.specs.declared.fault.LexKind.{LexKind}
use Rattle.ql_lex.specs.declared.fault.LexKind.TheVariants as kinds

-- a kind's word
abbrev pub kind_word : LexKind → List ℕ
kind_word kinds.BadUtf8 = codes "BadUtf8"
kind_word kinds.BadChar = codes "BadChar"
kind_word kinds.OpenString = codes "OpenString"
kind_word kinds.OpenComment = codes "OpenComment"
kind_word kinds.BigNumber = codes "BigNumber"
kind_word kinds.Limit = codes "Limit"
