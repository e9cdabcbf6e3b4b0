-- The words that are printed of the kinds of faults.
use Rattle.std.specs.Prelude.{ℕ, List, codes}
use Rattle.xmi_text.specs.declared.error.TextKind.{TextKind}
use Rattle.xmi_text.specs.declared.error.TextKind.TheVariants as kinds

-- a kind's word, in UTF-8
abbrev pub kind_word : TextKind → List ℕ
kind_word kinds.BadUtf8 = codes "BadUtf8"
kind_word kinds.BadMark = codes "BadMark"
kind_word kinds.BadName = codes "BadName"
kind_word kinds.OpenTag = codes "OpenTag"
kind_word kinds.WrongEnd = codes "WrongEnd"
kind_word kinds.DuplicateAttribute = codes "DuplicateAttribute"
kind_word kinds.BadEntity = codes "BadEntity"
kind_word kinds.Doctype = codes "Doctype"
kind_word kinds.Limit = codes "Limit"
