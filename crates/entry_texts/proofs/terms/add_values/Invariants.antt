use Rattle.std.proofs.Common.{◌≡◌, ◌++◌, drop, map}
use Rattle.entry_texts.specs.EntryTexts.{term_value_text, listed}
use Rattle.entry_texts.specs.Commas.{listed_from}
use Rattle.entry_texts.specs.Naming.{question}
use Rattle.entry_texts.proofs.terms.add_values.Given as goal

-- what is there and the values that are left are all values
abbrev pub invariant-loop-place : goal.invariant-loop-place
invariant-loop-place l =
    l.out.items ++ listed_from l.place (map (term_value_text (question l.names)) (drop l.place l.values)) ≡ l.initial.out.items ++ listed (map (term_value_text (question l.names)) l.values)
