use Rattle.std.proofs.Common.{◌≡◌, ◌++◌, drop, map}
use Rattle.std.specs.List.{zip}
use Rattle.entry_texts.specs.EntryTexts.{pair_text, term_value_text, listed}
use Rattle.entry_texts.specs.Commas.{listed_from}
use Rattle.entry_texts.specs.Naming.{question}
use Rattle.entry_texts.proofs.terms.+terms.Given as goal

-- what is there and the pairs that are left are all pairs
abbrev pub invariant-add_pairs-loop-place : goal.invariant-add_pairs-loop-place
invariant-add_pairs-loop-place l =
    l.out.items ++ listed_from l.place (map (pair_text (question l.names)) (zip (drop l.place l.props) (drop l.place (map (term_value_text (question l.names)) l.values))))
    ≡ l.initial.out.items ++ listed (map (pair_text (question l.names)) (zip l.props (map (term_value_text (question l.names)) l.values)))
