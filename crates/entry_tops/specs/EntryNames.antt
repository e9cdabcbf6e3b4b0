-- The names of entries by number: what a call in a when clause looks for (QVT 1.3, sections 7.3 and 7.10.2; entries, and terms by number, are
-- this engine's own).
use Rattle.std.specs.Prelude.{◌≡◌, ◌↔◌, ◌⊎◌, ℕ, List, map, Option, Some, Contains}
use Rattle.std.specs.Option.{option_map, option_or}
use Rattle.qv_syntax.specs.declared.program.Dom.{Dom}
use Rattle.qvtr_semantics.specs.Outs.{all_given}
use Rattle.term_table.specs.declared.numbered.NumberedValue.{NumberedValue}
use Rattle.entry_bindings.specs.declared.matching.Match.{Match}
use Rattle.entry_bindings.specs.Starts.{number_of}
use Rattle.entry_finding.specs.declared.numbered_entry.NumberedEntry.{NumberedEntry}

-- the value of a variable in an entry: that of its binding, or else the one that it makes
abbrev pub value_by_number : NumberedEntry → ℕ → Option NumberedValue
value_by_number e v = option_or (number_of e.values v) (number_of e.made v)

-- the values of the roots of these domains, if each has one
abbrev pub roots_by_number : List Dom → NumberedEntry → Option (List NumberedValue)
roots_by_number doms e = all_given (map (λ dom. value_by_number e dom.root) doms)

-- the name of an entry whose relation has these domains, if each root has a value
abbrev pub match_of : List Dom → NumberedEntry → Option Match
match_of doms e = option_map (λ roots. record { rel = e.rel; roots = roots }) (roots_by_number doms e)

-- the second matches are the first with one more, if there is one
abbrev pub HasMore : List Match → Option Match → List Match → Type 0
HasMore before more after = (m : Match) → Contains after m ↔ (Contains before m ⊎ (more ≡ Some m))

-- the second matches are the first with the names of these entries
abbrev pub HasNamesOf : List Dom → List NumberedEntry → List Match → List Match → Type 0
HasNamesOf doms es before after = (m : Match) → Contains after m ↔ (Contains before m ⊎ ((e : NumberedEntry) × Contains es e × (match_of doms e ≡ Some m)))
