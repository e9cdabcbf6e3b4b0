use Rattle.std.proofs.Common.{◌≡◌, drop, map, ◌++◌}
use Rattle.std.specs.List.{concat}
use Rattle.answer_texts.specs.AskedView.{asked_view}
use Rattle.answer_texts.specs.AnswerTexts.{variable_line}
use Rattle.answer_texts.proofs.asked.Asked.add_variables.Given as goal

-- what is there and the lines that are left are all lines
abbrev pub invariant-loop-variable : goal.invariant-loop-variable
invariant-loop-variable l =
    l.out.items ++ concat (map (variable_line (asked_view l.self) l.rel l.values) (drop l.variable-index l.rel.universal))
    ≡ l.initial.out.items ++ concat (map (variable_line (asked_view l.self) l.rel l.values) l.rel.universal)
