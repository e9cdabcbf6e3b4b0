use Rattle.std.proofs.Common.{◌≡◌, drop, ◌++◌}
use Rattle.std.specs.Prelude.{codes}
use Rattle.std.specs.List.{flat_map}
use Rattle.answer_texts.specs.AskedView.{asked_view}
use Rattle.answer_texts.specs.AnswerTexts.{root_text}
use Rattle.answer_texts.proofs.asked.Asked.add_roots.Given as goal

-- what is there and the values that are left are all values
abbrev pub invariant-loop-domain : goal.invariant-loop-domain
invariant-loop-domain l =
    l.out.items ++ flat_map (λ domain. codes ", " ++ root_text (asked_view l.self) l.values domain) (drop l.domain-index l.domains)
    ≡ l.initial.out.items ++ flat_map (λ domain. codes ", " ++ root_text (asked_view l.self) l.values domain) l.domains
