use Rattle.std.proofs.Common.{◌≡◌, drop, map, ◌++◌}
use Rattle.std.specs.List.{concat}
use Rattle.answer_texts.proofs.joining.add_all.Given as goal

-- what is there and the texts that are left are all texts
abbrev pub invariant-loop-text : goal.invariant-loop-text
invariant-loop-text l = l.out.items ++ concat (map (λ t. t.now) (drop l.text-index l.texts)) ≡ l.initial.out.items ++ concat (map (λ t. t.now) l.texts)
