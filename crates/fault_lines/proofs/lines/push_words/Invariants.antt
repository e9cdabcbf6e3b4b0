use Rattle.std.proofs.Common.{◌≡◌, ◌++◌, drop, map}
use Rattle.fault_lines.specs.Lines.{behind}
use Rattle.fault_lines.proofs.lines.push_words.Given as goal

-- the text, and the words that are left, are the text at first and all words
abbrev pub invariant-loop-word : goal.invariant-loop-word
invariant-loop-word l = l.text.items ++ behind (map (λ w. w.now) (drop l.word-index l.words)) ≡ l.initial.text.items ++ behind (map (λ w. w.now) l.words)
