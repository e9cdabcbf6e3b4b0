use Rattle.std.proofs.Common.{◌≡◌, drop, ◌++◌}
use Rattle.std.specs.List.{flat_map}
use Rattle.relation_calls.specs.Names.{chain_named}
use Rattle.answer_texts.specs.AskedView.{asked_view}
use Rattle.answer_texts.specs.AnswerTexts.{call_line}
use Rattle.answer_texts.proofs.asked.Asked.chain_text.Given as goal

-- what is there and the lines that are left are all of the text
abbrev pub invariant-loop-call : goal.invariant-loop-call
invariant-loop-call l =
    l.out.items ++ flat_map (call_line (asked_view l.self)) (chain_named (drop l.call-index l.chain))
    ≡ l.word ++ flat_map (call_line (asked_view l.self)) (chain_named l.chain)
