use Rattle.std.proofs.Common.{◌≡◌, ◌++◌, drop}
use Rattle.std.specs.List.{flat_map}
use Rattle.entry_texts.specs.EntryTexts.{entry_call_line}
use Rattle.entry_texts.specs.Naming.{question}
use Rattle.entry_texts.proofs.entries.add_chain.Given as goal

-- what is there and the lines that are left are all lines
abbrev pub invariant-loop-call : goal.invariant-loop-call
invariant-loop-call l =
    l.out.items ++ flat_map (entry_call_line (question l.names)) (drop l.call-index l.chain)
    ≡ l.initial.out.items ++ flat_map (entry_call_line (question l.names)) l.chain
