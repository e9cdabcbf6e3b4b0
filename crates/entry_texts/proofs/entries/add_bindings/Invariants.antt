use Rattle.std.proofs.Common.{◌≡◌, ◌++◌, drop, map}
use Rattle.std.specs.List.{concat, zip}
use Rattle.entry_texts.specs.EntryTexts.{binding_line}
use Rattle.entry_texts.specs.Naming.{question}
use Rattle.entry_texts.proofs.entries.add_bindings.Given as goal

-- what is there and the lines that are left are all lines
abbrev pub invariant-loop-place : goal.invariant-loop-place
invariant-loop-place l =
    l.out.items ++ concat (map (binding_line (question l.names)) (zip (drop l.place l.vars) (drop l.place l.values)))
    ≡ l.initial.out.items ++ concat (map (binding_line (question l.names)) (zip l.vars l.values))
