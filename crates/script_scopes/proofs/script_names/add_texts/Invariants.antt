use Rattle.std.proofs.Common.{◌≡◌, ◌++◌, take}
use Rattle.script_scopes.proofs.script_names.add_texts.Given as goal

abbrev pub invariant-loop-name : goal.invariant-loop-name
invariant-loop-name l = l.out ≡ l.fn.out ++ take l.name-index l.names
