use Rattle.std.proofs.Common.{◌≡◌, map, take}
use Rattle.entry_making.specs.Numbered.{bound_out}
use Rattle.entry_making.proofs.scopes.begun_scope.Given as goal

abbrev pub invariant-loop-value : goal.invariant-loop-value
invariant-loop-value l = l.outs ≡ map bound_out (take l.value-index l.b)
