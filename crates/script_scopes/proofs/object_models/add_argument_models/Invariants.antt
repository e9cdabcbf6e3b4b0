use Rattle.std.proofs.Common.{◌≡◌, ◌++◌, drop}
use Rattle.script_scopes.specs.ModelLists.{argument_models}
use Rattle.script_scopes.proofs.object_models.add_argument_models.Given as goal

abbrev pub invariant-loop-i : goal.invariant-loop-i
invariant-loop-i l = l.out ++ argument_models (drop l.i l.args) (drop l.i l.domains) ≡ l.fn.out ++ argument_models l.args l.domains
