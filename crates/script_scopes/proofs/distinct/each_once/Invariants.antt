use Rattle.std.proofs.Common.{◌≡◌, map}
use Rattle.script_scopes.specs.ScriptNames.{each_once as distinct}
use Rattle.script_scopes.proofs.distinct.each_once.Given as goal

abbrev pub invariant-loop-name : goal.invariant-loop-name
invariant-loop-name l = map (λ e. e.0) l.met ≡ distinct l.yielded
