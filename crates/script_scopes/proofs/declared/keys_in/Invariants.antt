use Rattle.std.proofs.Common.{◌≡◌, map, take}
use Rattle.std.specs.List.{filter_map}
use Rattle.script_scopes.specs.Declarations.{key_in}
use Rattle.script_scopes.proofs.declared.keys_in.Given as goal

abbrev pub invariant-loop-declaration : goal.invariant-loop-declaration
invariant-loop-declaration l = map (λ r. r.now) l.out ≡ filter_map key_in (take l.declaration-index l.declarations)
