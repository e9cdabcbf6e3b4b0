use Rattle.std.proofs.Common.{◌≡◌, drop}
use Rattle.std.specs.Set.{is_member}
use Rattle.mof_metamodel.specs.Characters.{same_name}
use Rattle.script_scopes.proofs.names.is_given.Given as goal

abbrev pub invariant-loop-given : goal.invariant-loop-given
invariant-loop-given l = is_member same_name (drop l.given-index l.names) l.name ≡ is_member same_name l.names l.name
