use Rattle.std.proofs.Common.{◌≡◌, drop, chars}
use Rattle.std.specs.Set.{is_member}
use Rattle.mof_metamodel.specs.Characters.{same_name}
use Rattle.qvtr_engine.proofs.reading_inputs.is_listed.Given as goal

-- the name is among those that are left exactly where it is among all
abbrev pub invariant-loop-listed : goal.invariant-loop-listed
invariant-loop-listed l = is_member same_name (drop l.listed-index l.names) (chars l.name) ≡ is_member same_name l.names (chars l.name)
