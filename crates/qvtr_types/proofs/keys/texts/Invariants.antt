use Rattle.std.proofs.Common.{◌≡◌, take}
use Rattle.ocl_environments.specs.Naming.{texts_of}
use Rattle.qvtr_types.proofs.keys.texts.Given as goal

abbrev pub invariant-loop-name : goal.invariant-loop-name
invariant-loop-name l = l.out ≡ texts_of (take l.name-index l.names)
