use Rattle.std.proofs.Common.{◌≡◌, ◌++◌, drop}
use Rattle.ocl_environments.specs.Naming.{behind_colons, texts_of}
use Rattle.ocl_environments.proofs.naming.push_names.Given as goal

abbrev pub invariant-loop-name : goal.invariant-loop-name
invariant-loop-name l = l.text ++ behind_colons (texts_of (drop l.name-index l.names)) ≡ l.initial.text ++ behind_colons (texts_of l.names)
