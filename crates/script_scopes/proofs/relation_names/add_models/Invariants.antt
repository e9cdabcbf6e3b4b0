use Rattle.std.proofs.Common.{◌≡◌, ◌++◌, take}
use Rattle.std.specs.List.{filter_map}
use Rattle.script_scopes.specs.Divisions.{model_of}
use Rattle.script_scopes.proofs.relation_names.add_models.Given as goal

abbrev pub invariant-loop-domain : goal.invariant-loop-domain
invariant-loop-domain l = l.out ≡ l.fn.out ++ filter_map model_of (take l.domain-index l.domains)
