use Rattle.std.proofs.Common.{◌≡◌, take}
use Rattle.script_scopes.proofs.strata.numbered_strata.Given as goal

abbrev pub invariant-loop-stratum : goal.invariant-loop-stratum
invariant-loop-stratum l = l.out ≡ take l.stratum-index l.strata
