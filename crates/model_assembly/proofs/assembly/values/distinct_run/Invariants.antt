use Rattle.std.proofs.Common.{◌≡◌, ◌++◌, [], drop}
use Rattle.model_assembly.specs.AssemblyValues.{run}
use Rattle.model_assembly.specs.Values.{unmet}
use Rattle.model_assembly.proofs.assembly.values.distinct_run.Given as goal

-- the values so far, and then those of the rest that aren't met
abbrev pub invariant-loop-value : goal.invariant-loop-value
invariant-loop-value l = l.slot ++ unmet l.met.set.keys (run l.object l.property.0 (drop l.value-index l.values)) ≡ unmet [] (run l.object l.property.0 l.values)
