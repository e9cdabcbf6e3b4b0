use Rattle.std.proofs.Common.{◌≡◌, drop}
use Rattle.script_scopes.specs.FirstEntries.{entries_onto, first_entries}
use Rattle.script_scopes.proofs.object_models.first_models.Given as goal

abbrev pub invariant-loop-model : goal.invariant-loop-model
invariant-loop-model l = entries_onto l.table (drop l.model-index l.models) ≡ first_entries l.models
