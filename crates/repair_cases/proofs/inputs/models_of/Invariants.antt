use Rattle.std.proofs.Common.{◌≡◌, length}
use Rattle.evaluation_laws.specs.TypedValues.{AreModels}
use Rattle.repair_cases.proofs.inputs.models_of.Given as goal

-- the slots so far have their models
abbrev pub invariant-loop-slot : goal.invariant-loop-slot
invariant-loop-slot l = record {
  count : length l.models ≡ l.slot-index;
  are : AreModels l.metas (record { slots = l.slots; models = l.models });
}
