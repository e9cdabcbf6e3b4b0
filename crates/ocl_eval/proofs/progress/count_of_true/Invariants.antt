use Rattle.std.proofs.Common.{◌≡◌, ◌≤◌, take}
use Rattle.std.specs.List.{count_by}
use Rattle.ocl_eval.proofs.progress.count_of_true.Given as goal

abbrev pub invariant-loop-condition : goal.invariant-loop-condition
invariant-loop-condition l = record {
  counted : l.count ≡ count_by (λ b. b) (take l.condition-index l.conditions);
  bound : l.count ≤ l.condition-index;
}
