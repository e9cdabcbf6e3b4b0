use Rattle.std.proofs.Common.{◌≡◌, ◌≤◌, take}
use Rattle.std.specs.List.{count_by}
use Rattle.qvtr_semantics.specs.Data.{same_datum}
use Rattle.ocl_eval.proofs.comparing.occurrences.Given as goal

abbrev pub invariant-loop-element : goal.invariant-loop-element
invariant-loop-element l = record {
  counted : l.count ≡ count_by (same_datum l.datum) (take l.element-index l.elements);
  bound : l.count ≤ l.element-index;
}
