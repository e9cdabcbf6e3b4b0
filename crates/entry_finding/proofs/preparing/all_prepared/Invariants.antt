use Rattle.std.proofs.Common.{◌≡◌, ℕ, length}
use Rattle.std.specs.Prelude.{Option, Some, slice_get}
use Rattle.qv_syntax.specs.declared.program.Rel.{Rel}
use Rattle.entry_finding.specs.declared.preparation.Preparation.{Preparation}
use Rattle.entry_finding.specs.Prepared.{IsPrepared}
use Rattle.entry_finding.proofs.preparing.all_prepared.Given as goal

abbrev pub invariant-loop-i : goal.invariant-loop-i
invariant-loop-i l = record {
  places : length l.all ≡ l.i;
  are : (number : ℕ) (rel : Rel) (p : Option Preparation) → slice_get l.program.rels number ≡ Some rel → slice_get l.all number ≡ Some p → IsPrepared l.program l.meta number rel p;
}
