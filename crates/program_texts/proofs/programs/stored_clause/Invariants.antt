use Rattle.std.proofs.Common.{◌≡◌, map, drop}
use Rattle.program_texts.specs.Stored.{all_true, is_conjunct_stored}
use Rattle.program_texts.proofs.programs.stored_clause.Given as goal

abbrev pub invariant-loop-c : goal.invariant-loop-c
invariant-loop-c l = all_true (map is_conjunct_stored (drop l.c-index l.clause)) ≡ all_true (map is_conjunct_stored l.clause)
