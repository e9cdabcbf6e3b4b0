use Rattle.std.proofs.Common.{◌≡◌, drop}
use Rattle.term_table.specs.Compared.{keys_compared}
use Rattle.term_table.proofs.comparing.keys_compared.Given as goal

abbrev pub invariant-loop-place : goal.invariant-loop-place
invariant-loop-place l = keys_compared (drop l.place l.ones) (drop l.place l.others) ≡ keys_compared l.ones l.others
