use Rattle.std.proofs.Common.{◌≡◌, drop}
use Rattle.qvtr_semantics.specs.Objects.{is_number_among}
use Rattle.entry_making.proofs.keyed.is_among.Given as goal

abbrev pub invariant-loop-n : goal.invariant-loop-n
invariant-loop-n l = is_number_among l.number (drop l.n-index l.numbers) ≡ is_number_among l.number l.numbers
