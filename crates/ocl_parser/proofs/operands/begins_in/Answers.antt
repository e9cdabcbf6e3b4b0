use Rattle.std.proofs.Common.{inl, inr, refl}
use Rattle.ocl_parser.proofs.operands.begins_in.Goals as goal

pub returns-in-Row : goal.returns-in-Row
returns-in-Row c = λ rest. elim c.in-Row.is [
  | inl w ↦ rw w.3 refl
  | inr (inl w) ↦ rw w.1 refl
  | inr (inr w) ↦ rw w.1 refl
]
