use Rattle.std.proofs.Common.{◌≡◌, take}
use Rattle.qvtr_semantics.specs.declared.datum.Datum.{Datum}
use Rattle.qvtr_semantics.specs.Data.{is_among}
use Rattle.ocl_eval.proofs.met.Met.all_of.Given as goal

abbrev pub invariant-loop-element : goal.invariant-loop-element
invariant-loop-element l = (e : Datum) → is_among e l.met.data.keys ≡ is_among e (take l.element-index l.elements)
