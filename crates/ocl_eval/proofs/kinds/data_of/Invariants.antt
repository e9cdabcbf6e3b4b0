use Rattle.std.proofs.Common.{◌≡◌, drop, map}
use Rattle.qvtr_semantics.specs.Outs.{datum_of, all_given}
use Rattle.ocl_eval.proofs.ListLaws.{given_behind}
use Rattle.ocl_eval.proofs.kinds.data_of.Given as goal

abbrev pub invariant-loop-out : goal.invariant-loop-out
invariant-loop-out l = given_behind l.found (all_given (map datum_of (drop l.out-index l.outs))) ≡ all_given (map datum_of l.outs)
