use Rattle.std.proofs.Common.{◌≡◌, [], drop}
use Rattle.ocl_eval.specs.Progress.{all_new}
use Rattle.ocl_eval.proofs.progress.all_new.Given as goal

abbrev pub invariant-loop-value : goal.invariant-loop-value
invariant-loop-value l = all_new l.met.outs.keys (drop l.value-index l.values) ≡ all_new [] l.values
