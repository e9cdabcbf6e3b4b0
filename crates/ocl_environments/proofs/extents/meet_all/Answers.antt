use Rattle.std.proofs.Common.{◌∙◌, arith}
use Rattle.ocl_environments.proofs.ModelLemmas.{met_step, met_end}
use Rattle.ocl_environments.proofs.extents.meet_all.Goals as goal

pub loop-i-preserved : goal.loop-i-preserved
loop-i-preserved c = (
  c.meet.ensures.long ∙ c.loop-i.invariant.0,
  λ meta inside.
      met_step c.args.models.now _ _ meta c.loop-i.i c.index-models-i.result (omega arith) c.index-models-i.is (c.meet.ensures.met meta (omega (arith, inside, c.loop-i.invariant.0)))
      ∙ c.loop-i.invariant.1 meta inside,
)

pub returns-clause-met : goal.returns-clause-met
returns-clause-met c = λ meta inside. met_end c.args.models.now _ _ meta c.loop-i.i (omega arith) (c.loop-i.invariant.1 meta inside)
