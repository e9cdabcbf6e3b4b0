use Rattle.std.proofs.Common.{◌∙◌, sym}
use Rattle.mof_metamodel.proofs.ClassOrderLemmas.{united-present}
use Rattle.mof_metamodel.proofs.lineages.join_one.Goals as goal

pub returns-then-marks-c-clause-joint : goal.returns-then-marks-c-clause-joint
returns-then-marks-c-clause-joint c =
    sym (united-present c.args.joint.now c.args.order.now (c.requires.there (sym (c.requires.marks c.args.c c.requires.class) ∙ c.if-marks-c.true)))
