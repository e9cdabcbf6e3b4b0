use Rattle.std.proofs.Common.{◌∙◌, sym}
use Rattle.ocl_types.proofs.ConformanceLaws.{related_are}
use Rattle.qvtr_types.proofs.ExpressionLaws.{unrelated}
use Rattle.qvtr_types.proofs.expressions.refuse_unrelated.Goals as goal

pub returns-then-are_related-clause-related : goal.returns-then-are_related-clause-related
returns-then-are_related-clause-related c =
    related_are c.args.metas.now c.requires.well c.args.found.now c.args.wanted.now (sym c.are_related.ensures ∙ c.if-are_related.true)

pub returns-clause-fault : goal.returns-clause-fault
returns-clause-fault c = (
  unrelated c.args.metas.now c.requires.well c.args.found.now c.args.wanted.now c.requires.found c.requires.wanted (sym c.are_related.ensures ∙ c.if-are_related.false),
  c.in_ok-fault.ensures,
)
