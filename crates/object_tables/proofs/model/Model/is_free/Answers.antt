use Rattle.std.proofs.Common.{rules}
use Rattle.object_tables.proofs.ConditionLemmas.{free-exactly, not_free}
use Rattle.object_tables.proofs.model.Model.is_free.Goals as goal

pub returns-then-not-may_be_part : goal.returns-then-not-may_be_part
returns-then-not-may_be_part c = (
  (λ no. absurd (search rules)),
  (λ free. absurd (not_free c.args.self.now c.args.p.0 c.args.a.0 c.args.b.0 c.is_composite_at.result c.may_be_part.result c.is_composite_at.ensures c.may_be_part.ensures c.if-not-may_be_part.true free)),
)

pub returns : goal.returns
returns c =
    free-exactly c.args.self.now c.args.p.0 c.args.a.0 c.args.b.0 c.is_composite_at.result c.is_part_at.result c.may_be_part.result c.may_be_part-2.result
    c.is_composite_at.ensures c.is_part_at.ensures c.may_be_part.ensures c.if-not-may_be_part.false c.may_be_part-2.ensures
