use Rattle.std.proofs.Common.{sym, subst, ap, ◌∙◌, ◌<◌, length}
use Rattle.key_index.specs.Instances.{objects_of, AreOrdered}
use Rattle.key_index.proofs.InstanceLaws.{passed_over, later_ordered, rest_ordered, first_is, fewer_later}
use Rattle.key_index.proofs.extent.first_of.Goals as goal

pub returns-then-is_kind_of-clause-some : goal.returns-then-is_kind_of-clause-some
returns-then-is_kind_of-clause-some c =
    let meta = c.args.meta.now in
    let class = c.args.class.0 in
    let first = c.in-Some.first.now in
    let rest = c.in-Some.rest.now in
    let left = c.loop-first.left.now in
    let at = c.in-Some.ensures.cases.0 in
    (sym c.loop-first.invariant.same ∙ first_is meta class first left rest at (sym c.is_kind_of.ensures ∙ c.if-is_kind_of.true), rest_ordered meta class first left rest at c.loop-first.invariant.ordered)

pub loop-first-smaller : goal.loop-first-smaller
loop-first-smaller c =
    let few = fewer_later c.args.meta.now c.args.class.0 c.in-Some.first.now c.loop-first.left.now c.in-Some.rest.now c.in-Some.ensures.cases.0 in
    subst (λ xs. length xs < length c.loop-first.left.now) (sym c.behind-left.ensures) few

pub loop-first-preserved : goal.loop-first-preserved
loop-first-preserved c =
    let meta = c.args.meta.now in
    let class = c.args.class.0 in
    let first = c.in-Some.first.now in
    let left = c.loop-first.left.now in
    let none = sym c.is_kind_of.ensures ∙ c.if-is_kind_of.false in
    record {
      same =
          ap (objects_of meta class) c.behind-left.ensures
          ∙ passed_over meta class first left c.loop-first.invariant.ordered.ascending c.in-Some.rest.now c.in-Some.ensures.cases.0 none
          ∙ c.loop-first.invariant.same;
      ordered = subst (AreOrdered meta) (sym c.behind-left.ensures) (later_ordered meta first.class.0 left c.loop-first.invariant.ordered);
    }
