use Rattle.std.proofs.Common.{ap, ◌∙◌, sym, arith, true≢false, below_more}
use Rattle.mof_metamodel.specs.Metamodels.{class_count, IsCircular}
use Rattle.mof_metamodel.proofs.circles.first_circle.Goals as goal

pub loop-c-preserved : goal.loop-c-preserved
loop-c-preserved c =
    below_more (λ d. IsCircular c.args.hierarchy.now d → ⊥) c.loop-c.c c.loop-c.invariant
    (λ circular. true≢false (sym (c.in_ok-circular.ensures.1 circular) ∙ c.if-circular.false))

pub returns-then-circular : goal.returns-then-circular
returns-then-circular c = record {
  within = let n = c.class_count-c-end.ensures ∙ ap class_count c.named.ensures in omega (arith, n);
  circular = c.in_ok-circular.ensures.0 c.if-circular.true;
  first = c.loop-c.invariant;
}

pub returns : goal.returns
returns c d l circular = c.loop-c.invariant d (let n = c.class_count-c-end.ensures ∙ ap class_count c.named.ensures in omega (arith, n)) circular
