use Rattle.std.proofs.Common.{ap, ◌∙◌, sym, arith}
use Rattle.mof_metamodel.specs.Metamodels.{class_count}
use Rattle.mof_metamodel.specs.MetaFaults.{duplicate_in_class}
use Rattle.mof_metamodel.proofs.FirstLemmas.{number_here, number_past, number_none}
use Rattle.mof_metamodel.proofs.duplicates.duplicate_in_classes.Goals as goal

pub returns-then-is_some : goal.returns-then-is_some
returns-then-is_some c =
    let n = c.class_count-c-end.ensures ∙ ap class_count c.named-3.ensures in
    number_here (duplicate_in_class c.args.ordered.now) (class_count c.args.ordered.now) c.loop-c.c c.in_ok-found.found (omega (arith, n)) c.loop-c.invariant c.in_ok-found.ensures (sym c.is_some.ensures ∙ c.if-is_some.true)

pub loop-c-preserved : goal.loop-c-preserved
loop-c-preserved c =
    let n = c.class_count-c-end.ensures ∙ ap class_count c.named-3.ensures in
    number_past (duplicate_in_class c.args.ordered.now) (class_count c.args.ordered.now) c.loop-c.c c.in_ok-found.found (omega (arith, n)) c.loop-c.invariant c.in_ok-found.ensures (sym c.is_some.ensures ∙ c.if-is_some.false)

pub returns : goal.returns
returns c =
    let n = c.class_count-c-end.ensures ∙ ap class_count c.named-3.ensures in
    number_none (duplicate_in_class c.args.ordered.now) (class_count c.args.ordered.now) c.loop-c.c (omega (arith, n)) c.loop-c.invariant
