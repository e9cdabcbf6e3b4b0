use Rattle.std.proofs.Common.{◌<◌, ap, ◌∙◌, arith}
use Rattle.mof_metamodel.specs.Metamodels.{class_count, lineage_of}
use Rattle.mof_metamodel.proofs.TableLemmas.{entry_more}
use Rattle.mof_metamodel.proofs.LineLemmas.{lines_count}
use Rattle.mof_metamodel.proofs.OrderLemmas.{lineage_is}
use Rattle.mof_metamodel.proofs.lineages.all_lineages.Goals as goal

pub bounds-lines-c : goal.bounds-lines-c
bounds-lines-c c =
    let n = c.class_count-c-end.ensures ∙ ap class_count c.named.ensures in
    let m = lines_count c.args.hierarchy.now (class_count c.args.hierarchy.now) c.args.lines.now c.requires in
    omega (arith, n, m)

pub loop-c-preserved : goal.loop-c-preserved
loop-c-preserved c =
    let n = c.class_count-c-end.ensures ∙ ap class_count c.named.ensures in
    let short : c.loop-c.c < class_count c.args.hierarchy.now = omega (arith, n) in
    c.in_ok-push.ensures.items
    ∙ entry_more c.loop-c.lineages.items (lineage_of c.args.hierarchy.now) c.loop-c.c c.in_ok-classes.classes c.loop-c.invariant
    (c.in_ok-classes.ensures ∙ lineage_is c.args.hierarchy.now c.args.lines.now c.requires c.loop-c.c c.index-lines-c.result short c.index-lines-c.is)
