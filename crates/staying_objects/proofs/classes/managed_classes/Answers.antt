use Rattle.mof_metamodel.specs.Tables.{class_numbers}
use Rattle.staying_objects.proofs.ClassLaws.{relations_more}
use Rattle.staying_objects.proofs.classes.managed_classes.Goals as goal

pub loop-rel-preserved : goal.loop-rel-preserved
loop-rel-preserved c =
    relations_more c.args.program.now c.args.program.now.rels c.as_slice-rel-items.result.now c.loop-rel.rel-index c.rel-item.result
    (class_numbers c.loop-rel.classes) (class_numbers c.put_relation.new.out)
    c.as_slice-rel-items.ensures c.loop-rel-test.true c.rel-item.is c.loop-rel.invariant c.in_ok-put_relation.ensures
