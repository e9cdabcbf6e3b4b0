use Rattle.std.proofs.Common.{◌≡◌, take}
use Rattle.std.specs.List.{flat_map}
use Rattle.mof_metamodel.specs.Tables.{class_numbers}
use Rattle.repair_semantics.specs.TargetItems.{nested_variables}
use Rattle.repair_semantics.specs.Deletions.{classes_in}
use Rattle.staying_objects.proofs.classes.managed_classes.Given as goal

abbrev pub invariant-loop-rel : goal.invariant-loop-rel
invariant-loop-rel l =
    class_numbers l.classes ≡ flat_map (λ rel. classes_in l.program rel (nested_variables l.program rel)) (take l.rel-index l.program.rels)
