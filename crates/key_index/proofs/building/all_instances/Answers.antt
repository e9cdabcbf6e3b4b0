use Rattle.std.proofs.Common.{◌++◌, ◌∙◌, ap, sym}
use Rattle.key_index.specs.Instances.{instances_of}
use Rattle.key_index.proofs.EntryLaws.{flat_range_more}
use Rattle.key_index.proofs.building.all_instances.Goals as goal

pub loop-object-preserved : goal.loop-object-preserved
loop-object-preserved c =
    let m = c.args.model.now in
    let o = c.loop-object.object in
    c.in_ok-put_instance.ensures ∙ ap (λ xs. xs ++ instances_of m o) c.loop-object.invariant ∙ sym (flat_range_more (instances_of m) o)
