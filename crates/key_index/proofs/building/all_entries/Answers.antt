use Rattle.std.proofs.Common.{◌++◌, ◌∙◌, ap, sym}
use Rattle.key_index.specs.Entries.{entries_of}
use Rattle.key_index.proofs.EntryLaws.{flat_range_more}
use Rattle.key_index.proofs.building.all_entries.Goals as goal

pub loop-object-preserved : goal.loop-object-preserved
loop-object-preserved c =
    let m = c.args.model.now in
    let o = c.loop-object.object in
    c.in_ok-put_object.ensures ∙ ap (λ hs. hs ++ entries_of m o) c.loop-object.invariant ∙ sym (flat_range_more (entries_of m) o)
