use Rattle.std.proofs.Common.{◌≡◌, ℕ, List, ap, ◌∙◌, subst, arith, length}
use Rattle.std.proofs.lemmas.List.{length-map}
use Rattle.mof_metamodel.specs.declared.desc.ClassId.{ClassId}
use Rattle.mof_metamodel.specs.Metamodels.{class_count}
use Rattle.mof_metamodel.specs.Tables.{class_numbers, AddsUnder}
use Rattle.mof_metamodel.proofs.LineLemmas.{put_back}
use Rattle.mof_metamodel.proofs.SubclassLemmas.{subclasses_more}
use Rattle.mof_metamodel.proofs.subclasses.all_subclasses.Goals as goal

pub loop-c-preserved : goal.loop-c-preserved
loop-c-preserved c =
    let rows : List ℕ = class_numbers c.supers.result.now in
    let P : List (List ℕ) → Type 0 = λ old. AddsUnder old c.add_under.new.lists rows (length c.supers.result.now) c.loop-c.c in
    let adds = subst P c.as_mut_slice.ensures.value c.in_ok-add_under.ensures in
    let same : length c.add_under.new.lists ≡ length c.loop-c.lists.items = adds.count in
    let long : length rows ≡ length c.supers.result.now = length-map c.supers.result.now (λ (x : ClassId). x.0) in
    let n = c.class_count-count.ensures ∙ ap class_count c.named.ensures in
    rw (put_back c.add_under.new.lists c.loop-c.lists.items c.loop-c.lists.len same (omega arith))
    (subclasses_more c.args.hierarchy.now c.loop-c.lists.items c.add_under.new.lists rows (length c.supers.result.now) c.loop-c.c c.loop-c.invariant (omega (arith, n)) c.supers.ensures.numbers (omega (arith, long)) adds)
