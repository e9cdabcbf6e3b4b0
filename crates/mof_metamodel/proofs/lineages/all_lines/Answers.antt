use Rattle.std.proofs.Common.{◌≡◌, ◌<◌, ℕ, None, false, [], ap, ◌∙◌, sym, subst, arith, length, get_or, refl}
use Rattle.mof_metamodel.specs.Metamodels.{class_count}
use Rattle.mof_metamodel.specs.Tables.{table, AreMarks, IsSettled}
use Rattle.mof_metamodel.proofs.QueueLemmas.{queue_none, finding_none}
use Rattle.mof_metamodel.proofs.lineages.all_lines.Goals as goal

pub advance_each-requires : goal.advance_each-requires
advance_each-requires c =
    let n = c.class_count-count.ensures ∙ ap class_count c.named.ensures in
    let known_count : length c.as_mut_slice.result.now ≡ class_count c.args.hierarchy.now = c.as_mut_slice.ensures.len ∙ c.in_ok-resize.ensures.len ∙ n in
    let marks_count : length c.as_mut_slice-2.result.now ≡ class_count c.args.hierarchy.now = c.as_mut_slice-2.ensures.len ∙ c.in_ok-resize-2.ensures.len ∙ n in
    let no_known = c.new-known.ensures.len in
    let no_marks = c.new-marks.ensures.len in
    let marked : AreMarks c.as_mut_slice-2.result.now [] =
    λ q l. ap (λ xs. get_or xs q false) c.as_mut_slice-2.ensures.value ∙ c.in_ok-resize-2.ensures.by_index.1 q false refl (omega (arith, no_marks)) (omega (arith, l, marks_count, n)) in
    queue_none c.args.hierarchy.now c.as_slice.result.now (c.as_slice.ensures.value ∙ c.in_ok-orders.ensures ∙ ap (table (λ _. None)) n)
    c.as_mut_slice.result.now c.new-ready.result c.as_mut_slice-2.result.now known_count
    (λ k l. ap (λ xs. get_or xs k 0) c.as_mut_slice.ensures.value ∙ c.in_ok-resize.ensures.by_index.1 k 0 refl (omega (arith, no_known)) (omega (arith, l, n)))
    c.new-ready.ensures marks_count marked

pub find_lines-requires-clause-begun : goal.find_lines-requires-clause-begun
find_lines-requires-clause-begun c =
    let n = c.class_count-count.ensures ∙ ap class_count c.named.ensures in
    finding_none c.args.hierarchy.now c.as_mut_slice-3.result.now (c.as_mut_slice-3.ensures.value ∙ c.in_ok-orders.ensures ∙ ap (table (λ _. None)) n) c.advance_each.new.ready
    (subst (λ xs. (k : ℕ) → k < class_count c.args.hierarchy.now → IsSettled c.args.hierarchy.now xs c.advance_each.new.ready k)
    (c.as_slice.ensures.value ∙ sym c.as_mut_slice-3.ensures.value) c.in_ok-advance_each.ensures.settled)
