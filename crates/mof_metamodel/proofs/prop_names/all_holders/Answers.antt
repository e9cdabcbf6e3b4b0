use Rattle.std.proofs.Common.{◌≡◌, ℕ, List, ap, ◌∙◌, subst, arith, length, map}
use Rattle.mof_metamodel.specs.declared.entries.Entry.{Entry}
use Rattle.mof_metamodel.specs.Metamodels.{class_count, props_of}
use Rattle.mof_metamodel.specs.Tables.{AddsEntries, AreHolders, name_number}
use Rattle.mof_metamodel.proofs.HolderLemmas.{holders_more}
use Rattle.mof_metamodel.proofs.LineLemmas.{put_back}
use Rattle.mof_metamodel.proofs.prop_names.all_holders.Goals as goal

pub loop-c-preserved : goal.loop-c-preserved
loop-c-preserved c =
    let props : List ℕ = props_of c.args.ordered.now c.loop-c.c in
    let P : List (List Entry) → Type 0 = λ old. AddsEntries old c.add_props.new.holders (map (name_number c.args.ordered.now) props) props (length props) c.loop-c.c in
    let adds = subst P c.as_mut_slice.ensures.value c.in_ok-add_props.ensures in
    rw (put_back c.add_props.new.holders c.loop-c.holders.items c.loop-c.holders.len adds.count (omega arith))
    (holders_more c.args.ordered.now c.loop-c.holders.items c.add_props.new.holders c.loop-c.c c.loop-c.invariant adds)

pub returns : goal.returns
returns c =
    let n = c.class_count-c-end.ensures ∙ ap class_count c.named-named.ensures in
    let test = c.loop-c-test.false in
    let end = c.loop-c.auto.c-end in
    let same : c.loop-c.c ≡ class_count c.args.ordered.now = omega (arith, n, test, end) in
    let P : ℕ → Type 0 = λ k. AreHolders c.args.ordered.now k c.loop-c.holders.items in
    subst P same c.loop-c.invariant
