use Rattle.std.proofs.Common.{◌≡◌, ◌<◌, ◌∙◌, ℕ, List, subst, arith, length}
use Rattle.mof_metamodel.specs.declared.entries.Entry.{Entry}
use Rattle.mof_metamodel.specs.Metamodels.{class_count, lineage_of}
use Rattle.mof_metamodel.specs.Tables.{starts_of, AddsEntries, AreHeirs}
use Rattle.mof_metamodel.proofs.TableLemmas.{entry_is, entry_count}
use Rattle.mof_metamodel.proofs.LineLemmas.{put_back}
use Rattle.mof_metamodel.proofs.HeirLemmas.{heirs_more}
use Rattle.mof_metamodel.proofs.heirs.all_heirs.Goals as goal

pub bounds-lineages-c : goal.bounds-lineages-c
bounds-lineages-c c = let n = entry_count c.args.lineages.now (lineage_of c.args.named.now) (class_count c.args.named.now) c.requires in omega (arith, n, c.class_count-c-end.ensures)

pub add_heir-requires-clause-classes : goal.add_heir-requires-clause-classes
add_heir-requires-clause-classes c =
    let short : c.loop-c.c < class_count c.args.named.now = omega (arith, c.class_count-c-end.ensures) in
    c.as_slice-classes.ensures ∙ entry_is c.args.lineages.now (lineage_of c.args.named.now) (class_count c.args.named.now) c.requires c.loop-c.c c.index-lineages-c.result short c.index-lineages-c.is

pub loop-c-preserved : goal.loop-c-preserved
loop-c-preserved c =
    let classes : List ℕ = lineage_of c.args.named.now c.loop-c.c in
    let P : List (List Entry) → Type 0 = λ old. AddsEntries old c.add_heir.new.heirs classes (starts_of c.args.named.now classes) (length classes) c.loop-c.c in
    let adds = subst P c.as_mut_slice.ensures.value c.in_ok-add_heir.ensures in
    rw (put_back c.add_heir.new.heirs c.loop-c.heirs.items c.loop-c.heirs.len adds.count (omega arith))
    (heirs_more c.args.named.now c.loop-c.heirs.items c.add_heir.new.heirs c.loop-c.c c.loop-c.invariant adds)

pub returns : goal.returns
returns c =
    let n = c.class_count-c-end.ensures in
    let test = c.loop-c-test.false in
    let end = c.loop-c.auto.c-end in
    let same : c.loop-c.c ≡ class_count c.args.named.now = omega (arith, n, test, end) in
    let P : ℕ → Type 0 = λ k. AreHeirs c.args.named.now k c.loop-c.heirs.items in
    subst P same c.loop-c.invariant
