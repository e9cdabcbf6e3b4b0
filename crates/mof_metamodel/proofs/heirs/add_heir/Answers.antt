use Rattle.std.proofs.Common.{◌≡◌, ◌<◌, ◌+◌, ℕ, List, [], refl, ap, ◌∙◌, sym, subst, arith, length, get_or, set}
use Rattle.std.specs.Prelude.{take}
use Rattle.std.specs.List.{flat_map}
use Rattle.std.proofs.lemmas.List.{get_or_default}
use Rattle.std.proofs.lemmas.List.FromFn.{get_or-map-range_with_len}
use Rattle.mof_metamodel.specs.declared.desc.MetaDesc.{MetaDesc}
use Rattle.mof_metamodel.specs.declared.entries.Entry.{Entry}
use Rattle.mof_metamodel.specs.Metamodels.{class_at, own_props, lineage_of}
use Rattle.mof_metamodel.specs.Tables.{AddsEntries, starts_of}
use Rattle.mof_metamodel.proofs.EntryLemmas.{adds_no_entries, adds_entry}
use Rattle.mof_metamodel.proofs.OrderLemmas.{lineage_classes}
use Rattle.mof_metamodel.proofs.PlaceLemmas.{props_few, starts_more, starts_within}
use Rattle.mof_metamodel.proofs.heirs.add_heir.Goals as goal

pub loop-d-init : goal.loop-d-init
loop-d-init c = (adds_no_entries c.args.heirs.now (lineage_of c.args.named.now c.args.c) (starts_of c.args.named.now (lineage_of c.args.named.now c.args.c)) c.args.c, refl)

pub bounds-heirs-d : goal.bounds-heirs-d
bounds-heirs-d c =
    let desc : MetaDesc = c.args.named.now in
    let cs : List ℕ = lineage_of desc c.args.c in
    let test = c.loop-d-test.true in
    let long = ap length c.requires.classes in
    let short : c.loop-d.d-index < length cs = omega (arith, test, long) in
    let at : get_or c.args.classes.now c.loop-d.d-index 0 ≡ get_or cs c.loop-d.d-index 0 = ap (λ xs. get_or xs c.loop-d.d-index 0) c.requires.classes in
    let within = lineage_classes desc c.args.c c.requires.class c.loop-d.d-index 0 short in
    let count = c.loop-d.invariant.0.count in
    omega (arith, at, within, count, c.requires.rows)

pub class-requires : goal.class-requires
class-requires c =
    let desc : MetaDesc = c.args.named.now in
    let cs : List ℕ = lineage_of desc c.args.c in
    let test = c.loop-d-test.true in
    let long = ap length c.requires.classes in
    let short : c.loop-d.d-index < length cs = omega (arith, test, long) in
    let at : get_or c.args.classes.now c.loop-d.d-index 0 ≡ get_or cs c.loop-d.d-index 0 = ap (λ xs. get_or xs c.loop-d.d-index 0) c.requires.classes in
    let within = lineage_classes desc c.args.c c.requires.class c.loop-d.d-index 0 short in
    omega (arith, at, within)

pub overflow_cast-start : goal.overflow_cast-start
overflow_cast-start c =
    let desc : MetaDesc = c.args.named.now in
    let cs : List ℕ = lineage_of desc c.args.c in
    let test = c.loop-d-test.true in
    let long = ap length c.requires.classes in
    let short : c.loop-d.d-index < length cs = omega (arith, test, long) in
    let at : get_or c.args.classes.now c.loop-d.d-index 0 ≡ get_or cs c.loop-d.d-index 0 = ap (λ xs. get_or xs c.loop-d.d-index 0) c.requires.classes in
    let own = c.len.ensures ∙ ap (λ d. length d.props) c.class.ensures ∙ ap (λ k. length (class_at desc k).props) at in
    let within = starts_within desc cs c.loop-d.d-index short in
    let few = props_few desc c.args.c in
    omega (arith, own, within, few, c.prop_count.ensures, c.prop_count.type_inv)

pub overflow_add-start : goal.overflow_add-start
overflow_add-start c =
    let desc : MetaDesc = c.args.named.now in
    let cs : List ℕ = lineage_of desc c.args.c in
    let test = c.loop-d-test.true in
    let long = ap length c.requires.classes in
    let short : c.loop-d.d-index < length cs = omega (arith, test, long) in
    let at : get_or c.args.classes.now c.loop-d.d-index 0 ≡ get_or cs c.loop-d.d-index 0 = ap (λ xs. get_or xs c.loop-d.d-index 0) c.requires.classes in
    let own = c.len.ensures ∙ ap (λ d. length d.props) c.class.ensures ∙ ap (λ k. length (class_at desc k).props) at in
    let within = starts_within desc cs c.loop-d.d-index short in
    let few = props_few desc c.args.c in
    omega (arith, own, within, few, c.loop-d.invariant.1, c.prop_count.ensures, c.prop_count.type_inv)

pub loop-d-preserved : goal.loop-d-preserved
loop-d-preserved c =
    let desc : MetaDesc = c.args.named.now in
    let cs : List ℕ = lineage_of desc c.args.c in
    let test = c.loop-d-test.true in
    let long = ap length c.requires.classes in
    let short : c.loop-d.d-index < length cs = omega (arith, test, long) in
    let at : get_or c.args.classes.now c.loop-d.d-index 0 ≡ get_or cs c.loop-d.d-index 0 = ap (λ xs. get_or xs c.loop-d.d-index 0) c.requires.classes in
    let own = c.len.ensures ∙ ap (λ d. length d.props) c.class.ensures ∙ ap (λ k. length (class_at desc k).props) at in
    let starts : List ℕ = starts_of desc cs in
    let class : ℕ = get_or c.args.classes.now c.loop-d.d-index 0 in
    let known = lineage_classes desc c.args.c c.requires.class c.loop-d.d-index 0 short in
    let within : class < length c.args.heirs.now = omega (arith, at, known, c.requires.rows) in
    let count = c.loop-d.invariant.0.count in
    let start : c.loop-d.start ≡ get_or starts c.loop-d.d-index 0 =
    c.loop-d.invariant.1 ∙ sym (get_or-map-range_with_len (λ i. length (flat_map (own_props desc) (take i cs))) 0 (length cs) c.loop-d.d-index c.loop-d.d-index 0 short (omega arith)) in
    let list : List Entry = get_or c.loop-d.heirs class c.index-heirs-d.result in
    let P : List Entry → Type 0 = λ xs. AddsEntries c.args.heirs.now (set c.loop-d.heirs class xs) cs starts (c.loop-d.d-index + 1) c.args.c in (
      subst P (sym c.in_ok-push.ensures.ok)
          (adds_entry c.args.heirs.now c.loop-d.heirs cs starts c.loop-d.d-index c.args.c class c.loop-d.start list c.loop-d.invariant.0 short at start within
          (get_or_default c.loop-d.heirs class c.index-heirs-d.result [] (omega (arith, within, count)))),
      (let more = starts_more desc cs c.loop-d.d-index short in omega (arith, own, more, c.loop-d.invariant.1)),
    )
