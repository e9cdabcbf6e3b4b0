use Rattle.std.proofs.Common.{◌≡◌, ◌<◌, ◌+◌, ℕ, List, [], ap, ◌∙◌, sym, subst, arith, length, get_or, set, map}
use Rattle.std.proofs.lemmas.List.{get_or-map, length-map, get_or_default}
use Rattle.std.proofs.lemmas.List.FromFn.{get_or-map-range_with_len}
use Rattle.mof_metamodel.specs.declared.desc.MetaDesc.{MetaDesc}
use Rattle.mof_metamodel.specs.declared.desc.PropId.{PropId}
use Rattle.mof_metamodel.specs.declared.entries.Entry.{Entry}
use Rattle.mof_metamodel.specs.Metamodels.{prop_count, props_of}
use Rattle.mof_metamodel.specs.Tables.{AddsEntries, name_number, table}
use Rattle.mof_metamodel.proofs.EntryLemmas.{adds_no_entries, adds_entry}
use Rattle.mof_metamodel.proofs.NumberLemmas.{number_within}
use Rattle.mof_metamodel.proofs.TableLemmas.{entry_count}
use Rattle.mof_metamodel.proofs.prop_names.add_props.Goals as goal

pub loop-p-init : goal.loop-p-init
loop-p-init c = adds_no_entries c.args.holders.now (map (name_number c.args.ordered.now) (props_of c.args.ordered.now c.args.c)) (props_of c.args.ordered.now c.args.c) c.args.c

-- the number that a table of them has for a property
number_at : (desc : MetaDesc) (numbers : List ℕ) (p : ℕ) → numbers ≡ table (name_number desc) (prop_count desc) → p < prop_count desc → get_or numbers p 0 ≡ name_number desc p
number_at desc numbers p is l = ap (λ xs. get_or xs p 0) is ∙ get_or-map-range_with_len (name_number desc) 0 (prop_count desc) p p 0 l (omega arith)

pub bounds-numbers-p : goal.bounds-numbers-p
bounds-numbers-p c =
    let test = c.loop-p-test.true in
    let within = c.props-p-items.ensures.within c.loop-p.p-index (record { 0 = 0 }) (omega (arith, test)) in
    let count = entry_count c.args.numbers.now (name_number c.args.ordered.now) (prop_count c.args.ordered.now) c.requires.numbers in
    omega (arith, within, count)

pub bounds-holders-number : goal.bounds-holders-number
bounds-holders-number c =
    let p : PropId = get_or c.props-p-items.result.now c.loop-p.p-index (record { 0 = 0 }) in
    let test = c.loop-p-test.true in
    let within : p.0 < prop_count c.args.ordered.now = c.props-p-items.ensures.within c.loop-p.p-index (record { 0 = 0 }) (omega (arith, test)) in
    let is = number_at c.args.ordered.now c.args.numbers.now p.0 c.requires.numbers within in
    let low = number_within c.args.ordered.now p.0 within in
    let count = c.loop-p.invariant.count in
    omega (arith, is, low, within, count, c.requires.rows)

pub loop-p-preserved : goal.loop-p-preserved
loop-p-preserved c =
    let ids : List PropId = c.props-p-items.result.now in
    let p : PropId = get_or ids c.loop-p.p-index (record { 0 = 0 }) in
    let test = c.loop-p-test.true in
    let within : p.0 < prop_count c.args.ordered.now = c.props-p-items.ensures.within c.loop-p.p-index (record { 0 = 0 }) (omega (arith, test)) in
    let props : List ℕ = props_of c.args.ordered.now c.args.c in
    let keys : List ℕ = map (name_number c.args.ordered.now) props in
    let key : ℕ = get_or c.args.numbers.now p.0 0 in
    let is = number_at c.args.ordered.now c.args.numbers.now p.0 c.requires.numbers within in
    let low = number_within c.args.ordered.now p.0 within in
    let count = c.loop-p.invariant.count in
    let short : key < length c.args.holders.now = omega (arith, is, low, within, c.requires.rows) in
    let numbers = c.props-p-items.ensures.numbers in
    let long : length props ≡ length ids = sym (ap length numbers) ∙ length-map ids (λ (x : PropId). x.0) in
    let more = length-map props (name_number c.args.ordered.now) in
    let value : p.0 ≡ get_or props c.loop-p.p-index 0 = sym (get_or-map (λ (x : PropId). x.0) ids c.loop-p.p-index (record { 0 = 0 }) 0 (omega (arith, test))) ∙ ap (λ xs. get_or xs c.loop-p.p-index 0) numbers in
    let at : key ≡ get_or keys c.loop-p.p-index 0 = is ∙ ap (name_number c.args.ordered.now) value ∙ sym (get_or-map (name_number c.args.ordered.now) props c.loop-p.p-index 0 0 (omega (arith, test, long))) in
    let list : List Entry = get_or c.loop-p.holders key c.index-holders-number.result in
    let P : List Entry → Type 0 = λ xs. AddsEntries c.args.holders.now (set c.loop-p.holders key xs) keys props (c.loop-p.p-index + 1) c.args.c in
    subst P (sym c.in_ok-push.ensures.ok)
    (adds_entry c.args.holders.now c.loop-p.holders keys props c.loop-p.p-index c.args.c key p.0 list c.loop-p.invariant (omega (arith, test, long, more)) at value short
    (get_or_default c.loop-p.holders key c.index-holders-number.result [] (omega (arith, short, count))))
