use Rattle.std.proofs.Common.{◌≡◌, ◌<◌, ◌+◌, ℕ, [], ap, ◌∙◌, sym, subst, arith, length, get_or, map, take, set, true, false}
use Rattle.std.specs.Prelude.{nat_eq, Some}
use Rattle.std.specs.List.{list_any}
use Rattle.std.proofs.lemmas.List.{get_or_default, length-set}
use Rattle.std.proofs.lemmas.List.Elements.{All-take}
use Rattle.std.proofs.lemmas.List.FromFn.{get_or-map-range_with_len}
use Rattle.mof_metamodel.specs.declared.desc.PropDesc.{PropDesc}
use Rattle.mof_metamodel.specs.declared.desc.PropId.{PropId}
use Rattle.mof_metamodel.specs.Metamodels.{same_name, prop_at, prop_count}
use Rattle.mof_metamodel.specs.MetaFaults.{first_repeat}
use Rattle.mof_metamodel.specs.Tables.{IsPropOf, name_number}
use Rattle.mof_metamodel.proofs.TableLemmas.{entry_count, map-map}
use Rattle.mof_metamodel.proofs.RepeatLemmas.{repeat_here, repeat_past, repeat_none}
use Rattle.mof_metamodel.proofs.NumberLemmas.{number_within, met_alike, met_set}
use Rattle.mof_metamodel.proofs.duplicates.first_shared.Goals as goal

pub bounds-numbers-p : goal.bounds-numbers-p
bounds-numbers-p c =
    let within = c.requires.within c.loop-p.p-index (record { 0 = 0 }) (omega arith) in
    let count = entry_count c.args.numbers.now (name_number c.args.named.now) (prop_count c.args.named.now) c.requires.numbers in
    omega (arith, within, count)

pub bounds-marks-number : goal.bounds-marks-number
bounds-marks-number c =
    let p : PropId = get_or c.args.order.now c.loop-p.p-index (record { 0 = 0 }) in
    let within : p.0 < prop_count c.args.named.now = c.requires.within c.loop-p.p-index (record { 0 = 0 }) (omega arith) in
    let is : get_or c.args.numbers.now p.0 0 ≡ name_number c.args.named.now p.0 =
    ap (λ xs. get_or xs p.0 0) c.requires.numbers ∙ get_or-map-range_with_len (name_number c.args.named.now) 0 (prop_count c.args.named.now) p.0 p.0 0 within (omega arith) in
    let count = entry_count c.args.numbers.now (name_number c.args.named.now) (prop_count c.args.named.now) c.requires.numbers in
    let low = number_within c.args.named.now p.0 within in
    omega (arith, is, low, within, count, c.loop-p.invariant.1)

pub bounds-marks-number-in-loop-p : goal.bounds-marks-number-in-loop-p
bounds-marks-number-in-loop-p c =
    let p : PropId = get_or c.args.order.now c.loop-p.p-index (record { 0 = 0 }) in
    let within : p.0 < prop_count c.args.named.now = c.requires.within c.loop-p.p-index (record { 0 = 0 }) (omega arith) in
    let is : get_or c.args.numbers.now p.0 0 ≡ name_number c.args.named.now p.0 =
    ap (λ xs. get_or xs p.0 0) c.requires.numbers ∙ get_or-map-range_with_len (name_number c.args.named.now) 0 (prop_count c.args.named.now) p.0 p.0 0 within (omega arith) in
    let count = entry_count c.args.numbers.now (name_number c.args.named.now) (prop_count c.args.named.now) c.requires.numbers in
    let low = number_within c.args.named.now p.0 within in
    omega (arith, is, low, within, count, c.loop-p.invariant.1)

pub returns-then-marks-number : goal.returns-then-marks-number
returns-then-marks-number c =
    let p : PropId = get_or c.args.order.now c.loop-p.p-index (record { 0 = 0 }) in
    let within : p.0 < prop_count c.args.named.now = c.requires.within c.loop-p.p-index (record { 0 = 0 }) (omega arith) in
    let is : get_or c.args.numbers.now p.0 0 ≡ name_number c.args.named.now p.0 =
    ap (λ xs. get_or xs p.0 0) c.requires.numbers ∙ get_or-map-range_with_len (name_number c.args.named.now) 0 (prop_count c.args.named.now) p.0 p.0 0 within (omega arith) in
    let count = entry_count c.args.numbers.now (name_number c.args.named.now) (prop_count c.args.named.now) c.requires.numbers in
    let low = number_within c.args.named.now p.0 within in
    let there : p ≡ get_or c.args.order.now c.loop-p.p-index p = get_or_default c.args.order.now c.loop-p.p-index (record { 0 = 0 }) p (omega arith) in
    let all = All-take (IsPropOf c.args.named.now) c.loop-p.p-index c.args.order.now c.requires.within in
    let inside : name_number c.args.named.now p.0 < length c.args.numbers.now = omega (arith, within, low, count) in
    let found : get_or c.loop-p.marks (get_or c.args.numbers.now p.0 0) false ≡ list_any (same_name (prop_at c.args.named.now p.0).name) (map (λ q. (prop_at c.args.named.now q.0).name) (take c.loop-p.p-index c.args.order.now)) =
    ap (λ k. get_or c.loop-p.marks k false) is ∙ c.loop-p.invariant.2 (name_number c.args.named.now p.0) inside ∙ met_alike c.args.named.now p (take c.loop-p.p-index c.args.order.now) within all in
    ap Some (c.in_ok-duplicate.ensures ∙ ap (λ (d : PropDesc). d.name) c.prop.ensures)
    ∙ repeat_here (λ q. (prop_at c.args.named.now q.0).name) c.args.order.now c.loop-p.p-index p (omega arith) there c.loop-p.invariant.0 (sym found ∙ c.if-marks-number.true)
    ∙ sym (ap (first_repeat []) (map-map (λ q. (prop_at c.args.named.now q).name) (λ q. q.0) c.args.order.now))

pub loop-p-preserved : goal.loop-p-preserved
loop-p-preserved c =
    let p : PropId = get_or c.args.order.now c.loop-p.p-index (record { 0 = 0 }) in
    let within : p.0 < prop_count c.args.named.now = c.requires.within c.loop-p.p-index (record { 0 = 0 }) (omega arith) in
    let is : get_or c.args.numbers.now p.0 0 ≡ name_number c.args.named.now p.0 =
    ap (λ xs. get_or xs p.0 0) c.requires.numbers ∙ get_or-map-range_with_len (name_number c.args.named.now) 0 (prop_count c.args.named.now) p.0 p.0 0 within (omega arith) in
    let count = entry_count c.args.numbers.now (name_number c.args.named.now) (prop_count c.args.named.now) c.requires.numbers in
    let low = number_within c.args.named.now p.0 within in
    let there : p ≡ get_or c.args.order.now c.loop-p.p-index p = get_or_default c.args.order.now c.loop-p.p-index (record { 0 = 0 }) p (omega arith) in
    let all = All-take (IsPropOf c.args.named.now) c.loop-p.p-index c.args.order.now c.requires.within in
    let inside : name_number c.args.named.now p.0 < length c.args.numbers.now = omega (arith, within, low, count) in
    let found : get_or c.loop-p.marks (get_or c.args.numbers.now p.0 0) false ≡ list_any (same_name (prop_at c.args.named.now p.0).name) (map (λ q. (prop_at c.args.named.now q.0).name) (take c.loop-p.p-index c.args.order.now)) =
    ap (λ k. get_or c.loop-p.marks k false) is ∙ c.loop-p.invariant.2 (name_number c.args.named.now p.0) inside ∙ met_alike c.args.named.now p (take c.loop-p.p-index c.args.order.now) within all in
    let P : ℕ → Type 0 = λ k. (n : ℕ) → n < length c.args.numbers.now
    → get_or (set c.loop-p.marks k true) n false ≡ list_any (nat_eq n) (map (λ q. name_number c.args.named.now q.0) (take (c.loop-p.p-index + 1) c.args.order.now)) in (
      repeat_past (λ q. (prop_at c.args.named.now q.0).name) c.args.order.now c.loop-p.p-index p (omega arith) there c.loop-p.invariant.0 (sym found ∙ c.if-marks-number.false),
      length-set c.loop-p.marks (get_or c.args.numbers.now p.0 0) true ∙ c.loop-p.invariant.1,
      subst P (sym is) (met_set c.args.named.now c.args.order.now c.loop-p.p-index p c.loop-p.marks (length c.args.numbers.now) (omega arith) there c.loop-p.invariant.1 inside c.loop-p.invariant.2),
    )

pub returns : goal.returns
returns c =
    repeat_none (λ q. (prop_at c.args.named.now q.0).name) c.args.order.now c.loop-p.p-index (omega arith) c.loop-p.invariant.0
    ∙ sym (ap (first_repeat []) (map-map (λ q. (prop_at c.args.named.now q).name) (λ q. q.0) c.args.order.now))
