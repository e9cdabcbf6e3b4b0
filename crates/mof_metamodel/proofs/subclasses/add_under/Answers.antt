use Rattle.std.proofs.Common.{◌≡◌, ◌<◌, ◌+◌, [], ℕ, List, sym, subst, arith, length, get_or, set}
use Rattle.std.proofs.lemmas.List.{get_or-map, get_or_default}
use Rattle.mof_metamodel.specs.declared.desc.ClassId.{ClassId}
use Rattle.mof_metamodel.specs.Tables.{class_numbers, AddsUnder}
use Rattle.mof_metamodel.proofs.SubclassLemmas.{adds_more}
use Rattle.mof_metamodel.proofs.subclasses.add_under.Goals as goal

pub loop-s-preserved : goal.loop-s-preserved
loop-s-preserved c =
    let one : ClassId = record { 0 = 0 } in
    let row : ℕ = (get_or c.args.supers.now c.loop-s.s-index one).0 in
    let test = c.loop-s-test.true in
    let at : get_or (class_numbers c.args.supers.now) c.loop-s.s-index 0 ≡ row = get_or-map (λ (y : ClassId). y.0) c.args.supers.now c.loop-s.s-index one 0 (omega (arith, test)) in
    let within : row < length c.args.lists.now = c.requires c.loop-s.s-index one (omega (arith, test)) in
    let count = c.loop-s.invariant.count in
    let list : List ℕ = get_or c.loop-s.lists row c.index-lists-s.result in
    let is : list ≡ get_or c.loop-s.lists row [] = get_or_default c.loop-s.lists row c.index-lists-s.result [] (omega (arith, within, count)) in
    let P : List ℕ → Type 0 = λ xs. AddsUnder c.args.lists.now (set c.loop-s.lists row xs) (class_numbers c.args.supers.now) (c.loop-s.s-index + 1) c.args.c in
    subst P (sym c.in_ok-push.ensures.ok)
    (adds_more c.args.lists.now c.loop-s.lists (class_numbers c.args.supers.now) c.loop-s.s-index c.args.c row list c.loop-s.invariant (sym at) within is)
