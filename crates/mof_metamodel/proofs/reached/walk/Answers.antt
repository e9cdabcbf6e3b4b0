use Rattle.std.proofs.Common.{◌≡◌, ◌+◌, ◌∙◌, ap, sym, subst, ℕ, List, length, get_or, arith}
use Rattle.std.proofs.lemmas.List.Elements.{Contains-get_or}
use Rattle.mof_metamodel.specs.Metamodels.{united}
use Rattle.mof_metamodel.specs.Tables.{IsWalk, class_numbers}
use Rattle.mof_metamodel.proofs.LineageLemmas.{Has, Has-from_Contains}
use Rattle.mof_metamodel.proofs.WalkLemmas.{walk_short, walk_more, walk_done}
use Rattle.mof_metamodel.proofs.reached.walk.Goals as goal

pub supers-requires : goal.supers-requires
supers-requires c =
    let xs : List ℕ = c.as_slice.result.now in
    let same : length xs ≡ length c.loop-next.met = ap length c.as_slice.ensures in
    let test = c.loop-next-test.true in
    let len = c.len.ensures in
    let there : Has c.loop-next.met (get_or xs c.loop-next.next 0) =
    subst (λ ys. Has ys (get_or xs c.loop-next.next 0)) c.as_slice.ensures (Has-from_Contains xs (get_or xs c.loop-next.next 0) (Contains-get_or xs c.loop-next.next 0 (omega (arith, same, test, len)))) in
    c.loop-next.invariant.0.below (get_or xs c.loop-next.next 0) there

pub loop-next-smaller : goal.loop-next-smaller
loop-next-smaller c =
    let short = walk_short c.args.hierarchy.now (class_numbers c.args.starts.now) c.loop-next.next c.loop-next.met c.loop-next.invariant.0 in
    let test = c.loop-next-test.true in
    let len = c.len.ensures in
    omega (arith, short, test, len)

pub loop-next-preserved : goal.loop-next-preserved
loop-next-preserved c =
    let test = c.loop-next-test.true in
    let len = c.len.ensures in
    let class : ℕ = get_or c.as_slice.result.now c.loop-next.next 0 in
    let P : List ℕ → Type 0 = λ met. IsWalk c.args.hierarchy.now (class_numbers c.args.starts.now) (c.loop-next.next + 1) met in
    let grown = c.in_ok-meet.ensures.met ∙ ap (united c.loop-next.met) c.supers.ensures.numbers in
    let more = walk_more c.args.hierarchy.now (class_numbers c.args.starts.now) c.loop-next.next c.loop-next.met class c.loop-next.invariant.0 (omega (arith, test, len)) (ap (λ xs. get_or xs c.loop-next.next 0) c.as_slice.ensures) in
    (subst P (sym grown) more, c.in_ok-meet.ensures.marks, c.meet.auto.marks ∙ c.loop-next.invariant.2)

pub returns : goal.returns
returns c =
    let test = c.loop-next-test.false in
    let len = c.len.ensures in
    walk_done c.args.hierarchy.now (class_numbers c.args.starts.now) c.loop-next.next c.loop-next.met c.loop-next.marks c.loop-next.invariant.0 (omega (arith, test, len)) c.loop-next.invariant.2 c.loop-next.invariant.1
