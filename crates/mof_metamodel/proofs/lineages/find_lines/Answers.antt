use Rattle.std.proofs.Common.{◌≡◌, ◌<◌, ℕ, List, [], ap, ◌∙◌, sym, subst, arith, length, get_or}
use Rattle.std.proofs.lemmas.List.{get_or_default}
use Rattle.mof_metamodel.specs.Metamodels.{class_count}
use Rattle.mof_metamodel.specs.Tables.{AreBelow}
use Rattle.mof_metamodel.proofs.LineageLemmas.{Has}
use Rattle.mof_metamodel.proofs.JoinLemmas.{lines_closed}
use Rattle.mof_metamodel.proofs.QueueLemmas.{has_at, ready_short, lines_found, queue_put, finding_more}
use Rattle.mof_metamodel.proofs.lineages.find_lines.Goals as goal

-- a class that is read among those that are ready
read_below : (n next : ℕ) (ready slice : List ℕ) → AreBelow n ready → slice ≡ ready → next < length ready → get_or slice next 0 < n
read_below n next ready slice below same l =
    let within = below (get_or ready next 0) (has_at ready next l) in
    let at : get_or slice next 0 ≡ get_or ready next 0 = ap (λ xs. get_or xs next 0) same in
    omega (arith, within, at)

pub line_of-requires-clause-class : goal.line_of-requires-clause-class
line_of-requires-clause-class c =
    let test = c.loop-next-test.true in
    let len = c.len.ensures in
    read_below (class_count c.args.hierarchy.now) c.loop-next.next c.loop-next.ready c.as_slice.result.now c.loop-next.invariant.0.below c.as_slice.ensures (omega (arith, test, len))

pub line_of-requires-clause-orders : goal.line_of-requires-clause-orders
line_of-requires-clause-orders c = lines_closed c.loop-next.orders c.args.hierarchy.now c.loop-next.next c.loop-next.invariant.0.orders_count c.loop-next.invariant.1.found

pub bounds-orders-class : goal.bounds-orders-class
bounds-orders-class c =
    let test = c.loop-next-test.true in
    let len = c.len.ensures in
    let within = read_below (class_count c.args.hierarchy.now) c.loop-next.next c.loop-next.ready c.as_slice.result.now c.loop-next.invariant.0.below c.as_slice.ensures (omega (arith, test, len)) in
    let count = c.loop-next.invariant.0.orders_count in
    omega (arith, within, count)

pub loop-next-smaller : goal.loop-next-smaller
loop-next-smaller c =
    let short = ready_short c.args.hierarchy.now c.loop-next.orders c.loop-next.known c.loop-next.ready c.loop-next.marks c.loop-next.next c.loop-next.invariant.0 c.loop-next.invariant.1 in
    let test = c.loop-next-test.true in
    let len = c.len.ensures in
    omega (arith, short, test, len)

pub returns : goal.returns
returns c =
    let test = c.loop-next-test.false in
    let len = c.len.ensures in
    lines_found c.args.hierarchy.now c.loop-next.orders c.loop-next.known c.loop-next.ready c.loop-next.marks c.loop-next.next c.loop-next.invariant.0 c.loop-next.invariant.1 (omega (arith, test, len))

pub advance_all-requires-clause-classes : goal.advance_all-requires-clause-classes
advance_all-requires-clause-classes c q h =
    let test = c.loop-next-test.true in
    let len = c.len.ensures in
    let within = read_below (class_count c.args.hierarchy.now) c.loop-next.next c.loop-next.ready c.as_slice.result.now c.loop-next.invariant.0.below c.as_slice.ensures (omega (arith, test, len)) in
    let class : ℕ = get_or c.as_slice.result.now c.loop-next.next 0 in
    let count = c.requires.subclasses.count in
    let row : c.as_slice-below.result.now ≡ get_or c.args.subclasses.now class [] =
    c.as_slice-below.ensures ∙ c.index-subclasses-class.is ∙ get_or_default c.args.subclasses.now class c.index-subclasses-class.result [] (omega (arith, within, count)) in
    c.requires.subclasses.below class q (subst (λ xs. Has xs q) row h)

pub bounds-subclasses-class : goal.bounds-subclasses-class
bounds-subclasses-class c =
    let test = c.loop-next-test.true in
    let len = c.len.ensures in
    let within = read_below (class_count c.args.hierarchy.now) c.loop-next.next c.loop-next.ready c.as_slice.result.now c.loop-next.invariant.0.below c.as_slice.ensures (omega (arith, test, len)) in
    let count = c.requires.subclasses.count in
    omega (arith, within, count)

pub advance_all-requires-clause-queue : goal.advance_all-requires-clause-queue
advance_all-requires-clause-queue c =
    let test = c.loop-next-test.true in
    let len = c.len.ensures in
    queue_put c.args.hierarchy.now c.loop-next.orders c.loop-next.known c.loop-next.ready c.loop-next.marks c.loop-next.next c.loop-next.invariant.0 c.loop-next.invariant.1
    (get_or c.as_slice.result.now c.loop-next.next 0) c.in_ok-order.order (ap (λ xs. get_or xs c.loop-next.next 0) (sym c.as_slice.ensures)) (omega (arith, test, len)) c.in_ok-order.ensures

pub loop-next-preserved : goal.loop-next-preserved
loop-next-preserved c =
    let test = c.loop-next-test.true in
    let len = c.len.ensures in
    let within = read_below (class_count c.args.hierarchy.now) c.loop-next.next c.loop-next.ready c.as_slice.result.now c.loop-next.invariant.0.below c.as_slice.ensures (omega (arith, test, len)) in
    let class : ℕ = get_or c.as_slice.result.now c.loop-next.next 0 in
    let count = c.requires.subclasses.count in
    let short : class < length c.args.subclasses.now = omega (arith, within, count) in (
      c.in_ok-advance_all.ensures.queue,
      finding_more c.args.hierarchy.now c.loop-next.orders c.loop-next.known c.loop-next.ready c.loop-next.marks c.loop-next.next c.loop-next.invariant.0 c.loop-next.invariant.1
          class c.in_ok-order.order (ap (λ xs. get_or xs c.loop-next.next 0) (sym c.as_slice.ensures)) (omega (arith, test, len)) c.in_ok-order.ensures
          c.args.subclasses.now c.as_slice-below.result.now c.advance_all.new.ready c.requires.subclasses
          (c.as_slice-below.ensures ∙ c.index-subclasses-class.is ∙ get_or_default c.args.subclasses.now class c.index-subclasses-class.result [] short)
          c.in_ok-advance_all.ensures.grown c.in_ok-advance_all.ensures.settled,
    )
