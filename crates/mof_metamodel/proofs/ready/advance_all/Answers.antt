use Rattle.std.proofs.Common.{◌≡◌, ℕ, subst, arith, get_or, inl, inr}
use Rattle.std.proofs.lemmas.Bool.{cases_lt}
use Rattle.mof_metamodel.specs.Tables.{IsSettled}
use Rattle.mof_metamodel.proofs.QueueLemmas.{begins_through, settled_more, has_at}
use Rattle.mof_metamodel.proofs.ready.advance_all.Goals as goal

pub advance-requires-clause-class : goal.advance-requires-clause-class
advance-requires-clause-class c =
    let test = c.loop-c-test.true in
    c.requires.classes (get_or c.args.classes.now c.loop-c.c-index 0) (has_at c.args.classes.now c.loop-c.c-index (omega (arith, test)))

pub loop-c-preserved : goal.loop-c-preserved
loop-c-preserved c = (
  c.in_ok-advance.ensures.queue,
  begins_through c.args.ready.now c.loop-c.ready c.advance.new.ready c.loop-c.invariant.1 c.in_ok-advance.ensures.grown,
  λ i a b. elim (cases_lt i c.loop-c.c-index) [
    | inl before ↦ settled_more c.args.hierarchy.now c.args.orders.now c.loop-c.ready c.advance.new.ready (get_or c.args.classes.now i 0) c.in_ok-advance.ensures.grown (c.loop-c.invariant.2 i before b)
    | inr past ↦ (
        let same : c.loop-c.c-index ≡ i = omega (arith, a, past) in
        let P : ℕ → Type 0 = λ k. IsSettled c.args.hierarchy.now c.args.orders.now c.advance.new.ready (get_or c.args.classes.now k 0) in
        subst P same c.in_ok-advance.ensures.settled)
  ],
)
