use Rattle.std.proofs.Common.{◌≡◌, ℕ, List, ap, ◌∙◌, sym, subst, arith, length, get_or, set}
use Rattle.std.specs.Prelude.{None, Result, Ok, Err, OnOk}
use Rattle.std.proofs.lemmas.List.{length-map}
use Rattle.mof_metamodel.specs.declared.desc.ClassId.{ClassId}
use Rattle.mof_metamodel.specs.Metamodels.{supers_of}
use Rattle.mof_metamodel.specs.Tables.{line_at, HaveLines, IsQueue, AreMarks}
use Rattle.mof_metamodel.proofs.QueueLemmas.{waits_at, ready_more}
use Rattle.mof_metamodel.proofs.ready.advance.Goals as goal

pub returns-then-found-supers-clause-settled : goal.returns-then-found-supers-clause-settled
returns-then-found-supers-clause-settled c =
    let numbers = c.supers-supers.ensures.numbers in
    let long : length (supers_of c.args.hierarchy.now c.args.c) ≡ length c.supers-supers.result.now = sym (ap length numbers) ∙ length-map c.supers-supers.result.now (λ (x : ClassId). x.0) in
    let test = c.if-found-supers.true in
    let none : line_at c.args.orders.now (get_or (supers_of c.args.hierarchy.now c.args.c) c.found_first-found.result 0) ≡ None =
    ap (λ zs. line_at c.args.orders.now (get_or zs c.found_first-found.result 0)) (sym numbers) ∙ c.found_first-found.ensures.missing test in
    waits_at c.args.hierarchy.now c.args.orders.now c.args.ready.now c.args.c c.found_first-found.result (omega (arith, long, test)) none

-- what follows from two facts of a success
both : {X E : Type 0} {A B C : Type 0} (r : Result X E) → OnOk r A → OnOk r B → (A → B → C) → OnOk r C
both (Ok x) a b f = f a b
both (Err e) a b f = tt

pub returns-clause-queue : goal.returns-clause-queue
returns-clause-queue c =
    let numbers = c.supers-supers.ensures.numbers in
    let long : length (supers_of c.args.hierarchy.now c.args.c) ≡ length c.supers-supers.result.now = sym (ap length numbers) ∙ length-map c.supers-supers.result.now (λ (x : ClassId). x.0) in
    let test = c.if-found-supers.false in
    let have : HaveLines c.args.orders.now (supers_of c.args.hierarchy.now c.args.c) c.found_first-found.result =
    subst (λ cs. HaveLines c.args.orders.now cs c.found_first-found.result) numbers c.found_first-found.ensures.found in
    let P : List ℕ → Type 0 = λ xs. IsQueue c.args.hierarchy.now c.args.orders.now (set c.args.known.now c.args.c c.found_first-found.result) xs c.meet_one.new.marks in
    both c.meet_one.result c.meet_one.ensures.met c.meet_one.ensures.marks (λ met marks.
    subst P (sym met) (
    ready_more c.args.hierarchy.now c.args.orders.now c.args.known.now c.args.ready.now c.args.marks.now c.meet_one.new.marks c.args.c c.found_first-found.result
    c.requires.queue c.requires.class have (omega (arith, long, test))
    (c.meet_one.auto.marks ∙ c.requires.queue.marks_count)
    (subst (λ xs. AreMarks c.meet_one.new.marks xs) met marks)))
