use Rattle.std.proofs.Common.{◌≡◌, ◌<◌, List, Bool, ap, ◌∙◌, sym, subst, arith, length, get_or, drop, map, ◌+◌}
use Rattle.std.specs.Prelude.{Some, OnOk}
use Rattle.std.proofs.lemmas.Grind.{common_steps}
use Rattle.mof_metamodel.specs.declared.desc.ClassId.{ClassId}
use Rattle.mof_metamodel.specs.Metamodels.{united, all_united}
use Rattle.mof_metamodel.specs.Tables.{class_numbers, line_at, AreMarks, HasOrders}
use Rattle.mof_metamodel.proofs.LineLemmas.{line_at_read, put_back}
use Rattle.mof_metamodel.proofs.JoinLemmas.{united_step, has_more}
use Rattle.mof_metamodel.proofs.lineages.join_all.Goals as goal

pub loop-s-preserved : goal.loop-s-preserved
loop-s-preserved c =
    let x : ClassId = get_or c.args.supers.now c.loop-s.s-index (record { 0 = 0 }) in
    let e = ap length c.as_mut_slice.ensures.value in
    let put = put_back c.join_one.new.marks c.loop-s.marks.items c.loop-s.marks.len (omega (arith, e)) (omega arith) in
    let within : x.0 < length c.args.orders.now = c.requires.within c.loop-s.s-index (record { 0 = 0 }) (omega arith) in
    let there : line_at c.args.orders.now x.0 ≡ Some c.in-Some.order = line_at_read c.args.orders.now x.0 c.index-orders-s.result within c.index-orders-s.is ∙ c.in-Some.is in
    let order : c.join_one.new.joint ≡ united c.loop-s.joint c.in-Some.order =
    subst (λ r. OnOk r (c.join_one.new.joint ≡ united c.loop-s.joint c.as_slice.result.now)) c.in-Ok-join_one.is c.join_one.ensures.joint ∙ ap (united c.loop-s.joint) c.as_slice.ensures in
    let marks : AreMarks c.join_one.new.marks c.join_one.new.joint =
    subst (λ r. OnOk r (AreMarks c.join_one.new.marks c.join_one.new.joint)) c.in-Ok-join_one.is c.join_one.ensures.marks in
    let P : List Bool → Type 0 = λ marks. (length marks ≡ length c.args.orders.now) × AreMarks marks c.join_one.new.joint in
    let marked = subst P (sym put) ((let long = c.loop-s.invariant.1 in omega (arith, e, long)), marks) in (
      ap (λ acc. all_united acc (map (line_at c.args.orders.now) (class_numbers (drop (c.loop-s.s-index + 1) c.args.supers.now)))) order
          ∙ sym (united_step c.args.orders.now c.args.supers.now c.loop-s.s-index (record { 0 = 0 }) c.loop-s.joint c.in-Some.order (omega arith) there) ∙ c.loop-s.invariant.0,
      marked.0,
      marked.1,
      subst (HasOrders c.args.orders.now) (sym order) (has_more c.args.orders.now c.requires.orders c.loop-s.joint x.0 c.in-Some.order there c.loop-s.invariant.3),
    )

pub join_one-requires-clause-within : goal.join_one-requires-clause-within
join_one-requires-clause-within c = grind (arith, common_steps)

pub join_one-requires-clause-there : goal.join_one-requires-clause-there
join_one-requires-clause-there c = grind (arith, common_steps)

pub returns-in-None : goal.returns-in-None
returns-in-None c = grind (arith, common_steps)

pub returns : goal.returns
returns c = grind (arith, common_steps)
