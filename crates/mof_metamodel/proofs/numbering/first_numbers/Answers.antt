use Rattle.std.proofs.Common.{◌≡◌, ◌<◌, ◌∙◌, arith, get_or}
use Rattle.std.proofs.lemmas.Grind.{common_steps}
use Rattle.mof_metamodel.specs.Metamodels.{first_own, class_count}
use Rattle.mof_metamodel.proofs.TableLemmas.{first_own_more, entry_more}
use Rattle.mof_metamodel.proofs.numbering.first_numbers.Goals as goal

pub loop-class-preserved : goal.loop-class-preserved
loop-class-preserved c =
    let at : c.class-item.result ≡ get_or c.args.desc.now.classes c.loop-class.class-index c.class-item.result = rw (← c.as_slice-class-items.ensures) c.class-item.is in
    let short : c.loop-class.class-index < class_count c.args.desc.now = rw (← c.as_slice-class-items.ensures) (omega arith) in
    let more = first_own_more c.args.desc.now c.loop-class.class-index c.class-item.result short at in (
      omega (arith, more),
      c.in_ok-push.ensures.items ∙ entry_more c.loop-class.firsts.items (first_own c.args.desc.now) c.loop-class.class-index c.loop-class.next c.loop-class.invariant.1 c.loop-class.invariant.0,
    )

pub overflow_cast-next : goal.overflow_cast-next
overflow_cast-next c = grind (arith, common_steps)

pub overflow_add-next : goal.overflow_add-next
overflow_add-next c = grind (arith, common_steps)
