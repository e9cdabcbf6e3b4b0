use Rattle.std.proofs.Common.{◌∙◌, arith}
use Rattle.model_assembly.proofs.assembling.ObjectLaws.{addable_at, objects_next}
use Rattle.model_assembly.proofs.assembly.objects.bare_model.Goals as goal

pub add-requires-clause-addable : goal.add-requires-clause-addable
add-requires-clause-addable c =
    addable_at c.args.meta.now c.args.classes.now c.args.ids.now c.loop-o.o (record { 0 = 0 }) c.index-ids-o.result c.loop-o.model c.in_ok-duplicate.field-0 c.requires (omega arith)
    c.loop-o.invariant (c.in_ok-duplicate.ensures ∙ c.index-ids-o.is)

pub loop-o-preserved : goal.loop-o-preserved
loop-o-preserved c =
    let same = c.requires.same in
    c.in_ok-add.ensures
    ∙ objects_next c.args.meta.now c.args.classes.now c.args.ids.now c.loop-o.o (record { 0 = 0 }) c.index-ids-o.result c.loop-o.model c.in_ok-duplicate.field-0 (omega (arith, same)) (omega arith)
    c.loop-o.invariant (c.in_ok-duplicate.ensures ∙ c.index-ids-o.is)
