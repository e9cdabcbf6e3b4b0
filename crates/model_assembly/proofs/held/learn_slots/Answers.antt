use Rattle.std.proofs.Common.{arith, subst, ap, ◌∙◌}
use Rattle.std.specs.Prelude.{All}
use Rattle.std.proofs.lemmas.List.{take_all}
use Rattle.std.proofs.lemmas.List.Elements.{All-more}
use Rattle.mof_metamodel.specs.declared.desc.PropId.{PropId}
use Rattle.mof_metamodel.specs.Metamodels.{props_of}
use Rattle.object_tables.specs.Models.{IsAttributeOf, values_at}
use Rattle.model_assembly.specs.Held.{IsHeld}
use Rattle.model_assembly.proofs.HeldLaws.{attributes_held}
use Rattle.model_assembly.proofs.held.learn_slots.Goals as goal

pub loop-p-preserved : goal.loop-p-preserved
loop-p-preserved c =
    All-more (λ (p : PropId). IsAttributeOf c.args.model.now c.args.o.0 p.0 → All IsHeld (values_at c.args.model.now c.args.o.0 p.0)) c.props-p-items.result.now c.loop-p.p-index (record { 0 = 0 })
    (omega arith) c.loop-p.invariant c.learn_slot.ensures

pub returns-after-loop-p : goal.returns-after-loop-p
returns-after-loop-p c =
    attributes_held c.args.model.now c.args.o.0 c.class_of.result.0 c.props-p-items.result.now c.class_of.ensures.class
    (c.props-p-items.ensures.numbers ∙ ap (λ d. props_of d c.class_of.result.0) c.meta.ensures)
    (subst (All (λ (p : PropId). IsAttributeOf c.args.model.now c.args.o.0 p.0 → All IsHeld (values_at c.args.model.now c.args.o.0 p.0))) (take_all c.loop-p.p-index c.props-p-items.result.now (omega arith)) c.loop-p.invariant)
