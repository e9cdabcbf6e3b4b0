use Rattle.std.proofs.Common.{arith, subst}
use Rattle.std.specs.Prelude.{All}
use Rattle.std.proofs.lemmas.List.{take_all}
use Rattle.mof_metamodel.specs.declared.desc.PropId.{PropId}
use Rattle.mof_metamodel.specs.Metamodels.{prop_at}
use Rattle.model_assembly.specs.Held.{IsHeldText}
use Rattle.model_assembly.proofs.HeldLaws.{owned_held}
use Rattle.model_assembly.proofs.held.learn_props.Goals as goal

pub returns : goal.returns
returns c =
    owned_held c.args.meta.now c.args.c.0 c.props-p-items.result.now c.props-p-items.ensures.numbers c.props-p-items.ensures.order
    (subst (All (λ (p : PropId). IsHeldText (prop_at c.args.meta.now p.0).name)) (take_all c.loop-p.p-index c.props-p-items.result.now (omega arith)) c.loop-p.invariant)
