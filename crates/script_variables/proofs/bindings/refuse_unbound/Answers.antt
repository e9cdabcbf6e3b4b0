use Rattle.std.proofs.Common.{arith, subst}
use Rattle.std.specs.Prelude.{All}
use Rattle.std.proofs.lemmas.List.{take_all}
use Rattle.std.proofs.lemmas.List.Elements.{All-more}
use Rattle.script_variables.specs.Bindings.{IsBoundData}
use Rattle.script_variables.proofs.bindings.refuse_unbound.Goals as goal

pub loop-name-preserved : goal.loop-name-preserved
loop-name-preserved c =
    All-more (IsBoundData c.args.types.now c.args.bound.now) c.args.names.now c.loop-name.name-index c.name-item.result (omega arith) c.loop-name.invariant
    (subst (IsBoundData c.args.types.now c.args.bound.now) c.name-item.is c.in_ok-refuse_one.ensures.bound)

pub returns-clause-bound : goal.returns-clause-bound
returns-clause-bound c = subst (All (IsBoundData c.args.types.now c.args.bound.now)) (take_all c.loop-name.name-index c.args.names.now (omega arith)) c.loop-name.invariant
