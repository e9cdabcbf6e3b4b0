use Rattle.std.proofs.Common.{arith, subst}
use Rattle.std.specs.Prelude.{All}
use Rattle.std.proofs.lemmas.List.{take_all}
use Rattle.std.proofs.lemmas.List.Elements.{All-more}
use Rattle.template_match.specs.Posed.{HasValue}
use Rattle.repair_cases.proofs.binding_comparisons.have_values.Goals as goal

pub loop-variable-preserved : goal.loop-variable-preserved
loop-variable-preserved c =
    All-more (HasValue c.args.binding.now.values) c.args.variables.now c.loop-variable.variable-index 0 c.loop-variable-test.true c.loop-variable.invariant
    (c.has_value.ensures c.if-not-has_value.false)

pub returns : goal.returns
returns c = λ _. subst (All (HasValue c.args.binding.now.values)) (take_all c.loop-variable.variable-index c.args.variables.now (omega arith)) c.loop-variable.invariant
