use Rattle.std.specs.Prelude.{◌<◌, ◌^◌, ℕ, All}
use Rattle.std.proofs.Common.{arith, subst}
use Rattle.std.proofs.lemmas.List.{take_all}
use Rattle.std.proofs.lemmas.List.Elements.{All-more}
use Rattle.enforce_steps.proofs.counting.few_numbers.Goals as goal

pub loop-number-preserved : goal.loop-number-preserved
loop-number-preserved c =
    All-more (λ (v : ℕ). v < 2 ^ 32) c.args.numbers.now c.loop-number.number-index 0 c.loop-number-test.true c.loop-number.invariant c.few_number.ensures

pub returns : goal.returns
returns c = subst (All (λ (v : ℕ). v < 2 ^ 32)) (take_all c.loop-number.number-index c.args.numbers.now (omega arith)) c.loop-number.invariant
