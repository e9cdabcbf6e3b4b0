use Rattle.std.proofs.Common.{◌∙◌, sym, arith}
use Rattle.enforcement_rules.specs.KeyTests.{is_given}
use Rattle.enforcement_rules.specs.NumberSets.{has}
use Rattle.enforcement_rules.proofs.ListLaws.{all_stops, all_goes_on}
use Rattle.enforcement_rules.proofs.keys.all_given.Goals as goal

pub returns-then-not-is_given : goal.returns-then-not-is_given
returns-then-not-is_given c =
    all_stops (is_given (has c.args.given.now)) c.args.props.now c.loop-p.p-index (record { 0 = 0 }) (omega arith) (sym c.is_given.ensures ∙ c.if-not-is_given.true) c.loop-p.invariant

pub loop-p-preserved : goal.loop-p-preserved
loop-p-preserved c =
    all_goes_on (is_given (has c.args.given.now)) c.args.props.now c.loop-p.p-index (record { 0 = 0 }) (omega arith) (sym c.is_given.ensures ∙ c.if-not-is_given.false) c.loop-p.invariant
