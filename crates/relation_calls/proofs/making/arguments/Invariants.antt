use Rattle.std.proofs.Common.{◌≡◌, ◌++◌, drop, map}
use Rattle.std.specs.Option.{option_map}
use Rattle.qvtr_semantics.specs.Outs.{datum_of, all_given}
use Rattle.qvtr_semantics.specs.Expressions.{value_for}
use Rattle.relation_calls.proofs.making.arguments.Given as goal

abbrev pub invariant-loop-e : goal.invariant-loop-e
invariant-loop-e l = option_map (λ more. l.given ++ more) (all_given (map (λ e. datum_of (value_for l.visit.program.now l.visit.models.now e l.b.values)) (drop l.e-index l.args)))
    ≡ all_given (map (λ e. datum_of (value_for l.visit.program.now l.visit.models.now e l.b.values)) l.args)
