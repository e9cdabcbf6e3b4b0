use Rattle.std.proofs.Common.{◌≡◌, ◌++◌, drop, map}
use Rattle.std.specs.Option.{option_map}
use Rattle.qvtr_semantics.specs.Outs.{all_given}
use Rattle.entry_bindings.specs.Arguments.{argument_of}
use Rattle.entry_bindings.proofs.arguments.arguments_of.Given as goal

abbrev pub invariant-loop-e : goal.invariant-loop-e
invariant-loop-e l = option_map (λ more. l.given ++ more) (all_given (map (argument_of l.task.program.now l.task.models.now l.task.rel.now l.task.data.now.values l.b) (drop l.e-index l.args)))
    ≡ all_given (map (argument_of l.task.program.now l.task.models.now l.task.rel.now l.task.data.now.values l.b) l.args)
