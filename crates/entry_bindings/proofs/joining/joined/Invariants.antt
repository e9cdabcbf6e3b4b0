use Rattle.std.proofs.Common.{◌≡◌, drop}
use Rattle.entry_bindings.specs.Joins.{joined}
use Rattle.entry_bindings.proofs.joining.joined.Given as goal

abbrev pub invariant-loop-conj : goal.invariant-loop-conj
invariant-loop-conj l = joined l.task.program.now l.task.models.now l.task.matches.now l.task.rel.now l.task.data.now.values (drop l.conj-index l.clause) l.found
    ≡ joined l.task.program.now l.task.models.now l.task.matches.now l.task.rel.now l.task.data.now.values l.clause l.fn.bs
