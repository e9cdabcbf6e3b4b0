use Rattle.std.proofs.Common.{◌≡◌, ◌++◌, drop}
use Rattle.std.specs.List.{flat_map}
use Rattle.entry_bindings.specs.Joins.{call_extended}
use Rattle.entry_bindings.proofs.joining.all_extended.Given as goal

abbrev pub invariant-loop-b : goal.invariant-loop-b
invariant-loop-b l = l.found ++ flat_map (call_extended l.task.program.now l.task.models.now l.task.matches.now l.task.rel.now l.task.data.now.values l.number l.args) (drop l.b-index l.bs)
    ≡ flat_map (call_extended l.task.program.now l.task.models.now l.task.matches.now l.task.rel.now l.task.data.now.values l.number l.args) l.bs
