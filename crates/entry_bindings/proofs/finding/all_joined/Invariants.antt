use Rattle.std.proofs.Common.{◌≡◌, ◌++◌, drop}
use Rattle.template_match.specs.Search.{values_of}
use Rattle.entry_bindings.specs.Joins.{all_joined}
use Rattle.entry_bindings.proofs.finding.all_joined.Given as goal

abbrev pub invariant-loop-source : goal.invariant-loop-source
invariant-loop-source l = l.bs ++ all_joined l.sought.program.now l.sought.models.now l.sought.matches.now l.sought.rel.now l.sought.roots.now (values_of (drop l.source-index l.found))
    ≡ all_joined l.sought.program.now l.sought.models.now l.sought.matches.now l.sought.rel.now l.sought.roots.now (values_of l.found)
