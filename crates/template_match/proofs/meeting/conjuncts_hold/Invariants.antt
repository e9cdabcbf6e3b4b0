use Rattle.std.proofs.Common.{◌≡◌, drop}
use Rattle.std.specs.List.{list_all}
use Rattle.qvtr_semantics.specs.Bindings.{conjunct_holds}
use Rattle.template_match.proofs.meeting.conjuncts_hold.Given as goal

abbrev pub invariant-loop-conjunct : goal.invariant-loop-conjunct
invariant-loop-conjunct l = list_all (conjunct_holds l.task.program.now l.task.models.now l.binding.values) (drop l.conjunct-index l.conjuncts)
    ≡ list_all (conjunct_holds l.task.program.now l.task.models.now l.binding.values) l.conjuncts
