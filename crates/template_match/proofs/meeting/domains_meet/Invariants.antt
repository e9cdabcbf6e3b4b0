use Rattle.std.proofs.Common.{◌≡◌, drop}
use Rattle.std.specs.List.{list_all}
use Rattle.template_match.specs.Sides.{domain_meets}
use Rattle.template_match.proofs.meeting.domains_meet.Given as goal

abbrev pub invariant-loop-dom : goal.invariant-loop-dom
invariant-loop-dom l = list_all (domain_meets l.task.side l.task.program.now l.task.models.now l.binding.values) (drop l.dom-index l.domains)
    ≡ list_all (domain_meets l.task.side l.task.program.now l.task.models.now l.binding.values) l.domains
