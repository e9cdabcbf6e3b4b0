use Rattle.std.proofs.Common.{◌≡◌, map, drop}
use Rattle.std.specs.List.{list_all}
use Rattle.template_match.specs.Meeting.{item_of}
use Rattle.template_match.proofs.meeting.+meeting.Given as goal

abbrev pub invariant-items_hold-loop-item : goal.invariant-items_hold-loop-item
invariant-items_hold-loop-item l = list_all (λ item. item l.binding.values l.datum) (map (item_of l.task.program.now l.task.models.now) (drop l.item-index l.items))
    ≡ list_all (λ item. item l.binding.values l.datum) (map (item_of l.task.program.now l.task.models.now) l.items)
