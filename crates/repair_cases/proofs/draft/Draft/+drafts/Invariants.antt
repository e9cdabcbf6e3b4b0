use Rattle.std.proofs.Common.{◌+◌, ◌*◌}
use Rattle.repair_cases.proofs.draft.Draft.+drafts.Given as goal

-- each template in another one leaves fewer to stand within it

abbrev pub decreases-put_template : goal.decreases-put_template
decreases-put_template l = 4 * l.depth + 3

abbrev pub decreases-put_items : goal.decreases-put_items
decreases-put_items l = 4 * l.depth + 2

abbrev pub decreases-put_item : goal.decreases-put_item
decreases-put_item l = 4 * l.depth + 1

abbrev pub decreases-put_partner : goal.decreases-put_partner
decreases-put_partner l = 4 * l.depth
