use Rattle.std.proofs.Common.{◌∙◌}
use Rattle.template_match.proofs.MarkLaws.{replicate-false}
use Rattle.template_match.proofs.marks.unmarked.Goals as goal

pub returns : goal.returns
returns c = c.in_ok-from_elem.ensures.items_if_clones_equal (λ y is. is) ∙ replicate-false c.args.count
