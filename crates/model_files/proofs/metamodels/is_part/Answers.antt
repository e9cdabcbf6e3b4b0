use Rattle.std.proofs.Common.{sym}
use Rattle.model_assembly.proofs.WritingParts.{part_where_contained, no_part_at_top}
use Rattle.model_files.proofs.metamodels.is_part.Goals as goal

pub returns-in-Some : goal.returns-in-Some
returns-in-Some c = sym (part_where_contained _ _ _ _ c.in-Some.ensures.reference c.in-Some.ensures.contained)

pub returns-in-None : goal.returns-in-None
returns-in-None c = sym (no_part_at_top _ _ c.in-None.ensures.top)
