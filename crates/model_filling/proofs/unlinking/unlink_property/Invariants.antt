use Rattle.std.proofs.Common.{length}
use Rattle.object_tables.specs.Models.{partners_at}
use Rattle.model_filling.specs.Unlinked.{Loses}
use Rattle.model_filling.proofs.unlinking.unlink_property.Given as goal

abbrev pub invariant-loop-b : goal.invariant-loop-b
invariant-loop-b l = Loses l.fn.model l.model

abbrev pub decreases-loop-b : goal.decreases-loop-b
decreases-loop-b l = length (partners_at l.model l.o.0 l.p.0)
