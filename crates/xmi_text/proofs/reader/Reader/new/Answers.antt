use Rattle.xmi_text.proofs.reading.Reached.{Reached-none}
use Rattle.xmi_text.proofs.reader.Reader.new.Goals as goal

-- nothing was read
pub invariant_of-result : goal.invariant_of-result
invariant_of-result c = rw c.new.ensures.items (Reached-none _ c.new-2.ensures)
