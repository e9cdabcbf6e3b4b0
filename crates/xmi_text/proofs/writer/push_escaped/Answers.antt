use Rattle.xmi_text.proofs.writing.Literals.{feed_characters}
use Rattle.xmi_text.proofs.writer.push_escaped.Goals as goal

pub returns-in-10 : goal.returns-in-10
returns-in-10 c = rw (c.in-10.is, ← feed_characters) assumption
