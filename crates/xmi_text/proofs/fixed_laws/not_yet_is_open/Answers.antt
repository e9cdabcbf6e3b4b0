use Rattle.xmi_text.proofs.reading.Fixed.{not_yet_open, open_not_yet}
use Rattle.xmi_text.proofs.fixed_laws.not_yet_is_open.Goals as goal

pub returns : goal.returns
returns c bytes given = (not_yet_open bytes given, open_not_yet bytes given)
