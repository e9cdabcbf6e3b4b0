use Rattle.xmi_text.proofs.reading.Fixed.{given_fixed, fixed_given}
use Rattle.xmi_text.proofs.fixed_laws.given_answers_are_fixed.Goals as goal

pub returns : goal.returns
returns c bytes given result = (given_fixed bytes given result, fixed_given bytes given result)
