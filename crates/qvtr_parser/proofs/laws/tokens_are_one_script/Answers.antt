use Rattle.qvtr_parser.proofs.Refused.{one_script, script_wider}
use Rattle.qvtr_parser.proofs.laws.tokens_are_one_script.Goals as goal

pub returns : goal.returns
returns c = record { one = one_script; wider = script_wider }
