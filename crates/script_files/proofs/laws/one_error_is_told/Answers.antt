use Rattle.script_files.proofs.ScriptLaws.{one_error}
use Rattle.script_files.proofs.laws.one_error_is_told.Goals as goal

pub returns : goal.returns
returns c = one_error
