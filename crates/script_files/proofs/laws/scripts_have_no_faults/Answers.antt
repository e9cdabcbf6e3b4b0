use Rattle.script_files.proofs.ScriptLaws.{no_error}
use Rattle.script_files.proofs.laws.scripts_have_no_faults.Goals as goal

pub returns : goal.returns
returns c bytes s e = no_error bytes s e
