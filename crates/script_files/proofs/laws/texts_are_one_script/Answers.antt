use Rattle.script_files.proofs.ScriptLaws.{one_script}
use Rattle.script_files.proofs.laws.texts_are_one_script.Goals as goal

pub returns : goal.returns
returns c = one_script
