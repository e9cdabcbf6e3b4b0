use Rattle.script_files.proofs.ScriptLaws.{each_told}
use Rattle.script_files.proofs.laws.each_text_is_told.Goals as goal

pub returns : goal.returns
returns c = each_told
