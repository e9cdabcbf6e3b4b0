use Rattle.std.proofs.Common.{◌∙◌, ap, chars}
use Rattle.std.specs.Prelude.{is_some}
use Rattle.model_files.proofs.JsonFaultLaws.{met_by_name}
use Rattle.model_files.proofs.json_faults.is_met.Goals as goal

pub returns-in-Some : goal.returns-in-Some
returns-in-Some c = ap is_some c.in-Some.ensures ∙ met_by_name c.args.ids.now (chars c.args.id.now)

pub returns-in-None : goal.returns-in-None
returns-in-None c = ap is_some c.in-None.ensures ∙ met_by_name c.args.ids.now (chars c.args.id.now)
