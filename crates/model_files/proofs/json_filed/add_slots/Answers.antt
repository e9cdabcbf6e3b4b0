use Rattle.model_files.proofs.JsonStepLaws.{slots_apart}
use Rattle.model_files.proofs.json_filed.add_slots.Goals as goal

pub returns-clause-apart : goal.returns-clause-apart
returns-clause-apart c = slots_apart c.args.slots.now.entries c.iter-name-items.ensures.ordered
