use Rattle.qvtr_types.proofs.NamedTrees.{variables_told}
use Rattle.qvtr_types.proofs.laws.variables_are_told.Goals as goal

pub returns : goal.returns
returns c = λ e t has. variables_told c.args.env.now e t has
