use Rattle.std.proofs.lemmas.Str.{scalars-chars}
use Rattle.model_assembly.proofs.held.learn_str.Goals as goal

pub returns : goal.returns
returns c = scalars-chars c.args.text.now c.utf8.text
