use Rattle.example_laws.proofs.RefusalLaws.{sound_target}
use Rattle.example_laws.proofs.laws.made_targets_are_sound.Goals as goal

pub returns : goal.returns
returns c = λ metas classes seed d few can are. sound_target classes seed few metas d can are
