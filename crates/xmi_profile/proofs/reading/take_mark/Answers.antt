use Rattle.std.specs.Prelude.{chars}
use Rattle.xmi_profile.proofs.SoundLaws.{sound_if_said}
use Rattle.xmi_profile.proofs.reading.take_mark.Goals as goal

pub returns-in-Data-clause-sound : goal.returns-in-Data-clause-sound
returns-in-Data-clause-sound c =
    sound_if_said c.args.profile.now.meta.now c.args.listing.now c.say.new.self (chars c.as_str.result.now) c.say.result c.requires.sound c.say.ensures
