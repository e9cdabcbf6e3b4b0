use Rattle.model_assembly.specs.Held.{MayBeWritten}
use Rattle.xmi_profile.proofs.written.Reading.{written_read, read_alone}
use Rattle.xmi_profile.proofs.written.Accepted.{not_refused}
use Rattle.xmi_profile.proofs.writing_laws.models_are_read_back.Goals as goal

pub returns-clause-read : goal.returns-clause-read
returns-clause-read c =
    let w : MayBeWritten c.args.model.now = record { valid = c.requires.valid; objects = c.requires.objects; depth = c.requires.depth; held = c.models_are_held.ensures } in
    written_read c.args.model.now w

pub returns-clause-only : goal.returns-clause-only
returns-clause-only c =
    let w : MayBeWritten c.args.model.now = record { valid = c.requires.valid; objects = c.requires.objects; depth = c.requires.depth; held = c.models_are_held.ensures } in
    λ k s. read_alone c.args.model.now k w s

pub returns-clause-accepted : goal.returns-clause-accepted
returns-clause-accepted c =
    let w : MayBeWritten c.args.model.now = record { valid = c.requires.valid; objects = c.requires.objects; depth = c.requires.depth; held = c.models_are_held.ensures } in
    λ fault. not_refused c.args.model.now w fault
