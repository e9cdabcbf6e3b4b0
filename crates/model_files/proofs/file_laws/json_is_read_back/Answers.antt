use Rattle.model_assembly.specs.Held.{MayBeWritten}
use Rattle.model_files.proofs.file_laws.json_is_read_back.Goals as goal
use Rattle.model_files.proofs.read_back.Reading.{json_read, json_read_alone, json_accepted}

pub returns-clause-read : goal.returns-clause-read
returns-clause-read c =
    let w : MayBeWritten c.args.model.now = record { valid = c.requires.valid; objects = c.requires.objects; depth = c.requires.depth; held = c.models_are_held.ensures } in
    json_read c.args.model.now w

pub returns-clause-only : goal.returns-clause-only
returns-clause-only c =
    let w : MayBeWritten c.args.model.now = record { valid = c.requires.valid; objects = c.requires.objects; depth = c.requires.depth; held = c.models_are_held.ensures } in
    json_read_alone c.args.model.now w

pub returns-clause-accepted : goal.returns-clause-accepted
returns-clause-accepted c =
    let w : MayBeWritten c.args.model.now = record { valid = c.requires.valid; objects = c.requires.objects; depth = c.requires.depth; held = c.models_are_held.ensures } in
    json_accepted c.args.model.now w
