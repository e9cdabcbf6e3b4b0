-- The properties that stand at the place of the key.
use Rattle.std.proofs.Common.{ap, ◌∙◌}
use Rattle.entry_texts.specs.Naming.{question, props_at}
use Rattle.entry_texts.proofs.KeyLaws.{props_found}
use Rattle.entry_texts.proofs.names.Names.key_props.Goals as goal

pub returns-in-Some : goal.returns-in-Some
returns-in-Some c =
    c.props_at.ensures ∙ ap (props_at (question c.args.self.now).program) c.in-Some.ensures.value ∙ props_found (question c.args.self.now).program c.args.self.now.places.now c.requires.places c.args.class.0

pub returns-in-None : goal.returns-in-None
returns-in-None c =
    ap (props_at (question c.args.self.now).program) c.in-None.ensures.value ∙ props_found (question c.args.self.now).program c.args.self.now.places.now c.requires.places c.args.class.0
