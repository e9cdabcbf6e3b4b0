use Rattle.key_index.proofs.KindLaws.{conforms_listed}
use Rattle.key_index.proofs.kind.is_kind_of.Goals as goal

pub returns : goal.returns
returns c = conforms_listed c.args.meta.now c.args.class.0 c.args.other.0 c.conforms.result c.class_count-count.ensures.well c.requires c.conforms.ensures
