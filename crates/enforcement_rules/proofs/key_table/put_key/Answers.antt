use Rattle.std.proofs.Common.{List, subst}
use Rattle.std.specs.Prelude.{Contains}
use Rattle.mof_metamodel.specs.declared.desc.PropId.{PropId}
use Rattle.enforcement_rules.proofs.key_table.put_key.Goals as goal

pub any_many-requires : goal.any_many-requires
any_many-requires c = λ p among. c.requires.props c.if-key-number.true p (subst (λ (ps : List PropId). Contains ps p) c.as_slice.ensures among)
