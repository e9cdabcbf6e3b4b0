use Rattle.std.proofs.Common.{◌∙◌}
use Rattle.mof_metamodel.specs.Tables.{name_number}
use Rattle.mof_metamodel.proofs.TableLemmas.{entry_more}
use Rattle.mof_metamodel.proofs.prop_names.name_numbers.Goals as goal

pub loop-p-preserved : goal.loop-p-preserved
loop-p-preserved c = c.in_ok-push.ensures.items ∙ entry_more c.loop-p.numbers.items (name_number c.args.named.now) c.loop-p.p c.number_of.result c.loop-p.invariant c.number_of.ensures
