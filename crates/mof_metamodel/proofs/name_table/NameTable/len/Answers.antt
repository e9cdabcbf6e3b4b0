use Rattle.std.proofs.Common.{◌∙◌, ap, sym, length}
use Rattle.mof_metamodel.proofs.NameIndexLemmas.{length-table}
use Rattle.mof_metamodel.proofs.name_table.NameTable.len.Goals as goal

pub returns : goal.returns
returns g c = ap length c.as_slice.ensures.value ∙ sym (length-table c.self.inside.names c.self.inside.values.items c.self.invariant) ∙ ap length c.self.view_is
