use Rattle.std.proofs.Common.{sym, subst}
use Rattle.mof_metamodel.specs.declared.desc.MetaDesc.{MetaDesc}
use Rattle.entry_making.specs.Orderable.{IsOrderable}
use Rattle.entry_finding.proofs.OrderableLaws.{is_orderable}
use Rattle.entry_finding.proofs.preparing.preparations.Goals as goal

pub all_prepared-requires-clause-orderable : goal.all_prepared-requires-clause-orderable
all_prepared-requires-clause-orderable c = λ number rel found direction.
    subst (λ (desc : MetaDesc). IsOrderable c.args.program.now desc rel) (sym c.target_metamodel.ensures)
    (is_orderable c.requires.0 c.args.program.now c.args.models.now c.requires.1 number rel found direction)
