use Rattle.std.proofs.Common.{sym, subst}
use Rattle.std.specs.Prelude.{All}
use Rattle.model_assembly.specs.declared.filed.WrittenReference.{WrittenReference}
use Rattle.model_assembly.specs.AssemblyEntries.{IsReferenceAt}
use Rattle.model_assembly.proofs.assembly.references.sorted_entries.Goals as goal

pub entries-requires-clause-references : goal.entries-requires-clause-references
entries-requires-clause-references c =
    subst (λ cs. All (λ (r : WrittenReference). IsReferenceAt c.args.meta.now cs r.object r.property.0) c.as_slice-2.result.now) (sym c.as_slice.ensures)
    (subst (All (λ (r : WrittenReference). IsReferenceAt c.args.meta.now c.args.filed.now.classes r.object r.property.0)) (sym c.as_slice-2.ensures) c.requires.references)
