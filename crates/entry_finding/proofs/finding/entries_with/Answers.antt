use Rattle.term_table.specs.TermTables.{values_in}
use Rattle.entry_finding.proofs.PreparedLaws.{preparation_there, prepared_for}
use Rattle.entry_finding.proofs.finding.entries_with.Goals as goal

pub preparation_at-requires : goal.preparation_at-requires
preparation_at-requires c =
    let s = c.requires.sought in
    preparation_there s.0 c.args.world.now.program.now c.args.world.now.models.now c.args.rooted.now.rel (values_in c.args.table.now c.args.rooted.now.roots.now) s.2 c.args.world.now.preparations.now c.requires.prepared

pub entries_by-requires-clause-prepared : goal.entries_by-requires-clause-prepared
entries_by-requires-clause-prepared c = λ rel found.
    let s = c.requires.sought in
    prepared_for s.0 c.args.world.now.program.now c.args.world.now.models.now c.args.rooted.now.rel (values_in c.args.table.now c.args.rooted.now.roots.now) s.2 c.args.world.now.preparations.now c.requires.prepared
    c.preparation_at.result.now c.preparation_at.ensures rel found
