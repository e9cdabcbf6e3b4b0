use Rattle.reading_laws.proofs.EntryRoots.{entry_rooted}
use Rattle.reading_laws.proofs.roots.entries_have_their_roots.Goals as goal

pub returns : goal.returns
returns c = λ metas program sources over enforceable e is rel found.
    let r = entry_rooted metas program sources over enforceable e is rel found in (r.direction, r.roots, r.source, r.has)
