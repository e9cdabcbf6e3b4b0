use Rattle.std.proofs.Common.{None}
use Rattle.object_tables.proofs.ListLemmas.{set-read}
use Rattle.object_tables.proofs.tables.forget_at.Goals as goal

pub returns : goal.returns
returns c = set-read c.args.entries.now.items c.args.o (λ e. record e { named = None }) c.index_mut.result.now c.requires c.index_mut.ensures.value
