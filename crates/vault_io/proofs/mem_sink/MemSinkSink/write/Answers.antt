use Rattle.std.proofs.Common.{refl, rules}
use Rattle.vault_io.proofs.mem_sink.MemSinkSink.write.Goals as goal

pub returns-clause-whole : goal.returns-clause-whole
returns-clause-whole c = (refl, search rules)
