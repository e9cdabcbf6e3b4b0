use Rattle.std.proofs.Common.{ap, reverse, ◌∙◌}
use Rattle.vault_io.specs.Stores.{first_files}
use Rattle.vault_io.proofs.mem_vault.MemVault.new.Goals as goal

pub returns-clause-files : goal.returns-clause-files
returns-clause-files c = ap first_files (c.reverse.ensures.items ∙ ap reverse c.into_vec-files.ensures)
