use Rattle.std.proofs.Common.{◌≡◌, drop}
use Rattle.std.specs.FinMap.{get}
use Rattle.vault_io.specs.Stores.{first_files}
use Rattle.vault_io.proofs.mem_vault.first_named.Given as goal

-- no file so far has the name
abbrev pub invariant-loop-file : goal.invariant-loop-file
invariant-loop-file l = get (first_files (drop l.file-index l.files)) l.name ≡ get (first_files l.files) l.name
