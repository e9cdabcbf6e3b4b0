use Rattle.std.proofs.Common.{◌≡◌, ◌≤◌, ◌+◌, ◌-◌, length}
use Rattle.vault_io.proofs.Steps.{IsFront}
use Rattle.vault_io.proofs.loading.load.Given as goal

abbrev pub invariant-loop-bytes : goal.invariant-loop-bytes
invariant-loop-bytes g l =
    let files = g.F.Vault.files in
    let faults = g.F.Vault.faults in
    record {
      same_files : files l.vault ≡ files l.fn.vault;
      later : faults l.fn.vault ≤ faults l.vault;
      within : length l.bytes.items ≤ l.limit;
      front : IsFront (files l.vault) l.name l.bytes.items;
    }

abbrev pub decreases-loop-bytes : goal.decreases-loop-bytes
decreases-loop-bytes g l = l.limit + 1 - length l.bytes.items
