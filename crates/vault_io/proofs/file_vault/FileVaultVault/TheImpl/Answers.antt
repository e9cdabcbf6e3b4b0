use Rattle.std.specs.Prelude.{◌≡◌, Option, None, ◌⊎◌, Ok, Err, IfOk, OnOk, OnErr, refl}
use Rattle.std.proofs.Common.{inl}
use Rattle.vault_io.specs.Files.{Files}
use Rattle.vault_io.proofs.file_vault.FileVaultVault.TheImpl.Goals as goal

-- nothing is told of the files
pub read_at-tells : goal.read_at-tells
read_at-tells g c = record {
  count = c.ensures.count;
  bytes = elim c.result as (λ r. IfOk r (λ n. Unit {0})) [ Ok n ↦ tt | Err e ↦ tt ];
  failed = c.ensures.failed;
  files = refl;
  faults = c.ensures.faults;
}

pub put-tells : goal.put-tells
put-tells g c =
    let nothing : Option Files = None in
    record {
      ok = elim c.result as (λ r. OnOk r (nothing ≡ nothing)) [ Ok n ↦ refl | Err e ↦ tt ];
      err = elim c.result as (λ r. OnErr r ((nothing ≡ nothing) ⊎ (nothing ≡ nothing))) [ Ok n ↦ tt | Err e ↦ inl refl ];
      failed = c.ensures.failed;
      faults = c.ensures.faults;
    }
