use Rattle.std.specs.Prelude.{◌≡◌, ℕ, List, Option, None, Ok, Err, OnErr, refl}
use Rattle.vault_io.proofs.std_sink.StdSinkSink.TheImpl.Goals as goal

-- nothing is told of the bytes
pub write-tells : goal.write-tells
write-tells g c =
    let nothing : Option (List ℕ) = None in
    record {
      bytes = c.ensures.bytes;
      kept = elim c.result as (λ r. OnErr r (nothing ≡ nothing)) [ Ok n ↦ tt | Err e ↦ refl ];
      failed = c.ensures.failed;
      faults = c.ensures.faults;
    }
