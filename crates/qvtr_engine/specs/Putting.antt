-- The end of a put.
use Rattle.std.specs.Prelude.{◌≡◌, ◌⊎◌, ℕ, List, Option}
use Rattle.vault_io.specs.Files.{Files, bound}
use Rattle.qvtr_engine.specs.declared.status.Status.{Status}
use Rattle.qvtr_engine.specs.declared.status.Status.TheVariants.{Done, Fault}
use Rattle.qvtr_engine.specs.Outcome.{Finishes}

-- the file at the path has these bytes, and the text of a success was printed; or the vault faulted, the file has its old or its new bytes, and the
-- text of a failure was printed
pub data PutEnds (told : Option Files) (path bytes success failure : List ℕ) (vault_faulted sink_faulted : Type 0) (before after : Option (List ℕ)) (told_after : Option Files) (result : Status) : Type 0 where
  put_well : told_after ≡ bound told path bytes → Finishes Done success before after sink_faulted result
      → PutEnds told path bytes success failure vault_faulted sink_faulted before after told_after result
  put_badly : vault_faulted → (told_after ≡ told) ⊎ (told_after ≡ bound told path bytes) → Finishes Fault failure before after sink_faulted result
      → PutEnds told path bytes success failure vault_faulted sink_faulted before after told_after result
