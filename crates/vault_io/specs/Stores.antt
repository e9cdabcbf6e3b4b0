-- What a vault and a sink in memory are seen as.
use Rattle.std.specs.Prelude.{ℕ, List, map, reverse, refl, encode_utf8_all}
use Rattle.std.specs.Coded.{Coded, code_by, coded×, coded_ℕ, coded_list}
use Rattle.std.specs.FinMap.{from_entries, code}
use Rattle.vault_io.specs.declared.named_file.NamedFile.{NamedFile}
use Rattle.vault_io.specs.declared.tally.Tally.{Tally}
use Rattle.vault_io.specs.Files.{Files}

-- a vault in memory: its files, and its calls
pub record VaultState : Type 0 where
  pub files : Files
  pub tally : Tally

-- a sink in memory: the bytes that it took, and its calls
pub record SinkState : Type 0 where
  pub bytes : List ℕ
  pub tally : Tally

-- a file's name in UTF-8, and its bytes
abbrev pub entry_of : NamedFile → List ℕ × List ℕ
entry_of file = (encode_utf8_all file.name, file.bytes)

-- the files of a list; of two of one name the first counts
abbrev pub first_files : List NamedFile → Files
first_files files = from_entries (map entry_of files)

-- the files of a list; of two of one name the later counts
abbrev pub files_of : List NamedFile → Files
files_of files = first_files (reverse files)

abbrev pub tally_code : Coded Tally
tally_code =
    code_by (List ℕ × (ℕ × (ℕ × ℕ))) (coded× (coded_list coded_ℕ) (coded× coded_ℕ (coded× coded_ℕ coded_ℕ)))
    (λ t. (t.failing, (t.calls, (t.faults, t.starved))))
    (λ p. record { failing = p.0; calls = p.1.0; faults = p.1.1.0; starved = p.1.1.1 }) (λ _. refl)

abbrev pub vault_code : Coded VaultState
vault_code =
    code_by (Files × Tally) (coded× (code (coded_list coded_ℕ) (coded_list coded_ℕ)) tally_code)
    (λ v. (v.files, v.tally)) (λ p. record { files = p.0; tally = p.1 }) (λ _. refl)

abbrev pub sink_code : Coded SinkState
sink_code =
    code_by (List ℕ × Tally) (coded× (coded_list coded_ℕ) tally_code)
    (λ s. (s.bytes, s.tally)) (λ p. record { bytes = p.0; tally = p.1 }) (λ _. refl)
