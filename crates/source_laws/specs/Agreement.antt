-- Models that agree but for the target (QVT 1.3, section 7.10.2).
use Rattle.std.specs.Prelude.{◌≡◌, ◌≢◌, ℕ, List, slice_get}
use Rattle.object_tables.specs.Models.{ModelData}

-- at each place but that of the target stands the same model in both lists, or none in either
abbrev pub AgreeBut : ℕ → List ModelData → List ModelData → Type 0
AgreeBut target ms ns = (m : ℕ) → m ≢ target → slice_get ms m ≡ slice_get ns m
