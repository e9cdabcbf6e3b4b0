-- The model that is made, as the code has its parts: what stays, what is claimed, and the fresh terms by number.
use Rattle.std.specs.Prelude.{ℕ, Bool, false, List, map, slice_index_or}
use Rattle.object_tables.specs.Models.{ModelData}
use Rattle.qv_syntax.specs.declared.program.Program.{Program}
use Rattle.repair_semantics.specs.declared.term.Term.{Term}
use Rattle.repair_semantics.specs.Claims.{Claim}
use Rattle.repair_semantics.specs.Candidates.{candidate_with}
use Rattle.term_table.specs.TermTables.{term_at}

-- the terms with these numbers
abbrev pub terms_at : List Term → List ℕ → List Term
terms_at terms numbers = map (term_at terms) numbers

-- the object of the number stays
abbrev pub is_staying : List Bool → ℕ → Bool
is_staying staying o = slice_index_or staying o false

-- the model with fresh objects for these terms, where so objects stay and so much is claimed
abbrev pub made_of : Program → ModelData → List Bool → List (Claim ℕ) → List Term → List ℕ → ModelData
made_of program m staying claims terms fresh = candidate_with program m (is_staying staying) claims (terms_at terms fresh)
