-- The path of a walk over calls in where clauses (QVT 1.3, section 7.10.2).
use Rattle.std.specs.Prelude.{◌≢◌, ◌≤◌, List, [], ◌∷◌, ◌++◌, map, length, AllPairs}
use Rattle.object_tables.specs.Models.{ModelData}
use Rattle.qv_syntax.specs.declared.program.Program.{Program}
use Rattle.qvtr_semantics.specs.declared.limits.TheConstants.{MAX_CALLS}
use Rattle.repair_semantics.specs.declared.term.Term.{Term}
use Rattle.repair_semantics.specs.declared.entry.EntryName.{EntryName}
use Rattle.repair_semantics.specs.EntryChains.{EntryChain}
use Rattle.entry_making.specs.declared.numbered_call.NumberedCall.{NumberedCall}
use Rattle.entry_making.specs.CallNumbers.{call_of}

-- calls with terms for numbers
abbrev pub path_in : List Term → List NumberedCall → List EntryName
path_in terms path = map (call_of terms) path

-- the calls from the first one to where the walk stands: none of them stands twice, and there are no more than a chain may have
pub record IsPath (path : List EntryName) : Type 0 where
  pub distinct : AllPairs (λ c d. c ≢ d) path
  pub short : length path ≤ MAX_CALLS

-- the path with the call is a chain
abbrev pub LeadsTo : Program → List ModelData → List EntryName → EntryName → Type 0
LeadsTo program models path c = EntryChain program models (path ++ c ∷ [])
