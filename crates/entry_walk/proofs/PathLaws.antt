-- The path of a walk, and the chains that are told where it can't go on.
use Rattle.std.specs.Prelude.{◌≡◌, ◌≢◌, ◌<◌, ◌≤◌, List, [], ◌∷◌, ◌++◌, length, Contains, AllPairs}
use Rattle.std.proofs.Common.{refl, ap, subst, arith, length-append}
use Rattle.std.proofs.lemmas.List.Quantifiers.{all_pairs_push}
use Rattle.object_tables.specs.Models.{ModelData}
use Rattle.qv_syntax.specs.declared.program.Program.{Program}
use Rattle.qvtr_semantics.specs.declared.limits.TheConstants.{MAX_CALLS}
use Rattle.repair_semantics.specs.declared.term.Term.{Term}
use Rattle.repair_semantics.specs.declared.entry.EntryName.{EntryName}
use Rattle.repair_semantics.specs.EntryChains.{CallsNext, GoesOnEntries, EntryChain, CyclicEntries, DeepEntries}
use Rattle.entry_making.specs.declared.numbered_call.NumberedCall.{NumberedCall}
use Rattle.entry_making.specs.CallNumbers.{call_of}
use Rattle.entry_walk.specs.Paths.{path_in, IsPath, LeadsTo}
use Rattle.entry_walk.specs.Explored.{IsMade}
use Rattle.entry_walk.proofs.PlaceLaws.{place_in}

-- a path with one call more
pub path_push : (terms : List Term) (path : List NumberedCall) (c : NumberedCall) → path_in terms (path ++ c ∷ []) ≡ path_in terms path ++ call_of terms c ∷ []
path_push terms [] c = refl
path_push terms (d ∷ path) c = ap (λ xs. call_of terms d ∷ xs) (path_push terms path c)

pub path_append : (terms : List Term) (path more : List NumberedCall) → path_in terms (path ++ more) ≡ path_in terms path ++ path_in terms more
path_append terms [] more = refl
path_append terms (d ∷ path) more = ap (λ xs. call_of terms d ∷ xs) (path_append terms path more)

-- a call that isn't among distinct ones stands behind them
pub distinct_more : (path : List EntryName) (c : EntryName) → AllPairs (λ c d. c ≢ d) path → ¬ Contains path c → AllPairs (λ c d. c ≢ d) (path ++ c ∷ [])
distinct_more path c distinct new = all_pairs_push (λ (d e : EntryName). d ≢ e) path c distinct (λ k d less same. new (subst (Contains path) same (place_in path k d less)))

module _ (program : Program) (models : List ModelData) where
  -- a call that is on the path is told as a cycle
  pub told_cycle : (path : List EntryName) (c : EntryName) → IsPath path → LeadsTo program models path c → Contains path c → CyclicEntries program models (path ++ c ∷ [])
  told_cycle path c is leads repeat = record { reached = leads; cyclic = record { before = path; last = c; is = refl; distinct = is.distinct; repeat = repeat } }

  -- where the path has as many calls as a chain may have, one more is told as too deep
  pub told_deep : (path : List EntryName) (c : EntryName) → IsPath path → MAX_CALLS ≤ length path → LeadsTo program models path c → ¬ Contains path c → DeepEntries program models (path ++ c ∷ [])
  told_deep path c is long leads new = record {
    reached = leads;
    deep = record { calls = (let l = length-append path (c ∷ []) in let s = is.short in omega (arith, l, long, s)); distinct = distinct_more path c is.distinct new };
  }

  -- else the path goes on
  pub path_on : (path : List EntryName) (c : EntryName) → IsPath path → length path < MAX_CALLS → ¬ Contains path c → IsPath (path ++ c ∷ [])
  path_on path c is short new = record { distinct = distinct_more path c is.distinct new; short = (let l = length-append path (c ∷ []) in omega (arith, l, short)) }

  -- the last call of a chain is made by an entry
  goes_made : (from : EntryName) (path : List EntryName) (c : EntryName) → GoesOnEntries program models from (path ++ c ∷ []) → IsMade program models c
  goes_made from [] c goes = (goes.0.by, goes.0.entry, goes.0.calls)
  goes_made from (d ∷ path) c goes = goes_made d path c goes.1

  pub leads_made : (path : List EntryName) (c : EntryName) → LeadsTo program models path c → IsMade program models c
  leads_made [] c leads = (leads.0.from, leads.0.entry, leads.0.calls)
  leads_made (d ∷ path) c leads = goes_made d path c leads.1

  goes_more : (from : EntryName) (xs : List EntryName) (last next : EntryName) → GoesOnEntries program models from (xs ++ last ∷ []) → CallsNext program models last next
      → GoesOnEntries program models from ((xs ++ last ∷ []) ++ next ∷ [])
  goes_more from [] last next goes calls = (goes.0, (calls, tt))
  goes_more from (x ∷ xs) last next goes calls = (goes.0, goes_more x xs last next goes.1 calls)

  pub chain_more : (before : List EntryName) (last next : EntryName) → EntryChain program models (before ++ last ∷ []) → CallsNext program models last next
      → EntryChain program models ((before ++ last ∷ []) ++ next ∷ [])
  chain_more [] last next chain calls = (chain.0, (calls, tt))
  chain_more (x ∷ xs) last next chain calls = (chain.0, goes_more x xs last next chain.1 calls)

  -- what the last call of a path calls next, the path leads to
  pub leads_on : (path : List EntryName) (last next : EntryName) → LeadsTo program models path last → CallsNext program models last next → LeadsTo program models (path ++ last ∷ []) next
  leads_on path last next leads calls = chain_more path last next leads calls
