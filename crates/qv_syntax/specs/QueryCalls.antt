-- The queries of a program call each other without a cycle.
use Rattle.std.specs.Prelude.{◌≡◌, ℕ, zero, suc, List, Some, slice_get}
use Rattle.qv_syntax.specs.declared.query.Query.{Query}
use Rattle.qv_syntax.specs.Parts.{CallsQuery}

-- the body of the first query calls the second
pub record Calls (queries : List Query) (caller called : ℕ) : Type 0 where
  pub query : Query
  pub found : slice_get queries caller ≡ Some query
  pub calls : CallsQuery query.body called

-- the first query comes to the second by one call or more
pub data Reaches (queries : List Query) : ℕ → ℕ → Type 0 where
  call : (a b : ℕ) → Calls queries a b → Reaches queries a b
  more : (a b c : ℕ) → Calls queries a b → Reaches queries b c → Reaches queries a c

abbrev pub AreAcyclic : List Query → Type 0
AreAcyclic queries = (q : ℕ) → ¬ Reaches queries q q

-- so many calls can be made within one another from a call of the query
abbrev pub IsCallChain : List Query → ℕ → ℕ → Type 0
IsCallChain queries zero q = (query : Query) × (slice_get queries q ≡ Some query)
IsCallChain queries (suc n) q = (called : ℕ) × Calls queries q called × IsCallChain queries n called
