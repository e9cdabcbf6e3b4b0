-- How a table of terms is kept: its terms in their order, and each of them with its number, to be looked up.
use Rattle.std.specs.Prelude.{◌≡◌, ◌≤◌, ◌+◌, ℕ, List, [], ◌∷◌, ◌++◌, map, Some, slice_get, All}
use Rattle.std.specs.Option.{option_map_or}
use Rattle.std.specs.Map.{lookup}
use Rattle.std.specs.BTreeMap.{is_at}
use Rattle.repair_semantics.specs.declared.term.Term.{Term}
use Rattle.repair_semantics.specs.Terms.{height}
use Rattle.term_table.specs.declared.numbered.NumberedValue.{NumberedValue}
use Rattle.term_table.specs.declared.numbered.NumberedValue.TheVariants as numbered
use Rattle.term_table.specs.declared.numbered.NumberedTerm.{NumberedTerm}
use Rattle.term_table.specs.declared.kept.Kept.{Kept}
use Rattle.term_table.specs.TermTables.{keyed, term_at, value_in, IsBelow}
use Rattle.term_table.specs.NumberOrder.{numbered_term_order}

-- the term among terms that are there
abbrev pub tree_in : List Term → NumberedTerm → Term
tree_in terms t = keyed t.class (map (value_in terms) t.keys)

-- terms that are there with further ones, each by those before it
abbrev pub trees_from : List Term → List Kept → List Term
trees_from terms [] = terms
trees_from terms (k ∷ ks) = trees_from (terms ++ tree_in terms k.term ∷ []) ks

-- the terms that are kept
abbrev pub trees : List Kept → List Term
trees = trees_from []

-- the height that is kept of a key value
abbrev pub kept_height : List Kept → NumberedValue → ℕ
kept_height kept (numbered.Val d) = 0
kept_height kept (numbered.Term n) = option_map_or (λ k. k.height) (slice_get kept n) 0

-- each term is by terms before it
abbrev pub AreGrounded : List Kept → Type 0
AreGrounded kept = (n : ℕ) (k : Kept) → slice_get kept n ≡ Some k → All (IsBelow n) k.term.keys

-- no term is higher than there are terms up to it
abbrev pub AreLow : List Kept → Type 0
AreLow kept = (n : ℕ) (k : Kept) → slice_get kept n ≡ Some k → k.height ≤ n + 1

-- a term is kept with this number
abbrev pub IsKeptAt : List Kept → ℕ → NumberedTerm → Type 0
IsKeptAt kept n t = (k : Kept) × (slice_get kept n ≡ Some k) × (k.term ≡ t)

-- each term is by terms before it, has its height, and is found with its number
pub record IsTable (kept : List Kept) (entries : List (NumberedTerm × ℕ)) : Type 0 where
  pub grounded : AreGrounded kept
  pub heights : (n : ℕ) (k : Kept) → slice_get kept n ≡ Some k → k.height ≡ height (term_at (trees kept) n)
  pub low : AreLow kept
  pub found : (t : NumberedTerm) (n : ℕ) → lookup (is_at (numbered_term_order t)) entries ≡ Some n → IsKeptAt kept n t
  pub known : (t : NumberedTerm) (n : ℕ) → IsKeptAt kept n t → lookup (is_at (numbered_term_order t)) entries ≡ Some n
