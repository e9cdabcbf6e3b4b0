-- Tables of terms: each term once, named by its number (their numbers are this engine's own).
use Rattle.std.specs.Prelude.{◌≡◌, ◌<◌, ℕ, List, [], ◌∷◌, ◌++◌, map, length, Option, slice_index_or, if◌then◌else◌}
use Rattle.std.specs.List.{list_any}
use Rattle.std.specs.Option.{option_map}
use Rattle.mof_metamodel.specs.declared.desc.ClassId.{ClassId}
use Rattle.repair_semantics.specs.declared.term.Term.{Term, roll-Term}
use Rattle.repair_semantics.specs.declared.term.TermValue.{TermValue}
use Rattle.repair_semantics.specs.declared.term.TermValue.TheVariants as values
use Rattle.repair_semantics.specs.EntryValues.{TermValues}
use Rattle.repair_semantics.specs.Terms.{same_term}
use Rattle.term_table.specs.declared.numbered.NumberedValue.{NumberedValue}
use Rattle.term_table.specs.declared.numbered.NumberedValue.TheVariants as numbered

-- ---- what numbers stand for

-- the term of a class with these key values
abbrev pub keyed : ClassId → List TermValue → Term
keyed class keys = roll-Term (record { class = class; keys = keys })

-- what a number outside of a table stands for
abbrev pub no_term : Term
no_term = keyed (record { 0 = 0 }) []

-- the term with a number
abbrev pub term_at : List Term → ℕ → Term
term_at terms n = slice_index_or terms n no_term

-- the value that has a number for its term
abbrev pub value_in : List Term → NumberedValue → TermValue
value_in terms (numbered.Val d) = values.Val d
value_in terms (numbered.Term n) = values.Term (term_at terms n)

-- the values of the variables of a relation
abbrev pub values_in : List Term → List (Option NumberedValue) → TermValues
values_in terms vs = map (option_map (value_in terms)) vs

-- ---- which numbers a table has

-- a value is a datum, or has a number below this one
abbrev pub IsBelow : ℕ → NumberedValue → Type 0
IsBelow bound (numbered.Val d) = Unit {0}
IsBelow bound (numbered.Term n) = n < bound

-- a value is a datum, or has a number of the table
abbrev pub IsWithin : List Term → NumberedValue → Type 0
IsWithin terms = IsBelow (length terms)

-- the table has the term at this number
abbrev pub IsNumberOf : List Term → ℕ → Term → Type 0
IsNumberOf terms n t = (n < length terms) × (term_at terms n ≡ t)

-- no two numbers have one term
abbrev pub AreDistinct : List Term → Type 0
AreDistinct terms = (i j : ℕ) → i < length terms → j < length terms → term_at terms i ≡ term_at terms j → i ≡ j

-- ---- tables that grow

-- the table with a term behind the others, if it isn't there
abbrev pub with_term : List Term → Term → List Term
with_term terms t = if list_any (same_term t) terms then terms else terms ++ t ∷ []

-- a table with further terms behind the others
abbrev pub IsGrown : List Term → List Term → Type 0
IsGrown before after = (more : List Term) × (after ≡ before ++ more)
