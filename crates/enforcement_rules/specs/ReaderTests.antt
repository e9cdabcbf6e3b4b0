-- Which queries read objects of the target, as rules on their numbers.
use Rattle.std.specs.Prelude.{◌≡◌, ◌↔◌, ℕ, suc, Bool, true, false, List, [], ◌∷◌, ◌++◌, Option, None, Some, nat_eq, nat_lt, length, slice_get, if◌then◌else◌}
use Rattle.std.specs.List.{flat_map}
use Rattle.qv_syntax.specs.declared.query.ModelSlot.{ModelSlot}
use Rattle.qv_syntax.specs.declared.query.Query.{Query}
use Rattle.qv_syntax.specs.declared.program.Program.{Program}
use Rattle.enforcement_rules.specs.declared.mention.Mention.{Mention}
use Rattle.enforcement_rules.specs.declared.mention.Mention.TheVariants as mentions
use Rattle.enforcement_rules.specs.Derivations.{NumberRule}
use Rattle.enforcement_rules.specs.Expressions.{ReadsTarget}
use Rattle.enforcement_rules.specs.KnownTests.{is_marked}
use Rattle.enforcement_rules.specs.Mentions.{mentions_in}

abbrev pub has_meta : ℕ → Option ModelSlot → Bool
has_meta meta None = false
has_meta meta (Some slot) = nat_eq slot.meta meta

abbrev pub is_of_meta : Program → ℕ → ℕ → Bool
is_of_meta program meta model = has_meta meta (slice_get program.models model)

-- a query is one by an extent, and by a query that it calls if that is one
abbrev pub mention_rules : Program → ℕ → ℕ → Mention → List NumberRule
mention_rules program meta q (mentions.Variable v) = []
mention_rules program meta q (mentions.Query called) = if nat_lt called (length program.queries) then (q, called ∷ []) ∷ [] else []
mention_rules program meta q (mentions.Extent model) = if is_of_meta program meta model then (q, []) ∷ [] else []

abbrev pub query_rules : Program → ℕ → ℕ → Query → List NumberRule
query_rules program meta q query = flat_map (mention_rules program meta q) (mentions_in query.body)

-- those of queries from this number on
abbrev pub rules_from : Program → ℕ → ℕ → List Query → List NumberRule
rules_from program meta q [] = []
rules_from program meta q (query ∷ queries) = query_rules program meta q query ++ rules_from program meta (suc q) queries

-- the marks are those of the queries that read the target
abbrev pub AreReaders : Program → List Bool → Type 0
AreReaders program readers = (q : ℕ) → (is_marked readers q ≡ true) ↔ ReadsTarget program q
