-- As many calls within one another as there are queries are enough: more change nothing, and a call has its body's value.
use Rattle.std.specs.Prelude.{◌≡◌, ◌≤◌, ◌+◌, ◌-◌, ℕ, zero, suc, List, length, Option, None, Some, slice_get}
use Rattle.std.proofs.Common.{refl, sym, ap, ◌∙◌, arith}
use Rattle.qv_syntax.specs.declared.query.Query.{Query}
use Rattle.qv_syntax.specs.QueryCalls.{Calls, AreAcyclic, IsCallChain}
use Rattle.qv_syntax.proofs.QueryLaws.{no_long_chain}
use Rattle.qvtr_semantics.specs.declared.out.Out.{Out}
use Rattle.qvtr_semantics.specs.declared.out.Out.TheVariants as outs
use Rattle.qvtr_semantics.specs.Objects.{Setting}
use Rattle.qvtr_semantics.specs.Expressions.{Queries, meaning, query_value, queries_within}
use Rattle.qvtr_semantics.proofs.MeaningLaws.{same_meaning}

module _ (queries : List Query) (s : Setting) where
  abbrev within : ℕ → Queries
  within n = queries_within queries s n

  -- values that agree on the queries that a query calls give it one value
  called_alike : (q : ℕ) (o : Option Query) → slice_get queries q ≡ o → (a b : Queries)
      → ((called : ℕ) → Calls queries q called → (args : List Out) → a called args ≡ b called args)
      → (args : List Out) → query_value s a o args ≡ query_value s b o args
  called_alike q None e a b same args = refl
  called_alike q (Some query) e a b same args =
      ap (λ m. m args) (same_meaning s query.body a b (λ called calls values. same called (record { query = query; found = e; calls = calls }) values))

  no_query : (q : ℕ) (o : Option Query) → slice_get queries q ≡ o → ¬ IsCallChain queries 0 q → (args : List Out)
      → outs.Invalid ≡ query_value s (within 0) o args
  no_query q None e none args = refl
  no_query q (Some query) e none args = absurd (none (query, e))

  -- where no chain of n calls goes on from the query, one call more changes nothing
  one_more : (n q : ℕ) → ¬ IsCallChain queries n q → (args : List Out) → within n q args ≡ within (suc n) q args
  one_more zero q none args = no_query q (slice_get queries q) refl none args
  one_more (suc n) q none args =
      called_alike q (slice_get queries q) refl (within n) (within (suc n))
      (λ called calls values. one_more n called (λ chain. none (called, calls, chain)) values) args

  module _ (acyclic : AreAcyclic queries) where
    next_alike : (n q : ℕ) (args : List Out) → length queries ≤ n → within n q args ≡ within (suc n) q args
    next_alike n q args many = one_more n q (no_long_chain queries acyclic n q many) args

    more_alike : (k n q : ℕ) (args : List Out) → n ≡ length queries + k → within n q args ≡ within (length queries) q args
    more_alike zero n q args e =
        let same : n ≡ length queries = omega (arith, e) in
        ap (λ x. within x q args) same
    more_alike (suc k) n q args e =
        let before : ℕ = length queries + k in
        let same : n ≡ suc before = omega (arith, e) in
        ap (λ x. within x q args) same ∙ sym (next_alike before q args (omega arith)) ∙ more_alike k before q args refl

    pub enough_calls : (n q : ℕ) (args : List Out) → length queries ≤ n → within n q args ≡ within (length queries) q args
    enough_calls n q args many =
        let k : ℕ = n - length queries in
        more_alike k n q args (omega arith)

    body_by : (q : ℕ) (o : Option Query) (query : Query) (args : List Out) → slice_get queries q ≡ o → o ≡ Some query
        → query_value s (within (length queries)) (slice_get queries q) args ≡ meaning s (within (length queries)) query.body args
    body_by q o query args e is = ap (λ x. query_value s (within (length queries)) x args) (e ∙ is)

    pub call_is_body : (q : ℕ) (query : Query) (args : List Out) → slice_get queries q ≡ Some query
        → within (length queries) q args ≡ meaning s (within (length queries)) query.body args
    call_is_body q query args found = next_alike (length queries) q args (omega arith) ∙ body_by q (Some query) query args found refl
