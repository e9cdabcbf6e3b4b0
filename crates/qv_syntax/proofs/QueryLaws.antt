-- Where queries call each other without a cycle, no chain of calls is longer than there are queries.
use Rattle.std.proofs.Common.{◌≡◌, ◌≢◌, ◌≤◌, ◌<◌, ℕ, zero, suc, ◌||◌, Bool, true, false, List, [], ◌∷◌, length, refl, sym, ap, subst, arith, inl, inr, true≢false}
use Rattle.std.specs.Prelude.{◌==◌, ◌⊎◌}
use Rattle.std.specs.List.{list_any, IsDistinct, AllByRecursion}
use Rattle.std.proofs.lemmas.Bool.Decides.{nat_tests}
use Rattle.std.proofs.lemmas.Option.{slice_get_within}
use Rattle.std.proofs.lemmas.Map.Steps.{length-le_from_distinct_below}
use Rattle.qv_syntax.specs.declared.query.Query.{Query}
use Rattle.qv_syntax.specs.QueryCalls.{Calls, Reaches, AreAcyclic, IsCallChain}

one_of : (a b : Bool) → (a || b) ≡ true → (a ≡ true) ⊎ (b ≡ true)
one_of true b e = inl refl
one_of false b e = inr e

same : (a b : ℕ) → (a == b) ≡ true → a ≡ b
same a b e = grind (arith, nat_tests)

differs : (a b : ℕ) → a ≢ b → (a == b) ≡ false
differs a b h = by (a == b) refl
  where
    by : (r : Bool) → (a == b) ≡ r → (a == b) ≡ false
    by true e = absurd (h (same a b e))
    by false e = e

module _ (queries : List Query) where
  reaches_then : (a b c : ℕ) → Reaches queries a b → Calls queries b c → Reaches queries a c
  reaches_then a b c (Reaches.call _ _ x) y = Reaches.more a b c x (Reaches.call b c y)
  reaches_then a b c (Reaches.more _ m _ x r) y = Reaches.more a m c x (reaches_then m b c r y)

  -- the queries of a chain of calls
  chain : (n q : ℕ) → IsCallChain queries n q → List ℕ
  chain zero q h = q ∷ []
  chain (suc n) q h = q ∷ chain n h.0 h.2

  chain_length : (n q : ℕ) (h : IsCallChain queries n q) → length (chain n q h) ≡ suc n
  unfolding chain
  chain_length zero q h = refl
  chain_length (suc n) q h = ap suc (chain_length n h.0 h.2)

  called_within : (n q : ℕ) → IsCallChain queries n q → q < length queries
  called_within zero q h = slice_get_within queries q h.0 h.1
  called_within (suc n) q h = slice_get_within queries q h.1.query h.1.found

  chain_within : (n q : ℕ) (h : IsCallChain queries n q) (v : ℕ) → list_any (λ x. v == x) (chain n q h) ≡ true → v < length queries
  unfolding chain
  chain_within zero q h v e = elim (one_of (v == q) false e) [
    | inl is ↦ subst (λ x. x < length queries) (sym (same v q is)) (called_within zero q h)
    | inr never ↦ absurd (true≢false (sym never))
  ]
  chain_within (suc n) q h v e = elim (one_of (v == q) (list_any (λ x. v == x) (chain n h.0 h.2)) e) [
    | inl is ↦ subst (λ x. x < length queries) (sym (same v q is)) (called_within (suc n) q h)
    | inr more ↦ chain_within n h.0 h.2 v more
  ]

  module _ (acyclic : AreAcyclic queries) where
    apart : (a b : ℕ) → Reaches queries a b → (a == b) ≡ false
    apart a b r = differs a b (λ e. acyclic b (subst (λ x. Reaches queries x b) e r))

    chain_apart : (n b : ℕ) (h : IsCallChain queries n b) (a : ℕ) → Reaches queries a b → AllByRecursion (λ y. (a == y) ≡ false) (chain n b h)
    unfolding chain
    chain_apart zero b h a r = (apart a b r, tt)
    chain_apart (suc n) b h a r = (apart a b r, chain_apart n h.0 h.2 a (reaches_then a b h.0 r h.1))

    chain_distinct : (n q : ℕ) (h : IsCallChain queries n q) → IsDistinct (λ a b. a == b) (chain n q h)
    unfolding chain IsDistinct
    chain_distinct zero q h = (tt, tt)
    chain_distinct (suc n) q h = (chain_apart n h.0 h.2 q (Reaches.call q h.0 h.1), chain_distinct n h.0 h.2)

    pub no_long_chain : (n q : ℕ) → length queries ≤ n → IsCallChain queries n q → ⊥
    no_long_chain n q long h =
        let few = length-le_from_distinct_below (chain n q h) (length queries) (chain_distinct n q h) (chain_within n q h) in
        omega (arith, few, chain_length n q h)
