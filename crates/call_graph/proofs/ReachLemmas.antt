-- Paths of calls of both kinds.
use Rattle.std.proofs.Common.{◌≡◌, ◌<◌, ◌≤◌, ◌+◌, ◌-◌, ◌⊎◌, ℕ, suc, List, length, length-append, refl, sym, ◌∙◌, ap, subst, ⊎_elim, inl, inr, arith}
use Rattle.std.proofs.lemmas.List.{get_or_append_left, get_or-append-add, get_or-append_right}
use Rattle.std.proofs.lemmas.Bool.{cases_lt}
use Rattle.call_graph.specs.Graphs.{Graph, neighbours, Leads}
use Rattle.call_graph.specs.Strata.{IsCallPath, IsStratum, AreStrata, IsOnWhenCycle, stratum_at, end, by_when, by_where}
use Rattle.call_graph.specs.Walks.{calls_of, call_at, Reaches}
use Rattle.call_graph.proofs.SearchLemmas.{past_end}

module _ (whens wheres : Graph) where
  -- one path after another
  pub joined : (w n u v m : ℕ) → IsCallPath whens wheres u v m → IsCallPath whens wheres v w n → IsCallPath whens wheres u w (m + n)
  joined w n _ _ _ (end u) q = let e : n ≡ 0 + n = omega arith in subst (IsCallPath whens wheres u w) e q
  joined w n _ _ _ (by_when u x v m leads p) q =
      let e : suc (m + n) ≡ suc m + n = omega arith in
      subst (IsCallPath whens wheres u w) e (by_when u x w (m + n) leads (joined w n x v m p q))
  joined w n _ _ _ (by_where u x v m leads p) q = by_where u x w (m + n) leads (joined w n x v m p q)

  pub reach_self : (u : ℕ) → Reaches whens wheres u u
  reach_self u = (0, end u)

  pub reach_on : (u v w : ℕ) → Reaches whens wheres u v → Reaches whens wheres v w → Reaches whens wheres u w
  reach_on u v w a b = (a.0 + b.0, joined w b.0 u v a.0 a.1 b.1)

  -- a call is of one of the kinds
  pub kind_of : (u k : ℕ) → k < length (calls_of whens wheres u) → Leads whens u (call_at whens wheres u k) ⊎ Leads wheres u (call_at whens wheres u k)
  kind_of u k below = ⊎_elim
      (λ (early : k < length (neighbours whens u)). inl (k, early, sym (get_or_append_left (neighbours whens u) (neighbours wheres u) 0 k early)))
      (λ (late : length (neighbours whens u) ≤ k).
      let longer = length-append (neighbours whens u) (neighbours wheres u) in
      inr (k - length (neighbours whens u), omega (arith, longer, below, late), sym (get_or-append_right (neighbours whens u) (neighbours wheres u) (length (neighbours whens u)) k 0 refl late)))
      (cases_lt k (length (neighbours whens u)))

  -- those of each kind are calls
  pub when_call : (u v : ℕ) → Leads whens u v → (k : ℕ) × (k < length (calls_of whens wheres u)) × (call_at whens wheres u k ≡ v)
  when_call u v leads =
      let longer = length-append (neighbours whens u) (neighbours wheres u) in
      let short : leads.0 < length (neighbours whens u) = leads.1 in
      (leads.0, omega (arith, longer, short), get_or_append_left (neighbours whens u) (neighbours wheres u) 0 leads.0 leads.1 ∙ leads.2)

  pub where_call : (u v : ℕ) → Leads wheres u v → (k : ℕ) × (k < length (calls_of whens wheres u)) × (call_at whens wheres u k ≡ v)
  where_call u v leads =
      let longer = length-append (neighbours whens u) (neighbours wheres u) in
      let short : leads.0 < length (neighbours wheres u) = leads.1 in
      (length (neighbours whens u) + leads.0, omega (arith, longer, short), get_or-append-add (neighbours whens u) (neighbours wheres u) leads.0 0 ∙ leads.2)

  pub reach_call : (u k : ℕ) → k < length (calls_of whens wheres u) → Reaches whens wheres u (call_at whens wheres u k)
  reach_call u k below = ⊎_elim
      (λ (leads : Leads whens u (call_at whens wheres u k)). (suc 0, by_when u (call_at whens wheres u k) (call_at whens wheres u k) 0 leads (end (call_at whens wheres u k))))
      (λ (leads : Leads wheres u (call_at whens wheres u k)). (0, by_where u (call_at whens wheres u k) (call_at whens wheres u k) 0 leads (end (call_at whens wheres u k))))
      (kind_of u k below)

  -- a number past the end calls nothing
  pub stratum_past : (u : ℕ) → length whens ≤ u → length wheres ≤ u → IsStratum whens wheres u 0
  stratum_past u past_when past_where = record { reached = (u, end u); greatest = λ last count path. from u last count path refl }
    where
      none : (g : Graph) (v : ℕ) → length g ≤ u → Leads g u v → ⊥
      none g v past leads = let below : leads.0 < length (neighbours g u) = leads.1 in let empty : length (neighbours g u) ≡ 0 = ap length (past_end g u past) in omega (arith, below, empty)

      from : (w last count : ℕ) → IsCallPath whens wheres w last count → w ≡ u → count ≤ 0
      from _ _ _ (end w) is = omega arith
      from _ _ _ (by_when w v last count leads path) is = absurd (none whens v past_when (subst (λ x. Leads whens x v) is leads))
      from _ _ _ (by_where w v last count leads path) is = absurd (none wheres v past_where (subst (λ x. Leads wheres x v) is leads))

  -- where all nodes have strata, none lies on a cycle with a when call
  pub no_when_cycle : (strata : List ℕ) → AreStrata whens wheres strata → (u : ℕ) → IsOnWhenCycle whens wheres u → ⊥
  no_when_cycle strata are u cycle =
      let s : ℕ = stratum_at strata u in
      let here = (are.1 u).reached in
      let more : suc cycle.0 + s ≤ s = (are.1 u).greatest here.0 (suc cycle.0 + s) (joined here.0 s u u (suc cycle.0) cycle.1 here.1) in
      omega (arith, more)
