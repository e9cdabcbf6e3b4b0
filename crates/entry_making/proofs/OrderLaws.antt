-- Nodes in the order of their strata stand behind those to which they lead.
use Rattle.std.specs.Prelude.{◌≡◌, ◌≢◌, ◌⊎◌, ◌<◌, ◌≤◌, ◌+◌, ◌-◌, ℕ, zero, suc, List, [], ◌∷◌, length, map, replicate, slice_index_or, Contains}
use Rattle.std.specs.List.{range_with_len}
use Rattle.std.specs.List.Sorted.{IsPermutation, IsNonDecreasingBy}
use Rattle.std.proofs.Common.{refl, sym, ap, subst, ◌∙◌, arith, inl, inr}
use Rattle.std.proofs.lemmas.List.Sorted.{Contains-permutation, IsPermutation-map, IsPermutation-sym}
use Rattle.std.proofs.lemmas.List.FromFn.{length-map-range_with_len, get_or-map-range_with_len, get_or-range_with_len, length-range_with_len}
use Rattle.call_graph.specs.Graphs.{Graph, Leads}
use Rattle.call_graph.specs.Strata.{IsCallPath, IsOnWhenCycle, IsStratum, AreStrata, stratum_at}
use Rattle.entry_making.specs.declared.ranked.Ranked.{Ranked}
use Rattle.entry_making.specs.Orders.{LeadsThrough, HasNoCycle, AreBehind, IsOrder, ranked_at}
use Rattle.entry_making.proofs.PassLaws.{first_or_later}

-- a number of a range is in it
pub in_range : (a n w : ℕ) → a ≤ w → w < a + n → Contains (range_with_len a n) w
in_range a n w low high = (w - a, rw (length-range_with_len) (omega (arith, low, high)), get_or-range_with_len a n (w - a) w (omega (arith, low, high)) ∙ omega (arith, low))

-- ---- no cycle

-- no edge leads on from a node where no row has one
nothing_leads : (n u v : ℕ) → Leads (replicate n []) u v → ⊥
nothing_leads zero u v (k, within, is) = absurd (omega (arith, within))
nothing_leads (suc n) zero v (k, within, is) = absurd (omega (arith, within))
nothing_leads (suc n) (suc u) v leads = nothing_leads n u v leads

-- a path without an edge ends where it begins
ended : (graph : Graph) (n a b : ℕ) → IsCallPath graph (replicate n []) a b zero → a ≡ b
ended graph n a b (IsCallPath.end _) = refl
ended graph n a b (IsCallPath.by_where _ x _ _ leads rest) = absurd (nothing_leads n a x leads)

-- a path of one edge or more leads through
through : (graph : Graph) (n u v count : ℕ) → IsCallPath graph (replicate n []) u v (suc count) → LeadsThrough (Leads graph) u v
through graph n u v zero (IsCallPath.by_when _ w _ _ leads rest) = LeadsThrough.direct u v (subst (Leads graph u) (ended graph n w v rest) leads)
through graph n u v (suc count) (IsCallPath.by_when _ w _ _ leads rest) = LeadsThrough.more u w v leads (through graph n w v count rest)
through graph n u v count (IsCallPath.by_where _ w _ _ leads rest) = absurd (nothing_leads n u w leads)

pub not_cyclic : (graph : Graph) (n u : ℕ) → HasNoCycle (Leads graph) → IsOnWhenCycle graph (replicate n []) u → ⊥
not_cyclic graph n u none (count, path) = none u (through graph n u u count path)

-- ---- the order of strata

-- a node has a lesser stratum than one that leads to it
lesser : (graph others : Graph) (strata : List ℕ) (v w : ℕ) → AreStrata graph others strata → Leads graph v w → stratum_at strata w < stratum_at strata v
lesser graph others strata v w are leads =
    let (last, path) = (are.1 w).reached in
    let most : suc (stratum_at strata w) ≤ stratum_at strata v =
    (are.1 v).greatest last (suc (stratum_at strata w)) (IsCallPath.by_when v w last (stratum_at strata w) leads path) in
    omega (arith, most)

module _ (graph others : Graph) (strata : List ℕ) (are : AreStrata graph others strata) where
  abbrev nodes : List Ranked → List ℕ
  nodes rs = map (λ r. r.node) rs

  abbrev Exact : List Ranked → Type 0
  Exact rs = (r : Ranked) → Contains rs r → r.stratum ≡ stratum_at strata r.node

  -- a node of a list stands there with its stratum
  found : (rs : List Ranked) (w : ℕ) → Contains (nodes rs) w → (r : Ranked) × Contains rs r × (r.node ≡ w)
  found [] w (k, within, is) = absurd (omega (arith, within))
  found (r ∷ rs) w (zero, within, is) = (r, (0, omega arith, refl), is)
  found (r ∷ rs) w (suc k, within, is) =
      let (s, (i, at, there), same) = found rs w (k, omega (arith, within), is) in (s, (suc i, omega (arith, at), there), same)

  node_again : (a n : ℕ) → nodes (map (ranked_at strata) (range_with_len a n)) ≡ range_with_len a n
  node_again a zero = refl
  node_again a (suc n) = ap (λ xs. a ∷ xs) (node_again (a + 1) n)

  -- each node stands with its stratum
  exact : (rs : List Ranked) → IsPermutation (map (ranked_at strata) (range_with_len 0 (length strata))) rs → Exact rs
  exact rs same r among =
      let (k, within, is) = Contains-permutation rs (map (ranked_at strata) (range_with_len 0 (length strata))) r (IsPermutation-sym (map (ranked_at strata) (range_with_len 0 (length strata))) rs same) among in
      let below : k < length strata = omega (arith, within, length-map-range_with_len (ranked_at strata) 0 (length strata)) in
      subst (λ (q : Ranked). q.stratum ≡ stratum_at strata q.node) (sym (get_or-map-range_with_len (ranked_at strata) 0 (length strata) k k r below (omega arith)) ∙ is) refl

  later_up : (r : Ranked) (rs : List Ranked) → IsNonDecreasingBy (λ s. s.stratum) (r ∷ rs) → IsNonDecreasingBy (λ s. s.stratum) rs
  later_up r rs up i j d le lt = up (suc i) (suc j) d (omega (arith, le)) (omega (arith, lt))

  least : (r s : Ranked) (rs : List Ranked) → IsNonDecreasingBy (λ q. q.stratum) (r ∷ rs) → Contains (r ∷ rs) s → r.stratum ≤ s.stratum
  least r s rs up (k, within, is) = subst (λ (q : Ranked). r.stratum ≤ q.stratum) is (up 0 k s (omega arith) within)

  ordered : (rs : List Ranked) (done : List ℕ) → IsNonDecreasingBy (λ r. r.stratum) rs → Exact rs
      → ((w : ℕ) → w < length graph → Contains done w ⊎ Contains (nodes rs) w) → AreBehind graph done (nodes rs)
  ordered [] done up exact all = tt
  ordered (r ∷ rs) done up exact all = (
    λ w below leads. elim (all w below) [
      | inl there ↦ there
      | inr here ↦ (let (s, among, same) = found (r ∷ rs) w here in
          let less : stratum_at strata w < stratum_at strata r.node = lesser graph others strata r.node w are leads in
          let own : r.stratum ≡ stratum_at strata r.node = exact r (0, omega arith, refl) in
          let its : s.stratum ≡ stratum_at strata w = exact s among ∙ ap (stratum_at strata) same in
          let le : r.stratum ≤ s.stratum = least r s rs up among in
          absurd (omega (arith, less, own, its, le)))
    ],
    ordered rs (r.node ∷ done) (later_up r rs up) (λ s (k, within, is). exact s (suc k, omega (arith, within), is)) (λ w below. elim (all w below) [
      | inl there ↦ inl (let (k, within, is) = there in (suc k, omega (arith, within), is))
      | inr here ↦ (elim (first_or_later w r.node (nodes rs) here) [
        | inl same ↦ inl (0, omega arith, sym same)
        | inr later ↦ inr later
      ])
    ]),
  )

  -- the ranked nodes of a graph, put in the order of their strata
  pub in_order : (rs : List Ranked) → IsPermutation (map (ranked_at strata) (range_with_len 0 (length strata))) rs → IsNonDecreasingBy (λ r. r.stratum) rs → IsOrder graph (nodes rs)
  in_order rs same up =
      let all : IsPermutation (nodes (map (ranked_at strata) (range_with_len 0 (length strata)))) (nodes rs) = IsPermutation-map (λ (r : Ranked). r.node) (map (ranked_at strata) (range_with_len 0 (length strata))) rs same in
      let range : IsPermutation (range_with_len 0 (length graph)) (nodes rs) = subst (λ xs. IsPermutation xs (nodes rs)) (node_again 0 (length strata) ∙ ap (range_with_len 0) are.0) all in
      record {
        nodes = range;
        behind = ordered rs [] up (exact rs same) (λ w below. inr (Contains-permutation (range_with_len 0 (length graph)) (nodes rs) w range (in_range 0 (length graph) w (omega arith) (omega (arith, below)))));
      }
