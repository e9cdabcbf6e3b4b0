-- Paths and chains of nodes.
use Rattle.std.proofs.Common.{◌≡◌, ℕ, List, [], ◌∷◌, ◌++◌, subst, ⊎_elim, ◌<◌, arith}
use Rattle.std.specs.Prelude.{Contains}
use Rattle.std.proofs.lemmas.List.Elements.{Contains-append_cases, Contains-push_cases}
use Rattle.call_graph.specs.Graphs.{Graph, Leads, IsPath, IsOnCycle}
use Rattle.call_graph.specs.Searches.{Sure, sure, IsChain}
use Rattle.mof_metamodel.proofs.Facts.{nothing_in}

module _ (g : Graph) where
  pub chain_front : (path : List ℕ) (u : ℕ) → IsChain g (path ++ u ∷ []) → IsChain g path
  chain_front [] u is = tt
  chain_front (a ∷ []) u is = tt
  chain_front (a ∷ b ∷ path) u is = (is.0, chain_front (b ∷ path) u is.1)

  pub chain_more : (before : List ℕ) (u v : ℕ) → IsChain g (before ++ u ∷ []) → Leads g u v → IsChain g ((before ++ u ∷ []) ++ v ∷ [])
  chain_more [] u v is leads = (leads, tt)
  chain_more (a ∷ []) u v is leads = (is.0, chain_more [] u v is.1 leads)
  chain_more (a ∷ b ∷ before) u v is leads = (is.0, chain_more (b ∷ before) u v is.1 leads)

  -- from a node of the path through the rest of it, and back by the last
  back : (x : ℕ) (before : List ℕ) (u v : ℕ) → IsChain g (x ∷ (before ++ u ∷ [])) → Leads g u v → IsPath g x (before ++ u ∷ []) v
  back x [] u v is leads = (is.0, leads)
  back x (a ∷ before) u v is leads = (is.0, back a before u v is.1 leads)

  chain_rest : (a : ℕ) (before : List ℕ) (u : ℕ) → IsChain g (a ∷ (before ++ u ∷ [])) → IsChain g (before ++ u ∷ [])
  chain_rest a [] u is = tt
  chain_rest a (b ∷ before) u is = is.1

  -- the last node of a path leads to a node of it, which so lies on a cycle
  pub closed : (before : List ℕ) (u v : ℕ) → IsChain g (before ++ u ∷ []) → Contains (before ++ u ∷ []) v → Leads g u v → IsOnCycle g v
  closed [] u v is among leads = ⊎_elim
      (λ (none : Contains [] v). absurd (nothing_in v none))
      (λ (same : u ≡ v). ([], subst (λ w. Leads g w v) same leads))
      (Contains-push_cases [] u v among)
  closed (a ∷ before) u v is among leads = ⊎_elim
      (λ (here : Contains (a ∷ []) v). ⊎_elim
      (λ (none : Contains [] v). absurd (nothing_in v none))
      (λ (same : a ≡ v). (before ++ u ∷ [], subst (λ w. IsPath g w (before ++ u ∷ []) v) same (back a before u v is leads)))
      (Contains-push_cases [] a v here))
      (λ (later : Contains (before ++ u ∷ []) v). closed before u v (chain_rest a before u is) later leads)
      (Contains-append_cases (a ∷ []) (before ++ u ∷ []) v among)

  extended : (w : ℕ) (between : List ℕ) (u v : ℕ) → IsPath g w between u → Leads g u v → IsPath g w (between ++ u ∷ []) v
  extended w [] u v is leads = (is, leads)
  extended w (a ∷ between) u v is leads = (is.0, extended a between u v is.1 leads)

  -- where all that a node leads to is sure, there is no cycle
  pub no_cycle : (u : ℕ) → Sure g u → (between : List ℕ) → IsPath g u between u → ⊥
  no_cycle _ (sure u rest) [] is = no_cycle u (rest u is) [] is
  no_cycle _ (sure u rest) (w ∷ between) is = no_cycle w (rest w is.0) (between ++ u ∷ []) (extended w between u w is.1 is.0)
