-- What nodes need of their stratum, and the nodes that are given one.
use Rattle.std.proofs.Common.{Option, Some, None, ◌≡◌, ◌≢◌, ◌<◌, ◌≤◌, ◌+◌, ◌⊎◌, ℕ, List, [], ◌∷◌, ◌++◌, length, max, set, take, get_or, refl, sym, ◌∙◌, ap, subst, ⊎_elim, inl, inr, arith}
use Rattle.std.specs.Prelude.{MatchOption}
use Rattle.std.proofs.Math.Nat.{le-max_left, le-max_right, max-eq_left, max-eq_right}
use Rattle.std.proofs.Math.Seq.{take-append_seam}
use Rattle.std.proofs.lemmas.List.{take-take, get_or-take, get_or_push, length_push}
use Rattle.std.proofs.lemmas.Bool.{cases_eq, cases_lt}
use Rattle.call_graph.specs.declared.standing.Standing.{Standing}
use Rattle.call_graph.specs.declared.standing.Standing.TheVariants.{New, Open, Done}
use Rattle.call_graph.specs.Graphs.{Graph, neighbours}
use Rattle.call_graph.specs.Walks.{standing_at, node_at}
use Rattle.call_graph.specs.Tops.{IsDone, IsTop, IsEnough, IsNeeded, IsGroupTop, AreWhensDone, IsOpenWhen, AreSettled}
use Rattle.call_graph.proofs.StandingLemmas.{new_done, open_done, written}

module _ (standings : List Standing) (more : ℕ) (row : List ℕ) where
  -- of no nodes
  pub top_none : IsTop standings more row 0 0
  top_none = record { most = λ k s below is. absurd (omega (arith, below)); some = inl refl }

  -- one node more
  pub top_more : (n top need : ℕ) → IsTop standings more row n top → ((s : ℕ) → standing_at standings (get_or row n 0) ≡ Done s → need ≡ s + more) → (((s : ℕ) → standing_at standings (get_or row n 0) ≡ Done s → ⊥) → need ≡ 0)
      → IsTop standings more row (n + 1) (max top need)
  top_more n top need t some none = record {
    most = λ k s below is. ⊎_elim
        (λ (same : k ≡ n). let at = some s (ap (λ i. standing_at standings (get_or row i 0)) (sym same) ∙ is) in let le = le-max_right top need in omega (arith, at, le))
        (λ (other : k ≢ n). let less : k < n = grind (arith, below, other) in let a = t.most k s less is in let b = le-max_left top need in omega (arith, a, b))
        (cases_eq k n);
    some = ⊎_elim
        (λ (large : top < need). let above : top ≤ need = omega (arith, large) in by (standing_at standings (get_or row n 0)) refl large (max-eq_right above))
        (λ (small : need ≤ top). let is : max top need ≡ top = max-eq_left small in ⊎_elim
        (λ (zero : top ≡ 0). inl (is ∙ zero))
        (λ (found : (k : ℕ) × (s : ℕ) × (k < n) × (standing_at standings (get_or row k 0) ≡ Done s) × (s + more ≡ top)).
        inr (found.0, found.1, (let first : found.0 < n = found.2 in omega (arith, first)), found.3, found.4 ∙ sym is))
        t.some)
        (cases_lt top need);
  }
    where
      by : (s : Standing) → standing_at standings (get_or row n 0) ≡ s → top < need → max top need ≡ need
          → (max top need ≡ 0) ⊎ ((k : ℕ) × (s : ℕ) × (k < n + 1) × (standing_at standings (get_or row k 0) ≡ Done s) × (s + more ≡ max top need))
      by New is large at = let zero : need ≡ 0 = none (λ s done. new_done s (sym is ∙ done)) in absurd (omega (arith, zero, large))
      by (Open p) is large at = let zero : need ≡ 0 = none (λ s done. open_done p s (sym is ∙ done)) in absurd (omega (arith, zero, large))
      by (Done s) is large at = inr (n, s, omega arith, is, sym (some s is) ∙ sym at)

module _ (whens wheres : Graph) (standings : List Standing) where
  enough_more : (u a b : ℕ) → IsEnough whens wheres standings u a → a ≤ b → IsEnough whens wheres standings u b
  enough_more u a b e le = record {
    by_when = λ v s leads is. let old = e.by_when v s leads is in omega (arith, old, le);
    by_where = λ v s leads is. let old = e.by_where v s leads is in omega (arith, old, le);
  }

  -- a node needs what its calls of both kinds need
  pub node_enough : (u a b : ℕ) → IsTop standings 1 (neighbours whens u) (length (neighbours whens u)) a → IsTop standings 0 (neighbours wheres u) (length (neighbours wheres u)) b → IsEnough whens wheres standings u (max a b)
  node_enough u a b ta tb = record {
    by_when = λ v s leads is.
        let old = ta.most leads.0 s leads.1 (ap (standing_at standings) leads.2 ∙ is) in
        let le = le-max_left a b in
        omega (arith, old, le);
    by_where = λ v s leads is.
        let old = tb.most leads.0 s leads.1 (ap (standing_at standings) leads.2 ∙ is) in
        let le = le-max_right a b in
        omega (arith, old, le);
  }

  pub node_needed : (u a b : ℕ) → IsTop standings 1 (neighbours whens u) (length (neighbours whens u)) a → IsTop standings 0 (neighbours wheres u) (length (neighbours wheres u)) b
      → (max a b ≡ 0) ⊎ IsNeeded whens wheres standings u (max a b)
  node_needed u a b ta tb = ⊎_elim
      (λ (large : a < b).
      let above : a ≤ b = omega (arith, large) in
      let is : max a b ≡ b = max-eq_right above in ⊎_elim
      (λ (none : b ≡ 0). inl (is ∙ none))
      (λ (found : (k : ℕ) × (s : ℕ) × (k < length (neighbours wheres u)) × (standing_at standings (get_or (neighbours wheres u) k 0) ≡ Done s) × (s + 0 ≡ b)).
      let at : found.1 + 0 ≡ b = found.4 in
      inr (get_or (neighbours wheres u) found.0 0, found.1, found.3, inr ((found.0, found.2, refl), omega (arith, at, is))))
      tb.some)
      (λ (small : b ≤ a).
      let is : max a b ≡ a = max-eq_left small in ⊎_elim
      (λ (none : a ≡ 0). inl (is ∙ none))
      (λ (found : (k : ℕ) × (s : ℕ) × (k < length (neighbours whens u)) × (standing_at standings (get_or (neighbours whens u) k 0) ≡ Done s) × (s + 1 ≡ a)).
      inr (get_or (neighbours whens u) found.0 0, found.1, found.3, inl ((found.0, found.2, refl), found.4 ∙ sym is)))
      ta.some)
      (cases_lt a b)

  module _ (stack : List ℕ) (from : ℕ) where
    pub group_none : IsGroupTop whens wheres standings stack from from 0
    group_none = record { enough = λ p above below. absurd (omega (arith, above, below)); needed = inl refl }

    -- one node more
    pub group_more : (n top need : ℕ) → IsGroupTop whens wheres standings stack from n top → from ≤ n → IsEnough whens wheres standings (node_at stack n) need → (need ≡ 0) ⊎ IsNeeded whens wheres standings (node_at stack n) need
        → IsGroupTop whens wheres standings stack from (n + 1) (max top need)
    group_more n top need t at enough needed = record {
      enough = λ p above below. ⊎_elim
          (λ (same : p ≡ n). subst (λ q. IsEnough whens wheres standings (node_at stack q) (max top need)) (sym same) (enough_more (node_at stack n) need (max top need) enough (le-max_right top need)))
          (λ (other : p ≢ n). enough_more (node_at stack p) top (max top need) (t.enough p above (grind (arith, below, other))) (le-max_left top need))
          (cases_eq p n);
      needed = ⊎_elim
          (λ (large : top < need).
          let le : top ≤ need = omega (arith, large) in
          let is : max top need ≡ need = max-eq_right le in ⊎_elim
          (λ (none : need ≡ 0). inl (is ∙ none))
          (λ (one : IsNeeded whens wheres standings (node_at stack n) need). inr (n, at, omega arith, subst (IsNeeded whens wheres standings (node_at stack n)) (sym is) one))
          needed)
          (λ (small : need ≤ top).
          let is : max top need ≡ top = max-eq_left small in ⊎_elim
          (λ (none : top ≡ 0). inl (is ∙ none))
          (λ (found : (p : ℕ) × (from ≤ p) × (p < n) × IsNeeded whens wheres standings (node_at stack p) top).
          let below : found.0 < n = found.2 in
          inr (found.0, found.1, omega (arith, below), subst (IsNeeded whens wheres standings (node_at stack found.0)) (sym is) found.3))
          t.needed)
          (cases_lt top need);
    }

    -- the calls in when clauses of one node more lead to nodes that are done
    pub whens_more : (n : ℕ) (row : List ℕ) → AreWhensDone whens standings stack from n → row ≡ neighbours whens (node_at stack n) → ((k : ℕ) → k < length row → IsDone standings (get_or row k 0)) → AreWhensDone whens standings stack from (n + 1)
    whens_more n row old is all p v above below leads = ⊎_elim
        (λ (same : p ≡ n).
        let row_at : neighbours whens (node_at stack p) ≡ row = ap (λ q. neighbours whens (node_at stack q)) same ∙ sym is in
        let within : leads.0 < length row = subst (λ r. leads.0 < length r) row_at leads.1 in
        subst (IsDone standings) (ap (λ r. get_or r leads.0 0) (sym row_at) ∙ leads.2) (all leads.0 within))
        (λ (other : p ≢ n). old p v above (grind (arith, below, other)) leads)
        (cases_eq p n)

    -- a node that calls one that isn't done in a when clause
    pub when_open : (p k : ℕ) (row : List ℕ) → row ≡ neighbours whens (node_at stack p) → from ≤ p → p < length stack → k < length row → (IsDone standings (get_or row k 0) → ⊥) → IsOpenWhen whens standings stack from (node_at stack p)
    when_open p k row is above below within undone = (p, get_or row k 0, above, below, refl, (k, subst (λ r. k < length r) is within, ap (λ r. get_or r k 0) (sym is)), undone)

-- no node was given a stratum
pub settled_none : (standings : List Standing) (stack : List ℕ) (s : ℕ) → AreSettled standings standings stack (length stack) s
settled_none standings stack s v = inl (refl, λ p above below is. omega (arith, above, below))

-- one node more
pub settled_more : (before now : List Standing) (stack : List ℕ) (n u s : ℕ) → AreSettled before now stack (n + 1) s → node_at stack n ≡ u → n < length stack → u < length now → AreSettled before (set now u (Done s)) stack n s
settled_more before now stack n u s old is below within v = ⊎_elim
    (λ (same : (v ≡ u) × (standing_at (set now u (Done s)) v ≡ Done s)). inr (n, omega arith, below, is ∙ sym same.0, same.1))
    (λ (other : (v ≢ u) × (standing_at (set now u (Done s)) v ≡ standing_at now v)). ⊎_elim
    (λ (still : (standing_at now v ≡ standing_at before v) × ((p : ℕ) → n + 1 ≤ p → p < length stack → node_at stack p ≡ v → ⊥)).
    inl (
      other.1 ∙ still.0,
      λ p above under at. ⊎_elim
          (λ (here : p ≡ n). other.0 (sym at ∙ ap (node_at stack) here ∙ is))
          (λ (later : p ≢ n). still.1 p (grind (arith, above, later)) under at)
          (cases_eq p n),
    ))
    (λ (given : (p : ℕ) × (n + 1 ≤ p) × (p < length stack) × (node_at stack p ≡ v) × (standing_at now v ≡ Done s)).
    let above : n + 1 ≤ given.0 = given.1 in
    inr (given.0, omega (arith, above), given.2, given.3, other.1 ∙ given.4))
    (old v))
    (written now u v (Done s) within)

-- what a pop leaves of a front of the stack
pub front_popped : (stack now left : List ℕ) (u : ℕ) → now ≡ take (length now) stack → now ≡ left ++ u ∷ [] → left ≡ take (length left) stack
front_popped stack now left u front is =
    let longer : length now ≡ length left + 1 = ap length is ∙ length_push left u in
    sym (take-append_seam left (u ∷ [])) ∙ ap (take (length left)) (sym is ∙ front) ∙ take-take (length left) (length now) stack (omega (arith, longer))

pub popped_node : (stack now left : List ℕ) (u : ℕ) → now ≡ take (length now) stack → now ≡ left ++ u ∷ [] → node_at stack (length left) ≡ u
popped_node stack now left u front is =
    let longer : length now ≡ length left + 1 = ap length is ∙ length_push left u in
    let below : length left < length now = omega (arith, longer) in
    sym (get_or-take (length now) stack (length left) 0 below) ∙ ap (λ l. node_at l (length left)) (sym front ∙ is) ∙ get_or_push left u 0 (length left) refl

-- a pop of a stack that isn't empty takes its last node off
pub popped_last : (o : Option ℕ) (now left : List ℕ) → 0 < length now → MatchOption o ((now ≡ []) × (left ≡ [])) (λ last. now ≡ left ++ last ∷ []) → (u : ℕ) × (now ≡ left ++ u ∷ [])
popped_last None now left more is = let empty : length now ≡ 0 = ap length is.0 in absurd (omega (arith, empty, more))
popped_last (Some u) now left more is = (u, is)
