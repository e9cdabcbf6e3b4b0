-- Graphs that are put together from edges have these edges.
use Rattle.std.proofs.Common.{◌≡◌, ◌≢◌, ◌<◌, ◌⊎◌, ◌+◌, ◌++◌, ℕ, List, [], ◌∷◌, refl, sym, ap, ◌∙◌, subst, inl, inr, ⊎_elim, length, drop, get_or, replicate, add-one}
use Rattle.std.specs.Prelude.{Contains}
use Rattle.std.proofs.lemmas.List.{get_or-set_same, get_or-set_other, length-set, length-replicate}
use Rattle.std.proofs.Math.Seq.{drop-cons}
use Rattle.std.proofs.lemmas.List.Elements.{Contains-append_left, Contains-append_right, Contains-append_cases}
use Rattle.call_graph.specs.Graphs.{Graph, neighbours}
use Rattle.enforcement_rules.specs.Edges.{Edge, edges_from, edges_to, with_edge, with_edges, BeginWithin, HasEdges}
use Rattle.enforcement_rules.proofs.ListLaws.{first_in, later_in, nothing_in, only_in, in_either, mapped_in, mapped_from, same_or_not, everywhere}

-- ---- edges of one node

pub edge_from : (v : ℕ) (ws : List ℕ) (w : ℕ) → Contains ws w → Contains (edges_from v ws) (v, w)
edge_from v ws w among = mapped_in (λ (u : ℕ). let e : Edge = (v, u) in e) ws w among

pub from_edge : (v : ℕ) (ws : List ℕ) (e : Edge) → Contains (edges_from v ws) e → (e.0 ≡ v) × Contains ws e.1
from_edge v ws e among =
    let m = mapped_from (λ (u : ℕ). let d : Edge = (v, u) in d) ws e among in
    (sym (ap (λ (d : Edge). d.0) m.2), subst (Contains ws) (ap (λ (d : Edge). d.1) m.2) m.1)

pub edge_to : (w : ℕ) (vs : List ℕ) (v : ℕ) → Contains vs v → Contains (edges_to w vs) (v, w)
edge_to w vs v among = mapped_in (λ (u : ℕ). let e : Edge = (u, w) in e) vs v among

pub to_edge : (w : ℕ) (vs : List ℕ) (e : Edge) → Contains (edges_to w vs) e → (e.1 ≡ w) × Contains vs e.0
to_edge w vs e among =
    let m = mapped_from (λ (u : ℕ). let d : Edge = (u, w) in d) vs e among in
    (sym (ap (λ (d : Edge). d.1) m.2), subst (Contains vs) (ap (λ (d : Edge). d.0) m.2) m.1)

-- ---- one edge

module _ (rows : Graph) (e : Edge) (below : e.0 < length rows) where
  row_same : neighbours (with_edge rows e) e.0 ≡ neighbours rows e.0 ++ e.1 ∷ []
  row_same = get_or-set_same rows e.0 (neighbours rows e.0 ++ e.1 ∷ []) [] below

  row_other : (v : ℕ) → v ≢ e.0 → neighbours (with_edge rows e) v ≡ neighbours rows v
  row_other v other = get_or-set_other rows e.0 v (neighbours rows e.0 ++ e.1 ∷ []) [] other

  row_long : length (with_edge rows e) ≡ length rows
  row_long = length-set rows e.0 (neighbours rows e.0 ++ e.1 ∷ [])

  row_kept : (v w : ℕ) → Contains (neighbours rows v) w → Contains (neighbours (with_edge rows e) v) w
  row_kept v w h = ⊎_elim
      (λ (same : v ≡ e.0). subst (λ (u : ℕ). Contains (neighbours (with_edge rows e) u) w) (sym same)
      (subst (λ (ws : List ℕ). Contains ws w) (sym row_same) (Contains-append_left (neighbours rows e.0) (e.1 ∷ []) w (subst (λ (u : ℕ). Contains (neighbours rows u) w) same h))))
      (λ (other : v ≢ e.0). subst (λ (ws : List ℕ). Contains ws w) (sym (row_other v other)) h)
      (same_or_not v e.0)

  row_put : Contains (neighbours (with_edge rows e) e.0) e.1
  row_put = subst (λ (ws : List ℕ). Contains ws e.1) (sym row_same) (Contains-append_right (neighbours rows e.0) (e.1 ∷ []) e.1 (first_in e.1 e.1 [] refl))

  row_only : (v w : ℕ) → Contains (neighbours (with_edge rows e) v) w → Contains (neighbours rows v) w ⊎ (e ≡ (v, w))
  row_only v w h = ⊎_elim
      (λ (same : v ≡ e.0). ⊎_elim
      (λ (old : Contains (neighbours rows e.0) w). inl (subst (λ (u : ℕ). Contains (neighbours rows u) w) (sym same) old))
      (λ (new : Contains (e.1 ∷ []) w). inr (ap (λ (u : ℕ). let d : Edge = (u, e.1) in d) (sym same) ∙ ap (λ (u : ℕ). let d : Edge = (v, u) in d) (only_in e.1 w new)))
      (Contains-append_cases (neighbours rows e.0) (e.1 ∷ []) w (subst (λ (ws : List ℕ). Contains ws w) row_same (subst (λ (u : ℕ). Contains (neighbours (with_edge rows e) u) w) same h))))
      (λ (other : v ≢ e.0). inl (subst (λ (ws : List ℕ). Contains ws w) (row_other v other) h))
      (same_or_not v e.0)

-- ---- all edges

within_rest : (rows : Graph) (e : Edge) (es : List Edge) → BeginWithin (length rows) (e ∷ es) → BeginWithin (length (with_edge rows e)) es
within_rest rows e es within d among =
    subst (λ (n : ℕ). d.0 < n) (sym (length-set rows e.0 (neighbours rows e.0 ++ e.1 ∷ []))) (within d (later_in e d es among))

rows_long : (rows : Graph) (es : List Edge) → length (with_edges rows es) ≡ length rows
rows_long rows [] = refl
rows_long rows (e ∷ es) = rows_long (with_edge rows e) es ∙ length-set rows e.0 (neighbours rows e.0 ++ e.1 ∷ [])

rows_kept : (es : List Edge) (rows : Graph) (v w : ℕ) → BeginWithin (length rows) es → Contains (neighbours rows v) w → Contains (neighbours (with_edges rows es) v) w
rows_kept [] rows v w within h = h
rows_kept (e ∷ es) rows v w within h = rows_kept es (with_edge rows e) v w (within_rest rows e es within) (row_kept rows e (within e (first_in e e es refl)) v w h)

rows_put : (es : List Edge) (rows : Graph) (d : Edge) → BeginWithin (length rows) es → Contains es d → Contains (neighbours (with_edges rows es) d.0) d.1
rows_put [] rows d within among = absurd (nothing_in d among)
rows_put (e ∷ es) rows d within among = ⊎_elim
    (λ (same : e ≡ d). rows_kept es (with_edge rows e) d.0 d.1 (within_rest rows e es within)
    (subst (λ (x : Edge). Contains (neighbours (with_edge rows e) x.0) x.1) same (row_put rows e (within e (first_in e e es refl)))))
    (λ (there : Contains es d). rows_put es (with_edge rows e) d (within_rest rows e es within) there)
    (in_either e d es among)

rows_only : (es : List Edge) (rows : Graph) (v w : ℕ) → BeginWithin (length rows) es → Contains (neighbours (with_edges rows es) v) w → Contains (neighbours rows v) w ⊎ Contains es (v, w)
rows_only [] rows v w within h = inl h
rows_only (e ∷ es) rows v w within h = ⊎_elim
    (λ (old : Contains (neighbours (with_edge rows e) v) w). ⊎_elim
    (λ (before : Contains (neighbours rows v) w). inl before)
    (λ (same : e ≡ (v, w)). inr (first_in e (v, w) es same))
    (row_only rows e (within e (first_in e e es refl)) v w old))
    (λ (there : Contains es (v, w)). inr (later_in e (v, w) es there))
    (rows_only es (with_edge rows e) v w (within_rest rows e es within) h)

-- ---- the loop

pub one_put : (edges : List Edge) (k : ℕ) (d : Edge) (rows start next : Graph) → k < length edges → with_edges rows (drop k edges) ≡ with_edges start edges
    → next ≡ with_edge rows (get_or edges k d) → with_edges next (drop (k + 1) edges) ≡ with_edges start edges
one_put edges k d rows start next below kept put =
    ap (λ (g : Graph). with_edges g (drop (k + 1) edges)) put ∙ ap (λ (n : ℕ). with_edges (with_edge rows (get_or edges k d)) (drop n edges)) (add-one k)
    ∙ sym (ap (with_edges rows) (drop-cons edges k d below)) ∙ kept

module _ (count : ℕ) (none : Graph) where
  pub begun_within : (edges : List Edge) → none ≡ replicate count [] → BeginWithin count edges → BeginWithin (length none) edges
  begun_within edges empty within e among = subst (λ (n : ℕ). e.0 < n) (sym (ap length empty ∙ length-replicate count [])) (within e among)

  pub edges_put : (rows : Graph) (edges : List Edge) → none ≡ replicate count [] → rows ≡ with_edges none edges → BeginWithin count edges → HasEdges count edges rows
  edges_put rows edges empty put within =
      let inside = begun_within edges empty within in
      record {
        long = ap length put ∙ rows_long none edges ∙ ap length empty ∙ length-replicate count [];
        there = λ v w among. subst (λ (g : Graph). Contains (neighbours g v) w) (sym put) (rows_put edges none (v, w) inside among);
        only = λ v w h. ⊎_elim
            (λ (old : Contains (neighbours none v) w). absurd (nothing_in w (subst (λ (ws : List ℕ). Contains ws w) (ap (λ (g : Graph). neighbours g v) empty ∙ everywhere count v []) old)))
            (λ (there : Contains edges (v, w)). there)
            (rows_only edges none v w inside (subst (λ (g : Graph). Contains (neighbours g v) w) put h));
      }
