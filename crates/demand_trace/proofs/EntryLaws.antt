-- Loops over entries, over the variables of a relation, and over demands.
use Rattle.std.specs.Prelude.{◌≡◌, ◌≤◌, ◌<◌, ◌≢◌, ◌+◌, ◌==◌, ℕ, suc, List, [], ◌∷◌, ◌++◌, length, map, take, drop, cond, Option, None, Some, slice_get, option_to_list}
use Rattle.std.proofs.Common.{sym, ap, ◌∙◌, arith, append_assoc, get_or, add-one}
use Rattle.std.proofs.lemmas.Bool.{cond-true, cond-false, eq-eqb, ne_eqb}
use Rattle.std.proofs.lemmas.List.{append-nil, map-append, take_more, drop_more, drop_all}
use Rattle.qv_syntax.specs.declared.program.Var.{Var}
use Rattle.repair_semantics.specs.declared.demand.Demand.{Demand}
use Rattle.repair_semantics.specs.declared.entry.Entry.{Entry}
use Rattle.trace_log.specs.declared.trace.TraceEntry.{TraceEntry}
use Rattle.demand_trace.specs.Traces.{World, entry_trace, is_of}
use Rattle.demand_trace.specs.Cuts.{own_count, entries_cut}

-- ---- the demands of an entry, from a place on

module _ (n : ℕ) (ds : List Demand) (k : ℕ) (d : Demand) (below : k < length ds) (is : d ≡ get_or ds k d) (so_far : own_count n ds ≡ k + own_count n (drop k ds)) where
  count_here : own_count n (drop k ds) ≡ cond (d.entry == n) (1 + own_count n (drop (k + 1) ds)) 0
  count_here = ap (own_count n) (drop_more ds k d below ∙ ap (λ x. x ∷ drop (k + 1) ds) (sym is))

  pub count_stops : d.entry ≢ n → k ≡ own_count n ds
  count_stops apart =
      let none : own_count n (drop k ds) ≡ 0 = count_here ∙ cond-false (d.entry == n) (1 + own_count n (drop (k + 1) ds)) 0 (ne_eqb d.entry n apart) in
      omega (arith, none, so_far)

  pub count_more : d.entry ≡ n → own_count n ds ≡ (k + 1) + own_count n (drop (k + 1) ds)
  count_more same =
      let one : own_count n (drop k ds) ≡ 1 + own_count n (drop (k + 1) ds) = count_here ∙ cond-true (d.entry == n) (1 + own_count n (drop (k + 1) ds)) 0 (eq-eqb d.entry n same) in
      omega (arith, one, so_far)

pub count_all : (n : ℕ) (ds : List Demand) (k : ℕ) → length ds ≤ k → own_count n ds ≡ k + own_count n (drop k ds) → k ≡ own_count n ds
count_all n ds k le so_far = let none : own_count n (drop k ds) ≡ 0 = ap (own_count n) (drop_all k ds le) in omega (arith, none, so_far)

-- ---- one more of a list

pub map_more : {X Y : Type 0} (f : X → Y) (xs : List X) (k : ℕ) (x : X) (made more : List Y) (y : Y) → k < length xs → x ≡ get_or xs k x → made ≡ map f (take k xs) → y ≡ f x → more ≡ made ++ y ∷ []
    → more ≡ map f (take (k + 1) xs)
map_more f xs k x made more y below is so_far says pushed =
    pushed ∙ ap (λ ys. ys ++ y ∷ []) so_far ∙ ap (λ z. map f (take k xs) ++ z ∷ []) (says ∙ ap f is) ∙ sym (map-append f (take k xs) (get_or xs k x ∷ [])) ∙ ap (map f) (sym (take_more xs k x below))

-- ---- entries with their demands

module _ (w : World) (all : List Demand) (es : List Entry) (k : ℕ) (left : List Demand) (made : List TraceEntry)
    (so_far : made ++ entries_cut w left k (drop k es) ≡ entries_cut w all 0 es) where
  pub cut_more : (more : List TraceEntry) (e : Entry) (own behind : List Demand) (z : TraceEntry) → k < length es → e ≡ get_or es k e → own ≡ take (own_count k left) left
      → behind ≡ drop (own_count k left) left → z ≡ entry_trace w e own → more ≡ made ++ z ∷ [] → more ++ entries_cut w behind (k + 1) (drop (k + 1) es) ≡ entries_cut w all 0 es
  cut_more more e own behind z below is first rest says pushed =
      ap (λ front. front ++ entries_cut w behind (k + 1) (drop (k + 1) es)) (pushed ∙ ap (λ x. made ++ x ∷ []) (says ∙ ap (entry_trace w e) first))
      ∙ append_assoc made (entry_trace w e (take (own_count k left) left) ∷ []) (entries_cut w behind (k + 1) (drop (k + 1) es))
      ∙ ap (λ ds. made ++ entry_trace w e (take (own_count k left) left) ∷ entries_cut w ds (k + 1) (drop (k + 1) es)) rest
      ∙ ap (λ n. made ++ entry_trace w e (take (own_count k left) left) ∷ entries_cut w (drop (own_count k left) left) n (drop (k + 1) es)) (add-one k)
      ∙ ap (λ rest. made ++ entries_cut w left k rest) (sym (drop_more es k e below ∙ ap (λ x. x ∷ drop (k + 1) es) (sym is)))
      ∙ so_far

  pub cut_all : length es ≤ k → made ≡ entries_cut w all 0 es
  cut_all le = sym (append-nil made) ∙ ap (λ rest. made ++ entries_cut w left k rest) (sym (drop_all k es le)) ∙ so_far
