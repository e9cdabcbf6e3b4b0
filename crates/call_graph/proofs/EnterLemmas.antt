-- A node that was not looked at is opened.
use Rattle.std.proofs.Common.{◌≡◌, ◌≢◌, ◌<◌, ◌≤◌, ◌+◌, ◌⊎◌, ℕ, List, [], ◌∷◌, ◌++◌, length, set, refl, sym, ◌∙◌, ap, subst, ⊎_elim, arith}
use Rattle.std.proofs.lemmas.List.{get_or-set_same, get_or-set_other, get_or_append_left, get_or_push, length_push, length-set}
use Rattle.std.proofs.lemmas.Bool.{cases_eq, cases_lt}
use Rattle.call_graph.specs.declared.standing.Standing.{Standing}
use Rattle.call_graph.specs.declared.standing.Standing.TheVariants.{New, Open, Done}
use Rattle.call_graph.specs.declared.step.Step.{Step}
use Rattle.call_graph.specs.Graphs.{Graph}
use Rattle.call_graph.specs.Walks.{standing_at, node_at, passed_at, Reaches, IsPast, IsSegment, IsWalk}
use Rattle.call_graph.proofs.ReachLemmas.{reach_self, reach_on}
use Rattle.call_graph.proofs.SegmentLemmas.{begin_push, segments_push, segments_kept, past_same}
use Rattle.call_graph.proofs.StandingLemmas.{new_open, new_done, open_done, open_place, new_within, written, fewer_open}

module _ (whens wheres : Graph) (standings : List Standing) (passed stack : List ℕ) (path : List Step) (v : ℕ) where
  pub entered : IsWalk whens wheres standings passed stack path → standing_at standings v ≡ New → ((p : ℕ) → p < length stack → Reaches whens wheres (node_at stack p) v)
      → IsWalk whens wheres (set standings v (Open (length stack))) passed (stack ++ v ∷ []) (path ++ record { place = length stack; low = length stack } ∷ [])
  entered w unseen reached = record {
    long = length-set standings v (Open (length stack)) ∙ w.long;
    counts = w.counts;
    within = w.within;
    fresh = λ u new. ⊎_elim
        (λ (same : (u ≡ v) × (standing_at after u ≡ Open (length stack))). absurd (new_open (length stack) (sym new ∙ same.1)))
        (λ (other : (u ≢ v) × (standing_at after u ≡ standing_at standings u)). w.fresh u (sym other.1 ∙ new))
        (place u);
    opened = λ u p is. ⊎_elim
        (λ (same : (u ≡ v) × (standing_at after u ≡ Open (length stack))).
        let at : length stack ≡ p = open_place (length stack) p (sym same.1 ∙ is) in
        (omega (arith, at, longer), ap (node_at next) (sym at) ∙ node_last ∙ sym same.0))
        (λ (other : (u ≢ v) × (standing_at after u ≡ standing_at standings u)).
        let here = w.opened u p (sym other.1 ∙ is) in
        let below : p < length stack = here.0 in
        (omega (arith, below, longer), node_before p below ∙ here.1))
        (place u);
    placed = λ p below. ⊎_elim
        (λ (last : p ≡ length stack).
        ap (λ i. standing_at after (node_at next i)) last ∙ ap (standing_at after) node_last ∙ get_or-set_same standings v (Open (length stack)) (Done 0) inside ∙ ap (λ i. Open i) (sym last))
        (λ (other : p ≢ length stack).
        let less : p < length stack = before p below other in
        ap (standing_at after) (node_before p less) ∙ get_or-set_other standings v (node_at stack p) (Open (length stack)) (Done 0) (differs p less) ∙ w.placed p less)
        (cases_eq p (length stack));
    done = λ u s is. ⊎_elim
        (λ (same : (u ≡ v) × (standing_at after u ≡ Open (length stack))). absurd (open_done (length stack) s (sym same.1 ∙ is)))
        (λ (other : (u ≢ v) × (standing_at after u ≡ standing_at standings u)). w.done u s (sym other.1 ∙ is))
        (place u);
    few = λ u s is. ⊎_elim
        (λ (same : (u ≡ v) × (standing_at after u ≡ Open (length stack))). absurd (open_done (length stack) s (sym same.1 ∙ is)))
        (λ (other : (u ≢ v) × (standing_at after u ≡ standing_at standings u)).
        let old = w.few u s (sym other.1 ∙ is) in
        let fewer = fewer_open standings v (length stack) unseen in
        let same = length-set standings v (Open (length stack)) in
        omega (arith, old, fewer, same, longer))
        (place u);
    forth = λ p q le below. ⊎_elim
        (λ (last : q ≡ length stack). subst (λ y. Reaches whens wheres (node_at next p) y) (sym (ap (node_at next) last ∙ node_last)) (to_v p (omega (arith, le, last))))
        (λ (other : q ≢ length stack).
        let less : q < length stack = before q below other in
        let first : p < length stack = omega (arith, le, less) in
        subst (λ x. Reaches whens wheres x (node_at next q)) (sym (node_before p first))
        (subst (λ y. Reaches whens wheres (node_at stack p) y) (sym (node_before q less)) (w.forth p q le less)))
        (cases_eq q (length stack));
    segments = segments_push whens wheres after passed next path step (length next)
        (segments_kept whens wheres standings after passed passed stack next path (length stack) node_before (λ p below. refl) past w.segments)
        last_step;
    first = begin_push path step (length next) ∙ w.first;
  }
    where
      after : List Standing
      after = set standings v (Open (length stack))

      next : List ℕ
      next = stack ++ v ∷ []

      step : Step
      step = record { place = length stack; low = length stack }

      inside : v < length standings
      inside = new_within standings v unseen

      longer : length (stack ++ v ∷ []) ≡ length stack + 1
      longer = length_push stack v

      before : (p : ℕ) → p < length (stack ++ v ∷ []) → p ≢ length stack → p < length stack
      before p below other = grind (arith, below, other, longer)

      node_before : (p : ℕ) → p < length stack → node_at (stack ++ v ∷ []) p ≡ node_at stack p
      node_before p below = get_or_append_left stack (v ∷ []) 0 p below

      node_last : node_at (stack ++ v ∷ []) (length stack) ≡ v
      node_last = get_or_push stack v 0 (length stack) refl

      differs : (p : ℕ) → p < length stack → node_at stack p ≢ v
      differs p below same = new_open p (sym unseen ∙ ap (standing_at standings) (sym same) ∙ w.placed p below)

      place : (u : ℕ) → ((u ≡ v) × (standing_at (set standings v (Open (length stack))) u ≡ Open (length stack))) ⊎ ((u ≢ v) × (standing_at (set standings v (Open (length stack))) u ≡ standing_at standings u))
      place u = written standings v u (Open (length stack)) inside

      unpast : (low : ℕ) → IsPast standings low v → ⊥
      unpast low = ⊎_elim
          (λ (is : (stratum : ℕ) × (standing_at standings v ≡ Done stratum)). new_done is.0 (sym unseen ∙ is.1))
          (λ (is : (p : ℕ) × (standing_at standings v ≡ Open p) × (low ≤ p)). new_open is.0 (sym unseen ∙ is.1))

      past : (low x : ℕ) → IsPast standings low x → IsPast (set standings v (Open (length stack))) low x
      past low x is = ⊎_elim
          (λ (same : (x ≡ v) × (standing_at (set standings v (Open (length stack))) x ≡ Open (length stack))). absurd (unpast low (subst (IsPast standings low) same.0 is)))
          (λ (other : (x ≢ v) × (standing_at (set standings v (Open (length stack))) x ≡ standing_at standings x)). past_same standings (set standings v (Open (length stack))) low x other.1 is)
          (place x)

      to_v : (p : ℕ) → p ≤ length stack → Reaches whens wheres (node_at (stack ++ v ∷ []) p) v
      to_v p le = ⊎_elim
          (λ (last : p ≡ length stack). subst (λ x. Reaches whens wheres x v) (sym (ap (node_at (stack ++ v ∷ [])) last ∙ node_last)) (reach_self whens wheres v))
          (λ (other : p ≢ length stack). let less : p < length stack = grind (arith, le, other) in subst (λ x. Reaches whens wheres x v) (sym (node_before p less)) (reached p less))
          (cases_eq p (length stack))

      same_place : (p : ℕ) → length stack ≤ p → p < length (stack ++ v ∷ []) → p ≡ length stack
      same_place p above below = omega (arith, above, below, longer)

      last_step : IsSegment whens wheres (set standings v (Open (length stack))) passed (stack ++ v ∷ []) record { place = length stack; low = length stack } (length (stack ++ v ∷ []))
      last_step = record {
        low = omega arith;
        some = omega (arith, longer);
        back = reach_self whens wheres (node_at (stack ++ v ∷ []) (length stack));
        head = λ p above below. subst (λ i. Reaches whens wheres (node_at (stack ++ v ∷ []) p) (node_at (stack ++ v ∷ []) i)) (same_place p above below) (reach_self whens wheres (node_at (stack ++ v ∷ []) p));
        all = λ p above below. absurd (omega (arith, above, below, longer));
        past = λ p k above below less.
            let none : passed_at passed (node_at (stack ++ v ∷ []) p) ≡ 0 = ap (λ i. passed_at passed (node_at (stack ++ v ∷ []) i)) (same_place p above below) ∙ ap (passed_at passed) node_last ∙ w.fresh v unseen in
            absurd (omega (arith, none, less));
      }

-- what reaches the node that the last step of a path calls
module _ (whens wheres : Graph) (standings : List Standing) (passed stack : List ℕ) (before : List Step) (step : Step) where
  pub all_reach : IsWalk whens wheres standings passed stack (before ++ step ∷ []) → IsSegment whens wheres standings passed stack step (length stack)
      → (v : ℕ) → Reaches whens wheres (node_at stack step.place) v → (p : ℕ) → p < length stack → Reaches whens wheres (node_at stack p) v
  all_reach w s v leads p below = ⊎_elim
      (λ (early : p < step.place). reach_on whens wheres (node_at stack p) (node_at stack step.place) v (w.forth p step.place (omega (arith, early)) s.some) leads)
      (λ (late : step.place ≤ p). reach_on whens wheres (node_at stack p) (node_at stack step.place) v (s.head p late below) leads)
      (cases_lt p step.place)
