-- One more call of the last node of a path is passed.
use Rattle.std.proofs.Common.{◌≡◌, ◌≢◌, ◌<◌, ◌≤◌, ◌+◌, ◌⊎◌, ℕ, List, [], ◌∷◌, ◌++◌, length, set, refl, sym, ◌∙◌, ap, subst, ⊎_elim, inl, inr, arith}
use Rattle.std.proofs.lemmas.List.{get_or-set_same, get_or-set_other, length-set}
use Rattle.std.proofs.lemmas.Bool.{cases_eq}
use Rattle.call_graph.specs.declared.standing.Standing.{Standing}
use Rattle.call_graph.specs.declared.standing.Standing.TheVariants.{Open}
use Rattle.call_graph.specs.declared.step.Step.{Step}
use Rattle.call_graph.specs.Graphs.{Graph}
use Rattle.call_graph.specs.Walks.{standing_at, node_at, calls_of, call_at, passed_at, Reaches, IsPast, IsSegment, AreSegments, IsWalk, begin}
use Rattle.call_graph.proofs.SegmentLemmas.{begin_push, front_segments, last_segment, segments_push, segments_kept, past_lower}
use Rattle.call_graph.proofs.StandingLemmas.{new_open, open_place, open_within}

module _ (whens wheres : Graph) (standings : List Standing) (passed stack : List ℕ) (before : List Step) (step : Step) where
  pub passed_on : (lowered : Step) → IsWalk whens wheres standings passed stack (before ++ step ∷ []) → passed_at passed (node_at stack step.place) < length (calls_of whens wheres (node_at stack step.place))
      → lowered.place ≡ step.place → lowered.low ≤ step.low → Reaches whens wheres (node_at stack step.place) (node_at stack lowered.low)
      → IsPast standings lowered.low (call_at whens wheres (node_at stack step.place) (passed_at passed (node_at stack step.place)))
      → IsWalk whens wheres standings (set passed (node_at stack step.place) (passed_at passed (node_at stack step.place) + 1)) stack (before ++ lowered ∷ [])
  passed_on lowered w more same_place less reach past = record {
    long = w.long;
    counts = length-set passed u (k + 1) ∙ w.counts;
    within = λ x. ⊎_elim
        (λ (same : (x ≡ u) × (passed_at now x ≡ k + 1)). subst (λ y. passed_at now x ≤ length (calls_of whens wheres y)) (sym same.0) (let at = same.1 in omega (arith, at, more)))
        (λ (other : (x ≢ u) × (passed_at now x ≡ passed_at passed x)). let old = w.within x in let at = other.1 in omega (arith, old, at))
        (place x);
    fresh = λ x new. ⊎_elim
        (λ (same : (x ≡ u) × (passed_at now x ≡ k + 1)). absurd (new_open step.place (sym new ∙ ap (standing_at standings) same.0 ∙ at_step)))
        (λ (other : (x ≢ u) × (passed_at now x ≡ passed_at passed x)). other.1 ∙ w.fresh x new)
        (place x);
    opened = w.opened;
    placed = w.placed;
    done = w.done;
    few = w.few;
    forth = w.forth;
    segments = segments_push whens wheres standings now stack before lowered (length stack)
        (subst (AreSegments whens wheres standings now stack before) (sym same_place)
        (segments_kept whens wheres standings standings passed now stack stack before step.place (λ p below. refl)
        (λ p below. kept p (let some = here.some in omega (arith, below, some)) (λ same. omega (arith, same, below)))
        (λ low v is. is)
        (front_segments whens wheres standings passed stack before step (length stack) w.segments)))
        last_step;
    first = begin_push before lowered (length stack) ∙ ap (begin before) same_place ∙ sym (begin_push before step (length stack)) ∙ w.first;
  }
    where
      u : ℕ
      u = node_at stack step.place

      k : ℕ
      k = passed_at passed (node_at stack step.place)

      now : List ℕ
      now = set passed (node_at stack step.place) (passed_at passed (node_at stack step.place) + 1)

      here : IsSegment whens wheres standings passed stack step (length stack)
      here = last_segment whens wheres standings passed stack before step (length stack) w.segments

      at_step : standing_at standings (node_at stack step.place) ≡ Open step.place
      at_step = w.placed step.place here.some

      inside : node_at stack step.place < length passed
      inside = let within = open_within standings (node_at stack step.place) step.place at_step in let a = w.long in let b = w.counts in omega (arith, within, a, b)

      place : (x : ℕ) → ((x ≡ u) × (passed_at now x ≡ k + 1)) ⊎ ((x ≢ u) × (passed_at now x ≡ passed_at passed x))
      place x = ⊎_elim
          (λ (same : x ≡ u). inl (same, ap (passed_at now) same ∙ get_or-set_same passed u (k + 1) 0 inside))
          (λ (other : x ≢ u). inr (other, get_or-set_other passed u x (k + 1) 0 other))
          (cases_eq x u)

      kept : (p : ℕ) → p < length stack → p ≢ step.place → passed_at now (node_at stack p) ≡ passed_at passed (node_at stack p)
      kept p below other = get_or-set_other passed u (node_at stack p) (k + 1) 0
          (λ same. other (open_place p step.place (sym (w.placed p below) ∙ ap (standing_at standings) same ∙ at_step)))

      at_k : passed_at now (node_at stack step.place) ≡ k + 1
      at_k = get_or-set_same passed u (k + 1) 0 inside

      last_step : IsSegment whens wheres standings now stack lowered (length stack)
      last_step = record {
        low = let a = here.low in omega (arith, a, same_place, less);
        some = subst (λ i. i < length stack) (sym same_place) here.some;
        back = subst (λ i. Reaches whens wheres (node_at stack i) (node_at stack lowered.low)) (sym same_place) reach;
        head = λ p above below. subst (λ i. Reaches whens wheres (node_at stack p) (node_at stack i)) (sym same_place) (here.head p (omega (arith, above, same_place)) below);
        all = λ p above below. kept p below (λ same. omega (arith, same, above, same_place)) ∙ here.all p (omega (arith, above, same_place)) below;
        past = λ p i above below fewer. ⊎_elim
            (λ (same : p ≡ step.place). subst (λ q. IsPast standings lowered.low (call_at whens wheres (node_at stack q) i)) (sym same)
            (at_head i (subst (λ n. i < n) (ap (λ q. passed_at now (node_at stack q)) same ∙ at_k) fewer)))
            (λ (other : p ≢ step.place).
            past_lower standings step.low lowered.low (call_at whens wheres (node_at stack p) i) less
            (here.past p i (omega (arith, above, same_place)) below (subst (λ n. i < n) (kept p below other) fewer)))
            (cases_eq p step.place);
      }
        where
          at_head : (i : ℕ) → i < k + 1 → IsPast standings lowered.low (call_at whens wheres (node_at stack step.place) i)
          at_head i fewer = ⊎_elim
              (λ (same : i ≡ k). subst (λ j. IsPast standings lowered.low (call_at whens wheres (node_at stack step.place) j)) (sym same) past)
              (λ (other : i ≢ k).
              past_lower standings step.low lowered.low (call_at whens wheres (node_at stack step.place) i) less
              (here.past step.place i (omega arith) here.some (grind (arith, fewer, other))))
              (cases_eq i k)
