-- The last step of a path is left, and its nodes go to the one before.
use Rattle.std.proofs.Common.{◌≡◌, ◌≢◌, ◌<◌, ◌≤◌, ℕ, List, [], ◌∷◌, ◌++◌, length, min, sym, ◌∙◌, subst, ⊎_elim, arith}
use Rattle.std.proofs.Math.Nat.{min-le_left, min-le_right, min-eq_left, min-eq_right}
use Rattle.std.proofs.lemmas.Bool.{cases_eq, cases_lt}
use Rattle.call_graph.specs.declared.standing.Standing.{Standing}
use Rattle.call_graph.specs.declared.step.Step.{Step}
use Rattle.call_graph.specs.Graphs.{Graph}
use Rattle.call_graph.specs.Walks.{node_at, calls_of, call_at, passed_at, Reaches, IsSegment, AreSegments, IsWalk, lowered}
use Rattle.call_graph.proofs.ReachLemmas.{reach_on}
use Rattle.call_graph.proofs.SegmentLemmas.{begin_push, front_segments, last_segment, segments_push, past_lower}

module _ (whens wheres : Graph) (standings : List Standing) (passed stack : List ℕ) (before : List Step) (prev step : Step) where
  pub left : IsWalk whens wheres standings passed stack ((before ++ prev ∷ []) ++ step ∷ []) → length (calls_of whens wheres (node_at stack step.place)) ≤ passed_at passed (node_at stack step.place) → step.low < step.place
      → IsWalk whens wheres standings passed stack (before ++ lowered prev step.low ∷ [])
  left w full below = record {
    long = w.long;
    counts = w.counts;
    within = w.within;
    fresh = w.fresh;
    opened = w.opened;
    placed = w.placed;
    done = w.done;
    few = w.few;
    forth = w.forth;
    segments = segments_push whens wheres standings passed stack before (lowered prev step.low) (length stack)
        (front_segments whens wheres standings passed stack before prev step.place rest)
        both;
    first = begin_push before (lowered prev step.low) (length stack) ∙ sym (begin_push before prev step.place) ∙ sym (begin_push (before ++ prev ∷ []) step (length stack)) ∙ w.first;
  }
    where
      rest : AreSegments whens wheres standings passed stack (before ++ prev ∷ []) step.place
      rest = front_segments whens wheres standings passed stack (before ++ prev ∷ []) step (length stack) w.segments

      last : IsSegment whens wheres standings passed stack step (length stack)
      last = last_segment whens wheres standings passed stack (before ++ prev ∷ []) step (length stack) w.segments

      first : IsSegment whens wheres standings passed stack prev step.place
      first = last_segment whens wheres standings passed stack before prev step.place rest

      low : ℕ
      low = min prev.low step.low

      -- the node of the last step reaches that of the one before
      over : Reaches whens wheres (node_at stack step.place) (node_at stack prev.place)
      over = reach_on whens wheres (node_at stack step.place) (node_at stack step.low) (node_at stack prev.place) last.back (⊎_elim
          (λ (early : step.low < prev.place). w.forth step.low prev.place (omega (arith, early)) (let a = first.some in let b = last.some in omega (arith, a, b)))
          (λ (late : prev.place ≤ step.low). first.head step.low late below)
          (cases_lt step.low prev.place))

      both : IsSegment whens wheres standings passed stack (lowered prev step.low) (length stack)
      both = record {
        low = let a = first.low in let b = min-le_left prev.low step.low in omega (arith, a, b);
        some = let a = first.some in let b = last.some in omega (arith, a, b);
        back = ⊎_elim
            (λ (less : step.low < prev.low).
            let is : min prev.low step.low ≡ step.low = min-eq_right (let le : step.low ≤ prev.low = omega (arith, less) in le) in
            subst (λ i. Reaches whens wheres (node_at stack prev.place) (node_at stack i)) (sym is)
            (reach_on whens wheres (node_at stack prev.place) (node_at stack step.place) (node_at stack step.low)
            (w.forth prev.place step.place (let a = first.some in omega (arith, a)) last.some) last.back))
            (λ (more : prev.low ≤ step.low).
            let is : min prev.low step.low ≡ prev.low = min-eq_left more in
            subst (λ i. Reaches whens wheres (node_at stack prev.place) (node_at stack i)) (sym is) first.back)
            (cases_lt step.low prev.low);
        head = λ p above under. ⊎_elim
            (λ (early : p < step.place). first.head p above early)
            (λ (late : step.place ≤ p). reach_on whens wheres (node_at stack p) (node_at stack step.place) (node_at stack prev.place) (last.head p late under) over)
            (cases_lt p step.place);
        all = λ p above under. ⊎_elim
            (λ (early : p < step.place). first.all p above early)
            (λ (late : step.place ≤ p). ⊎_elim
            (λ (same : p ≡ step.place). subst (λ q. passed_at passed (node_at stack q) ≡ length (calls_of whens wheres (node_at stack q))) (sym same)
            (let most = w.within (node_at stack step.place) in omega (arith, most, full)))
            (λ (other : p ≢ step.place). last.all p (grind (arith, late, other)) under)
            (cases_eq p step.place))
            (cases_lt p step.place);
        past = λ p k above under fewer. ⊎_elim
            (λ (early : p < step.place). past_lower standings prev.low low (call_at whens wheres (node_at stack p) k) (min-le_left prev.low step.low) (first.past p k above early fewer))
            (λ (late : step.place ≤ p). past_lower standings step.low low (call_at whens wheres (node_at stack p) k) (min-le_right prev.low step.low) (last.past p k late under fewer))
            (cases_lt p step.place);
      }
