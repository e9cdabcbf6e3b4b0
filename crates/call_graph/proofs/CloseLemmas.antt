-- The nodes of the last step of a path are closed: they reach each other, and what they call is done or one of them.
use Rattle.std.proofs.Common.{◌≡◌, ◌≢◌, ◌<◌, ◌≤◌, ◌+◌, ◌⊎◌, ℕ, suc, List, [], ◌∷◌, ◌++◌, length, take, refl, sym, ◌∙◌, ap, subst, ⊎_elim, inl, inr, arith}
use Rattle.std.proofs.lemmas.List.{get_or-take, get_or_past, length-take-le}
use Rattle.std.proofs.lemmas.Bool.{cases_eq, cases_lt}
use Rattle.call_graph.specs.declared.standing.Standing.{Standing}
use Rattle.call_graph.specs.declared.standing.Standing.TheVariants.{Open, Done}
use Rattle.call_graph.specs.declared.step.Step.{Step}
use Rattle.call_graph.specs.Graphs.{Graph, Leads}
use Rattle.call_graph.specs.Strata.{IsCallPath, IsStratum, IsOnWhenCycle, end, by_when, by_where}
use Rattle.call_graph.specs.Walks.{standing_at, node_at, calls_of, call_at, passed_at, new_count, Reaches, IsPast, IsSegment, AreSegments, IsWalk, begin}
use Rattle.call_graph.specs.Tops.{IsDone, IsGroupTop, IsNeeded, AreWhensDone, IsOpenWhen, AreSettled}
use Rattle.call_graph.proofs.ReachLemmas.{joined, reach_on, when_call, where_call}
use Rattle.call_graph.proofs.SegmentLemmas.{begin_push, front_segments, last_segment, segments_kept, past_same}
use Rattle.call_graph.proofs.StandingLemmas.{new_done, open_done, open_place, done_stratum}

module _ (whens wheres : Graph) (standings : List Standing) (passed stack : List ℕ) (before : List Step) (step : Step) (w : IsWalk whens wheres standings passed stack (before ++ step ∷ []))
    (full : length (calls_of whens wheres (node_at stack step.place)) ≤ passed_at passed (node_at stack step.place)) (high : step.place ≤ step.low) where
  here : IsSegment whens wheres standings passed stack step (length stack)
  here = last_segment whens wheres standings passed stack before step (length stack) w.segments

  -- a call of one of them leads to a node that is done, or to one of them
  called : (p k : ℕ) → step.place ≤ p → p < length stack → k < length (calls_of whens wheres (node_at stack p)) → IsPast standings step.low (call_at whens wheres (node_at stack p) k)
  called p k above below less = here.past p k above below (subst (λ n. k < n) (sym (all p above below)) less)
    where
      all : (p : ℕ) → step.place ≤ p → p < length stack → passed_at passed (node_at stack p) ≡ length (calls_of whens wheres (node_at stack p))
      all p above below = ⊎_elim
          (λ (same : p ≡ step.place). subst (λ q. passed_at passed (node_at stack q) ≡ length (calls_of whens wheres (node_at stack q))) (sym same)
          (let most = w.within (node_at stack step.place) in omega (arith, most, full)))
          (λ (other : p ≢ step.place). here.all p (grind (arith, above, other)) below)
          (cases_eq p step.place)

  Member : ℕ → Type 0
  Member v = (q : ℕ) × (step.place ≤ q) × (q < length stack) × (node_at stack q ≡ v)

  known : (v : ℕ) → IsPast standings step.low v → IsDone standings v ⊎ Member v
  unfolding Member
  known v = ⊎_elim
      (λ (is : (stratum : ℕ) × (standing_at standings v ≡ Done stratum)). inl is)
      (λ (is : (q : ℕ) × (standing_at standings v ≡ Open q) × (step.low ≤ q)).
      let found = w.opened v is.0 is.1 in
      let above : step.low ≤ is.0 = is.2 in
      inr (is.0, omega (arith, above, high), found.0, found.1))

  when_known : (p v : ℕ) → step.place ≤ p → p < length stack → Leads whens (node_at stack p) v → IsDone standings v ⊎ Member v
  when_known p v above below leads =
      let call = when_call whens wheres (node_at stack p) v leads in
      known v (subst (IsPast standings step.low) call.2 (called p call.0 above below call.1))

  where_known : (p v : ℕ) → step.place ≤ p → p < length stack → Leads wheres (node_at stack p) v → IsDone standings v ⊎ Member v
  where_known p v above below leads =
      let call = where_call whens wheres (node_at stack p) v leads in
      known v (subst (IsPast standings step.low) call.2 (called p call.0 above below call.1))

  -- each reaches each
  reach_all : (p q : ℕ) → step.place ≤ p → p < length stack → step.place ≤ q → q < length stack → Reaches whens wheres (node_at stack p) (node_at stack q)
  reach_all p q above below later within = reach_on whens wheres (node_at stack p) (node_at stack step.place) (node_at stack q) (here.head p above below) (w.forth step.place q later within)

  -- one that calls another of them in a when clause lies on a cycle
  pub when_cycle : (u : ℕ) → IsOpenWhen whens standings stack step.place u → IsOnWhenCycle whens wheres u
  unfolding Member
  when_cycle u (p, v, above, below, is, leads, undone) = ⊎_elim
      (λ (done : IsDone standings v). absurd (undone done))
      (λ (member : Member v).
      let back : Reaches whens wheres v u = subst (λ x. Reaches whens wheres x u) member.3 (subst (λ y. Reaches whens wheres (node_at stack member.0) y) is (reach_all member.0 p member.1 member.2 above below)) in
      (back.0, by_when u v u back.0 leads back.1))
      (when_known p v above below (subst (λ x. Leads whens x v) (sym is) leads))

  module _ (top : ℕ) (whens_done : AreWhensDone whens standings stack step.place (length stack)) (t : IsGroupTop whens wheres standings stack step.place (length stack) top) where
    most : (x last count : ℕ) → IsCallPath whens wheres x last count → (p : ℕ) → step.place ≤ p → p < length stack → node_at stack p ≡ x → count ≤ top
    unfolding Member
    most _ _ _ (end x) p above below is = omega arith
    most _ _ _ (by_when x v last count leads path) p above below is =
        let from : Leads whens (node_at stack p) v = subst (λ y. Leads whens y v) (sym is) leads in
        let done = whens_done p v above below from in
        let enough : done.0 + 1 ≤ top = (t.enough p above below).by_when v done.0 from done.1 in
        let short : count ≤ done.0 = (w.done v done.0 done.1).greatest last count path in
        omega (arith, enough, short)
    most _ _ _ (by_where x v last count leads path) p above below is =
        let from : Leads wheres (node_at stack p) v = subst (λ y. Leads wheres y v) (sym is) leads in ⊎_elim
        (λ (done : IsDone standings v).
        let enough : done.0 ≤ top = (t.enough p above below).by_where v done.0 from done.1 in
        let short : count ≤ done.0 = (w.done v done.0 done.1).greatest last count path in
        omega (arith, enough, short))
        (λ (member : Member v). most v last count path member.0 member.1 member.2 member.3)
        (where_known p v above below from)

    -- what reaches a node on a path with as many when calls as are needed
    some : (u : ℕ) (q : ℕ) → Reaches whens wheres u (node_at stack q) → IsNeeded whens wheres standings (node_at stack q) top → (last : ℕ) × (count : ℕ) × IsCallPath whens wheres u last count × (top ≤ count)
    some u q reach (v, s, done, by) = ⊎_elim
        (λ (leads : Leads whens (node_at stack q) v × (s + 1 ≡ top)).
        let count : ℕ = reach.0 + suc s in
        let is : s + 1 ≡ top = leads.1 in
        (rest.0, reach.0 + suc s, joined whens wheres rest.0 (suc s) u (node_at stack q) reach.0 reach.1 (by_when (node_at stack q) v rest.0 s leads.0 rest.1), omega (arith, is)))
        (λ (leads : Leads wheres (node_at stack q) v × (s ≡ top)).
        let is : s ≡ top = leads.1 in
        (rest.0, reach.0 + s, joined whens wheres rest.0 s u (node_at stack q) reach.0 reach.1 (by_where (node_at stack q) v rest.0 s leads.0 rest.1), omega (arith, is)))
        by
      where
        rest : (last : ℕ) × IsCallPath whens wheres v last s
        rest = (w.done v s done).reached

    -- their stratum
    pub group_stratum : (p : ℕ) → step.place ≤ p → p < length stack → IsStratum whens wheres (node_at stack p) top
    group_stratum p above below = record {
      reached = ⊎_elim
          (λ (none : top ≡ 0). (node_at stack p, subst (IsCallPath whens wheres (node_at stack p) (node_at stack p)) (sym none) (end (node_at stack p))))
          (λ (needed : (q : ℕ) × (step.place ≤ q) × (q < length stack) × IsNeeded whens wheres standings (node_at stack q) top).
          let found = some (node_at stack p) needed.0 (reach_all p needed.0 above below needed.1 needed.2) needed.3 in
          let least : found.1 ≤ top = most (node_at stack p) found.0 found.1 found.2 p above below refl in
          let enough : top ≤ found.1 = found.3 in
          let same : found.1 ≡ top = omega (arith, least, enough) in
          (found.0, subst (IsCallPath whens wheres (node_at stack p) found.0) same found.2))
          t.needed;
      greatest = λ last count path. most (node_at stack p) last count path p above below refl;
    }

    -- it leaves room for those that are open or new
    short : top + (step.place + new_count standings) ≤ length standings
    short = ⊎_elim
        (λ (none : top ≡ 0). let past = w.few (length standings) 0 (get_or_past standings (length standings) (Done 0) (omega arith)) in omega (arith, past, none, inside))
        (λ (needed : (q : ℕ) × (step.place ≤ q) × (q < length stack) × IsNeeded whens wheres standings (node_at stack q) top).
        let few = w.few needed.3.0 needed.3.1 needed.3.2 in ⊎_elim
        (λ (leads : Leads whens (node_at stack needed.0) needed.3.0 × (needed.3.1 + 1 ≡ top)). let is : needed.3.1 + 1 ≡ top = leads.1 in omega (arith, few, is, inside))
        (λ (leads : Leads wheres (node_at stack needed.0) needed.3.0 × (needed.3.1 ≡ top)). let is : needed.3.1 ≡ top = leads.1 in omega (arith, few, is, inside))
        needed.3.3)
        t.needed
      where
        inside : step.place < length stack
        inside = here.some

    module _ (after : List Standing) (settled : AreSettled standings after stack step.place top) (long : length after ≡ length standings) (fewer : new_count after ≤ new_count standings) where
      -- a node that is no more done than before is none of them
      kept : (v : ℕ) → ((s : ℕ) → standing_at after v ≡ Done s → ⊥) → (standing_at after v ≡ standing_at standings v) × ((p : ℕ) → step.place ≤ p → p < length stack → node_at stack p ≡ v → ⊥)
      kept v undone = ⊎_elim
          (λ (same : (standing_at after v ≡ standing_at standings v) × ((p : ℕ) → step.place ≤ p → p < length stack → node_at stack p ≡ v → ⊥)). same)
          (λ (given : (p : ℕ) × (step.place ≤ p) × (p < length stack) × (node_at stack p ≡ v) × (standing_at after v ≡ Done top)). absurd (undone top given.4))
          (settled v)

      short_take : length (take step.place stack) ≡ step.place
      short_take = length-take-le step.place stack (let inside = here.some in omega (arith, inside))

      node_take : (p : ℕ) → p < step.place → node_at (take step.place stack) p ≡ node_at stack p
      node_take p below = get_or-take step.place stack p 0 below

      -- the nodes that stay open are as they were
      still : (p : ℕ) → p < step.place → standing_at after (node_at stack p) ≡ Open p
      still p below = ⊎_elim
          (λ (same : (standing_at after (node_at stack p) ≡ standing_at standings (node_at stack p)) × ((q : ℕ) → step.place ≤ q → q < length stack → node_at stack q ≡ node_at stack p → ⊥)). same.0 ∙ stood)
          (λ (given : (q : ℕ) × (step.place ≤ q) × (q < length stack) × (node_at stack q ≡ node_at stack p) × (standing_at after (node_at stack p) ≡ Done top)).
          let later : step.place ≤ given.0 = given.1 in
          let same : given.0 ≡ p = open_place given.0 p (sym (w.placed given.0 given.2) ∙ ap (standing_at standings) given.3 ∙ stood) in
          absurd (omega (arith, later, same, below)))
          (settled (node_at stack p))
        where
          stood : standing_at standings (node_at stack p) ≡ Open p
          stood = w.placed p (let inside = here.some in omega (arith, inside, below))

      past_kept : (low v : ℕ) → IsPast standings low v → IsPast after low v
      past_kept low v is = ⊎_elim
          (λ (same : (standing_at after v ≡ standing_at standings v) × ((q : ℕ) → step.place ≤ q → q < length stack → node_at stack q ≡ v → ⊥)). past_same standings after low v same.0 is)
          (λ (given : (q : ℕ) × (step.place ≤ q) × (q < length stack) × (node_at stack q ≡ v) × (standing_at after v ≡ Done top)). inl (top, given.4))
          (settled v)

      pub closed : IsWalk whens wheres after passed (take step.place stack) before
      closed = record {
        long = long ∙ w.long;
        counts = w.counts;
        within = w.within;
        fresh = λ u new. w.fresh u (sym (kept u (λ s is. new_done s (sym new ∙ is))).0 ∙ new);
        opened = λ u p is.
            let same = kept u (λ s done. open_done p s (sym is ∙ done)) in
            let found = w.opened u p (sym same.0 ∙ is) in ⊎_elim
            (λ (early : p < step.place). (subst (λ n. p < n) (sym short_take) early, node_take p early ∙ found.1))
            (λ (late : step.place ≤ p). absurd (same.1 p late found.0 found.1))
            (cases_lt p step.place);
        placed = λ p below. let less : p < step.place = omega (arith, below, short_take) in ap (standing_at after) (node_take p less) ∙ still p less;
        done = λ u s is. ⊎_elim
            (λ (same : (standing_at after u ≡ standing_at standings u) × ((q : ℕ) → step.place ≤ q → q < length stack → node_at stack q ≡ u → ⊥)). w.done u s (sym same.0 ∙ is))
            (λ (given : (q : ℕ) × (step.place ≤ q) × (q < length stack) × (node_at stack q ≡ u) × (standing_at after u ≡ Done top)).
            subst (IsStratum whens wheres u) (done_stratum top s (sym given.4 ∙ is)) (subst (λ x. IsStratum whens wheres x top) given.3 (group_stratum given.0 given.1 given.2)))
            (settled u);
        few = λ u s is. ⊎_elim
            (λ (same : (standing_at after u ≡ standing_at standings u) × ((q : ℕ) → step.place ≤ q → q < length stack → node_at stack q ≡ u → ⊥)).
            let old = w.few u s (sym same.0 ∙ is) in let inside = here.some in omega (arith, old, inside, short_take, fewer, long))
            (λ (given : (q : ℕ) × (step.place ≤ q) × (q < length stack) × (node_at stack q ≡ u) × (standing_at after u ≡ Done top)).
            let is_top : top ≡ s = done_stratum top s (sym given.4 ∙ is) in let room = short in omega (arith, room, is_top, short_take, fewer, long))
            (settled u);
        forth = λ p q le below.
            let less : q < step.place = omega (arith, below, short_take) in
            let first : p < step.place = omega (arith, le, less) in
            let within : q < length stack = (let inside = here.some in omega (arith, inside, less)) in
            subst (λ x. Reaches whens wheres x (node_at (take step.place stack) q)) (sym (node_take p first))
            (subst (λ y. Reaches whens wheres (node_at stack p) y) (sym (node_take q less)) (w.forth p q le within));
        segments = subst (AreSegments whens wheres after passed (take step.place stack) before) (sym short_take)
            (segments_kept whens wheres standings after passed passed stack (take step.place stack) before step.place node_take (λ p below. refl) past_kept
            (front_segments whens wheres standings passed stack before step (length stack) w.segments));
        first = ap (begin before) short_take ∙ sym (begin_push before step (length stack)) ∙ w.first;
      }
