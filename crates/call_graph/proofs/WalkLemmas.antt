-- How a walk goes on.
use Rattle.std.proofs.Common.{◌≡◌, ◌≢◌, ◌<◌, ◌≤◌, ◌+◌, ℕ, zero, suc, List, [], ◌∷◌, ◌++◌, length, min, map, replicate, set, take, refl, sym, ◌∙◌, ap, subst, ⊎_elim, inl, inr, arith}
use Rattle.std.proofs.Math.Nat.{min-le_left, min-le_right, min-eq_left, min-eq_right}
use Rattle.std.proofs.lemmas.List.{length_push, length-replicate, length-map, get_or-set_same}
use Rattle.std.proofs.lemmas.Bool.{cases_eq, cases_lt}
use Rattle.call_graph.specs.declared.standing.Standing.{Standing}
use Rattle.call_graph.specs.declared.standing.Standing.TheVariants.{New, Open, Done}
use Rattle.call_graph.specs.declared.step.Step.{Step}
use Rattle.call_graph.specs.declared.walk.Walk.{Walk}
use Rattle.call_graph.specs.Graphs.{Graph}
use Rattle.call_graph.specs.Strata.{IsOnWhenCycle, IsStratum, AreStrata, stratum_at}
use Rattle.call_graph.specs.Walks.{standing_at, node_at, calls_of, call_at, passed_at, stratum_of, new_count, left_count, Reaches, IsPast, IsSegment, IsWalk, GoesOn, IsWalkOn, IsVisited, IsNew, StaySeen, lowered, IsEntered, IsPassed, IsLowered, IsFollowed, begin}
use Rattle.call_graph.specs.Tops.{IsClosed, IsOpenWhen, IsGroupTop, AreWhensDone, AreSettled}
use Rattle.call_graph.proofs.ReachLemmas.{reach_call, stratum_past}
use Rattle.call_graph.proofs.SearchLemmas.{none_passed}
use Rattle.call_graph.proofs.SegmentLemmas.{last_segment, begin_push, ends}
use Rattle.call_graph.proofs.StandingLemmas.{new_open, new_done, open_done, done_stratum, new_within, open_within, seen_on, fewer_open, all_new, new_count_all, left_less}
use Rattle.call_graph.proofs.EnterLemmas.{entered, all_reach}
use Rattle.call_graph.proofs.PassLemmas.{passed_on}
use Rattle.call_graph.proofs.LeaveLemmas.{left}
use Rattle.call_graph.proofs.CloseLemmas.{when_cycle, closed}

module _ (whens wheres : Graph) where
  -- what stands in tables that are equal to others
  moved : (s t : List Standing) (p q k l : List ℕ) (a b : List Step) → t ≡ s → q ≡ p → l ≡ k → b ≡ a → IsWalk whens wheres s p k a → IsWalk whens wheres t q l b
  moved s t p q k l a b es ep ek ea w =
      subst (λ x. IsWalk whens wheres x q l b) (sym es)
      (subst (λ x. IsWalk whens wheres s x l b) (sym ep)
      (subst (λ x. IsWalk whens wheres s p x b) (sym ek)
      (subst (IsWalk whens wheres s p k) (sym ea) w)))

  module _ (before : Walk) (w : IsWalk whens wheres before.standings.items before.passed.items before.stack before.path) where
    pub enter_on : (v : ℕ) (after : Walk) → standing_at before.standings.items v ≡ New → ((p : ℕ) → p < length before.stack → Reaches whens wheres (node_at before.stack p) v) → IsEntered before v after → GoesOn whens wheres before after
    enter_on v after unseen reached e = record {
      walk = moved (set before.standings.items v (Open (length before.stack))) after.standings.items before.passed.items after.passed.items (before.stack ++ v ∷ []) after.stack
          (before.path ++ record { place = length before.stack; low = length before.stack } ∷ []) after.path e.standings e.passed e.stack e.path
          (entered whens wheres before.standings.items before.passed.items before.stack before.path v w unseen reached);
      seen = subst (StaySeen before.standings.items) (sym e.standings) (seen_on before.standings.items v (Open (length before.stack)) (new_within before.standings.items v unseen) (λ is. new_open (length before.stack) (sym is)));
      falls =
          let fewer : new_count after.standings.items + 1 ≡ new_count before.standings.items = ap (λ s. new_count s + 1) e.standings ∙ fewer_open before.standings.items v (length before.stack) unseen in
          let longer : length after.path ≡ length before.path + 1 = ap length e.path ∙ length_push before.path record { place = length before.stack; low = length before.stack } in
          let same : left_count whens wheres after.passed.items ≡ left_count whens wheres before.passed.items = ap (left_count whens wheres) e.passed in
          omega (arith, fewer, longer, same);
    }

    module _ (same : length whens ≡ length wheres) (front : List Step) (step : Step) (is : before.path ≡ front ++ step ∷ []) where
      walk_at : IsWalk whens wheres before.standings.items before.passed.items before.stack (front ++ step ∷ [])
      walk_at = subst (IsWalk whens wheres before.standings.items before.passed.items before.stack) is w

      last : IsSegment whens wheres before.standings.items before.passed.items before.stack step (length before.stack)
      last = last_segment whens wheres before.standings.items before.passed.items before.stack front step (length before.stack) walk_at.segments

      -- the last step is one of an open node
      pub place_within : step.place < length before.stack
      place_within = last.some

      pub node_within : node_at before.stack step.place < length whens
      node_within = let inside = open_within before.standings.items (node_at before.stack step.place) step.place (w.placed step.place last.some) in let long = w.long in omega (arith, inside, long)

      pass_on : (k : ℕ) (after : Walk) (now : Step) → k ≡ passed_at before.passed.items (node_at before.stack step.place) → k < length (calls_of whens wheres (node_at before.stack step.place))
          → IsPassed before (node_at before.stack step.place) (k + 1) after → after.path ≡ front ++ now ∷ [] → now.place ≡ step.place → now.low ≤ step.low
          → Reaches whens wheres (node_at before.stack step.place) (node_at before.stack now.low) → IsPast before.standings.items now.low (call_at whens wheres (node_at before.stack step.place) k)
          → GoesOn whens wheres before after
      pass_on k after now at more p path same_place less reach past = record {
        walk = moved before.standings.items after.standings.items (set before.passed.items u (passed_at before.passed.items u + 1)) after.passed.items before.stack after.stack (front ++ now ∷ []) after.path
            p.standings counts p.stack path
            (passed_on whens wheres before.standings.items before.passed.items before.stack front step now walk_at (subst (λ n. n < length (calls_of whens wheres u)) at more) same_place less reach
            (subst (λ n. IsPast before.standings.items now.low (call_at whens wheres u n)) at past));
        seen = λ x old new. old (ap (λ s. standing_at s x) (sym p.standings) ∙ new);
        falls =
            let fewer : left_count whens wheres after.passed.items + 1 ≡ left_count whens wheres before.passed.items = ap (λ n. left_count whens wheres n + 1) counts
            ∙ left_less whens wheres before.passed.items u same w.counts (subst (λ n. n < length (calls_of whens wheres u)) at more) in
            let as_long : length after.path ≡ length before.path = ap length path ∙ length_push front now ∙ sym (length_push front step) ∙ ap length (sym is) in
            let as_new : new_count after.standings.items ≡ new_count before.standings.items = ap new_count p.standings in
            omega (arith, fewer, as_long, as_new);
      }
        where
          u : ℕ
          u = node_at before.stack step.place

          counts : after.passed.items ≡ set before.passed.items (node_at before.stack step.place) (passed_at before.passed.items (node_at before.stack step.place) + 1)
          counts = p.passed ∙ ap (λ n. set before.passed.items (node_at before.stack step.place) (n + 1)) at

      -- a call is followed
      pub follow_on : (u k v : ℕ) (after : Walk) → u ≡ node_at before.stack step.place → k ≡ passed_at before.passed.items u → k < length (calls_of whens wheres u) → call_at whens wheres u k ≡ v → IsFollowed before u k v after → GoesOn whens wheres before after
      follow_on u k v after at_u at_k more leads f = by (standing_at before.standings.items v) refl
        where
          now : node_at before.stack step.place ≡ u
          now = sym at_u

          at : k ≡ passed_at before.passed.items (node_at before.stack step.place)
          at = at_k ∙ ap (passed_at before.passed.items) at_u

          more_at : k < length (calls_of whens wheres (node_at before.stack step.place))
          more_at = subst (λ x. k < length (calls_of whens wheres x)) at_u more

          leads_at : v ≡ call_at whens wheres (node_at before.stack step.place) k
          leads_at = sym leads ∙ ap (λ x. call_at whens wheres x k) at_u

          to_v : Reaches whens wheres (node_at before.stack step.place) v
          to_v = subst (Reaches whens wheres (node_at before.stack step.place)) (sym leads_at) (reach_call whens wheres (node_at before.stack step.place) k more_at)

          passed_there : IsPassed before u (k + 1) after → IsPassed before (node_at before.stack step.place) (k + 1) after
          passed_there = subst (λ x. IsPassed before x (k + 1) after) at_u

          by : (s : Standing) → standing_at before.standings.items v ≡ s → GoesOn whens wheres before after
          by New stands = enter_on v after stands (all_reach whens wheres before.standings.items before.passed.items before.stack front step walk_at last v to_v) (f.new stands)
          by (Open p) stands =
              let passed = f.opened p stands in
              let here = w.opened v p stands in
              let less : min step.low p ≤ step.low = min-le_left step.low p in
              pass_on k after (lowered step p) at more_at (passed_there passed.0) (passed.1 front step is) refl less
              (⊎_elim
              (λ (lesser : p < step.low).
              let low : min step.low p ≡ p = min-eq_right (let le : p ≤ step.low = omega (arith, lesser) in le) in
              subst (λ i. Reaches whens wheres (node_at before.stack step.place) (node_at before.stack i)) (sym low) (subst (Reaches whens wheres (node_at before.stack step.place)) (sym here.1) to_v))
              (λ (greater : step.low ≤ p).
              subst (λ i. Reaches whens wheres (node_at before.stack step.place) (node_at before.stack i)) (sym (min-eq_left greater)) last.back)
              (cases_lt p step.low))
              (inr (p, ap (standing_at before.standings.items) (sym leads_at) ∙ stands, min-le_right step.low p))
          by (Done s) stands =
              let passed = f.done s stands in
              pass_on k after step at more_at (passed_there passed.0) (passed.1 ∙ is) refl (omega arith) last.back (inl (s, ap (standing_at before.standings.items) (sym leads_at) ∙ stands))

      module _ (full : length (calls_of whens wheres (node_at before.stack step.place)) ≤ passed_at before.passed.items (node_at before.stack step.place)) where
        -- the last step is left to the one before
        pub leave_on : (after : Walk) → step.low < step.place → after.standings.items ≡ before.standings.items → after.passed.items ≡ before.passed.items → after.stack ≡ before.stack → IsLowered front step.low after.path → GoesOn whens wheres before after
        leave_on after less es ep ek path = ⊎_elim
            (λ (none : front ≡ []).
            let first : begin (front ++ step ∷ []) (length before.stack) ≡ 0 = walk_at.first in
            let at : step.place ≡ 0 = sym (begin_push front step (length before.stack) ∙ ap (λ f. begin f step.place) none) ∙ first in
            absurd (omega (arith, at, less)))
            (λ (some : (earlier : List Step) × (prev : Step) × (front ≡ earlier ++ prev ∷ [])).
            let at = subst (λ f. IsWalk whens wheres before.standings.items before.passed.items before.stack (f ++ step ∷ [])) some.2 walk_at in
            record {
              walk = moved before.standings.items after.standings.items before.passed.items after.passed.items before.stack after.stack (some.0 ++ lowered some.1 step.low ∷ []) after.path es ep ek (path some.0 some.1 some.2)
                  (left whens wheres before.standings.items before.passed.items before.stack some.0 some.1 step at full less);
              seen = λ x old new. old (ap (λ s. standing_at s x) (sym es) ∙ new);
              falls =
                  let shorter : length after.path ≡ length front = ap length (path some.0 some.1 some.2) ∙ length_push some.0 (lowered some.1 step.low) ∙ sym (length_push some.0 some.1) ∙ ap length (sym some.2) in
                  let longer : length before.path ≡ length front + 1 = ap length is ∙ length_push front step in
                  let as_new : new_count after.standings.items ≡ new_count before.standings.items = ap new_count es in
                  let as_left : left_count whens wheres after.passed.items ≡ left_count whens wheres before.passed.items = ap (left_count whens wheres) ep in
                  omega (arith, shorter, longer, as_new, as_left);
            })
            (ends front)

        -- its nodes are closed
        pub close_on : (after : Walk) → step.place ≤ step.low → (middle : Walk) → middle.standings.items ≡ before.standings.items → middle.passed.items ≡ before.passed.items → middle.stack ≡ before.stack
            → middle.path ≡ front → IsClosed whens wheres middle step.place after → GoesOn whens wheres before after
        close_on after high middle es ep ek ea c = record {
          walk = moved after.standings.items after.standings.items before.passed.items after.passed.items (take step.place before.stack) after.stack front after.path refl (c.passed ∙ ep) (c.stack ∙ ap (take step.place) ek) (c.path ∙ ea)
              (closed whens wheres before.standings.items before.passed.items before.stack front step walk_at full high c.top.0
              (subst (λ k. AreWhensDone whens before.standings.items k step.place (length k)) ek (subst (λ s. AreWhensDone whens s middle.stack step.place (length middle.stack)) es c.whens_done))
              (subst (λ k. IsGroupTop whens wheres before.standings.items k step.place (length k) c.top.0) ek (subst (λ s. IsGroupTop whens wheres s middle.stack step.place (length middle.stack) c.top.0) es c.top.1))
              after.standings.items settled (c.long ∙ ap length es) (subst (λ s. new_count after.standings.items ≤ new_count s) es c.fewer));
          seen = λ x old new. ⊎_elim
              (λ (still : (standing_at after.standings.items x ≡ standing_at before.standings.items x) × ((p : ℕ) → step.place ≤ p → p < length before.stack → node_at before.stack p ≡ x → ⊥)). old (sym still.0 ∙ new))
              (λ (given : (p : ℕ) × (step.place ≤ p) × (p < length before.stack) × (node_at before.stack p ≡ x) × (standing_at after.standings.items x ≡ Done c.top.0)). new_done c.top.0 (sym new ∙ given.4))
              (settled x);
          falls =
              let shorter : length after.path ≡ length front = ap length (c.path ∙ ea) in
              let longer : length before.path ≡ length front + 1 = ap length is ∙ length_push front step in
              let fewer : new_count after.standings.items ≤ new_count before.standings.items = subst (λ s. new_count after.standings.items ≤ new_count s) es c.fewer in
              let as_left : left_count whens wheres after.passed.items ≡ left_count whens wheres before.passed.items = ap (left_count whens wheres) (c.passed ∙ ep) in
              omega (arith, shorter, longer, fewer, as_left);
        }
          where
            settled : AreSettled before.standings.items after.standings.items before.stack step.place c.top.0
            settled = subst (λ k. AreSettled before.standings.items after.standings.items k step.place c.top.0) ek (subst (λ s. AreSettled s after.standings.items middle.stack step.place c.top.0) es c.top.2)

        -- or one of them lies on a cycle
        pub cycle_on : (u : ℕ) → step.place ≤ step.low → IsOpenWhen whens before.standings.items before.stack step.place u → IsOnWhenCycle whens wheres u
        cycle_on u high found = when_cycle whens wheres before.standings.items before.passed.items before.stack front step walk_at full high u found

  -- a root is opened, and the walk from it comes to its end
  pub enter_root : (before after : Walk) (root : ℕ) → IsWalk whens wheres before.standings.items before.passed.items before.stack [] → before.path ≡ [] → standing_at before.standings.items root ≡ New → IsEntered before root after
      → GoesOn whens wheres before after
  enter_root before after root w path unseen e = enter_on before (subst (IsWalk whens wheres before.standings.items before.passed.items before.stack) (sym path) w) root after unseen
      (λ p below. let none : length before.stack ≡ 0 = w.first in absurd (omega (arith, none, below))) e

  pub visited : (before middle after : Walk) (root : ℕ) → IsWalk whens wheres before.standings.items before.passed.items before.stack [] → before.path ≡ [] → standing_at before.standings.items root ≡ New → IsEntered before root middle
      → IsWalkOn whens wheres middle after → IsVisited whens wheres before root after
  visited before middle after root w path unseen e on = record {
    on = record { walk = on.walk; path = on.path; seen = λ u old new. on.seen u (λ at. (enter_root before middle root w path unseen e).seen u old at) new };
    looked = on.seen root (λ new. new_open (length before.stack) (sym new ∙ ap (λ s. standing_at s root) e.standings
        ∙ get_or-set_same before.standings.items root (Open (length before.stack)) (Done 0) (new_within before.standings.items root unseen)));
  }

  pub passed_by : (before : Walk) (root : ℕ) → IsWalk whens wheres before.standings.items before.passed.items before.stack [] → before.path ≡ [] → (standing_at before.standings.items root ≡ New → ⊥) → IsVisited whens wheres before root before
  passed_by before root w path looked = record { on = record { walk = w; path = path; seen = λ u old new. old new }; looked = looked }

  -- a node that is done leaves room for one more
  pub room : (standings : List Standing) (passed stack : List ℕ) (path : List Step) (u s : ℕ) → IsWalk whens wheres standings passed stack path → 0 < length stack → standing_at standings u ≡ Done s → s + 1 ≤ length standings
  room standings passed stack path u s w some is = let few = w.few u s is in omega (arith, few, some)

  -- at the begin nothing was looked at
  pub begun : (walk : Walk) → length whens ≡ length wheres → IsNew (length whens) walk → IsWalk whens wheres walk.standings.items walk.passed.items walk.stack []
  begun walk same n = record {
    long = long;
    counts = ap length n.passed ∙ length-replicate (length whens) 0;
    within = λ u. let none = passes u in omega (arith, none);
    fresh = λ u new. passes u;
    opened = λ u p is. absurd (⊎_elim
        (λ (new : standing_at (replicate (length whens) New) u ≡ New). new_open p (sym new ∙ sym (stands u) ∙ is))
        (λ (past : (length whens ≤ u) × (standing_at (replicate (length whens) New) u ≡ Done 0)). open_done p 0 (sym is ∙ stands u ∙ past.1))
        (all_new (length whens) u));
    placed = λ p below. absurd (let none = empty in omega (arith, none, below));
    done = λ u s is. ⊎_elim
        (λ (new : standing_at (replicate (length whens) New) u ≡ New). absurd (new_done s (sym new ∙ sym (stands u) ∙ is)))
        (λ (past : (length whens ≤ u) × (standing_at (replicate (length whens) New) u ≡ Done 0)).
        subst (IsStratum whens wheres u) (done_stratum 0 s (sym past.1 ∙ sym (stands u) ∙ is)) (stratum_past whens wheres u past.0 (subst (λ m. m ≤ u) same past.0)))
        (all_new (length whens) u);
    few = λ u s is. ⊎_elim
        (λ (new : standing_at (replicate (length whens) New) u ≡ New). absurd (new_done s (sym new ∙ sym (stands u) ∙ is)))
        (λ (past : (length whens ≤ u) × (standing_at (replicate (length whens) New) u ≡ Done 0)).
        let nothing : 0 ≡ s = done_stratum 0 s (sym past.1 ∙ sym (stands u) ∙ is) in
        let new : new_count walk.standings.items ≡ length whens = ap new_count n.standings ∙ new_count_all (length whens) in
        let none = empty in let length_is = long in
        omega (arith, nothing, new, none, length_is))
        (all_new (length whens) u);
    forth = λ p q le below. absurd (let none = empty in omega (arith, none, below));
    segments = tt;
    first = empty;
  }
    where
      long : length walk.standings.items ≡ length whens
      long = ap length n.standings ∙ length-replicate (length whens) New

      empty : length walk.stack ≡ 0
      empty = ap length n.stack

      stands : (u : ℕ) → standing_at walk.standings.items u ≡ standing_at (replicate (length whens) New) u
      stands u = ap (λ s. standing_at s u) n.standings

      passes : (u : ℕ) → passed_at walk.passed.items u ≡ 0
      passes u = ap (λ l. passed_at l u) n.passed ∙ none_passed (length whens) u

  -- one more node was looked at
  pub next_looked : (before after : List Standing) (root : ℕ) → ((u : ℕ) → u < root → standing_at before u ≡ New → ⊥) → StaySeen before after → (standing_at after root ≡ New → ⊥)
      → (u : ℕ) → u < root + 1 → standing_at after u ≡ New → ⊥
  next_looked before after root seen stay here u below new = ⊎_elim
      (λ (same : u ≡ root). here (subst (λ w. standing_at after w ≡ New) same new))
      (λ (other : u ≢ root). stay u (seen u (grind (arith, below, other))) new)
      (cases_eq u root)

  -- where all were looked at, they have their strata
  pub all_strata : (standings : List Standing) (passed stack : List ℕ) (n : ℕ) → IsWalk whens wheres standings passed stack [] → ((u : ℕ) → u < n → standing_at standings u ≡ New → ⊥) → length whens ≤ n → AreStrata whens wheres (map stratum_of standings)
  all_strata standings passed stack n w seen all = (length-map standings stratum_of ∙ w.long, λ u. by u (standing_at standings u) refl)
    where
      mapped : (list : List Standing) (u : ℕ) → stratum_at (map stratum_of list) u ≡ stratum_of (standing_at list u)
      mapped [] u = refl
      mapped (s ∷ list) zero = refl
      mapped (s ∷ list) (suc u) = mapped list u

      by : (u : ℕ) (s : Standing) → standing_at standings u ≡ s → IsStratum whens wheres u (stratum_at (map stratum_of standings) u)
      by u New is = absurd (let inside = new_within standings u is in let long = w.long in seen u (omega (arith, inside, long, all)) is)
      by u (Open p) is = absurd (let found = w.opened u p is in let below : p < length stack = found.0 in let none : length stack ≡ 0 = w.first in omega (arith, below, none))
      by u (Done s) is = subst (IsStratum whens wheres u) (sym (mapped standings u ∙ ap stratum_of is)) (w.done u s is)
