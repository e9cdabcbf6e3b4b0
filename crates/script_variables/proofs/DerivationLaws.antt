-- While it is derived what follows from rules, what is bound follows, and each rule stands somewhere; at the end all that follows is bound.
use Rattle.std.proofs.Common.{◌≡◌, ◌≢◌, ◌⊎◌, ℕ, ◌+◌, ◌<◌, ◌≤◌, List, [], ◌∷◌, ◌++◌, Bool, true, false, cond, refl, sym, ◌∙◌, ap, subst, length, set, get_or, replicate, arith, ⊎_elim, inl, inr, true≢false, length-append}
use Rattle.std.specs.Prelude.{Contains, Result, Ok, Err, OnOk}
use Rattle.std.specs.List.{sum_by}
use Rattle.std.proofs.lemmas.Bool.{cases_order}
use Rattle.std.proofs.lemmas.List.{get_or-set_same, get_or-set_other, length-set, get_or-replicate, length-replicate, get_or_past}
use Rattle.std.proofs.lemmas.List.Sums.{sum_by-set, sum_by-append}
use Rattle.std.proofs.lemmas.List.Elements.{Contains-append_left, Contains-append_right, Contains-append_cases}
use Rattle.script_variables.specs.Bindings.{IsDerivedNumber}
use Rattle.script_variables.specs.Derivations.{NumberRule, Deriving, bound_at, waiting_at, with_pending, with_bound, with_asked, IsStep, pending_weight, waiting_weight, weight, IsRuleBelow, Follows, AreAmong, IsCovered, IsWithin, IsUnderway}
use Rattle.mof_metamodel.proofs.Facts.{only_one}

nothing_there : {X : Type 0} (y : X) → ¬ Contains {X = X} [] y
nothing_there y (k, l, at) = omega arith

same_or_not : (m n : ℕ) → (m ≡ n) ⊎ (m ≢ n)
same_or_not m n = ⊎_elim (λ e. inl e) (λ h. inr (λ e. ⊎_elim (λ l. omega arith) (λ l. omega arith) h)) (cases_order m n)

-- ---- the lists after a step

module _ (st : Deriving) (n : ℕ) where
  bound_here : n < length st.bound → get_or (set st.bound n true) n false ≡ true
  bound_here l = get_or-set_same st.bound n true false l

  bound_there : (m : ℕ) → m ≢ n → get_or (set st.bound n true) m false ≡ bound_at st m
  bound_there m other = get_or-set_other st.bound n m true false other

  waiting_here : (rules : List NumberRule) → n < length st.waiting → get_or (set st.waiting n rules) n [] ≡ rules
  waiting_here rules l = get_or-set_same st.waiting n rules [] l

  waiting_there : (rules : List NumberRule) (m : ℕ) → m ≢ n → get_or (set st.waiting n rules) m [] ≡ waiting_at st m
  waiting_there rules m other = get_or-set_other st.waiting n m rules [] other

-- ---- a number that is bound, and all that wait for it

abbrev woken : Deriving → ℕ → Deriving
woken st v = record { bound = set st.bound v true; waiting = set st.waiting v []; pending = st.pending ++ waiting_at st v }

abbrev held : Deriving → ℕ → List ℕ → ℕ → Deriving
held st v front n = record st { waiting = set st.waiting n (waiting_at st n ++ (v, front) ∷ []) }

module _ (st : Deriving) (v : ℕ) (asked : List ℕ) where
  abbrev before : Deriving
  before = with_pending st (v, asked)

  looked_at : Contains before.pending (v, asked)
  looked_at = Contains-append_right st.pending ((v, asked) ∷ []) (v, asked) (0, omega arith, refl)

  also : (rule : NumberRule) → Contains st.pending rule → Contains before.pending rule
  also rule c = Contains-append_left st.pending ((v, asked) ∷ []) rule c

  module _ (count : ℕ) (w : IsWithin count before) where
    below : IsRuleBelow count (v, asked)
    below = w.pending_below (v, asked) looked_at

    within_same : IsWithin count st
    within_same = record {
      long = w.long;
      waiting_long = w.waiting_long;
      pending_below = λ rule c. w.pending_below rule (also rule c);
      waiting_below = w.waiting_below;
    }

    within_woken : IsWithin count (woken st v)
    within_woken = record {
      long = length-set st.bound v true ∙ w.long;
      waiting_long = length-set st.waiting v [] ∙ w.waiting_long;
      pending_below = λ rule c. ⊎_elim (λ left. w.pending_below rule (also rule left)) (λ right. w.waiting_below v rule right) (Contains-append_cases st.pending (waiting_at st v) rule c);
      waiting_below = λ n rule c. ⊎_elim
          (λ same. absurd (nothing_there rule (subst (λ (rs : List NumberRule). Contains rs rule) (ap (λ (i : ℕ). get_or (set st.waiting v []) i []) same ∙ waiting_here st v [] (omega (arith, w.waiting_long, below.0))) c)))
          (λ other. w.waiting_below n rule (subst (λ (rs : List NumberRule). Contains rs rule) (waiting_there st v [] n other) c))
          (same_or_not n v);
    }

    pub within_bound : IsWithin count (with_bound st v)
    within_bound = by (bound_at st v)
      where
        by : (b : Bool) → IsWithin count (cond b st (woken st v))
        by true = within_same
        by false = within_woken

    module _ (front : List ℕ) (n : ℕ) (is : asked ≡ front ++ n ∷ []) where
      n_asked : Contains asked n
      n_asked = subst (λ (ns : List ℕ). Contains ns n) (sym is) (Contains-append_right front (n ∷ []) n (0, omega arith, refl))

      front_asked : AreAmong front asked
      front_asked m c = subst (λ (ns : List ℕ). Contains ns m) (sym is) (Contains-append_left front (n ∷ []) m c)

      n_below : n < count
      n_below = below.1 n n_asked

      front_below : IsRuleBelow count (v, front)
      front_below = (below.0, λ m c. below.1 m (front_asked m c))

      within_more : IsWithin count (with_pending st (v, front))
      within_more = record {
        long = w.long;
        waiting_long = w.waiting_long;
        pending_below = λ rule c. ⊎_elim (λ left. w.pending_below rule (also rule left)) (λ right. subst (IsRuleBelow count) (only_one (v, front) rule right) front_below) (Contains-append_cases st.pending ((v, front) ∷ []) rule c);
        waiting_below = w.waiting_below;
      }

      within_held : IsWithin count (held st v front n)
      within_held = record {
        long = w.long;
        waiting_long = length-set st.waiting n (waiting_at st n ++ (v, front) ∷ []) ∙ w.waiting_long;
        pending_below = λ rule c. w.pending_below rule (also rule c);
        waiting_below = λ m rule c. ⊎_elim
            (λ same. ⊎_elim (λ left. w.waiting_below n rule left) (λ right. subst (IsRuleBelow count) (only_one (v, front) rule right) front_below)
            (Contains-append_cases (waiting_at st n) ((v, front) ∷ []) rule
            (subst (λ (rs : List NumberRule). Contains rs rule) (ap (λ (i : ℕ). get_or (set st.waiting n (waiting_at st n ++ (v, front) ∷ [])) i []) same ∙ waiting_here st n (waiting_at st n ++ (v, front) ∷ []) (omega (arith, w.waiting_long, n_below))) c)))
            (λ other. w.waiting_below m rule (subst (λ (rs : List NumberRule). Contains rs rule) (waiting_there st n (waiting_at st n ++ (v, front) ∷ []) m other) c))
            (same_or_not m n);
      }

      pub within_asked : IsWithin count (with_asked st v front n)
      within_asked = by (bound_at st n)
        where
          by : (b : Bool) → IsWithin count (cond b (with_pending st (v, front)) (held st v front n))
          by true = within_more
          by false = within_held

      -- ---- what stays of the rules

      module _ (rules : List NumberRule) (u : IsUnderway rules before) where
        front_follows : IsDerivedNumber rules n → Follows rules v front
        front_follows derived all = u.pending_follow v asked looked_at (λ m c. ⊎_elim (λ left. all m left) (λ right. subst (IsDerivedNumber rules) (only_one n m right) derived)
            (Contains-append_cases front (n ∷ []) m (subst (λ (ns : List ℕ). Contains ns m) is c)))

        more_covered : (x : ℕ) (a : List ℕ) → IsCovered before x a → IsCovered (with_pending st (v, front)) x a
        more_covered x a (IsCovered.bound h) = IsCovered.bound h
        more_covered x a (IsCovered.pending rest c among) = ⊎_elim
            (λ left. IsCovered.pending rest (Contains-append_left st.pending ((v, front) ∷ []) (x, rest) left) among)
            (λ right. let same = only_one (v, asked) (x, rest) right in
            IsCovered.pending front (subst (λ (y : ℕ). Contains (st.pending ++ (v, front) ∷ []) (y, front)) (ap (λ (r : NumberRule). r.0) same) (Contains-append_right st.pending ((v, front) ∷ []) (v, front) (0, omega arith, refl)))
            (λ m d. among m (subst (λ (ns : List ℕ). Contains ns m) (ap (λ (r : NumberRule). r.1) same) (front_asked m d))))
            (Contains-append_cases st.pending ((v, asked) ∷ []) (x, rest) c)
        more_covered x a (IsCovered.waiting m rest unbound here c among) = IsCovered.waiting m rest unbound here c among

        underway_more : bound_at st n ≡ true → IsUnderway rules (with_pending st (v, front))
        underway_more bound = record {
          sound = u.sound;
          pending_follow = λ x a c. ⊎_elim (λ left. u.pending_follow x a (also (x, a) left))
              (λ right. let same = only_one (v, front) (x, a) right in
              subst (λ (r : NumberRule). Follows rules r.0 r.1) same (front_follows (u.sound n bound)))
              (Contains-append_cases st.pending ((v, front) ∷ []) (x, a) c);
          waiting_follow = u.waiting_follow;
          covered = λ x a c. more_covered x a (u.covered x a c);
        }

        abbrev held_rules : List NumberRule
        held_rules = waiting_at st n ++ (v, front) ∷ []

        held_here : waiting_at (held st v front n) n ≡ held_rules
        held_here = waiting_here st n held_rules (omega (arith, w.waiting_long, n_below))

        held_covered : bound_at st n ≡ false → (x : ℕ) (a : List ℕ) → IsCovered before x a → IsCovered (held st v front n) x a
        held_covered unbound x a (IsCovered.bound h) = IsCovered.bound h
        held_covered unbound x a (IsCovered.pending rest c among) = ⊎_elim
            (λ left. IsCovered.pending rest left among)
            (λ right. let same = only_one (v, asked) (x, rest) right in
            IsCovered.waiting n front unbound (among n (subst (λ (ns : List ℕ). Contains ns n) (ap (λ (r : NumberRule). r.1) same) n_asked))
            (subst (λ (y : ℕ). Contains (waiting_at (held st v front n) n) (y, front)) (ap (λ (r : NumberRule). r.0) same)
            (subst (λ (rs : List NumberRule). Contains rs (v, front)) (sym held_here) (Contains-append_right (waiting_at st n) ((v, front) ∷ []) (v, front) (0, omega arith, refl))))
            (λ m d. among m (subst (λ (ns : List ℕ). Contains ns m) (ap (λ (r : NumberRule). r.1) same) (front_asked m d))))
            (Contains-append_cases st.pending ((v, asked) ∷ []) (x, rest) c)
        held_covered unbound x a (IsCovered.waiting m rest apart here c among) = IsCovered.waiting m rest apart here
            (⊎_elim
            (λ same. subst (λ (i : ℕ). Contains (waiting_at (held st v front n) i) (x, rest)) (sym same)
            (subst (λ (rs : List NumberRule). Contains rs (x, rest)) (sym held_here)
            (Contains-append_left (waiting_at st n) ((v, front) ∷ []) (x, rest) (subst (λ (i : ℕ). Contains (waiting_at st i) (x, rest)) same c))))
            (λ other. subst (λ (rs : List NumberRule). Contains rs (x, rest)) (sym (waiting_there st n held_rules m other)) c)
            (same_or_not m n))
            among

        underway_held : bound_at st n ≡ false → IsUnderway rules (held st v front n)
        underway_held unbound = record {
          sound = u.sound;
          pending_follow = λ x a c. u.pending_follow x a (also (x, a) c);
          waiting_follow = λ m x a c derived. ⊎_elim
              (λ same. ⊎_elim (λ left. u.waiting_follow n x a left (subst (IsDerivedNumber rules) same derived))
              (λ right. subst (λ (r : NumberRule). Follows rules r.0 r.1) (only_one (v, front) (x, a) right) (front_follows (subst (IsDerivedNumber rules) same derived)))
              (Contains-append_cases (waiting_at st n) ((v, front) ∷ []) (x, a)
              (subst (λ (rs : List NumberRule). Contains rs (x, a)) (ap (λ (i : ℕ). waiting_at (held st v front n) i) same ∙ held_here) c)))
              (λ other. u.waiting_follow m x a (subst (λ (rs : List NumberRule). Contains rs (x, a)) (waiting_there st n held_rules m other) c) derived)
              (same_or_not m n);
          covered = λ x a c. held_covered unbound x a (u.covered x a c);
        }

        pub underway_asked : IsUnderway rules (with_asked st v front n)
        underway_asked = by (bound_at st n) refl
          where
            by : (b : Bool) → bound_at st n ≡ b → IsUnderway rules (cond b (with_pending st (v, front)) (held st v front n))
            by true e = underway_more e
            by false e = underway_held e

      -- ---- what is left to do

      shorter : length asked ≡ length front + 1
      shorter = ap length is ∙ length-append front (n ∷ [])

      pub less_asked : weight (with_asked st v front n) < weight before
      less_asked = by (bound_at st n)
        where
          by : (b : Bool) → weight (cond b (with_pending st (v, front)) (held st v front n)) < weight before
          by true = omega (arith, shorter, sum_by-append pending_weight st.pending ((v, asked) ∷ []), sum_by-append pending_weight st.pending ((v, front) ∷ []))
          by false = omega (
            arith,
            shorter,
            sum_by-append pending_weight st.pending ((v, asked) ∷ []),
            sum_by-append waiting_weight (waiting_at st n) ((v, front) ∷ []),
            sum_by-set (λ (rs : List NumberRule). sum_by waiting_weight rs) st.waiting n (waiting_at st n ++ (v, front) ∷ []) [] (omega (arith, w.waiting_long, n_below)),
          )

    -- ---- a rule that asks for nothing more

    module _ (is : asked ≡ []) where
      module _ (rules : List NumberRule) (u : IsUnderway rules before) where
        derived : IsDerivedNumber rules v
        derived = u.pending_follow v asked looked_at (λ m c. absurd (nothing_there m (subst (λ (ns : List ℕ). Contains ns m) is c)))

        same_covered : bound_at st v ≡ true → (x : ℕ) (a : List ℕ) → IsCovered before x a → IsCovered st x a
        same_covered bound x a (IsCovered.bound h) = IsCovered.bound h
        same_covered bound x a (IsCovered.pending rest c among) = ⊎_elim
            (λ left. IsCovered.pending rest left among)
            (λ right. IsCovered.bound (subst (λ (y : ℕ). bound_at st y ≡ true) (ap (λ (r : NumberRule). r.0) (only_one (v, asked) (x, rest) right)) bound))
            (Contains-append_cases st.pending ((v, asked) ∷ []) (x, rest) c)
        same_covered bound x a (IsCovered.waiting m rest apart here c among) = IsCovered.waiting m rest apart here c among

        underway_same : bound_at st v ≡ true → IsUnderway rules st
        underway_same bound = record {
          sound = u.sound;
          pending_follow = λ x a c. u.pending_follow x a (also (x, a) c);
          waiting_follow = u.waiting_follow;
          covered = λ x a c. same_covered bound x a (u.covered x a c);
        }

        v_bound : bound_at (woken st v) v ≡ true
        v_bound = bound_here st v (omega (arith, w.long, below.0))

        nothing_waits : waiting_at (woken st v) v ≡ []
        nothing_waits = waiting_here st v [] (omega (arith, w.waiting_long, below.0))

        stays_bound : (x : ℕ) → bound_at st x ≡ true → bound_at (woken st v) x ≡ true
        stays_bound x h = ⊎_elim (λ same. ap (bound_at (woken st v)) same ∙ v_bound) (λ other. bound_there st v x other ∙ h) (same_or_not x v)

        woken_covered : (x : ℕ) (a : List ℕ) → IsCovered before x a → IsCovered (woken st v) x a
        woken_covered x a (IsCovered.bound h) = IsCovered.bound (stays_bound x h)
        woken_covered x a (IsCovered.pending rest c among) = ⊎_elim
            (λ left. IsCovered.pending rest (Contains-append_left st.pending (waiting_at st v) (x, rest) left) among)
            (λ right. IsCovered.bound (subst (λ (y : ℕ). bound_at (woken st v) y ≡ true) (ap (λ (r : NumberRule). r.0) (only_one (v, asked) (x, rest) right)) v_bound))
            (Contains-append_cases st.pending ((v, asked) ∷ []) (x, rest) c)
        woken_covered x a (IsCovered.waiting m rest apart here c among) = ⊎_elim
            (λ same. IsCovered.pending rest (Contains-append_right st.pending (waiting_at st v) (x, rest) (subst (λ (i : ℕ). Contains (waiting_at st i) (x, rest)) same c)) among)
            (λ other. IsCovered.waiting m rest (bound_there st v m other ∙ apart) here (subst (λ (rs : List NumberRule). Contains rs (x, rest)) (sym (waiting_there st v [] m other)) c) among)
            (same_or_not m v)

        underway_woken : IsUnderway rules (woken st v)
        underway_woken = record {
          sound = λ m h. ⊎_elim (λ same. subst (IsDerivedNumber rules) (sym same) derived) (λ other. u.sound m (sym (bound_there st v m other) ∙ h)) (same_or_not m v);
          pending_follow = λ x a c. ⊎_elim (λ left. u.pending_follow x a (also (x, a) left)) (λ right. u.waiting_follow v x a right derived) (Contains-append_cases st.pending (waiting_at st v) (x, a) c);
          waiting_follow = λ m x a c d. ⊎_elim
              (λ same. absurd (nothing_there (x, a) (subst (λ (rs : List NumberRule). Contains rs (x, a)) (ap (waiting_at (woken st v)) same ∙ nothing_waits) c)))
              (λ other. u.waiting_follow m x a (subst (λ (rs : List NumberRule). Contains rs (x, a)) (waiting_there st v [] m other) c) d)
              (same_or_not m v);
          covered = λ x a c. woken_covered x a (u.covered x a c);
        }

        pub underway_bound : IsUnderway rules (with_bound st v)
        underway_bound = by (bound_at st v) refl
          where
            by : (b : Bool) → bound_at st v ≡ b → IsUnderway rules (cond b st (woken st v))
            by true e = underway_same e
            by false e = underway_woken

      pub less_bound : weight (with_bound st v) < weight before
      less_bound = by (bound_at st v)
        where
          lighter : (rs : List NumberRule) → sum_by pending_weight rs ≤ sum_by waiting_weight rs
          lighter [] = omega arith
          lighter (r ∷ rs) = let rest = lighter rs in omega (arith, rest, sum_by-append pending_weight (r ∷ []) rs, sum_by-append waiting_weight (r ∷ []) rs)

          by : (b : Bool) → weight (cond b st (woken st v)) < weight before
          by true = omega (arith, sum_by-append pending_weight st.pending ((v, asked) ∷ []))
          by false = omega (
            arith,
            sum_by-append pending_weight st.pending ((v, asked) ∷ []),
            sum_by-append pending_weight st.pending (waiting_at st v),
            lighter (waiting_at st v),
            sum_by-set (λ (rs : List NumberRule). sum_by waiting_weight rs) st.waiting v [] [] (omega (arith, w.waiting_long, below.0)),
          )

-- ---- a step

module _ (st : Deriving) (v : ℕ) (asked : List ℕ) (after : Deriving) (count : ℕ) (w : IsWithin count (with_pending st (v, asked))) where
  pub step_within : IsStep st v asked after → IsWithin count after
  step_within (IsStep.met is e) = subst (IsWithin count) (sym e) (within_bound st v asked count w)
  step_within (IsStep.next front n is e) = subst (IsWithin count) (sym e) (within_asked st v asked count w front n is)

  pub step_underway : IsStep st v asked after → (rules : List NumberRule) → IsUnderway rules (with_pending st (v, asked)) → IsUnderway rules after
  step_underway (IsStep.met is e) rules u = subst (IsUnderway rules) (sym e) (underway_bound st v asked count w is rules u)
  step_underway (IsStep.next front n is e) rules u = subst (IsUnderway rules) (sym e) (underway_asked st v asked count w front n is rules u)

  pub step_less : IsStep st v asked after → weight after < weight (with_pending st (v, asked))
  step_less (IsStep.met is e) = subst (λ (x : Deriving). weight x < weight (with_pending st (v, asked))) (sym e) (less_bound st v asked count w is)
  step_less (IsStep.next front n is e) = subst (λ (x : Deriving). weight x < weight (with_pending st (v, asked))) (sym e) (less_asked st v asked count w front n is)

-- what a call makes of it
pub stepped : {X E : Type 0} (r : Result X E) (st after : Deriving) (v : ℕ) (asked front : List ℕ) (n : ℕ) → asked ≡ front ++ n ∷ [] → OnOk r (after ≡ with_asked st v front n) → OnOk r (IsStep st v asked after)
stepped (Ok x) st after v asked front n is e = IsStep.next front n is e
stepped (Err f) st after v asked front n is e = tt

-- ---- the begin and the end

-- what is everywhere in a list is so past its end too
pub everywhere : {X : Type 0} (count n : ℕ) (d : X) → get_or (replicate count d) n d ≡ d
everywhere count n d = ⊎_elim
    (λ same. get_or_past (replicate count d) n d (omega (arith, length-replicate count d)))
    (λ apart. ⊎_elim (λ less. get_or-replicate count n d d less) (λ more. get_or_past (replicate count d) n d (omega (arith, length-replicate count d))) apart)
    (cases_order n count)

module _ (bound : List Bool) (waiting : List (List NumberRule)) (rules : List NumberRule) (unbound : (n : ℕ) → get_or bound n false ≡ false) (empty : (n : ℕ) → get_or waiting n [] ≡ []) where
  abbrev start : Deriving
  start = record { bound = bound; waiting = waiting; pending = rules }

  pub start_within : (count : ℕ) → length bound ≡ count → length waiting ≡ count → ((rule : NumberRule) → Contains rules rule → IsRuleBelow count rule) → IsWithin count start
  start_within count long waiting_long below = record {
    long = long;
    waiting_long = waiting_long;
    pending_below = below;
    waiting_below = λ n rule c. absurd (nothing_there rule (subst (λ (rs : List NumberRule). Contains rs rule) (empty n) c));
  }

  pub start_underway : IsUnderway rules start
  start_underway = record {
    sound = λ n h. absurd (true≢false (sym h ∙ unbound n));
    pending_follow = λ v asked c all. IsDerivedNumber.by v asked c all;
    waiting_follow = λ n v asked c derived. absurd (nothing_there (v, asked) (subst (λ (rs : List NumberRule). Contains rs (v, asked)) (empty n) c));
    covered = λ v asked c. IsCovered.pending asked c (λ w among. among);
  }

module _ (rules : List NumberRule) (st : Deriving) (u : IsUnderway rules st) (done : st.pending ≡ []) where
  all_bound : (v : ℕ) (asked : List ℕ) → IsCovered st v asked → ((w : ℕ) → Contains asked w → bound_at st w ≡ true) → bound_at st v ≡ true
  all_bound v asked (IsCovered.bound h) all = h
  all_bound v asked (IsCovered.pending rest c among) all = absurd (nothing_there (v, rest) (subst (λ (rs : List NumberRule). Contains rs (v, rest)) done c))
  all_bound v asked (IsCovered.waiting n rest unbound here c among) all = absurd (true≢false (sym (all n here) ∙ unbound))

  pub derived_bound : (n : ℕ) → IsDerivedNumber rules n → bound_at st n ≡ true
  derived_bound _ (IsDerivedNumber.by v asked c all) = all_bound v asked (u.covered v asked c) (λ w among. derived_bound w (all w among))
