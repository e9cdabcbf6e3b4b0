-- What the steps of a search keep.
use Rattle.std.proofs.Common.{◌≡◌, ◌≢◌, ◌<◌, ◌≤◌, ◌+◌, ℕ, zero, suc, List, [], ◌∷◌, ◌++◌, length, length-append, replicate, set, get_or, refl, sym, ◌∙◌, ap, subst, ⊎_elim, ◌⊎◌, inl, inr, arith, Option, None, Some, Result, Ok, Err}
use Rattle.std.specs.Prelude.{Contains, MatchOption, OnOk}
use Rattle.std.proofs.lemmas.List.{get_or-set_same, get_or-set_other, length-set, length-replicate}
use Rattle.std.proofs.lemmas.List.Elements.{Contains-append_left, Contains-push_cases, Contains-push}
use Rattle.std.proofs.lemmas.Bool.{cases_eq}
use Rattle.call_graph.specs.declared.mark.Mark.{Mark}
use Rattle.call_graph.specs.declared.mark.Mark.TheVariants.{New, Open, Done}
use Rattle.call_graph.specs.Graphs.{Graph, neighbours, Leads, IsOnCycle}
use Rattle.call_graph.specs.Searches.{mark_at, Settled, Sure, sure, IsChain, passed_at, ArePassed, IsSearch, StaySeen, weight}
use Rattle.call_graph.proofs.ChainLemmas.{chain_front, closed, no_cycle}
use Rattle.call_graph.proofs.MarkLemmas.{new_done, open_done, new_open, new_within, written, fewer_done, fewer_open}

module _ (g : Graph) (marks : List Mark) (next : List ℕ) where
  -- neighbours are passed
  pub passed_more : (path : List ℕ) (u i : ℕ) → IsSearch g marks next path → u < length g → i ≤ length (neighbours g u) → ArePassed marks (neighbours g u) i
      → IsSearch g marks (set next u i) path
  passed_more path u i s inside short passed = record {
    long = s.long;
    nexts = length-set next u i ∙ s.nexts;
    within = λ w. ⊎_elim
        (λ (same : (w ≡ u) × (passed_at (set next u i) w ≡ i)). subst (λ v. passed_at (set next u i) w ≤ length (neighbours g v)) (sym same.0) (subst (λ n. n ≤ length (neighbours g u)) (sym same.1) short))
        (λ (other : passed_at (set next u i) w ≡ passed_at next w). subst (λ n. n ≤ length (neighbours g w)) (sym other) (s.within w))
        (place w);
    passed = λ w. ⊎_elim
        (λ (same : (w ≡ u) × (passed_at (set next u i) w ≡ i)). subst (λ v. ArePassed marks (neighbours g v) (passed_at (set next u i) w)) (sym same.0) (subst (ArePassed marks (neighbours g u)) (sym same.1) passed))
        (λ (other : passed_at (set next u i) w ≡ passed_at next w). subst (ArePassed marks (neighbours g w)) (sym other) (s.passed w))
        (place w);
    done = s.done;
    opened = s.opened;
    chained = s.chained;
    inside = s.inside;
  }
    where
      place : (w : ℕ) → ((w ≡ u) × (passed_at (set next u i) w ≡ i)) ⊎ (passed_at (set next u i) w ≡ passed_at next w)
      place w = ⊎_elim
          (λ (same : w ≡ u). inl (same, ap (passed_at (set next u i)) same ∙ get_or-set_same next u i 0 (subst (λ n. u < n) (sym s.nexts) inside)))
          (λ (other : w ≢ u). inr (get_or-set_other next u w i 0 other))
          (cases_eq w u)

  -- the last node is done
  pub finished : (before : List ℕ) (u : ℕ) → IsSearch g marks next (before ++ u ∷ []) → ArePassed marks (neighbours g u) (length (neighbours g u))
      → IsSearch g (set marks u Done) next before
  finished before u s all = record {
    long = length-set marks u Done ∙ s.long;
    nexts = s.nexts;
    within = s.within;
    passed = λ w k below. settled _ (s.passed w k below);
    done = λ w h. ⊎_elim
        (λ (same : (w ≡ u) × (mark_at (set marks u Done) w ≡ Done)). subst (Sure g) (sym same.0) last)
        (λ (other : (w ≢ u) × (mark_at (set marks u Done) w ≡ mark_at marks w)). s.done w (sym other.1 ∙ h))
        (written marks u w Done inside);
    opened = λ w h. ⊎_elim
        (λ (same : (w ≡ u) × (mark_at (set marks u Done) w ≡ Done)). absurd (open_done (sym h ∙ same.1)))
        (λ (other : (w ≢ u) × (mark_at (set marks u Done) w ≡ mark_at marks w)). ⊎_elim
        (λ (among : Contains before w). among)
        (λ (here : u ≡ w). absurd (other.0 (sym here)))
        (Contains-push_cases before u w (s.opened w (sym other.1 ∙ h))))
        (written marks u w Done inside);
    chained = chain_front g before u s.chained;
    inside = λ w among. s.inside w (Contains-append_left before (u ∷ []) w among);
  }
    where
      inside : u < length marks
      inside = subst (λ n. u < n) (sym s.long) (s.inside u (Contains-push before u))

      settled : (w : ℕ) → Settled marks w → Settled (set marks u Done) w
      settled w h = ⊎_elim
          (λ (same : (w ≡ u) × (mark_at (set marks u Done) w ≡ Done)). same.1)
          (λ (other : (w ≢ u) × (mark_at (set marks u Done) w ≡ mark_at marks w)). other.1 ∙ h)
          (written marks u w Done inside)

      last : Sure g u
      last = sure u (λ v leads. subst (Sure g) leads.2 (s.done _ (all leads.0 leads.1)))

  -- a node that was not looked at stands behind the path
  pub entered : (path : List ℕ) (v : ℕ) → IsSearch g marks next path → mark_at marks v ≡ New → IsChain g (path ++ v ∷ []) → IsSearch g (set marks v Open) next (path ++ v ∷ [])
  entered path v s unseen chain = record {
    long = length-set marks v Open ∙ s.long;
    nexts = s.nexts;
    within = s.within;
    passed = λ w k below. settled _ (s.passed w k below);
    done = λ w h. ⊎_elim
        (λ (same : (w ≡ v) × (mark_at (set marks v Open) w ≡ Open)). absurd (open_done (sym same.1 ∙ h)))
        (λ (other : (w ≢ v) × (mark_at (set marks v Open) w ≡ mark_at marks w)). s.done w (sym other.1 ∙ h))
        (written marks v w Open inside);
    opened = λ w h. ⊎_elim
        (λ (same : (w ≡ v) × (mark_at (set marks v Open) w ≡ Open)). subst (Contains (path ++ v ∷ [])) (sym same.0) (Contains-push path v))
        (λ (other : (w ≢ v) × (mark_at (set marks v Open) w ≡ mark_at marks w)). Contains-append_left path (v ∷ []) w (s.opened w (sym other.1 ∙ h)))
        (written marks v w Open inside);
    chained = chain;
    inside = λ w among. ⊎_elim
        (λ (before : Contains path w). s.inside w before)
        (λ (here : v ≡ w). subst (λ x. x < length g) here (subst (λ n. v < n) s.long inside))
        (Contains-push_cases path v w among);
  }
    where
      inside : v < length marks
      inside = new_within marks v unseen

      settled : (w : ℕ) → Settled marks w → Settled (set marks v Open) w
      settled w h = ⊎_elim
          (λ (same : (w ≡ v) × (mark_at (set marks v Open) w ≡ Open)). absurd (new_done (sym unseen ∙ ap (mark_at marks) (sym same.0) ∙ h)))
          (λ (other : (w ≢ v) × (mark_at (set marks v Open) w ≡ mark_at marks w)). other.1 ∙ h)
          (written marks v w Open inside)

  -- a neighbour of the last node that is neither settled nor new lies on a cycle
  pub met : (before : List ℕ) (u v : ℕ) → IsSearch g marks next (before ++ u ∷ []) → Leads g u v → (Settled marks v → ⊥) → (mark_at marks v ≡ New → ⊥) → IsOnCycle g v
  met before u v s leads unsettled seen = by (mark_at marks v) refl
    where
      by : (m : Mark) → mark_at marks v ≡ m → IsOnCycle g v
      by New is = absurd (seen is)
      by Open is = closed g before u v s.chained (s.opened v is) leads
      by Done is = absurd (unsettled is)

  -- with nothing on the path, a node that was looked at lies on no cycle
  pub clear : (u : ℕ) → IsSearch g marks next [] → (mark_at marks u ≡ New → ⊥) → IsOnCycle g u → ⊥
  clear u s seen cycle = by (mark_at marks u) refl
    where
      by : (m : Mark) → mark_at marks u ≡ m → ⊥
      by New is = seen is
      by Open is = let among = s.opened u is in let below : among.0 < 0 = among.1 in absurd (omega arith)
      by Done is = no_cycle g u (s.done u is) cycle.0 cycle.1

pub falls_back : (marks : List Mark) (before : List ℕ) (u : ℕ) → weight (set marks u Done) before < weight marks (before ++ u ∷ [])
falls_back marks before u =
    let less = fewer_done marks u in
    let longer = length-append before (u ∷ []) in
    omega (arith, less, longer)

pub falls_on : (marks : List Mark) (path : List ℕ) (v : ℕ) → mark_at marks v ≡ New → weight (set marks v Open) (path ++ v ∷ []) < weight marks path
falls_on marks path v unseen =
    let less = fewer_open marks v unseen in
    let longer = length-append path (v ∷ []) in
    omega (arith, less, longer)

-- ---- paths that are taken apart

pub last_within : (g : Graph) (marks : List Mark) (next path : List ℕ) (u : ℕ) → IsSearch g marks next path → (before : List ℕ) × (path ≡ before ++ u ∷ []) → u < length g
last_within g marks next path u s last = s.inside u (subst (λ p. Contains p u) (sym last.1) (Contains-push last.0 u))

front : List ℕ → List ℕ
front [] = []
front (u ∷ []) = []
front (u ∷ v ∷ path) = u ∷ front (v ∷ path)

front_push : (path : List ℕ) (u : ℕ) → front (path ++ u ∷ []) ≡ path
unfolding front
front_push [] u = refl
front_push (a ∷ []) u = refl
front_push (a ∷ b ∷ path) u = ap (λ p. a ∷ p) (front_push (b ∷ path) u)

-- what a pop leaves
pub popped : (o : Option ℕ) (path left before : List ℕ) (u : ℕ) → MatchOption o ((path ≡ []) × (left ≡ [])) (λ last. path ≡ left ++ last ∷ []) → path ≡ before ++ u ∷ [] → left ≡ before
unfolding front
popped None path left before u is last = is.1 ∙ ap front (sym is.0) ∙ ap front last ∙ front_push before u
popped (Some x) path left before u is last = sym (front_push left x) ∙ ap front (sym is) ∙ ap front last ∙ front_push before u

pub on_ok : {X E A B : Type 0} (r : Result X E) → OnOk r A → (A → B) → OnOk r B
on_ok (Ok x) a f = f a
on_ok (Err e) a f = tt

any_default : (g : Graph) (u : ℕ) (d e : List ℕ) → u < length g → get_or g u d ≡ get_or g u e
any_default [] u d e within = absurd (omega (arith, within))
any_default (row ∷ g) zero d e within = refl
any_default (row ∷ g) (suc u) d e within = let below : u < length g = omega (arith, within) in any_default g u d e below

-- a row that is read is that of the neighbours
pub row_is : (g : Graph) (u : ℕ) (row read : List ℕ) → u < length g → row ≡ read → read ≡ get_or g u read → row ≡ neighbours g u
row_is g u row read within same is = same ∙ is ∙ any_default g u read [] within

pub leads_at : (g : Graph) (u i : ℕ) (row : List ℕ) → row ≡ neighbours g u → i < length row → Leads g u (get_or row i 0)
leads_at g u i row is within = (i, subst (λ r. i < length r) is within, ap (λ r. get_or r i 0) (sym is))

-- ---- the search over all nodes

pub mark_new : (n u : ℕ) → (mark_at (replicate n New) u ≡ New) ⊎ (n ≤ u)
mark_new zero u = inr (omega arith)
mark_new (suc n) zero = inl refl
mark_new (suc n) (suc u) = ⊎_elim (λ new. inl new) (λ past. inr (omega (arith, past))) (mark_new n u)

pub past_end : (g : Graph) (u : ℕ) → length g ≤ u → neighbours g u ≡ []
past_end [] u past = refl
past_end (row ∷ g) zero past = absurd (omega (arith, past))
past_end (row ∷ g) (suc u) past = let behind : length g ≤ u = omega (arith, past) in past_end g u behind

pub none_passed : (n u : ℕ) → passed_at (replicate n 0) u ≡ 0
none_passed zero u = refl
none_passed (suc n) zero = refl
none_passed (suc n) (suc u) = none_passed n u

-- at the begin nothing was looked at
pub begun : (g : Graph) (marks : List Mark) (next : List ℕ) → marks ≡ replicate (length g) New → next ≡ replicate (length g) 0 → IsSearch g marks next []
begun g marks next are nones = record {
  long = ap length are ∙ length-replicate (length g) New;
  nexts = ap length nones ∙ length-replicate (length g) 0;
  within = λ u. let none : passed_at next u ≡ 0 = ap (λ n. passed_at n u) nones ∙ none_passed (length g) u in subst (λ n. n ≤ length (neighbours g u)) (sym none) (omega arith);
  passed = λ u k below. let none : passed_at next u ≡ 0 = ap (λ n. passed_at n u) nones ∙ none_passed (length g) u in absurd (omega (arith, none, below));
  done = λ u h. ⊎_elim
      (λ (new : mark_at (replicate (length g) New) u ≡ New). absurd (new_done (sym new ∙ ap (λ m. mark_at m u) (sym are) ∙ h)))
      (λ (past : length g ≤ u). sure u (λ v leads. let below : leads.0 < length (neighbours g u) = leads.1 in let empty : length (neighbours g u) ≡ 0 = ap length (past_end g u past) in absurd (omega (arith, below, empty))))
      (mark_new (length g) u);
  opened = λ u h. ⊎_elim
      (λ (new : mark_at (replicate (length g) New) u ≡ New). absurd (new_open (sym new ∙ ap (λ m. mark_at m u) (sym are) ∙ h)))
      (λ (past : length g ≤ u). absurd (open_done (sym h ∙ ap (λ m. mark_at m u) are ∙ all_done (length g) u past)))
      (mark_new (length g) u);
  chained = tt;
  inside = λ u among. let below : among.0 < 0 = among.1 in absurd (omega arith);
}
  where
    all_done : (n u : ℕ) → n ≤ u → mark_at (replicate n New) u ≡ Done
    all_done zero u past = refl
    all_done (suc n) zero past = absurd (omega (arith, past))
    all_done (suc n) (suc u) past = let behind : n ≤ u = omega (arith, past) in all_done n u behind

-- one more node was looked at
pub next_seen : (before after : List Mark) (root : ℕ) → ((u : ℕ) → u < root → mark_at before u ≡ New → ⊥) → StaySeen before after → (mark_at after root ≡ New → ⊥)
    → (u : ℕ) → u < root + 1 → mark_at after u ≡ New → ⊥
next_seen before after root seen stay here u below h = ⊎_elim
    (λ (same : u ≡ root). here (subst (λ w. mark_at after w ≡ New) same h))
    (λ (other : u ≢ root). let less : u < root = grind (arith, below, other) in stay u (seen u less) h)
    (cases_eq u root)

-- where all were looked at, there is no cycle
pub no_cycle_at_all : (g : Graph) (marks : List Mark) (next : List ℕ) (n : ℕ) → IsSearch g marks next [] → ((u : ℕ) → u < n → mark_at marks u ≡ New → ⊥) → length g ≤ n → (u : ℕ) → IsOnCycle g u → ⊥
no_cycle_at_all g marks next n s seen all u cycle = clear g marks next u s (λ new. let inside : u < length marks = new_within marks u new in seen u (omega (arith, inside, s.long, all)) new) cycle
