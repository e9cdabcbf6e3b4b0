-- Segments of a path: taken off its end, put there, and kept.
use Rattle.std.proofs.Common.{Option, Some, None, Result, Ok, Err, take, ◌≡◌, ◌<◌, ◌≤◌, ◌+◌, ◌⊎◌, ◌-◌, ℕ, List, [], ◌∷◌, ◌++◌, length, get_or, refl, sym, ◌∙◌, ap, subst, ⊎_elim, inl, inr, arith}
use Rattle.std.specs.Prelude.{MatchOption, IfOk}
use Rattle.std.proofs.Math.Seq.{take-append_seam}
use Rattle.std.proofs.lemmas.List.{get_or_push, length_push}
use Rattle.call_graph.specs.declared.standing.Standing.{Standing}
use Rattle.call_graph.specs.declared.standing.Standing.TheVariants.{Open, Done}
use Rattle.call_graph.specs.declared.step.Step.{Step}
use Rattle.call_graph.specs.Graphs.{Graph}
use Rattle.call_graph.specs.Walks.{standing_at, node_at, calls_of, call_at, passed_at, Reaches, IsPast, IsSegment, AreSegments, begin}

pub begin_push : (before : List Step) (step : Step) (stop : ℕ) → begin (before ++ step ∷ []) stop ≡ begin before step.place
begin_push [] step stop = refl
begin_push (a ∷ before) step stop = refl

module _ (whens wheres : Graph) (standings : List Standing) (passed stack : List ℕ) where
  pub front_segments : (before : List Step) (step : Step) (stop : ℕ) → AreSegments whens wheres standings passed stack (before ++ step ∷ []) stop → AreSegments whens wheres standings passed stack before step.place
  front_segments [] step stop s = tt
  front_segments (a ∷ before) step stop s = (subst (IsSegment whens wheres standings passed stack a) (begin_push before step stop) s.0, front_segments before step stop s.1)

  pub last_segment : (before : List Step) (step : Step) (stop : ℕ) → AreSegments whens wheres standings passed stack (before ++ step ∷ []) stop → IsSegment whens wheres standings passed stack step stop
  last_segment [] step stop s = s.0
  last_segment (a ∷ before) step stop s = last_segment before step stop s.1

  pub segments_push : (before : List Step) (step : Step) (stop : ℕ) → AreSegments whens wheres standings passed stack before step.place → IsSegment whens wheres standings passed stack step stop
      → AreSegments whens wheres standings passed stack (before ++ step ∷ []) stop
  segments_push [] step stop s last = (last, tt)
  segments_push (a ∷ before) step stop s last = (subst (IsSegment whens wheres standings passed stack a) (sym (begin_push before step stop)) s.0, segments_push before step stop s.1 last)

  pub begin_within : (path : List Step) (stop : ℕ) → AreSegments whens wheres standings passed stack path stop → begin path stop ≤ stop
  begin_within [] stop s = omega arith
  begin_within (step ∷ path) stop s =
      let some : step.place < begin path stop = s.0.some in
      let rest : begin path stop ≤ stop = begin_within path stop s.1 in
      omega (arith, some, rest)

pub past_same : (before after : List Standing) (low v : ℕ) → standing_at after v ≡ standing_at before v → IsPast before low v → IsPast after low v
past_same before after low v same = ⊎_elim
    (λ (is : (stratum : ℕ) × (standing_at before v ≡ Done stratum)). inl (is.0, same ∙ is.1))
    (λ (is : (place : ℕ) × (standing_at before v ≡ Open place) × (low ≤ place)). inr (is.0, same ∙ is.1, is.2))

pub past_lower : (standings : List Standing) (low lower v : ℕ) → lower ≤ low → IsPast standings low v → IsPast standings lower v
past_lower standings low lower v less = ⊎_elim
    (λ (is : (stratum : ℕ) × (standing_at standings v ≡ Done stratum)). inl is)
    (λ (is : (place : ℕ) × (standing_at standings v ≡ Open place) × (low ≤ place)). let above : low ≤ is.0 = is.2 in inr (is.0, is.1, omega (arith, less, above)))

module _ (whens wheres : Graph) (standings after : List Standing) (passed more stack higher : List ℕ) where
  segment_kept : (step : Step) (stop : ℕ) → ((p : ℕ) → p < stop → node_at higher p ≡ node_at stack p) → ((p : ℕ) → p < stop → passed_at more (node_at stack p) ≡ passed_at passed (node_at stack p))
      → ((low v : ℕ) → IsPast standings low v → IsPast after low v) → IsSegment whens wheres standings passed stack step stop → IsSegment whens wheres after more higher step stop
  segment_kept step stop nodes counts past s = record {
    low = s.low;
    some = s.some;
    back = subst (λ x. Reaches whens wheres x (node_at higher step.low)) (sym first)
        (subst (λ y. Reaches whens wheres (node_at stack step.place) y) (sym (nodes step.low (let a = s.low in let b = s.some in omega (arith, a, b)))) s.back);
    head = λ p above below. subst (λ x. Reaches whens wheres x (node_at higher step.place)) (sym (nodes p below))
        (subst (λ y. Reaches whens wheres (node_at stack p) y) (sym first) (s.head p above below));
    all = λ p above below. subst (λ x. passed_at more x ≡ length (calls_of whens wheres x)) (sym (nodes p below)) (counts p below ∙ s.all p above below);
    past = λ p k above below less.
        let fewer : k < passed_at passed (node_at stack p) = subst (λ n. k < n) (ap (passed_at more) (nodes p below) ∙ counts p below) less in
        subst (λ x. IsPast after step.low (call_at whens wheres x k)) (sym (nodes p below)) (past step.low (call_at whens wheres (node_at stack p) k) (s.past p k above below fewer));
  }
    where
      first : node_at higher step.place ≡ node_at stack step.place
      first = nodes step.place s.some

  -- segments of nodes that stay, with as many calls passed, are kept where what was past stays so
  pub segments_kept : (path : List Step) (stop : ℕ) → ((p : ℕ) → p < stop → node_at higher p ≡ node_at stack p) → ((p : ℕ) → p < stop → passed_at more (node_at stack p) ≡ passed_at passed (node_at stack p))
      → ((low v : ℕ) → IsPast standings low v → IsPast after low v) → AreSegments whens wheres standings passed stack path stop → AreSegments whens wheres after more higher path stop
  segments_kept [] stop nodes counts past s = tt
  segments_kept (step ∷ path) stop nodes counts past s =
      let within : begin path stop ≤ stop = begin_within whens wheres standings passed stack path stop s.1 in (
        segment_kept step (begin path stop) (λ p below. nodes p (omega (arith, within, below))) (λ p below. counts p (omega (arith, within, below))) past s.0,
        segments_kept path stop nodes counts past s.1,
      )

-- a list is empty, or ends in something
pub ends : (path : List Step) → (path ≡ []) ⊎ ((before : List Step) × (step : Step) × (path ≡ before ++ step ∷ []))
ends [] = inl refl
ends (a ∷ path) = ⊎_elim
    (λ (none : path ≡ []). inr ([], a, ap (λ p. a ∷ p) none))
    (λ (some : (before : List Step) × (step : Step) × (path ≡ before ++ step ∷ [])). inr (a ∷ some.0, some.1, ap (λ p. a ∷ p) some.2))
    (ends path)

-- its last item behind the others
pub last_apart : (path : List Step) (d : Step) → 0 < length path → (before : List Step) × (path ≡ before ++ get_or path (length path - 1) d ∷ [])
last_apart path d more = ⊎_elim
    (λ (none : path ≡ []). let empty : length path ≡ 0 = ap length none in absurd (omega (arith, empty, more)))
    (λ (some : (before : List Step) × (step : Step) × (path ≡ before ++ step ∷ [])).
    let longer : length path ≡ length some.0 + 1 = ap length some.2 ∙ length_push some.0 some.1 in
    let here : length some.0 ≡ length path - 1 = omega (arith, longer) in
    let at : get_or path (length path - 1) d ≡ some.1 = ap (λ p. get_or p (length path - 1) d) some.2 ∙ get_or_push some.0 some.1 d (length path - 1) here in
    (some.0, some.2 ∙ ap (λ s. some.0 ++ s ∷ []) (sym at)))
    (ends path)

-- what a pop leaves
pub popped_step : (o : Option Step) (path rest before : List Step) (step : Step) → MatchOption o ((path ≡ []) × (rest ≡ [])) (λ last. path ≡ rest ++ last ∷ []) → path ≡ before ++ step ∷ [] → rest ≡ before
popped_step None path rest before step is ends_in =
    let empty : length path ≡ 0 = ap length is.0 in
    let longer : length path ≡ length before + 1 = ap length ends_in ∙ length_push before step in
    absurd (omega (arith, empty, longer))
popped_step (Some last) path rest before step is ends_in =
    let one : length path ≡ length rest + 1 = ap length is ∙ length_push rest last in
    let other : length path ≡ length before + 1 = ap length ends_in ∙ length_push before step in
    let same : length rest ≡ length before = omega (arith, one, other) in
    sym (take-append_seam rest (last ∷ [])) ∙ ap (take (length rest)) (sym is ∙ ends_in) ∙ ap (λ n. take n (before ++ step ∷ [])) same ∙ take-append_seam before (step ∷ [])

pub option_on : {X A B : Type 0} (P Q : X → Type 0) (o : Option X) → MatchOption o A P → (A → B) → ((x : X) → P x → Q x) → MatchOption o B Q
option_on P Q None a f g = f a
option_on P Q (Some x) p f g = g x p

pub ok_on : {X E A B : Type 0} (P : X → Type 0) (r : Result (Option X) E) → IfOk r (λ o. MatchOption o A P) → (A → B) → IfOk r (λ o. MatchOption o B P)
ok_on P (Ok o) h f = option_on P P o h f (λ x p. p)
ok_on P (Err e) h f = tt
