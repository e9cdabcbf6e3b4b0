-- For how many calls of queries that may still be made a value was found: what is right for some numbers of them is right for fewer.
use Rattle.std.proofs.Common.{◌≡◌, ℕ, suc, ◌+◌, ◌-◌, ◌≤◌, Bool, min, arith, List, [], ◌∷◌, refl, sym, ◌∙◌, ap, subst}
use Rattle.std.specs.Prelude.{All}
use Rattle.std.proofs.lemmas.List.Elements.{All-nil, All-cons, All-head, All-append}
use Rattle.std.proofs.Math.Nat.{min-le_left, min-le_right, le-min}
use Rattle.qvtr_semantics.specs.declared.out.Out.{Out}
use Rattle.qvtr_semantics.specs.Expressions.{Scope}
use Rattle.ocl_eval.specs.declared.world.World.{World}
use Rattle.ocl_eval.specs.declared.frame.Frame.TheVariants as frames
use Rattle.ocl_eval.specs.declared.frame.Caller.{Caller}
use Rattle.ocl_eval.specs.declared.frame.Stacked.{Stacked}
use Rattle.ocl_eval.specs.declared.frame.Stacked.TheVariants as stacked
use Rattle.ocl_eval.specs.declared.memo.Memo.{Memo}
use Rattle.ocl_eval.specs.declared.frame.Frame.{Frame}
use Rattle.ocl_eval.specs.Frames.{Cover, IsCovered, Standing, Wanted, returned, cover_below, returned_to, arrived_at, after, arrivals, stack_outcome, IsAnswer, IsRight, IsLed}
use Rattle.ocl_eval.specs.Worlds.{with_calls, queries_of}
use Rattle.ocl_eval.proofs.ListLaws.{all_parts}

-- a frame keeps the calls that are left
frame_cover : (w : World) (frame : Frame) (s : Standing) → (returned w frame s).cover ≡ s.cover
frame_cover w frames.Not s = refl
frame_cover w frames.Negated s = refl
frame_cover w (frames.If one other) s = refl
frame_cover w (frames.Let number body) s = refl
frame_cover w (frames.Body behind) s = refl
frame_cover w (frames.First rest) s = refl
frame_cover w (frames.Right operator x rest) s = refl
frame_cover w (frames.Calls calls) s = refl
frame_cover w (frames.List values rest of) s = refl
frame_cover w (frames.Element i progress) s = refl

-- of the calls that are left a frame looks at their number alone
module _ (n l1 x1 l2 x2 : ℕ) (e1 e2 : Bool) where
  abbrev first_cover : Cover
  first_cover = record { calls = n; left = l1; spare = x1; exhausted = e1 }

  abbrev second_cover : Cover
  second_cover = record { calls = n; left = l2; spare = x2; exhausted = e2 }

  abbrev AreAlike : Standing → Standing → Type 0
  AreAlike s t = (s.scope ≡ t.scope) × (s.out ≡ t.out)

  frame_alike : (w : World) (frame : Frame) (scope : Scope) (out : Out)
      → AreAlike (returned w frame (record { cover = first_cover; scope = scope; out = out })) (returned w frame (record { cover = second_cover; scope = scope; out = out }))
  frame_alike w frames.Not scope out = (refl, refl)
  frame_alike w frames.Negated scope out = (refl, refl)
  frame_alike w (frames.If one other) scope out = (refl, refl)
  frame_alike w (frames.Let number body) scope out = (refl, refl)
  frame_alike w (frames.Body behind) scope out = (refl, refl)
  frame_alike w (frames.First rest) scope out = (refl, refl)
  frame_alike w (frames.Right operator x rest) scope out = (refl, refl)
  frame_alike w (frames.Calls calls) scope out = (refl, refl)
  frame_alike w (frames.List values rest of) scope out = (refl, refl)
  frame_alike w (frames.Element i progress) scope out = (refl, refl)

-- the second says what the first says, for fewer numbers of calls
pub record IsNarrower (s t : Standing) : Type 0 where
  pub left : t.cover.left ≡ s.cover.left
  pub spare : t.cover.spare ≤ s.cover.spare
  pub covered : IsCovered t.cover → IsCovered s.cover
  pub calls : IsCovered t.cover → t.cover.calls ≡ s.cover.calls
  pub scope : IsCovered t.cover → t.scope ≡ s.scope
  pub out : IsCovered t.cover → t.out ≡ s.out

narrower_by_frame : (w : World) (frame : Frame) (s t : Standing) → IsNarrower s t → IsNarrower (returned w frame s) (returned w frame t)
narrower_by_frame w frame s t h =
    let given : IsCovered (returned w frame t).cover → IsCovered t.cover = subst IsCovered (frame_cover w frame t) in
    let alike : IsCovered t.cover → ((returned w frame t).scope ≡ (returned w frame s).scope) × ((returned w frame t).out ≡ (returned w frame s).out)
    = λ k.
    let as_first : t ≡ record { cover = record { calls = s.cover.calls; left = t.cover.left; spare = t.cover.spare; exhausted = t.cover.exhausted }; scope = s.scope; out = s.out }
    = ap (λ n. record { cover = record { calls = n; left = t.cover.left; spare = t.cover.spare; exhausted = t.cover.exhausted }; scope = t.scope; out = t.out }) (h.calls k)
    ∙ ap (λ x. record { cover = record { calls = s.cover.calls; left = t.cover.left; spare = t.cover.spare; exhausted = t.cover.exhausted }; scope = x; out = t.out }) (h.scope k)
    ∙ ap (λ x. record { cover = record { calls = s.cover.calls; left = t.cover.left; spare = t.cover.spare; exhausted = t.cover.exhausted }; scope = s.scope; out = x }) (h.out k) in
    let same = frame_alike s.cover.calls t.cover.left t.cover.spare s.cover.left s.cover.spare t.cover.exhausted s.cover.exhausted w frame s.scope s.out in
    (ap (λ x. (returned w frame x).scope) as_first ∙ same.0, ap (λ x. (returned w frame x).out) as_first ∙ same.1) in
    record {
      left = ap (λ c. c.left) (frame_cover w frame t) ∙ h.left ∙ sym (ap (λ c. c.left) (frame_cover w frame s));
      spare = subst (λ c. (returned w frame t).cover.spare ≤ c.spare) (sym (frame_cover w frame s)) (subst (λ c. c.spare ≤ s.cover.spare) (sym (frame_cover w frame t)) h.spare);
      covered = λ k. subst IsCovered (sym (frame_cover w frame s)) (h.covered (given k));
      calls = λ k. ap (λ c. c.calls) (frame_cover w frame t) ∙ h.calls (given k) ∙ sym (ap (λ c. c.calls) (frame_cover w frame s));
      scope = λ k. (alike (given k)).0;
      out = λ k. (alike (given k)).1;
    }

-- where a number of calls covers what stands below a caller, one fewer covers what stands above
covered_above : (caller : Caller) (c : Cover) → IsCovered (cover_below caller c) → IsCovered c
covered_above caller c k =
    let least = min-le_right caller.spare c.spare in
    record { enough = omega (arith, k.enough, least); all = λ e. omega (arith, k.all e) }

within_both : (l n a b : ℕ) → l ≤ n + a → l ≤ n + b → l ≤ n + min a b
within_both l n a b h k =
    let both : l - n ≤ min a b = le-min (omega (arith, h)) (omega (arith, k)) in
    omega (arith, both)

narrower_by_caller : (w : World) (caller : Caller) (s t : Standing) → IsNarrower s t → IsNarrower (returned_to w (stacked.Caller caller) s) (returned_to w (stacked.Caller caller) t)
narrower_by_caller w caller s t h =
    let least = min-le_right caller.spare t.cover.spare in
    let first = min-le_left caller.spare t.cover.spare in
    record {
      left = ap suc h.left;
      spare = le-min first (omega (arith, least, h.spare));
      covered = λ k.
          let above = covered_above caller t.cover k in
          let s_above = h.covered above in
          let same = h.calls above in
          record {
            enough = within_both (suc s.cover.left) (suc s.cover.calls) caller.spare s.cover.spare (omega (arith, k.enough, first, h.left, same)) (omega (arith, s_above.enough));
            all = λ e. omega (arith, s_above.all e);
          };
      calls = λ k. ap suc (h.calls (covered_above caller t.cover k));
      scope = λ k. refl;
      out = λ k. h.out (covered_above caller t.cover k);
    }

narrower_by : (w : World) (x : Stacked) (s t : Standing) → IsNarrower s t → IsNarrower (returned_to w x s) (returned_to w x t)
narrower_by w (stacked.Frame frame) s t h = narrower_by_frame w frame s t h
narrower_by w (stacked.Caller caller) s t h = narrower_by_caller w caller s t h

narrower_after : (w : World) (xs : List Stacked) (s t : Standing) → IsNarrower s t → IsNarrower (after w xs s) (after w xs t)
narrower_after w [] s t h = h
narrower_after w (x ∷ xs) s t h = narrower_by w x (after w xs s) (after w xs t) (narrower_after w xs s t h)

-- what is right stays right for fewer numbers of calls
narrower_answer : (w : World) (caller : Caller) (s t : Standing) → IsNarrower s t → IsAnswer w (record { caller = caller; standing = s }) → IsAnswer w (record { caller = caller; standing = t })
narrower_answer w caller s t h a =
    record {
      left = a.left ∙ sym (ap suc h.left);
      spare = omega (arith, h.spare, a.spare, h.left);
      value = λ k.
          h.out k ∙ a.value (h.covered k)
          ∙ sym (ap (λ n. queries_of (with_calls w (suc n)) caller.query t.scope) (h.calls k) ∙ ap (λ x. queries_of (with_calls w (suc s.cover.calls)) caller.query x) (h.scope k));
    }

narrower_arrived : (w : World) (x : Stacked) (s t : Standing) → IsNarrower s t → All (IsAnswer w) (arrived_at x s) → All (IsAnswer w) (arrived_at x t)
narrower_arrived w (stacked.Frame frame) s t h all = All-nil (IsAnswer w)
narrower_arrived w (stacked.Caller caller) s t h all =
    All-cons (IsAnswer w) (record { caller = caller; standing = t }) [] (narrower_answer w caller s t h (All-head (IsAnswer w) (record { caller = caller; standing = s }) [] all)) (All-nil (IsAnswer w))

narrower_arrivals : (w v : World) (xs : List Stacked) (s t : Standing) → IsNarrower s t → All (IsAnswer w) (arrivals v xs s) → All (IsAnswer w) (arrivals v xs t)
narrower_arrivals w v [] s t h all = All-nil (IsAnswer w)
narrower_arrivals w v (x ∷ xs) s t h all =
    let parts = all_parts (IsAnswer w) (arrivals v xs s) (arrived_at x (after v xs s)) all in
    All-append (IsAnswer w) (arrivals v xs t) (arrived_at x (after v xs t)) (narrower_arrivals w v xs s t h parts.0)
    (narrower_arrived w x (after v xs s) (after v xs t) (narrower_after v xs s t h) parts.1)

pub right_of_fewer : (w : World) (wanted : Wanted) (v : World) (memo : Memo) (xs : List Stacked) (s t : Standing) → IsNarrower s t
    → IsRight w wanted (stack_outcome v memo xs s) → IsRight w wanted (stack_outcome v memo xs t)
right_of_fewer w wanted v memo xs s t h right =
    let last = narrower_after v xs s t h in
    record {
      left = last.left ∙ right.left;
      scope = λ k. last.scope k ∙ right.scope (last.covered k);
      value = λ k same. last.out k ∙ right.value (last.covered k) (sym (last.calls k) ∙ same);
      arrivals = narrower_arrivals w v xs s t h right.arrivals;
    }

pub led_of_fewer : (w : World) (wanted : Wanted) (v : World) (memo : Memo) (xs : List Stacked) (s t : ℕ → Standing) → ((n : ℕ) → IsNarrower (s n) (t n))
    → IsLed w wanted (λ n. stack_outcome v memo xs (s n)) → IsLed w wanted (λ n. stack_outcome v memo xs (t n))
led_of_fewer w wanted v memo xs s t h led =
    record { world = led.world; memo = led.memo; right = λ n. right_of_fewer w wanted v memo xs (s n) (t n) (h n) (led.right n) }
