-- Calls of queries in an evaluation: with each of them it stays on its way to what is wanted.
use Rattle.std.proofs.Common.{◌≡◌, ◌≢◌, ℕ, suc, ◌-◌, ◌≤◌, true, false, true≢false, min, arith, List, [], ◌∷◌, ◌++◌, length, Some, refl, sym, ◌∙◌, ap, subst}
use Rattle.std.specs.Prelude.{slice_get}
use Rattle.std.specs.BTreeMap.{get}
use Rattle.std.proofs.lemmas.List.Elements.{All-cons, All-head, All-tail}
use Rattle.std.proofs.Math.Nat.{min-le_left, min-le_right}
use Rattle.qv_syntax.specs.declared.query.Query.{Query}
use Rattle.qvtr_semantics.specs.declared.out.Out.{Out}
use Rattle.qvtr_semantics.specs.declared.out.Out.TheVariants.{Invalid}
use Rattle.qvtr_semantics.specs.Expressions.{Scope}
use Rattle.ocl_eval.specs.declared.world.World.{World}
use Rattle.ocl_eval.specs.declared.frame.Caller.{Caller}
use Rattle.ocl_eval.specs.declared.frame.Stacked.{Stacked}
use Rattle.ocl_eval.specs.declared.frame.Stacked.TheVariants as stacked
use Rattle.ocl_eval.specs.declared.query_call.QueryCall.{QueryCall}
use Rattle.ocl_eval.specs.declared.memo.Memo.{Memo}
use Rattle.ocl_eval.specs.declared.memo.Remembered.{Remembered}
use Rattle.ocl_eval.specs.declared.machine.Machine.{Machine}
use Rattle.ocl_eval.specs.Frames.{IsCovered, Standing, Outcome, Wanted, returned_to, arrivals, stack_outcome, outcome_below, standing, outcome_of, IsAnswer, IsRight, IsLed}
use Rattle.ocl_eval.specs.Memos.{call_value, IsRemembered, IsTold}
use Rattle.ocl_eval.specs.QueryOrder.{call_order}
use Rattle.ocl_eval.specs.Worlds.{with_calls, queries_of, meaning_of}
use Rattle.ocl_eval.proofs.ScopeLaws.{no_calls, query_called}
use Rattle.ocl_eval.proofs.FrameLaws.{pushed}
use Rattle.ocl_eval.proofs.CoverLaws.{IsNarrower, right_of_fewer, led_of_fewer}

-- outcomes that are the same
pub led_by_outcomes : (w : World) (wanted : Wanted) (o p : ℕ → Outcome) → ((n : ℕ) → p n ≡ o n) → IsLed w wanted o → IsLed w wanted p
led_by_outcomes w wanted o p same led =
    record {
      world = λ n. ap (λ x. x.world) (same n) ∙ led.world n;
      memo = λ n. subst (λ x. IsTold w x.memo) (sym (same n)) (led.memo n);
      right = λ n. subst (IsRight w wanted) (sym (same n)) (led.right n);
    }

-- a value that is the call's for each number of calls
pub led_by_value : (m : Machine) (w : World) (wanted : Wanted) (x y : ℕ → Out) → ((n : ℕ) → y n ≡ x n)
    → IsLed w wanted (λ n. outcome_of m (standing n m (x n))) → IsLed w wanted (λ n. outcome_of m (standing n m (y n)))
led_by_value m w wanted x y same led =
    record { world = led.world; memo = led.memo; right = λ n. subst (λ out. IsRight w wanted (outcome_of m (standing n m out))) (sym (same n)) (led.right n) }

-- no calls are left
pub led_exhausted : (m : Machine) (call : QueryCall) (w : World) (wanted : Wanted) → m.world.calls ≡ 0
    → IsLed w wanted (λ n. outcome_of m (standing n m (call_value m.world n call)))
    → IsLed w wanted (λ n. stack_outcome (with_calls m.world 0) m.memo m.stack.items (record { cover = record { calls = n; left = m.world.calls; spare = 0; exhausted = true }; scope = m.scope; out = Invalid }))
led_exhausted m call w wanted none led =
    led_of_fewer w wanted (with_calls m.world 0) m.memo m.stack.items _ _
    (λ n. record {
      left = refl;
      spare = omega arith;
      covered = λ k. record { enough = omega (arith, none); all = λ e. k.all refl };
      calls = λ k. refl;
      scope = λ k. refl;
      out = λ k.
          let zero_calls : n ≡ 0 = omega (arith, none, k.all refl) in
          no_calls (with_calls m.world n) call.query call.args zero_calls;
    })
    led

-- a value that is remembered, where as many calls are left as it needs
pub led_by_memory : (m : Machine) (call : QueryCall) (kept : Remembered) (out : Out) (spare : ℕ) (w : World) (wanted : Wanted)
    → get call_order m.memo.values call ≡ Some kept → kept.least ≤ m.world.calls → out ≡ kept.out → spare ≡ min m.spare (m.world.calls - kept.least)
    → IsLed w wanted (λ n. outcome_of m (standing n m (call_value m.world n call)))
    → IsLed w wanted (λ n. stack_outcome (with_calls m.world 0) m.memo m.stack.items (record { cover = record { calls = n; left = m.world.calls; spare = spare; exhausted = m.exhausted }; scope = m.scope; out = out }))
led_by_memory m call kept out spare w wanted found needed same counted led =
    let first = min-le_left m.spare (m.world.calls - kept.least) in
    let second = min-le_right m.spare (m.world.calls - kept.least) in
    led_of_fewer w wanted (with_calls m.world 0) m.memo m.stack.items _ _
    (λ n. record {
      left = refl;
      spare = omega (arith, counted, first);
      covered = λ k. record { enough = omega (arith, k.enough, counted, first); all = k.all };
      calls = λ k. refl;
      scope = λ k. refl;
      out = λ k. same ∙ led.memo 0 call kept found n (omega (arith, k.enough, counted, second, needed)) ∙ sym (ap (λ u. call_value u n call) (led.world 0));
    })
    led

-- the body of a query, with its caller on top
pub led_in_body : (m : Machine) (call : QueryCall) (q : Query) (before scope : Scope) (xs : List Stacked) (w : World) (wanted : Wanted)
    → slice_get m.world.program.now.queries call.query ≡ Some q → m.world.calls ≢ 0 → before ≡ m.scope → scope ≡ call.args
    → xs ≡ m.stack.items ++ stacked.Caller (record { query = call.query; calls = m.world.calls; spare = m.spare; scope = before }) ∷ []
    → IsLed w wanted (λ n. outcome_of m (standing n m (call_value m.world n call)))
    → IsLed w wanted (λ n. stack_outcome (with_calls m.world 0) m.memo xs
    (record { cover = record { calls = n; left = m.world.calls - 1; spare = m.world.calls - 1; exhausted = m.exhausted }; scope = scope; out = meaning_of (with_calls m.world n) q.body scope }))
led_in_body m call q before scope xs w wanted found some same given on_top led = record { world = led.world; memo = led.memo; right = right }
  where
    v : World
    v = with_calls m.world 0

    caller : Caller
    caller = record { query = call.query; calls = m.world.calls; spare = m.spare; scope = before }

    here : ℕ → Standing
    here n = record { cover = record { calls = n; left = m.world.calls - 1; spare = m.world.calls - 1; exhausted = m.exhausted }; scope = scope; out = meaning_of (with_calls m.world n) q.body scope }

    some_left : suc (m.world.calls - 1) ≡ m.world.calls
    some_left = omega (arith, some)

    value : (n : ℕ) → (here n).out ≡ call_value m.world (suc n) call
    value n =
        let before_it : n ≡ suc n - 1 = omega arith in
        query_called (with_calls m.world (suc n)) (with_calls m.world n) call.query q call.args scope (here n).out found (λ e. absurd (omega (arith, e))) (ap (with_calls m.world) before_it) given refl

    narrower : (n : ℕ) → IsNarrower (standing (suc n) m (call_value m.world (suc n) call)) (returned_to v (stacked.Caller caller) (here n))
    narrower n =
        let first = min-le_left m.spare (m.world.calls - 1) in
        record {
          left = some_left;
          spare = first;
          covered = λ k. record { enough = omega (arith, k.enough, first, some); all = λ e. omega (arith, k.all e, some) };
          calls = λ k. refl;
          scope = λ k. same;
          out = λ k. value n;
        }

    answer : (n : ℕ) → IsAnswer w (record { caller = caller; standing = here n })
    answer n =
        record {
          left = sym some_left;
          spare = omega arith;
          value = λ k.
              value n ∙ ap (λ u. call_value u (suc n) call) (led.world 0)
              ∙ sym (ap (λ args. queries_of (with_calls w (suc n)) call.query args) given);
        }

    below : (n : ℕ) → IsRight w wanted (outcome_below v m.memo m.stack.items (stacked.Caller caller) (here n))
    below n =
        let behind = right_of_fewer w wanted v m.memo m.stack.items (standing (suc n) m (call_value m.world (suc n) call)) (returned_to v (stacked.Caller caller) (here n)) (narrower n) (led.right (suc n)) in
        record {
          left = behind.left;
          scope = behind.scope;
          value = behind.value;
          arrivals = All-cons (IsAnswer w) (record { caller = caller; standing = here n }) (arrivals v m.stack.items (returned_to v (stacked.Caller caller) (here n))) (answer n) behind.arrivals;
        }

    right : (n : ℕ) → IsRight w wanted (stack_outcome v m.memo xs (here n))
    right n =
        subst (IsRight w wanted) (sym (ap (λ l. stack_outcome v m.memo l (here n)) on_top ∙ pushed v m.memo m.stack.items (stacked.Caller caller) (here n))) (below n)

-- a caller that gets the value of its query
module _ (m : Machine) (caller : Caller) (out : Out) (w : World) (wanted : Wanted) (led : IsLed w wanted (λ n. outcome_below (with_calls m.world 0) m.memo m.stack.items (stacked.Caller caller) (standing n m out))) where
  answer_at : (n : ℕ) → IsAnswer w (record { caller = caller; standing = standing n m out })
  answer_at n =
      All-head (IsAnswer w) (record { caller = caller; standing = standing n m out }) (arrivals (with_calls m.world 0) m.stack.items (returned_to (with_calls m.world 0) (stacked.Caller caller) (standing n m out)))
      (led.right n).arrivals

  pub led_at_caller : (scope : Scope) (spare : ℕ) → scope ≡ caller.scope → spare ≡ min caller.spare m.spare
      → IsLed w wanted (λ n. stack_outcome (with_calls m.world 0) m.memo m.stack.items (record { cover = record { calls = n; left = caller.calls; spare = spare; exhausted = m.exhausted }; scope = scope; out = out }))
  led_at_caller scope spare same counted =
      let v = with_calls m.world 0 in
      let shape = answer_at 0 in
      let second = min-le_right caller.spare m.spare in
      led_of_fewer w wanted v m.memo m.stack.items (λ n. returned_to v (stacked.Caller caller) (standing (n - 1) m out)) _
      (λ n. record {
        left = shape.left;
        spare = omega (arith, counted);
        covered = λ k. record { enough = omega (arith, k.enough, counted, second, shape.left, shape.spare); all = λ e. omega (arith, k.all e, shape.left) };
        calls = λ k. omega (arith, k.enough, counted, second, shape.left, shape.spare);
        scope = λ k. same;
        out = λ k. refl;
      })
      (record {
        world = led.world;
        memo = led.memo;
        right = λ n.
            let above = led.right (n - 1) in
            record {
              left = above.left;
              scope = above.scope;
              value = above.value;
              arrivals = All-tail (IsAnswer w) (record { caller = caller; standing = standing (n - 1) m out }) (arrivals v m.stack.items (returned_to v (stacked.Caller caller) (standing (n - 1) m out))) above.arrivals;
            };
      })

  pub right_to_remember : (args : Scope) (least : ℕ) → args ≡ m.scope → least ≡ caller.calls - m.spare → m.exhausted ≡ false
      → IsRemembered w (record { query = caller.query; args = args }) (record { out = out; least = least })
  right_to_remember args least same counted free n many =
      let answer = answer_at (n - 1) in
      let one_more : suc (n - 1) ≡ n = omega (arith, many, counted, answer.left, answer.spare) in
      answer.value (record { enough = omega (arith, many, counted, answer.left, answer.spare); all = λ e. absurd (true≢false (sym e ∙ free)) })
      ∙ ap (λ k. queries_of (with_calls w k) caller.query m.scope) one_more
      ∙ sym (ap (λ a. queries_of (with_calls w n) caller.query a) same)

-- with what is right to remember
pub led_with_more : (v w : World) (wanted : Wanted) (old new : Memo) (xs : List Stacked) (s : ℕ → Standing)
    → IsLed w wanted (λ n. stack_outcome v old xs (s n)) → (IsTold w old → IsTold w new) → IsLed w wanted (λ n. stack_outcome v new xs (s n))
led_with_more v w wanted old new xs s led told =
    record {
      world = led.world;
      memo = λ n. told (led.memo n);
      right = λ n. record { left = (led.right n).left; scope = (led.right n).scope; value = (led.right n).value; arrivals = (led.right n).arrivals };
    }

-- nothing is left on the stack
none_stacked : (xs : List Stacked) → length xs ≡ 0 → xs ≡ []
none_stacked [] none = refl
none_stacked (x ∷ xs) none = absurd (omega (arith, none))

pub led_to_end : (m : Machine) (out : Out) (w : World) (wanted : Wanted) → length m.stack.items ≡ 0
    → IsLed w wanted (λ n. outcome_of m (standing n m out)) → (out ≡ wanted.out) × (m.scope ≡ wanted.scope)
led_to_end m out w wanted none led =
    let v = with_calls m.world 0 in
    let s = standing m.world.calls m out in
    let right : IsRight w wanted (stack_outcome v m.memo [] s) = subst (λ xs. IsRight w wanted (stack_outcome v m.memo xs s)) (none_stacked m.stack.items none) (led.right m.world.calls) in
    let covered : IsCovered s.cover = record { enough = omega arith; all = λ e. omega arith } in
    (right.value covered right.left, right.scope covered)
