-- One pass in an order in which what a value waits for comes first gives what rounds give.
use Rattle.std.specs.Prelude.{◌≡◌, ◌≢◌, ◌⊎◌, ◌<◌, ◌≤◌, ◌+◌, ◌++◌, ℕ, zero, suc, List, [], ◌∷◌, length, slice_index_or, slice_set, Contains}
use Rattle.std.proofs.Common.{refl, sym, ap, subst, ◌∙◌, arith, inl, inr, get_or-set_same, get_or-set_other, ext_get_or}
use Rattle.std.proofs.lemmas.Bool.{cases_eq}
use Rattle.std.proofs.lemmas.List.{length-set}
use Rattle.mof_metamodel.proofs.Facts.{nothing_in, contains_first}
use Rattle.entry_making.specs.Passes.{at, passed, IsStill, AreSteps}

-- an element of a list is its first one, or one of the others
pub first_or_later : {X : Type 0} (x y : X) (xs : List X) → Contains (y ∷ xs) x → (x ≡ y) ⊎ Contains xs x
first_or_later x y xs (zero, within, is) = inl (sym is)
first_or_later x y xs (suc k, within, is) = inr (k, omega (arith, within), is)

-- what is in a list is in a longer one
pub kept_later : {X : Type 0} (x y : X) (xs : List X) → Contains xs x → Contains (y ∷ xs) x
kept_later x y xs (k, within, is) = (suc k, omega (arith, within), is)

module _ {Y : Type 0} (none : Y) (count : ℕ) (next : ℕ → List Y → Y) (before : List Y) (WaitsFor : ℕ → ℕ → Type 0)
    (local : (v : ℕ) (x y : List Y) → v < count → length x ≡ count → length y ≡ count
    → ((w : ℕ) → w < count → WaitsFor v w → at none x w ≡ at none y w) → next v x ≡ next v y)
    (round : ℕ → List Y) (long : (n : ℕ) → length (round n) ≡ count) (begin : round 0 ≡ before)
    (again : (n v : ℕ) → v < count → at none (round (suc n)) v ≡ next v (round n)) where
  abbrev Still : ℕ → Type 0
  Still = IsStill none next before

  -- rounds leave a place that is still
  round_still : (n v : ℕ) → v < count → Still v → at none (round n) v ≡ at none before v
  round_still zero v below still = ap (λ x. at none x v) begin
  round_still (suc n) v below still = again n v below ∙ still (round n)

  -- after some places are done, all later rounds have their values, and places that are still have those from before
  record Agrees (done : List ℕ) (x : List Y) : Type 0 where
    length_is : length x ≡ count
    settled : (v : ℕ) → v < count → Contains done v → (n : ℕ) → length done ≤ n → at none (round n) v ≡ at none x v
    still : (v : ℕ) → v < count → Still v → at none x v ≡ at none before v

  -- the value at a place where another one was set, or that one
  set_at_place : (x : List Y) (v w : ℕ) (y z : Y) → length x ≡ count → v < count → (w ≡ v → y ≡ z) → (w ≢ v → at none x w ≡ z) → at none (slice_set x v y) w ≡ z
  set_at_place x v w y z long below same other = elim (cases_eq w v) [
    | inl is ↦ (let b : v < length x = omega (arith, long, below) in ap (λ u. at none (slice_set x v y) u) is ∙ get_or-set_same x v y none b ∙ same is)
    | inr ne ↦ get_or-set_other x v w y none ne ∙ other ne
  ]

  -- in a round in which all that a place waits for is settled it gets its value
  settled_next : (done : List ℕ) (x : List Y) (v : ℕ) → v < count → Agrees done x
      → ((w : ℕ) → w < count → WaitsFor v w → Contains done w ⊎ Still w)
      → (n : ℕ) → length done ≤ n → next v (round n) ≡ next v x
  settled_next done x v below agrees behind n enough =
      local v (round n) x below (long n) agrees.length_is (λ w w_below waits. elim (behind w w_below waits) [
        | inl there ↦ agrees.settled w w_below there n enough
        | inr still ↦ round_still n w w_below still ∙ sym (agrees.still w w_below still)
      ])

  stepped : (done : List ℕ) (x : List Y) (v : ℕ) → v < count → Agrees done x
      → ((w : ℕ) → w < count → WaitsFor v w → Contains done w ⊎ Still w) → Agrees (v ∷ done) (slice_set x v (next v x))
  stepped done x v below agrees behind = record {
    length_is = length-set x v (next v x) ∙ agrees.length_is;
    settled = λ w w_below there n enough. sym (set_at_place x v w (next v x) (at none (round n) w) agrees.length_is below
        (λ is. sym (subst (λ u. at none (round n) u ≡ next v x) (sym is) (own n enough)))
        (λ ne. sym (elim (first_or_later w v done there) [
          | inl same ↦ absurd (ne same)
          | inr rest ↦ (let e : length done ≤ n = omega (arith, enough) in agrees.settled w w_below rest n e)
        ])));
    still = λ w w_below still. set_at_place x v w (next v x) (at none before w) agrees.length_is below
        (λ is. subst (λ u. next v x ≡ at none before u) (sym is) (subst Still is still x))
        (λ ne. agrees.still w w_below still);
  }
    where
      own : (n : ℕ) → suc (length done) ≤ n → at none (round n) v ≡ next v x
      own zero enough = absurd (omega (arith, enough))
      own (suc n) enough = let e : length done ≤ n = omega (arith, enough) in again n v below ∙ settled_next done x v below agrees behind n e

  -- all that was done, in any order
  abbrev all_done : List ℕ → List ℕ → List ℕ
  all_done done [] = done
  all_done done (v ∷ vs) = all_done (v ∷ done) vs

  agrees_after : (done steps : List ℕ) (x : List Y) → AreSteps Still WaitsFor count done steps → Agrees done x → Agrees (all_done done steps) (passed next x steps)
  agrees_after done [] x are agrees = agrees
  agrees_after done (v ∷ vs) x are agrees = agrees_after (v ∷ done) vs (slice_set x v (next v x)) are.2 (stepped done x v are.0 agrees are.1)

  done_long : (done steps : List ℕ) → length (all_done done steps) ≡ length done + length steps
  done_long done [] = omega arith
  done_long done (v ∷ vs) = let h = done_long (v ∷ done) vs in omega (arith, h)

  done_kept : (done steps : List ℕ) (v : ℕ) → Contains done v → Contains (all_done done steps) v
  done_kept done [] v c = c
  done_kept done (w ∷ ws) v c = done_kept (w ∷ done) ws v (kept_later v w done c)

  done_all : (done steps : List ℕ) (v : ℕ) → Contains steps v → Contains (all_done done steps) v
  done_all done [] v c = absurd (nothing_in v c)
  done_all done (w ∷ ws) v c = elim (first_or_later v w ws c) [
    | inl same ↦ done_kept (w ∷ done) ws v (subst (Contains (w ∷ done)) (sym same) (contains_first w done))
    | inr later ↦ done_all (w ∷ done) ws v later
  ]

  -- As many rounds as places are looked at give what one pass over these gives, where each other place is still.
  pub one_pass : (steps : List ℕ) (rounds : ℕ) → AreSteps Still WaitsFor count [] steps → ((v : ℕ) → v < count → Contains steps v ⊎ Still v)
      → length steps ≤ rounds → passed next before steps ≡ round rounds
  one_pass steps rounds are all enough =
      let first : Agrees [] before = record {
        length_is = ap length (sym begin) ∙ long 0;
        settled = λ v below c. absurd (nothing_in v c);
        still = λ v below still. refl;
      } in
      let last : Agrees (all_done [] steps) (passed next before steps) = agrees_after [] steps before are first in
      let few : length (all_done [] steps) ≤ rounds = omega (arith, enough, done_long [] steps) in
      ext_get_or none (passed next before steps) (round rounds) (last.length_is ∙ sym (long rounds)) (λ v below.
      let b : v < count = omega (arith, below, last.length_is) in
      elim (all v b) [
        | inl there ↦ sym (last.settled v b (done_all [] steps v there) rounds few)
        | inr still ↦ last.still v b still ∙ sym (round_still rounds v b still)
      ])
