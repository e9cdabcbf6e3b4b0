-- What is left of terms within terms while they are written: each step writes of it what comes first.
use Rattle.std.proofs.Common.{◌≡◌, ℕ, suc, ◌<◌, List, [], ◌∷◌, ◌++◌, length, get_or, refl, sym, ap, ◌∙◌, subst, arith, append_assoc, append-nil, length-append, Option}
use Rattle.json.specs.Token.{Token}
use Rattle.trace_log.specs.declared.trace.TracePair.{TracePair}
use Rattle.trace_log.specs.TraceData.{pair_data}
use Rattle.trace_log.specs.TraceHeld.{IsHeldPair, AreHeldPairs}
use Rattle.trace_log.specs.TraceTokens.{data_tokens, pairs_tokens, pair_end, Keys, Left, keys_left, left_tokens, AreHeldKeys, AreAllHeld}

-- ---- one more term

pub left_push : (left : Left) (keys : Keys) → left_tokens (left ++ keys ∷ []) ≡ (pairs_tokens keys.now ++ pair_end) ++ left_tokens left
left_push [] keys = sym (append-nil (pairs_tokens keys.now ++ pair_end))
left_push (outer ∷ left) keys =
    ap (λ ts. ts ++ (pairs_tokens outer.now ++ pair_end)) (left_push left keys)
    ∙ append_assoc (pairs_tokens keys.now ++ pair_end) (left_tokens left) (pairs_tokens outer.now ++ pair_end)

pub held_push : (left : Left) (keys : Keys) → AreAllHeld (left ++ keys ∷ []) → AreHeldPairs keys.now × AreAllHeld left
held_push [] keys h = h
held_push (outer ∷ left) keys h = let rest = held_push left keys h.1 in (rest.0, (h.0, rest.1))

held_both : (left : Left) (keys : Keys) → AreHeldPairs keys.now → AreAllHeld left → AreAllHeld (left ++ keys ∷ [])
held_both [] keys h k = (h, k)
held_both (outer ∷ left) keys h k = (k.0, held_both left keys h k.1)

-- ---- pairs that are held

pub none_held : (ps : List TracePair) → length ps ≡ 0 → AreHeldPairs ps
none_held [] e = AreHeldPairs.none
none_held (p ∷ ps) e = absurd (omega arith)

-- each of them is
pub all_held : (ps : List TracePair) → ((k : ℕ) (p : TracePair) → k < length ps → IsHeldPair (get_or ps k p)) → AreHeldPairs ps
all_held [] h = AreHeldPairs.none
all_held (p ∷ ps) h = AreHeldPairs.first p ps (h 0 p (omega arith)) (all_held ps (λ k q l. h (suc k) q (omega arith)))

-- ---- a step, which takes the innermost term off, and puts on what is left of it and of a term within it

module _ (before popped after : Left) (keys : Keys) (is : before ≡ popped ++ keys ∷ []) where
  pub left_kept : (whole old new : List Token) → old ++ left_tokens before ≡ whole
      → new ++ left_tokens after ≡ old ++ ((pairs_tokens keys.now ++ pair_end) ++ left_tokens popped) → new ++ left_tokens after ≡ whole
  left_kept whole old new e f = f ∙ ap (λ ts. old ++ ts) (sym (ap left_tokens is ∙ left_push popped keys)) ∙ e

  pub left_falls : (old new : List Token) → new ++ left_tokens after ≡ old ++ ((pairs_tokens keys.now ++ pair_end) ++ left_tokens popped)
      → length old < length new → length (left_tokens after) < length (left_tokens before)
  left_falls old new e longer =
      let same : length (new ++ left_tokens after) ≡ length (old ++ left_tokens before) =
      ap length (left_kept (old ++ left_tokens before) old new refl e) in
      omega (arith, same, longer, length-append new (left_tokens after), length-append old (left_tokens before))

  pub held_kept : (AreAllHeld after → AreHeldPairs keys.now × AreAllHeld popped) → AreAllHeld after → AreAllHeld before
  held_kept h k = let both = h k in subst AreAllHeld (sym is) (held_both popped keys both.0 both.1)

-- the first of the pairs is written up to the pairs of its term
module _ (ps : List TracePair) (p : TracePair) (others : Keys) (popped more after : Left) (keys : Option Keys) (is : ps ≡ p ∷ others.now)
    (pushed : more ≡ popped ++ others ∷ []) where
  pub step_written : (old new : List Token) → left_tokens after ≡ keys_left pair_end keys ++ left_tokens more
      → new ++ keys_left pair_end keys ≡ old ++ data_tokens (pair_data p)
      → new ++ left_tokens after ≡ old ++ ((pairs_tokens ps ++ pair_end) ++ left_tokens popped)
  step_written old new e f =
      let first = data_tokens (pair_data p) in
      let rest = pairs_tokens others.now in
      let behind = left_tokens popped in
      let inner = keys_left pair_end keys in
      let left = left_tokens (popped ++ others ∷ []) in
      ap (λ ts. new ++ ts) (e ∙ ap (λ l. inner ++ left_tokens l) pushed) ∙ sym (append_assoc new inner left) ∙ ap (λ ts. ts ++ left) f
      ∙ ap (λ ts. (old ++ first) ++ ts) (left_push popped others) ∙ append_assoc old first ((rest ++ pair_end) ++ behind)
      ∙ ap (λ ts. old ++ ts) (sym (append_assoc first (rest ++ pair_end) behind) ∙ ap (λ ts. ts ++ behind) (sym (append_assoc first rest pair_end)))
      ∙ ap (λ qs. old ++ ((pairs_tokens qs ++ pair_end) ++ behind)) (sym is)

  pub step_held : (AreAllHeld after → AreHeldKeys keys × AreAllHeld more) → (AreHeldKeys keys → IsHeldPair p) → AreAllHeld after
      → AreHeldPairs ps × AreAllHeld popped
  step_held h k l =
      let both = h l in
      let rest = held_push popped others (subst AreAllHeld pushed both.1) in
      (subst AreHeldPairs (sym is) (AreHeldPairs.first p others.now (k both.0) rest.0), rest.1)
