-- What is known of a table of calls that have been walked.
use Rattle.std.specs.Prelude.{◌≡◌, ◌⊎◌, ℕ, Bool, true, false, List, [], ◌∷◌, ◌++◌, length, cond, Option, None, Some, Result, Ok, Err, OnOk, OnErr, slice_get, MatchOption}
use Rattle.std.specs.Cmp.{Equal-is}
use Rattle.std.specs.Map.{lookup}
use Rattle.std.specs.BTreeMap.{is_at}
use Rattle.std.proofs.Common.{refl, sym, ap, ◌∙◌, subst, inl, inr}
use Rattle.std.proofs.lemmas.Option.{same_Some, none-some}
use Rattle.entry_making.specs.declared.numbered_call.NumberedCall.{NumberedCall}
use Rattle.entry_walk.specs.declared.call_key.CallKey.{CallKey}
use Rattle.entry_walk.specs.declared.finished.Finished.{Finished}
use Rattle.entry_walk.specs.CallOrder.{key_order, same_key_equiv}
use Rattle.entry_walk.specs.FinishedTables.{IsFinishedAt, IsUnfinished, key_for, place_in, IsIndexed}
use Rattle.entry_walk.proofs.CallOrderLaws.{keys_exact}
use Rattle.entry_walk.proofs.PlaceLaws.{get_left, get_seam, get_push}

-- ---- a look-up

module _ (fs : List Finished) (places : List (CallKey × ℕ)) (indexed : IsIndexed fs places) where
  pub looked_up : (c : NumberedCall) (o : Option ℕ) → place_in places c ≡ o → MatchOption o (IsUnfinished fs c) (λ n. IsFinishedAt fs n c)
  looked_up c None is = λ n at. none-some n (sym is ∙ indexed.known c n at)
  looked_up c (Some n) is = indexed.found c n is

  pub none_found : (c : NumberedCall) → IsUnfinished fs c → place_in places c ≡ None
  none_found c none = by (place_in places c) refl
    where
      by : (o : Option ℕ) → place_in places c ≡ o → o ≡ None
      by None is = refl
      by (Some n) is = absurd (none n (indexed.found c n is))

  -- ---- one call more

  module _ (f : Finished) (after : List (CallKey × ℕ)) (absent : place_in places f.call ≡ None)
      (updated : (q : CallKey) → lookup (is_at (key_order q)) after ≡ cond (is_at (key_order (key_for f.call)) q) (Some (length fs)) (lookup (is_at (key_order q)) places)) where
    one_from : (c : NumberedCall) → is_at (key_order (key_for f.call)) (key_for c) ≡ true → f.call ≡ c
    one_from c h = ap (λ (k : CallKey). k.call) (keys_exact (key_for f.call) (key_for c) ((Equal-is (key_order (key_for f.call) (key_for c))).0 h))

    found_more : (c : NumberedCall) (n : ℕ) → place_in after c ≡ Some n → IsFinishedAt (fs ++ f ∷ []) n c
    found_more c n is = by (is_at (key_order (key_for f.call)) (key_for c)) refl (sym (updated (key_for c)) ∙ is)
      where
        by : (b : Bool) → is_at (key_order (key_for f.call)) (key_for c) ≡ b → cond b (Some (length fs)) (place_in places c) ≡ Some n → IsFinishedAt (fs ++ f ∷ []) n c
        by true h e = (f, ap (slice_get (fs ++ f ∷ [])) (sym (same_Some (length fs) n e)) ∙ get_seam fs [] f, one_from c h)
        by false h e = let old = indexed.found c n e in (old.0, get_left fs (f ∷ []) n old.0 old.1, old.2)

    known_more : (c : NumberedCall) (n : ℕ) → IsFinishedAt (fs ++ f ∷ []) n c → place_in after c ≡ Some n
    known_more c n (g, is, same) = updated (key_for c) ∙ by (get_push fs f n g is) (is_at (key_order (key_for f.call)) (key_for c)) refl
      where
        by : (slice_get fs n ≡ Some g) ⊎ ((n ≡ length fs) × (f ≡ g)) → (b : Bool) → is_at (key_order (key_for f.call)) (key_for c) ≡ b
            → cond b (Some (length fs)) (place_in places c) ≡ Some n
        by (inl old) true h = absurd (none-some n (sym absent ∙ indexed.known f.call n (g, old, same ∙ sym (one_from c h))))
        by (inl old) false h = indexed.known c n (g, old, same)
        by (inr (e, one)) true h = ap Some (sym e)
        by (inr (e, one)) false h =
            let tied : is_at (key_order (key_for f.call)) (key_for c) ≡ true =
            subst (λ x. is_at (key_order (key_for f.call)) (key_for x) ≡ true) (ap (λ (x : Finished). x.call) one ∙ same) (same_key_equiv.refl (key_for f.call)) in
            absurd (cc)

    pub indexed_more : IsIndexed (fs ++ f ∷ []) after
    indexed_more = record { found = found_more; known = known_more }

-- a table without calls
pub empty_index : (fs : List Finished) (places : List (CallKey × ℕ)) → fs ≡ [] → places ≡ [] → IsIndexed fs places
empty_index fs places p q = subst (λ xs. IsIndexed xs places) (sym p) (subst (IsIndexed []) (sym q) empty)
  where
    empty : IsIndexed [] []
    empty = record { found = λ c n is. absurd (none-some n is); known = λ c n is. absurd (none-some is.0 is.1) }

-- what is kept after a call was put behind the others, or wasn't for want of memory
pub kept_index : {E : Type 0} (fs : List Finished) (places : List (CallKey × ℕ)) (one : Finished) (r : Result ℕ E) (after : List Finished) (new : List (CallKey × ℕ)) → IsIndexed fs places
    → IsUnfinished fs one.call → OnOk r (after ≡ fs ++ one ∷ [])
    → OnOk r ((q : CallKey) → lookup (is_at (key_order q)) new ≡ cond (is_at (key_order (key_for one.call)) q) (Some (length fs)) (lookup (is_at (key_order q)) places))
    → OnErr r (after ≡ fs) → OnErr r (new ≡ places) → IsIndexed after new
kept_index fs places one (Ok n) after new indexed none put updated same_items same_places =
    subst (λ xs. IsIndexed xs new) (sym put) (indexed_more fs places indexed one new (none_found fs places indexed one.call none) updated)
kept_index fs places one (Err e) after new indexed none put updated same_items same_places =
    subst (λ xs. IsIndexed xs new) (sym same_items) (subst (IsIndexed fs) (sym same_places) indexed)
