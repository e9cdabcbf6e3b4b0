-- Where the matches of a call lie among keys in order, and what one more key adds.
use Rattle.std.specs.Prelude.{◌≡◌, ◌≢◌, ◌⊎◌, ℕ, zero, suc, Bool, true, false, ◌&&◌, ◌==◌, not, List, [], ◌∷◌, map, Contains, if◌then◌else◌}
use Rattle.std.specs.List.{filter, list_any}
use Rattle.std.specs.List.Sorted.{IsStrictlySortedBy}
use Rattle.std.specs.Ordering.{nat_cmp, ordering_then, ordering_reverse, match_ordering, is_lt, is_le, is_gt, is_eq}
use Rattle.std.specs.Cmp.{IsTotalOrder, nat_cmp_total}
use Rattle.std.specs.Cmp.Lexicographic.{slice_cmp, lists_total}
use Rattle.std.specs.FinMap.{nat_cmp-IsAntisymmetric, slice_cmp-IsAntisymmetric}
use Rattle.std.specs.BTreeSet.{insert_key}
use Rattle.std.specs.BTreeMap.Range.{range_contains}
use Rattle.std.specs.declared.cmp.Ordering.{Ordering}
use Rattle.std.specs.declared.cmp.Ordering.TheVariants.{Less, Equal, Greater}
use Rattle.std.specs.declared.ops.Bound.TheVariants.{Included}
use Rattle.std.proofs.Common.{refl, sym, ap, subst, ◌∙◌, inl, inr, arith, cond}
use Rattle.std.proofs.lemmas.Bool.{and_parts, true≢false, false≢true, eqb-true}
use Rattle.mof_metamodel.proofs.Facts.{nothing_in, contains_first, only_one}
use Rattle.template_match.proofs.ListLaws.{contains_later, all_at}
use Rattle.term_table.specs.declared.numbered.NumberedValue.{NumberedValue}
use Rattle.term_table.specs.declared.numbered.NumberedValue.TheVariants as numbered
use Rattle.term_table.specs.NumberOrder.{numbered_value_order, numbered_values_total}
use Rattle.term_table.proofs.NumberLaws.{values_exact, ties_are_one}
use Rattle.entry_bindings.specs.declared.argument.Argument.{Argument}
use Rattle.entry_bindings.specs.declared.argument.Argument.TheVariants as arguments
use Rattle.entry_bindings.specs.declared.matching.Match.{Match}
use Rattle.entry_bindings.specs.declared.match_key.Side.{Side}
use Rattle.entry_bindings.specs.declared.match_key.Side.TheVariants.{Before, Itself, Behind}
use Rattle.entry_bindings.specs.declared.match_key.MatchKey.{MatchKey}
use Rattle.entry_bindings.specs.Joins.{agrees, agree, is_match, matching}
use Rattle.entry_bindings.specs.MatchKeys.{root_order, root_total, side_number, key_order, key_total, is_open, root_of, key_of, first_side, last_side, match_of, matches_of, AreThemselves}
use Rattle.entry_bindings.proofs.ListLaws.{mapped_from}
use Rattle.entry_bindings.proofs.PairLaws.{AllLater}

self_equal : {X : Type 0} (R : X → X → Ordering) → IsTotalOrder R → (x : X) → R x x ≡ Equal
self_equal R total x = by (R x x) (total.antisymm x x)
  where
    by : (o : Ordering) → o ≡ ordering_reverse o → o ≡ Equal
    by Less h = absurd (false≢true (sym (ap is_lt h)))
    by Equal h = refl
    by Greater h = absurd (false≢true (ap is_lt h))

-- ---- the keys of a call

tie : (a : Argument) (y : NumberedValue) → agrees a y ≡ true → root_order (root_of a) y ≡ Equal
tie (arguments.Given x) y h = ap (root_order x) (sym ((ties_are_one x y).0 h)) ∙ self_equal root_order root_total x
tie (arguments.Open v) (numbered.Val d) h = absurd (true≢false (sym h))
tie (arguments.Open v) (numbered.Term n) h = refl

ties : (given : List Argument) (ys : List NumberedValue) → agree given ys ≡ true → slice_cmp root_order (map root_of given) ys ≡ Equal
ties [] [] h = refl
ties [] (y ∷ ys) h = absurd (true≢false (sym h))
ties (a ∷ given) [] h = absurd (true≢false (sym h))
ties (a ∷ given) (y ∷ ys) h =
    let parts = and_parts (agrees a y) (agree given ys) h in
    ap (λ o. ordering_then o (slice_cmp root_order (map root_of given) ys)) (tie a y parts.0) ∙ ties given ys parts.1

same_roots : (given : List Argument) (ys : List NumberedValue) → list_any is_open given ≡ false → agree given ys ≡ true → slice_cmp numbered_value_order (map root_of given) ys ≡ Equal
same_roots [] [] closed h = refl
same_roots [] (y ∷ ys) closed h = absurd (true≢false (sym h))
same_roots (a ∷ given) [] closed h = absurd (true≢false (sym h))
same_roots (arguments.Open v ∷ given) (y ∷ ys) closed h = absurd (true≢false closed)
same_roots (arguments.Given x ∷ given) (y ∷ ys) closed h =
    let parts = and_parts (agrees (arguments.Given x) y) (agree given ys) h in
    ap (λ o. ordering_then o (slice_cmp numbered_value_order (map root_of given) ys)) (ap (numbered_value_order x) (sym ((ties_are_one x y).0 parts.0)) ∙ self_equal numbered_value_order numbered_values_total x)
    ∙ same_roots given ys closed parts.1

-- how a place of a call stands to a key that it may mean
module _ (number : ℕ) (given : List Argument) (k : MatchKey) (itself : k.side ≡ Itself) (is : is_match number given k.found ≡ true) where
  abbrev parts : (k.found.rel == number ≡ true) × (agree given k.found.roots ≡ true)
  parts = and_parts (k.found.rel == number) (agree given k.found.roots) is

  abbrev rest : Ordering
  rest = slice_cmp numbered_value_order (map root_of given) k.found.roots

  order_is : (side : Side) → key_order (key_of number given side) k ≡ ordering_then (nat_cmp (side_number side) 1) rest
  order_is side =
      ap (λ o. ordering_then o (ordering_then (slice_cmp root_order (map root_of given) k.found.roots) (ordering_then (nat_cmp (side_number side) (side_number k.side)) rest)))
      (ap (nat_cmp number) (eqb-true k.found.rel number parts.0) ∙ self_equal nat_cmp nat_cmp_total number)
      ∙ ap (λ o. ordering_then o (ordering_then (nat_cmp (side_number side) (side_number k.side)) rest)) (ties given k.found.roots parts.1)
      ∙ ap (λ s. ordering_then (nat_cmp (side_number side) (side_number s)) rest) itself

  from_first : is_le (key_order (key_of number given (first_side given)) k) ≡ true
  from_first = by (list_any is_open given) refl
    where
      by : (x : Bool) → list_any is_open given ≡ x → is_le (key_order (key_of number given (if x then Before else Itself)) k) ≡ true
      by true any = ap is_le (order_is Before)
      by false none = ap is_le (order_is Itself ∙ same_roots given k.found.roots none parts.1)

  up_to_last : is_lt (key_order (key_of number given (last_side given)) k) ≡ false
  up_to_last = by (list_any is_open given) refl
    where
      by : (x : Bool) → list_any is_open given ≡ x → is_lt (key_order (key_of number given (if x then Behind else Itself)) k) ≡ false
      by true any = ap is_lt (order_is Behind)
      by false none = ap is_lt (order_is Itself ∙ same_roots given k.found.roots none parts.1)

  in_range : range_contains key_order (Included (key_of number given (first_side given))) (Included (key_of number given (last_side given))) k ≡ true
  in_range = ap (λ x. x && not (is_lt (key_order (key_of number given (last_side given)) k))) from_first ∙ ap (λ x. not x) up_to_last

-- the first place isn't behind the last
pub forward : (number : ℕ) (given : List Argument) → is_gt (key_order (key_of number given (first_side given)) (key_of number given (last_side given))) ≡ false
forward number given = by (list_any is_open given)
  where
    order_of : (one other : Side) → key_order (key_of number given one) (key_of number given other) ≡ ordering_then (nat_cmp (side_number one) (side_number other)) Equal
    order_of one other =
        let roots = map root_of given in
        ap (λ o. ordering_then o (ordering_then (slice_cmp root_order roots roots) (ordering_then (nat_cmp (side_number one) (side_number other)) (slice_cmp numbered_value_order roots roots))))
        (self_equal nat_cmp nat_cmp_total number)
        ∙ ap (λ o. ordering_then o (ordering_then (nat_cmp (side_number one) (side_number other)) (slice_cmp numbered_value_order roots roots))) (self_equal (slice_cmp root_order) (lists_total root_total) roots)
        ∙ ap (ordering_then (nat_cmp (side_number one) (side_number other))) (self_equal (slice_cmp numbered_value_order) (lists_total numbered_values_total) roots)

    by : (x : Bool) → is_gt (key_order (key_of number given (if x then Before else Itself)) (key_of number given (if x then Behind else Itself))) ≡ false
    by true = ap is_gt (order_of Before Behind)
    by false = ap is_gt (order_of Itself Itself)

-- a key lies between the places of a call
abbrev pub lies : ℕ → List Argument → MatchKey → Bool
lies number given = range_contains key_order (Included (key_of number given (first_side given))) (Included (key_of number given (last_side given)))

-- all matches of a call lie there
pub matching_range : (number : ℕ) (given : List Argument) (ks : List MatchKey) → AreThemselves ks
    → matching (matches_of (filter (lies number given) ks)) number given ≡ matching (matches_of ks) number given
matching_range number given [] all = refl
matching_range number given (k ∷ ks) all =
    by (lies number given k) refl
    (matching_range number given ks (λ i d less. all (suc i) d (omega (arith, less))))
  where
    outside : lies number given k ≡ false → (x : Bool) → is_match number given k.found ≡ x → x ≡ false
    outside out true is = absurd (true≢false (sym (in_range number given k (all zero k (omega arith)) is) ∙ out))
    outside out false is = refl

    by : (x : Bool) → lies number given k ≡ x → matching (matches_of (filter (lies number given) ks)) number given ≡ matching (matches_of ks) number given
        → matching (matches_of (cond x (k ∷ filter (lies number given) ks) (filter (lies number given) ks))) number given ≡ matching (matches_of (k ∷ ks)) number given
    by true within same = ap (λ ms. cond (is_match number given k.found) (k.found ∷ ms) ms) same
    by false out same = same ∙ sym (ap (λ y. cond y (k.found ∷ matching (matches_of ks) number given) (matching (matches_of ks) number given)) (outside out (is_match number given k.found) refl))

-- ---- one more key

then_equal : (o q : Ordering) → ordering_then o q ≡ Equal → (o ≡ Equal) × (q ≡ Equal)
then_equal Equal q h = (refl, h)
then_equal Less q h = absurd (false≢true (ap is_eq h))
then_equal Greater q h = absurd (false≢true (ap is_eq h))

-- keys that tie are of one match
same_found : (k l : MatchKey) → key_order k l ≡ Equal → k.found ≡ l.found
same_found k l h =
    let first = then_equal (nat_cmp k.found.rel l.found.rel) (ordering_then (slice_cmp root_order k.found.roots l.found.roots) (ordering_then (nat_cmp (side_number k.side) (side_number l.side)) (slice_cmp numbered_value_order k.found.roots l.found.roots))) h in
    let second = then_equal (slice_cmp root_order k.found.roots l.found.roots) (ordering_then (nat_cmp (side_number k.side) (side_number l.side)) (slice_cmp numbered_value_order k.found.roots l.found.roots)) first.1 in
    let third = then_equal (nat_cmp (side_number k.side) (side_number l.side)) (slice_cmp numbered_value_order k.found.roots l.found.roots) second.1 in
    let make : ℕ → List NumberedValue → Match = λ n rs. record { rel = n; roots = rs } in
    ap (λ n. make n k.found.roots) (nat_cmp-IsAntisymmetric k.found.rel l.found.rel first.0) ∙ ap (make l.found.rel) (slice_cmp-IsAntisymmetric values_exact k.found.roots l.found.roots third.1)

-- a match that is there then was there before, or is that of the key
pub inserted : (k : MatchKey) (ks : List MatchKey) (m : Match) → Contains (matches_of (insert_key key_order ks k)) m → Contains (matches_of ks) m ⊎ (k.found ≡ m)
inserted k [] m there = inr (only_one k.found m there)
inserted k (x ∷ xs) m there = by (key_order k x) refl (inserted k xs m) there
  where
    by : (o : Ordering) → key_order k x ≡ o → (Contains (matches_of (insert_key key_order xs k)) m → Contains (matches_of xs) m ⊎ (k.found ≡ m))
        → Contains (matches_of (match_ordering o (k ∷ x ∷ xs) (x ∷ xs) (x ∷ insert_key key_order xs k))) m → Contains (matches_of (x ∷ xs)) m ⊎ (k.found ≡ m)
    by Less is rest (zero, less, same) = inr same
    by Less is rest (suc i, less, same) = inl (i, omega (arith, less), same)
    by Equal is rest h = inl h
    by Greater is rest (zero, less, same) = inl (zero, omega arith, same)
    by Greater is rest (suc i, less, same) = later (rest (i, omega (arith, less), same))
      where
        later : Contains (matches_of xs) m ⊎ (k.found ≡ m) → Contains (matches_of (x ∷ xs)) m ⊎ (k.found ≡ m)
        later (inl h) = inl (contains_later m x.found (matches_of xs) h)
        later (inr h) = inr h

-- a match that was there stays
pub insert_keeps : (k : MatchKey) (ks : List MatchKey) (m : Match) → Contains (matches_of ks) m → Contains (matches_of (insert_key key_order ks k)) m
insert_keeps k [] m there = absurd (nothing_in m there)
insert_keeps k (x ∷ xs) m there = by (key_order k x) (λ h. insert_keeps k xs m h) there
  where
    by : (o : Ordering) → (Contains (matches_of xs) m → Contains (matches_of (insert_key key_order xs k)) m) → Contains (matches_of (x ∷ xs)) m
        → Contains (matches_of (match_ordering o (k ∷ x ∷ xs) (x ∷ xs) (x ∷ insert_key key_order xs k))) m
    by Less rest h = contains_later m k.found (matches_of (x ∷ xs)) h
    by Equal rest h = h
    by Greater rest (zero, less, same) = (zero, omega arith, same)
    by Greater rest (suc i, less, same) = contains_later m x.found (matches_of (insert_key key_order xs k)) (rest (i, omega (arith, less), same))

-- that of the key is there
pub insert_adds : (k : MatchKey) (ks : List MatchKey) → Contains (matches_of (insert_key key_order ks k)) k.found
insert_adds k [] = contains_first k.found []
insert_adds k (x ∷ xs) = by (key_order k x) refl (insert_adds k xs)
  where
    by : (o : Ordering) → key_order k x ≡ o → Contains (matches_of (insert_key key_order xs k)) k.found
        → Contains (matches_of (match_ordering o (k ∷ x ∷ xs) (x ∷ xs) (x ∷ insert_key key_order xs k))) k.found
    by Less is more = contains_first k.found (matches_of (x ∷ xs))
    by Equal is more = subst (Contains (matches_of (x ∷ xs))) (sym (same_found k x is)) (contains_first x.found (matches_of xs))
    by Greater is more = contains_later k.found x.found (matches_of (insert_key key_order xs k)) more

-- so each match that was there is there, and that of the key
pub has_inserted : (k : MatchKey) (ks : List MatchKey) (m : Match) → Contains (matches_of ks) m ⊎ (k.found ≡ m) → Contains (matches_of (insert_key key_order ks k)) m
has_inserted k ks m (inl there) = insert_keeps k ks m there
has_inserted k ks m (inr same) = subst (Contains (matches_of (insert_key key_order ks k))) same (insert_adds k ks)

-- ---- keys in order

-- no match has two keys
pub distinct_matches : (ks : List MatchKey) → IsStrictlySortedBy key_order ks → AreThemselves ks → AllLater (λ m n. m ≢ n) (matches_of ks)
unfolding IsStrictlySortedBy
distinct_matches [] sorted all = tt
distinct_matches (k ∷ ks) sorted all = (
  λ m there. let (l, within, is) = key_from ks m there in
      λ same. by l (all_at (λ (y : MatchKey). key_order k y ≡ Less) ks l sorted.0 within) (same ∙ sym is) (all zero k (omega arith)) (themselves l within),
  distinct_matches ks sorted.1 (λ i d less. all (suc i) d (omega (arith, less))),
)
  where
    key_from : (ls : List MatchKey) (m : Match) → Contains (matches_of ls) m → (l : MatchKey) × Contains ls l × (l.found ≡ m)
    key_from ls m there = mapped_from match_of ls m there

    themselves : (l : MatchKey) → Contains ks l → l.side ≡ Itself
    themselves l (i, less, is) = subst (λ (x : MatchKey). x.side ≡ Itself) is (all (suc i) l (omega (arith, less)))

    by : (l : MatchKey) → key_order k l ≡ Less → k.found ≡ l.found → k.side ≡ Itself → l.side ≡ Itself → ⊥
    by l less same one other =
        let make : Match → Side → MatchKey = λ m s. record { found = m; side = s } in
        let is : k ≡ l = ap (λ m. make m k.side) same ∙ ap (make l.found) (one ∙ sym other) in
        false≢true (sym (ap is_lt (self_equal key_order key_total k)) ∙ ap is_lt (ap (key_order k) is ∙ less))
