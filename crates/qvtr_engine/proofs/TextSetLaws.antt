-- Texts in a set are looked up as in a list.
use Rattle.std.proofs.Common.{◌≡◌, ◌<◌, ◌+◌, ℕ, Bool, true, false, List, [], ◌∷◌, ◌++◌, refl, sym, ◌∙◌, ap, true≢false, length, take, drop, get_or}
use Rattle.std.specs.Prelude.{◌||◌, ◌&&◌, not}
use Rattle.std.specs.List.{list_any}
use Rattle.std.specs.Cmp.Lexicographic.{slice_cmp}
use Rattle.std.specs.Ordering.{nat_cmp, is_eq, match_ordering}
use Rattle.std.specs.declared.cmp.Ordering.{Ordering}
use Rattle.std.specs.declared.cmp.Ordering.TheVariants.{Less, Equal, Greater}
use Rattle.std.specs.BTreeMap.{is_at}
use Rattle.std.specs.BTreeSet.{insert_key}
use Rattle.std.proofs.lemmas.Bool.{and_parts, and_from, or_parts, false_from_ne_true, not-true}
use Rattle.std.proofs.lemmas.List.{take_more, take-append-drop, map-append}
use Rattle.std.proofs.lemmas.List.Folds.{list_any-append}
use Rattle.std.proofs.lemmas.Map.Text.{is_eq-slice_cmp}
use Rattle.std.specs.Cmp.{both_ways}
use denote.Ref.{Bor}
use Rattle.mof_metamodel.specs.Metamodels.{same_name}
use Rattle.qvtr_engine.specs.Names.{is_among, are_distinct}
use Rattle.qvtr_engine.proofs.ReadingLaws.{same_is, same_holds}
use Rattle.qvtr_engine.proofs.RequestLaws.{texts_in}

abbrev order : Bor (List ℕ) → Bor (List ℕ) → Ordering
order x y = slice_cmp nat_cmp x.now y.now

abbrev pub found : List ℕ → List (Bor (List ℕ)) → Bool
found text keys = list_any (is_at (λ k. slice_cmp nat_cmp text k.now)) keys

swapped : (a b c : Bool) → (a || (b || c)) ≡ (b || (a || c))
swapped true true c = refl
swapped true false c = refl
swapped false b c = refl

again : (b c : Bool) → (b || c) ≡ (b || (b || c))
again true c = refl
again false c = refl

same_turned : (xs ys : List ℕ) → same_name xs ys ≡ same_name ys xs
same_turned xs ys = both_ways _ _ (λ h. same_holds ys xs (sym (same_is xs ys h))) (λ h. same_holds xs ys (sym (same_is ys xs h)))

-- a text among the keys with one more
pub inserted : (keys : List (Bor (List ℕ))) (key : Bor (List ℕ)) (text : List ℕ) → found text (insert_key order keys key) ≡ (same_name text key.now || found text keys)
inserted [] key text = ap (λ b. b || false) (is_eq-slice_cmp text key.now)
inserted (x ∷ xs) key text =
    elim (order key x) as (λ o. order key x ≡ o
    → found text (match_ordering o (key ∷ x ∷ xs) (x ∷ xs) (x ∷ insert_key order xs key)) ≡ (same_name text key.now || found text (x ∷ xs))) [
      | Less ↦ λ is. ap (λ b. b || found text (x ∷ xs)) (is_eq-slice_cmp text key.now)
      | Equal ↦ λ is.
          let equal : same_name key.now x.now ≡ true = sym (is_eq-slice_cmp key.now x.now) ∙ ap is_eq is in
          let here : is_eq (slice_cmp nat_cmp text x.now) ≡ same_name text key.now = is_eq-slice_cmp text x.now ∙ ap (same_name text) (sym (same_is key.now x.now equal)) in
          ap (λ b. b || found text xs) here ∙ again (same_name text key.now) (found text xs) ∙ ap (λ b. same_name text key.now || (b || found text xs)) (sym here)
      | Greater ↦ λ is.
          ap (λ b. is_eq (slice_cmp nat_cmp text x.now) || b) (inserted xs key text)
          ∙ swapped (is_eq (slice_cmp nat_cmp text x.now)) (same_name text key.now) (found text xs)
    ] refl

-- one text more at the front
front_more : (texts : List (Bor (List ℕ))) (i : ℕ) (d : Bor (List ℕ)) → i < length texts → texts_in (take (i + 1) texts) ≡ texts_in (take i texts) ++ (get_or texts i d).now ∷ []
front_more texts i d l = ap texts_in (take_more texts i d l) ∙ map-append (λ t. t.now) (take i texts) (get_or texts i d ∷ [])

-- ---- distinct texts

pushed : (a b c d : Bool) → (not (a || (b || false)) && (not c && d)) ≡ (not (b || c) && (not a && d))
pushed true true c d = refl
pushed true false true d = refl
pushed true false false d = refl
pushed false true c d = refl
pushed false false true d = refl
pushed false false false d = refl

-- one more text behind the others
pub distinct_more : (xs : List (List ℕ)) (x : List ℕ) → are_distinct (xs ++ x ∷ []) ≡ (not (is_among xs x) && are_distinct xs)
distinct_more [] x = refl
distinct_more (y ∷ ys) x =
    (λ i. not (list_any-append (same_name y) ys (x ∷ []) i) && distinct_more ys x i)
    ∙ pushed (is_among ys y) (same_name y x) (is_among ys x) (are_distinct ys)
    ∙ ap (λ b. not (b || is_among ys x) && (not (is_among ys y) && are_distinct ys)) (same_turned y x)

still_distinct : (xs ys : List (List ℕ)) → are_distinct (xs ++ ys) ≡ true → are_distinct xs ≡ true
still_distinct [] ys h = refl
still_distinct (x ∷ xs) ys h =
    let p = and_parts _ _ h in
    let none = or_parts _ _ (sym (list_any-append (same_name x) xs ys) ∙ not-true _ p.0) in
    and_from _ _ (ap not none.0) (still_distinct xs ys p.1)

-- where texts aren't distinct, they aren't with more behind them
pub repeated_more : (xs ys : List (List ℕ)) → are_distinct xs ≡ false → are_distinct (xs ++ ys) ≡ false
repeated_more xs ys e = false_from_ne_true _ (λ h. true≢false (sym (still_distinct xs ys h) ∙ e))

-- ---- texts that are put into a set one after the other

-- one that isn't new
pub met_again : (texts : List (Bor (List ℕ))) (i : ℕ) (d : Bor (List ℕ)) (met : List ℕ → Bool) (is_new : Bool) → i < length texts
    → ((q : List ℕ) → met q ≡ is_among (texts_in (take i texts)) q) → is_new ≡ not (met (get_or texts i d).now) → is_new ≡ false
    → false ≡ are_distinct (texts_in texts)
met_again texts i d met is_new l among new old =
    let x = get_or texts i d in
    let before = texts_in (take i texts) in
    let again : not (is_among before x.now) ≡ false = ap not (sym (among x.now)) ∙ sym new ∙ old in
    let front : texts_in (take (i + 1) texts) ≡ before ++ x.now ∷ [] = front_more texts i d l in
    let repeated : are_distinct (texts_in (take (i + 1) texts)) ≡ false = ap are_distinct front ∙ distinct_more before x.now ∙ ap (λ b. b && are_distinct before) again in
    let whole : texts_in texts ≡ texts_in (take (i + 1) texts) ++ texts_in (drop (i + 1) texts) =
    ap texts_in (sym (take-append-drop (i + 1) texts)) ∙ map-append (λ t. t.now) (take (i + 1) texts) (drop (i + 1) texts) in
    sym (ap are_distinct whole ∙ repeated_more (texts_in (take (i + 1) texts)) (texts_in (drop (i + 1) texts)) repeated)

turned : (a b : Bool) → (a || b) ≡ (b || (a || false))
turned true true = refl
turned true false = refl
turned false true = refl
turned false false = refl

-- one that is
pub met_first : (texts : List (Bor (List ℕ))) (i : ℕ) (d : Bor (List ℕ)) (met then : List ℕ → Bool) (is_new : Bool) → i < length texts
    → ((q : List ℕ) → met q ≡ is_among (texts_in (take i texts)) q) → are_distinct (texts_in (take i texts)) ≡ true
    → is_new ≡ not (met (get_or texts i d).now) → is_new ≡ true → ((q : List ℕ) → then q ≡ (same_name q (get_or texts i d).now || met q))
    → ((q : List ℕ) → then q ≡ is_among (texts_in (take (i + 1) texts)) q) × (are_distinct (texts_in (take (i + 1) texts)) ≡ true)
met_first texts i d met then is_new l among distinct new first added =
    let x = get_or texts i d in
    let before = texts_in (take i texts) in
    let front : texts_in (take (i + 1) texts) ≡ before ++ x.now ∷ [] = front_more texts i d l in
    let other : not (is_among before x.now) ≡ true = ap not (sym (among x.now)) ∙ sym new ∙ first in (
      λ q. added q ∙ ap (λ b. same_name q x.now || b) (among q) ∙ turned (same_name q x.now) (is_among before q)
          ∙ sym (list_any-append (same_name q) before (x.now ∷ [])) ∙ sym (ap (λ ts. is_among ts q) front),
      ap are_distinct front ∙ distinct_more before x.now ∙ and_from _ _ other distinct,
    )
