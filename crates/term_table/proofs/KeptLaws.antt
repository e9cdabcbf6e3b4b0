-- How what is kept of a table stands for its terms, and one term more.
use Rattle.std.specs.Prelude.{◌≡◌, ◌<◌, ◌≤◌, ◌+◌, ◌⊎◌, ℕ, zero, suc, Bool, true, false, List, [], ◌∷◌, ◌++◌, map, length, cond, Option, None, Some, Result, Ok, Err, OnOk, OnErr, slice_get, All}
use Rattle.std.specs.Cmp.{Equal-is}
use Rattle.std.specs.Map.{lookup}
use Rattle.std.specs.Option.{option_map_or}
use Rattle.std.specs.BTreeMap.{is_at}
use Rattle.std.proofs.Common.{refl, sym, ap, ◌∙◌, subst, arith, inl, inr, length-append}
use Rattle.std.proofs.Math.Seq.{get_or-append_seam}
use Rattle.std.proofs.lemmas.List.Elements.{All-head, All-tail, All-weaker}
use Rattle.std.proofs.lemmas.Option.{slice_get_within, same_Some, none-some}
use Rattle.mof_metamodel.specs.declared.desc.ClassId.{ClassId}
use Rattle.repair_semantics.specs.declared.term.Term.{Term, out-Term}
use Rattle.repair_semantics.specs.declared.term.TermValue.{TermValue}
use Rattle.repair_semantics.specs.declared.term.TermValue.TheVariants as values
use Rattle.repair_semantics.specs.Terms.{height, greatest}
use Rattle.repair_semantics.proofs.TermLaws.{height_of_value, height_is, height_of_datum, height_of_term}
use Rattle.term_table.specs.declared.numbered.NumberedValue.{NumberedValue}
use Rattle.term_table.specs.declared.numbered.NumberedValue.TheVariants as numbered
use Rattle.term_table.specs.declared.numbered.NumberedTerm.{NumberedTerm}
use Rattle.term_table.specs.declared.kept.Kept.{Kept}
use Rattle.term_table.specs.TermTables.{keyed, no_term, term_at, value_in, IsBelow, IsWithin, IsNumberOf, AreDistinct, IsGrown}
use Rattle.term_table.specs.NumberOrder.{numbered_term_order, same_numbered_term_equiv}
use Rattle.term_table.specs.Kept.{tree_in, trees_from, trees, kept_height, AreGrounded, AreLow, IsKeptAt, IsTable}
use Rattle.term_table.proofs.NumberLaws.{terms_exact}
use Rattle.term_table.proofs.TermTableLaws.{same_data, same_terms, datum_no_term, class_of_keyed, keys_of_keyed, grown-refl, grown-trans, term_grown, keys_grown, below_more, same_values}

-- ---- one element more

slice_get-left : {X : Type 0} (xs ys : List X) (n : ℕ) (x : X) → slice_get xs n ≡ Some x → slice_get (xs ++ ys) n ≡ Some x
slice_get-left [] ys n x h = absurd (none-some x h)
slice_get-left (z ∷ xs) ys zero x h = h
slice_get-left (z ∷ xs) ys (suc n) x h = slice_get-left xs ys n x h

slice_get-seam : {X : Type 0} (xs ys : List X) (y : X) → slice_get (xs ++ y ∷ ys) (length xs) ≡ Some y
slice_get-seam [] ys y = refl
slice_get-seam (x ∷ xs) ys y = slice_get-seam xs ys y

slice_get-push : {X : Type 0} (xs : List X) (y : X) (n : ℕ) (x : X) → slice_get (xs ++ y ∷ []) n ≡ Some x → (slice_get xs n ≡ Some x) ⊎ ((n ≡ length xs) × (y ≡ x))
slice_get-push [] y zero x h = inr (refl, same_Some y x h)
slice_get-push [] y (suc n) x h = absurd (none-some x h)
slice_get-push (z ∷ xs) y zero x h = inl h
slice_get-push (z ∷ xs) y (suc n) x h =
    elim (slice_get-push xs y n x h) [ inl there ↦ inl there | inr end ↦ inr (ap suc end.0, end.1) ]

-- ---- the trees of what is kept

pub length_trees_from : (ts : List Term) (ks : List Kept) → length (trees_from ts ks) ≡ length ts + length ks
length_trees_from ts [] = omega arith
length_trees_from ts (k ∷ ks) = omega (arith, length_trees_from (ts ++ tree_in ts k.term ∷ []) ks, length-append ts (tree_in ts k.term ∷ []))

pub length_trees : (ks : List Kept) → length (trees ks) ≡ length ks
length_trees ks = omega (arith, length_trees_from [] ks)

trees_grown : (ts : List Term) (ks : List Kept) → IsGrown ts (trees_from ts ks)
trees_grown ts [] = grown-refl ts
trees_grown ts (k ∷ ks) =
    let after : List Term = ts ++ tree_in ts k.term ∷ [] in
    grown-trans ts after (trees_from after ks) (tree_in ts k.term ∷ [], refl) (trees_grown after ks)

trees_push : (ts : List Term) (ks : List Kept) (k : Kept) → trees_from ts (ks ++ k ∷ []) ≡ trees_from ts ks ++ tree_in (trees_from ts ks) k.term ∷ []
trees_push ts [] k = refl
trees_push ts (j ∷ ks) k = trees_push (ts ++ tree_in ts j.term ∷ []) ks k

-- a term stands for the same in a table that grew
pub tree_grown : (a b : List Term) (t : NumberedTerm) → IsGrown a b → All (IsWithin a) t.keys → tree_in b t ≡ tree_in a t
tree_grown a b t g w = ap (keyed t.class) (keys_grown a b t.keys g w)

tree_at : (ts : List Term) (ks : List Kept) (i : ℕ) (k : Kept) → slice_get ks i ≡ Some k → All (IsBelow (length ts + i)) k.term.keys
    → term_at (trees_from ts ks) (length ts + i) ≡ tree_in (trees_from ts ks) k.term
tree_at ts [] i k is below = absurd (none-some k is)
tree_at ts (j ∷ ks) zero k is below =
    let tree : Term = tree_in ts j.term in
    let after : List Term = ts ++ tree ∷ [] in
    let one : j ≡ k = same_Some j k is in
    let grown : IsGrown after (trees_from after ks) = trees_grown after ks in
    let here : length ts + 0 ≡ length ts = omega arith in
    let within : All (IsWithin ts) k.term.keys = All-weaker (IsBelow (length ts + 0)) (IsWithin ts) (λ v w. below_more (length ts + 0) (length ts) v (omega arith) w) k.term.keys below in
    ap (term_at (trees_from after ks)) here
    ∙ term_grown after (trees_from after ks) (length ts) grown (omega (arith, length-append ts (tree ∷ [])))
    ∙ get_or-append_seam ts tree [] no_term
    ∙ ap (λ (x : Kept). tree_in ts x.term) one
    ∙ sym (tree_grown ts (trees_from after ks) k.term (grown-trans ts after (trees_from after ks) (tree ∷ [], refl) grown) within)
tree_at ts (j ∷ ks) (suc i) k is below =
    let after : List Term = ts ++ tree_in ts j.term ∷ [] in
    let next : length ts + suc i ≡ length after + i = omega (arith, length-append ts (tree_in ts j.term ∷ [])) in
    ap (term_at (trees_from after ks)) next
    ∙ tree_at after ks i k is (All-weaker (IsBelow (length ts + suc i)) (IsBelow (length after + i)) (λ v w. below_more (length ts + suc i) (length after + i) v (omega (arith, next)) w) k.term.keys below)

-- the term with a number is that of what is kept there
pub tree_is : (kept : List Kept) (n : ℕ) (k : Kept) → AreGrounded kept → slice_get kept n ≡ Some k → term_at (trees kept) n ≡ tree_in (trees kept) k.term
tree_is kept n k grounded is =
    let here : n ≡ 0 + n = omega arith in
    ap (term_at (trees kept)) here
    ∙ tree_at [] kept n k is (All-weaker (IsBelow n) (IsBelow (0 + n)) (λ v w. below_more n (0 + n) v (omega arith) w) k.term.keys (grounded n k is))

-- the key values of what is kept are the table's
pub keys_within : (kept : List Kept) (n : ℕ) (k : Kept) → AreGrounded kept → slice_get kept n ≡ Some k → All (IsWithin (trees kept)) k.term.keys
keys_within kept n k grounded is =
    All-weaker (IsBelow n) (IsWithin (trees kept)) (λ v w. below_more n (length (trees kept)) v (omega (arith, slice_get_within kept n k is, length_trees kept)) w) k.term.keys (grounded n k is)

-- what is kept at a number of the table
pub kept_there : (kept : List Kept) (n : ℕ) → n < length (trees kept) → (k : Kept) × (slice_get kept n ≡ Some k)
kept_there kept n l = at kept n (omega (arith, l, length_trees kept))
  where
    at : (ks : List Kept) (i : ℕ) → i < length ks → (k : Kept) × (slice_get ks i ≡ Some k)
    at [] i h = absurd (omega (arith, h))
    at (k ∷ ks) zero h = (k, refl)
    at (k ∷ ks) (suc i) h = at ks i (omega (arith, h))

-- ---- terms that are one have one number

same_keys : (P Q : NumberedValue → Type 0) (a : List Term) → ((v w : NumberedValue) → P v → Q w → value_in a v ≡ value_in a w → v ≡ w)
    → (vs ws : List NumberedValue) → All P vs → All Q ws → map (value_in a) vs ≡ map (value_in a) ws → vs ≡ ws
same_keys P Q a one [] [] p q h = refl
same_keys P Q a one [] (w ∷ ws) p q h = absurd (cc)
same_keys P Q a one (v ∷ vs) [] p q h = absurd (cc)
same_keys P Q a one (v ∷ vs) (w ∷ ws) p q h =
    let first : value_in a v ≡ value_in a w = cc in
    let rest : map (value_in a) vs ≡ map (value_in a) ws = cc in
    ap (λ x. x ∷ vs) (one v w (All-head P v vs p) (All-head Q w ws q) first)
    ∙ ap (λ xs. w ∷ xs) (same_keys P Q a one vs ws (All-tail P v vs p) (All-tail Q w ws q) rest)

same_numbered_terms : (P Q : NumberedValue → Type 0) (a : List Term) → ((v w : NumberedValue) → P v → Q w → value_in a v ≡ value_in a w → v ≡ w)
    → (t u : NumberedTerm) → All P t.keys → All Q u.keys → tree_in a t ≡ tree_in a u → t ≡ u
same_numbered_terms P Q a one t u p q h =
    let ts : List TermValue = map (value_in a) t.keys in
    let us : List TermValue = map (value_in a) u.keys in
    let class : t.class ≡ u.class = sym (class_of_keyed t.class ts) ∙ ap (λ x. (out-Term x).class) h ∙ class_of_keyed u.class us in
    let keys : ts ≡ us = sym (keys_of_keyed t.class ts) ∙ ap (λ x. (out-Term x).keys) h ∙ keys_of_keyed u.class us in
    let make : ClassId → List NumberedValue → NumberedTerm = λ c ks. record { class = c; keys = ks } in
    ap (λ c. make c t.keys) class ∙ ap (make u.class) (same_keys P Q a one t.keys u.keys p q keys)

one_number : (kept : List Kept) (entries : List (NumberedTerm × ℕ)) (m n : ℕ) (t : NumberedTerm) → IsTable kept entries → IsKeptAt kept m t → IsKeptAt kept n t → m ≡ n
one_number kept entries m n t table p q = same_Some m n (sym (table.known t m p) ∙ table.known t n q)

module _ (kept : List Kept) (entries : List (NumberedTerm × ℕ)) (table : IsTable kept entries) where
  below_distinct : (b i j : ℕ) → i < b → i < length (trees kept) → j < length (trees kept) → term_at (trees kept) i ≡ term_at (trees kept) j → i ≡ j
  below_distinct zero i j h p q is = absurd (omega (arith, h))
  below_distinct (suc b) i j h p q is =
      let one = kept_there kept i p in
      let other = kept_there kept j q in
      let tree : tree_in (trees kept) one.0.term ≡ tree_in (trees kept) other.0.term = sym (tree_is kept i one.0 table.grounded one.1) ∙ is ∙ tree_is kept j other.0 table.grounded other.1 in
      let same : one.0.term ≡ other.0.term =
      same_numbered_terms (IsBelow i) (IsWithin (trees kept)) (trees kept) (values_one (λ m n l. below_distinct b m n l)) one.0.term other.0.term (table.grounded i one.0 one.1) (keys_within kept j other.0 table.grounded other.1) tree in
      one_number kept entries i j other.0.term table (one.0, one.1, same) (other.0, other.1, refl)
    where
      values_one : ((m n : ℕ) → m < b → m < length (trees kept) → n < length (trees kept) → term_at (trees kept) m ≡ term_at (trees kept) n → m ≡ n)
          → (v w : NumberedValue) → IsBelow i v → IsWithin (trees kept) w → value_in (trees kept) v ≡ value_in (trees kept) w → v ≡ w
      values_one less (numbered.Val d) (numbered.Val e) x y e' = ap numbered.Val (same_data d e e')
      values_one less (numbered.Val d) (numbered.Term n) x y e' = absurd (datum_no_term d (term_at (trees kept) n) e')
      values_one less (numbered.Term m) (numbered.Val e) x y e' = absurd (datum_no_term e (term_at (trees kept) m) (sym e'))
      values_one less (numbered.Term m) (numbered.Term n) x y e' =
          ap numbered.Term (less m n (omega (arith, x, h)) (omega (arith, x, p)) y (same_terms (term_at (trees kept) m) (term_at (trees kept) n) e'))

  pub distinct : AreDistinct (trees kept)
  distinct i j p q is = below_distinct (suc i) i j (omega arith) p q is

  -- a term that is found has the number
  pub found_number : (t : NumberedTerm) (n : ℕ) → lookup (is_at (numbered_term_order t)) entries ≡ Some n → IsNumberOf (trees kept) n (tree_in (trees kept) t)
  found_number t n is =
      let k = table.found t n is in
      (omega (arith, slice_get_within kept n k.0 k.1, length_trees kept), tree_is kept n k.0 table.grounded k.1 ∙ ap (tree_in (trees kept)) k.2)

  -- one that isn't found has none
  pub missing_number : (t : NumberedTerm) → All (IsWithin (trees kept)) t.keys → lookup (is_at (numbered_term_order t)) entries ≡ None
      → (n : ℕ) → IsNumberOf (trees kept) n (tree_in (trees kept) t) → ⊥
  missing_number t within none n is =
      let k = kept_there kept n is.0 in
      let tree : tree_in (trees kept) k.0.term ≡ tree_in (trees kept) t = sym (tree_is kept n k.0 table.grounded k.1) ∙ is.1 in
      let same : k.0.term ≡ t =
      same_numbered_terms (IsWithin (trees kept)) (IsWithin (trees kept)) (trees kept) (λ v w p q h. same_values (trees kept) v w distinct p q h) k.0.term t
      (keys_within kept n k.0 table.grounded k.1) within tree in
      none-some n (sym none ∙ table.known t n (k.0, k.1, same))

  -- and one that has no number isn't found
  pub none_found : (t : NumberedTerm) → ((n : ℕ) → IsNumberOf (trees kept) n (tree_in (trees kept) t) → ⊥) → lookup (is_at (numbered_term_order t)) entries ≡ None
  none_found t none = by (lookup (is_at (numbered_term_order t)) entries) refl
    where
      by : (o : Option ℕ) → lookup (is_at (numbered_term_order t)) entries ≡ o → o ≡ None
      by None is = refl
      by (Some n) is = absurd (none n (found_number t n is))

  -- ---- heights

  pub height_kept : (n : ℕ) (k : Kept) → slice_get kept n ≡ Some k → k.height ≡ height (term_at (trees kept) n)
  height_kept = table.heights

  key_height_is : (v : NumberedValue) → IsWithin (trees kept) v → kept_height kept v ≡ height_of_value (value_in (trees kept) v)
  key_height_is (numbered.Val d) w = sym (ap height_of_value (sym (values.rolls-Val d)) ∙ height_of_datum d)
  key_height_is (numbered.Term n) w =
      let k = kept_there kept n w in
      ap (λ o. option_map_or (λ (x : Kept). x.height) o 0) k.1 ∙ table.heights n k.0 k.1
      ∙ sym (ap height_of_value (sym (values.rolls-Term (term_at (trees kept) n))) ∙ height_of_term (term_at (trees kept) n))

  key_heights_are : (vs : List NumberedValue) → All (IsWithin (trees kept)) vs → map (kept_height kept) vs ≡ map height_of_value (map (value_in (trees kept)) vs)
  key_heights_are [] w = refl
  key_heights_are (v ∷ vs) w =
      ap (λ x. x ∷ map (kept_height kept) vs) (key_height_is v (All-head (IsWithin (trees kept)) v vs w))
      ∙ ap (λ xs. height_of_value (value_in (trees kept) v) ∷ xs) (key_heights_are vs (All-tail (IsWithin (trees kept)) v vs w))

  pub height_over : (t : NumberedTerm) → All (IsWithin (trees kept)) t.keys → suc (greatest (map (kept_height kept) t.keys)) ≡ height (tree_in (trees kept) t)
  height_over t w = ap (λ hs. suc (greatest hs)) (key_heights_are t.keys w) ∙ sym (height_is t.class (map (value_in (trees kept)) t.keys))

-- the height of a key value is at most the number of terms
pub key_low : (kept : List Kept) (v : NumberedValue) → AreLow kept → kept_height kept v ≤ length kept
key_low kept (numbered.Val d) low = omega arith
key_low kept (numbered.Term n) low = by (slice_get kept n) refl
  where
    by : (o : Option Kept) → slice_get kept n ≡ o → option_map_or (λ (x : Kept). x.height) o 0 ≤ length kept
    by None is = omega arith
    by (Some k) is = omega (arith, low n k is, slice_get_within kept n k is)

pub keys_low : (kept : List Kept) (vs : List NumberedValue) → AreLow kept → greatest (map (kept_height kept) vs) ≤ length kept
keys_low kept [] low = omega arith
keys_low kept (v ∷ vs) low = omega (arith, key_low kept v low, keys_low kept vs low)

-- ---- one term more

module _ (kept : List Kept) (entries : List (NumberedTerm × ℕ)) (table : IsTable kept entries) (k : Kept) (within : All (IsWithin (trees kept)) k.term.keys)
    (high : k.height ≡ suc (greatest (map (kept_height kept) k.term.keys))) where
  -- the table has the term behind the others
  pub trees_more : trees (kept ++ k ∷ []) ≡ trees kept ++ tree_in (trees kept) k.term ∷ []
  trees_more = trees_push [] kept k

  grown_more : IsGrown (trees kept) (trees (kept ++ k ∷ []))
  grown_more = (tree_in (trees kept) k.term ∷ [], trees_more)

  here : (n : ℕ) → n ≡ length kept → term_at (trees (kept ++ k ∷ [])) n ≡ tree_in (trees kept) k.term
  here n is =
      ap (term_at (trees (kept ++ k ∷ []))) (is ∙ sym (length_trees kept)) ∙ ap (λ ts. term_at ts (length (trees kept))) trees_more
      ∙ get_or-append_seam (trees kept) (tree_in (trees kept) k.term) [] no_term

  there : (n : ℕ) (j : Kept) → slice_get kept n ≡ Some j → term_at (trees (kept ++ k ∷ [])) n ≡ term_at (trees kept) n
  there n j is = term_grown (trees kept) (trees (kept ++ k ∷ [])) n grown_more (omega (arith, slice_get_within kept n j is, length_trees kept))

  grounded_more : AreGrounded (kept ++ k ∷ [])
  grounded_more n j is = by (slice_get-push kept k n j is)
    where
      by : (slice_get kept n ≡ Some j) ⊎ ((n ≡ length kept) × (k ≡ j)) → All (IsBelow n) j.term.keys
      by (inl old) = table.grounded n j old
      by (inr (e, one)) =
          subst (λ (x : Kept). All (IsBelow n) x.term.keys) one
          (All-weaker (IsWithin (trees kept)) (IsBelow n) (λ v w. below_more (length (trees kept)) n v (omega (arith, e, length_trees kept)) w) k.term.keys within)

  heights_more : (n : ℕ) (j : Kept) → slice_get (kept ++ k ∷ []) n ≡ Some j → j.height ≡ height (term_at (trees (kept ++ k ∷ [])) n)
  heights_more n j is = by (slice_get-push kept k n j is)
    where
      by : (slice_get kept n ≡ Some j) ⊎ ((n ≡ length kept) × (k ≡ j)) → j.height ≡ height (term_at (trees (kept ++ k ∷ [])) n)
      by (inl old) = table.heights n j old ∙ ap height (sym (there n j old))
      by (inr (e, one)) = ap (λ (x : Kept). x.height) (sym one) ∙ high ∙ height_over kept entries table k.term within ∙ ap height (sym (here n e))

  low_more : AreLow (kept ++ k ∷ [])
  low_more n j is = by (slice_get-push kept k n j is)
    where
      by : (slice_get kept n ≡ Some j) ⊎ ((n ≡ length kept) × (k ≡ j)) → j.height ≤ n + 1
      by (inl old) = table.low n j old
      by (inr (e, one)) = omega (arith, e, ap (λ (x : Kept). x.height) one, high, keys_low kept k.term.keys table.low)

  module _ (after : List (NumberedTerm × ℕ)) (absent : lookup (is_at (numbered_term_order k.term)) entries ≡ None)
      (updated : (q : NumberedTerm) → lookup (is_at (numbered_term_order q)) after ≡ cond (is_at (numbered_term_order k.term) q) (Some (length kept)) (lookup (is_at (numbered_term_order q)) entries)) where
    itself : is_at (numbered_term_order k.term) k.term ≡ true
    itself = same_numbered_term_equiv.refl k.term

    one_from : (q : NumberedTerm) → is_at (numbered_term_order k.term) q ≡ true → k.term ≡ q
    one_from q h = terms_exact k.term q ((Equal-is (numbered_term_order k.term q)).0 h)

    found_more : (q : NumberedTerm) (n : ℕ) → lookup (is_at (numbered_term_order q)) after ≡ Some n → IsKeptAt (kept ++ k ∷ []) n q
    found_more q n is = by (is_at (numbered_term_order k.term) q) refl (sym (updated q) ∙ is)
      where
        by : (b : Bool) → is_at (numbered_term_order k.term) q ≡ b → cond b (Some (length kept)) (lookup (is_at (numbered_term_order q)) entries) ≡ Some n → IsKeptAt (kept ++ k ∷ []) n q
        by true h e = (k, ap (slice_get (kept ++ k ∷ [])) (sym (same_Some (length kept) n e)) ∙ slice_get-seam kept [] k, one_from q h)
        by false h e = let old = table.found q n e in (old.0, slice_get-left kept (k ∷ []) n old.0 old.1, old.2)

    known_more : (q : NumberedTerm) (n : ℕ) → IsKeptAt (kept ++ k ∷ []) n q → lookup (is_at (numbered_term_order q)) after ≡ Some n
    known_more q n (j, is, same) = updated q ∙ by (slice_get-push kept k n j is) (is_at (numbered_term_order k.term) q) refl
      where
        by : (slice_get kept n ≡ Some j) ⊎ ((n ≡ length kept) × (k ≡ j)) → (b : Bool) → is_at (numbered_term_order k.term) q ≡ b
            → cond b (Some (length kept)) (lookup (is_at (numbered_term_order q)) entries) ≡ Some n
        by (inl old) true h = absurd (none-some n (sym absent ∙ table.known k.term n (j, old, same ∙ sym (one_from q h))))
        by (inl old) false h = table.known q n (j, old, same)
        by (inr (e, one)) true h = ap (λ i. Some i) (sym e)
        by (inr (e, one)) false h =
            let tied : is_at (numbered_term_order k.term) q ≡ true = subst (λ x. is_at (numbered_term_order k.term) x ≡ true) (ap (λ (x : Kept). x.term) one ∙ same) itself in
            absurd (cc)

    pub table_more : IsTable (kept ++ k ∷ []) after
    table_more = record { grounded = grounded_more; heights = heights_more; low = low_more; found = found_more; known = known_more }

-- a table without terms
pub empty_table : (kept : List Kept) (entries : List (NumberedTerm × ℕ)) → kept ≡ [] → entries ≡ [] → IsTable kept entries
empty_table kept entries p q = subst (λ xs. IsTable xs entries) (sym p) (subst (λ es. IsTable [] es) (sym q) empty)
  where
    empty : IsTable [] []
    empty = record {
      grounded = λ n k is. absurd (none-some k is);
      heights = λ n k is. absurd (none-some k is);
      low = λ n k is. absurd (none-some k is);
      found = λ t n is. absurd (none-some n is);
      known = λ t n is. absurd (none-some is.0 is.1);
    }

-- ---- what is kept after a term was put behind the others, or wasn't for want of memory

module _ {E : Type 0} (kept : List Kept) (entries : List (NumberedTerm × ℕ)) (one : Kept) (t : NumberedTerm) (is : one.term ≡ t) where
  pub kept_terms : (r : Result ℕ E) (after : List Kept) → OnOk r (after ≡ kept ++ one ∷ []) → OnOk r (trees after ≡ trees kept ++ tree_in (trees kept) t ∷ [])
  kept_terms (Ok n) after put = ap trees put ∙ trees_push [] kept one ∙ ap (λ x. trees kept ++ tree_in (trees kept) x ∷ []) is
  kept_terms (Err e) after put = tt

  pub kept_table : (r : Result ℕ E) (after : List Kept) (numbers : List (NumberedTerm × ℕ)) → IsTable kept entries → All (IsWithin (trees kept)) t.keys
      → one.height ≡ suc (greatest (map (kept_height kept) t.keys)) → ((n : ℕ) → IsNumberOf (trees kept) n (tree_in (trees kept) t) → ⊥) → OnOk r (after ≡ kept ++ one ∷ [])
      → OnOk r ((q : NumberedTerm) → lookup (is_at (numbered_term_order q)) numbers ≡ cond (is_at (numbered_term_order t) q) (Some (length kept)) (lookup (is_at (numbered_term_order q)) entries))
      → OnErr r (after ≡ kept) → OnErr r (numbers ≡ entries) → IsTable after numbers
  kept_table (Ok n) after numbers table within high none put updated same_kept same_numbers =
      subst (λ ks. IsTable ks numbers) (sym put)
      (table_more kept entries table one (subst (λ x. All (IsWithin (trees kept)) x.keys) (sym is) within) (high ∙ ap (λ x. suc (greatest (map (kept_height kept) x.keys))) (sym is)) numbers
      (ap (λ x. lookup (is_at (numbered_term_order x)) entries) is ∙ none_found kept entries table t none)
      (λ q. updated q ∙ ap (λ x. cond (is_at (numbered_term_order x) q) (Some (length kept)) (lookup (is_at (numbered_term_order q)) entries)) (sym is)))
  kept_table (Err e) after numbers table within high none put updated same_kept same_numbers =
      subst (λ ks. IsTable ks numbers) (sym same_kept) (subst (IsTable kept) (sym same_numbers) table)
