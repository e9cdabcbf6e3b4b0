-- What a comparison by first key values that differ says is the order of terms.
use Rattle.std.specs.Prelude.{◌≡◌, ◌<◌, ◌≤◌, ◌+◌, ◌==◌, ℕ, zero, suc, Bool, true, false, List, [], ◌∷◌, map, length, cond, Option, None, Some, slice_get, All, nat_lt}
use Rattle.std.specs.Cmp.{Equal-is}
use Rattle.std.specs.Option.{option_map_or}
use Rattle.std.specs.Cmp.Lexicographic.{slice_cmp}
use Rattle.std.specs.Ordering.{nat_cmp, ordering_then, is_eq}
use Rattle.std.specs.declared.cmp.Ordering.{Ordering}
use Rattle.std.specs.declared.cmp.Ordering.TheVariants.{Less, Equal, Greater}
use Rattle.std.proofs.Common.{refl, sym, ap, ◌∙◌, arith, get_or, drop, add-one}
use Rattle.std.proofs.Math.ListN.{get_or-eq_default}
use Rattle.std.proofs.Math.Seq.{drop-nil}
use Rattle.std.proofs.lemmas.Bool.{eqb-true, eq-eqb}
use Rattle.std.proofs.lemmas.Bool.Decides.{nat_tests}
use Rattle.std.proofs.lemmas.List.Elements.{All-head, All-tail, All-nil}
use Rattle.std.proofs.lemmas.Option.{same_Some, none-some}
use Rattle.mof_metamodel.specs.declared.desc.ClassId.{ClassId}
use Rattle.qvtr_semantics.specs.declared.datum.Datum.{Datum}
use Rattle.repair_semantics.specs.declared.term.Term.{Term, out-roll-Term}
use Rattle.repair_semantics.specs.declared.term.TermValue.{TermValue, out-TermValue}
use Rattle.repair_semantics.specs.declared.term.TermValue.TheOpen as of
use Rattle.repair_semantics.specs.declared.term.TermValue.TheVariants as values
use Rattle.repair_semantics.specs.Terms.{ValueOrder, TermOrder, keys_against, datum_against, term_against, term_order, value_order}
use Rattle.repair_semantics.proofs.TermLaws.{order_is, order_of_datum, order_of_term}
use Rattle.repair_semantics.proofs.TieLaws.{ties_are_one}
use Rattle.term_table.specs.declared.numbered.NumberedValue.{NumberedValue}
use Rattle.term_table.specs.declared.numbered.NumberedValue.TheVariants as numbered
use Rattle.term_table.specs.declared.kept.Kept.{Kept}
use Rattle.term_table.specs.declared.comparing.Compared.{Compared}
use Rattle.term_table.specs.declared.comparing.Compared.TheVariants.{Decided, As}
use Rattle.term_table.specs.TermTables.{keyed, no_term, term_at, value_in, IsBelow, IsWithin, AreDistinct}
use Rattle.term_table.specs.Kept.{trees, AreGrounded}
use Rattle.term_table.specs.Compared.{numbers_compared, values_compared, is_tie, compared_then, keys_compared, class_at, keys_at, terms_compared, order_in}
use Rattle.term_table.proofs.TermTableLaws.{out_datum, out_term}
use Rattle.term_table.proofs.KeptLaws.{tree_is, keys_within, length_trees}

-- ---- terms that tie

pub tie_itself : (t : Term) → term_order t t ≡ Equal
tie_itself t = (Equal-is (term_order t t)).0 ((ties_are_one t t).1 refl)

pub tied_is : (t u : Term) → term_order t u ≡ Equal → t ≡ u
tied_is t u h = (ties_are_one t u).0 (ap is_eq h)

-- ---- two values

pub order_data : (d : Datum) (w : TermValue) → value_order (values.Val d) w ≡ datum_against d (out-TermValue w)
order_data d w = ap (λ x. value_order x w) (sym (values.rolls-Val d)) ∙ ap (λ (f : ValueOrder). f w) (order_of_datum d)

pub order_terms : (t : Term) (w : TermValue) → value_order (values.Term t) w ≡ term_against (term_order t) (out-TermValue w)
order_terms t w = ap (λ x. value_order x w) (sym (values.rolls-Term t)) ∙ ap (λ (f : ValueOrder). f w) (order_of_term t)

numbers_law : (terms : List Term) (m n : ℕ) → order_in terms (numbers_compared m n) ≡ term_order (term_at terms m) (term_at terms n)
numbers_law terms m n = by (m == n) refl
  where
    by : (b : Bool) → (m == n) ≡ b → order_in terms (cond b (Decided Equal) (As m n)) ≡ term_order (term_at terms m) (term_at terms n)
    by true h = sym (ap (λ k. term_order (term_at terms m) (term_at terms k)) (sym (eqb-true m n h)) ∙ tie_itself (term_at terms m))
    by false h = refl

pub values_law : (terms : List Term) (v w : NumberedValue) → order_in terms (values_compared v w) ≡ value_order (value_in terms v) (value_in terms w)
values_law terms (numbered.Val d) (numbered.Val e) = sym (order_data d (values.Val e) ∙ ap (datum_against d) (out_datum e))
values_law terms (numbered.Val d) (numbered.Term n) = sym (order_data d (values.Term (term_at terms n)) ∙ ap (datum_against d) (out_term (term_at terms n)))
values_law terms (numbered.Term m) (numbered.Val e) = sym (order_terms (term_at terms m) (values.Val e) ∙ ap (term_against (term_order (term_at terms m))) (out_datum e))
values_law terms (numbered.Term m) (numbered.Term n) =
    numbers_law terms m n
    ∙ sym (order_terms (term_at terms m) (values.Term (term_at terms n)) ∙ ap (term_against (term_order (term_at terms m))) (out_term (term_at terms n)))

-- values of a table that tie are decided by themselves
decided : (terms : List Term) (v w : NumberedValue) → AreDistinct terms → IsWithin terms v → IsWithin terms w → order_in terms (values_compared v w) ≡ Equal → values_compared v w ≡ Decided Equal
decided terms (numbered.Val d) (numbered.Val e) apart p q h = ap Decided h
decided terms (numbered.Val d) (numbered.Term n) apart p q h = absurd (cc)
decided terms (numbered.Term m) (numbered.Val e) apart p q h = absurd (cc)
decided terms (numbered.Term m) (numbered.Term n) apart p q h =
    let tie : term_order (term_at terms m) (term_at terms n) ≡ Equal = sym (numbers_law terms m n) ∙ h in
    let one : m ≡ n = apart m n p q (tied_is (term_at terms m) (term_at terms n) tie) in
    ap (λ b. cond b (Decided Equal) (As m n)) (eq-eqb m n one)

-- ---- key values

then_law : (terms : List Term) (c rest : Compared) → (order_in terms c ≡ Equal → c ≡ Decided Equal) → order_in terms (compared_then c rest) ≡ ordering_then (order_in terms c) (order_in terms rest)
then_law terms (Decided Less) rest h = refl
then_law terms (Decided Equal) rest h = refl
then_law terms (Decided Greater) rest h = refl
then_law terms (As m n) rest h = by (term_order (term_at terms m) (term_at terms n)) h
  where
    by : (o : Ordering) → (o ≡ Equal → As m n ≡ Decided Equal) → o ≡ ordering_then o (order_in terms rest)
    by Less k = refl
    by Equal k = let wrong : As m n ≡ Decided Equal = k refl in absurd (cc)
    by Greater k = refl

decided_then : (terms : List Term) (o : Ordering) (rest : Compared) → order_in terms (compared_then (Decided o) rest) ≡ ordering_then o (order_in terms rest)
decided_then terms Less rest = refl
decided_then terms Equal rest = refl
decided_then terms Greater rest = refl

pub keys_law : (terms : List Term) (vs ws : List NumberedValue) → AreDistinct terms → All (IsWithin terms) vs → All (IsWithin terms) ws
    → order_in terms (keys_compared vs ws) ≡ keys_against (map value_order (map (value_in terms) vs)) (map (value_in terms) ws)
keys_law terms [] [] apart p q = refl
keys_law terms [] (w ∷ ws) apart p q = refl
keys_law terms (v ∷ vs) [] apart p q = refl
keys_law terms (v ∷ vs) (w ∷ ws) apart p q =
    then_law terms (values_compared v w) (keys_compared vs ws) (decided terms v w apart (All-head (IsWithin terms) v vs p) (All-head (IsWithin terms) w ws q))
    ∙ ap (λ o. ordering_then o (order_in terms (keys_compared vs ws))) (values_law terms v w)
    ∙ ap (ordering_then (value_order (value_in terms v) (value_in terms w))) (keys_law terms vs ws apart (All-tail (IsWithin terms) v vs p) (All-tail (IsWithin terms) w ws q))

-- ---- terms

order_keyed : (c d : ClassId) (ks ls : List TermValue) → term_order (keyed c ks) (keyed d ls) ≡ ordering_then (nat_cmp c.0 d.0) (keys_against (map value_order ks) ls)
order_keyed c d ks ls =
    ap (λ (f : TermOrder). f (keyed d ls)) (order_is c ks)
    ∙ ap (λ (o : of.Term-F TermValue Term). ordering_then (nat_cmp c.0 o.class.0) (keys_against (map value_order ks) o.keys)) (out-roll-Term (record { class = d; keys = ls }))

-- a term is that of its class and its key values, also one outside
parts_are : (kept : List Kept) (n : ℕ) → AreGrounded kept → term_at (trees kept) n ≡ keyed (record { 0 = class_at kept n }) (map (value_in (trees kept)) (keys_at kept n))
parts_are kept n grounded = by (slice_get kept n) refl
  where
    past : (ks : List Kept) (i : ℕ) → slice_get ks i ≡ None → length ks ≤ i
    past [] i h = omega arith
    past (k ∷ ks) zero h = absurd (none-some k (sym h))
    past (k ∷ ks) (suc i) h = omega (arith, past ks i h)

    by : (o : Option Kept) → slice_get kept n ≡ o → term_at (trees kept) n ≡ keyed (record { 0 = option_map_or (λ (k : Kept). k.term.class.0) o 0 }) (map (value_in (trees kept)) (option_map_or (λ (k : Kept). k.term.keys) o []))
    by None is = get_or-eq_default (trees kept) no_term (omega (arith, past kept n is, length_trees kept))
    by (Some k) is = tree_is kept n k grounded is

keys_at_within : (kept : List Kept) (n : ℕ) → AreGrounded kept → All (IsWithin (trees kept)) (keys_at kept n)
keys_at_within kept n grounded = by (slice_get kept n) refl
  where
    by : (o : Option Kept) → slice_get kept n ≡ o → All (IsWithin (trees kept)) (option_map_or (λ (k : Kept). k.term.keys) o [])
    by None is = All-nil (IsWithin (trees kept))
    by (Some k) is = keys_within kept n k grounded is

keys_at_below : (kept : List Kept) (n : ℕ) → AreGrounded kept → All (IsBelow n) (keys_at kept n)
keys_at_below kept n grounded = by (slice_get kept n) refl
  where
    by : (o : Option Kept) → slice_get kept n ≡ o → All (IsBelow n) (option_map_or (λ (k : Kept). k.term.keys) o [])
    by None is = All-nil (IsBelow n)
    by (Some k) is = grounded n k is

pub terms_law : (kept : List Kept) (m n : ℕ) → AreGrounded kept → AreDistinct (trees kept) → order_in (trees kept) (terms_compared kept m n) ≡ term_order (term_at (trees kept) m) (term_at (trees kept) n)
terms_law kept m n grounded apart =
    let terms : List Term = trees kept in
    decided_then terms (nat_cmp (class_at kept m) (class_at kept n)) (keys_compared (keys_at kept m) (keys_at kept n))
    ∙ ap (ordering_then (nat_cmp (class_at kept m) (class_at kept n))) (keys_law terms (keys_at kept m) (keys_at kept n) apart (keys_at_within kept m grounded) (keys_at_within kept n grounded))
    ∙ sym (order_keyed (record { 0 = class_at kept m }) (record { 0 = class_at kept n }) (map (value_in terms) (keys_at kept m)) (map (value_in terms) (keys_at kept n)))
    ∙ sym (ap (λ t. term_order t (term_at terms n)) (parts_are kept m grounded) ∙ ap (term_order (keyed (record { 0 = class_at kept m }) (map (value_in terms) (keys_at kept m)))) (parts_are kept n grounded))

-- where others decide, the first of them has a lesser number
then_smaller : (bound a b : ℕ) (c rest : Compared) → (c ≡ As a b → a < bound) → (rest ≡ As a b → a < bound) → compared_then c rest ≡ As a b → a < bound
then_smaller bound a b (Decided Less) rest p q h = absurd (cc)
then_smaller bound a b (Decided Equal) rest p q h = q h
then_smaller bound a b (Decided Greater) rest p q h = absurd (cc)
then_smaller bound a b (As m n) rest p q h = p h

value_smaller : (bound a b : ℕ) (v w : NumberedValue) → IsBelow bound v → values_compared v w ≡ As a b → a < bound
value_smaller bound a b (numbered.Val d) (numbered.Val e) l h = absurd (cc)
value_smaller bound a b (numbered.Val d) (numbered.Term n) l h = absurd (cc)
value_smaller bound a b (numbered.Term m) (numbered.Val e) l h = absurd (cc)
value_smaller bound a b (numbered.Term m) (numbered.Term n) l h = by (m == n) h
  where
    by : (x : Bool) → cond x (Decided Equal) (As m n) ≡ As a b → a < bound
    by true k = absurd (cc)
    by false k = let one : m ≡ a = cc in omega (arith, one, l)

keys_smaller : (bound a b : ℕ) (vs ws : List NumberedValue) → All (IsBelow bound) vs → keys_compared vs ws ≡ As a b → a < bound
keys_smaller bound a b [] [] l h = absurd (cc)
keys_smaller bound a b [] (w ∷ ws) l h = absurd (cc)
keys_smaller bound a b (v ∷ vs) [] l h = absurd (cc)
keys_smaller bound a b (v ∷ vs) (w ∷ ws) l h =
    then_smaller bound a b (values_compared v w) (keys_compared vs ws) (value_smaller bound a b v w (All-head (IsBelow bound) v vs l)) (keys_smaller bound a b vs ws (All-tail (IsBelow bound) v vs l)) h

pub terms_smaller : (kept : List Kept) (m n a b : ℕ) → AreGrounded kept → terms_compared kept m n ≡ As a b → a < m
terms_smaller kept m n a b grounded h =
    then_smaller m a b (Decided (nat_cmp (class_at kept m) (class_at kept n))) (keys_compared (keys_at kept m) (keys_at kept n)) (λ e. absurd (cc))
    (keys_smaller m a b (keys_at kept m) (keys_at kept n) (keys_at_below kept m grounded)) h

-- ---- a loop over key values

pub keys_step : (vs ws : List NumberedValue) (i : ℕ) (v w : NumberedValue) → i < length vs → v ≡ get_or vs i v → slice_get ws i ≡ Some w
    → keys_compared (drop i vs) (drop i ws) ≡ compared_then (values_compared v w) (keys_compared (drop (i + 1) vs) (drop (i + 1) ws))
keys_step vs ws i v w l at is = from vs ws i l at is ∙ ap (λ k. compared_then (values_compared v w) (keys_compared (drop k vs) (drop k ws))) (sym (add-one i))
  where
    from : (xs ys : List NumberedValue) (k : ℕ) → k < length xs → v ≡ get_or xs k v → slice_get ys k ≡ Some w
        → keys_compared (drop k xs) (drop k ys) ≡ compared_then (values_compared v w) (keys_compared (drop (suc k) xs) (drop (suc k) ys))
    from [] ys k below here there = absurd (omega (arith, below))
    from (x ∷ xs) [] k below here there = absurd (none-some w there)
    from (x ∷ xs) (y ∷ ys) zero below here there = ap (λ z. compared_then (values_compared z y) (keys_compared xs ys)) (sym here) ∙ ap (λ z. compared_then (values_compared v z) (keys_compared xs ys)) (same_Some y w there)
    from (x ∷ xs) (y ∷ ys) (suc k) below here there = from xs ys k (omega (arith, below)) here there

pub keys_past : (vs ws : List NumberedValue) (i : ℕ) → i < length vs → slice_get ws i ≡ None → keys_compared (drop i vs) (drop i ws) ≡ Decided Greater
keys_past [] ws i l is = absurd (omega (arith, l))
keys_past (v ∷ vs) [] zero l is = refl
keys_past (v ∷ vs) [] (suc i) l is = ap (keys_compared (drop i vs)) (sym (drop-nil i)) ∙ keys_past vs [] i (omega (arith, l)) refl
keys_past (v ∷ vs) (w ∷ ws) zero l is = absurd (none-some w (sym is))
keys_past (v ∷ vs) (w ∷ ws) (suc i) l is = keys_past vs ws i (omega (arith, l)) is

-- tests of lengths
zero_less : (n : ℕ) → nat_lt 0 (suc n) ≡ true
zero_less n = grind (arith, nat_tests)

none_less : (m : ℕ) → nat_lt m 0 ≡ nat_lt (suc m) 0
none_less m = grind (arith, nat_tests)

next_less : (m n : ℕ) → nat_lt m n ≡ nat_lt (suc m) (suc n)
next_less m n = grind (arith, nat_tests)

-- behind the first list
pub keys_end : (vs ws : List NumberedValue) (i : ℕ) → i ≡ length vs → keys_compared (drop i vs) (drop i ws) ≡ Decided (cond (nat_lt (length vs) (length ws)) Less Equal)
keys_end vs ws i is = ap (λ k. keys_compared (drop k vs) (drop k ws)) is ∙ from vs ws
  where
    from : (xs ys : List NumberedValue) → keys_compared (drop (length xs) xs) (drop (length xs) ys) ≡ Decided (cond (nat_lt (length xs) (length ys)) Less Equal)
    from [] [] = refl
    from [] (y ∷ ys) = ap (λ b. Decided (cond b Less Equal)) (sym (zero_less (length ys)))
    from (x ∷ xs) [] = ap (keys_compared (drop (length xs) xs)) (sym (drop-nil (length xs))) ∙ from xs [] ∙ ap (λ b. Decided (cond b Less Equal)) (none_less (length xs))
    from (x ∷ xs) (y ∷ ys) = from xs ys ∙ ap (λ b. Decided (cond b Less Equal)) (next_less (length xs) (length ys))

-- ---- a loop over two lists of values

module _ {X Y : Type 0} (order : Y → Y → Ordering) (f : X → Y) where
  pub pairs_step : (xs ys : List X) (i : ℕ) (x y : X) → i < length xs → x ≡ get_or xs i x → slice_get ys i ≡ Some y
      → slice_cmp order (map f (drop i xs)) (map f (drop i ys)) ≡ ordering_then (order (f x) (f y)) (slice_cmp order (map f (drop (i + 1) xs)) (map f (drop (i + 1) ys)))
  pairs_step xs ys i x y l at is = from xs ys i l at is ∙ ap (λ k. ordering_then (order (f x) (f y)) (slice_cmp order (map f (drop k xs)) (map f (drop k ys)))) (sym (add-one i))
    where
      from : (vs ws : List X) (k : ℕ) → k < length vs → x ≡ get_or vs k x → slice_get ws k ≡ Some y
          → slice_cmp order (map f (drop k vs)) (map f (drop k ws)) ≡ ordering_then (order (f x) (f y)) (slice_cmp order (map f (drop (suc k) vs)) (map f (drop (suc k) ws)))
      from [] ws k below here there = absurd (omega (arith, below))
      from (v ∷ vs) [] k below here there = absurd (none-some y there)
      from (v ∷ vs) (w ∷ ws) zero below here there =
          ap (λ z. ordering_then (order (f z) (f w)) (slice_cmp order (map f vs) (map f ws))) (sym here) ∙ ap (λ z. ordering_then (order (f x) (f z)) (slice_cmp order (map f vs) (map f ws))) (same_Some w y there)
      from (v ∷ vs) (w ∷ ws) (suc k) below here there = from vs ws k (omega (arith, below)) here there

  pub pairs_past : (xs ys : List X) (i : ℕ) → i < length xs → slice_get ys i ≡ None → slice_cmp order (map f (drop i xs)) (map f (drop i ys)) ≡ Greater
  pairs_past [] ys i l is = absurd (omega (arith, l))
  pairs_past (x ∷ xs) [] zero l is = refl
  pairs_past (x ∷ xs) [] (suc i) l is = ap (λ zs. slice_cmp order (map f (drop i xs)) (map f zs)) (sym (drop-nil i)) ∙ pairs_past xs [] i (omega (arith, l)) refl
  pairs_past (x ∷ xs) (y ∷ ys) zero l is = absurd (none-some y (sym is))
  pairs_past (x ∷ xs) (y ∷ ys) (suc i) l is = pairs_past xs ys i (omega (arith, l)) is

  pub pairs_end : (xs ys : List X) (i : ℕ) → i ≡ length xs → slice_cmp order (map f (drop i xs)) (map f (drop i ys)) ≡ cond (nat_lt (length xs) (length ys)) Less Equal
  pairs_end xs ys i is = ap (λ k. slice_cmp order (map f (drop k xs)) (map f (drop k ys))) is ∙ from xs ys
    where
      from : (vs ws : List X) → slice_cmp order (map f (drop (length vs) vs)) (map f (drop (length vs) ws)) ≡ cond (nat_lt (length vs) (length ws)) Less Equal
      from [] [] = refl
      from [] (w ∷ ws) = ap (λ b. cond b Less Equal) (sym (zero_less (length ws)))
      from (v ∷ vs) [] = ap (λ zs. slice_cmp order (map f (drop (length vs) vs)) (map f zs)) (sym (drop-nil (length vs))) ∙ from vs [] ∙ ap (λ b. cond b Less Equal) (none_less (length vs))
      from (v ∷ vs) (w ∷ ws) = from vs ws ∙ ap (λ b. cond b Less Equal) (next_less (length vs) (length ws))

-- what a comparison that doesn't tie answers
pub not_equal : (o rest : Ordering) → is_eq o ≡ false → ordering_then o rest ≡ o
not_equal Less rest h = refl
not_equal Equal rest h = absurd (cc)
not_equal Greater rest h = refl

pub is_equal : (o rest : Ordering) → is_eq o ≡ true → ordering_then o rest ≡ rest
is_equal Less rest h = absurd (cc)
is_equal Equal rest h = refl
is_equal Greater rest h = absurd (cc)

pub no_tie : (c rest : Compared) → is_tie c ≡ false → compared_then c rest ≡ c
no_tie (Decided Less) rest h = refl
no_tie (Decided Equal) rest h = absurd (cc)
no_tie (Decided Greater) rest h = refl
no_tie (As m n) rest h = refl

pub tie : (c rest : Compared) → is_tie c ≡ true → compared_then c rest ≡ rest
tie (Decided Less) rest h = absurd (cc)
tie (Decided Equal) rest h = refl
tie (Decided Greater) rest h = absurd (cc)
tie (As m n) rest h = absurd (cc)
