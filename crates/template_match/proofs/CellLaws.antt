-- The data in a column of rows, each once; and the rows in the order of a column.
use Rattle.std.specs.Prelude.{◌≡◌, ◌⊎◌, ◌<◌, ◌≤◌, ◌+◌, ◌++◌, ℕ, zero, suc, Bool, true, false, List, [], ◌∷◌, Option, None, Some, length, slice_get, filter, Contains, if◌then◌else◌}
use Rattle.std.specs.Cmp.{IsTotalOrder, Equal-is}
use Rattle.std.specs.FinMap.{nat_cmp-IsAntisymmetric}
use Rattle.std.specs.List.{AllByRecursion, dedup, range_with_len}
use Rattle.std.specs.List.Sorted.{IsPermutation, IsSorted, IsStrictlySortedBy}
use Rattle.std.specs.Ordering.{nat_cmp, ordering_then, ordering_reverse, eq_by_cmp, is_eq}
use Rattle.std.specs.declared.cmp.Ordering.{Ordering}
use Rattle.std.specs.declared.cmp.Ordering.TheVariants.{Less, Equal}
use Rattle.std.proofs.Common.{refl, sym, ap, subst, ◌∙◌, arith, inl, inr, take, get_or, append-nil}
use Rattle.std.proofs.lemmas.Cmp.{on_total, then_total, nat_cmp_total, tied_itself}
use Rattle.std.proofs.lemmas.List.{take_more}
use Rattle.std.proofs.lemmas.List.Elements.{recursion_from_All, filter_passes}
use Rattle.std.proofs.lemmas.List.Kept.{IsStrictlySortedBy-filter}
use Rattle.std.proofs.lemmas.List.Concat.{flat_map-append}
use Rattle.std.proofs.lemmas.List.FromFn.{length-range_with_len, get_or-range_with_len}
use Rattle.mof_metamodel.proofs.Facts.{contains_first}
use Rattle.mof_metamodel.proofs.PropLemmas.{to_flat_map}
use Rattle.object_tables.proofs.SlotLemmas.{Contains-to_filter}
use Rattle.ocl_eval.proofs.SetLaws.{among-in_order, among-distinct}
use Rattle.ocl_eval.specs.OrderLaws.{same_decides}
use Rattle.qvtr_semantics.specs.declared.datum.Datum.{Datum}
use Rattle.qvtr_semantics.specs.Data.{same_datum, is_before, is_among, placed, in_order, new_ones, distinct}
use Rattle.template_match.specs.declared.column_order.ColumnOrder.{ColumnOrder}
use Rattle.template_match.specs.Each.{IsEachOnce}
use Rattle.template_match.specs.Order.{optional_order}
use Rattle.template_match.specs.OrderLaws.{optional_total}
use Rattle.template_match.specs.Rows.{cell_at, one_datum, cells_in, next_order, row_order, is_with, IsRowOrder, AreRowOrders}
use Rattle.template_match.proofs.ListLaws.{any_from, any_at}
use Rattle.template_match.proofs.OrderLaws.{each_once}

-- ---- the data of rows

among_from : (d : Datum) (ds : List Datum) → is_among d ds ≡ true → Contains ds d
among_from d ds h =
    let found = any_from (same_datum d) ds h in
    subst (Contains ds) (sym ((same_decides d found.0).0 found.2)) found.1

among_to : (d : Datum) (ds : List Datum) → Contains ds d → is_among d ds ≡ true
among_to d ds c = any_at (same_datum d) ds d ((same_decides d d).1 refl) c

-- in order, each once, they are the same data
pub same_data : (ds : List Datum) (d : Datum) → Contains ds d → Contains (in_order (distinct ds)) d
same_data ds d c = among_from d (in_order (distinct ds)) (among-in_order d (distinct ds) ∙ among-distinct d ds ∙ among_to d ds c)

-- the datum of a row is among those of the rows
pub cell_among : (rows : List (List Datum)) (k r : ℕ) (numbers : List ℕ) (d : Datum) → Contains numbers r → cell_at rows k r ≡ Some d
    → Contains (in_order (distinct (cells_in rows k numbers))) d
cell_among rows k r numbers d within at =
    same_data (cells_in rows k numbers) d
    (to_flat_map (λ s. one_datum (cell_at rows k s)) numbers r d within (subst (λ o. Contains (one_datum o) d) (sym at) (contains_first d [])))

-- one row more
pub cells_pushed : (rows rs : List (List Datum)) (k : ℕ) (numbers : List ℕ) (i n : ℕ) (ds es : List Datum) (o : Option Datum) → i < length numbers → rs ≡ rows
    → ds ≡ cells_in rows k (take i numbers) → o ≡ cell_at rs k (get_or numbers i n) → es ≡ ds ++ one_datum o → es ≡ cells_in rows k (take (i + 1) numbers)
cells_pushed rows rs k numbers i n ds es o l same are cell pushed =
    let here : o ≡ cell_at rows k (get_or numbers i n) = cell ∙ ap (λ xs. cell_at xs k (get_or numbers i n)) same in
    let last = get_or numbers i n in
    pushed ∙ ap (λ xs. xs ++ one_datum o) are ∙ ap (λ x. cells_in rows k (take i numbers) ++ one_datum x) here
    ∙ ap (λ xs. cells_in rows k (take i numbers) ++ xs) (sym (append-nil (one_datum (cell_at rows k last))))
    ∙ sym (flat_map-append (λ r. one_datum (cell_at rows k r)) (take i numbers) (last ∷ []))
    ∙ ap (cells_in rows k) (sym (take_more numbers i n l))

-- ---- how many there are

length-placed : (d : Datum) (ds : List Datum) → length (placed d ds) ≡ length ds + 1
length-placed d [] = refl
length-placed d (e ∷ es) = by (is_before e d) (length-placed d es)
  where
    by : (b : Bool) → length (placed d es) ≡ length es + 1 → length (if b then e ∷ placed d es else d ∷ e ∷ es) ≡ length (e ∷ es) + 1
    by true more = omega (arith, more)
    by false more = omega arith

length-in_order : (ds : List Datum) → length (in_order ds) ≡ length ds
length-in_order [] = refl
length-in_order (d ∷ ds) = let one = length-placed d (in_order ds) in let more = length-in_order ds in omega (arith, one, more)

few_new : (met ds : List Datum) → length (new_ones met ds) ≤ length ds
few_new met [] = omega arith
few_new met (d ∷ ds) = by (is_among d met) (few_new met ds) (few_new (d ∷ met) ds)
  where
    by : (b : Bool) → length (new_ones met ds) ≤ length ds → length (new_ones (d ∷ met) ds) ≤ length ds
        → length (if b then new_ones met ds else d ∷ new_ones (d ∷ met) ds) ≤ length (d ∷ ds)
    by true old new = omega (arith, old)
    by false old new = omega (arith, new)

few_in : (rows : List (List Datum)) (k : ℕ) (numbers : List ℕ) → length (cells_in rows k numbers) ≤ length numbers
few_in rows k [] = omega arith
few_in rows k (r ∷ numbers) = by (cell_at rows k r) (few_in rows k numbers)
  where
    by : (o : Option Datum) → length (cells_in rows k numbers) ≤ length numbers → length (one_datum o ++ cells_in rows k numbers) ≤ length (r ∷ numbers)
    by None more = omega (arith, more)
    by (Some d) more = omega (arith, more)

-- no more data than rows
pub few_cells : (rows : List (List Datum)) (k : ℕ) (numbers : List ℕ) → length (in_order (distinct (cells_in rows k numbers))) ≤ length numbers
few_cells rows k numbers =
    let same = length-in_order (distinct (cells_in rows k numbers)) in
    let once = few_new [] (cells_in rows k numbers) in
    let few = few_in rows k numbers in
    omega (arith, same, once, few)

-- ---- the order of rows

pub nexts_total : (rows : List (List Datum)) (n : ℕ) → IsTotalOrder (next_order rows n)
nexts_total rows n = then_total (on_total (λ (r : ℕ). cell_at rows n r) optional_total) nat_cmp_total

pub rows_total : (rows : List (List Datum)) (k n : ℕ) → IsTotalOrder (row_order rows k n)
rows_total rows k n = then_total (on_total (λ (r : ℕ). cell_at rows k r) optional_total) (nexts_total rows n)

then_last : (o q : Ordering) → ordering_then o q ≡ Equal → q ≡ Equal
then_last Equal q h = h
then_last o q h = absurd (cc)

number_below : (n r : ℕ) → r < n → Contains (range_with_len 0 n) r
number_below n r l = let long = length-range_with_len 0 n in (r, omega (arith, long), get_or-range_with_len 0 n r r l ∙ (let e : 0 + r ≡ r = omega arith in e))

-- the numbers of all rows, sorted by a column and another one, each once
pub ordered : (rows : List (List Datum)) (k n : ℕ) (numbers sorted once : List ℕ) → numbers ≡ range_with_len 0 (length rows) → IsPermutation numbers sorted
    → IsSorted (row_order rows k n) sorted → once ≡ dedup (λ r s. eq_by_cmp (row_order rows k n) r s) sorted → IsRowOrder rows k n once
ordered rows k n numbers sorted once are moved up is =
    let each = each_once (row_order rows k n) (rows_total rows k n) numbers sorted once moved up is in
    record { sorted = each.sorted; all = λ r l. there each r l }
  where
    same_number : (r s : ℕ) → row_order rows k n r s ≡ Equal → r ≡ s
    same_number r s e =
        nat_cmp-IsAntisymmetric r s
        (then_last (optional_order (cell_at rows n r) (cell_at rows n s)) (nat_cmp r s)
        (then_last (optional_order (cell_at rows k r) (cell_at rows k s)) (next_order rows n r s) e))

    there : IsEachOnce (row_order rows k n) numbers once → (r : ℕ) → r < length rows → Contains once r
    there each r l =
        let found = each.all r (subst (λ ns. Contains ns r) (sym are) (number_below (length rows) r l)) in
        subst (Contains once) (sym (same_number r found.0 found.2)) found.1

-- ---- the orders of the columns

pub no_orders : (rows : List (List Datum)) → AreRowOrders rows []
no_orders rows k o e = absurd (cc)

-- what stands at a place of a list with one more
at_push : {X : Type 0} (xs : List X) (x : X) (k : ℕ) (y : X) → slice_get (xs ++ x ∷ []) k ≡ Some y → (slice_get xs k ≡ Some y) ⊎ ((k ≡ length xs) × (x ≡ y))
at_push [] x zero y e = inr (refl, cc)
at_push [] x (suc k) y e = absurd (cc)
at_push (z ∷ xs) x zero y e = inl e
at_push (z ∷ xs) x (suc k) y e = by (at_push xs x k y e)
  where
    by : (slice_get xs k ≡ Some y) ⊎ ((k ≡ length xs) × (x ≡ y)) → (slice_get xs k ≡ Some y) ⊎ ((suc k ≡ length (z ∷ xs)) × (x ≡ y))
    by (inl h) = inl h
    by (inr h) = let e = h.0 in inr (omega (arith, e), h.1)

pub more_orders : (rows : List (List Datum)) (orders : List ColumnOrder) (last : ColumnOrder) → AreRowOrders rows orders → IsRowOrder rows (length orders) last.next last.numbers
    → AreRowOrders rows (orders ++ last ∷ [])
more_orders rows orders last are is k found e = by (at_push orders last k found e)
  where
    by : (slice_get orders k ≡ Some found) ⊎ ((k ≡ length orders) × (last ≡ found)) → IsRowOrder rows k found.next found.numbers
    by (inl h) = are k found h
    by (inr h) =
        subst (λ (o : ColumnOrder). IsRowOrder rows k o.next o.numbers) h.1 (subst (λ n. IsRowOrder rows n last.next last.numbers) (sym h.0) is)

-- ---- the rows with a datum

one_order : (o : Option Datum) (d : Datum) → o ≡ Some d → is_eq (optional_order o (Some d)) ≡ true
one_order o d e = ap (λ x. is_eq (optional_order x (Some d))) e ∙ ap is_eq (tied_itself optional_total (Some d))

-- a row with the datum is among those that were found
pub with_datum : (rows : List (List Datum)) (k : ℕ) (numbers found : List ℕ) (d : Datum) → found ≡ filter (is_with rows k d) numbers → (r : ℕ) → Contains numbers r
    → cell_at rows k r ≡ Some d → Contains found r
with_datum rows k numbers found d is r c at =
    subst (λ ns. Contains ns r) (sym is) (Contains-to_filter (is_with rows k d) numbers r (one_order (cell_at rows k r) d at) c)

-- those with a datum in the first column are in the order by the next one
tied : (rows : List (List Datum)) (k n : ℕ) (d : Datum) (r s : ℕ) → is_with rows k d r ≡ true → is_with rows k d s ≡ true → row_order rows k n r s ≡ Less → next_order rows n r s ≡ Less
tied rows k n d r s one other less =
    let first : optional_order (cell_at rows k r) (Some d) ≡ Equal = (Equal-is (optional_order (cell_at rows k r) (Some d))).0 one in
    let second : optional_order (cell_at rows k s) (Some d) ≡ Equal = (Equal-is (optional_order (cell_at rows k s) (Some d))).0 other in
    let back : optional_order (Some d) (cell_at rows k s) ≡ Equal = optional_total.antisymm (Some d) (cell_at rows k s) ∙ ap ordering_reverse second in
    let both : optional_order (cell_at rows k r) (cell_at rows k s) ≡ Equal = optional_total.congr (cell_at rows k r) (Some d) (cell_at rows k s) first ∙ back in
    sym (ap (λ o. ordering_then o (next_order rows n r s)) both) ∙ less

pub narrowed : (rows : List (List Datum)) (k n : ℕ) (d : Datum) (numbers : List ℕ) → IsStrictlySortedBy (row_order rows k n) numbers
    → AllByRecursion (λ r. is_with rows k d r ≡ true) numbers → IsStrictlySortedBy (next_order rows n) numbers
unfolding IsStrictlySortedBy
narrowed rows k n d [] up all = tt
narrowed rows k n d (r ∷ numbers) up all = (first numbers up.0 all.1, narrowed rows k n d numbers up.1 all.1)
  where
    first : (ns : List ℕ) → AllByRecursion (λ s. row_order rows k n r s ≡ Less) ns → AllByRecursion (λ s. is_with rows k d s ≡ true) ns → AllByRecursion (λ s. next_order rows n r s ≡ Less) ns
    first [] less with = tt
    first (s ∷ ns) less with = (tied rows k n d r s all.0 with.0 less.0, first ns less.1 with.1)

pub found_sorted : (rows : List (List Datum)) (k n : ℕ) (d : Datum) (numbers found : List ℕ) → IsStrictlySortedBy (row_order rows k n) numbers
    → found ≡ filter (is_with rows k d) numbers → IsStrictlySortedBy (next_order rows n) found
found_sorted rows k n d numbers found up is =
    subst (IsStrictlySortedBy (next_order rows n)) (sym is)
    (narrowed rows k n d (filter (is_with rows k d) numbers) (IsStrictlySortedBy-filter (row_order rows k n) (is_with rows k d) numbers up)
    (recursion_from_All (λ r. is_with rows k d r ≡ true) (filter (is_with rows k d) numbers) (filter_passes (is_with rows k d) numbers)))
