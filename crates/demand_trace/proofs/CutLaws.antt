-- Demands in the order of their entries: those of an entry are the first ones that are left.
use Rattle.std.specs.Prelude.{◌≡◌, ◌≤◌, ◌<◌, ◌==◌, ◌+◌, ℕ, suc, Bool, true, false, List, [], ◌∷◌, ◌++◌, take, drop, cond, Option, None, Some, slice_get, All, if◌then◌else◌}
use Rattle.std.specs.List.{prefix_len, filter, cons_option}
use Rattle.std.specs.Option.{option_map_or}
use Rattle.std.proofs.Common.{refl, sym, ap, subst, ◌∙◌, arith}
use Rattle.std.proofs.lemmas.Bool.{eqb-true, eqb-false}
use Rattle.std.proofs.lemmas.List.Elements.{All-nil, All-cons, All-head, All-tail}
use Rattle.object_tables.specs.Models.{ModelData}
use Rattle.qv_syntax.specs.declared.program.Program.{Program}
use Rattle.qv_syntax.specs.declared.program.Rel.{Rel}
use Rattle.repair_semantics.specs.declared.demand.Demand.{Demand}
use Rattle.repair_semantics.specs.declared.entry.Entry.{Entry}
use Rattle.repair_semantics.specs.declared.term.Term.{Term}
use Rattle.repair_semantics.specs.declared.term.TermValue.{TermValue}
use Rattle.repair_semantics.specs.EntryValues.{Known, term_of}
use Rattle.repair_semantics.specs.TargetItems.{TargetItem, target_items}
use Rattle.repair_semantics.specs.Making.{content_value, entry_known}
use Rattle.repair_semantics.specs.Unmet.{is_unmet}
use Rattle.repair_semantics.specs.Demands.{demand_by, item_demands, demands_where, entry_demands, demands_from, demands_of}
use Rattle.demand_trace.specs.Traces.{World, entry_trace, is_of, entries_trace}
use Rattle.demand_trace.specs.Cuts.{AreFrom, own_count, entries_cut}

from_less : (m n : ℕ) (ds : List Demand) → n ≤ m → AreFrom m ds → AreFrom n ds
from_less m n [] le from = tt
from_less m n (d ∷ ds) le from = let first = from.0 in (omega (arith, le, first), from.1)

one_more : (k : ℕ) → 1 + k ≡ suc k
one_more k = omega arith

-- none stands before its entry
none_own : (m n : ℕ) (ds : List Demand) → n < m → AreFrom m ds → filter (is_of n) ds ≡ []
none_own m n [] lt from = refl
none_own m n (d ∷ ds) lt from = let first = from.0 in by first (none_own d.entry n ds (omega (arith, lt, first)) from.1) (d.entry == n) refl
  where
    by : m ≤ d.entry → filter (is_of n) ds ≡ [] → (b : Bool) → (d.entry == n) ≡ b → cond b (d ∷ filter (is_of n) ds) (filter (is_of n) ds) ≡ []
    by first none true e = let same = eqb-true d.entry n e in absurd (omega (arith, lt, first, same))
    by first none false e = none

-- those of an entry come first
own_first : (n : ℕ) (ds : List Demand) → AreFrom n ds → filter (is_of n) ds ≡ take (own_count n ds) ds
own_first n [] from = refl
own_first n (d ∷ ds) from = by (λ same. own_first n ds (subst (λ k. AreFrom k ds) same from.1)) (d.entry == n) refl
  where
    by : (d.entry ≡ n → filter (is_of n) ds ≡ take (own_count n ds) ds) → (b : Bool) → (d.entry == n) ≡ b
        → cond b (d ∷ filter (is_of n) ds) (filter (is_of n) ds) ≡ take (cond b (1 + own_count n ds) 0) (d ∷ ds)
    by others true e = ap (λ xs. d ∷ xs) (others (eqb-true d.entry n e)) ∙ ap (λ k. take k (d ∷ ds)) (sym (one_more (own_count n ds)))
    by others false e = let apart = eqb-false d.entry n e in let first = from.0 in none_own d.entry n ds (omega (arith, first, apart)) from.1

-- and behind them stand those of later entries
left_from : (n : ℕ) (ds : List Demand) → AreFrom n ds → AreFrom (suc n) (drop (own_count n ds) ds)
left_from n [] from = tt
left_from n (d ∷ ds) from = by (λ same. left_from n ds (subst (λ k. AreFrom k ds) same from.1)) (d.entry == n) refl
  where
    by : (d.entry ≡ n → AreFrom (suc n) (drop (own_count n ds) ds)) → (b : Bool) → (d.entry == n) ≡ b → AreFrom (suc n) (drop (cond b (1 + own_count n ds) 0) (d ∷ ds))
    by others true e = subst (λ k. AreFrom (suc n) (drop k (d ∷ ds))) (sym (one_more (own_count n ds))) (others (eqb-true d.entry n e))
    by others false e = let apart = eqb-false d.entry n e in let first = from.0 in (omega (arith, first, apart), from.1)

later_left : (n m : ℕ) (ds : List Demand) → n < m → filter (is_of m) (drop (own_count n ds) ds) ≡ filter (is_of m) ds
later_left n m [] lt = refl
later_left n m (d ∷ ds) lt = by (later_left n m ds lt) (d.entry == n) refl (d.entry == m) refl
  where
    by : filter (is_of m) (drop (own_count n ds) ds) ≡ filter (is_of m) ds → (b : Bool) → (d.entry == n) ≡ b → (c : Bool) → (d.entry == m) ≡ c
        → filter (is_of m) (drop (cond b (1 + own_count n ds) 0) (d ∷ ds)) ≡ cond c (d ∷ filter (is_of m) ds) (filter (is_of m) ds)
    by others true e true f = let first = eqb-true d.entry n e in let second = eqb-true d.entry m f in absurd (omega (arith, lt, first, second))
    by others true e false f = ap (λ k. filter (is_of m) (drop k (d ∷ ds))) (one_more (own_count n ds)) ∙ others
    by others false e c f = ap (λ b. cond b (d ∷ filter (is_of m) ds) (filter (is_of m) ds)) f

-- the demands that are left are those of the entries that are left
cut_is : (w : World) (all ds : List Demand) (n : ℕ) (es : List Entry) → AreFrom n ds → ((m : ℕ) → n ≤ m → filter (is_of m) ds ≡ filter (is_of m) all)
    → entries_cut w ds n es ≡ entries_trace w all n es
cut_is w all ds n [] from same = refl
cut_is w all ds n (e ∷ es) from same =
    ap (λ own. entry_trace w e own ∷ entries_cut w (drop (own_count n ds) ds) (suc n) es) (sym (own_first n ds from) ∙ same n (omega arith))
    ∙ ap (λ rest. entry_trace w e (filter (is_of n) all) ∷ rest)
    (cut_is w all (drop (own_count n ds) ds) (suc n) es (left_from n ds from) (λ m le. later_left n m ds (omega (arith, le)) ∙ same m (omega (arith, le))))

pub cut_whole : (w : World) (ds : List Demand) (es : List Entry) → AreFrom 0 ds → entries_cut w ds 0 es ≡ entries_trace w ds 0 es
cut_whole w ds es from = cut_is w ds ds 0 es from (λ m le. refl)

-- ---- the demands of entries stand in their order

one_behind : (n : ℕ) (xs ys : List Demand) → All (λ (d : Demand). d.entry ≡ n) xs → AreFrom (suc n) ys → AreFrom n (xs ++ ys)
one_behind n [] ys own from = from_less (suc n) n ys (omega arith) from
one_behind n (x ∷ xs) ys own from =
    let same : x.entry ≡ n = All-head (λ (d : Demand). d.entry ≡ n) x xs own in
    (omega (arith, same), subst (λ k. AreFrom k (xs ++ ys)) (sym same) (one_behind n xs ys (All-tail (λ (d : Demand). d.entry ≡ n) x xs own) from))

module _ (program : Program) (models : List ModelData) (n : ℕ) where
  abbrev IsOwn : Demand → Type 0
  IsOwn d = d.entry ≡ n

  by_item : (item : TargetItem) (owner : Option Term) (v : Option TermValue) (ds : List Demand) → All IsOwn ds → All IsOwn (cons_option (demand_by n item owner v) ds)
  by_item item (Some owner) (Some v) ds all = All-cons IsOwn (record { entry = n; owner = owner; prop = item.prop; value = v }) ds refl all
  by_item item (Some owner) None ds all = all
  by_item item None v ds all = all

  by_items : (k : Known) (items : List TargetItem) → All IsOwn (item_demands program models k n items)
  by_items k [] = All-nil IsOwn
  by_items k (item ∷ items) =
      by_item item (term_of k.values item.owner) (content_value program models k item.content) (item_demands program models k n items) (by_items k items)

  by_relation : (rel : Rel) (k : Known) → All IsOwn (demands_where program models n rel k)
  by_relation rel k = by (is_unmet program models rel k)
    where
      by : (b : Bool) → All IsOwn (if b then [] else item_demands program models k n (target_items program rel))
      by true = All-nil IsOwn
      by false = by_items k (target_items program rel)

  of_entry : (e : Entry) → All IsOwn (entry_demands program models n e)
  of_entry e = by (slice_get program.rels e.rel)
    where
      by : (o : Option Rel) → All IsOwn (option_map_or (λ rel. demands_where program models n rel (entry_known program models rel e.values)) o [])
      by None = All-nil IsOwn
      by (Some rel) = by_relation rel (entry_known program models rel e.values)

in_order : (program : Program) (models : List ModelData) (n : ℕ) (es : List Entry) → AreFrom n (demands_from program models n es)
in_order program models n [] = tt
in_order program models n (e ∷ es) =
    one_behind n (entry_demands program models n e) (demands_from program models (suc n) es) (of_entry program models n e) (in_order program models (suc n) es)

pub demands_in_order : (program : Program) (models : List ModelData) (es : List Entry) → AreFrom 0 (demands_of program models es)
demands_in_order program models es = in_order program models 0 es
