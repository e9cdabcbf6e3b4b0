-- Entries that are sorted, each of which stands once, are the list of all entries: two entries that tie in the order are one.
use Rattle.std.specs.Prelude.{◌≡◌, ◌≢◌, ◌↔◌, ◌<◌, ◌+◌, ℕ, zero, suc, Bool, true, false, List, [], ◌∷◌, map, length, Option, None, Some, slice_get, slice_index_or, Contains, AllPairs}
use Rattle.std.specs.List.{AllByRecursion, IsDistinct}
use Rattle.std.specs.List.Sorted.{IsPermutation, IsSorted, IsStrictlySortedBy}
use Rattle.std.specs.Cmp.{IsTotalOrder, on_total, then_total, bool_cmp_total}
use Rattle.std.specs.Cmp.Lexicographic.{slice_cmp, lists_total, options_total}
use Rattle.std.specs.FinMap.{IsAntisymmetric, nat_cmp-IsAntisymmetric, slice_cmp-IsAntisymmetric}
use Rattle.std.specs.Option.{option_cmp}
use Rattle.std.specs.Ordering.{nat_cmp, bool_cmp, ordering_then, ordering_reverse, eq_by_cmp, is_lt, is_eq}
use Rattle.std.specs.declared.cmp.Ordering.{Ordering}
use Rattle.std.specs.declared.cmp.Ordering.TheVariants.{Less, Equal, Greater}
use Rattle.std.proofs.Common.{refl, sym, ap, subst, ◌∙◌, arith}
use Rattle.std.proofs.lemmas.Bool.{true≢false}
use Rattle.std.proofs.lemmas.Cmp.{nat_cmp_total}
use Rattle.std.proofs.lemmas.List.{get_or-map, length-map}
use Rattle.std.proofs.lemmas.List.Elements.{All-from_recursion}
use Rattle.std.proofs.lemmas.List.Kept.{AllPairs-cons}
use Rattle.std.proofs.lemmas.List.Sorted.{IsPermutation-map, IsPermutation-sym, Contains-permutation}
use Rattle.std.proofs.lemmas.Map.Keys.{IsDistinct-cons, IsDistinct-head, IsDistinct-tail, IsDistinct-IsPermutation, sorted_from_all_adjacent}
use Rattle.std.proofs.lemmas.Option.{same_Some}
use Rattle.object_tables.specs.Models.{ModelData}
use Rattle.qv_syntax.specs.declared.program.Program.{Program}
use Rattle.qv_syntax.specs.declared.program.Rel.{Rel}
use Rattle.repair_semantics.specs.declared.term.Term.{Term}
use Rattle.repair_semantics.specs.declared.term.TermValue.{TermValue}
use Rattle.repair_semantics.specs.declared.entry.Entry.{Entry}
use Rattle.repair_semantics.specs.EntryValues.{TermValues}
use Rattle.repair_semantics.specs.Terms.{value_order}
use Rattle.repair_semantics.specs.Entries.{IsEntry, entry_of}
use Rattle.repair_semantics.specs.EntryOrder.{values_order, entry_order, AreEntries}
use Rattle.mof_metamodel.proofs.Facts.{contains_first}
use Rattle.template_match.proofs.ListLaws.{contains_later}
use Rattle.term_table.proofs.TermOrderLaws.{values_total, tied_values}
use Rattle.entry_finding.specs.declared.numbered_entry.NumberedEntry.{NumberedEntry}
use Rattle.entry_finding.specs.Found.{entry_in, entries_in}
use Rattle.demand_set.specs.Orders.{numbered_order}

-- ---- the order

pub entries_total : IsTotalOrder entry_order
entries_total =
    then_total (on_total (λ (e : Entry). e.rel) nat_cmp_total)
    (then_total (on_total (λ (e : Entry). e.values) (lists_total (options_total values_total))) (on_total (λ (e : Entry). e.called) bool_cmp_total))

options_exact : IsAntisymmetric (option_cmp value_order)
options_exact None None h = refl
options_exact None (Some y) h = absurd (cc)
options_exact (Some x) None h = absurd (cc)
options_exact (Some x) (Some y) h = ap Some (tied_values x y h)

values_exact : IsAntisymmetric values_order
values_exact = slice_cmp-IsAntisymmetric options_exact

flags_exact : (b c : Bool) → bool_cmp b c ≡ Equal → b ≡ c
flags_exact true true h = refl
flags_exact false false h = refl
flags_exact true false h = absurd (cc)
flags_exact false true h = absurd (cc)

then_equal : (o p : Ordering) → ordering_then o p ≡ Equal → (o ≡ Equal) × (p ≡ Equal)
then_equal Equal p h = (refl, h)
then_equal Less p h = absurd (cc)
then_equal Greater p h = absurd (cc)

-- ---- entries that tie

module _ (program : Program) (models : List ModelData) where
  -- an entry is given by its relation, whether it is called, and its values
  record IsGiven (e : Entry) : Type 0 where
    rel : Rel
    found : slice_get program.rels e.rel ≡ Some rel
    is : e ≡ entry_of program models e.rel rel e.called e.values

  given_by : (e : Entry) (number : ℕ) (rel : Rel) (called : Bool) → slice_get program.rels number ≡ Some rel → e ≡ entry_of program models number rel called e.values → IsGiven e
  given_by e number rel called found is =
      let same : e.rel ≡ number = ap (λ (x : Entry). x.rel) is in
      record {
        rel = rel;
        found = ap (slice_get program.rels) same ∙ found;
        is = is ∙ ap (λ n. entry_of program models n rel called e.values) (sym same) ∙ ap (λ b. entry_of program models e.rel rel b e.values) (sym (ap (λ (x : Entry). x.called) is));
      }

  given : (e : Entry) → IsEntry program models e → IsGiven e
  given e (IsEntry.of_top _ number rel matches top own more) = given_by e number rel false top.is own.is
  given e (IsEntry.of_call _ from c rel matches is_from within at own more) = given_by e c.rel rel true at own.is

  tied_entries : (d e : Entry) → IsEntry program models d → IsEntry program models e → entry_order d e ≡ Equal → d ≡ e
  tied_entries d e is_d is_e tie =
      let one : IsGiven d = given d is_d in
      let other : IsGiven e = given e is_e in
      let first : (nat_cmp d.rel e.rel ≡ Equal) × (ordering_then (values_order d.values e.values) (bool_cmp d.called e.called) ≡ Equal) =
      then_equal (nat_cmp d.rel e.rel) (ordering_then (values_order d.values e.values) (bool_cmp d.called e.called)) tie in
      let second : (values_order d.values e.values ≡ Equal) × (bool_cmp d.called e.called ≡ Equal) = then_equal (values_order d.values e.values) (bool_cmp d.called e.called) first.1 in
      let rel : d.rel ≡ e.rel = nat_cmp-IsAntisymmetric d.rel e.rel first.0 in
      let rels : one.rel ≡ other.rel = same_Some one.rel other.rel (sym one.found ∙ ap (slice_get program.rels) rel ∙ other.found) in
      one.is ∙ ap (λ n. entry_of program models n one.rel d.called d.values) rel
      ∙ ap (λ r. entry_of program models e.rel r d.called d.values) rels
      ∙ ap (λ b. entry_of program models e.rel other.rel b d.values) (flags_exact d.called e.called second.1)
      ∙ ap (λ vs. entry_of program models e.rel other.rel e.called vs) (values_exact d.values e.values second.0)
      ∙ sym other.is

  -- ---- lists of entries

  abbrev ties : Entry → Entry → Bool
  ties = eq_by_cmp entry_order

  reversed : (o : Ordering) → is_eq (ordering_reverse o) ≡ is_eq o
  reversed Less = refl
  reversed Equal = refl
  reversed Greater = refl

  flips : (d e : Entry) → ties d e ≡ ties e d
  flips d e = ap is_eq (entries_total.antisymm d e) ∙ reversed (entry_order e d)

  equal_from : (o : Ordering) → is_eq o ≡ true → o ≡ Equal
  equal_from Less h = absurd (cc)
  equal_from Equal h = refl
  equal_from Greater h = absurd (cc)

  apart : (d e : Entry) → IsEntry program models d → IsEntry program models e → d ≢ e → ties d e ≡ false
  apart d e is_d is_e other = by (ties d e) refl
    where
      by : (b : Bool) → ties d e ≡ b → b ≡ false
      by false is = refl
      by true is = absurd (other (tied_entries d e is_d is_e (equal_from (entry_order d e) is)))

  all_first : (x : Entry) (ys : List Entry) → ((y : Entry) → Contains ys y → ties x y ≡ false) → AllByRecursion (λ y. ties x y ≡ false) ys
  all_first x [] h = tt
  all_first x (y ∷ ys) h = (h y (contains_first y ys), all_first x ys (λ z c. h z (contains_later z y ys c)))

  AllPairs-tail : (x : Entry) (xs : List Entry) → AllPairs (λ d e. d ≢ e) (x ∷ xs) → AllPairs (λ d e. d ≢ e) xs
  AllPairs-tail x xs h i j d before within = h (suc i) (suc j) d (omega (arith, before)) (omega (arith, within))

  distinct : (xs : List Entry) → ((e : Entry) → Contains xs e → IsEntry program models e) → AllPairs (λ d e. d ≢ e) xs → IsDistinct ties xs
  unfolding IsDistinct
  distinct [] are h = tt
  distinct (x ∷ xs) are h =
      IsDistinct-cons ties x xs
      (all_first x xs (λ y c. apart x y (are x (contains_first x xs)) (are y (contains_later y x xs c)) (first y c)))
      (distinct xs (λ e c. are e (contains_later e x xs c)) (AllPairs-tail x xs h))
    where
      first : (y : Entry) → Contains xs y → x ≢ y
      first y (k, within, is) same = h 0 (suc k) y (omega arith) (omega (arith, within)) (same ∙ sym is)

  pairs : (xs : List Entry) → IsDistinct ties xs → AllPairs (λ d e. ties d e ≡ false) xs
  pairs [] h = λ i j d before within. absurd (omega (arith, within))
  pairs (x ∷ xs) h =
      AllPairs-cons (λ d e. ties d e ≡ false) x xs (All-from_recursion (λ y. ties x y ≡ false) xs (IsDistinct-head ties x xs h)) (pairs xs (IsDistinct-tail ties x xs h))

  -- neither is the later one less, nor do they tie
  less_from : (o p : Ordering) → o ≡ ordering_reverse p → is_lt p ≡ false → is_eq o ≡ false → o ≡ Less
  less_from Less p h k l = refl
  less_from Equal p h k l = absurd (cc)
  less_from Greater Less h k l = absurd (cc)
  less_from Greater Equal h k l = absurd (cc)
  less_from Greater Greater h k l = absurd (cc)

  strict : (xs : List Entry) → IsSorted entry_order xs → AllPairs (λ d e. ties d e ≡ false) xs → IsStrictlySortedBy entry_order xs
  unfolding IsStrictlySortedBy
  strict [] up single = tt
  strict (x ∷ xs) up single =
      sorted_from_all_adjacent entries_total (x ∷ xs) x (λ k within.
      less_from (entry_order (get_at k) (get_at (k + 1))) (entry_order (get_at (k + 1)) (get_at k)) (entries_total.antisymm (get_at k) (get_at (k + 1)))
      (up k x (omega arith) within) (single k (k + 1) x (omega arith) within))
    where
      get_at : ℕ → Entry
      get_at k = slice_index_or (x ∷ xs) k x

  -- ---- by number

  sorted_in : (terms : List Term) (es : List NumberedEntry) → IsSorted (numbered_order terms) es → IsSorted entry_order (entries_in terms es)
  sorted_in terms [] up = λ k d low within. absurd (omega (arith, within))
  sorted_in terms (x ∷ xs) up = λ k d low within.
      let f : NumberedEntry → Entry = entry_in terms in
      let less : k + 1 < length (x ∷ xs) = omega (arith, within, length-map (x ∷ xs) f) in
      ap (λ e. is_lt (entry_order e (slice_index_or (map f (x ∷ xs)) k d))) (get_or-map f (x ∷ xs) (k + 1) x d less)
      ∙ ap (λ e. is_lt (entry_order (f (slice_index_or (x ∷ xs) (k + 1) x)) e)) (get_or-map f (x ∷ xs) k x d (omega (arith, less)))
      ∙ up k x low less

  -- the entries in order are the list of all
  pub are_entries : (terms : List Term) (es sorted : List NumberedEntry) → ((e : Entry) → IsEntry program models e ↔ Contains (entries_in terms es) e)
      → AllPairs (λ d e. d ≢ e) (entries_in terms es) → IsPermutation es sorted → IsSorted (numbered_order terms) sorted → AreEntries program models (entries_in terms sorted)
  are_entries terms es sorted exact single moved up =
      let xs : List Entry = entries_in terms es in
      let ys : List Entry = entries_in terms sorted in
      let same : IsPermutation xs ys = IsPermutation-map (entry_in terms) es sorted moved in
      record {
        sorted = strict ys (sorted_in terms sorted up) (pairs ys (IsDistinct-IsPermutation ties flips xs ys same (distinct xs (λ e c. (exact e).1 c) single)));
        only = λ e c. (exact e).1 (Contains-permutation ys xs e (IsPermutation-sym xs ys same) c);
        all = λ e is. Contains-permutation xs ys e same ((exact e).0 is);
      }
