-- Class orders that are united: the order of a class that is there adds nothing.
use Rattle.std.proofs.Common.{◌≡◌, ℕ, ◌<◌, ◌+◌, List, ◌∷◌, ◌∙◌, ap, arith, length, get_or, drop, map, inl, inr}
use Rattle.std.specs.Prelude.{Option, Some, None}
use Rattle.std.proofs.lemmas.Bool.{cases_lt}
use Rattle.std.proofs.lemmas.List.{get_or_past, drop_more}
use Rattle.mof_metamodel.specs.declared.desc.ClassId.{ClassId}
use Rattle.mof_metamodel.specs.declared.desc.MetaDesc.{MetaDesc}
use Rattle.mof_metamodel.specs.Metamodels.{class_count, united, all_united, lineage_within}
use Rattle.mof_metamodel.specs.Tables.{class_numbers, line_at, AreClosed, HasOrders}
use Rattle.mof_metamodel.proofs.LineageLemmas.{united-keeps, united-right, united-cases, lineage_sound, lineage_complete}
use Rattle.mof_metamodel.proofs.ReachLemmas.{conforms_through, path_ends}

module _ (orders : List (Option (List ℕ))) where
  -- with the order of a class, the orders of its classes come in
  pub has_more : AreClosed orders → (xs : List ℕ) (c : ℕ) (r : List ℕ) → line_at orders c ≡ Some r → HasOrders orders xs → HasOrders orders (united xs r)
  has_more closed xs c r e has q s h f x m = elim (united-cases xs r q h) [
    | inl k ↦ united-keeps xs r x (has q s k f x m)
    | inr k ↦ united-right xs r x (closed.among c q r s e k f x m)
  ]

  -- one superclass's order more
  pub united_step : (supers : List ClassId) (i : ℕ) (d : ClassId) (acc r : List ℕ) → i < length supers → line_at orders (get_or supers i d).0 ≡ Some r
      → all_united acc (map (line_at orders) (class_numbers (drop i supers))) ≡ all_united (united acc r) (map (line_at orders) (class_numbers (drop (i + 1) supers)))
  united_step supers i d acc r l e =
      ap (λ xs. all_united acc (map (line_at orders) (class_numbers xs))) (drop_more supers i d l)
      ∙ ap (λ o. all_united acc (o ∷ map (line_at orders) (class_numbers (drop (i + 1) supers)))) e

  -- orders that are found within some steps are closed
  module _ (desc : MetaDesc) (k : ℕ) (count : length orders ≡ class_count desc) (found : (c : ℕ) (r : List ℕ) → line_at orders c ≡ Some r → lineage_within desc k c ≡ Some r) where
    short : (c : ℕ) (r : List ℕ) → line_at orders c ≡ Some r → c < class_count desc
    short c r e = elim (cases_lt c (class_count desc)) [
      | inl l ↦ l
      | inr past ↦ absurd (
          let none : line_at orders c ≡ None = get_or_past orders c None (omega arith) in cc)
    ]

    pub lines_closed : AreClosed orders
    lines_closed = record {
      below = λ c r e q h.
          let way = lineage_sound desc k c q r (found c r e) h in
          let within = path_ends desc c q way.0 way.1 (short c r e) in
          omega (arith, within);
      among = λ c q r s e h f x m.
          let way = conforms_through desc c q x (lineage_sound desc k c q r (found c r e) h) (lineage_sound desc k q x s (found q s f) m) in
          lineage_complete desc k c x r way.0 (found c r e) way.1;
    }
