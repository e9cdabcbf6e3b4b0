-- Marks of numbers: which of them are set.
use Rattle.std.proofs.Common.{◌≡◌, ℕ, ◌<◌, List, [], ◌∷◌, Bool, true, false, refl, sym, ap, ◌∙◌, arith, length, get_or, set, replicate, inl, inr, eq-eqb}
use Rattle.std.specs.Prelude.{◌||◌, ◌==◌}
use Rattle.std.proofs.lemmas.Bool.{cases_eq, ne_eqb, or_right}
use Rattle.std.proofs.lemmas.List.{get_or-set_same, get_or-set_other, length-set, length-replicate, get_or-replicate}
use Rattle.std.proofs.lemmas.List.FromFn.{length-map-range_with_len, get_or-map-range_with_len, fill_by_all}
use Rattle.mof_metamodel.specs.Tables.{table}
use Rattle.mof_metamodel.proofs.Facts.{or_false}
use Rattle.mof_metamodel.proofs.TableLemmas.{table_agree}
use Rattle.qvtr_semantics.specs.Objects.{is_number_among}
use Rattle.template_match.specs.Marks.{is_marked, with_marks}

-- no mark is set
pub replicate-false : (n : ℕ) → replicate n false ≡ table (λ k. false) n
replicate-false n = fill_by_all (λ k. false) (replicate n false) n false (length-replicate n false) (λ k l. get_or-replicate n k false false l)

-- the mark of a number of a table
pub is_marked-table : (f : ℕ → Bool) (n k : ℕ) → k < n → is_marked (table f n) k ≡ f k
is_marked-table f n k l = get_or-map-range_with_len f 0 n k k false l (omega arith)

-- one mark more
set-table : (f : ℕ → Bool) (n k : ℕ) → set (table f n) k true ≡ table (λ j. f j || (k == j)) n
set-table f n k =
    fill_by_all (λ j. f j || (k == j)) (set (table f n) k true) n false (length-set (table f n) k true ∙ length-map-range_with_len f 0 n) at
  where
    at : (j : ℕ) → j < n → get_or (set (table f n) k true) j false ≡ (f j || (k == j))
    at j l = elim (cases_eq j k) [
      | inl e ↦ (
          let long = length-map-range_with_len f 0 n in
          let inside : k < length (table f n) = omega (arith, l, e, long) in
          ap (λ i. get_or (set (table f n) k true) i false) e ∙ get_or-set_same (table f n) k true false inside
          ∙ sym (or_right (f j) (k == j) (eq-eqb k j (sym e))))
      | inr ne ↦
          get_or-set_other (table f n) k j true false ne ∙ is_marked-table f n j l
          ∙ sym (ap (λ b. f j || b) (ne_eqb k j (λ e. ne (sym e))) ∙ or_false (f j))
    ]

or_later : (a b c : Bool) → ((a || b) || c) ≡ (a || (b || c))
or_later true b c = refl
or_later false b c = refl

with_marks-table : (f : ℕ → Bool) (n : ℕ) (ns : List ℕ) → with_marks (table f n) ns ≡ table (λ k. f k || is_number_among k ns) n
with_marks-table f n [] = table_agree f (λ k. f k || false) n (λ k l. sym (or_false (f k)))
with_marks-table f n (m ∷ ns) =
    ap (λ ms. with_marks ms ns) (set-table f n m)
    ∙ with_marks-table (λ j. f j || (m == j)) n ns
    ∙ table_agree (λ k. (f k || (m == k)) || is_number_among k ns) (λ k. f k || ((m == k) || is_number_among k ns)) n
    (λ k l. or_later (f k) (m == k) (is_number_among k ns))

-- marks of which none was set have those set that are put
pub fresh_marks : (old new : List Bool) (n : ℕ) (ns : List ℕ) → old ≡ table (λ k. false) n → new ≡ with_marks old ns
    → new ≡ table (λ k. is_number_among k ns) n
fresh_marks old new n ns none put = put ∙ ap (λ ms. with_marks ms ns) none ∙ with_marks-table (λ k. false) n ns
