-- What a table of class orders holds at a place.
use Rattle.std.proofs.Common.{◌≡◌, ℕ, ◌<◌, List, ◌++◌, sym, ◌∙◌, ap, arith, length, get_or, take, drop}
use Rattle.std.specs.Prelude.{Option, None}
use Rattle.std.proofs.lemmas.List.{get_or_default, append-nil, take_all, drop_all}
use Rattle.std.proofs.lemmas.List.FromFn.{get_or-map-range_with_len}
use Rattle.mof_metamodel.specs.declared.desc.MetaDesc.{MetaDesc}
use Rattle.mof_metamodel.specs.Metamodels.{class_count, lineage_within}
use Rattle.mof_metamodel.specs.Tables.{line_at, AreLines}
use Rattle.mof_metamodel.proofs.TableLemmas.{entry_count}

-- what is read at a place
pub line_at_read : (orders : List (Option (List ℕ))) (i : ℕ) (o : Option (List ℕ)) → i < length orders → o ≡ get_or orders i o → line_at orders i ≡ o
line_at_read orders i o l r = get_or_default orders i None o l ∙ sym r

module _ (desc : MetaDesc) (k : ℕ) (orders : List (Option (List ℕ))) (are : AreLines desc k orders) where
  -- there is an order for each class
  pub lines_count : length orders ≡ class_count desc
  lines_count = entry_count orders (lineage_within desc k) (class_count desc) are

  pub line_at_is : (c : ℕ) → c < class_count desc → line_at orders c ≡ lineage_within desc k c
  line_at_is c l = ap (λ xs. get_or xs c None) are ∙ get_or-map-range_with_len (lineage_within desc k) 0 (class_count desc) c c None l (omega arith)

-- a slice that is put back in the place of a whole list
pub put_back : {X : Type 0} (xs ys : List X) (n : ℕ) → length xs ≡ length ys → n ≡ length ys → take n (xs ++ drop (length xs) ys) ≡ xs
put_back xs ys n same e = ap (λ zs. take n (xs ++ zs)) (drop_all (length xs) ys (omega arith)) ∙ ap (take n) (append-nil xs) ∙ take_all n xs (omega arith)
