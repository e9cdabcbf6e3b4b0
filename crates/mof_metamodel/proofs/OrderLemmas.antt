-- The properties of a class in class order, and the names that stand twice.
use Rattle.std.proofs.Common.{◌≡◌, ℕ, zero, suc, ◌<◌, List, [], ◌∷◌, true, refl, sym, ◌∙◌, ap, subst, arith, length, get_or, inl, inr}
use Rattle.std.specs.Prelude.{All, Option, Some, None}
use Rattle.std.specs.List.{list_all, flat_map}
use Rattle.std.specs.Option.{unwrap_or, is_some}
use Rattle.std.proofs.lemmas.Bool.{cases_lt}
use Rattle.std.proofs.lemmas.List.{get_or_past, get_or-map, length-map}
use Rattle.std.proofs.lemmas.List.Elements.{All-nil, All-append, Contains-get_or}
use Rattle.std.proofs.lemmas.List.FromFn.{length-range_with_len, get_or-range_with_len}
use Rattle.mof_metamodel.specs.declared.desc.MetaDesc.{MetaDesc}
use Rattle.mof_metamodel.specs.declared.desc.PropId.{PropId}
use Rattle.mof_metamodel.specs.Metamodels.{class_count, class_at, no_class, prop_count, first_own, own_props, props_of, reached_classes, lineage_of}
use Rattle.mof_metamodel.specs.Tables.{line_at, lineage_in, AreLines, IsGrounded, IsPropOf, prop_numbers}
use Rattle.mof_metamodel.proofs.TableLemmas.{own_within}
use Rattle.mof_metamodel.proofs.LineageLemmas.{Has, Has-from_Contains}
use Rattle.mof_metamodel.proofs.ReachLemmas.{lineage_within_classes}
use Rattle.mof_metamodel.proofs.LineLemmas.{line_at_is, line_at_read, lines_count}

-- what holds of each number that a list has
pub All-from_Has : (P : ℕ → Type 0) (xs : List ℕ) → ((q : ℕ) → Has xs q → P q) → All P xs
All-from_Has P xs h k d l = h _ (Has-from_Contains xs _ (Contains-get_or xs k d l))

module _ (desc : MetaDesc) where
  -- own properties are properties
  pub own_all : (a : ℕ) → All (λ p. p < prop_count desc) (own_props desc a)
  own_all a k d l =
      let short : k < length (class_at desc a).props = let e = length-range_with_len (first_own desc a) (length (class_at desc a).props) in omega (arith, e) in
      let at = get_or-range_with_len (first_own desc a) (length (class_at desc a).props) k d short in
      elim (cases_lt a (class_count desc)) [
        | inl here ↦ (let w = own_within desc a k here short in omega (arith, w, at))
        | inr past ↦ absurd (let none : class_at desc a ≡ no_class = get_or_past desc.classes a no_class past in let e = ap (λ x. length x.props) none in omega (arith, e))
      ]

  pub flat_all : (cs : List ℕ) → All (λ p. p < prop_count desc) (flat_map (own_props desc) cs)
  flat_all [] = All-nil (λ p. p < prop_count desc)
  flat_all (a ∷ cs) = All-append (λ p. p < prop_count desc) (own_props desc a) (flat_map (own_props desc) cs) (own_all a) (flat_all cs)

  pub props_within : (c : ℕ) (ids : List PropId) → prop_numbers ids ≡ props_of desc c → All (IsPropOf desc) ids
  props_within c ids same k d l =
      let at : get_or (prop_numbers ids) k d.0 ≡ (get_or ids k d).0 = get_or-map (λ i. i.0) ids k d d.0 l in
      let long : length (prop_numbers ids) ≡ length ids = length-map ids (λ i. i.0) in
      let P : List ℕ → Type 0 = λ xs. All (λ p. p < prop_count desc) xs in
      let within = subst P (sym same) (flat_all (lineage_of desc c)) k d.0 (omega (arith, long)) in
      omega (arith, within, at)

  -- the classes of a lineage are classes
  pub lineage_classes : (c : ℕ) → c < class_count desc → All (λ a. a < class_count desc) (lineage_of desc c)
  lineage_classes c l = All-from_Has (λ a. a < class_count desc) (lineage_of desc c) (λ q h. lineage_within_classes desc c q l h)

module _ (desc : MetaDesc) (orders : List (Option (List ℕ))) (are : AreLines desc (class_count desc) orders) where
  -- the class order that a table has
  pub lineage_is : (c : ℕ) (o : Option (List ℕ)) → c < class_count desc → o ≡ get_or orders c o → lineage_in desc o c ≡ lineage_of desc c
  lineage_is c o l r =
      ap (λ x. unwrap_or x (reached_classes desc c)) (sym (line_at_read orders c o (let n = lines_count desc (class_count desc) orders are in omega (arith, n)) r) ∙ line_at_is desc (class_count desc) orders are c l)

  -- each class has one, where the table has one for each
  pub grounded_is : list_all (λ o. is_some o) orders ≡ true → IsGrounded desc
  grounded_is h c l =
      ap is_some (sym (line_at_is desc (class_count desc) orders are c l)) ∙ there orders c (let n = lines_count desc (class_count desc) orders are in omega (arith, n)) h
    where
      there : (os : List (Option (List ℕ))) (i : ℕ) → i < length os → list_all (λ o. is_some o) os ≡ true → is_some (line_at os i) ≡ true
      there [] i k e = absurd (omega arith)
      there (None ∷ os) i k e = absurd (cc)
      there ((Some o) ∷ os) zero k e = refl
      there ((Some o) ∷ os) (suc i) k e = there os i (omega arith) e
