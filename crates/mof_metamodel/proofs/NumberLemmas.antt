-- Properties by the numbers of their names: two have one name exactly where they have one number.
use Rattle.std.proofs.Common.{◌≡◌, ℕ, ◌+◌, ◌<◌, ◌≤◌, List, [], ◌∷◌, ◌++◌, Bool, true, false, cond, ◌||◌, refl, sym, ◌∙◌, ap, subst, arith, length, get_or, set, map, take, inl, inr, eqb, eq-eqb, true≢false}
use Rattle.std.specs.Prelude.{nat_eq, Some, None, All}
use Rattle.std.specs.List.{list_any, position_or_len}
use Rattle.std.specs.Option.{unwrap_or}
use Rattle.std.specs.Cmp.{both_ways}
use Rattle.std.specs.Cmp.Lexicographic.{same_text, bytes_decides}
use Rattle.std.proofs.lemmas.Bool.{eqb-true, eqb-false, cases_lt, lt-ltb}
use Rattle.std.proofs.lemmas.List.{get_or_default, get_or-set_same, get_or-set_other, map-append, take_more}
use Rattle.std.proofs.lemmas.List.Elements.{All-head, All-tail}
use Rattle.std.proofs.lemmas.List.Folds.{list_any-append}
use Rattle.std.proofs.lemmas.List.Sums.{fails_before_first, passes_at_first}
use Rattle.mof_metamodel.specs.declared.desc.MetaDesc.{MetaDesc}
use Rattle.mof_metamodel.specs.declared.desc.PropId.{PropId}
use Rattle.mof_metamodel.specs.Metamodels.{same_name, no_prop, declared_props, declared_at, prop_count, prop_at}
use Rattle.mof_metamodel.specs.Tables.{Names, Numbers, number_in, with_name, name_number, IsPropOf}
use Rattle.mof_metamodel.proofs.NameLemmas.{numbers_more}

module _ (desc : MetaDesc) where
  -- a property has its own name, so the first one with that name is none behind it
  pub number_within : (p : ℕ) → p < prop_count desc → name_number desc p ≤ p
  number_within p l = elim (cases_lt p (name_number desc p)) [
    | inl past ↦ absurd (true≢false (
        sym ((bytes_decides (prop_at desc p).name (prop_at desc p).name).1 refl)
        ∙ fails_before_first (λ d. same_name (prop_at desc p).name d.1.name) (declared_props desc) p (0, no_prop) past))
    | inr at ↦ omega arith
  ]

  -- the first property with the name has it
  pub number_name : (p : ℕ) → p < prop_count desc → (prop_at desc p).name ≡ (prop_at desc (name_number desc p)).name
  number_name p l =
      same_text _ _ (sym (passes_at_first (λ d. same_name (prop_at desc p).name d.1.name) (declared_props desc) (0, no_prop) (let w = number_within p l in omega (arith, w))))

  pub same_numbers : (p q : ℕ) → p < prop_count desc → q < prop_count desc → nat_eq (name_number desc p) (name_number desc q) ≡ same_name (prop_at desc p).name (prop_at desc q).name
  same_numbers p q l m = both_ways _ _
      (λ e. (bytes_decides _ _).1 (number_name p l ∙ ap (λ n. (prop_at desc n).name) (eqb-true _ _ e) ∙ sym (number_name q m)))
      (λ e. eq-eqb _ _ (ap (λ (name : List ℕ). position_or_len (λ d. same_name name d.1.name) (declared_props desc)) (same_text _ _ (sym e))))

  -- a number was met where a name was
  pub met_alike : (p : PropId) (ps : List PropId) → p.0 < prop_count desc → All (IsPropOf desc) ps
      → list_any (nat_eq (name_number desc p.0)) (map (λ q. name_number desc q.0) ps) ≡ list_any (same_name (prop_at desc p.0).name) (map (λ q. (prop_at desc q.0).name) ps)
  met_alike p [] l all = refl
  met_alike p (q ∷ ps) l all =
      ap (λ b. b || list_any (nat_eq (name_number desc p.0)) (map (λ x. name_number desc x.0) ps)) (same_numbers p.0 q.0 l (All-head (IsPropOf desc) q ps all))
      ∙ ap (λ b. same_name (prop_at desc p.0).name (prop_at desc q.0).name || b) (met_alike p ps l (All-tail (IsPropOf desc) q ps all))

  -- one number more was met
  pub met_set : (order : List PropId) (i : ℕ) (p : PropId) (marks : List Bool) (count : ℕ) → i < length order → p ≡ get_or order i p → length marks ≡ count → name_number desc p.0 < count
      → ((n : ℕ) → n < count → get_or marks n false ≡ list_any (nat_eq n) (map (λ q. name_number desc q.0) (take i order)))
      → (n : ℕ) → n < count → get_or (set marks (name_number desc p.0) true) n false ≡ list_any (nat_eq n) (map (λ q. name_number desc q.0) (take (i + 1) order))
  met_set order i p marks count l r long inside met n m =
      by (eqb n (name_number desc p.0)) refl
      ∙ sym (ap (list_any (nat_eq n)) (ap (map (λ q. name_number desc q.0)) (take_more order i p l ∙ ap (λ y. take i order ++ y ∷ []) (sym r)) ∙ map-append (λ q. name_number desc q.0) (take i order) (p ∷ []))
      ∙ list_any-append (nat_eq n) (map (λ q. name_number desc q.0) (take i order)) (name_number desc p.0 ∷ []))
    where
      or_true : (a : Bool) → true ≡ (a || (true || false))
      or_true true = refl
      or_true false = refl

      or_none : (a : Bool) → a ≡ (a || (false || false))
      or_none true = refl
      or_none false = refl

      by : (b : Bool) → eqb n (name_number desc p.0) ≡ b
          → get_or (set marks (name_number desc p.0) true) n false ≡ (list_any (nat_eq n) (map (λ q. name_number desc q.0) (take i order)) || (eqb n (name_number desc p.0) || false))
      by true e =
          ap (λ k. get_or (set marks (name_number desc p.0) true) k false) (eqb-true n _ e) ∙ get_or-set_same marks (name_number desc p.0) true false (omega (arith, inside, long))
          ∙ or_true (list_any (nat_eq n) (map (λ q. name_number desc q.0) (take i order)))
          ∙ sym (ap (λ b. list_any (nat_eq n) (map (λ q. name_number desc q.0) (take i order)) || (b || false)) e)
      by false e =
          get_or-set_other marks (name_number desc p.0) n true false (eqb-false n _ e) ∙ met n m
          ∙ or_none (list_any (nat_eq n) (map (λ q. name_number desc q.0) (take i order)))
          ∙ sym (ap (λ b. list_any (nat_eq n) (map (λ q. name_number desc q.0) (take i order)) || (b || false)) e)

  -- what a table of all names says of a property's name
  pub number_found : (names : Names) (p : ℕ) → p < prop_count desc → Numbers (λ d. d.1.name) (declared_props desc) names → unwrap_or (number_in names (prop_at desc p).name) p ≡ name_number desc p
  number_found names p l are =
      ap (λ o. unwrap_or o p) (are (prop_at desc p).name)
      ∙ ap (λ b. unwrap_or (cond b (Some (name_number desc p)) None) p) (lt-ltb (name_number desc p) (prop_count desc) (let w = number_within p l in omega (arith, w)))

  -- one property's name more
  pub names_more : (names : Names) (p : ℕ) → p < prop_count desc → Numbers (λ d. d.1.name) (take p (declared_props desc)) names
      → (names' : Names) → names' ≡ with_name names (prop_at desc p).name p → Numbers (λ d. d.1.name) (take (p + 1) (declared_props desc)) names'
  names_more names p l are names' e =
      let P : Names → Type 0 = λ ns. Numbers (λ d. d.1.name) (take (p + 1) (declared_props desc)) ns in
      let there : declared_at desc p ≡ get_or (declared_props desc) p (declared_at desc p) = get_or_default (declared_props desc) p (0, no_prop) (declared_at desc p) l in
      subst P (sym e) (numbers_more (λ d. d.1.name) (declared_props desc) p (declared_at desc p) names l there are)
