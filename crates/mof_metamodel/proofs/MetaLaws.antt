-- What a metamodel says of its properties, opposites and literals, in the words of the calls that give them.
use Rattle.std.proofs.Common.{◌≡◌, ◌≢◌, ℕ, ◌+◌, ◌<◌, List, [], ◌∷◌, length, get_or, refl, sym, ◌∙◌, ap, subst, arith, zero, suc}
use Rattle.std.specs.Prelude.{Option, Some, None, Contains, IfSome, MatchOption, position}
use Rattle.std.specs.Option.{option_map, option_or, unwrap_or}
use Rattle.mof_metamodel.specs.declared.desc.MetaDesc.{MetaDesc}
use Rattle.mof_metamodel.specs.declared.desc.PropId.{PropId}
use Rattle.mof_metamodel.specs.Characters.{same_name}
use Rattle.mof_metamodel.specs.Metamodels.{class_count, class_at, enum_at, no_prop, literal_at, literal_number, prop_count, prop_at, owner_of, first_own, own_props, own_number, first_found, prop_number, lineage_of, opposite_of}
use Rattle.mof_metamodel.specs.WellMeta.{WellMeta, AreOpposites, HaveOneContainer}
use Rattle.mof_metamodel.specs.Members.{HasWhatItConformsTo, IsPropNamed, HasNoPropNamed, HasNoLiteral}
use Rattle.mof_metamodel.proofs.PropLemmas.{from_flat_map, to_flat_map, own_index, own_listed, own_is, owner_listed, listed_has}
use Rattle.mof_metamodel.proofs.SearchLemmas.{position_named, position_none}
use Rattle.mof_metamodel.proofs.WellLemmas.{conforms_listed, listed_conforms}

module _ (desc : MetaDesc) where
  -- a class has the properties of the classes that it conforms to, and no others
  pub has_exactly : (c : ℕ) → c < class_count desc → HasWhatItConformsTo desc c
  has_exactly c l p lp = (
    λ h. listed_conforms desc c (owner_of desc p) l (owner_listed desc c p h),
    λ h. listed_has desc c p lp (conforms_listed desc c (owner_of desc p) l h),
  )

  -- ---- opposites

  pub opposite_pair : WellMeta desc → (p : ℕ) → p < prop_count desc → (o : Option PropId) → option_map (λ q. q.0) o ≡ opposite_of desc p → IfSome o (λ q. AreOpposites desc p q.0)
  opposite_pair well p l None e = tt
  opposite_pair well p l (Some q) e = well.opposites p q.0 l (sym e)

  pub opposite_container : WellMeta desc → (p : ℕ) → p < prop_count desc → (o : Option PropId) → option_map (λ q. q.0) o ≡ opposite_of desc p → IfSome o (λ q. HaveOneContainer desc p q.0)
  opposite_container well p l None e = tt
  opposite_container well p l (Some q) e = well.containers p q.0 l (sym e)

  -- ---- the property of a name

  found_at : (f : ℕ → Option ℕ) (xs : List ℕ) (p : ℕ) → first_found f xs ≡ Some p → (a : ℕ) × Contains xs a × (f a ≡ Some p)
  found_at f [] p h = absurd cc
  found_at f (x ∷ xs) p h = by (found_at f xs p) (f x) refl h
    where
      by : (first_found f xs ≡ Some p → (a : ℕ) × Contains xs a × (f a ≡ Some p)) → (o : Option ℕ) → f x ≡ o → option_or o (first_found f xs) ≡ Some p → (a : ℕ) × Contains (x ∷ xs) a × (f a ≡ Some p)
      by later (Some q) e g = (x, (0, omega arith, refl), e ∙ g)
      by later None e g = let (a, (k, l, at), found) = later g in (a, (suc k, omega arith, at), found)

  found_none : (f : ℕ → Option ℕ) (xs : List ℕ) → first_found f xs ≡ None → (a : ℕ) → Contains xs a → f a ≡ None
  found_none f [] h a (k, l, e) = absurd (omega arith)
  found_none f (x ∷ xs) h a (k, l, e) = by (found_none f xs) (f x) refl h k l e
    where
      by : (first_found f xs ≡ None → (a : ℕ) → Contains xs a → f a ≡ None) → (o : Option ℕ) → f x ≡ o → option_or o (first_found f xs) ≡ None
          → (k : ℕ) → k < length (x ∷ xs) → get_or (x ∷ xs) k a ≡ a → f a ≡ None
      by later (Some q) t g k l e = absurd cc
      by later None t g zero l e = ap f (sym e) ∙ t
      by later None t g (suc k) l e = later g a (k, omega arith, e)

  own_found : (a : ℕ) (name : List ℕ) (p : ℕ) → own_number desc a name ≡ Some p → Contains (own_props desc a) p × ((prop_at desc p).name ≡ name)
  own_found a name p h = by (position (λ x. same_name name x.name) (class_at desc a).props) refl h
    where
      by : (o : Option ℕ) → position (λ x. same_name name x.name) (class_at desc a).props ≡ o → option_map (λ i. first_own desc a + i) o ≡ Some p
          → Contains (own_props desc a) p × ((prop_at desc p).name ≡ name)
      by None e g = absurd cc
      by (Some i) e g =
          let (short, named, first) = position_named (λ x. x.name) (class_at desc a).props name i no_prop e in
          let at : first_own desc a + i ≡ p = ap (λ o. unwrap_or o 0) g in (
            subst (Contains (own_props desc a)) at (own_listed desc a i short),
            ap (λ q. (prop_at desc q).name) (sym at) ∙ ap (λ x. x.1.name) (own_is desc a i short) ∙ sym named,
          )

  own_missing : (a : ℕ) (name : List ℕ) → own_number desc a name ≡ None → (p : ℕ) → Contains (own_props desc a) p → (prop_at desc p).name ≢ name
  own_missing a name h p own same =
      let (i, short, at) = own_index desc a p own in
      let none : position (λ x. same_name name x.name) (class_at desc a).props ≡ None = by (position (λ x. same_name name x.name) (class_at desc a).props) h in
      position_none (λ x. x.name) (class_at desc a).props name none i no_prop short
      (sym same ∙ ap (λ q. (prop_at desc q).name) (sym at) ∙ ap (λ x. x.1.name) (own_is desc a i short))
    where
      by : (o : Option ℕ) → option_map (λ i. first_own desc a + i) o ≡ None → o ≡ None
      by None g = refl
      by (Some i) g = absurd cc

  pub prop_named : (c : ℕ) (name : List ℕ) (o : Option PropId) → option_map (λ p. p.0) o ≡ prop_number desc c name → MatchOption o (HasNoPropNamed desc c name) (IsPropNamed desc c name)
  prop_named c name None e = λ p has.
      let (a, listed, own) = from_flat_map (own_props desc) (lineage_of desc c) p has in
      own_missing a name (found_none (λ a. own_number desc a name) (lineage_of desc c) (sym e) a listed) p own
  prop_named c name (Some p) e =
      let (a, listed, found) = found_at (λ a. own_number desc a name) (lineage_of desc c) p.0 (sym e) in
      let (own, named) = own_found a name p.0 found in
      record { has = to_flat_map (own_props desc) (lineage_of desc c) a p.0 listed own; named = named }

  -- ---- the literal of a name

  pub literal_within : (e : ℕ) (name : List ℕ) (o : Option ℕ) → o ≡ literal_number desc e name → IfSome o (λ l. l < length (enum_at desc e).literals)
  literal_within e name None h = tt
  literal_within e name (Some l) h = (position_named (λ x. x) (enum_at desc e).literals name l [] (sym h)).0

  pub literal_named : (e : ℕ) (name : List ℕ) (o : Option ℕ) → o ≡ literal_number desc e name → MatchOption o (HasNoLiteral desc e name) (λ l. literal_at desc e l ≡ name)
  literal_named e name None h = λ l short same. position_none (λ x. x) (enum_at desc e).literals name (sym h) l [] short (sym same)
  literal_named e name (Some l) h = sym (position_named (λ x. x) (enum_at desc e).literals name l [] (sym h)).1
