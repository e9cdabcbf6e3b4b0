-- Which classes have a property of a name, and which it is.
use Rattle.std.proofs.Common.{◌≡◌, ℕ, ◌+◌, ◌<◌, List, [], refl, sym, ◌∙◌, ap, subst, arith, length, get_or, map, inl, inr, replicate, cond}
use Rattle.std.specs.Prelude.{Contains, Option, Some, None, position, MatchOption, IfSome}
use Rattle.std.proofs.lemmas.Bool.{cases_lt, lt-ltb}
use Rattle.std.proofs.lemmas.List.{get_or-map, length-map, length-replicate, get_or_default}
use Rattle.mof_metamodel.specs.declared.desc.MetaDesc.{MetaDesc}
use Rattle.mof_metamodel.specs.declared.entries.Entry.{Entry}
use Rattle.mof_metamodel.specs.Metamodels.{same_name, class_count, props_of, prop_count, prop_at, owner_of, declared_props, prop_number, no_prop}
use Rattle.mof_metamodel.specs.WellMeta.{WellMeta}
use Rattle.mof_metamodel.specs.Members.{HasNoPropNamed}
use Rattle.mof_metamodel.specs.Tables.{Names, Numbers, number_in, name_number, entry, AddsEntries, AreHolders}
use Rattle.mof_metamodel.proofs.EntryLemmas.{no_entry, classes_none}
use Rattle.mof_metamodel.proofs.NumberLemmas.{number_within, number_name}
use Rattle.mof_metamodel.proofs.PropLemmas.{owner_listed, prop_known}
use Rattle.mof_metamodel.proofs.SearchLemmas.{position_named}
use Rattle.mof_metamodel.proofs.MetaLaws.{prop_named}
use Rattle.mof_metamodel.proofs.WellLemmas.{listed_conforms}

module _ (desc : MetaDesc) where
  pub holders_none : (holders : List (List Entry)) → holders ≡ replicate (prop_count desc) [] → AreHolders desc 0 holders
  holders_none holders is = record {
    count = ap length is ∙ length-replicate (prop_count desc) [];
    classes = classes_none holders (prop_count desc) is;
    sound = λ k e h. absurd (no_entry holders (prop_count desc) is k e h);
    complete = λ c p l h. absurd (omega (arith, l));
  }

  -- the properties of one class more
  pub holders_more : (holders holders' : List (List Entry)) (c : ℕ) → AreHolders desc c holders → AddsEntries holders holders' (map (name_number desc) (props_of desc c)) (props_of desc c) (length (props_of desc c)) c
      → AreHolders desc (c + 1) holders'
  holders_more holders holders' c are adds = record {
    count = adds.count ∙ are.count;
    classes = adds.classes are.classes;
    sound = λ k e h. elim (adds.only k e h) [
      | inl f ↦ are.sound k e f
      | inr f ↦ (
          let long = length-map (props_of desc c) (name_number desc) in
          let short : f.0 < length (props_of desc c) = (let l = f.1 in omega (arith, l, long)) in
          let number : get_or (map (name_number desc) (props_of desc c)) f.0 0 ≡ name_number desc (get_or (props_of desc c) f.0 0) = get_or-map (name_number desc) (props_of desc c) f.0 0 0 short in
          let P : Entry → Type 0 = λ x. Contains (props_of desc x.class) x.value × (name_number desc x.value ≡ k) in
          subst P (sym f.3) ((f.0, short, get_or_default (props_of desc c) f.0 (get_or (props_of desc c) f.0 0) 0 short), sym number ∙ sym f.2))
    ];
    complete = λ d p l h. elim (cases_lt d c) [
      | inl before ↦ adds.kept (name_number desc p) (entry d p) (are.complete d p before h)
      | inr past ↦ (
          let same : c ≡ d = omega (arith, l, past) in
          let P : ℕ → Type 0 = λ x. Contains (props_of desc x) p in
          let Q : ℕ → Type 0 = λ x. Contains (get_or holders' (name_number desc p) []) (entry x p) in
          subst Q same (here p (subst P (sym same) h)))
    ];
  }
    where
      here : (p : ℕ) → Contains (props_of desc c) p → Contains (get_or holders' (name_number desc p) []) (entry c p)
      here p (i, short, is) =
          let long = length-map (props_of desc c) (name_number desc) in
          let at : get_or (props_of desc c) i 0 ≡ p = get_or_default (props_of desc c) i 0 p short ∙ is in
          let number : get_or (map (name_number desc) (props_of desc c)) i 0 ≡ name_number desc p = get_or-map (name_number desc) (props_of desc c) i 0 0 short ∙ ap (name_number desc) at in
          let P : ℕ → Type 0 = λ k. Contains (get_or holders' k []) (entry c p) in
          let Q : ℕ → Type 0 = λ v. Contains (get_or holders' (get_or (map (name_number desc) (props_of desc c)) i 0) []) (entry c v) in
          subst P number (subst Q at (adds.added i short (omega (arith, short, long))))

  -- ---- the property of a name

  module _ (well : WellMeta desc) (c : ℕ) (l : c < class_count desc) (name : List ℕ) where
    -- a property of the class that has the name is the one
    pub prop_is : (p : ℕ) → Contains (props_of desc c) p → (prop_at desc p).name ≡ name → prop_number desc c name ≡ Some p
    prop_is p has named = by (prop_number desc c name) refl
      where
        by : (o : Option ℕ) → prop_number desc c name ≡ o → prop_number desc c name ≡ Some p
        by None e = absurd (prop_named desc c name None (sym e) p has named)
        by (Some q) e =
            let other = prop_named desc c name (Some (record { 0 = q })) (sym e) in
            let same : q ≡ p = well.distinct.props c q p l (prop_known desc c q other.has) (prop_known desc c p has)
            (listed_conforms desc c (owner_of desc q) l (owner_listed desc c q other.has)) (listed_conforms desc c (owner_of desc p) l (owner_listed desc c p has)) (other.named ∙ sym named) in
            e ∙ ap Some same

    -- and where none has it, there is none
    pub prop_is_none : HasNoPropNamed desc c name → prop_number desc c name ≡ None
    prop_is_none none = by (prop_number desc c name) refl
      where
        by : (o : Option ℕ) → prop_number desc c name ≡ o → prop_number desc c name ≡ None
        by None e = e
        by (Some q) e = absurd (let other = prop_named desc c name (Some (record { 0 = q })) (sym e) in none q other.has other.named)

  module _ (names : Names) (are : Numbers (λ d. d.1.name) (declared_props desc) names) (name : List ℕ) where
    -- a property with a name has the number of this name
    number_of_name : (p : ℕ) → p < prop_count desc → (prop_at desc p).name ≡ name → number_in names name ≡ Some (name_number desc p)
    number_of_name p l named =
        are name ∙ ap (λ (x : List ℕ). position (λ d. same_name x d.1.name) (declared_props desc)) (sym named)
        ∙ ap (λ b. cond b (Some (name_number desc p)) None) (lt-ltb (name_number desc p) (prop_count desc) (let w = number_within desc p l in omega (arith, w)))

    -- a name without a number is that of no property
    pub no_number : (c : ℕ) → number_in names name ≡ None → HasNoPropNamed desc c name
    no_number c none p has named = let some = number_of_name p (prop_known desc c p has) named in cc

    -- a number is that of a property with this name
    pub number_short : (n : ℕ) → number_in names name ≡ Some n → n < prop_count desc
    number_short n e = (position_named (λ d. d.1.name) (declared_props desc) name n (0, no_prop) (sym (are name) ∙ e)).0

    module _ (well : WellMeta desc) (holders : List (List Entry)) (held : AreHolders desc (class_count desc) holders) (c n : ℕ) (l : c < class_count desc) (number : number_in names name ≡ Some n) where
      pub held_is : (p : ℕ) → Contains (get_or holders n []) (entry c p) → prop_number desc c name ≡ Some p
      held_is p h =
          let is = held.sound n (entry c p) h in
          let known = prop_known desc c p is.0 in
          let first = position_named (λ d. d.1.name) (declared_props desc) name n (0, no_prop) (sym (are name) ∙ number) in
          prop_is well c l name p is.0 (number_name desc p known ∙ ap (λ k. (prop_at desc k).name) is.1 ∙ sym first.1)

      pub held_none : ((p : ℕ) → Contains (get_or holders n []) (entry c p) → ⊥) → prop_number desc c name ≡ None
      held_none none = prop_is_none well c l name (λ p has named.
          let some = number_of_name p (prop_known desc c p has) named in
          let same : name_number desc p ≡ n = cc in
          let P : ℕ → Type 0 = λ k. Contains (get_or holders k []) (entry c p) in
          none p (subst P same (held.complete c p l has)))

      -- what a look-up among the entries of the name's number finds
      pub held_result : (es : List Entry) (o : Option ℕ) → es ≡ get_or holders n [] → MatchOption o ((v : ℕ) → Contains es (entry c v) → ⊥) (λ v. Contains es (entry c v)) → o ≡ prop_number desc c name
      held_result es None is none = sym (held_none (λ p h. none p (subst (λ xs. Contains xs (entry c p)) (sym is) h)))
      held_result es (Some v) is h = sym (held_is v (subst (λ xs. Contains xs (entry c v)) is h))

      pub held_within : (es : List Entry) (o : Option ℕ) → es ≡ get_or holders n [] → MatchOption o ((v : ℕ) → Contains es (entry c v) → ⊥) (λ v. Contains es (entry c v)) → IfSome o (λ p. p < prop_count desc)
      held_within es None is none = tt
      held_within es (Some v) is h = prop_known desc c v (held.sound n (entry c v) (subst (λ xs. Contains xs (entry c v)) is h)).0
