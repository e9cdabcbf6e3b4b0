-- A name names the first of that name: what is looked up, by its place and by what it stands for, is what the relation says.
use Rattle.std.proofs.Common.{◌≡◌, ◌<◌, ℕ, zero, suc, Bool, true, false, List, [], ◌∷◌, Option, None, Some, Err, map, cond, refl, sym, ap, ◌∙◌, subst, arith}
use Rattle.std.specs.Prelude.{slice_get}
use Rattle.std.specs.Option.{option_map}
use Rattle.std.proofs.lemmas.Bool.{false≢true}
use Rattle.std.proofs.lemmas.Option.{none-some, same_Some}
use Rattle.mof_metamodel.specs.Metamodels.{same_name}
use Rattle.mof_metamodel.proofs.SearchLemmas.{same_true, true_same}
use Rattle.ocl_environments.specs.declared.fault.TypeFault.TheVariants.{UnknownName}
use Rattle.ocl_environments.specs.Environments.{NamesWith, number_of, value_of}
use Rattle.ocl_environments.specs.Outcomes.{RuleResult}
use Rattle.ocl_types.specs.Judged.{Judged, taking}
use Rattle.ocl_types.specs.TypeRules.{IsFirstNamed, named_judged}
use Rattle.ocl_environments.proofs.ScopeLaws.{position-cons}
use Rattle.ocl_types.proofs.JudgedLaws.{Decides}
use Rattle.ocl_types.proofs.DemandLaws.{known_decides}

module _ {X : Type 0} where
  paired : Option ℕ → Option X → Option (ℕ × X)
  paired (Some n) (Some x) = Some (n, x)
  paired (Some n) None = None
  paired None o = None

  abbrev found : NamesWith X → List ℕ → Option (ℕ × X)
  found es name = paired (number_of es name) (value_of es name)

  abbrev one_later : ℕ × X → ℕ × X
  one_later p = (suc p.0, p.1)

  found_cons : (e : List ℕ × X) (es : NamesWith X) (name : List ℕ) → found (e ∷ es) name ≡ cond (same_name name e.0) (Some (0, e.1)) (option_map one_later (found es name))
  unfolding paired
  found_cons e es name =
      ap (λ o. paired o (value_of (e ∷ es) name)) (position-cons (same_name name) e.0 (map (λ f. f.0) es)) ∙ by (same_name name e.0) (number_of es name) (value_of es name)
    where
      by : (b : Bool) (o : Option ℕ) (v : Option X) → paired (cond b (Some 0) (option_map suc o)) (cond b (Some e.1) v) ≡ cond b (Some (0, e.1)) (option_map one_later (paired o v))
      by true o v = refl
      by false (Some n) (Some x) = refl
      by false (Some n) None = refl
      by false None v = refl

  found_is : (es : NamesWith X) (name : List ℕ) (p : ℕ × X) → found es name ≡ Some p → IsFirstNamed X es name p
  unfolding paired
  found_is [] name p is = absurd (none-some p is)
  found_is (e ∷ es) name p is = by (found_is es name) (same_name name e.0) refl (sym (found_cons e es name) ∙ is)
    where
      none_earlier : (n : ℕ) → same_name name e.0 ≡ false → ((k : ℕ) (x : X) → k < n → slice_get es k ≡ Some (name, x) → ⊥)
          → (k : ℕ) (x : X) → k < suc n → slice_get (e ∷ es) k ≡ Some (name, x) → ⊥
      none_earlier n differs none zero x below at = false≢true (sym differs ∙ true_same name e.0 (sym (ap (λ (q : List ℕ × X). q.0) (same_Some e (name, x) at))))
      none_earlier n differs none (suc k) x below at = none k x (omega arith) at

      behind : ((q : ℕ × X) → found es name ≡ Some q → IsFirstNamed X es name q) → (o : Option (ℕ × X)) → found es name ≡ o → same_name name e.0 ≡ false → option_map one_later o ≡ Some p → IsFirstNamed X (e ∷ es) name p
      behind rest None at differs h = absurd (none-some p h)
      behind rest (Some q) at differs h =
          let r = rest q at in
          subst (IsFirstNamed X (e ∷ es) name) (same_Some (one_later q) p h) (record { there = r.there; first = none_earlier q.0 differs r.first })

      by : ((q : ℕ × X) → found es name ≡ Some q → IsFirstNamed X es name q) → (b : Bool) → same_name name e.0 ≡ b → cond b (Some (0, e.1)) (option_map one_later (found es name)) ≡ Some p → IsFirstNamed X (e ∷ es) name p
      by rest true same h = subst (IsFirstNamed X (e ∷ es) name) (same_Some (0, e.1) p h)
          (record { there = ap (λ n. Some (n, e.1)) (sym (same_true name e.0 same)); first = λ k x below at. absurd (omega (arith, below)) })
      by rest false differs h = behind rest (found es name) refl differs h

  found_where : (es : NamesWith X) (name : List ℕ) (n : ℕ) (x : X) → IsFirstNamed X es name (n, x) → found es name ≡ Some (n, x)
  unfolding paired
  found_where [] name n x first = absurd (none-some (name, x) first.there)
  found_where (e ∷ es) name zero x first =
      let same : e ≡ (name, x) = same_Some e (name, x) first.there in
      found_cons e es name
      ∙ ap (λ b. cond b (Some (0, e.1)) (option_map one_later (found es name))) (true_same name e.0 (sym (ap (λ (q : List ℕ × X). q.0) same)))
      ∙ ap (λ (q : List ℕ × X). Some (0, q.1)) same
  found_where (e ∷ es) name (suc n) x first = by (found_where es name n x) (same_name name e.0) refl
    where
      by : (IsFirstNamed X es name (n, x) → found es name ≡ Some (n, x)) → (b : Bool) → same_name name e.0 ≡ b → found (e ∷ es) name ≡ Some (suc n, x)
      by rest true same = absurd (first.first 0 e.1 (omega arith) (ap (λ m. Some (m, e.1)) (sym (same_true name e.0 same))))
      by rest false differs =
          found_cons e es name
          ∙ ap (λ b. cond b (Some (0, e.1)) (option_map one_later (found es name))) differs
          ∙ ap (option_map one_later) (rest (record { there = first.there; first = λ k y below at. first.first (suc k) y (omega arith) at }))

  module _ {Y : Type 0} (es : NamesWith X) (name : List ℕ) (rule : Option ℕ → Option X → RuleResult Y) (rest : ℕ × X → Judged Y) where
    of_pair : Option (ℕ × X) → RuleResult Y
    of_pair (Some p) = rule (Some p.0) (Some p.1)
    of_pair None = Err (UnknownName name)

    -- what is made of the number of a name and of what it stands for
    pub named_decides : ((n : ℕ) → rule (Some n) None ≡ Err (UnknownName name)) → ((o : Option X) → rule None o ≡ Err (UnknownName name))
        → ((p : ℕ × X) → Decides (rule (Some p.0) (Some p.1)) (rest p)) → Decides (rule (number_of es name) (value_of es name)) (taking (named_judged es name) rest)
    unfolding of_pair paired
    named_decides without_value without_number some =
        subst (λ q. Decides q (taking (named_judged es name) rest)) (sym (same (number_of es name) (value_of es name)))
        (known_decides (found es name) (IsFirstNamed X es name) (UnknownName name) of_pair rest (found_is es name) (λ p has. found_where es name p.0 p.1 has) refl (λ p has. some p))
      where
        same : (o : Option ℕ) (v : Option X) → rule o v ≡ of_pair (paired o v)
        same (Some n) (Some x) = refl
        same (Some n) None = without_value n
        same None v = without_number v
