-- Which conjuncts are equations, told conjunct by conjunct, is what `Divisions` says by places.
use Rattle.std.proofs.Common.{◌≡◌, ◌<◌, ◌⊎◌, inl, inr, ℕ, zero, suc, List, [], ◌∷◌, ◌++◌, Bool, true, false, not, ◌&&◌, cond, refl, sym, ◌∙◌, ap, subst, take, arith, ⊎_elim, true≢false, append-nil}
use Rattle.std.specs.Prelude.{Option, Some, None, Contains, slice_get}
use Rattle.std.specs.Set.{is_member}
use Rattle.std.proofs.lemmas.Option.{same_Some, none-some, slice_get_within}
use Rattle.std.proofs.lemmas.List.Elements.{Contains-append_left, Contains-append_right, Contains-append_cases}
use Rattle.mof_metamodel.specs.Characters.{same_name}
use Rattle.qv_syntax.specs.declared.expr.Expr.{Expr}
use Rattle.qv_syntax.specs.declared.script.BlockTree.{BlockTree}
use Rattle.qv_syntax.specs.declared.script.RelationTree.{RelationTree}
use Rattle.script_scopes.specs.Usages.{variables_in}
use Rattle.script_scopes.specs.Conjuncts.{clause_conjuncts, equation_of}
use Rattle.script_scopes.specs.Divisions.{IsGivenAt, IsEquation}
use Rattle.qvtr_types.specs.Equations.{unless_named, given_by, with_given, given_after, first_given, equation_behind, IsSaid}
use Rattle.script_scopes.proofs.NameLemmas.{has_name, name_had, lacks_name}

-- ---- what a conjunct gives

unnamed_from : (o : Option (List ℕ × Expr)) (v : List ℕ) (e : Expr) → unless_named o ≡ Some (v, e) → (o ≡ Some (v, e)) × (Contains (variables_in e) v → ⊥)
unnamed_from None v e h = absurd (none-some (v, e) h)
unnamed_from (Some said) v e h = by (is_member same_name (variables_in said.1) said.0) refl h
  where
    by : (b : Bool) → is_member same_name (variables_in said.1) said.0 ≡ b → cond b None (Some said) ≡ Some (v, e) → (◌≡◌ {A = Option (List ℕ × Expr)} (Some said) (Some (v, e))) × (Contains (variables_in e) v → ⊥)
    by true at g = absurd (none-some (v, e) g)
    by false at g = (g, subst (λ (p : List ℕ × Expr). Contains (variables_in p.1) p.0 → ⊥) (same_Some said (v, e) g) (lacks_name (variables_in said.1) said.0 at))

unnamed_to : (v : List ℕ) (e : Expr) → (Contains (variables_in e) v → ⊥) → unless_named (Some (v, e)) ≡ Some (v, e)
unnamed_to v e lacks = by (is_member same_name (variables_in e) v) refl
  where
    by : (b : Bool) → is_member same_name (variables_in e) v ≡ b → cond {A = Option (List ℕ × Expr)} b None (Some (v, e)) ≡ Some (v, e)
    by true at = absurd (lacks (has_name (variables_in e) v at))
    by false at = refl

given_from : (c : Expr) (v : List ℕ) (e : Expr) → given_by c ≡ Some (v, e) → (equation_of c ≡ Some (v, e)) × (Contains (variables_in e) v → ⊥)
given_from c v e h = unnamed_from (equation_of c) v e h

given_to : (c : Expr) (v : List ℕ) (e : Expr) → equation_of c ≡ Some (v, e) → (Contains (variables_in e) v → ⊥) → given_by c ≡ Some (v, e)
given_to c v e is lacks = ap unless_named is ∙ unnamed_to v e lacks

-- ---- names that are given

module _ (met : List (List ℕ)) (v : List ℕ) where
  with_from : (o : Option (List ℕ × Expr)) → Contains (with_given met o) v → Contains met v ⊎ ((f : Expr) × (o ≡ Some (v, f)))
  with_from None c = inl c
  with_from (Some said) c = ⊎_elim (λ left. inl left) (λ right. by (is_member same_name met said.0) right)
      (Contains-append_cases met (cond (is_member same_name met said.0) [] (said.0 ∷ [])) v c)
    where
      by : (b : Bool) → Contains (cond b [] (said.0 ∷ [])) v → Contains met v ⊎ ((f : Expr) × (Some said ≡ Some (v, f)))
      by true (k, l, at) = absurd (omega arith)
      by false (zero, l, at) = inr (said.1, ap (λ (n : List ℕ). Some (n, said.1)) at)
      by false (suc k, l, at) = absurd (omega arith)

  with_old : (o : Option (List ℕ × Expr)) → Contains met v → Contains (with_given met o) v
  with_old None c = c
  with_old (Some said) c = Contains-append_left met (cond (is_member same_name met said.0) [] (said.0 ∷ [])) v c

  with_new : (f : Expr) → Contains (with_given met (Some (v, f))) v
  with_new f = by (is_member same_name met v) refl
    where
      by : (b : Bool) → is_member same_name met v ≡ b → Contains (met ++ cond b [] (v ∷ [])) v
      by true at = Contains-append_left met [] v (has_name met v at)
      by false at = Contains-append_right met (v ∷ []) v (0, omega arith, refl)

-- the conjunct at this place gives the variable
pub record IsGivenIn (cs : List Expr) (place : ℕ) (v : List ℕ) (f : Expr) : Type 0 where
  pub conjunct : Expr
  pub found : slice_get cs place ≡ Some conjunct
  pub by : given_by conjunct ≡ Some (v, f)

after_old : (v : List ℕ) (met : List (List ℕ)) (cs : List Expr) → Contains met v → Contains (given_after met cs) v
after_old v met [] c = c
after_old v met (e ∷ cs) c = after_old v (with_given met (given_by e)) cs (with_old met v (given_by e) c)

after_new : (v : List ℕ) (f : Expr) (met : List (List ℕ)) (cs : List Expr) (k : ℕ) → IsGivenIn cs k v f → Contains (given_after met cs) v
after_new v f met [] k g = absurd (none-some g.conjunct g.found)
after_new v f met (e ∷ cs) zero g =
    after_old v (with_given met (given_by e)) cs
    (subst (λ (o : Option (List ℕ × Expr)). Contains (with_given met o) v) (sym (ap given_by (same_Some e g.conjunct g.found) ∙ g.by)) (with_new met v f))
after_new v f met (e ∷ cs) (suc k) g = after_new v f (with_given met (given_by e)) cs k (record { conjunct = g.conjunct; found = g.found; by = g.by })

-- a name that is given was met before, or is given at a place
after_from : (v : List ℕ) (met : List (List ℕ)) (cs : List Expr) → Contains (given_after met cs) v → Contains met v ⊎ ((k : ℕ) × (f : Expr) × IsGivenIn cs k v f)
after_from v met [] c = inl c
after_from v met (e ∷ cs) c = ⊎_elim
    (λ met_there. ⊎_elim (λ old. inl old) (λ new. inr (0, new.0, record { conjunct = e; found = refl; by = new.1 })) (with_from met v (given_by e) met_there))
    (λ later. inr (suc later.0, later.1, record { conjunct = later.2.conjunct; found = later.2.found; by = later.2.by }))
    (after_from v (with_given met (given_by e)) cs c)

pub after_more : (met : List (List ℕ)) (cs : List Expr) (c : Expr) → given_after met (cs ++ c ∷ []) ≡ with_given (given_after met cs) (given_by c)
after_more met [] c = refl
after_more met (e ∷ cs) c = after_more (with_given met (given_by e)) cs c

-- ---- places before another

taken_from : (cs : List Expr) (i k : ℕ) (c : Expr) → slice_get (take i cs) k ≡ Some c → (k < i) × (slice_get cs k ≡ Some c)
taken_from [] zero k c found = absurd (none-some c found)
taken_from [] (suc i) k c found = absurd (none-some c found)
taken_from (e ∷ cs) zero k c found = absurd (none-some c found)
taken_from (e ∷ cs) (suc i) zero c found = (omega arith, found)
taken_from (e ∷ cs) (suc i) (suc k) c found = let h = taken_from cs i k c found in let below : k < i = h.0 in (omega (arith, below), h.1)

taken_to : (cs : List Expr) (i k : ℕ) (c : Expr) → k < i → slice_get cs k ≡ Some c → slice_get (take i cs) k ≡ Some c
taken_to [] i k c below found = absurd (none-some c found)
taken_to (e ∷ cs) zero k c below found = absurd (omega (arith, below))
taken_to (e ∷ cs) (suc i) zero c below found = found
taken_to (e ∷ cs) (suc i) (suc k) c below found = taken_to cs i k c (omega (arith, below)) found

-- ---- equations

module _ (test : List ℕ → Bool) (met : List (List ℕ)) where
  first_from : (o : Option (List ℕ × Expr)) (v : List ℕ) (e : Expr) → first_given test met o ≡ Some (v, e) → (o ≡ Some (v, e)) × (test v ≡ true) × (Contains met v → ⊥)
  first_from None v e h = absurd (none-some (v, e) h)
  first_from (Some said) v e h = by (test said.0) (is_member same_name met said.0) refl refl h
    where
      by : (a b : Bool) → test said.0 ≡ a → is_member same_name met said.0 ≡ b → cond (a && not b) (Some said) None ≡ Some (v, e)
          → (◌≡◌ {A = Option (List ℕ × Expr)} (Some said) (Some (v, e))) × (test v ≡ true) × (Contains met v → ⊥)
      by true true p q g = absurd (none-some (v, e) g)
      by true false p q g =
          let same : said ≡ (v, e) = same_Some said (v, e) g in (
            g,
            subst (λ (x : List ℕ × Expr). test x.0 ≡ true) same p,
            subst (λ (x : List ℕ × Expr). Contains met x.0 → ⊥) same (lacks_name met said.0 q),
          )
      by false b p q g = absurd (none-some (v, e) g)

  first_to : (v : List ℕ) (e : Expr) → test v ≡ true → (Contains met v → ⊥) → first_given test met (Some (v, e)) ≡ Some (v, e)
  first_to v e passes lacks = by (is_member same_name met v) refl
    where
      by : (b : Bool) → is_member same_name met v ≡ b → cond {A = Option (List ℕ × Expr)} (test v && not (is_member same_name met v)) (Some (v, e)) None ≡ Some (v, e)
      by true at = absurd (lacks (has_name met v at))
      by false at =
          ap (λ (a : Bool). cond {A = Option (List ℕ × Expr)} (a && not (is_member same_name met v)) (Some (v, e)) None) passes
          ∙ ap (λ (b : Bool). cond {A = Option (List ℕ × Expr)} (true && not b) (Some (v, e)) None) at

  -- the equation is what the conjunct says
  pub behind_said : (c : Expr) (o : Option (List ℕ × Expr)) → o ≡ equation_behind test met c → IsSaid c o
  behind_said c None h = tt
  behind_said c (Some (v, e)) h = (given_from c v e (first_from (given_by c) v e (sym h)).0).0

module _ (Data : List ℕ → Type 0) (target : List ℕ) (r : RelationTree) (IsSought : List ℕ → Type 0) (clause : Option BlockTree) (test : List ℕ → Bool) where
  abbrev conjuncts : List Expr
  conjuncts = clause_conjuncts clause

  -- what is given before a place
  abbrev before : ℕ → List (List ℕ)
  before k = given_after [] (take k conjuncts)

  abbrev IsOne : ℕ → List ℕ → Expr → Type 0
  IsOne k v e = IsEquation Data target r IsSought clause k v e

  given_before : (k : ℕ) (v : List ℕ) → Contains (before k) v → (earlier : ℕ) × (f : Expr) × (earlier < k) × IsGivenAt Data target r clause earlier v f
  given_before k v c = ⊎_elim
      (λ none. let (j, l, at) = none in absurd (omega arith))
      (λ some.
      let there = taken_from conjuncts k some.0 some.2.conjunct some.2.found in
      let said = given_from some.2.conjunct v some.1 some.2.by in
      (some.0, some.1, there.0, record { conjunct = some.2.conjunct; found = there.1; is = said.0; other = said.1 }))
      (after_from v [] (take k conjuncts) c)

  before_given : (k earlier : ℕ) (v : List ℕ) (f : Expr) → earlier < k → IsGivenAt Data target r clause earlier v f → Contains (before k) v
  before_given k earlier v f below g =
      after_new v f [] (take k conjuncts) earlier (record { conjunct = g.conjunct; found = taken_to conjuncts k earlier g.conjunct below g.found; by = given_to g.conjunct v f g.is g.other })

  pub equation_from : ((v : List ℕ) → test v ≡ true → Data v × IsSought v) → (k : ℕ) (c : Expr) (v : List ℕ) (e : Expr) → slice_get conjuncts k ≡ Some c
      → equation_behind test (before k) c ≡ Some (v, e) → IsOne k v e
  equation_from passes k c v e found h =
      let (given, tested, first) = first_from test (before k) (given_by c) v e h in
      let said = given_from c v e given in
      let sought = passes v tested in record {
        single = sought.0;
        sought = sought.1;
        given = record { conjunct = c; found = found; is = said.0; other = said.1 };
        first = λ earlier f below g. first (before_given k earlier v f below g);
      }

  pub equation_to : ((v : List ℕ) → Data v → IsSought v → test v ≡ true) → (k : ℕ) (c : Expr) (v : List ℕ) (e : Expr) → slice_get conjuncts k ≡ Some c
      → IsOne k v e → equation_behind test (before k) c ≡ Some (v, e)
  equation_to passes k c v e found one =
      let same : one.given.conjunct ≡ c = same_Some one.given.conjunct c (sym one.given.found ∙ found) in
      ap (first_given test (before k)) (given_to c v e (subst (λ (x : Expr). equation_of x ≡ Some (v, e)) same one.given.is) one.given.other)
      ∙ first_to test (before k) v e (passes v one.single one.sought) (λ there. let (earlier, f, below, g) = given_before k v there in one.first earlier f below g)
