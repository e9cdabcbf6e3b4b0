-- Variables behind those of an environment.
use Rattle.std.proofs.Common.{◌≡◌, ℕ, suc, ◌+◌, ◌-◌, Bool, true, false, List, [], ◌∷◌, ◌++◌, Option, None, Some, map, length, take, get_or, refl, sym, ◌∙◌, ap, append_assoc, cond, ltb, not, arith, length-append}
use Rattle.std.specs.Prelude.{position, MatchOption}
use Rattle.std.specs.Option.{option_map, option_or}
use Rattle.std.specs.List.{position_or_len}
use Rattle.std.proofs.Math.Seq.{take-append_seam}
use Rattle.std.proofs.lemmas.Bool.{cond-true}
use Rattle.std.proofs.lemmas.Bool.Decides.{nat_tests}
use Rattle.mof_metamodel.specs.Metamodels.{same_name}
use Rattle.mof_metamodel.proofs.TableLemmas.{position-map}
use Rattle.ocl_environments.specs.declared.variable.Variable.{Variable}
use Rattle.ocl_environments.specs.Environments.{NamesWith, number_of, value_of, with_variable}
use Rattle.ocl_environments.specs.Scopes.{Reach, in_reach, entered}

-- what was entered is one more variable of the environment
pub entered_reach : (scope : Reach) (name : List ℕ) (variable : Variable) → in_reach (entered scope name variable) ≡ with_variable (in_reach scope) name variable
entered_reach scope name variable =
    ap (λ vs. record scope.outer { variables = vs }) (sym (append_assoc scope.outer.variables scope.locals ((name, variable) ∷ [])))

without_last : {X : Type 0} (xs : List X) (x : X) → take (length (xs ++ x ∷ []) - 1) (xs ++ x ∷ []) ≡ xs
without_last xs x =
    let before : length (xs ++ x ∷ []) - 1 ≡ length xs = omega (arith, length-append xs (x ∷ [])) in
    ap (λ n. take n (xs ++ x ∷ [])) before ∙ take-append_seam xs (x ∷ [])

pub popped : {X : Type 0} (o : Option X) (before after : List X) → MatchOption o ((before ≡ []) × (after ≡ [])) (λ last. before ≡ after ++ last ∷ [])
    → after ≡ take (length before - 1) before
popped None before after is = is.1 ∙ sym (ap (λ xs. take (length xs - 1) xs) is.0)
popped (Some x) before after is = sym (without_last after x) ∙ sym (ap (λ xs. take (length xs - 1) xs) is)

-- the first place that passes
shifted : (a b : ℕ) → cond (ltb (1 + a) (suc b)) (Some (1 + a)) None ≡ option_map suc (cond (ltb a b) (Some a) None)
shifted a b = by (ltb (1 + a) (suc b)) (ltb a b) same
  where
    same : ltb (1 + a) (suc b) ≡ ltb a b
    same = grind (arith, nat_tests)

    by : (p q : Bool) → p ≡ q → cond p (Some (1 + a)) None ≡ option_map suc (cond q (Some a) None)
    by true true e = ap Some (omega arith)
    by true false e = absurd (cc)
    by false true e = absurd (cc)
    by false false e = refl

pub position-cons : {X : Type 0} (p : X → Bool) (x : X) (xs : List X) → position p (x ∷ xs) ≡ cond (p x) (Some 0) (option_map suc (position p xs))
position-cons p x xs = by (p x)
  where
    by : (b : Bool) → cond (ltb (cond (not b) (1 + position_or_len p xs) 0) (suc (length xs))) (Some (cond (not b) (1 + position_or_len p xs) 0)) None
        ≡ cond b (Some 0) (option_map suc (position p xs))
    by true = let first : ltb 0 (suc (length xs)) ≡ true = grind (arith, nat_tests) in cond-true _ _ _ first
    by false = shifted (position_or_len p xs) (length xs)

same_option : (o : Option ℕ) → o ≡ option_map (λ i. 0 + i) o
same_option None = refl
same_option (Some i) = ap Some (omega arith)

-- the first of a name stands in front of those behind
pub number_behind : {X : Type 0} (es fs : NamesWith X) (name : List ℕ)
    → number_of (es ++ fs) name ≡ option_or (number_of es name) (option_map (λ i. length es + i) (number_of fs name))
number_behind [] fs name = same_option (number_of fs name)
number_behind (e ∷ es) fs name =
    position-cons (same_name name) e.0 (map (λ f. f.0) (es ++ fs))
    ∙ ap (λ o. cond (same_name name e.0) (Some 0) (option_map suc o)) (number_behind es fs name)
    ∙ by (same_name name e.0) (number_of es name) (number_of fs name)
    ∙ ap (λ o. option_or o (option_map (λ i. suc (length es) + i) (number_of fs name))) (sym (position-cons (same_name name) e.0 (map (λ f. f.0) es)))
  where
    by : (b : Bool) (o q : Option ℕ) → cond b (Some 0) (option_map suc (option_or o (option_map (λ i. length es + i) q)))
        ≡ option_or (cond b (Some 0) (option_map suc o)) (option_map (λ i. suc (length es) + i) q)
    by true o q = refl
    by false None None = refl
    by false None (Some i) = ap Some (omega arith)
    by false (Some i) q = refl

value_behind : {X : Type 0} (es fs : NamesWith X) (name : List ℕ) → value_of (es ++ fs) name ≡ option_or (value_of es name) (value_of fs name)
value_behind [] fs name = refl
value_behind (e ∷ es) fs name = by (same_name name e.0) (value_behind es fs name)
  where
    by : (b : Bool) → value_of (es ++ fs) name ≡ option_or (value_of es name) (value_of fs name)
        → cond b (Some e.1) (value_of (es ++ fs) name) ≡ option_or (cond b (Some e.1) (value_of es name)) (value_of fs name)
    by true rest = refl
    by false rest = rest

-- what stands at the place of a name
pub value_at : {X : Type 0} (es : NamesWith X) (name : List ℕ) (d : List ℕ × X) → value_of es name ≡ option_map (λ i. (get_or es i d).1) (number_of es name)
value_at [] name d = refl
value_at (e ∷ es) name d =
    ap (cond (same_name name e.0) (Some e.1)) (value_at es name d)
    ∙ by (same_name name e.0) (number_of es name)
    ∙ ap (option_map (λ i. (get_or (e ∷ es) i d).1)) (sym (position-cons (same_name name) e.0 (map (λ f. f.0) es)))
  where
    by : (b : Bool) (o : Option ℕ) → cond b (Some e.1) (option_map (λ i. (get_or es i d).1) o)
        ≡ option_map (λ i. (get_or (e ∷ es) i d).1) (cond b (Some 0) (option_map suc o))
    by true o = refl
    by false None = refl
    by false (Some i) = refl

-- the place that is looked for is that of the name
place_number : {X : Type 0} (es : NamesWith X) (name : List ℕ) → position (λ e. same_name name e.0) es ≡ number_of es name
place_number es name = sym (position-map (same_name name) (λ e. e.0) es)

pub local_number : {X : Type 0} (es fs : NamesWith X) (name : List ℕ) (o : Option ℕ) → o ≡ position (λ e. same_name name e.0) fs
    → option_map (λ i. length es + i) o ≡ option_map (λ i. length es + i) (number_of fs name)
local_number es fs name o is = ap (option_map (λ i. length es + i)) (is ∙ place_number fs name)

pub local_value : {X : Type 0} (es : NamesWith X) (name : List ℕ) (d : List ℕ × X) (o : Option ℕ) → o ≡ position (λ e. same_name name e.0) es
    → option_map (λ i. (get_or es i d).1) o ≡ value_of es name
local_value es name d o is = ap (option_map (λ i. (get_or es i d).1)) (is ∙ place_number es name) ∙ sym (value_at es name d)

pub absent : {X : Type 0} (es : NamesWith X) (name : List ℕ) → None ≡ position (λ e. same_name name e.0) es → None ≡ value_of es name
absent [] name is = refl
absent (e ∷ es) name is = local_value (e ∷ es) name e None is

-- a name that the environment has is found there, and else among those behind
module _ {X : Type 0} (es fs : NamesWith X) (name : List ℕ) where
  pub number_outside : (n : ℕ) → Some n ≡ number_of es name → Some n ≡ number_of (es ++ fs) name
  number_outside n is = sym (number_behind es fs name ∙ ap (λ o. option_or o (option_map (λ i. length es + i) (number_of fs name))) (sym is))

  pub value_outside : (x : X) → Some x ≡ value_of es name → Some x ≡ value_of (es ++ fs) name
  value_outside x is = sym (value_behind es fs name ∙ ap (λ o. option_or o (value_of fs name)) (sym is))

  pub number_inside : (o : Option ℕ) → None ≡ number_of es name → o ≡ option_map (λ i. length es + i) (number_of fs name) → o ≡ number_of (es ++ fs) name
  number_inside o absent is = is ∙ sym (number_behind es fs name ∙ ap (λ p. option_or p (option_map (λ i. length es + i) (number_of fs name))) (sym absent))

  pub value_inside : (o : Option X) → None ≡ value_of es name → o ≡ value_of fs name → o ≡ value_of (es ++ fs) name
  value_inside o absent is = is ∙ sym (value_behind es fs name ∙ ap (λ p. option_or p (value_of fs name)) (sym absent))
