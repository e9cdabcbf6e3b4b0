-- Tables of equations by their variables.
use Rattle.std.specs.Prelude.{◌≡◌, ◌≢◌, ◌<◌, ◌≤◌, ◌&&◌, ◌==◌, ℕ, zero, suc, Bool, true, false, if◌then◌else◌, List, [], ◌∷◌, length, map, replicate, Option, None, Some, is_none, slice_index_or, slice_set, nat_lt}
use Rattle.std.specs.List.{range_with_len}
use Rattle.std.specs.Option.{option_map, option_or}
use Rattle.std.proofs.Common.{refl, sym, ap, subst, ◌∙◌, arith, inl, inr, eqb, eq-eqb, ext_get_or, get_or-set_same, get_or-set_other}
use Rattle.std.proofs.lemmas.Bool.{cases_lt, cases_eq, true≢false, eqb-true, lt-ltb, ltb-true}
use Rattle.std.proofs.lemmas.List.{length-set, length-map, get_or-map, get_or_default, get_or_past, map-set, length-replicate, get_or-replicate}
use Rattle.std.proofs.lemmas.List.FromFn.{length-map-range_with_len, get_or-map-range_with_len}
use Rattle.qv_syntax.specs.declared.program.Conj.{Conj}
use Rattle.qv_syntax.specs.declared.program.Conj.TheVariants as conjuncts
use Rattle.qv_syntax.specs.declared.program.Rel.{Rel}
use Rattle.qv_syntax.specs.declared.typed.Typed.{Typed}
use Rattle.repair_semantics.specs.Making.{variables, equation_of}
use Rattle.entry_making.specs.declared.origin.Equation.{Equation}
use Rattle.entry_making.specs.Equations.{Equated, shown_equation, equated, with_equated, with_conjunct, with_conjuncts, at_node}

-- an empty table, as it is shown
pub shown_empty : (n : ℕ) → map (option_map shown_equation) (replicate n None) ≡ replicate n None
shown_empty zero = refl
shown_empty (suc n) = ap (λ xs. None ∷ xs) (shown_empty n)

-- an item that is none
pub is_nothing : (t : List (Option Equation)) (v : ℕ) (o : Option Equation) → v < length t → o ≡ slice_index_or t v o → is_none o ≡ true → is_none (slice_index_or t v None) ≡ true
is_nothing t v o below is none = ap is_none (get_or_default t v None o below ∙ sym is) ∙ none

-- the equation put into its empty place
pub put_there : (t : List (Option Equation)) (q : Equation) → q.variable < length t → is_none (slice_index_or t q.variable None) ≡ true
    → map (option_map shown_equation) (slice_set t q.variable (Some q)) ≡ with_equated (map (option_map shown_equation) t) (shown_equation q)
put_there t q below empty =
    let long : q.variable < length (map (option_map shown_equation) t) = omega (arith, below, length-map t (option_map shown_equation)) in
    let none : is_none (slice_index_or (map (option_map shown_equation) t) q.variable None) ≡ true =
    ap is_none (get_or-map (option_map shown_equation) t q.variable None None below) ∙ shown_none (slice_index_or t q.variable None) ∙ empty in
    rw (lt-ltb q.variable (length (map (option_map shown_equation) t)) long, none) (map-set (option_map shown_equation) t q.variable (Some q))
  where
    shown_none : (o : Option Equation) → is_none (option_map shown_equation o) ≡ is_none o
    shown_none None = refl
    shown_none (Some q) = refl

-- what a table has for a variable, as it is shown
pub shown_at : (t : List (Option Equation)) (v : ℕ) (o : Option Equation) → v < length t → o ≡ slice_index_or t v o → option_map shown_equation o ≡ at_node (map (option_map shown_equation) t) v
shown_at t v o below is =
    ap (option_map shown_equation) (is ∙ get_or_default t v o None below) ∙ sym (get_or-map (option_map shown_equation) t v None None below)

pub shown_past : (t : List (Option Equation)) (v : ℕ) → length t ≤ v → None ≡ at_node (map (option_map shown_equation) t) v
shown_past t v past = sym (get_or_past (map (option_map shown_equation) t) v None (omega (arith, past, length-map t (option_map shown_equation))))

-- an equation whose place isn't empty, or that has no place, changes nothing
pub put_nowhere : (t : List (Option Equated)) (q : Equated) → length t ≤ q.0 → with_equated t q ≡ t
put_nowhere t q past = by (nat_lt q.0 (length t)) refl
  where
    by : (b : Bool) → nat_lt q.0 (length t) ≡ b → with_equated t q ≡ t
    by true is = let less = ltb-true q.0 (length t) is in absurd (omega (arith, less, past))
    by false is = rw is refl

-- ---- a table of all conjuncts

long_with : (t : List (Option Equated)) (c : Conj) → length (with_conjunct t c) ≡ length t
long_with t (conjuncts.Cond e) = refl
long_with t (conjuncts.Equation v e) = by (nat_lt v (length t) && is_none (slice_index_or t v None))
  where
    by : (b : Bool) → length (if b then slice_set t v (Some (v, e)) else t) ≡ length t
    by true = length-set t v (Some (v, e))
    by false = refl
long_with t (conjuncts.Call n args) = refl

-- what one conjunct gives a variable
abbrev own : Conj → ℕ → Option Equated
own c w = equated (c ∷ []) w

with_at : (t : List (Option Equated)) (c : Conj) (w : ℕ) → w < length t → at_node (with_conjunct t c) w ≡ option_or (at_node t w) (own c w)
with_at t (conjuncts.Cond e) w below = or_none (at_node t w)
  where
    or_none : (o : Option Equated) → o ≡ option_or o None
    or_none None = refl
    or_none (Some q) = refl
with_at t (conjuncts.Call n args) w below = or_none (at_node t w)
  where
    or_none : (o : Option Equated) → o ≡ option_or o None
    or_none None = refl
    or_none (Some q) = refl
with_at t (conjuncts.Equation v e) w below = elim (cases_eq v w) [
  | inl same ↦ here same (slice_index_or t v None) refl
  | inr ne ↦ other ne (nat_lt v (length t) && is_none (slice_index_or t v None))
]
  where
    here : v ≡ w → (o : Option Equated) → slice_index_or t v None ≡ o → at_node (with_equated t (v, e)) w ≡ option_or (at_node t w) (own (conjuncts.Equation v e) w)
    here same None is =
        let less : v < length t = omega (arith, below, same) in
        rw (lt-ltb v (length t) less, is)
        (ap (at_node (slice_set t v (Some (v, e)))) (sym same) ∙ get_or-set_same t v (Some (v, e)) None less
        ∙ sym (ap (λ o. option_or o (own (conjuncts.Equation v e) w)) (ap (at_node t) (sym same) ∙ is) ∙ ap (λ b. option_map (λ x. (w, x)) (if b then Some e else None)) (eq-eqb v w same) ∙ ap (λ k. Some (k, e)) (sym same)))
    here same (Some q) is =
        let less : v < length t = omega (arith, below, same) in
        let there : at_node t w ≡ Some q = ap (at_node t) (sym same) ∙ is in
        rw (lt-ltb v (length t) less, is) (there ∙ sym (ap (λ o. option_or o (own (conjuncts.Equation v e) w)) there))

    other : v ≢ w → (b : Bool) → at_node (if b then slice_set t v (Some (v, e)) else t) w ≡ option_or (at_node t w) (own (conjuncts.Equation v e) w)
    other ne b =
        let no : (v == w) ≡ false = differs (eqb v w) refl in
        flat b ∙ or_none (at_node t w) ∙ sym (ap (λ x. option_or (at_node t w) (option_map (λ y. (w, y)) (if x then Some e else None))) no)
      where
        differs : (x : Bool) → eqb v w ≡ x → eqb v w ≡ false
        differs true is = absurd (ne (eqb-true v w is))
        differs false is = is

        flat : (x : Bool) → at_node (if x then slice_set t v (Some (v, e)) else t) w ≡ at_node t w
        flat true = get_or-set_other t v w (Some (v, e)) None (λ h. ne (sym h))
        flat false = refl

        or_none : (o : Option Equated) → o ≡ option_or o None
        or_none None = refl
        or_none (Some q) = refl

first_of : (c : Conj) (cs : List Conj) (w : ℕ) → option_or (own c w) (equated cs w) ≡ equated (c ∷ cs) w
first_of (conjuncts.Cond e) cs w = refl
first_of (conjuncts.Equation v e) cs w = by (v == w)
  where
    by : (b : Bool) → option_or (option_map (λ x. (w, x)) (if b then Some e else None)) (equated cs w) ≡ option_map (λ x. (w, x)) (if b then Some e else equation_of cs w)
    by true = refl
    by false = refl
first_of (conjuncts.Call n args) cs w = refl

all_at : (t : List (Option Equated)) (cs : List Conj) (w : ℕ) → w < length t → at_node (with_conjuncts t cs) w ≡ option_or (at_node t w) (equated cs w)
all_at t [] w below = or_none (at_node t w)
  where
    or_none : (o : Option Equated) → o ≡ option_or o None
    or_none None = refl
    or_none (Some q) = refl
all_at t (c ∷ cs) w below =
    all_at (with_conjunct t c) cs w (omega (arith, below, long_with t c)) ∙ ap (λ o. option_or o (equated cs w)) (with_at t c w below)
    ∙ or_or (at_node t w) (own c w) (equated cs w) ∙ ap (option_or (at_node t w)) (first_of c cs w)
  where
    or_or : (a b d : Option Equated) → option_or (option_or a b) d ≡ option_or a (option_or b d)
    or_or None b d = refl
    or_or (Some q) b d = refl

all_long : (t : List (Option Equated)) (cs : List Conj) → length (with_conjuncts t cs) ≡ length t
all_long t [] = refl
all_long t (c ∷ cs) = all_long (with_conjunct t c) cs ∙ long_with t c

-- all conjuncts put into an empty table give the first equation of each variable
pub whole_table : (rel : Rel) → with_conjuncts (replicate (length rel.vars) None) rel.wheres ≡ map (equated rel.wheres) (variables rel)
whole_table rel =
    let n = length rel.vars in
    let empty : List (Option Equated) = replicate n None in
    let long : length empty ≡ n = length-replicate n None in
    ext_get_or None (with_conjuncts empty rel.wheres) (map (equated rel.wheres) (variables rel))
    (all_long empty rel.wheres ∙ long ∙ sym (length-map-range_with_len (equated rel.wheres) 0 n)) (λ w below.
    let b : w < length empty = omega (arith, below, all_long empty rel.wheres) in
    all_at empty rel.wheres w b
    ∙ ap (λ o. option_or o (equated rel.wheres w)) (get_or-replicate n w None None (omega (arith, b, long)))
    ∙ sym (get_or-map-range_with_len (equated rel.wheres) 0 n w w None (omega (arith, b, long)) (omega arith)))
