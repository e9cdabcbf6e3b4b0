-- The variables of a relation, with others behind them.
use Rattle.std.proofs.Common.{◌≡◌, ◌≤◌, ℕ, zero, suc, ◌-◌, ◌+◌, List, [], ◌∷◌, ◌++◌, length, take, drop, ◌≢◌, Option, Some, None, refl, sym, ◌∙◌, ap, arith, append-nil}
use Rattle.std.specs.Prelude.{slice_get}
use Rattle.std.proofs.lemmas.List.{append_assoc, length-append, length-map, take-map}
use Rattle.qvtr_semantics.specs.declared.datum.Datum.{Datum}
use Rattle.qvtr_semantics.specs.declared.out.Out.{Out}
use Rattle.qvtr_semantics.specs.declared.out.Out.TheVariants.{Invalid}
use Rattle.qvtr_semantics.specs.Outs.{collection_of}
use Rattle.qvtr_semantics.specs.Expressions.{Scope, bound_value, scope_of, variable}

abbrev Bound : Type 0
Bound = List (Option Datum)

pub none_behind : (b : Bound) → scope_of b ++ [] ≡ scope_of b
none_behind b = append-nil (scope_of b)

pub joined_behind : (b : Bound) (s new more : Scope) → new ≡ s ++ more → scope_of b ++ new ≡ (scope_of b ++ s) ++ more
joined_behind b s new more h = ap (λ x. scope_of b ++ x) h ∙ sym (append_assoc (scope_of b) s more)

some_same : (x y : Option Datum) → Some x ≡ Some y → x ≡ y
some_same x y e = cc

pub variable_lent : (b : Bound) (s : Scope) (n : ℕ) (o : Option Datum) → slice_get b n ≡ Some o → bound_value o ≡ variable (scope_of b ++ s) n
variable_lent [] s n o h = absurd (cc)
variable_lent (x ∷ b) s zero o h = ap bound_value (sym (some_same x o h))
variable_lent (x ∷ b) s (suc n) o h = variable_lent b s n o h

pub variable_behind : (b : Bound) (s : Scope) (n : ℕ) → slice_get b n ≡ None → variable s (n - length b) ≡ variable (scope_of b ++ s) n
variable_behind [] s n h = ap (variable s) (omega arith)
variable_behind (x ∷ b) s zero h = absurd (cc)
variable_behind (x ∷ b) s (suc n) h =
    let before : suc n - suc (length b) ≡ n - length b = omega arith in
    ap (variable s) before ∙ variable_behind b s n h

none_in : (o : Option Datum) → collection_of (bound_value o) ≡ None
none_in None = refl
none_in (Some d) = refl

pub collection_lent : (b : Bound) (s : Scope) (n : ℕ) (o : Option Datum) → slice_get b n ≡ Some o → None ≡ collection_of (variable (scope_of b ++ s) n)
collection_lent b s n o h = sym (ap collection_of (sym (variable_lent b s n o h)) ∙ none_in o)

at_place : (s : Scope) (n : ℕ) (x : Out) → slice_get s n ≡ Some x → x ≡ variable s n
at_place [] n x h = absurd (cc)
at_place (y ∷ s) zero x h = cc
at_place (y ∷ s) (suc n) x h = at_place s n x h

at_none : (s : Scope) (n : ℕ) → slice_get s n ≡ None → Invalid ≡ variable s n
at_none [] n h = refl
at_none (y ∷ s) zero h = absurd (cc)
at_none (y ∷ s) (suc n) h = at_none s n h

pub collection_behind : (b : Bound) (s : Scope) (n : ℕ) (x : Out) → slice_get b n ≡ None → slice_get s (n - length b) ≡ Some x → collection_of x ≡ collection_of (variable (scope_of b ++ s) n)
collection_behind b s n x h is = ap collection_of (at_place s (n - length b) x is ∙ variable_behind b s n h)

pub nothing_behind : (b : Bound) (s : Scope) (n : ℕ) → slice_get b n ≡ None → slice_get s (n - length b) ≡ None → None ≡ collection_of (variable (scope_of b ++ s) n)
nothing_behind b s n h is = ap collection_of (at_none s (n - length b) is ∙ variable_behind b s n h)

pub take_behind : (b : Bound) (s : Scope) (n : ℕ) → length b ≤ n → scope_of b ++ take (n - length b) s ≡ take n (scope_of b ++ s)
take_behind [] s n h =
    let all : n - 0 ≡ n = omega arith in
    ap (λ k. take k s) all
take_behind (x ∷ b) s zero h = absurd (omega (arith, h))
take_behind (x ∷ b) s (suc n) h =
    let before : suc n - suc (length b) ≡ n - length b = omega arith in
    ap (λ k. bound_value x ∷ (scope_of b ++ take k s)) before ∙ ap (λ xs. bound_value x ∷ xs) (take_behind b s n (omega (arith, h)))

pub drop_behind : (b : Bound) (s : Scope) (n : ℕ) → length b ≤ n → drop (n - length b) s ≡ drop n (scope_of b ++ s)
drop_behind [] s n h =
    let all : n - 0 ≡ n = omega arith in
    ap (λ k. drop k s) all
drop_behind (x ∷ b) s zero h = absurd (omega (arith, h))
drop_behind (x ∷ b) s (suc n) h =
    let before : suc n - suc (length b) ≡ n - length b = omega arith in
    ap (λ k. drop k s) before ∙ drop_behind b s n (omega (arith, h))

in_all : (b : Bound) (s : Scope) → length (scope_of b ++ s) ≡ length b + length s
in_all b s = length-append (scope_of b) s ∙ ap (λ k. k + length s) (length-map b bound_value)

-- the last one goes: it is none of the relation's, if there is another
pub left_behind : (b : Bound) (s new : Scope) → length s ≢ 0 → new ≡ take (length s - 1) s → scope_of b ++ new ≡ take (length (scope_of b ++ s) - 1) (scope_of b ++ s)
left_behind b s new some h =
    let count = in_all b s in
    let before : length s - 1 ≡ (length (scope_of b ++ s) - 1) - length b = omega (arith, count, some) in
    ap (λ x. scope_of b ++ x) (h ∙ ap (λ k. take k s) before) ∙ take_behind b s (length (scope_of b ++ s) - 1) (omega (arith, count, some))

pub left_lent : (b front : Bound) (s : Scope) → length s ≡ 0 → front ≡ take (length b - 1) b → scope_of front ++ s ≡ take (length (scope_of b ++ s) - 1) (scope_of b ++ s)
left_lent b front [] none h =
    append-nil (scope_of front)
    ∙ ap scope_of h
    ∙ sym (take-map bound_value (length b - 1) b)
    ∙ ap (λ k. take (k - 1) (scope_of b)) (sym (length-map b bound_value))
    ∙ ap (λ xs. take (length xs - 1) xs) (sym (append-nil (scope_of b)))
left_lent b front (x ∷ s) none h = absurd (omega (arith, none))
