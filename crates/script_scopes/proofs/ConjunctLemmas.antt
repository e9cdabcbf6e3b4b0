-- What an expression is split into, form by form.
use Rattle.std.proofs.Common.{◌≡◌, ℕ, ◌+◌, ◌<◌, List, [], ◌∷◌, ◌++◌, Bor, Bool, true, false, ◌&&◌, cond, map, take, length, get_or, refl, sym, ◌∙◌, ap, subst, append-nil}
use Rattle.std.specs.Prelude.{Option, None}
use Rattle.std.specs.List.{flat_map, list_all}
use Rattle.std.proofs.lemmas.Grind.{flat_map-append}
use Rattle.std.proofs.lemmas.List.{take_more, map-append}
use Rattle.mof_metamodel.specs.declared.span.Span.{Span}
use Rattle.qv_syntax.specs.declared.expr.Expr.{Expr, roll-Expr, map-Expr, rec-roll-Expr, fold-roll-Expr, ind-Expr}
use Rattle.qv_syntax.specs.declared.expr.Infix.{Infix, map-Infix, rec-roll-Infix}
use Rattle.qv_syntax.specs.declared.expr.Postfix.{Postfix}
use Rattle.qv_syntax.specs.declared.expr.Args.{Args}
use Rattle.qv_syntax.specs.declared.expr.Args.TheOpen as of
use Rattle.qv_syntax.specs.declared.expr.Expr.TheVariants as exprs
use Rattle.script_scopes.specs.Conjuncts.{alone_step, name_alone, Splitting, BehindOperator, is_and, conjuncts_rule, splitting, behind, conjuncts}

list_all_mapped : {X Y : Type 0} (v : X → Y) (test : Y → Bool) (xs : List X) → list_all (λ x. test (v x)) xs ≡ list_all test (map v xs)
list_all_mapped v test [] = refl
list_all_mapped v test (x ∷ xs) = ap (λ b. test (v x) && b) (list_all_mapped v test xs)

flat_mapped : {X Y Z : Type 0} (v : X → Y) (f : Y → List Z) (xs : List X) → flat_map (λ x. f (v x)) xs ≡ flat_map f (map v xs)
flat_mapped v f [] = refl
flat_mapped v f (x ∷ xs) = ap (λ ys. f (v x) ++ ys) (flat_mapped v f xs)

module _ (X X' X'' X3 : Type 0) (v : X → Args) (v' : X' → Expr) (v'' : X'' → Postfix) (v3 : X3 → Infix)
    (k : Args → Unit {1}) (k' : Expr → Splitting) (k'' : Postfix → Unit {1}) (k3 : Infix → BehindOperator) where
  abbrev seen : of.Expr-F X X' X'' X3 → Splitting
  seen x = record { of = conjuncts_rule v' (λ y. k' (v' y)) (λ y. k3 (v3 y)) x }

  abbrev mapped : of.Expr-F X X' X'' X3 → Splitting
  mapped x = record { of = conjuncts_rule (λ e. e) k' k3 (map-Expr X X' X'' X3 Args Expr Postfix Infix v v' v'' v3 x) }

  expr_seen : (x : of.Expr-F X X' X'' X3) → seen x ≡ mapped x
  expr_seen (of.Let n ty value body span) = refl
  expr_seen (of.Chain first rest span) =
      ap (λ (b : Bool). record { of = λ whole. cond b ((k' (v' first)).of (v' first) ++ flat_map (λ l. (k3 (v3 l)).conjuncts) rest) (whole ∷ []) })
      (list_all_mapped v3 (λ l. (k3 l).is_and) rest)
      ∙ ap (λ (es : List Expr). record { of = λ whole. cond (list_all (λ l. (k3 l).is_and) (map v3 rest)) ((k' (v' first)).of (v' first) ++ es) (whole ∷ []) })
      (flat_mapped v3 (λ l. (k3 l).conjuncts) rest)
  expr_seen (of.Not operand span) = refl
  expr_seen (of.Negated operand span) = refl
  expr_seen (of.Calls part [] span) = refl
  expr_seen (of.Calls part (call ∷ calls) span) = refl
  expr_seen (of.Number value span) = refl
  expr_seen (of.Str value span) = refl
  expr_seen (of.Bool value span) = refl
  expr_seen (of.Null span) = refl
  expr_seen (of.Invalid span) = refl
  expr_seen (of.Parens inner span) = refl
  expr_seen (of.If condition one other span) = refl
  expr_seen (of.Coll kind elements span) = refl
  expr_seen (of.Call n given span) = refl
  expr_seen (of.Named path) = refl

  link_seen : (x : of.Infix-F X X' X'' X3)
      → ◌≡◌ {A = BehindOperator} (record { is_and = is_and x.operator; conjuncts = (k' (v' x.right)).of (v' x.right) })
      (record { is_and = is_and (map-Infix X X' X'' X3 Args Expr Postfix Infix v v' v'' v3 x).operator; conjuncts = (k' (map-Infix X X' X'' X3 Args Expr Postfix Infix v v' v'' v3 x).right).of (map-Infix X X' X'' X3 Args Expr Postfix Infix v v' v'' v3 x).right })
  link_seen x = refl

split : (d : of.Expr-F Args Expr Postfix Infix) → splitting (roll-Expr d) ≡ record { of = conjuncts_rule (λ e. e) splitting behind d }
split d = rec-roll-Expr (Unit {1}) Splitting (Unit {1}) BehindOperator _ _ _ _ expr_seen d

behind_is : (l : Infix) → behind l ≡ record { is_and = is_and l.operator; conjuncts = conjuncts l.right }
behind_is l = rec-roll-Infix (Unit {1}) Splitting (Unit {1}) BehindOperator _ _ _ _ link_seen (record { operator = l.operator; right = l.right })

-- ---- each form

-- by a form's layer
pub by_layer : (d : of.Expr-F Args Expr Postfix Infix) (e : Expr) → roll-Expr d ≡ e → conjuncts e ≡ conjuncts_rule (λ x. x) splitting behind d e
by_layer d e is = ap (λ (s : Splitting). s.of e) (ap splitting (sym is) ∙ split d)

pub and_behind : (l : Infix) → (behind l).is_and ≡ is_and l.operator
and_behind l = ap (λ (b : BehindOperator). b.is_and) (behind_is l)

pub conjuncts_behind : (l : Infix) → (behind l).conjuncts ≡ conjuncts l.right
conjuncts_behind l = ap (λ (b : BehindOperator). b.conjuncts) (behind_is l)

pub conjuncts-Chain : (first : Expr) (rest : List Infix) (span : Span) → conjuncts (exprs.Chain first rest span)
    ≡ cond (list_all (λ l. (behind l).is_and) rest) (conjuncts first ++ flat_map (λ l. (behind l).conjuncts) rest) (exprs.Chain first rest span ∷ [])
conjuncts-Chain first rest span = by_layer (of.Chain first rest span) (exprs.Chain first rest span) (exprs.rolls-Chain first rest span)

pub conjuncts-Parens : (inner : Expr) (span : Span) → conjuncts (exprs.Parens inner span) ≡ conjuncts inner
conjuncts-Parens inner span = by_layer (of.Parens inner span) (exprs.Parens inner span) (exprs.rolls-Parens inner span)

pub conjuncts-Calls : (part : Expr) (span : Span) → conjuncts (exprs.Calls part [] span) ≡ conjuncts part
conjuncts-Calls part span = by_layer (of.Calls part [] span) (exprs.Calls part [] span) (exprs.rolls-Calls part [] span)

pub called_alone : (e part : Expr) (calls : List Postfix) (span : Span) → e ≡ exprs.Calls part calls span → (calls ≡ [] → ⊥) → conjuncts e ≡ e ∷ []
called_alone e part [] span is some = absurd (some refl)
called_alone e part (call ∷ calls) span is some = by_layer (of.Calls part (call ∷ calls) span) e (exprs.rolls-Calls part (call ∷ calls) span ∙ sym is)

-- what is called on a part is no variable
pub called_nameless : (e part : Expr) (calls : List Postfix) (span : Span) → e ≡ exprs.Calls part calls span → (calls ≡ [] → ⊥) → name_alone e ≡ None
called_nameless e part [] span is some = absurd (some refl)
called_nameless e part (call ∷ calls) span is some = ap name_alone (is ∙ sym (exprs.rolls-Calls part (call ∷ calls) span))
    ∙ fold-roll-Expr (Unit {0}) (Option (List ℕ)) (Unit {0}) (Unit {0}) (λ a. tt) alone_step (λ p. tt) (λ i. tt) (of.Calls part (call ∷ calls) span)

-- ---- references to conjuncts

abbrev shown : List (Bor Expr) → List Expr
shown rs = map {A = Bor Expr} {B = Expr} (λ r. r.now) rs

abbrev all_behind : List Infix → List Expr
all_behind ls = flat_map (λ l. (behind l).conjuncts) ls

-- one more part
pub behind_more : (links : List Infix) (i : ℕ) (link : Infix) → i < length links → link ≡ get_or links i link
    → all_behind (take i links) ++ conjuncts link.right ≡ all_behind (take (i + 1) links)
behind_more links i link l is =
    ap (λ es. all_behind (take i links) ++ es) (sym (conjuncts_behind link) ∙ sym (append-nil ((behind link).conjuncts)))
    ∙ sym (flat_map-append (λ k. (behind k).conjuncts) (take i links) (link ∷ []))
    ∙ sym (ap all_behind (take_more links i link l ∙ ap (λ y. take i links ++ y ∷ []) (sym is)))

-- an expression that is put behind others alone
pub pushed : (out new : List (Bor Expr)) (e : Bor Expr) → conjuncts e.now ≡ e.now ∷ [] → new ≡ out ++ e ∷ [] → shown new ≡ shown out ++ conjuncts e.now
pushed out new e alone is = ap shown is ∙ map-append {A = Bor Expr} {B = Expr} (λ r. r.now) out (e ∷ []) ∙ ap (λ es. shown out ++ es) (sym alone)

-- a chain of which not all operators are `and`
pub chain_alone : (e first : Expr) (rest : List Infix) (span : Span) → e ≡ exprs.Chain first rest span → list_all (λ l. (behind l).is_and) rest ≡ false → conjuncts e ≡ e ∷ []
chain_alone e first rest span is none = subst (λ (x : Expr). conjuncts x ≡ x ∷ []) (sym is)
    (conjuncts-Chain first rest span ∙ ap (λ (b : Bool). cond b (conjuncts first ++ all_behind rest) (exprs.Chain first rest span ∷ [])) none)

-- one of which all are
pub chain_split : (e first : Expr) (rest : List Infix) (span : Span) → e ≡ exprs.Chain first rest span → list_all (λ l. (behind l).is_and) rest ≡ true → conjuncts e ≡ conjuncts first ++ all_behind rest
chain_split e first rest span is all = ap conjuncts is ∙ conjuncts-Chain first rest span
    ∙ ap (λ (b : Bool). cond b (conjuncts first ++ all_behind rest) (exprs.Chain first rest span ∷ [])) all

-- ---- all other forms

-- each expression has a layer
layered : (e : Expr) → (d : of.Expr-F Args Expr Postfix Infix) × (roll-Expr d ≡ e)
layered = ind-Expr (λ a. Unit {0}) (λ e. (d : of.Expr-F Args Expr Postfix Infix) × (roll-Expr d ≡ e)) (λ p. Unit {0}) (λ l. Unit {0})
    (λ x y is. tt) (λ x y is. (x, refl)) (λ x y is. tt) (λ x y is. tt)

pub other_alone : (e : Expr) → ((f : Expr) (r : List Infix) (s : Span) → e ≡ exprs.Chain f r s → ⊥) → ((i : Expr) (s : Span) → e ≡ exprs.Parens i s → ⊥)
    → ((p : Expr) (ks : List Postfix) (s : Span) → e ≡ exprs.Calls p ks s → ⊥) → conjuncts e ≡ e ∷ []
other_alone e no_chain no_parens no_calls = let (d, is) = layered e in by d is
  where
    by : (d : of.Expr-F Args Expr Postfix Infix) → roll-Expr d ≡ e → conjuncts e ≡ e ∷ []
    by (of.Let n ty value body span) is = by_layer (of.Let n ty value body span) e is
    by (of.Chain first rest span) is = absurd (no_chain first rest span (sym is ∙ exprs.rolls-Chain first rest span))
    by (of.Not operand span) is = by_layer (of.Not operand span) e is
    by (of.Negated operand span) is = by_layer (of.Negated operand span) e is
    by (of.Calls part calls span) is = absurd (no_calls part calls span (sym is ∙ exprs.rolls-Calls part calls span))
    by (of.Number value span) is = by_layer (of.Number value span) e is
    by (of.Str value span) is = by_layer (of.Str value span) e is
    by (of.Bool value span) is = by_layer (of.Bool value span) e is
    by (of.Null span) is = by_layer (of.Null span) e is
    by (of.Invalid span) is = by_layer (of.Invalid span) e is
    by (of.Parens inner span) is = absurd (no_parens inner span (sym is ∙ exprs.rolls-Parens inner span))
    by (of.If condition one other span) is = by_layer (of.If condition one other span) e is
    by (of.Coll kind elements span) is = by_layer (of.Coll kind elements span) e is
    by (of.Call n given span) is = by_layer (of.Call n given span) e is
    by (of.Named path) is = by_layer (of.Named path) e is
