-- Who is among the elements that operations give, and how often.
use Rattle.std.proofs.Common.{◌≡◌, ◌+◌, Bool, true, false, cond, List, [], ◌∷◌, ◌++◌, length, map, refl, sym, ◌∙◌, ap, subst, arith}
use Rattle.std.specs.Prelude.{◌&&◌, ◌||◌, not, Option, None, Some}
use Rattle.std.specs.List.{items_where_true, count_by}
use Rattle.std.proofs.lemmas.List.Sums.{sum_by-cons}
use Rattle.qv_syntax.specs.declared.type_tree.Kind.{Kind}
use Rattle.qv_syntax.specs.declared.type_tree.Kind.TheVariants.{Set, Bag, Sequence, OrderedSet}
use Rattle.qvtr_semantics.specs.declared.datum.Datum.{Datum}
use Rattle.qvtr_semantics.specs.Data.{same_datum, is_among, distinct}
use Rattle.qvtr_semantics.specs.Truth.{and, or, negation}
use Rattle.qvtr_semantics.specs.Collections.{kept, without}
use Rattle.ocl_eval.specs.OrderLaws.{same_decides, same_swapped}
use Rattle.ocl_eval.proofs.SetLaws.{among-in_order, among-distinct}

-- ---- a kind of collection keeps its members

pub among-kept : (kind : Kind) (e : Datum) (ds : List Datum) → is_among e (kept kind ds) ≡ is_among e ds
among-kept Set e ds = among-in_order e (distinct ds) ∙ among-distinct e ds
among-kept Bag e ds = among-in_order e ds
among-kept Sequence e ds = refl
among-kept OrderedSet e ds = among-distinct e ds

pub among-append : (e : Datum) (ds es : List Datum) → is_among e (ds ++ es) ≡ is_among e ds || is_among e es
among-append e [] es = refl
among-append e (d ∷ ds) es = ap (λ b. same_datum e d || b) (among-append e ds es) ∙ grouped (same_datum e d) (is_among e ds) (is_among e es)
  where
    grouped : (a b c : Bool) → a || (b || c) ≡ (a || b) || c
    grouped true b c = refl
    grouped false b c = refl

pub without_absent : (d : Datum) (ds : List Datum) → is_among d ds ≡ false → ds ≡ without d ds
without_absent d [] h = refl
without_absent d (x ∷ xs) h = go (same_datum d x) refl (without_absent d xs) h
  where
    go : (a : Bool) → same_datum d x ≡ a → (is_among d xs ≡ false → xs ≡ without d xs) → a || is_among d xs ≡ false → x ∷ xs ≡ cond (not (same_datum d x)) (x ∷ without d xs) (without d xs)
    go true p more h = absurd (cc)
    go false p more h = ap (λ ys. x ∷ ys) (more h) ∙ ap (λ b. cond (not b) (x ∷ without d xs) (without d xs)) (sym p)

among-without : (e d : Datum) (ds : List Datum) → is_among e (without d ds) ≡ not (same_datum d e) && is_among e ds
among-without e d [] = none (same_datum d e)
  where
    none : (a : Bool) → false ≡ not a && false
    none true = refl
    none false = refl
among-without e d (x ∷ xs) = go (same_datum d x) refl (same_datum e x) refl (among-without e d xs)
  where
    go : (a : Bool) → same_datum d x ≡ a → (s : Bool) → same_datum e x ≡ s → is_among e (without d xs) ≡ not (same_datum d e) && is_among e xs
        → is_among e (cond (not a) (x ∷ without d xs) (without d xs)) ≡ not (same_datum d e) && (s || is_among e xs)
    go true p true q more =
        let is : same_datum d e ≡ true = subst (λ y. same_datum d y ≡ true) (sym ((same_decides e x).0 q)) p in
        more ∙ ap (λ b. not b && is_among e xs) is ∙ sym (ap (λ b. not b && (true || is_among e xs)) is)
    go true p false q more = more
    go false p true q more =
        let is : same_datum d e ≡ false = subst (λ y. same_datum d y ≡ false) (sym ((same_decides e x).0 q)) p in
        ap (λ b. b || is_among e (without d xs)) q ∙ sym (ap (λ b. not b && true) is)
    go false p false q more = ap (λ b. b || is_among e (without d xs)) q ∙ more

-- `excluding` after `including`
pub excluded_again : (kind : Kind) (ds : List Datum) (d e : Datum) → is_among e (without d (kept kind (ds ++ d ∷ []))) ≡ is_among e (without d ds)
excluded_again kind ds d e =
    among-without e d (kept kind (ds ++ d ∷ [])) ∙ ap (λ b. not (same_datum d e) && b) (among-kept kind e (ds ++ d ∷ []) ∙ among-append e ds (d ∷ [])) ∙ other (same_datum d e) (is_among e ds) (same_datum e d) (same_swapped e d)
    ∙ sym (among-without e d ds)
  where
    other : (a b c : Bool) → c ≡ a → not a && (b || (c || false)) ≡ not a && b
    other true b c h = refl
    other false true c h = refl
    other false false c h = ap (λ x. x || false) h

-- ---- select and reject

pub divided : (bs : List Bool) (ds : List Datum) (d : Datum) → length bs ≡ length ds
    → count_by (same_datum d) (items_where_true bs ds) + count_by (same_datum d) (items_where_true (map not bs) ds) ≡ count_by (same_datum d) ds
divided [] [] d h = refl
divided [] (x ∷ xs) d h = absurd (omega (arith, h))
divided (b ∷ bs) [] d h = absurd (omega (arith, h))
divided (true ∷ bs) (x ∷ xs) d h =
    omega (arith, sum_by-cons (λ y. cond (same_datum d y) 1 0) x (items_where_true bs xs), sum_by-cons (λ y. cond (same_datum d y) 1 0) x xs, divided bs xs d (omega (arith, h)))
divided (false ∷ bs) (x ∷ xs) d h =
    omega (arith, sum_by-cons (λ y. cond (same_datum d y) 1 0) x (items_where_true (map not bs) xs), sum_by-cons (λ y. cond (same_datum d y) 1 0) x xs, divided bs xs d (omega (arith, h)))

-- ---- Booleans

pub negated_and : (p q : Option Bool) → negation (and p q) ≡ or (negation p) (negation q)
negated_and (Some false) q = refl
negated_and (Some true) q = refl
negated_and None (Some false) = refl
negated_and None (Some true) = refl
negated_and None None = refl

pub negated_or : (p q : Option Bool) → negation (or p q) ≡ and (negation p) (negation q)
negated_or (Some false) q = refl
negated_or (Some true) q = refl
negated_or None (Some false) = refl
negated_or None (Some true) = refl
negated_or None None = refl
