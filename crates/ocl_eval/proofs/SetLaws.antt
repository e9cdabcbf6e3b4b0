-- A list in value order without its repeats is `in_order` of its distinct elements.
use Rattle.std.proofs.Common.{◌≡◌, Bool, true, false, cond, List, [], ◌∷◌, refl, sym, ◌∙◌, ap, subst, true≢false}
use Rattle.std.specs.Prelude.{⊤, ◌&&◌, ◌||◌, not}
use Rattle.std.specs.List.{AllByRecursion, dedup, dedup_from}
use Rattle.qvtr_semantics.specs.declared.datum.Datum.{Datum}
use Rattle.qvtr_semantics.specs.Data.{same_datum, is_before, is_among, placed, in_order, new_ones, distinct}
use Rattle.qv_syntax.specs.declared.type_tree.Kind.TheVariants.{Set}
use Rattle.qvtr_semantics.specs.Collections.{bounded, collection}
use Rattle.ocl_eval.specs.OrderLaws.{same_decides}
use Rattle.ocl_eval.proofs.SortLaws.{weak, one_of, not_itself, IsRising, rising-in_order, all-placed}

same_itself : (d : Datum) → same_datum d d ≡ true
same_itself d = (same_decides d d).1 refl

-- ---- who is among whom

among-placed : (e d : Datum) (xs : List Datum) → is_among e (placed d xs) ≡ same_datum e d || is_among e xs
among-placed e d [] = refl
among-placed e d (x ∷ xs) = go (is_before x d) (among-placed e d xs)
  where
    turn : (a b c : Bool) → a || (b || c) ≡ b || (a || c)
    turn true true c = refl
    turn true false c = refl
    turn false b c = refl

    go : (b : Bool) → is_among e (placed d xs) ≡ same_datum e d || is_among e xs → is_among e (cond b (x ∷ placed d xs) (d ∷ x ∷ xs)) ≡ same_datum e d || is_among e (x ∷ xs)
    go true more = ap (λ b. same_datum e x || b) more ∙ turn (same_datum e x) (same_datum e d) (is_among e xs)
    go false more = refl

pub among-in_order : (e : Datum) (xs : List Datum) → is_among e (in_order xs) ≡ is_among e xs
among-in_order e [] = refl
among-in_order e (x ∷ xs) = among-placed e x (in_order xs) ∙ ap (λ b. same_datum e x || b) (among-in_order e xs)

-- what is new is what was not met
met_or_new : (e d : Datum) (met ds : List Datum) (m : Bool) → is_among d met ≡ m → is_among e (new_ones met ds) ≡ not (is_among e met) && is_among e ds
    → is_among e (new_ones (d ∷ met) ds) ≡ not (is_among e (d ∷ met)) && is_among e ds
    → is_among e (cond m (new_ones met ds) (d ∷ new_ones (d ∷ met) ds)) ≡ not (is_among e met) && is_among e (d ∷ ds)
met_or_new e d met ds m k old new = go (same_datum e d) refl m k
  where
    past : (a b : Bool) → not a && b ≡ not a && (false || b)
    past a b = refl

    go : (s : Bool) → same_datum e d ≡ s → (m : Bool) → is_among d met ≡ m → is_among e (cond m (new_ones met ds) (d ∷ new_ones (d ∷ met) ds)) ≡ not (is_among e met) && (same_datum e d || is_among e ds)
    go true q true k =
        let there : is_among e met ≡ true = subst (λ x. is_among x met ≡ true) (sym ((same_decides e d).0 q)) k in
        old ∙ ap (λ b. not b && is_among e ds) there ∙ sym (ap (λ b. not b && (same_datum e d || is_among e ds)) there)
    go true q false k =
        let there : is_among e met ≡ false = subst (λ x. is_among x met ≡ false) (sym ((same_decides e d).0 q)) k in
        ap (λ b. b || is_among e (new_ones (d ∷ met) ds)) q ∙ sym (ap (λ b. not b && (same_datum e d || is_among e ds)) there ∙ ap (λ b. b || is_among e ds) q)
    go false q true k = old ∙ sym (ap (λ b. not (is_among e met) && (b || is_among e ds)) q)
    go false q false k =
        ap (λ b. b || is_among e (new_ones (d ∷ met) ds)) q ∙ new ∙ ap (λ b. not (b || is_among e met) && is_among e ds) q ∙ sym (ap (λ b. not (is_among e met) && (b || is_among e ds)) q)

among-new_ones : (e : Datum) (met ds : List Datum) → is_among e (new_ones met ds) ≡ not (is_among e met) && is_among e ds
among-new_ones e met [] = none (is_among e met)
  where
    none : (a : Bool) → false ≡ not a && false
    none true = refl
    none false = refl
among-new_ones e met (d ∷ ds) = met_or_new e d met ds (is_among d met) refl (among-new_ones e met ds) (among-new_ones e (d ∷ met) ds)

pub among-distinct : (e : Datum) (ds : List Datum) → is_among e (distinct ds) ≡ is_among e ds
among-distinct e ds = among-new_ones e [] ds

among-dedup_from : (e k : Datum) (xs : List Datum) → is_among e (dedup_from same_datum k xs) ≡ same_datum e k || is_among e xs
among-dedup_from e k [] = refl
among-dedup_from e k (x ∷ xs) = go (same_datum x k) refl (among-dedup_from e k xs) (among-dedup_from e x xs)
  where
    twice : (a b : Bool) → a || b ≡ a || (a || b)
    twice true b = refl
    twice false b = refl

    go : (b : Bool) → same_datum x k ≡ b → is_among e (dedup_from same_datum k xs) ≡ same_datum e k || is_among e xs → is_among e (dedup_from same_datum x xs) ≡ same_datum e x || is_among e xs
        → is_among e (cond b (dedup_from same_datum k xs) (k ∷ dedup_from same_datum x xs)) ≡ same_datum e k || (same_datum e x || is_among e xs)
    go true q same other = same ∙ twice (same_datum e k) (is_among e xs) ∙ ap (λ y. same_datum e k || (same_datum e y || is_among e xs)) (sym ((same_decides x k).0 q))
    go false q same other = ap (λ b. same_datum e k || b) other

among-dedup : (e : Datum) (xs : List Datum) → is_among e (dedup same_datum xs) ≡ is_among e xs
among-dedup e [] = refl
among-dedup e (x ∷ xs) = among-dedup_from e x xs

-- ---- lists that rise

abbrev IsStrict : List Datum → Type 0
IsStrict [] = ⊤
IsStrict (x ∷ xs) = AllByRecursion (λ z. is_before x z ≡ true) xs × IsStrict xs

before_other : (x y : Datum) → is_before y x ≡ false → same_datum y x ≡ false → is_before x y ≡ true
before_other x y h k = go (is_before x y) refl
  where
    go : (b : Bool) → is_before x y ≡ b → is_before x y ≡ true
    go true e = e
    go false e = absurd (true≢false (sym ((same_decides y x).1 (one_of y x h e)) ∙ k))

-- below what is below
chained : (x y z : Datum) → is_before x y ≡ true → is_before y z ≡ true → is_before x z ≡ true
chained x y z h k = go (is_before x z) refl
  where
    go : (b : Bool) → is_before x z ≡ b → is_before x z ≡ true
    go true e = e
    go false e = absurd (true≢false (sym h ∙ weak.chain x z y e (weak.one_way y z k)))

raised : (x y : Datum) (zs : List Datum) → is_before x y ≡ true → AllByRecursion (λ z. is_before y z ≡ true) zs → AllByRecursion (λ z. is_before x z ≡ true) zs
raised x y [] h a = tt
raised x y (z ∷ zs) h a = (chained x y z h a.0, raised x y zs h a.1)

apart : (x y : Datum) → is_before x y ≡ true → same_datum x y ≡ false
apart x y h = go (same_datum x y) refl
  where
    go : (b : Bool) → same_datum x y ≡ b → same_datum x y ≡ false
    go true e = absurd (true≢false (sym h ∙ ap (is_before x) (sym ((same_decides x y).0 e)) ∙ not_itself x))
    go false e = e

lacks : (x : Datum) (xs : List Datum) → AllByRecursion (λ z. is_before x z ≡ true) xs → is_among x xs ≡ false
lacks x [] a = refl
lacks x (z ∷ zs) a = ap (λ b. b || is_among x zs) (apart x z a.0) ∙ lacks x zs a.1

-- what stands among elements that are all above x is above x
found_above : (x y : Datum) (zs : List Datum) → AllByRecursion (λ z. is_before x z ≡ true) zs → is_among y zs ≡ true → is_before x y ≡ true
found_above x y [] a h = absurd (true≢false (sym h))
found_above x y (z ∷ zs) a h = go (same_datum y z) refl h (found_above x y zs a.1)
  where
    go : (b : Bool) → same_datum y z ≡ b → b || is_among y zs ≡ true → (is_among y zs ≡ true → is_before x y ≡ true) → is_before x y ≡ true
    go true e k more = subst (λ w. is_before x w ≡ true) (sym ((same_decides y z).0 e)) a.0
    go false e k more = more k

same_heads : (x : Datum) (xs : List Datum) (y : Datum) (ys : List Datum) → IsStrict (x ∷ xs) → IsStrict (y ∷ ys) → ((e : Datum) → is_among e (x ∷ xs) ≡ is_among e (y ∷ ys)) → x ≡ y
same_heads x xs y ys up on same = go (same_datum x y) refl
  where
    first : (a b : Datum) (bs : List Datum) → same_datum a b ≡ false → is_among a (b ∷ bs) ≡ true → is_among a bs ≡ true
    first a b bs e h = sym (ap (λ c. c || is_among a bs) e) ∙ h

    itself : (a : Datum) (rest : List Datum) → is_among a (a ∷ rest) ≡ true
    itself a rest = ap (λ c. c || is_among a rest) (same_itself a)

    other : same_datum x y ≡ false → same_datum y x ≡ false
    other e = swapped (same_datum y x) refl e
      where
        swapped : (b : Bool) → same_datum y x ≡ b → same_datum x y ≡ false → same_datum y x ≡ false
        swapped true q e = absurd (true≢false (sym ((same_decides x y).1 (sym ((same_decides y x).0 q))) ∙ e))
        swapped false q e = q

    go : (b : Bool) → same_datum x y ≡ b → x ≡ y
    go true e = (same_decides x y).0 e
    go false e =
        let above : is_before y x ≡ true = found_above y x ys on.0 (first x y ys e (sym (same x) ∙ itself x xs)) in
        let below : is_before x y ≡ true = found_above x y xs up.0 (first y x xs (other e) (same y ∙ itself y ys)) in
        absurd (true≢false (sym above ∙ weak.one_way x y below))

same_rest : (x : Datum) (xs ys : List Datum) → IsStrict (x ∷ xs) → IsStrict (x ∷ ys) → ((e : Datum) → is_among e (x ∷ xs) ≡ is_among e (x ∷ ys)) → (e : Datum) → is_among e xs ≡ is_among e ys
same_rest x xs ys up on same e = go (same_datum e x) refl (same e)
  where
    go : (b : Bool) → same_datum e x ≡ b → b || is_among e xs ≡ b || is_among e ys → is_among e xs ≡ is_among e ys
    go true q h = let is = (same_decides e x).0 q in ap (λ d. is_among d xs) is ∙ lacks x xs up.0 ∙ sym (lacks x ys on.0) ∙ sym (ap (λ d. is_among d ys) is)
    go false q h = h

same_set : (xs ys : List Datum) → IsStrict xs → IsStrict ys → ((e : Datum) → is_among e xs ≡ is_among e ys) → xs ≡ ys
same_set [] [] up on same = refl
same_set [] (y ∷ ys) up on same = absurd (true≢false (sym (ap (λ c. c || is_among y ys) (same_itself y)) ∙ sym (same y)))
same_set (x ∷ xs) [] up on same = absurd (true≢false (sym (ap (λ c. c || is_among x xs) (same_itself x)) ∙ same x))
same_set (x ∷ xs) (y ∷ ys) up on same =
    let heads : x ≡ y = same_heads x xs y ys up on same in
    let on' : IsStrict (x ∷ ys) = subst (λ z. IsStrict (z ∷ ys)) (sym heads) on in
    let same' : (e : Datum) → is_among e (x ∷ xs) ≡ is_among e (x ∷ ys) = λ e. same e ∙ ap (λ z. is_among e (z ∷ ys)) (sym heads) in
    let tails : xs ≡ ys = same_set xs ys up.1 on.1 (same_rest x xs ys up on' same') in
    λ i. heads i ∷ tails i

-- ---- both lists rise

strict-placed : (d : Datum) (xs : List Datum) → is_among d xs ≡ false → IsStrict xs → IsStrict (placed d xs)
strict-placed d [] h up = (tt, tt)
strict-placed d (x ∷ xs) h up = split (same_datum d x) refl h (strict-placed d xs)
  where
    go : (b : Bool) → is_before x d ≡ b → same_datum d x ≡ false → IsStrict (placed d xs) → IsStrict (cond b (x ∷ placed d xs) (d ∷ x ∷ xs))
    go true k e more = (all-placed (λ z. is_before x z ≡ true) d xs k up.0, more)
    go false k e more = let low = before_other d x k (apart' e) in ((low, raised d x xs low up.0), up)
      where
        apart' : same_datum d x ≡ false → same_datum x d ≡ false
        apart' e = swapped (same_datum x d) refl
          where
            swapped : (b : Bool) → same_datum x d ≡ b → same_datum x d ≡ false
            swapped true q = absurd (true≢false (sym ((same_decides d x).1 (sym ((same_decides x d).0 q))) ∙ e))
            swapped false q = q

    split : (b : Bool) → same_datum d x ≡ b → b || is_among d xs ≡ false → (is_among d xs ≡ false → IsStrict xs → IsStrict (placed d xs)) → IsStrict (placed d (x ∷ xs))
    split true e k more = absurd (true≢false k)
    split false e k more = go (is_before x d) refl e (more k up.1)

strict-new_ones : (met ds : List Datum) → IsStrict (in_order (new_ones met ds))
strict-new_ones met [] = tt
strict-new_ones met (d ∷ ds) = go (is_among d met) (strict-new_ones met ds) (strict-new_ones (d ∷ met) ds)
  where
    gone : is_among d (in_order (new_ones (d ∷ met) ds)) ≡ false
    gone = among-in_order d (new_ones (d ∷ met) ds) ∙ among-new_ones d (d ∷ met) ds ∙ ap (λ b. not (b || is_among d met) && is_among d ds) (same_itself d)

    go : (b : Bool) → IsStrict (in_order (new_ones met ds)) → IsStrict (in_order (new_ones (d ∷ met) ds)) → IsStrict (in_order (cond b (new_ones met ds) (d ∷ new_ones (d ∷ met) ds)))
    go true old new = old
    go false old new = strict-placed d (in_order (new_ones (d ∷ met) ds)) gone new

all-dedup_from : (P : Datum → Type 0) (k : Datum) (xs : List Datum) → P k → AllByRecursion P xs → AllByRecursion P (dedup_from same_datum k xs)
all-dedup_from P k [] h a = (h, tt)
all-dedup_from P k (x ∷ xs) h a = elim (same_datum x k) as (λ b. AllByRecursion P (cond b (dedup_from same_datum k xs) (k ∷ dedup_from same_datum x xs)))
    [ true ↦ all-dedup_from P k xs h a.1 | false ↦ (h, all-dedup_from P x xs a.0 a.1) ]

strict-dedup_from : (k : Datum) (xs : List Datum) → IsRising (k ∷ xs) → IsStrict (dedup_from same_datum k xs)
strict-dedup_from k [] up = (tt, tt)
strict-dedup_from k (x ∷ xs) up = go (same_datum x k) refl (strict-dedup_from k xs (up.0.1, up.1.1)) (strict-dedup_from x xs up.1)
  where
    further : (z y : Datum) → is_before k y ≡ true → is_before z y ≡ false → is_before k z ≡ true
    further z y h g = above (is_before k z) refl
      where
        above : (b : Bool) → is_before k z ≡ b → is_before k z ≡ true
        above true e = e
        above false e = absurd (true≢false (sym h ∙ weak.chain k z y e g))

    all_further : (zs : List Datum) → is_before k x ≡ true → AllByRecursion (λ z. is_before z x ≡ false) zs → AllByRecursion (λ z. is_before k z ≡ true) zs
    all_further [] h a = tt
    all_further (z ∷ zs) h a = (further z x h a.0, all_further zs h a.1)

    go : (b : Bool) → same_datum x k ≡ b → IsStrict (dedup_from same_datum k xs) → IsStrict (dedup_from same_datum x xs) → IsStrict (cond b (dedup_from same_datum k xs) (k ∷ dedup_from same_datum x xs))
    go true e same other = same
    go false e same other = let low = before_other k x up.0.0 e in (all-dedup_from (λ z. is_before k z ≡ true) x xs low (all_further xs low up.1.0), other)

strict-dedup : (xs : List Datum) → IsRising xs → IsStrict (dedup same_datum xs)
strict-dedup [] up = tt
strict-dedup (x ∷ xs) up = strict-dedup_from x xs up

-- neighbours that are the same are taken once
pub set_in_order : (xs : List Datum) → dedup same_datum (in_order xs) ≡ in_order (distinct xs)
set_in_order xs =
    same_set (dedup same_datum (in_order xs)) (in_order (distinct xs)) (strict-dedup (in_order xs) (rising-in_order xs)) (strict-new_ones [] xs)
    (λ e. among-dedup e (in_order xs) ∙ among-in_order e xs ∙ sym (among-distinct e xs) ∙ sym (among-in_order e (distinct xs)))

pub one_set : (xs ys : List Datum) → ((e : Datum) → is_among e xs ≡ is_among e ys) → in_order (distinct xs) ≡ in_order (distinct ys)
one_set xs ys same =
    same_set (in_order (distinct xs)) (in_order (distinct ys)) (strict-new_ones [] xs) (strict-new_ones [] ys)
    (λ e. among-in_order e (distinct xs) ∙ among-distinct e xs ∙ same e ∙ sym (among-distinct e ys) ∙ sym (among-in_order e (distinct ys)))

-- Sets of the same members are one
pub set_by_members : (xs ys : List Datum) → ((e : Datum) → is_among e xs ≡ is_among e ys) → collection Set xs ≡ collection Set ys
set_by_members xs ys same = ap (bounded Set) (one_set xs ys same)

-- a Set of a Bag's elements is the Set of what the Bag was made of
pub set_of_a_bag : (ds : List Datum) → collection Set (in_order ds) ≡ collection Set ds
set_of_a_bag ds = set_by_members (in_order ds) ds (λ e. among-in_order e ds)

pub set_with_repeat : (d : Datum) (ds : List Datum) → is_among d ds ≡ true → collection Set (d ∷ ds) ≡ collection Set ds
set_with_repeat d ds h = set_by_members (d ∷ ds) ds (λ e. go e (same_datum e d) refl)
  where
    go : (e : Datum) (b : Bool) → same_datum e d ≡ b → b || is_among e ds ≡ is_among e ds
    go e true q = sym (subst (λ x. is_among x ds ≡ true) (sym ((same_decides e d).0 q)) h)
    go e false q = refl
