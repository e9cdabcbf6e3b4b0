-- An end is parted from the ends that it is joined to, one after another.
use Rattle.std.proofs.Common.{◌≡◌, ◌≢◌, ℕ, ◌<◌, ◌≤◌, List, [], ◌∷◌, length, get_or, set, map, refl, sym, ◌∙◌, ap, subst, arith, inl, inr, zero, suc, true, false, eqb, eq-eqb, ne_eqb}
use Rattle.std.proofs.lemmas.Bool.{cases_eq}
use Rattle.std.proofs.lemmas.List.{map-set, set-set, set_comm, set-get_or, get_or-set_other, get_or-set_same}
use Rattle.std.specs.Prelude.{Contains}
use Rattle.link_arena.specs.Links.{others_of, without, without_other, parted, all_parted, IsPartedSomewhere, IsSimple}
use Rattle.link_arena.proofs.Elements.{Contains-later, Contains-first}

-- what a list is without a number

pub without-without : (x : ℕ) (xs : List ℕ) → without x (without x xs) ≡ without x xs
without-without x [] = refl
without-without x (y ∷ ys) =
    elim (cases_eq y x) [
      | inl same ↦ let test : eqb y x ≡ true = eq-eqb y x same in rw test (without-without x ys)
      | inr other ↦
          let test : eqb y x ≡ false = ne_eqb y x other in
          rw test (rw test (ap (λ r. y ∷ r) (without-without x ys)))
    ]

pub without_none : (x : ℕ) (xs : List ℕ) → ¬ Contains xs x → without x xs ≡ xs
without_none x [] none = refl
without_none x (y ∷ ys) none =
    let apart : y ≢ x = λ e. none (subst (λ (z : ℕ). Contains (y ∷ ys) z) e (Contains-first y ys)) in
    let test : eqb y x ≡ false = ne_eqb y x apart in
    rw test (ap (λ r. y ∷ r) (without_none x ys (λ has. none (Contains-later y ys x has))))

pub length-without-le : (x : ℕ) (xs : List ℕ) → length (without x xs) ≤ length xs
length-without-le x [] = omega arith
length-without-le x (y ∷ ys) =
    elim (cases_eq y x) [
      | inl same ↦ let test : eqb y x ≡ true = eq-eqb y x same in rw test (omega (arith, length-without-le x ys))
      | inr other ↦ let test : eqb y x ≡ false = ne_eqb y x other in rw test (omega (arith, length-without-le x ys))
    ]

pub length-without-lt : (x : ℕ) (xs : List ℕ) (k d : ℕ) → k < length xs → get_or xs k d ≡ x
    → length (without x xs) < length xs
length-without-lt x [] k d within is = absurd (omega arith)
length-without-lt x (y ∷ ys) zero d within is =
    let test : eqb y x ≡ true = eq-eqb y x is in
    rw test (omega (arith, length-without-le x ys))
length-without-lt x (y ∷ ys) (suc k) d within is =
    let h : k < length ys = omega arith in
    elim (cases_eq y x) [
      | inl same ↦ let test : eqb y x ≡ true = eq-eqb y x same in rw test (omega (arith, length-without-lt x ys k d h is))
      | inr other ↦ let test : eqb y x ≡ false = ne_eqb y x other in rw test (omega (arith, length-without-lt x ys k d h is))
    ]

pub map_without_none : (x : ℕ) (links : List (List ℕ)) → ((a : ℕ) → ¬ Contains (others_of links a) x)
    → map (without x) links ≡ links
map_without_none x [] none = refl
map_without_none x (xs ∷ links) none =
    let first : without x xs ≡ xs = without_none x xs (none 0) in
    let rest : map (without x) links ≡ links = map_without_none x links (λ a. none (suc a)) in
    rw (first, rest) refl

-- parting changes only the two ends

pub parted_comm : (links : List (List ℕ)) (a b : ℕ) → a ≢ b → parted links a b ≡ parted links b a
parted_comm links a b apart =
    let apart' : b ≢ a = λ e. apart (sym e) in
    let one : others_of (without_other links a b) b ≡ others_of links b =
    get_or-set_other links a b (without b (others_of links a)) [] apart' in
    let two : others_of (without_other links b a) a ≡ others_of links a =
    get_or-set_other links b a (without a (others_of links b)) [] apart in
    rw (one, two) (set_comm links a b (without b (others_of links a)) (without a (others_of links b)) apart)

pub others_of-parted : (links : List (List ℕ)) (end other : ℕ) → end < length links → other ≢ end
    → others_of (parted links end other) end ≡ without other (others_of links end)
others_of-parted links end other within apart =
    let one : List (List ℕ) = without_other links end other in
    get_or-set_other one other end (without end (others_of one other)) [] (λ e. apart (sym e))
    ∙ get_or-set_same links end (without other (others_of links end)) [] within

pub all_parted-parted : (links : List (List ℕ)) (end other : ℕ) → other ≢ end
    → all_parted (parted links end other) end ≡ all_parted links end
all_parted-parted links end other apart =
    let x : List ℕ = without other (others_of links end) in
    let one : List (List ℕ) = without_other links end other in
    let same : others_of one other ≡ others_of links other = get_or-set_other links end other x [] apart in
    let y : List ℕ = without end (others_of one other) in
    let maps : List (List ℕ) = map (without end) links in
    let y_is : without end y ≡ get_or maps other [] =
    without-without end (others_of one other) ∙ (ap (without end) same ∙ sym (others_of-map links other end)) in
    let lhs : map (without end) (parted links end other) ≡ set (set maps end (without end x)) other (without end y) =
    map-set (without end) one other y ∙ ap (λ (l : List (List ℕ)). set l other (without end y)) (map-set (without end) links end x) in
    let cut : set maps end [] ≡ set (set maps end []) other (get_or (set maps end []) other []) =
    sym (set-get_or (set maps end []) other []) in
    let kept : get_or (set maps end []) other [] ≡ get_or maps other [] = get_or-set_other maps end other [] [] apart in
    ap (λ (l : List (List ℕ)). set l end []) lhs
    ∙ (set_comm (set maps end (without end x)) other end (without end y) [] apart
    ∙ (ap (λ (l : List (List ℕ)). set l other (without end y)) (set-set maps end (without end x) [])
    ∙ (ap (λ (v : List ℕ). set (set maps end []) other v) (y_is ∙ sym kept)
    ∙ sym cut)))
  where
    others_of-map : (links : List (List ℕ)) (a end : ℕ) → get_or (map (without end) links) a [] ≡ without end (others_of links a)
    others_of-map [] zero end = refl
    others_of-map [] (suc a) end = refl
    others_of-map (xs ∷ links) zero end = refl
    others_of-map (xs ∷ links) (suc a) end = others_of-map links a end

pub all_parted_none : (links : List (List ℕ)) (end : ℕ) → IsSimple links → others_of links end ≡ []
    → all_parted links end ≡ links
all_parted_none links end simple none =
    let unnamed : (a : ℕ) → ¬ Contains (others_of links a) end = λ a has.
    let back : Contains (others_of links end) a = simple.symmetric a end has in
    let back' : Contains [] a = subst (λ (l : List ℕ). Contains l a) none back in
    let h : back'.0 < 0 = back'.1 in
    omega arith in
    let same : map (without end) links ≡ links = map_without_none end links unnamed in
    let gone : set links end (others_of links end) ≡ links = set-get_or links end [] in
    let gone' : set links end [] ≡ links = subst (λ (l : List ℕ). set links end l ≡ links) none gone in
    rw same gone'

-- a step of parting an end from all

pub record IsFewer (old : List (List ℕ)) (end : ℕ) (new : List (List ℕ)) : Type 0 where
  pub fewer : length (others_of new end) < length (others_of old end)
  pub rest : all_parted new end ≡ all_parted old end

pub IsFewer-parted : (old : List (List ℕ)) (end : ℕ) (new : List (List ℕ)) → end < length old → IsSimple old
    → IsPartedSomewhere old end new → IsFewer old end new
IsFewer-parted old end new within simple parted' =
    let other : ℕ = parted'.other in
    let apart : other ≢ end = λ e. simple.loopless end (subst (λ (x : ℕ). Contains (others_of old end) x) e parted'.was) in
    let at : others_of new end ≡ without other (others_of old end) =
    ap (λ (l : List (List ℕ)). others_of l end) parted'.is ∙ others_of-parted old end other within apart in
    let lt : length (without other (others_of old end)) < length (others_of old end) =
    length-without-lt other (others_of old end) parted'.was.0 other parted'.was.1 parted'.was.2 in
    record {
      fewer = rw at lt;
      rest = rw parted'.is (all_parted-parted old end other apart);
    }
