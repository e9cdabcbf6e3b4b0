-- The depths of objects: there is one, and those that are found on the way up give the others.
use Rattle.std.proofs.Common.{◌≡◌, ℕ, ◌+◌, ◌-◌, ◌<◌, ◌≤◌, zero, suc, List, [], ◌∷◌, ◌++◌, length, get_or, replicate, refl, sym, ◌∙◌, subst, ap, arith, inl, inr}
use Rattle.std.specs.Prelude.{◌⊎◌, set}
use Rattle.std.proofs.lemmas.Bool.{cases_eq, cases_lt}
use Rattle.std.proofs.lemmas.List.{get_or-set_same, get_or-set_other, length-set, length-append, length-replicate}
use Rattle.object_tables.specs.Kept.{Kept}
use Rattle.object_tables.specs.Models.{ModelData, IsLive, IsTop}
use Rattle.object_tables.specs.Containment.{IsContainer, IsContainerPath, IsAcyclic, IsDepth, IsGreatestDepth}
use Rattle.object_tables.specs.Climbs.{AreDepths, IsGreatestBefore}
use Rattle.object_tables.proofs.ContainmentLemmas.{path-append, path-few, container-same, live-below}

top_no_container : (m : ModelData) (o a b : ℕ) → o ≡ a → IsTop m a → IsContainer m o b → ⊥
top_no_container m o a b same top up = let (p, h) = subst (λ z. IsContainer m z b) same up in top b p h

paths-same : (m : ModelData) (o : ℕ) (p : List ℕ) (a : ℕ) (q : List ℕ) (b : ℕ) → Kept m → IsContainerPath m o p a → IsTop m a → IsContainerPath m o q b → IsTop m b → length p ≡ length q
paths-same m o [] a [] b kept h top g top' = refl
paths-same m o [] a (y ∷ q) b kept same top (first, rest) top' = absurd (top_no_container m o a y same top first)
paths-same m o (x ∷ p) a [] b kept (first, rest) top same top' = absurd (top_no_container m o b x same top' first)
paths-same m o (x ∷ p) a (y ∷ q) b kept (first, rest) top (first', rest') top' =
    let e : y ≡ x = container-same m o y x kept first' first in
    ap suc (paths-same m x p a q b kept rest top (subst (λ z. IsContainerPath m z q b) e rest') top')

-- an object has one depth
pub depth-same : (m : ModelData) (o d e : ℕ) → Kept m → IsDepth m o d → IsDepth m o e → d ≡ e
depth-same m o d e kept (p, a, h, top, is) (q, b, g, top', is') = is ∙ ap suc (paths-same m o p a q b kept h top g top') ∙ sym is'

pub depth-top : (m : ModelData) (o : ℕ) → IsTop m o → IsDepth m o 1
depth-top m o top = ([], o, refl, top, refl)

-- the depth at the end of a way up gives that at its start
pub depth-join : (m : ModelData) (o : ℕ) (path : List ℕ) (at k n : ℕ) → IsContainerPath m o path at → k ≡ length path → IsDepth m at n → IsDepth m o (k + n)
depth-join m o path at k n h e (q, top, g, t, is) =
    let len = length-append path q in
    (path ++ q, top, path-append m o path at q top h g, t, omega arith)

-- the depth of an object gives that of its container
pub depth-up : (m : ModelData) (o c n : ℕ) → Kept m → IsDepth m o n → IsContainer m o c → (2 ≤ n) × IsDepth m c (n - 1)
depth-up m o c n kept ([], top, same, t, is) up = absurd (top_no_container m o top c same t up)
depth-up m o c n kept (b ∷ path, top, (first, rest), t, is) up =
    let e : b ≡ c = container-same m o b c kept first up in
    let more : 2 ≤ n = omega arith in
    (more, (path, top, subst (λ z. IsContainerPath m z path top) e rest, t, omega arith))

pub depth-few : (m : ModelData) (o n : ℕ) → IsAcyclic m → IsLive m o → IsDepth m o n → n ≤ length m.objects
depth-few m o n none live (path, top, h, t, is) = let few = path-few m o path top none live h in omega arith

-- ---- a table of depths

pub depths-within : (m : ModelData) (depths : List ℕ) (o : ℕ) → AreDepths m depths → IsLive m o → o < length depths
depths-within m depths o d live = let below = live-below m o live in let e = d.count in omega arith

pub depths-set : (m : ModelData) (depths : List ℕ) (o n : ℕ) → AreDepths m depths → IsLive m o → IsDepth m o n → AreDepths m (set depths o n)
depths-set m depths o n d live is =
    let inside : o < length depths = depths-within m depths o d live in
    record {
      count = length-set depths o n ∙ d.count;
      each = λ x p. elim (cases_eq x o) [
        | inl e ↦ (
            let here : get_or (set depths o n) x 0 ≡ n = ap (λ y. get_or (set depths o n) y 0) e ∙ get_or-set_same depths o n 0 inside in
            let there : IsDepth m x n = subst (λ y. IsDepth m y n) (sym e) is in
            subst (λ y. IsDepth m x y) (sym here) there)
        | inr ne ↦ (
            let same : get_or (set depths o n) x 0 ≡ get_or depths x 0 = get_or-set_other depths o x n 0 ne in
            subst (λ y. IsDepth m x y) (sym same) (d.each x (omega arith)))
      ];
    }

-- a list of zeros
pub get_or-zeros : (n i : ℕ) → ◌≡◌ {A = ℕ} (get_or (replicate n 0) i 0) 0
get_or-zeros zero i = refl
get_or-zeros (suc n) zero = refl
get_or-zeros (suc n) (suc i) = get_or-zeros n i

-- no depth is found yet
pub greatest-begin : (m : ModelData) (depths : List ℕ) (n : ℕ) → depths ≡ replicate n 0 → n ≡ length m.objects → IsGreatestBefore m depths 0 0
greatest-begin m depths n e count =
    let none : (o : ℕ) → get_or depths o 0 ≡ 0 = λ o. ap (λ ds. get_or ds o 0) e ∙ get_or-zeros n o in
    record {
      depths_are = record { count = ap length e ∙ length-replicate n 0 ∙ count; each = λ o p. absurd (let z = none o in omega arith) };
      most = λ a d l live h. absurd (omega arith);
      reached = inl refl;
    }

pub greatest-skip : (m : ModelData) (depths : List ℕ) (n o : ℕ) → IsGreatestBefore m depths n o → (IsLive m o → ⊥) → IsGreatestBefore m depths n (o + 1)
greatest-skip m depths n o g gone = record {
  depths_are = g.depths_are;
  most = λ a d l live h. elim (cases_lt a o) [
    | inl l' ↦ g.most a d l' live h
    | inr le ↦ absurd (gone (let e : a ≡ o = omega arith in subst (λ y. IsLive m y) e live))
  ];
  reached = g.reached;
}

pub greatest-next : (m : ModelData) (old depths : List ℕ) (n o depth next : ℕ) → Kept m → IsGreatestBefore m old n o → AreDepths m depths → IsLive m o → IsDepth m o depth
    → n ≤ next → depth ≤ next → (next ≡ n) ⊎ (next ≡ depth) → IsGreatestBefore m depths next (o + 1)
greatest-next m old depths n o depth next kept g are live is le le' one = record {
  depths_are = are;
  most = λ a d l live' h. elim (cases_lt a o) [
    | inl l' ↦ (let b = g.most a d l' live' h in omega arith)
    | inr ge ↦ (
        let e : a ≡ o = omega arith in
        let same : d ≡ depth = depth-same m o d depth kept (subst (λ y. IsDepth m y d) e h) is in
        omega arith)
  ];
  reached = elim one [
    | inl e ↦ elim g.reached [
      | inl z ↦ inl (e ∙ z)
      | inr (a, live', h) ↦ inr (a, live', subst (λ y. IsDepth m a y) (sym e) h)
    ]
    | inr e ↦ inr (o, live, subst (λ y. IsDepth m o y) (sym e) is)
  ];
}

pub greatest-end : (m : ModelData) (depths : List ℕ) (n o : ℕ) → IsGreatestBefore m depths n o → o ≡ length m.objects → IsGreatestDepth m n
greatest-end m depths n o g e = record {
  most = λ a d live h. g.most a d (let l = live-below m a live in omega arith) live h;
  reached = g.reached;
}
