-- Paths are apart where they are distinct and none is another one followed by `.new`.
use Rattle.std.proofs.Common.{◌≡◌, ℕ, Bool, true, false, List, [], ◌∷◌, ◌++◌, length, take, drop, refl, sym, ◌∙◌, ap, arith, Option, Some, None}
use Rattle.std.specs.Prelude.{◌||◌, ◌&&◌, not, codes, nat_eq, ◌+◌, ◌-◌, is_some}
use Rattle.std.specs.List.{list_any, list_all}
use Rattle.std.specs.Cmp.{both_ways}
use Rattle.std.specs.Cmp.Lexicographic.{bytes_decides, pointwise}
use Rattle.std.proofs.lemmas.Bool.{false_from_ne_true}
use Rattle.std.proofs.lemmas.List.{take-append-drop, append_cancel_right, length-append}
use Rattle.std.proofs.Math.Seq.{drop-append_seam}
use Rattle.mof_metamodel.specs.Metamodels.{same_name}
use Rattle.qvtr_engine.specs.Names.{is_among, are_distinct}
use Rattle.qvtr_engine.specs.Paths.{is_new_of, are_apart, are_all_apart}
use Rattle.qvtr_engine.proofs.ReadingLaws.{same_is, same_holds}

abbrev new : List ℕ
new = codes ".new"

-- ---- a path that is one of others followed by `.new`

new_same : (path other q : List ℕ) → path ≡ other ++ new → same_name other q ≡ is_new_of path q
new_same path other q e =
    both_ways _ _
    (λ h. same_holds path (q ++ new) (e ∙ ap (λ x. x ++ new) (same_is other q h)))
    (λ h. same_holds other q (append_cancel_right other q new (sym e ∙ same_is path (q ++ new) h)))

pub new_of_one : (path other : List ℕ) → path ≡ other ++ new → (of : List (List ℕ)) → is_among of other ≡ list_any (is_new_of path) of
new_of_one path other e [] = refl
new_of_one path other e (q ∷ qs) = λ i. new_same path other q e i || new_of_one path other e qs i

pub none_of : (path : List ℕ) → ((q : List ℕ) → is_new_of path q ≡ false) → (of : List (List ℕ)) → false ≡ list_any (is_new_of path) of
none_of path none [] = refl
none_of path none (q ∷ qs) = λ i. sym (none q) i || none_of path none qs i

-- by what stands at its end
pub stripped : (path other : List ℕ) (k : ℕ) → pointwise nat_eq (drop k path) new ≡ true → other ≡ take k path → path ≡ other ++ new
stripped path other k ends is =
    sym (take-append-drop k path) ∙ ap (λ x. take k path ++ x) ((bytes_decides _ _).0 ends) ∙ ap (λ x. x ++ new) (sym is)

at_end : (q : List ℕ) (k : ℕ) → k ≡ length q → drop k (q ++ new) ≡ new
at_end q k e = ap (λ n. drop n (q ++ new)) e ∙ drop-append_seam q new

pub not_stripped : (path : List ℕ) → pointwise nat_eq (drop (length path - 4) path) new ≡ false → (q : List ℕ) → is_new_of path q ≡ false
not_stripped path ends q = false_from_ne_true _ (λ h.
    let is : path ≡ q ++ new = same_is path (q ++ new) h in
    let long : length path ≡ length q + 4 = ap length is ∙ length-append q new in
    let place : length path - 4 ≡ length q = omega (arith, long) in
    let there : drop (length path - 4) path ≡ new = ap (λ x. drop (length path - 4) x) is ∙ at_end q (length path - 4) place in
    let found : true ≡ false = sym ((bytes_decides _ _).1 there) ∙ ends in cc)

-- ---- paths that are apart

abbrev pub is_none_new : List (List ℕ) → List (List ℕ) → Bool
is_none_new paths of = list_all (λ path. not (list_any (is_new_of path) of)) paths

-- none of the paths is this one followed by `.new`
abbrev is_clear_of : List ℕ → List (List ℕ) → Bool
is_clear_of p paths = list_all (λ path. not (is_new_of path p)) paths

parted : (a b c d e f : Bool) → ((not a && not b && not c) && (not d && (not e && f))) ≡ (not (a || d) && (not (b || e) && (not c && f)))
parted true b c d e f = refl
parted false true c true e f = refl
parted false true c false e f = refl
parted false false true true e f = refl
parted false false true false true f = refl
parted false false true false false f = refl
parted false false false d e f = refl

apart_from_all : (p : List ℕ) (paths : List (List ℕ))
    → list_all (are_apart p) paths ≡ (not (is_among paths p) && (not (list_any (is_new_of p) paths) && is_clear_of p paths))
apart_from_all p [] = refl
apart_from_all p (q ∷ qs) =
    ap (λ b. are_apart p q && b) (apart_from_all p qs)
    ∙ parted (same_name p q) (is_new_of p q) (is_new_of q p) (is_among qs p) (list_any (is_new_of p) qs) (is_clear_of p qs)

split : (x y u v : Bool) → (not (x || y) && (u && v)) ≡ ((not x && u) && (not y && v))
split true y u v = refl
split false true true v = refl
split false true false v = refl
split false false u v = refl

none_new_more : (p : List ℕ) (of paths : List (List ℕ)) → is_none_new paths (p ∷ of) ≡ (is_clear_of p paths && is_none_new paths of)
none_new_more p of [] = refl
none_new_more p of (r ∷ rs) =
    ap (λ b. not (list_any (is_new_of r) (p ∷ of)) && b) (none_new_more p of rs)
    ∙ split (is_new_of r p) (list_any (is_new_of r) of) (is_clear_of p rs) (is_none_new rs of)

not_new_of_itself : (p : List ℕ) → is_new_of p p ≡ false
not_new_of_itself p = false_from_ne_true _ (λ h.
    let long : length p ≡ length p + 4 = ap length (same_is p (p ++ new) h) ∙ length-append p new in omega (arith, long))

sorted : (m n c d r : Bool) → ((not m && (not n && c)) && (d && r)) ≡ ((not m && d) && (not n && (c && r)))
sorted true n c d r = refl
sorted false true c true r = refl
sorted false true c false r = refl
sorted false false true d r = refl
sorted false false false true r = refl
sorted false false false false r = refl

pub apart_by_set : (paths : List (List ℕ)) → (are_distinct paths && is_none_new paths paths) ≡ are_all_apart paths
apart_by_set [] = refl
apart_by_set (p ∷ ps) =
    sym ((λ i. apart_from_all p ps i && sym (apart_by_set ps) i)
    ∙ sorted (is_among ps p) (list_any (is_new_of p) ps) (is_clear_of p ps) (are_distinct ps) (is_none_new ps ps)
    ∙ (λ i. (not (is_among ps p) && are_distinct ps) && (not (sym (not_new_of_itself p) i || list_any (is_new_of p) ps) && sym (none_new_more p ps ps) i)))

-- by the set of the paths, which there is where they are distinct
pub apart_of_set : {A : Type 0} (paths : List (List ℕ)) (result : Bool) (found : Option A) (set : A) → is_some found ≡ are_distinct paths → found ≡ Some set
    → result ≡ is_none_new paths paths → result ≡ are_all_apart paths
apart_of_set paths result found set distinct is none =
    none ∙ ap (λ b. b && is_none_new paths paths) (sym (ap is_some is) ∙ distinct) ∙ apart_by_set paths

pub none_apart : {A : Type 0} (paths : List (List ℕ)) (found : Option A) → is_some found ≡ are_distinct paths → found ≡ None → false ≡ are_all_apart paths
none_apart paths found distinct is = ap (λ b. b && is_none_new paths paths) (sym (ap is_some is) ∙ distinct) ∙ apart_by_set paths
