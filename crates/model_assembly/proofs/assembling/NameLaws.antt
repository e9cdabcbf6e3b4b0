-- What namings say of the names of a source: which object names which, and where objects speak.
use Rattle.std.proofs.Common.{◌≡◌, ℕ, zero, suc, ◌⊎◌, Bool, true, false, cond, List, [], ◌∷◌, map, refl, sym, ◌∙◌, ap, arith, subst, Option, Some, None, inl, inr, true≢false}
use Rattle.std.specs.Prelude.{◌==◌, ◌&&◌, ◌||◌, nat_eq, Contains, All}
use Rattle.std.specs.List.{filter, filter_map, cons_option, list_any}
use Rattle.std.specs.Cmp.{both_ways}
use Rattle.std.proofs.lemmas.Bool.{eqb-true, eq-eqb, and_parts, and_from, or_cases, or_left, or_right}
use Rattle.std.proofs.lemmas.List.Elements.{All-head, All-tail}
use Rattle.mof_metamodel.specs.Metamodels.{props_of, united}
use Rattle.mof_metamodel.proofs.LineageLemmas.{united-right, united-cases}
use Rattle.object_tables.specs.Models.{index_of, slot_number}
use Rattle.object_tables.proofs.ModelLemmas.{index-within, index-same}
use Rattle.model_assembly.specs.declared.filed.Filed.{Filed}
use Rattle.model_assembly.specs.declared.assembly.entry.Entry.{Entry}
use Rattle.model_assembly.specs.declared.assembly.naming.Naming.{Naming}
use Rattle.model_assembly.specs.AssemblyEntries.{class_in, is_entry_at, no_entry}
use Rattle.model_assembly.specs.AssemblyFirsts.{is_dangling, same_naming}
use Rattle.model_assembly.specs.AssemblyNamings.{naming, naming_of}
use Rattle.model_assembly.specs.Filed.{reference_of, IsReferenceIn}
use Rattle.model_assembly.specs.References.{Target}
use Rattle.model_assembly.specs.Source.{Source, names, target_number, targets_at}
use Rattle.model_assembly.proofs.assembling.SpotLaws.{IsGood, entry_good, told_by, told_same, reference_listed}
use Rattle.model_assembly.proofs.assembling.PartLaws.{AreNamings, target_fit}

-- a list without its repeats has the same numbers
pub united_any : (b : ℕ) (ys : List ℕ) → list_any (nat_eq b) (united [] ys) ≡ list_any (nat_eq b) ys
united_any b ys = both_ways (list_any (nat_eq b) (united [] ys)) (list_any (nat_eq b) ys) (λ h. there (united-cases [] ys b h)) (λ h. united-right [] ys b h)
  where
    there : (list_any (nat_eq b) [] ≡ true) ⊎ (list_any (nat_eq b) ys ≡ true) → list_any (nat_eq b) ys ≡ true
    there (inl h) = absurd (true≢false (sym h))
    there (inr h) = h

-- what is told of targets
pub targets_told : (s : Source) (ts : List Target) → filter_map (target_number s) ts ≡ filter_map (λ (t : Option ℕ × List ℕ). t.0) (map (reference_of s) ts)
targets_told s [] = refl
targets_told s (t ∷ ts) = ap (cons_option (target_number s t)) (targets_told s ts)

pub entries_told_of : (f : Filed) (es : List Entry) → filter_map (λ (t : Option ℕ × List ℕ). t.0) (map (told_by f.references) es) ≡ filter_map (λ (e : Entry). e.target) es
entries_told_of f [] = refl
entries_told_of f (e ∷ es) = ap (cons_option e.target) (entries_told_of f es)

-- a good entry that doesn't dangle
pub record IsFit (s : Source) (f : Filed) (e : Entry) : Type 0 where
  pub good : IsGood s.meta f.classes e
  pub fit : is_dangling s.meta f.classes e ≡ false

one_named : (s : Source) (f : Filed) (o p b : ℕ) (e : Entry) → Contains (props_of s.meta (class_in f.classes o).0) p → IsFit s f e → (rest : List ℕ) (others : Bool) → list_any (nat_eq b) rest ≡ others
    → list_any (nat_eq b) (filter_map (λ (e : Entry). e.target) (cond (is_entry_at o (slot_number s.meta (class_in f.classes o).0 p) e) (e ∷ []) [])) ≡ same_naming (naming o p b) (naming_of e)
one_named s f o p b e has h rest others r = by (is_entry_at o k e) refl
  where
    props : List ℕ
    props = props_of s.meta (class_in f.classes o).0

    k : ℕ
    k = index_of props p

    n : Naming
    n = naming_of e

    target : e.target ≡ Some n.target
    target = target_fit s f e.property.0 e.target h.fit

    shown : list_any (nat_eq b) (cons_option e.target []) ≡ (b == n.target)
    shown = ap (λ (t : Option ℕ). list_any (nat_eq b) (cons_option t [])) target ∙ or_none (b == n.target)
      where
        or_none : (x : Bool) → (x || false) ≡ x
        or_none true = refl
        or_none false = refl

    here : is_entry_at o k e ≡ true → ((o == e.object) ≡ true) × ((p == e.property.0) ≡ true)
    here t =
        let parts = and_parts (e.object == o) (e.place == k) t in
        let same : e.object ≡ o = eqb-true e.object o parts.0 in
        let there : Contains props e.property.0 = subst (λ z. Contains (props_of s.meta (class_in f.classes z).0) e.property.0) same h.good.reference.has in
        let place : index_of props e.property.0 ≡ k = sym (ap (λ z. index_of (props_of s.meta (class_in f.classes z).0) e.property.0) same) ∙ sym h.good.place ∙ eqb-true e.place k parts.1 in
        let property : e.property.0 ≡ p = index-same props e.property.0 p (index-within props e.property.0 there) (index-within props p has) place in
        (eq-eqb o e.object (sym same), eq-eqb p e.property.0 (sym property))

    back : (o == e.object) ≡ true → (p == e.property.0) ≡ true → is_entry_at o k e ≡ true
    back x y =
        let same : o ≡ e.object = eqb-true o e.object x in
        let property : p ≡ e.property.0 = eqb-true p e.property.0 y in
        and_from (e.object == o) (e.place == k) (eq-eqb e.object o (sym same))
        (eq-eqb e.place k (h.good.place ∙ (λ i. index_of (props_of s.meta (class_in f.classes (sym same i)).0) (sym property i))))

    by : (t : Bool) → is_entry_at o k e ≡ t → list_any (nat_eq b) (filter_map (λ (e : Entry). e.target) (cond t (e ∷ []) [])) ≡ same_naming (naming o p b) n
    by true t = let q = here t in shown ∙ sym (λ i. q.0 i && (q.1 i && (b == n.target)))
    by false t = sym (no_match (same_naming (naming o p b) n) refl)
      where
        no_match : (m : Bool) → same_naming (naming o p b) n ≡ m → same_naming (naming o p b) n ≡ false
        no_match false m = m
        no_match true m =
            let x = and_parts (o == e.object) ((p == e.property.0) && (b == n.target)) m in
            let y = and_parts (p == e.property.0) (b == n.target) x.1 in
            absurd (true≢false (sym (back x.0 y.0) ∙ t))

any_named : (s : Source) (f : Filed) (o p b : ℕ) → Contains (props_of s.meta (class_in f.classes o).0) p → (es : List Entry) → All (IsFit s f) es
    → list_any (nat_eq b) (filter_map (λ (e : Entry). e.target) (filter (is_entry_at o (slot_number s.meta (class_in f.classes o).0 p)) es)) ≡ list_any (same_naming (naming o p b)) (map naming_of es)
any_named s f o p b has [] h = refl
any_named s f o p b has (e ∷ es) h =
    split (is_entry_at o (slot_number s.meta (class_in f.classes o).0 p) e) (filter (is_entry_at o (slot_number s.meta (class_in f.classes o).0 p)) es)
    ∙ (λ i. one_named s f o p b e has (All-head (IsFit s f) e es h) [] false refl i || any_named s f o p b has es (All-tail (IsFit s f) e es h) i)
  where
    step : (t : Option ℕ) (xs : List ℕ) → list_any (nat_eq b) (cons_option t xs) ≡ (list_any (nat_eq b) (cons_option t []) || list_any (nat_eq b) xs)
    step None xs = refl
    step (Some n) xs = either (nat_eq b n) (list_any (nat_eq b) xs)
      where
        either : (x y : Bool) → (x || y) ≡ ((x || false) || y)
        either true y = refl
        either false y = refl

    split : (t : Bool) (rest : List Entry) → list_any (nat_eq b) (filter_map (λ (e : Entry). e.target) (cond t (e ∷ rest) rest))
        ≡ (list_any (nat_eq b) (filter_map (λ (e : Entry). e.target) (cond t (e ∷ []) [])) || list_any (nat_eq b) (filter_map (λ (e : Entry). e.target) rest))
    split true rest = step e.target (filter_map (λ (e : Entry). e.target) rest)
    split false rest = refl

-- an object names another where one of the namings says so
pub names_listed : (s : Source) (f : Filed) (es : List Entry) (xs : List Naming) → AreNamings s f es xs → (o p b : ℕ) → IsReferenceIn s o p → names s o p b ≡ list_any (same_naming (naming o p b)) xs
names_listed s f es xs a o p b r =
    united_any b (filter_map (target_number s) (targets_at s o p))
    ∙ ap (list_any (nat_eq b)) (
    targets_told s (targets_at s o p)
    ∙ sym (ap (filter_map (λ (t : Option ℕ × List ℕ). t.0)) (told_same s f es a.entries o p r))
    ∙ entries_told_of f (filter (is_entry_at o (slot_number s.meta (class_in f.classes o).0 p)) es))
    ∙ any_named s f o p b (reference_listed s f a.entries.filed o p r).has es fits
    ∙ sym (ap (list_any (same_naming (naming o p b))) a.namings)
  where
    fits : All (IsFit s f) es
    fits k d l =
        let e = Rattle.std.proofs.lemmas.List.get_or_default es k no_entry d l in
        subst (IsFit s f) e (record { good = entry_good s f es a.entries k l; fit = a.fit k l })

-- the naming is one of the list where the test finds it
same_found : (a b : Naming) → same_naming a b ≡ true → b ≡ a
same_found a b e =
    let x = and_parts (a.object == b.object) ((a.property == b.property) && (a.target == b.target)) e in
    let y = and_parts (a.property == b.property) (a.target == b.target) x.1 in
    let o = eqb-true a.object b.object x.0 in
    let p = eqb-true a.property b.property y.0 in
    let t = eqb-true a.target b.target y.1 in
    λ i. record { object = sym o i; property = sym p i; target = sym t i }

pub same_itself : (a : Naming) → same_naming a a ≡ true
same_itself a = and_from _ _ (eq-eqb a.object a.object refl) (and_from _ _ (eq-eqb a.property a.property refl) (eq-eqb a.target a.target refl))

pub naming_found : (n : Naming) (xs : List Naming) → list_any (same_naming n) xs ≡ true → Contains xs n
naming_found n [] h = absurd (true≢false (sym h))
naming_found n (x ∷ xs) h = by (or_cases (same_naming n x) (list_any (same_naming n) xs) h) (naming_found n xs)
  where
    by : (same_naming n x ≡ true) ⊎ (list_any (same_naming n) xs ≡ true) → (list_any (same_naming n) xs ≡ true → Contains xs n) → Contains (x ∷ xs) n
    by (inl e) more = (0, omega arith, same_found n x e)
    by (inr e) more = let c = more e in let l = c.1 in (suc c.0, omega (arith, l), c.2)

pub naming_there : (n : Naming) (xs : List Naming) → Contains xs n → list_any (same_naming n) xs ≡ true
naming_there n [] (k, l, e) = absurd (omega (arith, l))
naming_there n (x ∷ xs) (zero, l, e) = or_left (same_naming n x) (list_any (same_naming n) xs) (ap (same_naming n) e ∙ same_itself n)
naming_there n (x ∷ xs) (suc k, l, e) = or_right (same_naming n x) (list_any (same_naming n) xs) (naming_there n xs (k, omega (arith, l), e))
