-- Values that are sorted by two keys, one after the other, and put into a model.
use Rattle.std.proofs.Common.{◌≡◌, ℕ, zero, suc, ◌+◌, ◌-◌, ◌<◌, ◌≤◌, Bool, true, false, cond, List, [], ◌∷◌, length, map, get_or, refl, sym, ◌∙◌, ap, arith, subst, Some, None}
use Rattle.std.specs.Prelude.{◌==◌, ◌&&◌, IsPermutation, All}
use Rattle.std.specs.List.{filter, cons_option, list_any}
use Rattle.std.specs.List.Sorted.{IsSortedByKey, IsStableByKey, IsNonDecreasingBy}
use Rattle.std.specs.Ordering.{nat_cmp}
use Rattle.std.proofs.lemmas.Bool.{eqb-true, eq-eqb, and_parts, and_from, or_parts}
use Rattle.std.proofs.lemmas.List.Sorted.{IsPermutation-trans, IsNonDecreasingBy-from_sort, ties_still_rise, All-permutation}
use Rattle.mof_metamodel.specs.declared.desc.PropId.{PropId}
use Rattle.object_tables.specs.Kept.{Kept}
use Rattle.mof_metamodel.specs.Metamodels.{type_of}
use Rattle.object_tables.specs.Models.{ModelData, values_at, is_value_of, IsAttributeOf}
use Rattle.model_assembly.specs.declared.filed.WrittenValue.{WrittenValue}
use Rattle.model_assembly.specs.AssemblyValues.{no_written, written_at, is_next, valued, IsSortedValues, AreValuesOf, IsValuedTo, HasValues, MayStand}
use Rattle.model_assembly.specs.Filed.{filed_values}
use Rattle.model_assembly.specs.Source.{is_at}
use Rattle.model_assembly.specs.Values.{without_repeats}
use Rattle.model_assembly.proofs.assembling.ListLaws.{any_contains}
use Rattle.model_assembly.proofs.assembling.EntryLaws.{filter_two, filter_swap, kept_key}
use Rattle.model_assembly.proofs.assembling.ValuedLaws.{none_filed, may_stand, valued_to}

filed_filter : (o p : ℕ) (vs : List WrittenValue) → filed_values vs o p ≡ map (λ (v : WrittenValue). v.value) (filter (λ (v : WrittenValue). (v.object == o) && (v.property.0 == p)) vs)
filed_filter o p [] = refl
filed_filter o p (v ∷ vs) = by (is_at o p v.object v.property.0) (filed_filter o p vs)
  where
    test : WrittenValue → Bool
    test v = (v.object == o) && (v.property.0 == p)

    by : (b : Bool) → filed_values vs o p ≡ map (λ (v : WrittenValue). v.value) (filter test vs)
        → cons_option (cond b (Some v.value) None) (filed_values vs o p) ≡ map (λ (v : WrittenValue). v.value) (cond b (v ∷ filter test vs) (filter test vs))
    by true rest = ap (λ xs. v.value ∷ xs) rest
    by false rest = rest

-- where one number doesn't change, another one rises from neighbour to neighbour, and so from far
rises_far : (vs : List WrittenValue) → IsNonDecreasingBy (λ (v : WrittenValue). v.object) vs
    → ((k : ℕ) (d : WrittenValue) → k + 1 < length vs → (get_or vs k d).object ≡ (get_or vs (k + 1) d).object → (get_or vs k d).property.0 ≤ (get_or vs (k + 1) d).property.0)
    → (i n : ℕ) → i + n < length vs → (written_at vs i).object ≡ (written_at vs (i + n)).object → (written_at vs i).property.0 ≤ (written_at vs (i + n)).property.0
rises_far vs up next i zero l e = let q : i + 0 ≡ i = omega arith in let same : (written_at vs (i + 0)).property.0 ≡ (written_at vs i).property.0 = ap (λ k. (written_at vs k).property.0) q in omega (arith, same)
rises_far vs up next i (suc n) l e =
    let q : i + suc n ≡ (i + n) + 1 = omega arith in
    let last : (written_at vs (i + suc n)).object ≡ (written_at vs ((i + n) + 1)).object = ap (λ k. (written_at vs k).object) q in
    let place : (written_at vs (i + suc n)).property.0 ≡ (written_at vs ((i + n) + 1)).property.0 = ap (λ k. (written_at vs k).property.0) q in
    let low = up i (i + n) no_written (omega arith) (omega (arith, l)) in
    let high = up (i + n) ((i + n) + 1) no_written (omega arith) (omega (arith, l)) in
    let mid : (written_at vs i).object ≡ (written_at vs (i + n)).object = omega (arith, low, high, e, last) in
    let near : (written_at vs (i + n)).object ≡ (written_at vs ((i + n) + 1)).object = omega (arith, low, high, e, last) in
    let before = rises_far vs up next i n (omega (arith, l)) mid in
    let step = next (i + n) no_written (omega (arith, l)) near in
    omega (arith, before, step, place)

rises_to : (vs : List WrittenValue) → IsNonDecreasingBy (λ (v : WrittenValue). v.object) vs
    → ((k : ℕ) (d : WrittenValue) → k + 1 < length vs → (get_or vs k d).object ≡ (get_or vs (k + 1) d).object → (get_or vs k d).property.0 ≤ (get_or vs (k + 1) d).property.0)
    → (i j : ℕ) → i ≤ j → j < length vs → (written_at vs i).object ≡ (written_at vs j).object → (written_at vs i).property.0 ≤ (written_at vs j).property.0
rises_to vs up next i j l k e = far (j - i) (omega (arith, l))
  where
    far : (n : ℕ) → i + n ≡ j → (written_at vs i).property.0 ≤ (written_at vs j).property.0
    far n q =
        let within : i + n < length vs = omega (arith, q, k) in
        subst (λ m. (written_at vs i).property.0 ≤ (written_at vs m).property.0) q (rises_far vs up next i n within (e ∙ sym (ap (λ m. (written_at vs m).object) q)))

pub sorted_values : (xs ys zs : List WrittenValue) → IsPermutation xs ys → IsPermutation ys zs → IsSortedByKey (λ (v : WrittenValue). v.property.0) nat_cmp ys → IsStableByKey (λ (v : WrittenValue). v.property.0) nat_cmp xs ys
    → IsSortedByKey (λ (v : WrittenValue). v.object) nat_cmp zs → IsStableByKey (λ (v : WrittenValue). v.object) nat_cmp ys zs → IsSortedValues xs zs
sorted_values xs ys zs p q up first on second = record { same = IsPermutation-trans xs ys zs p q; kept = kept; together = together }
  where
    objects : IsNonDecreasingBy (λ (v : WrittenValue). v.object) zs
    objects = IsNonDecreasingBy-from_sort (λ (v : WrittenValue). v.object) zs on

    next : (k : ℕ) (d : WrittenValue) → k + 1 < length zs → (get_or zs k d).object ≡ (get_or zs (k + 1) d).object → (get_or zs k d).property.0 ≤ (get_or zs (k + 1) d).property.0
    next = ties_still_rise (λ (v : WrittenValue). v.property.0) (λ (v : WrittenValue). v.object) ys zs up second

    kept : (o r : ℕ) → filed_values zs o r ≡ filed_values xs o r
    kept o r =
        let by_object : WrittenValue → Bool = λ v. v.object == o in
        let by_property : WrittenValue → Bool = λ v. v.property.0 == r in
        let property : PropId = record { 0 = r } in
        filed_filter o r zs
        ∙ ap (map (λ (v : WrittenValue). v.value)) (
        filter_two by_object by_property zs
        ∙ ap (filter by_property) (kept_key (λ (v : WrittenValue). v.object) (record no_written { object = o }) ys zs second)
        ∙ filter_swap by_object by_property ys
        ∙ ap (filter by_object) (kept_key (λ (v : WrittenValue). v.property.0) (record no_written { property = property }) xs ys first)
        ∙ filter_swap by_property by_object xs
        ∙ sym (filter_two by_object by_property xs))
        ∙ sym (filed_filter o r xs)

    together : (i j k : ℕ) → i < j → j < k → k < length zs → is_next (written_at zs i) (written_at zs k) ≡ true → is_next (written_at zs i) (written_at zs j) ≡ true
    together i j k l m n e =
        let x = and_parts ((written_at zs k).object == (written_at zs i).object) ((written_at zs k).property.0 == (written_at zs i).property.0) e in
        let o : (written_at zs k).object ≡ (written_at zs i).object = eqb-true _ _ x.0 in
        let r : (written_at zs k).property.0 ≡ (written_at zs i).property.0 = eqb-true _ _ x.1 in
        let a = objects i j no_written (omega (arith, l)) (omega (arith, m, n)) in
        let b = objects j k no_written (omega (arith, m)) n in
        let oi : (written_at zs i).object ≡ (written_at zs j).object = omega (arith, a, b, o) in
        let oj : (written_at zs j).object ≡ (written_at zs k).object = omega (arith, a, b, o) in
        let c = rises_to zs objects next i j (omega (arith, l)) (omega (arith, m, n)) oi in
        let d = rises_to zs objects next j k (omega (arith, m)) n oj in
        let pj : (written_at zs j).property.0 ≡ (written_at zs i).property.0 = omega (arith, c, d, r) in
        and_from _ _ (eq-eqb (written_at zs j).object (written_at zs i).object (sym oi)) (eq-eqb (written_at zs j).property.0 (written_at zs i).property.0 pj)

-- ---- the model with the values

pub sorted_of : (m : ModelData) (xs ys : List WrittenValue) → IsSortedValues xs ys → AreValuesOf m xs → AreValuesOf m ys
sorted_of m xs ys s h = record { attributes = All-permutation (λ (v : WrittenValue). IsAttributeOf m v.object v.property.0) xs ys s.same h.attributes; typed = All-permutation (λ (v : WrittenValue). is_value_of m.meta (type_of m.meta v.property.0) v.value ≡ true) xs ys s.same h.typed }

pub values_put : (m : ModelData) (xs ys : List WrittenValue) → IsSortedValues xs ys → AreValuesOf m xs → Kept m → HasValues m xs (valued m ys (length ys))
values_put m xs ys s h k = record {
  meta = v.meta;
  count = v.count;
  classes = v.classes;
  ids = v.ids;
  partners = v.partners;
  values = λ o p e. by o p e (list_any (λ (w : WrittenValue). is_at o p w.object w.property.0) ys) refl;
}
  where
    n : ModelData
    n = valued m ys (length ys)

    v : IsValuedTo m ys (length ys) n
    v = valued_to xs ys m s (sorted_of m xs ys s h) k (length ys) (omega arith)

    any_at : (q : WrittenValue → Bool) (ws : List WrittenValue) → list_any q ws ≡ false → All (λ w. q w ≡ false) ws
    any_at q [] e = Rattle.std.proofs.lemmas.List.Elements.All-nil (λ w. q w ≡ false)
    any_at q (w ∷ ws) e = let x = or_parts (q w) (list_any q ws) e in Rattle.std.proofs.lemmas.List.Elements.All-cons (λ w. q w ≡ false) w ws x.0 (any_at q ws x.1)

    by : (o p : ℕ) → values_at m o p ≡ [] → (b : Bool) → list_any (λ (w : WrittenValue). is_at o p w.object w.property.0) ys ≡ b → values_at n o p ≡ without_repeats (filed_values xs o p)
    by o p e true t =
        let found = any_contains (λ (w : WrittenValue). is_at o p w.object w.property.0) ys t in
        let j = found.1.0 in
        let same : written_at ys j ≡ found.0 = Rattle.std.proofs.lemmas.List.get_or_default ys j no_written found.0 found.1.1 ∙ found.1.2 in
        let x = and_parts (found.0.object == o) (found.0.property.0 == p) found.2 in
        let a : (written_at ys j).object ≡ o = ap (λ (w : WrittenValue). w.object) same ∙ eqb-true _ _ x.0 in
        let b : (written_at ys j).property.0 ≡ p = ap (λ (w : WrittenValue). w.property.0) same ∙ eqb-true _ _ x.1 in
        (λ i. values_at n (sym a i) (sym b i)) ∙ v.set j found.1.1 ∙ (λ i. without_repeats (filed_values ys (a i) (b i))) ∙ ap without_repeats (s.kept o p)
    by o p e false t =
        let none = any_at (λ (w : WrittenValue). is_at o p w.object w.property.0) ys t in
        v.unset o p (λ j l. none j no_written l) ∙ e ∙ sym (ap without_repeats (sym (s.kept o p) ∙ none_filed o p ys none))

pub all_may : (m : ModelData) (xs ys : List WrittenValue) → IsSortedValues xs ys → AreValuesOf m xs → Kept m → (i : ℕ) → i < length ys → MayStand (valued m ys i) ys i
all_may m xs ys s h k i l = let of = sorted_of m xs ys s h in may_stand xs ys m (valued m ys i) i of (valued_to xs ys m s of k i (omega (arith, l))) l
