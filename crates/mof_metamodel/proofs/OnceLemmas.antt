-- No class stands twice in a class order.
use Rattle.std.proofs.Common.{◌≡◌, ℕ, zero, suc, List, [], ◌∷◌, ◌++◌, Bool, true, false, cond, map, refl, sym, ◌∙◌, ap, subst, arith}
use Rattle.std.specs.Prelude.{Option, Some, None, Contains, nat_eq, filter}
use Rattle.std.specs.List.{list_any, range_with_len}
use Rattle.std.specs.Option.{unwrap_or}
use Rattle.mof_metamodel.specs.declared.desc.MetaDesc.{MetaDesc}
use Rattle.mof_metamodel.specs.Metamodels.{class_count, supers_of, with_item, united, all_united, lineage_within, conforms_within, reached_classes, lineage_of, props_of}
use Rattle.mof_metamodel.proofs.LineageLemmas.{Has-from_Contains, lineage_parts}
use Rattle.mof_metamodel.proofs.DistinctLemmas.{IsOnce, once_nil, once_append, once_range, props_once}
use Rattle.std.proofs.lemmas.Bool.{false≢true}

once_one : (x : ℕ) → IsOnce (x ∷ [])
once_one x i j d l lj = absurd (omega arith)

one_is : (x q : ℕ) → Contains (x ∷ []) q → x ≡ q
one_is x q (zero, l, e) = e
one_is x q (suc k, l, e) = absurd (omega arith)

once_cons : (x : ℕ) (xs : List ℕ) → (Contains xs x → ⊥) → IsOnce xs → IsOnce (x ∷ xs)
once_cons x xs new h = once_append (x ∷ []) xs (once_one x) h (λ q a b. new (subst (Contains xs) (sym (one_is x q a)) b))

with_item-once : (xs : List ℕ) (x : ℕ) → IsOnce xs → IsOnce (with_item xs x)
with_item-once xs x h = by (list_any (nat_eq x) xs) refl
  where
    by : (b : Bool) → list_any (nat_eq x) xs ≡ b → IsOnce (cond b xs (xs ++ x ∷ []))
    by true e = h
    by false e = once_append xs (x ∷ []) h (once_one x) (λ q a b. false≢true (sym e ∙ Has-from_Contains xs x (subst (Contains xs) (sym (one_is x q b)) a)))

pub united-once : (xs ys : List ℕ) → IsOnce xs → IsOnce (united xs ys)
united-once xs [] h = h
united-once xs (y ∷ ys) h = united-once (with_item xs y) ys (with_item-once xs y h)

all_united-once : (xs : List ℕ) (rest : List (Option (List ℕ))) (out : List ℕ) → IsOnce xs → all_united xs rest ≡ Some out → IsOnce out
all_united-once xs [] out h e = subst IsOnce (ap (λ o. unwrap_or o []) e) h
all_united-once xs (None ∷ rest) out h e = absurd cc
all_united-once xs ((Some ys) ∷ rest) out h e = all_united-once (united xs ys) rest out (united-once xs ys h) e

lineage_within-once : (desc : MetaDesc) (n c : ℕ) (r : List ℕ) → lineage_within desc n c ≡ Some r → IsOnce r
lineage_within-once desc zero c r h = absurd cc
lineage_within-once desc (suc n) c r h =
    let (cs, joint, all) = lineage_parts desc n c r h in
    subst IsOnce all (with_item-once cs c (all_united-once [] (map (lineage_within desc n) (supers_of desc c)) cs once_nil joint))

filter_has : (p : ℕ → Bool) (xs : List ℕ) (q : ℕ) → Contains (filter p xs) q → Contains xs q
filter_has p [] q h = h
filter_has p (x ∷ xs) q h = by (filter_has p xs q) (p x) h
  where
    later : Contains xs q → Contains (x ∷ xs) q
    later c = let (k, l, e) = c in (suc k, omega arith, e)

    here : (Contains (filter p xs) q → Contains xs q) → Contains (x ∷ filter p xs) q → Contains (x ∷ xs) q
    here ih (zero, l, e) = (0, omega arith, e)
    here ih (suc k, l, e) = later (ih (k, omega arith, e))

    by : (Contains (filter p xs) q → Contains xs q) → (b : Bool) → Contains (cond b (x ∷ filter p xs) (filter p xs)) q → Contains (x ∷ xs) q
    by ih true c = here ih c
    by ih false c = later (ih c)

pub filter-once : (p : ℕ → Bool) (xs : List ℕ) → IsOnce xs → IsOnce (filter p xs)
filter-once p [] h = h
filter-once p (x ∷ xs) h = by (filter-once p xs (λ i j d l lj. h (suc i) (suc j) d (omega arith) (omega arith))) (p x)
  where
    new : Contains (filter p xs) x → ⊥
    new c = let (k, l, e) = filter_has p xs x c in h 0 (suc k) x (omega arith) (omega arith) (sym e)

    by : IsOnce (filter p xs) → (b : Bool) → IsOnce (cond b (x ∷ filter p xs) (filter p xs))
    by rest true = once_cons x (filter p xs) new rest
    by rest false = rest

-- the classes of a class, each once
pub lineage_once : (desc : MetaDesc) (c : ℕ) → IsOnce (lineage_of desc c)
lineage_once desc c = by (lineage_within desc (class_count desc) c) refl
  where
    by : (o : Option (List ℕ)) → lineage_within desc (class_count desc) c ≡ o → IsOnce (unwrap_or o (reached_classes desc c))
    by (Some r) e = lineage_within-once desc (class_count desc) c r e
    by None e = filter-once (conforms_within desc (class_count desc) c) (range_with_len 0 (class_count desc)) (once_range 0 (class_count desc))

-- and its properties
pub props_of_once : (desc : MetaDesc) (c : ℕ) → IsOnce (props_of desc c)
props_of_once desc c = props_once desc (lineage_of desc c) (lineage_once desc c)
