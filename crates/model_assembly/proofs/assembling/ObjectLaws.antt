-- Objects that are added one by one.
use Rattle.std.proofs.Common.{◌≡◌, ◌≢◌, ℕ, zero, suc, ◌+◌, ◌<◌, ◌≤◌, ◌⊎◌, Bool, true, false, List, [], ◌∷◌, ◌++◌, length, take, get_or, refl, sym, ◌∙◌, ap, arith, subst, Option, Some, None, inl, inr}
use Rattle.std.specs.Prelude.{option_map, count_by, is_some}
use Rattle.std.proofs.lemmas.List.{length-take-le, get_or-take, get_or_default}
use Rattle.std.proofs.lemmas.List.Sums.{sum_by-cons}
use Rattle.mof_metamodel.specs.declared.desc.MetaDesc.{MetaDesc}
use Rattle.mof_metamodel.specs.declared.desc.ClassId.{ClassId}
use Rattle.object_tables.specs.declared.fault.AddFault.{AddFault}
use Rattle.object_tables.specs.declared.fault.AddFault.TheVariants as faults
use Rattle.object_tables.specs.AddFaults.{IsAddFault}
use Rattle.object_tables.specs.Objects.{Object}
use Rattle.object_tables.specs.Models.{ModelData, new_object, added, HasId, IsFull, IsAddable}
use Rattle.model_assembly.specs.AssemblyObjects.{AreObjects, new_objects, bare_model}

-- nothing else is against an object that may be added
pub memory_alone : (m : ModelData) (class : ℕ) (id : List ℕ) (fault : AddFault) → IsAddable m class id → IsAddFault m class id fault → fault ≡ faults.NoMemory
memory_alone m class id faults.Limit a h = absurd (a.room h)
memory_alone m class id faults.Abstract a h = absurd (Rattle.std.proofs.Common.true≢false (sym h.1 ∙ a.concrete))
memory_alone m class id faults.DuplicateId a h = absurd (a.new h.2)
memory_alone m class id faults.NoMemory a h = refl

pub objects_more : (meta : MetaDesc) (cs : List ClassId) (ids : List (List ℕ)) (n : ℕ) (c : ClassId) (d : List ℕ) → n < length cs → n < length ids
    → new_objects meta (take (suc n) cs) (take (suc n) ids) ≡ new_objects meta (take n cs) (take n ids) ++ Some (new_object meta (get_or cs n c).0 (get_or ids n d)) ∷ []
objects_more meta [] ids n c d l k = absurd (omega (arith, l))
objects_more meta (x ∷ cs) [] n c d l k = absurd (omega (arith, k))
objects_more meta (x ∷ cs) (id ∷ ids) zero c d l k = refl
objects_more meta (x ∷ cs) (id ∷ ids) (suc n) c d l k =
    ap (λ rest. Some (new_object meta x.0 id) ∷ rest) (objects_more meta cs ids n c d (omega (arith, l)) (omega (arith, k)))

live_objects : (meta : MetaDesc) (cs : List ClassId) (ids : List (List ℕ)) → count_by is_some (new_objects meta cs ids) ≤ length ids
live_objects meta [] ids = omega arith
live_objects meta (c ∷ cs) [] = omega arith
live_objects meta (c ∷ cs) (id ∷ ids) =
    let rest = live_objects meta cs ids in
    let one = sum_by-cons (λ o. Rattle.std.proofs.Common.cond (is_some o) 1 0) (Some (new_object meta c.0 id)) (new_objects meta cs ids) in
    omega (arith, rest, one)

length-objects : (meta : MetaDesc) (cs : List ClassId) (ids : List (List ℕ)) → length (new_objects meta cs ids) ≤ length ids
length-objects meta [] ids = omega arith
length-objects meta (c ∷ cs) [] = omega arith
length-objects meta (c ∷ cs) (id ∷ ids) = let rest = length-objects meta cs ids in omega (arith, rest)

pub id_of_object : (meta : MetaDesc) (cs : List ClassId) (ids : List (List ℕ)) (o : ℕ) (id : List ℕ) → option_map (λ (ob : Object). ob.id) (get_or (new_objects meta cs ids) o None) ≡ Some id
    → (o < length ids) × (get_or ids o [] ≡ id)
id_of_object meta [] ids o id e = absurd cc
id_of_object meta (c ∷ cs) [] o id e = absurd cc
id_of_object meta (c ∷ cs) (x ∷ ids) zero id e = (omega arith, cc)
id_of_object meta (c ∷ cs) (x ∷ ids) (suc o) id e = let rest = id_of_object meta cs ids o id e in (omega (arith, rest.0), rest.1)

-- the next object may be added
pub addable_next : (meta : MetaDesc) (cs : List ClassId) (ids : List (List ℕ)) (n : ℕ) (c : ClassId) (d : List ℕ) → AreObjects meta cs ids → n < length ids
    → IsAddable (bare_model meta (take n cs) (take n ids)) (get_or cs n c).0 (get_or ids n d)
addable_next meta cs ids n c d w l = record { room = room; concrete = w.concrete n c (omega (arith, l, w.same)); new = new }
  where
    m : ModelData
    m = bare_model meta (take n cs) (take n ids)

    count : length (take n ids) ≡ n
    count = length-take-le n ids (omega (arith, l))

    room : ¬ IsFull m
    room (inl h) = let a = live_objects meta (take n cs) (take n ids) in let few = w.few in omega (arith, h, a, count, few, l)
    room (inr h) = let a = length-objects meta (take n cs) (take n ids) in let few = w.few in omega (arith, h, a, count, few, l)

    new : ¬ HasId m (get_or ids n d)
    new (o, e) =
        let found = id_of_object meta (take n cs) (take n ids) o (get_or ids n d) e in
        let below : o < n = omega (arith, found.0, count) in
        let here : get_or ids o d ≡ get_or ids n d = get_or_default ids o d [] (omega (arith, below, l)) ∙ sym (get_or-take n ids o [] below) ∙ found.1 in
        w.distinct o n d below l here

pub addable_at : (meta : MetaDesc) (cs : List ClassId) (ids : List (List ℕ)) (n : ℕ) (c : ClassId) (d : List ℕ) (m : ModelData) (id : List ℕ) → AreObjects meta cs ids → n < length ids
    → m ≡ bare_model meta (take n cs) (take n ids) → id ≡ get_or ids n d → IsAddable m (get_or cs n c).0 id
addable_at meta cs ids n c d m id w l e i =
    subst (λ m. IsAddable m (get_or cs n c).0 id) (sym e) (subst (IsAddable (bare_model meta (take n cs) (take n ids)) (get_or cs n c).0) (sym i) (addable_next meta cs ids n c d w l))

-- and the model with it
pub objects_next : (meta : MetaDesc) (cs : List ClassId) (ids : List (List ℕ)) (n : ℕ) (c : ClassId) (d : List ℕ) (m : ModelData) (id : List ℕ) → n < length cs → n < length ids
    → m ≡ bare_model meta (take n cs) (take n ids) → id ≡ get_or ids n d → added m (get_or cs n c).0 id ≡ bare_model meta (take (n + 1) cs) (take (n + 1) ids)
objects_next meta cs ids n c d m id l k e i =
    (λ j. added (e j) (get_or cs n c).0 (i j))
    ∙ ap (λ objects. record { meta = meta; objects = objects }) (sym (objects_more meta cs ids n c d l k))
    ∙ (let q : suc n ≡ n + 1 = omega arith in ap (λ z. bare_model meta (take z cs) (take z ids)) q)
