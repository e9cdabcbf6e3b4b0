-- Objects by their numbers, and by the values of the code.
use Rattle.std.proofs.Common.{◌≡◌, ℕ, ◌+◌, ◌≤◌, Bool, true, false, cond, List, [], ◌∷◌, ◌++◌, map, length, Result, Ok, Err, refl, sym, ◌∙◌, ap, subst, arith, append-nil}
use Rattle.std.specs.Prelude.{filter, not, IfOk, IfErr, IsOkUnless}
use Rattle.std.specs.List.{range_with_len}
use Rattle.std.proofs.lemmas.List.{map-append, length-map}
use Rattle.std.proofs.lemmas.List.Filters.{length-filter_both}
use Rattle.std.proofs.lemmas.List.FromFn.{length-range_with_len}
use Rattle.mof_metamodel.specs.declared.desc.MetaDesc.{MetaDesc}
use Rattle.mof_metamodel.specs.MetaFaults.{IsFirstFault}
use Rattle.mof_metamodel.specs.WellMeta.{WellMeta}
use Rattle.mof_metamodel.proofs.WalkLemmas.{filter_step}
use Rattle.object_tables.specs.Models.{ModelData}
use Rattle.model_files.specs.declared.fault.FileError.{FileError}
use Rattle.model_files.specs.declared.fault.FileError.TheVariants as errors
use Rattle.model_files.specs.Described.{is_top_package, top_packages, description_of, Describes, IsFaultOf, IsWhy}
use Rattle.object_tables.specs.declared.value.ObjId.{ObjId}
use Rattle.object_tables.specs.Ids.{object_ids}

pub through_ids : {X : Type 0} (f : ℕ → X) (os : List ℕ) → map (λ (o : ObjId). f o.0) (object_ids os) ≡ map f os
through_ids f [] = refl
through_ids f (o ∷ os) = ap (λ xs. f o ∷ xs) (through_ids f os)

kept_or_not : (b : Bool) (o : ℕ) (os kept : List ℕ) (ids : List ObjId) → ids ≡ object_ids kept
    → cond b ((record { 0 = o }) ∷ ids) ids ≡ object_ids (cond b (o ∷ kept) kept)
kept_or_not true o os kept ids e = ap (λ (xs : List ObjId). (record { 0 = o }) ∷ xs) e
kept_or_not false o os kept ids e = e

pub filtered_ids : (p : ℕ → Bool) (os : List ℕ) → filter (λ (o : ObjId). p o.0) (object_ids os) ≡ object_ids (filter p os)
filtered_ids p [] = refl
filtered_ids p (o ∷ os) = kept_or_not (p o) o os (filter p os) (filter (λ (x : ObjId). p x.0) (object_ids os)) (filtered_ids p os)

-- ---- the numbers that pass a test, one after another

pub one_more : (p : ℕ → Bool) (n : ℕ) (ids : List ObjId) → ids ≡ object_ids (filter p (range_with_len 0 n)) → p n ≡ true
    → ids ++ (record { 0 = n }) ∷ [] ≡ object_ids (filter p (range_with_len 0 (n + 1)))
one_more p n ids e h =
    ap (λ (xs : List ObjId). xs ++ (record { 0 = n }) ∷ []) e
    ∙ sym (map-append (λ (o : ℕ). record { 0 = o }) (filter p (range_with_len 0 n)) (n ∷ []))
    ∙ ap object_ids (sym (filter_step p n ∙ ap (λ b. filter p (range_with_len 0 n) ++ cond b (n ∷ []) []) h))

pub none_more : (p : ℕ → Bool) (n : ℕ) (ids : List ObjId) → ids ≡ object_ids (filter p (range_with_len 0 n)) → p n ≡ false
    → ids ≡ object_ids (filter p (range_with_len 0 (n + 1)))
none_more p n ids e h =
    e ∙ ap object_ids (sym (filter_step p n ∙ ap (λ b. filter p (range_with_len 0 n) ++ cond b (n ∷ []) []) h ∙ append-nil (filter p (range_with_len 0 n))))

pub packages_within : (m : ModelData) (packages : List ObjId) → packages ≡ object_ids (top_packages m) → length packages ≤ length m.objects
packages_within m packages e =
    let all = length-filter_both (is_top_package m) (λ o. not (is_top_package m o)) (λ o. refl) (range_with_len 0 (length m.objects)) in
    let n = length-range_with_len 0 (length m.objects) in
    let long : length packages ≡ length (top_packages m) = ap length e ∙ length-map (top_packages m) (λ (o : ℕ). record { 0 = o }) in
    omega (arith, all, n, long)

-- ---- the one Package

back : (os : List ℕ) → map (λ (o : ObjId). o.0) (object_ids os) ≡ os
back [] = refl
back (o ∷ os) = ap (λ xs. o ∷ xs) (back os)

pub one_package : (m : ModelData) (packages : List ObjId) (root : ObjId) → packages ≡ object_ids (top_packages m) → packages ≡ root ∷ [] → top_packages m ≡ root.0 ∷ []
one_package m packages root e f = sym (back (top_packages m)) ∙ ap (map (λ (o : ObjId). o.0)) (sym e ∙ f)

pub as_many : (m : ModelData) (packages : List ObjId) → packages ≡ object_ids (top_packages m) → length packages ≡ length (top_packages m)
as_many m packages e = ap length e ∙ length-map (top_packages m) (λ (o : ℕ). record { 0 = o })

-- ---- what is made of its description

pub described : (m : ModelData) (root : ℕ) (desc : MetaDesc) (r : Result MetaDesc FileError) → top_packages m ≡ root ∷ [] → desc ≡ description_of m root
    → IfOk r (λ meta. WellMeta desc × (meta ≡ desc)) → IfOk r (Describes m)
described m root desc (Ok meta) only is made =
    record { root = root; only = only; description = made.1 ∙ is; well = subst WellMeta (sym made.1) made.0 }
described m root desc (Err e) only is made = tt

why : (m : ModelData) (root : ℕ) (desc : MetaDesc) (e : FileError) → top_packages m ≡ root ∷ [] → desc ≡ description_of m root → IsFaultOf desc e → IsWhy m e
why m root desc (errors.Text fault) only is made = absurd made
why m root desc (errors.Json fault) only is made = absurd made
why m root desc (errors.Content fault) only is made = absurd made
why m root desc (errors.Meta fault) only is made = (root, only, subst (λ d. IsFirstFault d fault.kind fault.name) is made)
why m root desc (errors.NoPackage n) only is made = absurd made
why m root desc errors.NoMemory only is made = tt

pub not_described : {T : Type 0} (m : ModelData) (root : ℕ) (desc : MetaDesc) (r : Result T FileError) → top_packages m ≡ root ∷ [] → desc ≡ description_of m root
    → IfErr r (IsFaultOf desc) → IfErr r (IsWhy m)
not_described m root desc (Ok meta) only is made = tt
not_described m root desc (Err e) only is made = why m root desc e only is made

-- another description isn't described
same_root : (m : ModelData) (desc other : MetaDesc) (root : ℕ) → top_packages m ≡ root ∷ [] → desc ≡ description_of m root → Describes m other → WellMeta desc
same_root m desc other root only is h =
    let same : h.root ≡ root = heads (sym h.only ∙ only) in
    subst WellMeta (h.description ∙ ap (description_of m) same ∙ sym is) h.well
  where
    heads : {a b : ℕ} → a ∷ [] ≡ b ∷ [] → a ≡ b
    heads e = cc

pub only_described : {T : Type 0} (m : ModelData) (root : ℕ) (desc : MetaDesc) (r : Result T FileError) → top_packages m ≡ root ∷ [] → desc ≡ description_of m root
    → (WellMeta desc → IsOkUnless r errors.NoMemory) → (other : MetaDesc) → Describes m other → IsOkUnless r errors.NoMemory
only_described m root desc r only is made other h = made (same_root m desc other root only is h)

pub none_described : (m : ModelData) (n : ℕ) (other : MetaDesc) → n ≡ length (top_packages m) → (n ≡ 1 → ⊥) → Describes m other → ⊥
none_described m n other e f h = f (e ∙ ap length h.only)
