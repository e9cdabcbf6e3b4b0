-- The flat lists of what a file writes are a model, or have a fault that is told.
use Rattle.std.proofs.Common.{◌≡◌, ℕ, zero, suc, ◌+◌, ◌<◌, ◌≤◌, Bool, true, false, List, [], ◌∷◌, length, take, map, get_or, replicate, refl, sym, ◌∙◌, ap, subst, arith, Option, None, Some, All, inl, inr}
use Rattle.std.specs.Prelude.{HoldsAt}
use Rattle.std.specs.Option.{unwrap_or}
use Rattle.std.proofs.lemmas.Bool.{cases_lt}
use Rattle.std.proofs.lemmas.List.{length-replicate, take_all}
use Rattle.mof_metamodel.specs.declared.desc.ClassId.{ClassId}
use Rattle.mof_metamodel.specs.declared.desc.MetaDesc.{MetaDesc}
use Rattle.mof_metamodel.specs.Metamodels.{opposite_of}
use Rattle.mof_metamodel.specs.WellMeta.{WellMeta}
use Rattle.object_tables.specs.Kept.{Kept}
use Rattle.object_tables.specs.Models.{ModelData}
use Rattle.object_tables.specs.Objects.{Object}
use Rattle.object_tables.proofs.KeptObjects.{kept_added}
use Rattle.model_assembly.specs.declared.assembly.entry.Entry.{Entry}
use Rattle.model_assembly.specs.declared.assembly.first.Part.{Part}
use Rattle.model_assembly.specs.declared.assembly.naming.Naming.{Naming}
use Rattle.model_assembly.specs.declared.fault.ModelFault.{ModelFault}
use Rattle.model_assembly.specs.declared.fault.ModelFault.TheVariants as faults
use Rattle.model_assembly.specs.declared.filed.Filed.{Filed}
use Rattle.model_assembly.specs.declared.filed.WrittenValue.{WrittenValue}
use Rattle.model_assembly.specs.Assembled.{IsWhole, IsContent, IsAssembled}
use Rattle.model_assembly.specs.AssemblyEntries.{entries_from, entry_at}
use Rattle.model_assembly.specs.AssemblyFirsts.{is_dangling, is_unanswered, is_contradicted_by, with_naming}
use Rattle.model_assembly.specs.AssemblyModels.{IsLinkedModel, IsOrderedModel}
use Rattle.model_assembly.specs.AssemblyLinks.{linked_all}
use Rattle.model_assembly.specs.AssemblyNamings.{naming_of, naming, sayings_of, at, IsSecondWhole}
use Rattle.model_assembly.specs.AssemblyObjects.{AreObjects, bare_model}
use Rattle.model_assembly.specs.AssemblyOrders.{ordered}
use Rattle.model_assembly.specs.AssemblyReferences.{MayBeAssembled, IsTold, AreSorted, AreNamed, AreAnswered, dangling_of, mismatch_of, listed_id}
use Rattle.model_assembly.specs.AssemblyValues.{HasValues, IsSortedValues, valued}
use Rattle.mof_metamodel.proofs.Facts.{nothing_in}
use Rattle.model_assembly.proofs.assembling.ContentLaws.{content_told, model_told, fault_told}
use Rattle.model_assembly.proofs.assembling.DecidedLaws.{Checked, sound, fault, checked}
use Rattle.model_assembly.proofs.assembling.EntryLaws.{sorted_twice}
use Rattle.model_assembly.proofs.assembling.FirstLaws.{AreParts, no_parts, second_found, not_second, count_step, parts_step}
use Rattle.model_assembly.proofs.assembling.ObjectLaws.{addable_next, objects_next}
use Rattle.model_assembly.proofs.assembling.OrderedLaws.{linked_ordered}
use Rattle.model_assembly.proofs.assembling.SameLaws.{same_linked_all}
use Rattle.model_assembly.proofs.assembling.SortedLaws.{sorted_values, sorted_of, values_put}
use Rattle.model_assembly.proofs.assembling.SourceOrders.{source_ordered}
use Rattle.model_assembly.proofs.assembling.StableSorts.{sorted, sort_of}
use Rattle.model_assembly.proofs.assembling.StartLaws.{ready}
use Rattle.model_assembly.proofs.assembling.ToldLaws.{none_dangling, dangling_told, second_told, known_objects, known_targets, mismatch_answer, none_unanswered}
use Rattle.model_assembly.proofs.assembling.ValuedLaws.{valued_to}
use Rattle.model_assembly.proofs.assembling.WholeLaws.{may_be_assembled, are_values}

-- ---- the first item that passes a test

record IsFirstIn {X : Type 0} (p : X → Bool) (xs : List X) (i : ℕ) : Type 0 where
  within : i < length xs
  holds : HoldsAt (λ x. p x ≡ true) xs i
  before : All (λ x. p x ≡ false) (take i xs)

data FirstOf {X : Type 0} (p : X → Bool) (xs : List X) : Type 0 where
  nowhere : All (λ x. p x ≡ false) xs → FirstOf p xs
  somewhere : (i : ℕ) → IsFirstIn p xs i → FirstOf p xs

all_cons : {X : Type 0} (P : X → Type 0) (x : X) (xs : List X) → P x → All P xs → All P (x ∷ xs)
all_cons P x xs h g zero d l = h
all_cons P x xs h g (suc k) d l = g k d (omega (arith, l))

first_of : {X : Type 0} (p : X → Bool) (xs : List X) → FirstOf p xs
first_of p [] = nowhere (λ k d l. absurd (omega (arith, l)))
first_of {X = X} p (x ∷ xs) = by (p x) refl (first_of p xs)
  where
    by : (b : Bool) → p x ≡ b → FirstOf p xs → FirstOf p (x ∷ xs)
    by true e rest = somewhere 0 (record { within = omega arith; holds = λ d. e; before = λ k d l. absurd (omega (arith, l)) })
    by false e (nowhere h) = nowhere (all_cons (λ y. p y ≡ false) x xs e h)
    by false e (somewhere i h) = somewhere (suc i) (record {
      within = (let l = h.within in omega (arith, l));
      holds = h.holds;
      before = all_cons (λ y. p y ≡ false) x (take i xs) e h.before;
    })

-- ---- objects without values

no_object : (object : Object) → None ≡ Some object → ⊥
no_object object e = cc

no_number : (n : ℕ) → None ≡ Some n → ⊥
no_number n e = cc

no_text : (text : List ℕ) → None ≡ Some text → ⊥
no_text text e = cc

kept_none : (meta : MetaDesc) → WellMeta meta → Kept (record { meta = meta; objects = [] })
kept_none meta well = record {
  well = well;
  objects = λ o object e. absurd (no_object object e);
  identifiers = λ a b id e f. absurd (no_text id e);
  attributes = λ o p a. absurd (no_number a.class a.class_is);
  references = λ o p a. absurd (no_number a.class a.class_is);
  opposites = λ p q a b e. ((λ h. absurd (nothing_in b h)), (λ h. absurd (nothing_in a h)));
  containers = λ o a b p q h g. absurd (nothing_in o h.linked);
}

kept_bare_to : (meta : MetaDesc) → WellMeta meta → (cs : List ClassId) (ids : List (List ℕ)) → AreObjects meta cs ids → (n : ℕ) → n ≤ length ids → Kept (bare_model meta (take n cs) (take n ids))
kept_bare_to meta well cs ids w zero l = kept_none meta well
kept_bare_to meta well cs ids w (suc n) l =
    let same = w.same in
    let within : n < length ids = omega (arith, l) in
    let classes : n < length cs = omega (arith, l, same) in
    let no_class : ClassId = record { 0 = 0 } in
    let add = addable_next meta cs ids n no_class [] w within in
    let next : suc n ≡ n + 1 = omega arith in
    subst (λ (k : ℕ). Kept (bare_model meta (take k cs) (take k ids))) (sym next)
    (subst Kept (objects_next meta cs ids n no_class [] (bare_model meta (take n cs) (take n ids)) (get_or ids n []) classes within refl refl)
    (kept_added (bare_model meta (take n cs) (take n ids)) (get_or cs n no_class).0 (get_or ids n []) (kept_bare_to meta well cs ids w n (omega (arith, l)))
    (w.within n no_class classes) (w.concrete n no_class classes) (w.identifiers n [] within) add.new))

kept_bare : (meta : MetaDesc) → WellMeta meta → (cs : List ClassId) (ids : List (List ℕ)) → AreObjects meta cs ids → Kept (bare_model meta cs ids)
kept_bare meta well cs ids w =
    let same = w.same in
    subst (λ (xs : List ClassId). Kept (bare_model meta xs ids)) (take_all (length ids) cs (omega (arith, same)))
    (subst (λ (is : List (List ℕ)). Kept (bare_model meta (take (length ids) cs) is)) (take_all (length ids) ids (omega arith)) (kept_bare_to meta well cs ids w (length ids) (omega arith)))

-- ---- the first naming that makes an object a part a second time

data Second (meta : MetaDesc) (xs : List Naming) : Type 0 where
  single : ((j : ℕ) → j < length xs → IsSecondWhole meta xs j → ⊥) → Second meta xs
  second : (i : ℕ) → i < length xs → IsSecondWhole meta xs i → ((j : ℕ) → j < i → IsSecondWhole meta xs j → ⊥) → Second meta xs

second_from : (meta : MetaDesc) (xs : List Naming) (k : ℕ) → All (λ (n : Naming). n.object < k) xs → All (λ (n : Naming). n.target < k) xs
    → (room i : ℕ) → room + i ≡ length xs → (parts : List (Option Part)) → length parts ≡ k → AreParts meta xs i parts → ((j : ℕ) → j < i → IsSecondWhole meta xs j → ⊥) → Second meta xs
second_from meta xs k objects targets zero i n parts count are before = single (λ j l. before j (omega (arith, l, n)))
second_from meta xs k objects targets (suc room) i n parts count are before =
    by (is_contradicted_by meta parts (at xs i)) refl (second_from meta xs k objects targets room (suc i) (omega (arith, n)))
  where
    within : i < length xs
    within = omega (arith, n)

    more : (IsSecondWhole meta xs i → ⊥) → (j : ℕ) → j < suc i → IsSecondWhole meta xs j → ⊥
    more here j l = elim (cases_lt j i) [
      | inl earlier ↦ before j earlier
      | inr late ↦ (let same : i ≡ j = omega (arith, l, late) in subst (λ (x : ℕ). IsSecondWhole meta xs x → ⊥) same here)
    ]

    by : (b : Bool) → is_contradicted_by meta parts (at xs i) ≡ b
        → ((parts : List (Option Part)) → length parts ≡ k → AreParts meta xs (suc i) parts → ((j : ℕ) → j < suc i → IsSecondWhole meta xs j → ⊥) → Second meta xs) → Second meta xs
    by true e next = second i within (second_found meta xs i parts are e) before
    by false e next =
        let step : i + 1 ≡ suc i = omega arith in
        next (with_naming meta parts (at xs i)) (count_step meta parts (with_naming meta parts (at xs i)) (at xs i) k refl count)
        (subst (λ (x : ℕ). AreParts meta xs x (with_naming meta parts (at xs i))) step
        (parts_step meta xs i k parts (with_naming meta parts (at xs i)) are count e (objects i (naming 0 0 0) within) (targets i (naming 0 0 0) within) refl))
        (more (not_second meta xs i parts are e))

-- ---- the answer

pub data Found (meta : MetaDesc) (f : Filed) : Type 0 where
  model : (m : ModelData) → IsAssembled meta f m → Found meta f
  told : (fault : ModelFault) → IsTold meta f fault → Found meta f

module _ (meta : MetaDesc) (f : Filed) (well : WellMeta meta) (whole : IsWhole meta f) where
  may : MayBeAssembled meta f
  may = may_be_assembled meta f whole

  -- the model that is put together, whether it is valid or not
  record HasContent : Type 0 where
    content : ModelData
    is : IsContent meta f content
    kept : Kept content

  content_of : (xs : List Naming) → AreAnswered meta f xs → HasContent
  content_of xs a =
      let bare : ModelData = bare_model meta f.classes f.ids in
      let kept : Kept bare = kept_bare meta well f.classes f.ids may.objects in
      let ys : List WrittenValue = sorted (λ (v : WrittenValue). v.property.0) f.values in
      let zs : List WrittenValue = sorted (λ (v : WrittenValue). v.object) ys in
      let one = sort_of (λ (v : WrittenValue). v.property.0) f.values in
      let two = sort_of (λ (v : WrittenValue). v.object) ys in
      let order : IsSortedValues f.values zs = sorted_values f.values ys zs one.same two.same one.rises one.stable two.rises two.stable in
      let values = are_values meta f whole in
      let start : ModelData = valued bare zs (length zs) in
      let has : HasValues bare f.values start = values_put bare f.values zs order values kept in
      let begun = valued_to f.values zs bare order (sorted_of bare f.values zs order values) kept (length zs) (omega arith) in
      let done = ready meta f xs start may a has begun.kept in
      let linked : IsLinkedModel meta f xs (linked_all start xs) =
      record { start = start; values = has; links = done.linked; by_number = done.by_number; same = same_linked_all start xs } in
      let m : ModelData = ordered (linked_all start xs) xs (length xs) in
      let whole_order : IsOrderedModel meta f xs m = linked_ordered meta f xs (linked_all start xs) may a linked in
      record { content = m; is = content_told meta f xs m may a whole_order (source_ordered meta f xs m may a whole_order); kept = whole_order.linked.links.kept }

  of_content : HasContent → Found meta f
  of_content h = by (checked h.content h.kept)
    where
      by : Checked h.content h.kept → Found meta f
      by (sound x) = model h.content (model_told meta f h.content whole h.is x)
      by (fault g x) = told g (fault_told meta f h.content g whole h.is h.kept x)

  answered : (xs : List Naming) → AreNamed meta f xs → ((j : ℕ) → j < length xs → IsSecondWhole meta xs j → ⊥) → Found meta f
  answered xs named single_all = by (first_of (is_unanswered meta xs (sayings_of xs f.mentions)) xs)
    where
      by : FirstOf (is_unanswered meta xs (sayings_of xs f.mentions)) xs → Found meta f
      by (nowhere h) = of_content (content_of xs (record { named = named; single = single_all; answered = none_unanswered meta f xs (sayings_of xs f.mentions) refl h }))
      by (somewhere i h) =
          let fault : ModelFault = mismatch_of meta f (at xs i) (unwrap_or (opposite_of meta (at xs i).property) 0) in
          told fault
          (mismatch_answer meta f xs (sayings_of xs f.mentions) i fault well may named single_all refl (h.within, h.holds, h.before)
          (λ q e. ap (λ (o : Option ℕ). mismatch_of meta f (at xs i) (unwrap_or o 0)) e))

  divided : (xs : List Naming) → AreNamed meta f xs → Found meta f
  divided xs named =
      by
      (second_from meta xs (length f.ids) (known_objects meta f xs may named) (known_targets meta f xs may named) (length xs) 0 (omega arith) (replicate (length f.ids) None)
      (length-replicate (length f.ids) None) (no_parts meta xs (length f.ids)) (λ j l. absurd (omega (arith, l))))
    where
      some_same : (x y : Part) → Some x ≡ Some y → x ≡ y
      some_same x y e = cc

      by : Second meta xs → Found meta f
      by (single h) = answered xs named h
      by (second i l h before) =
          told (faults.TwoContainers (listed_id f.ids h.part.part))
          (second_told meta f xs i (faults.TwoContainers (listed_id f.ids h.part.part)) well may named l h before
          (λ x e. ap (λ (part : Part). faults.TwoContainers (listed_id f.ids part.part)) (some_same h.part x (sym h.part_is ∙ e))))

  -- what the lists are
  pub found : Found meta f
  found = by (first_of (is_dangling meta f.classes) es)
    where
      entries : List Entry
      entries = entries_from meta f.classes 0 f.references

      ys : List Entry
      ys = sorted (λ (e : Entry). e.place) entries

      es : List Entry
      es = sorted (λ (e : Entry). e.object) ys

      order : AreSorted meta f es
      order =
          let one = sort_of (λ (e : Entry). e.place) entries in
          let two = sort_of (λ (e : Entry). e.object) ys in
          sorted_twice entries ys es one.same two.same one.rises one.stable two.rises two.stable

      by : FirstOf (is_dangling meta f.classes) es → Found meta f
      by (nowhere h) = divided (map naming_of es) (record { entries = es; order = order; fit = none_dangling meta f es h; namings = refl })
      by (somewhere i h) =
          told (dangling_of meta f (entry_at es i)) (dangling_told meta f es i (dangling_of meta f (entry_at es i)) (entry_at es i) may order h.within h.holds h.before refl refl)
