-- In a model whose pairs are those of the namings, what is named at a reference is what its partners are, in another order.
use Rattle.std.proofs.Common.{◌≡◌, ℕ, zero, suc, ◌<◌, ◌≤◌, ◌⊎◌, Bool, true, false, cond, List, [], ◌∷◌, length, map, refl, sym, ◌∙◌, ap, arith, subst, Option, Some, None, inl, inr, true≢false}
use Rattle.std.specs.Prelude.{◌==◌, ◌&&◌, not, nat_eq, IsPermutation, AllPairs}
use Rattle.std.specs.List.{list_any, IsDistinct}
use Rattle.std.specs.Cmp.{both_ways}
use Rattle.std.proofs.lemmas.Bool.{cases_lt, eq-eqb, and_from, or_cases, or_left, or_right, not-false}
use Rattle.std.proofs.lemmas.List.Sorted.{list_any-IsPermutation}
use Rattle.mof_metamodel.specs.declared.desc.MetaDesc.{MetaDesc}
use Rattle.mof_metamodel.specs.Metamodels.{opposite_of}
use Rattle.object_tables.specs.Models.{ModelData, partners_at, with_order, IsReferenceOf}
use Rattle.object_tables.specs.Objects.{Slot}
use Rattle.object_tables.proofs.KeptLemmas.{sound_of, slotted_of}
use Rattle.object_tables.proofs.ReorderLemmas.{kept_reordered}
use Rattle.object_tables.proofs.SlotLemmas.{IsSlotted, slot_at, class-with_slot, slot_cases, slot_here}
use Rattle.model_assembly.specs.declared.filed.Filed.{Filed}
use Rattle.model_assembly.specs.declared.filed.Mention.{Mention}
use Rattle.model_assembly.specs.declared.assembly.naming.Naming.{Naming}
use Rattle.model_assembly.specs.declared.assembly.naming.Saying.{Saying}
use Rattle.model_assembly.specs.AssemblyFirsts.{same_naming, same_saying, is_unanswered, is_unanswered_at}
use Rattle.model_assembly.specs.AssemblyLinks.{has_partner, IsLinkedTo, is_back, is_pair_of}
use Rattle.model_assembly.specs.AssemblyModels.{IsLinkedModel, IsOrderedModel}
use Rattle.model_assembly.specs.AssemblyNamings.{naming, saying, saying_of, saying_of_mention, sayings_of, at}
use Rattle.model_assembly.specs.AssemblyObjects.{bare_model}
use Rattle.model_assembly.specs.AssemblyOrders.{targets, distinct_targets, named_from, is_first, ordered, MayBeOrdered}
use Rattle.model_assembly.specs.AssemblyReferences.{MayBeAssembled, AreNamed, AreAnswered}
use Rattle.model_assembly.specs.AssemblyValues.{HasValues}
use Rattle.model_assembly.proofs.assembling.LinkLaws.{same_parts, parts_same}
use Rattle.model_assembly.proofs.assembling.LinkedLaws.{IsFitNaming, fit_later}
use Rattle.model_assembly.proofs.assembling.ListLaws.{any_contains, contains_any}
use Rattle.model_assembly.proofs.assembling.MemberLaws.{same_members, united_distinct, distinct_apart}
use Rattle.model_assembly.proofs.assembling.SameLaws.{same_then, same_ordered}
use Rattle.model_assembly.proofs.assembling.StartLaws.{class_of_bare, fit_namings}
use Rattle.model_assembly.proofs.assembling.TargetLaws.{is_next, AreTogether, next_same, distinct_has, first_whole, together_named}

no_repeat : IsDistinct nat_eq []
no_repeat = distinct_apart [] (λ i j d l k. absurd (omega (arith, k)))

-- a naming at a place is one of the list
named_here : (xs : List Naming) (j : ℕ) (o : Naming) → j < length xs → same_naming o (at xs j) ≡ true → list_any (same_naming o) xs ≡ true
named_here xs j o l e = contains_any (same_naming o) xs (at xs j) (j, l, Rattle.std.proofs.lemmas.List.get_or_default xs j (at xs j) (naming 0 0 0) l) e

-- the other way round
turned : (a b : Naming) → same_naming a b ≡ true → same_naming b a ≡ true
turned a b e = let s = same_parts a.property a.object a.target b e in parts_same b.property b.object b.target a (sym s.0) (sym s.1) (sym s.2)

-- an object that names something speaks
pub says_there : (xs : List Naming) (ms : List Mention) (i : ℕ) → i < length xs → list_any (same_saying (saying (at xs i).object (at xs i).property)) (sayings_of xs ms) ≡ true
says_there xs ms i l =
    Rattle.std.proofs.lemmas.List.Folds.list_any-append (same_saying t) (map saying_of xs) (map saying_of_mention ms)
    ∙ or_left (list_any (same_saying t) (map saying_of xs)) (list_any (same_saying t) (map saying_of_mention ms)) (among xs i l)
  where
    t : Saying
    t = saying (at xs i).object (at xs i).property

    among : (ys : List Naming) (j : ℕ) → j < length ys → list_any (same_saying (saying (at ys j).object (at ys j).property)) (map saying_of ys) ≡ true
    among [] j k = absurd (omega (arith, k))
    among (y ∷ ys) zero k = or_left (same_saying (saying y.object y.property) (saying_of y)) (list_any (same_saying (saying y.object y.property)) (map saying_of ys))
        (and_from (y.object == y.object) (y.property == y.property) (eq-eqb y.object y.object refl) (eq-eqb y.property y.property refl))
    among (y ∷ ys) (suc j) k = or_right (same_saying (saying (at ys j).object (at ys j).property) (saying_of y)) (list_any (same_saying (saying (at ys j).object (at ys j).property)) (map saying_of ys)) (among ys j (omega (arith, k)))

-- what is answered is named
answer_named : (says named : Bool) → (says && not named) ≡ false → says ≡ true → named ≡ true
answer_named true true h e = refl
answer_named true false h e = absurd (true≢false h)
answer_named false named h e = absurd (true≢false (sym e))

-- all that the laws ask of namings
pub record AreOrderly (start : ModelData) (xs : List Naming) (ms : List Mention) : Type 0 where
  pub together : AreTogether xs
  pub answered : (j : ℕ) → j < length xs → is_unanswered start.meta xs (sayings_of xs ms) (at xs j) ≡ false
  pub fit : (j : ℕ) → j < length xs → IsFitNaming start (at xs j)

-- where an object speaks, a pair is a naming
pub pair_named : (start m : ModelData) (xs : List Naming) (ms : List Mention) → AreOrderly start xs ms → IsLinkedTo start xs (length xs) m → (o p q : ℕ) → list_any (same_saying (saying o p)) (sayings_of xs ms) ≡ true
    → has_partner m (naming o p q) ≡ true → list_any (same_naming (naming o p q)) xs ≡ true
pair_named start m xs ms a h o p q said e = by (or_cases (same_naming n x) (is_back n x (opposite_of start.meta n.property)) found.2)
  where
    x : Naming
    x = naming o p q

    found : (j : ℕ) × (j < length xs) × (is_pair_of start.meta (at xs j) x ≡ true)
    found = h.known x e

    n : Naming
    n = at xs found.0

    over : (r : Option ℕ) → is_unanswered_at xs (sayings_of xs ms) n r ≡ false → is_back n x r ≡ true → list_any (same_naming x) xs ≡ true
    over None u t = absurd (true≢false (sym t))
    over (Some r) u t =
        let s = same_parts r n.target n.object x t in
        let says : list_any (same_saying (saying n.target r)) (sayings_of xs ms) ≡ true = (λ k. list_any (same_saying (saying (sym s.1 k) (sym s.0 k))) (sayings_of xs ms)) ∙ said in
        (λ k. list_any (same_naming (naming (s.1 k) (s.0 k) (s.2 k))) xs) ∙ answer_named (list_any (same_saying (saying n.target r)) (sayings_of xs ms)) (list_any (same_naming (naming n.target r n.object)) xs) u says

    by : (same_naming n x ≡ true) ⊎ (is_back n x (opposite_of start.meta n.property) ≡ true) → list_any (same_naming x) xs ≡ true
    by (inl t) = named_here xs found.0 x found.1 (turned n x t)
    by (inr t) = over (opposite_of start.meta n.property) (a.answered found.0 found.1) t

-- and the naming of a list is a pair
pub named_pair : (start m : ModelData) (xs : List Naming) → IsLinkedTo start xs (length xs) m → (x : Naming) → list_any (same_naming x) xs ≡ true → has_partner m x ≡ true
named_pair start m xs h x e =
    let found = any_contains (same_naming x) xs e in
    let j = found.1.0 in
    let same : at xs j ≡ found.0 = Rattle.std.proofs.lemmas.List.get_or_default xs j (naming 0 0 0) found.0 found.1.1 ∙ found.1.2 in
    h.all j x found.1.1 (or_left (same_naming (at xs j) x) (is_back (at xs j) x (opposite_of start.meta (at xs j).property)) (turned x (at xs j) (ap (same_naming x) same ∙ found.2)))

-- the partners are what is named, in another order
pub may_be_ordered : (start m : ModelData) (xs : List Naming) (ms : List Mention) → AreOrderly start xs ms → IsLinkedTo start xs (length xs) m → (i : ℕ) → i < length xs → is_first xs i ≡ true → MayBeOrdered m xs i
may_be_ordered start m xs ms a h i l e = record {
  reference = reference;
  partners = subst (λ ys. IsPermutation ys (partners_at m o p)) (sym (first_whole xs a.together i l e))
      (same_members (distinct_targets xs o p) (partners_at m o p) (united_distinct [] (targets o p xs) no_repeat) (distinct_apart (partners_at m o p) (h.kept.references o p reference).distinct) alike);
}
  where
    o : ℕ
    o = (at xs i).object

    p : ℕ
    p = (at xs i).property

    reference : IsReferenceOf m o p
    reference = (fit_later start m xs (length xs) (at xs i) h (a.fit i l)).reference

    alike : (q : ℕ) → list_any (nat_eq q) (distinct_targets xs o p) ≡ list_any (nat_eq q) (partners_at m o p)
    alike q = distinct_has xs o p q ∙ both_ways (list_any (same_naming (naming o p q)) xs) (has_partner m (naming o p q)) (named_pair start m xs h (naming o p q)) (pair_named start m xs ms a h o p q (says_there xs ms i l))

-- ---- through the orders

-- the pairs are still the same, and the orders of the references so far are those of the namings
pub record IsOrderedTo (start : ModelData) (xs : List Naming) (i : ℕ) (linked m : ModelData) : Type 0 where
  pub links : IsLinkedTo start xs (length xs) m
  pub set : (j : ℕ) → j < i → partners_at m (at xs j).object (at xs j).property ≡ distinct_targets xs (at xs j).object (at xs j).property
  pub unset : (o p : ℕ) → ((j : ℕ) → j < length xs → is_next (naming o p 0) (at xs j) ≡ false) → partners_at m o p ≡ partners_at linked o p

step_first : (start linked m : ModelData) (xs : List Naming) (ms : List Mention) (i : ℕ) → AreOrderly start xs ms → IsOrderedTo start xs i linked m → i < length xs → is_first xs i ≡ true
    → IsOrderedTo start xs (suc i) linked (with_order m (at xs i).object (at xs i).property (named_from xs i))
step_first start linked m xs ms i a h l e = record {
  links = record {
    meta = h.links.meta;
    classes = λ b. class-with_slot m o p f b ∙ h.links.classes b;
    kept = kept_reordered m o p order h.links.kept may.reference may.partners;
    known = λ x t. h.links.known x (sym (alike x) ∙ t);
    all = λ j x k t. alike x ∙ h.links.all j x k t;
  };
  set = set;
  unset = unset;
}
  where
    o : ℕ
    o = (at xs i).object

    p : ℕ
    p = (at xs i).property

    order : List ℕ
    order = named_from xs i

    f : Slot → Slot
    f s = record s { partners = order }

    new : ModelData
    new = with_order m o p order

    may : MayBeOrdered m xs i
    may = may_be_ordered start m xs ms a h.links i l e

    slotted : IsSlotted m
    slotted = slotted_of m (sound_of m h.links.kept)

    whole : order ≡ distinct_targets xs o p
    whole = first_whole xs a.together i l e

    alike : (x : Naming) → has_partner new x ≡ has_partner m x
    alike x = by (slot_cases m o p f x.object x.property slotted)
      where
        by : (slot_at new x.object x.property ≡ slot_at m x.object x.property) ⊎ ((x.object ≡ o) × (x.property ≡ p) × (slot_at new x.object x.property ≡ f (slot_at m x.object x.property))) → has_partner new x ≡ has_partner m x
        by (inl s) = ap (λ (s : Slot). list_any (nat_eq x.target) s.partners) s
        by (inr (u, v, s)) =
            ap (λ (s : Slot). list_any (nat_eq x.target) s.partners) s
            ∙ list_any-IsPermutation (nat_eq x.target) order (partners_at m o p) may.partners
            ∙ (λ k. list_any (nat_eq x.target) (partners_at m (sym u k) (sym v k)))

    here : partners_at new o p ≡ order
    here = ap (λ (s : Slot). s.partners) (slot_here m o p may.reference.class f slotted may.reference.class_is may.reference.has)

    set : (j : ℕ) → j < suc i → partners_at new (at xs j).object (at xs j).property ≡ distinct_targets xs (at xs j).object (at xs j).property
    set j k = by (cases_lt j i)
      where
        b : ℕ
        b = (at xs j).object

        q : ℕ
        q = (at xs j).property

        over : j < i → (slot_at new b q ≡ slot_at m b q) ⊎ ((b ≡ o) × (q ≡ p) × (slot_at new b q ≡ f (slot_at m b q))) → partners_at new b q ≡ distinct_targets xs b q
        over z (inl s) = ap (λ (s : Slot). s.partners) s ∙ h.set j z
        over z (inr (x, y, s)) = ap (λ (s : Slot). s.partners) s ∙ whole ∙ (λ t. distinct_targets xs (sym x t) (sym y t))

        by : (j < i) ⊎ (i ≤ j) → partners_at new b q ≡ distinct_targets xs b q
        by (inl z) = over z (slot_cases m o p f b q slotted)
        by (inr z) =
            let same : i ≡ j = omega (arith, z, k) in
            subst (λ t. partners_at new (at xs t).object (at xs t).property ≡ distinct_targets xs (at xs t).object (at xs t).property) same (here ∙ whole)

    unset : (b q : ℕ) → ((j : ℕ) → j < length xs → is_next (naming b q 0) (at xs j) ≡ false) → partners_at new b q ≡ partners_at linked b q
    unset b q g = by (slot_cases m o p f b q slotted)
      where
        by : (slot_at new b q ≡ slot_at m b q) ⊎ ((b ≡ o) × (q ≡ p) × (slot_at new b q ≡ f (slot_at m b q))) → partners_at new b q ≡ partners_at linked b q
        by (inl s) = ap (λ (s : Slot). s.partners) s ∙ h.unset b q g
        by (inr (x, y, s)) = absurd (true≢false (sym (and_from (o == b) (p == q) (eq-eqb o b (sym x)) (eq-eqb p q (sym y))) ∙ g i l))

step_same : (start linked m : ModelData) (xs : List Naming) (i : ℕ) → IsOrderedTo start xs i linked m → is_first xs i ≡ false → IsOrderedTo start xs (suc i) linked m
step_same start linked m xs zero h e = absurd (true≢false e)
step_same start linked m xs (suc i) h e = record { links = h.links; set = set; unset = h.unset }
  where
    key : ((at xs (suc i)).object ≡ (at xs i).object) × ((at xs (suc i)).property ≡ (at xs i).property)
    key = next_same (at xs i) (at xs (suc i)) (not-false _ e)

    set : (j : ℕ) → j < suc (suc i) → partners_at m (at xs j).object (at xs j).property ≡ distinct_targets xs (at xs j).object (at xs j).property
    set j k = elim (cases_lt j (suc i)) [
      | inl z ↦ h.set j z
      | inr z ↦ (
          let same : suc i ≡ j = omega (arith, z, k) in
          subst (λ t. partners_at m (at xs t).object (at xs t).property ≡ distinct_targets xs (at xs t).object (at xs t).property) same
          ((λ t. partners_at m (key.0 t) (key.1 t)) ∙ h.set i (omega arith) ∙ (λ t. distinct_targets xs (sym key.0 t) (sym key.1 t))))
    ]

-- the orders so far
pub ordered_to : (start m : ModelData) (xs : List Naming) (ms : List Mention) → AreOrderly start xs ms → IsLinkedTo start xs (length xs) m → (i : ℕ) → i ≤ length xs → IsOrderedTo start xs i m (ordered m xs i)
ordered_to start m xs ms a h zero l = record { links = h; set = λ j k. absurd (omega (arith, k)); unset = λ o p g. refl }
ordered_to start m xs ms a h (suc i) l = by (is_first xs i) refl (ordered_to start m xs ms a h i (omega (arith, l)))
  where
    n : ModelData
    n = ordered m xs i

    by : (b : Bool) → is_first xs i ≡ b → IsOrderedTo start xs i m n → IsOrderedTo start xs (suc i) m (cond b (with_order n (at xs i).object (at xs i).property (named_from xs i)) n)
    by true e o = step_first start m n xs ms i a o (omega (arith, l)) e
    by false e o = step_same start m n xs i o e

-- each first place may be put into order in turn
pub all_may_be_ordered : (start m : ModelData) (xs : List Naming) (ms : List Mention) → AreOrderly start xs ms → IsLinkedTo start xs (length xs) m
    → (i : ℕ) → i < length xs → is_first xs i ≡ true → MayBeOrdered (ordered m xs i) xs i
all_may_be_ordered start m xs ms a h i l e = may_be_ordered start (ordered m xs i) xs ms a (ordered_to start m xs ms a h i (omega (arith, l))).links i l e

-- ---- of a file

pub orderly : (meta : MetaDesc) (f : Filed) (xs : List Naming) (start : ModelData) → MayBeAssembled meta f → AreAnswered meta f xs → HasValues (bare_model meta f.classes f.ids) f.values start → AreOrderly start xs f.mentions
orderly meta f xs start sound answered v = record {
  together = together_named meta f xs sound answered.named;
  answered = subst (λ d. (j : ℕ) → j < length xs → is_unanswered d xs (sayings_of xs f.mentions) (at xs j) ≡ false) (sym v.meta) answered.answered;
  fit = fit_namings start f xs (subst (λ d. MayBeAssembled d f) (sym v.meta) sound) (subst (λ d. AreNamed d f xs) (sym v.meta) answered.named)
      (λ o l. v.classes o ∙ class_of_bare meta f.classes f.ids o sound.objects.same l);
}

pub linked_may_be_ordered : (meta : MetaDesc) (f : Filed) (xs : List Naming) (m : ModelData) → MayBeAssembled meta f → AreAnswered meta f xs → IsLinkedModel meta f xs m
    → (i : ℕ) → i < length xs → is_first xs i ≡ true → MayBeOrdered (ordered m xs i) xs i
linked_may_be_ordered meta f xs m sound answered h = all_may_be_ordered h.start m xs f.mentions (orderly meta f xs h.start sound answered h.values) h.links

pub linked_ordered : (meta : MetaDesc) (f : Filed) (xs : List Naming) (m : ModelData) → MayBeAssembled meta f → AreAnswered meta f xs → IsLinkedModel meta f xs m → IsOrderedModel meta f xs (ordered m xs (length xs))
linked_ordered meta f xs m sound answered h = record { linked = record { start = h.start; values = h.values; links = done.links; by_number = λ o p u. subst (AllPairs (λ a b. a < b)) (sym (done.unset o p u)) (h.by_number o p u); same = same_then h.start m (ordered m xs (length xs)) h.same (same_ordered m xs (length xs)) }; orders = done.set }
  where
    done : IsOrderedTo h.start xs (length xs) m (ordered m xs (length xs))
    done = ordered_to h.start m xs f.mentions (orderly meta f xs h.start sound answered h.values) h.links (length xs) (omega arith)
