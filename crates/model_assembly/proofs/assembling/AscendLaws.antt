-- Where an object names none, its partners stand by number: each is linked by a naming of its own, and namings are sorted by object.
use Rattle.std.proofs.Common.{◌≡◌, ℕ, suc, ◌<◌, ◌≤◌, ◌⊎◌, ◌++◌, Bool, true, false, cond, List, [], ◌∷◌, length, drop, get_or, refl, sym, ◌∙◌, ap, arith, subst, Option, Some, None, inl, inr, true≢false}
use Rattle.std.specs.Prelude.{◌==◌, AllPairs, Contains}
use Rattle.std.proofs.lemmas.Bool.{cases_lt, eq-eqb, and_from, or_cases}
use Rattle.std.proofs.lemmas.List.Quantifiers.{all_pairs_push}
use Rattle.mof_metamodel.specs.declared.desc.MetaDesc.{MetaDesc}
use Rattle.mof_metamodel.specs.Metamodels.{opposite_of}
use Rattle.object_tables.specs.Kept.{Kept}
use Rattle.object_tables.specs.Models.{ModelData, partners_at, with_partner, at_opposite, linked, IsLinked}
use Rattle.object_tables.specs.Objects.{Slot}
use Rattle.object_tables.proofs.KeptLemmas.{sound_of, slotted_of}
use Rattle.object_tables.proofs.SlotLemmas.{IsSlotted, slot_at, slot_cases}
use Rattle.model_assembly.specs.declared.filed.Filed.{Filed}
use Rattle.model_assembly.specs.declared.assembly.naming.Naming.{Naming}
use Rattle.model_assembly.specs.AssemblyEntries.{entry_at, no_entry}
use Rattle.model_assembly.specs.AssemblyFirsts.{same_naming}
use Rattle.model_assembly.specs.AssemblyLinks.{has_partner, linked_once, linked_all, IsLinkable, IsLinkedTo, is_back, is_pair_of}
use Rattle.model_assembly.specs.AssemblyNamings.{naming, at, IsSecondWhole}
use Rattle.model_assembly.specs.AssemblyOrders.{StandByNumber}
use Rattle.model_assembly.specs.AssemblyReferences.{AreNamed}
use Rattle.model_assembly.proofs.assembling.LinkLaws.{is_partner, same_parts, slotted_with}
use Rattle.model_assembly.proofs.assembling.LinkedLaws.{IsFitNaming, linkable_next, linked_step, next_of, unlinked_start}
use Rattle.model_assembly.proofs.assembling.PartLaws.{at_entry, length-map_of}

-- namings are sorted by object
abbrev pub AreByObject : List Naming → Type 0
AreByObject xs = (j i : ℕ) → j ≤ i → i < length xs → (at xs j).object ≤ (at xs i).object

pub by_object : (meta : MetaDesc) (f : Filed) (xs : List Naming) → AreNamed meta f xs → AreByObject xs
by_object meta f xs named j i l m =
    let c = ap length named.namings ∙ length-map_of named.entries in
    let up = named.order.objects j i no_entry l (omega (arith, c, m)) in
    let a : (at xs j).object ≡ (entry_at named.entries j).object = ap (λ (n : Naming). n.object) (ap (λ ys. at ys j) named.namings ∙ at_entry named.entries j) in
    let b : (at xs i).object ≡ (entry_at named.entries i).object = ap (λ (n : Naming). n.object) (ap (λ ys. at ys i) named.namings ∙ at_entry named.entries i) in
    omega (arith, up, a, b)

-- one more link
ascend_new : (start m : ModelData) (xs : List Naming) (i : ℕ) → IsLinkedTo start xs i m → AreByObject xs → i < length xs → IsLinkable m (at xs i) → has_partner m (at xs i) ≡ false
    → StandByNumber xs m → StandByNumber xs (linked m (at xs i).property (at xs i).object (at xs i).target)
ascend_new start m xs i h up l li new asc c r u = by (opposite_of m.meta p) refl
  where
    a : ℕ
    a = (at xs i).object

    p : ℕ
    p = (at xs i).property

    b : ℕ
    b = (at xs i).target

    f : ℕ → Slot → Slot
    f x s = record s { partners = s.partners ++ x ∷ [] }

    one : ModelData
    one = with_partner m a p b

    slotted : IsSlotted m
    slotted = slotted_of m (sound_of m h.kept)

    first : partners_at one c r ≡ partners_at m c r
    first = cases (slot_cases m a p (f b) c r slotted)
      where
        cases : (slot_at one c r ≡ slot_at m c r) ⊎ ((c ≡ a) × (r ≡ p) × (slot_at one c r ≡ f b (slot_at m c r))) → partners_at one c r ≡ partners_at m c r
        cases (inl e) = ap (λ (s : Slot). s.partners) e
        cases (inr (x, y, e)) = absurd (true≢false (sym (and_from (a == c) (p == r) (eq-eqb a c (sym x)) (eq-eqb p r (sym y))) ∙ u i l))

    -- the partners so far are of earlier objects
    earlier : (z : ℕ) → Contains (partners_at m c r) z → z ≤ a
    earlier z e = or_back (or_cases (same_naming n (naming c r z)) (is_back n (naming c r z) (opposite_of start.meta n.property)) found.2)
      where
        found : (j : ℕ) × (j < i) × (is_pair_of start.meta (at xs j) (naming c r z) ≡ true)
        found = h.known (naming c r z) (is_partner m (naming c r z) e)

        n : Naming
        n = at xs found.0

        over : (x : Option ℕ) → is_back n (naming c r z) x ≡ true → z ≤ a
        over None t = absurd (true≢false (sym t))
        over (Some q) t =
            let s : z ≡ n.object = (same_parts q n.target n.object (naming c r z) t).2 in
            let k = found.1 in
            let rises : n.object ≤ a = up found.0 i (omega (arith, k)) l in
            omega (arith, s, rises)

        or_back : (same_naming n (naming c r z) ≡ true) ⊎ (is_back n (naming c r z) (opposite_of start.meta n.property) ≡ true) → z ≤ a
        or_back (inl t) =
            let s = same_parts n.property n.object n.target (naming c r z) t in
            let k = found.1 in
            absurd (true≢false (sym (and_from (n.object == c) (n.property == r) (eq-eqb n.object c (sym s.1)) (eq-eqb n.property r (sym s.0))) ∙ u found.0 (omega (arith, k, l))))
        or_back (inr t) = over (opposite_of start.meta n.property) t

    -- and not of this one
    less : (q : ℕ) → opposite_of m.meta p ≡ Some q → c ≡ b → r ≡ q → (z : ℕ) → Contains (partners_at m c r) z → z < a
    less q o x y z e = elim (cases_lt z a) [
      | inl k ↦ k
      | inr k ↦ (
          let le = earlier z e in
          let same : z ≡ a = omega (arith, k, le) in
          let back : IsLinked m q b a = subst (λ t. IsLinked m q b t) same (subst (λ t. IsLinked m q t z) x (subst (λ t. IsLinked m t c z) y e)) in
          absurd (true≢false (sym (is_partner m (at xs i) ((h.kept.opposites p q a b o).1 back)) ∙ new)))
    ]

    old : AllPairs (λ x y. x < y) (partners_at one c r)
    old = subst (AllPairs (λ x y. x < y)) (sym first) (asc c r u)

    over : (q : ℕ) → opposite_of m.meta p ≡ Some q → (slot_at (with_partner one b q a) c r ≡ slot_at one c r) ⊎ ((c ≡ b) × (r ≡ q) × (slot_at (with_partner one b q a) c r ≡ f a (slot_at one c r)))
        → AllPairs (λ x y. x < y) (partners_at (with_partner one b q a) c r)
    over q o (inl e) = subst (AllPairs (λ x y. x < y)) (sym (ap (λ (s : Slot). s.partners) e)) old
    over q o (inr (x, y, e)) =
        let ps : List ℕ = partners_at m c r in
        subst (AllPairs (λ x y. x < y)) (sym (ap (λ (s : Slot). s.partners) e ∙ ap (λ zs. zs ++ a ∷ []) first))
        (all_pairs_push (λ x y. x < y) ps a (asc c r u) (λ k d m. less q o x y (get_or ps k d) (k, m, Rattle.std.proofs.lemmas.List.get_or_default ps k (get_or ps k d) d m)))

    by : (x : Option ℕ) → opposite_of m.meta p ≡ x → AllPairs (λ x y. x < y) (partners_at (at_opposite with_partner one x b a) c r)
    by None o = old
    by (Some q) o = over q o (slot_cases one b q (f a) c r (slotted_with m a p (f b) slotted))

ascend_once : (start m : ModelData) (xs : List Naming) (i : ℕ) → IsLinkedTo start xs i m → Kept start → (IsSecondWhole start.meta xs i → ⊥) → IsFitNaming start (at xs i) → AreByObject xs → i < length xs
    → StandByNumber xs m → StandByNumber xs (linked_once m (at xs i))
ascend_once start m xs i h k single fit up l asc = by (has_partner m (at xs i)) refl
  where
    by : (b : Bool) → has_partner m (at xs i) ≡ b → StandByNumber xs (cond b m (linked m (at xs i).property (at xs i).object (at xs i).target))
    by true e = asc
    by false e = ascend_new start m xs i h up l (linkable_next start m xs i h k single fit e) e asc

ascend_from : (start : ModelData) (xs : List Naming) → Kept start → ((j : ℕ) → j < length xs → IsSecondWhole start.meta xs j → ⊥) → ((j : ℕ) → j < length xs → IsFitNaming start (at xs j)) → AreByObject xs
    → (ns : List Naming) (i : ℕ) (m : ModelData) → drop i xs ≡ ns → IsLinkedTo start xs i m → StandByNumber xs m → StandByNumber xs (linked_all m ns)
ascend_from start xs k single fit up [] i m e h asc = asc
ascend_from start xs k single fit up (n ∷ ns) i m e h asc =
    let r = next_of xs i n ns e in
    subst (λ z. StandByNumber xs (linked_all (linked_once m z) ns)) r.1
    (ascend_from start xs k single fit up ns (suc i) (linked_once m (at xs i)) r.2 (linked_step start m xs i h k (single i r.0) (fit i r.0)) (ascend_once start m xs i h k (single i r.0) (fit i r.0) up r.0 asc))

-- after all links
pub all_ascend : (start : ModelData) (xs : List Naming) → Kept start → ((o : Naming) → has_partner start o ≡ false) → ((o p : ℕ) → partners_at start o p ≡ []) → ((j : ℕ) → j < length xs → IsSecondWhole start.meta xs j → ⊥)
    → ((j : ℕ) → j < length xs → IsFitNaming start (at xs j)) → AreByObject xs → StandByNumber xs (linked_all start xs)
all_ascend start xs k none empty single fit up =
    ascend_from start xs k single fit up xs 0 start refl (unlinked_start start xs k none) (λ o p u. subst (AllPairs (λ x y. x < y)) (sym (empty o p)) (λ i j d l m. absurd (omega (arith, m))))
