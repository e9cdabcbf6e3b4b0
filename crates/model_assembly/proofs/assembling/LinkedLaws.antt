-- Namings of which none makes an object a part a second time may be linked one after the other, and then the pairs are those that are
-- named from either end.
use Rattle.std.proofs.Common.{◌≡◌, ℕ, zero, suc, ◌<◌, ◌≤◌, ◌⊎◌, Bool, true, false, cond, List, [], ◌∷◌, length, drop, refl, sym, ◌∙◌, ap, arith, subst, Option, Some, None, inl, inr, true≢false}
use Rattle.std.specs.Prelude.{◌||◌, Contains}
use Rattle.std.proofs.lemmas.Bool.{cases_lt, cases_eq, or_cases, or_left, or_right, cond-true, cond-false}
use Rattle.mof_metamodel.specs.declared.desc.MetaDesc.{MetaDesc}
use Rattle.mof_metamodel.specs.Metamodels.{prop_at, opposite_of, type_of, props_of}
use Rattle.object_tables.specs.Kept.{Kept}
use Rattle.object_tables.specs.Models.{ModelData, class_at, with_partner, at_opposite, linked, is_class_type, ConformsTo, IsLinked, IsReferenceOf, IsPartnerFor, IsTop, IsContainedIn}
use Rattle.object_tables.proofs.KeptEdits.{kept_linked}
use Rattle.object_tables.proofs.SlotLemmas.{class-with_slot}
use Rattle.model_assembly.specs.declared.assembly.naming.Naming.{Naming}
use Rattle.model_assembly.specs.declared.assembly.first.Part.{Part}
use Rattle.model_assembly.specs.AssemblyFirsts.{same_naming}
use Rattle.model_assembly.specs.AssemblyLinks.{has_partner, IsLinkable, linked_once, linked_all, MayBeLinked, IsLinkedTo, is_back, is_pair_of}
use Rattle.model_assembly.specs.AssemblyNamings.{naming, at, part_of, part_by_opposite, IsSecondWhole}
use Rattle.model_assembly.proofs.assembling.LinkLaws.{partner_is, is_partner, same_parts, pair_linked}
use Rattle.model_assembly.proofs.assembling.PartLaws.{part, back, not_both}

-- what is asked of a naming: it stands at a reference of its object's class, and names an object of the reference's type
pub record IsFitNaming (m : ModelData) (n : Naming) : Type 0 where
  pub reference : IsReferenceOf m n.object n.property
  pub partner : IsPartnerFor m n.property n.target

-- what a pair of a composite property makes a part
part_of_pair : (meta : MetaDesc) (n : Naming) (a p b : ℕ) → Rattle.mof_metamodel.specs.WellMeta.WellMeta meta → is_pair_of meta n (naming a p b) ≡ true → (prop_at meta p).composite ≡ true → part_of meta n ≡ Some (part b a p)
part_of_pair meta n a p b w h c = by (or_cases (same_naming n (naming a p b)) (is_back n (naming a p b) (opposite_of meta n.property)) h)
  where
    over : (x : Option ℕ) → opposite_of meta n.property ≡ x → is_back n (naming a p b) x ≡ true → part_of meta n ≡ Some (part b a p)
    over None o e = absurd (true≢false (sym e))
    over (Some q) o e =
        let s = same_parts q n.target n.object (naming a p b) e in
        let cq : (prop_at meta q).composite ≡ true = ap (λ z. (prop_at meta z).composite) (sym s.0) ∙ c in
        cond-false (prop_at meta n.property).composite _ _ (not_both meta q n.property w (back meta n.property q w o) cq)
        ∙ ap (part_by_opposite meta n) o
        ∙ cond-true (prop_at meta q).composite _ _ cq
        ∙ (λ i. Some (part (sym s.2 i) (sym s.1 i) (sym s.0 i)))

    by : (same_naming n (naming a p b) ≡ true) ⊎ (is_back n (naming a p b) (opposite_of meta n.property) ≡ true) → part_of meta n ≡ Some (part b a p)
    by (inl e) =
        let s = same_parts n.property n.object n.target (naming a p b) e in
        cond-true (prop_at meta n.property).composite _ _ (ap (λ z. (prop_at meta z).composite) (sym s.0) ∙ c)
        ∙ (λ i. Some (part (sym s.2 i) (sym s.1 i) (sym s.0 i)))
    by (inr e) = over (opposite_of meta n.property) refl e

-- an earlier pair that contains what a naming makes a part is the same one
same_whole : (start m : ModelData) (xs : List Naming) (i : ℕ) (b a p a' p' : ℕ) → IsLinkedTo start xs i m → Kept start → (IsSecondWhole start.meta xs i → ⊥) → part_of start.meta (at xs i) ≡ Some (part b a p)
    → IsContainedIn m b a' p' → (a' ≡ a) × (p' ≡ p)
same_whole start m xs i b a p a' p' h k single e c = by (cases_eq a' a) (cases_eq p' p)
  where
    found : (j : ℕ) × (j < i) × (is_pair_of start.meta (at xs j) (naming a' p' b) ≡ true)
    found = h.known (naming a' p' b) (is_partner m (naming a' p' b) c.linked)

    earlier : part_of start.meta (at xs found.0) ≡ Some (part b a' p')
    earlier = part_of_pair start.meta (at xs found.0) a' p' b k.well found.2 (ap (λ d. (prop_at d p').composite) (sym h.meta) ∙ c.composite)

    second : (part b a' p' ≡ part b a p → ⊥) → (a' ≡ a) × (p' ≡ p)
    second ne = absurd (single (record { part = part b a p; part_is = e; earlier = found.0; before = found.1; other = part b a' p'; other_is = earlier; same = refl; differs = ne }))

    by : (a' ≡ a) ⊎ (a' ≡ a → ⊥) → (p' ≡ p) ⊎ (p' ≡ p → ⊥) → (a' ≡ a) × (p' ≡ p)
    by (inl x) (inl y) = (x, y)
    by (inr ne) y = second (λ q. ne (ap (λ (u : Part). u.whole) q))
    by (inl x) (inr ne) = second (λ q. ne (ap (λ (u : Part). u.property) q))

-- what fits at the start fits later
pub fit_later : (start m : ModelData) (xs : List Naming) (i : ℕ) (n : Naming) → IsLinkedTo start xs i m → IsFitNaming start n → IsFitNaming m n
fit_later start m xs i n h f = record {
  reference = record {
    class = f.reference.class;
    class_is = h.classes n.object ∙ f.reference.class_is;
    has = subst (λ d. Contains (props_of d f.reference.class) n.property) (sym h.meta) f.reference.has;
    reference = ap (λ d. is_class_type (type_of d n.property)) h.meta ∙ f.reference.reference;
  };
  partner = record {
    class = f.partner.class;
    class_is = h.classes n.target ∙ f.partner.class_is;
    conforms = subst (λ d. ConformsTo d f.partner.class (type_of d n.property)) (sym h.meta) f.partner.conforms;
  };
}

-- the next naming may be linked, if its pair isn't
pub linkable_next : (start m : ModelData) (xs : List Naming) (i : ℕ) → IsLinkedTo start xs i m → Kept start → (IsSecondWhole start.meta xs i → ⊥) → IsFitNaming start (at xs i) → has_partner m (at xs i) ≡ false
    → IsLinkable m (at xs i)
linkable_next start m xs i h k single f new = record { reference = later.reference; partner = later.partner; free = record { part = free_part; whole = free_whole } }
  where
    n : Naming
    n = at xs i

    later : IsFitNaming m n
    later = fit_later start m xs i n h f

    apart : IsLinked m n.property n.object n.target → ⊥
    apart c = true≢false (sym (is_partner m n c) ∙ new)

    free_part : (prop_at m.meta n.property).composite ≡ true → IsTop m n.target
    free_part c a' p' x =
        let cs : (prop_at start.meta n.property).composite ≡ true = ap (λ d. (prop_at d n.property).composite) (sym h.meta) ∙ c in
        let same = same_whole start m xs i n.target n.object n.property a' p' h k single (cond-true (prop_at start.meta n.property).composite _ _ cs) x in
        apart (subst (λ q. IsLinked m q n.object n.target) same.1 (subst (λ q. IsLinked m p' q n.target) same.0 x.linked))

    free_whole : (q : ℕ) → opposite_of m.meta n.property ≡ Some q → (prop_at m.meta q).composite ≡ true → IsTop m n.object
    free_whole q o c a' p' x =
        let os : opposite_of start.meta n.property ≡ Some q = ap (λ d. opposite_of d n.property) (sym h.meta) ∙ o in
        let cs : (prop_at start.meta q).composite ≡ true = ap (λ d. (prop_at d q).composite) (sym h.meta) ∙ c in
        let by_opposite = cond-false (prop_at start.meta n.property).composite _ _ (not_both start.meta q n.property k.well (back start.meta n.property q k.well os) cs)
        ∙ ap (part_by_opposite start.meta n) os ∙ cond-true (prop_at start.meta q).composite _ _ cs in
        let same = same_whole start m xs i n.object n.target q a' p' h k single by_opposite x in
        apart ((h.kept.opposites n.property q n.object n.target o).1 (subst (λ r. IsLinked m r n.target n.object) same.1 (subst (λ r. IsLinked m p' r n.object) same.0 x.linked)))

-- a pair that is there is there from both ends
pair_there : (m : ModelData) (n o : Naming) → Kept m → has_partner m n ≡ true → is_pair_of m.meta n o ≡ true → has_partner m o ≡ true
pair_there m n o k h e = by (or_cases (same_naming n o) (is_back n o (opposite_of m.meta n.property)) e)
  where
    over : (x : Option ℕ) → opposite_of m.meta n.property ≡ x → is_back n o x ≡ true → has_partner m o ≡ true
    over None g t = absurd (true≢false (sym t))
    over (Some q) g t =
        let s = same_parts q n.target n.object o t in
        let linked_back = (k.opposites n.property q n.object n.target g).0 (partner_is m n h) in
        is_partner m o (subst (λ z. IsLinked m z o.object o.target) (sym s.0) (subst (λ z. IsLinked m q z o.target) (sym s.1) (subst (λ z. IsLinked m q n.target z) (sym s.2) linked_back)))

    by : (same_naming n o ≡ true) ⊎ (is_back n o (opposite_of m.meta n.property) ≡ true) → has_partner m o ≡ true
    by (inl t) =
        let s = same_parts n.property n.object n.target o t in
        is_partner m o (subst (λ z. IsLinked m z o.object o.target) (sym s.0) (subst (λ z. IsLinked m n.property z o.target) (sym s.1) (subst (λ z. IsLinked m n.property n.object z) (sym s.2) (partner_is m n h))))
    by (inr t) = over (opposite_of m.meta n.property) refl t

earlier_or : (j i : ℕ) → j < suc i → (j < i) ⊎ (j ≡ i)
earlier_or j i l = elim (cases_lt j i) [ inl a ↦ inl a | inr b ↦ inr (omega (arith, l, b)) ]

step_there : (start m : ModelData) (xs : List Naming) (i : ℕ) → IsLinkedTo start xs i m → has_partner m (at xs i) ≡ true → IsLinkedTo start xs (suc i) m
step_there start m xs i h t = record {
  meta = h.meta;
  classes = h.classes;
  kept = h.kept;
  known = λ o e. (let f = h.known o e in let l = f.1 in (f.0, omega (arith, l), f.2));
  all = λ j o l e. elim (earlier_or j i l) [
    | inl a ↦ h.all j o a e
    | inr q ↦ pair_there m (at xs i) o h.kept t (ap (λ d. is_pair_of d (at xs i) o) h.meta ∙ subst (λ z. is_pair_of start.meta (at xs z) o ≡ true) q e)
  ];
}

class_linked : (m : ModelData) (p a b o : ℕ) → class_at (linked m p a b) o ≡ class_at m o
class_linked m p a b o = over (opposite_of m.meta p)
  where
    over : (x : Option ℕ) → class_at (at_opposite with_partner (with_partner m a p b) x b a) o ≡ class_at m o
    over None = class-with_slot m a p _ o
    over (Some q) = class-with_slot (with_partner m a p b) b q _ o ∙ class-with_slot m a p _ o

meta_linked : (m : ModelData) (p a b : ℕ) → (linked m p a b).meta ≡ m.meta
meta_linked m p a b = over (opposite_of m.meta p)
  where
    over : (x : Option ℕ) → (at_opposite with_partner (with_partner m a p b) x b a).meta ≡ m.meta
    over None = refl
    over (Some q) = refl

step_new : (start m : ModelData) (xs : List Naming) (i : ℕ) → IsLinkedTo start xs i m → IsLinkable m (at xs i) → has_partner m (at xs i) ≡ false
    → IsLinkedTo start xs (suc i) (linked m (at xs i).property (at xs i).object (at xs i).target)
step_new start m xs i h l new = record {
  meta = meta_linked m n.property n.object n.target ∙ h.meta;
  classes = λ o. class_linked m n.property n.object n.target o ∙ h.classes o;
  kept = kept_linked m n.property n.object n.target h.kept l.reference l.partner (λ c. true≢false (sym (is_partner m n c) ∙ new)) l.free;
  known = λ o e. known o (or_cases (is_pair_of m.meta n o) (has_partner m o) (sym (pair_linked m n h.kept l o) ∙ e));
  all = λ j o k e. pair_linked m n h.kept l o ∙ either j o (earlier_or j i k) e;
}
  where
    n : Naming
    n = at xs i

    known : (o : Naming) → (is_pair_of m.meta n o ≡ true) ⊎ (has_partner m o ≡ true) → (j : ℕ) × (j < suc i) × (is_pair_of start.meta (at xs j) o ≡ true)
    known o (inl e) = (i, omega arith, ap (λ d. is_pair_of d n o) (sym h.meta) ∙ e)
    known o (inr e) = let f = h.known o e in let k = f.1 in (f.0, omega (arith, k), f.2)

    either : (j : ℕ) (o : Naming) → (j < i) ⊎ (j ≡ i) → is_pair_of start.meta (at xs j) o ≡ true → (is_pair_of m.meta n o || has_partner m o) ≡ true
    either j o (inl a) e = or_right (is_pair_of m.meta n o) (has_partner m o) (h.all j o a e)
    either j o (inr q) e = or_left (is_pair_of m.meta n o) (has_partner m o) (ap (λ d. is_pair_of d n o) h.meta ∙ subst (λ z. is_pair_of start.meta (at xs z) o ≡ true) q e)

-- one naming more
pub linked_step : (start m : ModelData) (xs : List Naming) (i : ℕ) → IsLinkedTo start xs i m → Kept start → (IsSecondWhole start.meta xs i → ⊥) → IsFitNaming start (at xs i) → IsLinkedTo start xs (suc i) (linked_once m (at xs i))
linked_step start m xs i h k single f = by (has_partner m (at xs i)) refl
  where
    by : (b : Bool) → has_partner m (at xs i) ≡ b → IsLinkedTo start xs (suc i) (cond b m (linked m (at xs i).property (at xs i).object (at xs i).target))
    by true t = step_there start m xs i h t
    by false t = step_new start m xs i h (linkable_next start m xs i h k single f t) t

pub unlinked_start : (start : ModelData) (xs : List Naming) → Kept start → ((o : Naming) → has_partner start o ≡ false) → IsLinkedTo start xs 0 start
unlinked_start start xs k none = record {
  meta = refl;
  classes = λ o. refl;
  kept = k;
  known = λ o e. absurd (true≢false (sym e ∙ none o));
  all = λ j o l e. absurd (omega (arith, l));
}

pub next_of : (xs : List Naming) (i : ℕ) (n : Naming) (ns : List Naming) → drop i xs ≡ n ∷ ns → (i < length xs) × (at xs i ≡ n) × (drop (suc i) xs ≡ ns)
next_of [] zero n ns e = absurd cc
next_of [] (suc i) n ns e = absurd cc
next_of (x ∷ xs) zero n ns e = (omega arith, cc, cc)
next_of (x ∷ xs) (suc i) n ns e = let r = next_of xs i n ns e in let l = r.0 in (omega (arith, l), r.1, r.2)

may_from : (start : ModelData) (xs : List Naming) → Kept start → ((j : ℕ) → j < length xs → IsSecondWhole start.meta xs j → ⊥) → ((j : ℕ) → j < length xs → IsFitNaming start (at xs j))
    → (ns : List Naming) (i : ℕ) (m : ModelData) → drop i xs ≡ ns → IsLinkedTo start xs i m → MayBeLinked m ns
may_from start xs k single fit [] i m e h = tt
may_from start xs k single fit (n ∷ ns) i m e h =
    let r = next_of xs i n ns e in (
      (λ new. subst (IsLinkable m) r.1 (linkable_next start m xs i h k (single i r.0) (fit i r.0) (ap (has_partner m) r.1 ∙ new))),
      subst (λ z. MayBeLinked (linked_once m z) ns) r.1 (may_from start xs k single fit ns (suc i) (linked_once m (at xs i)) r.2 (linked_step start m xs i h k (single i r.0) (fit i r.0))),
    )

-- all namings may be linked in turn
pub may_be_linked : (start : ModelData) (xs : List Naming) → Kept start → ((o : Naming) → has_partner start o ≡ false) → ((j : ℕ) → j < length xs → IsSecondWhole start.meta xs j → ⊥)
    → ((j : ℕ) → j < length xs → IsFitNaming start (at xs j)) → MayBeLinked start xs
may_be_linked start xs k none single fit = may_from start xs k single fit xs 0 start refl (unlinked_start start xs k none)

all_from : (start : ModelData) (xs : List Naming) → Kept start → ((j : ℕ) → j < length xs → IsSecondWhole start.meta xs j → ⊥) → ((j : ℕ) → j < length xs → IsFitNaming start (at xs j))
    → (ns : List Naming) (i : ℕ) (m : ModelData) → drop i xs ≡ ns → i ≤ length xs → IsLinkedTo start xs i m → IsLinkedTo start xs (length xs) (linked_all m ns)
all_from start xs k single fit [] i m e l h = subst (λ n. IsLinkedTo start xs n m) (ends xs i e l) h
  where
    ends : (ys : List Naming) (i : ℕ) → drop i ys ≡ [] → i ≤ length ys → i ≡ length ys
    ends ys i e l = let d = Rattle.std.proofs.lemmas.List.length-drop i ys in let z : length (drop i ys) ≡ 0 = ap length e in omega (arith, d, z, l)
all_from start xs k single fit (n ∷ ns) i m e l h =
    let r = next_of xs i n ns e in
    let within = r.0 in
    subst (λ z. IsLinkedTo start xs (length xs) (linked_all (linked_once m z) ns)) r.1
    (all_from start xs k single fit ns (suc i) (linked_once m (at xs i)) r.2 (omega (arith, within)) (linked_step start m xs i h k (single i r.0) (fit i r.0)))

-- and then the pairs are those that are named from either end
pub all_linked : (start : ModelData) (xs : List Naming) → Kept start → ((o : Naming) → has_partner start o ≡ false) → ((j : ℕ) → j < length xs → IsSecondWhole start.meta xs j → ⊥)
    → ((j : ℕ) → j < length xs → IsFitNaming start (at xs j)) → IsLinkedTo start xs (length xs) (linked_all start xs)
all_linked start xs k none single fit = all_from start xs k single fit xs 0 start refl (omega arith) (unlinked_start start xs k none)
