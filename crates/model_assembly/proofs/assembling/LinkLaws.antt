-- A link makes two pairs of ends, and leaves the others as they were.
use Rattle.std.proofs.Common.{◌≡◌, ℕ, ◌+◌, ◌<◌, ◌⊎◌, Bool, true, false, List, [], ◌∷◌, length, drop, get_or, refl, sym, ◌∙◌, ap, subst, Option, Some, None, inl, inr, true≢false}
use Rattle.std.specs.Prelude.{◌==◌, ◌&&◌, ◌||◌, nat_eq, option_map, Contains}
use Rattle.std.specs.List.{list_any}
use Rattle.std.specs.Cmp.{both_ways}
use Rattle.std.proofs.lemmas.Bool.{eqb-true, eq-eqb, and_parts, and_from, or_cases, or_left, or_right, cond-true, cond-false}
use Rattle.mof_metamodel.specs.Metamodels.{class_count, props_of, opposite_of}
use Rattle.mof_metamodel.proofs.LineageLemmas.{Contains-from_Has}
use Rattle.object_tables.specs.Objects.{Object, Slot}
use Rattle.object_tables.specs.Kept.{Kept}
use Rattle.object_tables.specs.Models.{ModelData, object_at, class_at, with_slot, with_partner, at_opposite, linked, IsLinked}
use Rattle.object_tables.proofs.InheritLemmas.{pair_of_opposites}
use Rattle.object_tables.proofs.KeptLemmas.{sound_of, slotted_of}
use Rattle.object_tables.proofs.SlotLemmas.{IsSlotted, object_before, class-with_slot, linked-with_partner, still-with_partner, now-with_partner}
use Rattle.model_assembly.specs.declared.assembly.naming.Naming.{Naming}
use Rattle.model_assembly.specs.AssemblyFirsts.{same_naming}
use Rattle.model_assembly.specs.AssemblyLinks.{has_partner, IsLinkable, linked_once, linked_all, MayBeLinked, is_back, is_pair_of, ArePairs}
use Rattle.model_assembly.specs.AssemblyNamings.{naming}
use Rattle.model_assembly.proofs.assembling.EntrySteps.{drop_here}
use Rattle.model_assembly.proofs.assembling.ListLaws.{contains_any}
use Rattle.std.proofs.lemmas.Option.{same_Some}
use Rattle.std.proofs.lemmas.Option.{none-some}

pub partner_is : (m : ModelData) (n : Naming) → has_partner m n ≡ true → IsLinked m n.property n.object n.target
partner_is m n h = Contains-from_Has (Rattle.object_tables.specs.Models.partners_at m n.object n.property) n.target h

pub is_partner : (m : ModelData) (n : Naming) → IsLinked m n.property n.object n.target → has_partner m n ≡ true
is_partner m n c = contains_any (nat_eq n.target) (Rattle.object_tables.specs.Models.partners_at m n.object n.property) n.target c (eq-eqb n.target n.target refl)

pub slotted_with : (m : ModelData) (o p : ℕ) (f : Slot → Slot) → IsSlotted m → IsSlotted (with_slot m o p f)
slotted_with m o p f s a object e =
    let old = object_before m o p f a object e in
    old.2.slots ∙ s a old.0 old.1 ∙ ap (λ c. length (props_of m.meta c)) (sym old.2.class)

class_within : (m : ModelData) → Kept m → (o c : ℕ) → class_at m o ≡ Some c → c < class_count m.meta
class_within m k o c e = by (object_at m o) refl e
  where
    by : (x : Option Object) → object_at m o ≡ x → option_map (λ (ob : Object). ob.class) x ≡ Some c → c < class_count m.meta
    by None g h = absurd (none-some c h)
    by (Some object) g h = subst (λ n. n < class_count m.meta) (same_Some object.class c h) (k.objects o object g).class

-- the parts of a naming that is another one
pub same_parts : (r a b : ℕ) (o : Naming) → same_naming (naming a r b) o ≡ true → (o.property ≡ r) × (o.object ≡ a) × (o.target ≡ b)
same_parts r a b o e =
    let x = and_parts (a == o.object) ((r == o.property) && (b == o.target)) e in
    let y = and_parts (r == o.property) (b == o.target) x.1 in
    (sym (eqb-true r o.property y.0), sym (eqb-true a o.object x.0), sym (eqb-true b o.target y.1))

pub parts_same : (r a b : ℕ) (o : Naming) → o.property ≡ r → o.object ≡ a → o.target ≡ b → same_naming (naming a r b) o ≡ true
parts_same r a b o x y z = and_from _ _ (eq-eqb a o.object (sym y)) (and_from _ _ (eq-eqb r o.property (sym x)) (eq-eqb b o.target (sym z)))

linked_at_parts : (m : ModelData) (r a b : ℕ) (o : Naming) → o.property ≡ r → o.object ≡ a → o.target ≡ b → IsLinked m r a b → IsLinked m o.property o.object o.target
linked_at_parts m r a b o x y z h =
    subst (λ q. IsLinked m q o.object o.target) (sym x) (subst (λ q. IsLinked m r q o.target) (sym y) (subst (λ q. IsLinked m r a q) (sym z) h))

-- one more partner
one_more : (m : ModelData) (a p b c : ℕ) → IsSlotted m → class_at m a ≡ Some c → Contains (props_of m.meta c) p → (o : Naming)
    → has_partner (with_partner m a p b) o ≡ (same_naming (naming a p b) o || has_partner m o)
one_more m a p b c s class has o = both_ways (has_partner (with_partner m a p b) o) (same_naming (naming a p b) o || has_partner m o) there back
  where
    cases : IsLinked m o.property o.object o.target ⊎ ((o.property ≡ p) × (o.object ≡ a) × (o.target ≡ b)) → (same_naming (naming a p b) o || has_partner m o) ≡ true
    cases (inl h) = or_right _ _ (is_partner m o h)
    cases (inr (x, y, z)) = or_left _ _ (parts_same p a b o x y z)

    there : has_partner (with_partner m a p b) o ≡ true → (same_naming (naming a p b) o || has_partner m o) ≡ true
    there h = cases (linked-with_partner m p a b o.property o.object o.target s (partner_is (with_partner m a p b) o h))

    either : (same_naming (naming a p b) o ≡ true) ⊎ (has_partner m o ≡ true) → has_partner (with_partner m a p b) o ≡ true
    either (inl e) = let x = same_parts p a b o e in is_partner (with_partner m a p b) o (linked_at_parts (with_partner m a p b) p a b o x.0 x.1 x.2 (now-with_partner m p a b c s class has))
    either (inr h) = is_partner (with_partner m a p b) o (still-with_partner m p a b o.property o.object o.target s (partner_is m o h))

    back : (same_naming (naming a p b) o || has_partner m o) ≡ true → has_partner (with_partner m a p b) o ≡ true
    back h = either (or_cases (same_naming (naming a p b) o) (has_partner m o) h)

or_turn : (x y z : Bool) → (y || (x || z)) ≡ ((x || y) || z)
or_turn true true z = refl
or_turn true false z = refl
or_turn false true z = refl
or_turn false false z = refl

or_nothing : (x z : Bool) → (x || z) ≡ ((x || false) || z)
or_nothing true z = refl
or_nothing false z = refl

pub pair_linked : (m : ModelData) (n : Naming) → Kept m → IsLinkable m n → (o : Naming) → has_partner (linked m n.property n.object n.target) o ≡ (is_pair_of m.meta n o || has_partner m o)
pair_linked m n k l o = by (opposite_of m.meta n.property) refl
  where
    a : ℕ
    a = n.object

    b : ℕ
    b = n.target

    p : ℕ
    p = n.property

    s : IsSlotted m
    s = slotted_of m (sound_of m k)

    one : ModelData
    one = with_partner m a p b

    first : has_partner one o ≡ (same_naming n o || has_partner m o)
    first = one_more m a p b l.reference.class s l.reference.class_is l.reference.has o

    by : (x : Option ℕ) → opposite_of m.meta p ≡ x → has_partner (at_opposite with_partner one x b a) o ≡ ((same_naming n o || is_back n o x) || has_partner m o)
    by None e = first ∙ or_nothing (same_naming n o) (has_partner m o)
    by (Some q) e =
        let pair = pair_of_opposites m.meta p q k.well e in
        let has = pair.near_has l.partner.class (class_within m k b l.partner.class l.partner.class_is) l.partner.conforms in
        one_more one b q a l.partner.class (slotted_with m a p _ s) (class-with_slot m a p _ b ∙ l.partner.class_is) has o
        ∙ ap (λ x. same_naming (naming b q a) o || x) first
        ∙ or_turn (same_naming n o) (same_naming (naming b q a) o) (has_partner m o)

-- the pairs that are met are those of the model
pub pairs_linked : (m new : ModelData) (n : Naming) (old keys : List Naming) → Kept m → IsLinkable m n → ArePairs m old → ((o : Naming) → list_any (same_naming o) keys ≡ (is_pair_of m.meta n o || list_any (same_naming o) old))
    → new ≡ linked m n.property n.object n.target → ArePairs new keys
pairs_linked m new n old keys k l h met e o = met o ∙ ap (λ x. is_pair_of m.meta n o || x) (h o) ∙ sym (pair_linked m n k l o) ∙ sym (ap (λ m. has_partner m o) e)

-- ---- one naming after the other

pub once_meta : (m : ModelData) (n : Naming) → (linked_once m n).meta ≡ m.meta
once_meta m n = by (has_partner m n)
  where
    over : (x : Option ℕ) → (at_opposite with_partner (with_partner m n.object n.property n.target) x n.target n.object).meta ≡ m.meta
    over None = refl
    over (Some q) = refl

    by : (b : Bool) → (Rattle.std.proofs.Common.cond b m (linked m n.property n.object n.target)).meta ≡ m.meta
    by true = refl
    by false = over (opposite_of m.meta n.property)

pub meta_kept : (m new : ModelData) (n : Naming) → new ≡ linked_once m n → new.meta ≡ m.meta
meta_kept m new n e = ap (λ (x : ModelData). x.meta) e ∙ once_meta m n

pub links_step : (m new start : ModelData) (ns : List Naming) (i : ℕ) (n : Naming) (all : List Naming) → i < length ns → n ≡ get_or ns i n → new ≡ linked_once m n
    → linked_all m (drop i ns) ≡ linked_all start all → linked_all new (drop (i + 1) ns) ≡ linked_all start all
links_step m new start ns i n all l is e h = ap (λ x. linked_all x (drop (i + 1) ns)) e ∙ sym (ap (linked_all m) (drop_here ns i n l is)) ∙ h

pub may_here : (m : ModelData) (ns : List Naming) (i : ℕ) (n : Naming) → i < length ns → n ≡ get_or ns i n → MayBeLinked m (drop i ns) → (has_partner m n ≡ false → IsLinkable m n) × MayBeLinked (linked_once m n) (drop (i + 1) ns)
may_here m ns i n l is h = subst (MayBeLinked m) (drop_here ns i n l is) h

pub already : (m : ModelData) (n : Naming) → has_partner m n ≡ true → m ≡ linked_once m n
already m n e = sym (cond-true (has_partner m n) m (linked m n.property n.object n.target) e)

pub newly : (m : ModelData) (n : Naming) → has_partner m n ≡ false → linked m n.property n.object n.target ≡ linked_once m n
newly m n e = sym (cond-false (has_partner m n) m (linked m n.property n.object n.target) e)

pub not_linked : (m : ModelData) (n : Naming) → has_partner m n ≡ false → IsLinked m n.property n.object n.target → ⊥
not_linked m n e h = true≢false (sym (is_partner m n h) ∙ e)
