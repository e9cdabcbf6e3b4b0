-- The first naming that is unanswered is the first mismatch of ends in the source.
use Rattle.std.proofs.Common.{◌≡◌, ℕ, zero, suc, ◌<◌, ◌≤◌, ◌⊎◌, Bool, true, false, List, [], ◌∷◌, length, map, refl, sym, ◌∙◌, ap, arith, subst, Option, Some, inl, inr, true≢false}
use Rattle.std.specs.Prelude.{◌==◌, ◌&&◌, ◌||◌, not, Contains}
use Rattle.std.specs.List.{list_any}
use Rattle.std.specs.Cmp.{both_ways}
use Rattle.std.proofs.lemmas.Bool.{eqb-true, eq-eqb, and_parts, and_from, or_cases, or_left, or_right, not-true, not_from_false, cases_lt}
use Rattle.std.proofs.lemmas.List.Folds.{list_any-append}
use Rattle.std.proofs.lemmas.List.Sorted.{list_any-IsPermutation}
use Rattle.mof_metamodel.specs.declared.desc.MetaDesc.{MetaDesc}
use Rattle.mof_metamodel.specs.declared.desc.ClassId.{ClassId}
use Rattle.object_tables.specs.declared.limit.TheConstants.{MAX_OBJECTS}
use Rattle.mof_metamodel.specs.Metamodels.{class_count, opposite_of, type_of}
use Rattle.object_tables.specs.Models.{ConformsTo}
use Rattle.object_tables.proofs.InheritLemmas.{pair_of_opposites}
use Rattle.model_assembly.specs.declared.fault.ModelFault.{ModelFault}
use Rattle.model_assembly.specs.declared.fault.ModelFault.TheVariants as faults
use Rattle.model_assembly.specs.declared.filed.Filed.{Filed}
use Rattle.model_assembly.specs.declared.filed.Mention.{Mention}
use Rattle.model_assembly.specs.declared.filed.WrittenReference.{WrittenReference}
use Rattle.model_assembly.specs.declared.assembly.entry.Entry.{Entry}
use Rattle.model_assembly.specs.declared.assembly.naming.Naming.{Naming}
use Rattle.model_assembly.specs.declared.assembly.naming.Saying.{Saying}
use Rattle.model_assembly.specs.AssemblyEntries.{class_in, entries_from, entry_at}
use Rattle.model_assembly.specs.AssemblyFirsts.{same_naming, same_saying, is_unanswered, is_unanswered_at}
use Rattle.model_assembly.specs.AssemblyNamings.{naming, saying, naming_of, saying_of, saying_of_mention, sayings_of, at}
use Rattle.model_assembly.specs.Faults.{Spot, IsBefore, StandsAt, StandsBy, IsNamed, IsMismatch, IsContainedTwice}
use Rattle.model_assembly.specs.FirstFault.{rank, IsFirstBy}
use Rattle.model_assembly.specs.Filed.{IsReferenceIn, IsSaid, by_target, by_mention}
use Rattle.model_assembly.specs.Links.{speaks}
use Rattle.model_assembly.specs.Profile.{prop_name, props_or_none}
use Rattle.model_assembly.specs.References.{Target}
use Rattle.model_assembly.specs.Source.{Source, object_count, class_of, id_of, is_at, names}
use Rattle.model_assembly.proofs.assembling.ListLaws.{any_contains, contains_any}
use Rattle.std.proofs.lemmas.Option.{same_Some}
use Rattle.model_assembly.proofs.assembling.SpotLaws.{class_known, class_counted, reference_sourced, entry_good, IsSpotOf, spot_at, spot_of_entry, IsEntryOf, entry_of_spot, no_earlier}
use Rattle.model_assembly.proofs.assembling.FaultLaws.{fit_named, none_dangles}
use Rattle.model_assembly.proofs.assembling.PartLaws.{AreNamings, naming_at, named_there}
use Rattle.model_assembly.proofs.assembling.NameLaws.{names_listed, naming_there}

-- ---- where objects speak

eq_swap : (a b : ℕ) → (a == b) ≡ (b == a)
eq_swap a b = both_ways (a == b) (b == a) (λ e. eq-eqb b a (sym (eqb-true a b e))) (λ e. eq-eqb a b (sym (eqb-true b a e)))

said_at : (o p object property : ℕ) → same_saying (saying o p) (saying object property) ≡ is_at o p object property
said_at o p object property = λ i. eq_swap o object i && eq_swap p property i

entries_said : (o p : ℕ) (meta : MetaDesc) (classes : List ClassId) (n : ℕ) (rs : List WrittenReference)
    → list_any (λ (e : Entry). same_saying (saying o p) (saying e.object e.property.0)) (entries_from meta classes n rs) ≡ list_any (λ (r : WrittenReference). is_at o p r.object r.property.0) rs
entries_said o p meta classes n [] = refl
entries_said o p meta classes n (r ∷ rs) = λ i. said_at o p r.object r.property.0 i || entries_said o p meta classes (suc n) rs i

namings_said : (t : Saying) (es : List Entry) → list_any (same_saying t) (map saying_of (map naming_of es)) ≡ list_any (λ (e : Entry). same_saying t (saying e.object e.property.0)) es
namings_said t [] = refl
namings_said t (e ∷ es) = ap (λ b. same_saying t (saying e.object e.property.0) || b) (namings_said t es)

mentions_said : (o p : ℕ) (ms : List Mention) → list_any (same_saying (saying o p)) (map saying_of_mention ms) ≡ list_any (λ (m : Mention). is_at o p m.object m.property.0) ms
mentions_said o p [] = refl
mentions_said o p (m ∷ ms) = λ i. said_at o p m.object m.property.0 i || mentions_said o p ms i

pub sayings_told : (s : Source) (f : Filed) (es : List Entry) (xs : List Naming) → AreNamings s f es xs → (o p : ℕ)
    → list_any (same_saying (saying o p)) (sayings_of xs f.mentions) ≡ (list_any (λ (r : WrittenReference). is_at o p r.object r.property.0) f.references || list_any (λ (m : Mention). is_at o p m.object m.property.0) f.mentions)
sayings_told s f es xs a o p =
    list_any-append (same_saying (saying o p)) (map saying_of xs) (map saying_of_mention f.mentions)
    ∙ (λ i. (ap (λ ys. list_any (same_saying (saying o p)) (map saying_of ys)) a.namings
    ∙ namings_said (saying o p) es
    ∙ sym (list_any-IsPermutation (λ (e : Entry). same_saying (saying o p) (saying e.object e.property.0)) (entries_from s.meta f.classes 0 f.references) es a.entries.order.same)
    ∙ entries_said o p s.meta f.classes 0 f.references) i || mentions_said o p f.mentions i)

-- an object speaks where one of the sayings says so
pub speaks_listed : (s : Source) (f : Filed) (es : List Entry) (xs : List Naming) → AreNamings s f es xs → (o p : ℕ) → IsReferenceIn s o p → speaks s o p ≡ list_any (same_saying (saying o p)) (sayings_of xs f.mentions)
speaks_listed s f es xs a o p r = both_ways (speaks s o p) (list_any (same_saying (saying o p)) (sayings_of xs f.mentions)) there back
  where
    by_reference : WrittenReference → Bool
    by_reference r = is_at o p r.object r.property.0

    of_mention : Mention → Bool
    of_mention m = is_at o p m.object m.property.0

    told : list_any (same_saying (saying o p)) (sayings_of xs f.mentions) ≡ (list_any by_reference f.references || list_any of_mention f.mentions)
    told = sayings_told s f es xs a o p

    listed : IsSaid f o p → (list_any by_reference f.references || list_any of_mention f.mentions) ≡ true
    listed (by_target w c t) = or_left _ _ (contains_any by_reference f.references w c t)
    listed (by_mention m c t) = or_right _ _ (contains_any of_mention f.mentions m c t)

    there : speaks s o p ≡ true → list_any (same_saying (saying o p)) (sayings_of xs f.mentions) ≡ true
    there h = told ∙ listed ((a.entries.filed.speaking o p r).0 h)

    said : (list_any by_reference f.references ≡ true) ⊎ (list_any of_mention f.mentions ≡ true) → IsSaid f o p
    said (inl h) = let w = any_contains by_reference f.references h in by_target w.0 w.1 w.2
    said (inr h) = let w = any_contains of_mention f.mentions h in by_mention w.0 w.1 w.2

    back : list_any (same_saying (saying o p)) (sayings_of xs f.mentions) ≡ true → speaks s o p ≡ true
    back h = (a.entries.filed.speaking o p r).1 (said (or_cases _ _ (sym told ∙ h)))

-- ---- mismatches

-- the opposite is a reference of the object that is named
pub far_reference : (s : Source) (f : Filed) (es : List Entry) (xs : List Naming) → AreNamings s f es xs → ((o : ℕ) → o < length f.classes → (class_in f.classes o).0 < class_count s.meta)
    → (i : ℕ) → i < length es → (q : ℕ) → opposite_of s.meta (naming_of (entry_at es i)).property ≡ Some q → IsReferenceIn s (naming_of (entry_at es i)).target q
far_reference s f es xs a known i l q o = record {
  object = let e = ap length a.entries.filed.ids in let n = a.entries.counted in omega (arith, e, n, counted);
  has = subst (λ k. Contains (props_or_none s.meta k) q) (sym class) (pair.near_has (class_in f.classes b).0 (known b counted) conforms);
  class_type = pair.far_class;
}
  where
    p : ℕ
    p = (entry_at es i).property.0

    b : ℕ
    b = (naming_of (entry_at es i)).target

    spot : (target : Target) × IsSpotOf s f es i p target
    spot = spot_of_entry s f es a.entries i l

    pair : Rattle.object_tables.proofs.InheritLemmas.IsPairOf s.meta p q
    pair = pair_of_opposites s.meta p q a.well o

    named : (c : ℕ) × IsNamed s p spot.0 c
    named = fit_named s f a.entries.filed p spot.0 (entry_at es i).target (ap (λ (t : Option ℕ × List ℕ). t.0) spot.1.told) (a.fit i l)

    same : named.0 ≡ b
    same = same_Some named.0 b (sym named.1.number ∙ named_there s f es xs a i l spot.0 spot.1.told)

    class_is : class_of s b ≡ Some named.1.class
    class_is = sym (ap (class_of s) same) ∙ named.1.class_is

    counted : b < length f.classes
    counted = class_counted s f a.entries.filed b named.1.class class_is

    class : class_of s b ≡ Some (class_in f.classes b).0
    class = class_known s f a.entries.filed b counted

    conforms : ConformsTo s.meta (class_in f.classes b).0 (type_of s.meta p)
    conforms = subst (λ k. ConformsTo s.meta k (type_of s.meta p)) (same_Some named.1.class (class_in f.classes b).0 (sym class_is ∙ class)) named.1.conforms

-- the reference at which an entry stands
near_reference : (s : Source) (f : Filed) (es : List Entry) (xs : List Naming) → AreNamings s f es xs → (i : ℕ) → i < length es → IsReferenceIn s (entry_at es i).object (entry_at es i).property.0
near_reference s f es xs a i l = reference_sourced s f a.entries.filed a.entries.counted (entry_at es i).object (entry_at es i).property.0 (entry_good s f es a.entries i l).reference

contains_at : (es : List Entry) (i : ℕ) → i < length es → Contains (map naming_of es) (naming_of (entry_at es i))
contains_at [] i l = absurd (omega (arith, l))
contains_at (e ∷ es) zero l = (0, omega arith, refl)
contains_at (e ∷ es) (suc i) l = let c = contains_at es i (omega (arith, l)) in let k = c.1 in (suc c.0, omega (arith, k), c.2)

mismatch_at : (s : Source) (f : Filed) (es : List Entry) (xs : List Naming) → AreNamings s f es xs → ((o : ℕ) → o < length f.classes → (class_in f.classes o).0 < class_count s.meta)
    → (i : ℕ) → i < length es → (q : ℕ) → opposite_of s.meta (at xs i).property ≡ Some q → is_unanswered_at xs (sayings_of xs f.mentions) (at xs i) (Some q) ≡ true
    → IsMismatch s (spot_at es i) (id_of s (at xs i).object) (prop_name s.meta (at xs i).property) (id_of s (at xs i).target) (prop_name s.meta q)
mismatch_at s f es xs a known i l q o u =
    subst (λ (m : Naming). IsMismatch s (spot_at es i) (id_of s m.object) (prop_name s.meta m.property) (id_of s m.target) (prop_name s.meta q)) (sym there)
    (record {
      p = n.property;
      target = spot.0;
      written = spot.1.written;
      b = n.target;
      named = named_there s f es xs a i l spot.0 spot.1.told;
      q = q;
      disputed = record {
        opposite = op;
        named = names_listed s f es xs a n.object n.property n.target (near_reference s f es xs a i l) ∙ naming_there n xs (subst (λ ys. Contains ys n) (sym a.namings) (contains_at es i l));
        speaking = speaks_listed s f es xs a n.target q far ∙ parts.0;
        unnamed = names_listed s f es xs a n.target q n.object far ∙ not-true _ parts.1;
      };
      id_is = refl;
      prop_is = refl;
      other_is = refl;
      other_prop_is = refl;
    })
  where
    n : Naming
    n = naming_of (entry_at es i)

    there : at xs i ≡ n
    there = naming_at s f es xs a i

    op : opposite_of s.meta n.property ≡ Some q
    op = ap (λ (m : Naming). opposite_of s.meta m.property) (sym there) ∙ o

    spot : (target : Target) × IsSpotOf s f es i n.property target
    spot = spot_of_entry s f es a.entries i l

    far : IsReferenceIn s n.target q
    far = far_reference s f es xs a known i l q op

    parts : (list_any (same_saying (saying n.target q)) (sayings_of xs f.mentions) ≡ true) × (not (list_any (same_naming (naming n.target q n.object)) xs) ≡ true)
    parts = and_parts _ _ (ap (λ m. is_unanswered_at xs (sayings_of xs f.mentions) m (Some q)) (sym there) ∙ u)

mismatch_entry : (s : Source) (f : Filed) (es : List Entry) (xs : List Naming) → AreNamings s f es xs → ((o : ℕ) → o < length f.classes → (class_in f.classes o).0 < class_count s.meta)
    → (spot : Spot) (id prop other other_prop : List ℕ) → IsMismatch s spot id prop other other_prop
    → (j : ℕ) × (j < length es) × (spot_at es j ≡ spot) × (is_unanswered s.meta xs (sayings_of xs f.mentions) (at xs j) ≡ true)
mismatch_entry s f es xs a known spot id prop other other_prop x =
    (j, k.within, k.spot_is, ap (is_unanswered s.meta xs (sayings_of xs f.mentions)) (naming_at s f es xs a j) ∙ ap (is_unanswered_at xs (sayings_of xs f.mentions) n) op ∙ and_from _ _ speaking unnamed)
  where
    found : (j : ℕ) × IsEntryOf s f es spot x.p x.target j
    found = entry_of_spot s f es a.entries spot x.p x.target x.written

    j : ℕ
    j = found.0

    k : IsEntryOf s f es spot x.p x.target j
    k = found.1

    n : Naming
    n = naming_of (entry_at es j)

    op : opposite_of s.meta n.property ≡ Some x.q
    op = ap (opposite_of s.meta) k.property ∙ x.disputed.opposite

    target : n.target ≡ x.b
    target = same_Some n.target x.b (sym (named_there s f es xs a j k.within x.target k.told) ∙ x.named)

    object : n.object ≡ spot.object
    object = ap (λ (z : Spot). z.object) k.spot_is

    far : IsReferenceIn s n.target x.q
    far = far_reference s f es xs a known j k.within x.q op

    speaking : list_any (same_saying (saying n.target x.q)) (sayings_of xs f.mentions) ≡ true
    speaking = sym (speaks_listed s f es xs a n.target x.q far) ∙ ap (λ b. speaks s b x.q) target ∙ x.disputed.speaking

    unnamed : not (list_any (same_naming (naming n.target x.q n.object)) xs) ≡ true
    unnamed = not_from_false _ (sym (names_listed s f es xs a n.target x.q n.object far) ∙ (λ i. names s (target i) x.q (object i)) ∙ x.disputed.unnamed)

pub mismatch_first : (s : Source) (f : Filed) (es : List Entry) (xs : List Naming) → AreNamings s f es xs → ((o : ℕ) → o < length f.classes → (class_in f.classes o).0 < class_count s.meta) → object_count s ≤ MAX_OBJECTS
    → ((other : ModelFault) (place : ℕ) → StandsAt s other place → ⊥) → ((spot : Spot) (id : List ℕ) → IsContainedTwice s spot id → ⊥)
    → (i : ℕ) → i < length es → (q : ℕ) → opposite_of s.meta (at xs i).property ≡ Some q → is_unanswered s.meta xs (sayings_of xs f.mentions) (at xs i) ≡ true
    → ((j : ℕ) → j < i → is_unanswered s.meta xs (sayings_of xs f.mentions) (at xs j) ≡ false)
    → IsFirstBy s (faults.Mismatch (id_of s (at xs i).object) (prop_name s.meta (at xs i).property) (id_of s (at xs i).target) (prop_name s.meta q))
mismatch_first s f es xs a known few none single i l q o u before =
    record { fewer = few; none_at = none; spot = spot_at es i; stands = mismatch_at s f es xs a known i l q o (sym (ap (is_unanswered_at xs (sayings_of xs f.mentions) (at xs i)) o) ∙ u); least = least; first = first }
  where
    least : (other : ModelFault) (elsewhere : Spot) → StandsBy s other elsewhere → 8 ≤ rank other
    least (faults.Dangling x y z) spot d = absurd (none_dangles s f es a.entries a.fit spot x y z d)
    least (faults.TwoContainers x) spot d = absurd (single spot x d)
    least (faults.Mismatch x y z w) spot d = omega arith
    least (faults.UnknownClass x) spot d = absurd d
    least (faults.UnknownProperty x y) spot d = absurd d
    least (faults.WrongValue x y) spot d = absurd d
    least (faults.DuplicateId x) spot d = absurd d
    least (faults.Invalid x y) spot d = absurd d
    least (faults.Limit x) spot d = absurd d

    later : (x y z w : List ℕ) (earlier : Spot) → IsMismatch s earlier x y z w → IsBefore earlier (spot_at es i) → ⊥
    later x y z w earlier d b = by (cases_lt k.0 i)
      where
        k : (j : ℕ) × (j < length es) × (spot_at es j ≡ earlier) × (is_unanswered s.meta xs (sayings_of xs f.mentions) (at xs j) ≡ true)
        k = mismatch_entry s f es xs a known earlier x y z w d

        by : (k.0 < i) ⊎ (i ≤ k.0) → ⊥
        by (inl q) = true≢false (sym k.3 ∙ before k.0 q)
        by (inr q) = no_earlier s f es a.entries i k.0 q k.1 (subst (λ z. IsBefore z (spot_at es i)) (sym k.2) b)

    first : (other : ModelFault) (earlier : Spot) → StandsBy s other earlier → rank other ≡ 8 → IsBefore earlier (spot_at es i) → ⊥
    first (faults.Dangling x y z) spot d r b = absurd (omega (arith, r))
    first (faults.TwoContainers x) spot d r b = absurd (omega (arith, r))
    first (faults.Mismatch x y z w) spot d r b = later x y z w spot d b
    first (faults.UnknownClass x) spot d r b = absurd d
    first (faults.UnknownProperty x y) spot d r b = absurd d
    first (faults.WrongValue x y) spot d r b = absurd d
    first (faults.DuplicateId x) spot d r b = absurd d
    first (faults.Invalid x y) spot d r b = absurd d
    first (faults.Limit x) spot d r b = absurd d

-- no two ends mismatch
pub none_mismatch : (s : Source) (f : Filed) (es : List Entry) (xs : List Naming) → AreNamings s f es xs → ((o : ℕ) → o < length f.classes → (class_in f.classes o).0 < class_count s.meta)
    → ((j : ℕ) → j < length es → is_unanswered s.meta xs (sayings_of xs f.mentions) (at xs j) ≡ false) → (spot : Spot) (id prop other other_prop : List ℕ) → IsMismatch s spot id prop other other_prop → ⊥
none_mismatch s f es xs a known answered spot id prop other other_prop x =
    let k = mismatch_entry s f es xs a known spot id prop other other_prop x in
    true≢false (sym k.3 ∙ answered k.0 k.1)
