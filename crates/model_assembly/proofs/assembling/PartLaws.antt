-- The first naming that makes an object a part a second time is the first such fault of the source.
use Rattle.std.proofs.Common.{◌≡◌, ◌≢◌, ℕ, zero, suc, ◌<◌, ◌≤◌, ◌⊎◌, Bool, true, false, cond, List, [], ◌∷◌, length, take, map, refl, sym, ◌∙◌, ap, arith, subst, Option, Some, None, inl, inr, true≢false}
use Rattle.std.specs.List.{filter}
use Rattle.std.specs.Option.{unwrap_or}
use Rattle.std.proofs.lemmas.Bool.{cond-true, cond-false, cases_lt, cases_eq, and_from, eq-eqb}
use Rattle.std.proofs.lemmas.List.{get_or_past}
use Rattle.mof_metamodel.specs.declared.desc.MetaDesc.{MetaDesc}
use Rattle.mof_metamodel.specs.declared.desc.PropDesc.{PropDesc}
use Rattle.object_tables.specs.declared.limit.TheConstants.{MAX_OBJECTS}
use Rattle.mof_metamodel.specs.Metamodels.{prop_at, prop_count, declared_props, no_prop, opposite_of, opposite_number}
use Rattle.mof_metamodel.specs.WellMeta.{WellMeta}
use Rattle.object_tables.proofs.InheritLemmas.{opposite_back}
use Rattle.model_assembly.specs.declared.fault.ModelFault.{ModelFault}
use Rattle.model_assembly.specs.declared.fault.ModelFault.TheVariants as faults
use Rattle.model_assembly.specs.declared.filed.Filed.{Filed}
use Rattle.model_assembly.specs.declared.assembly.entry.Entry.{Entry}
use Rattle.model_assembly.specs.declared.assembly.naming.Naming.{Naming}
use Rattle.model_assembly.specs.declared.assembly.first.Part.{Part}
use Rattle.model_assembly.specs.AssemblyEntries.{entry_at, is_entry_at, no_entry}
use Rattle.model_assembly.specs.AssemblyFirsts.{is_astray, is_dangling}
use Rattle.model_assembly.specs.AssemblyNamings.{naming_of, at, part_of, part_by_opposite, IsSecondWhole}
use Rattle.model_assembly.specs.Faults.{Spot, IsBefore, ByObject, ByProperty, ByTarget, StandsAt, StandsBy, IsPartWritten, MakesPart, IsContainedTwice}
use Rattle.model_assembly.specs.FirstFault.{rank, IsFirstBy}
use Rattle.model_assembly.specs.Filed.{reference_of}
use Rattle.model_assembly.specs.References.{Target}
use Rattle.model_assembly.specs.Source.{Source, object_count, id_of, target_number}
use Rattle.model_assembly.proofs.assembling.ListLaws.{get_some, filter_over}
use Rattle.std.proofs.lemmas.Option.{same_Some}
use Rattle.std.proofs.lemmas.Option.{none-some}
use Rattle.model_assembly.proofs.assembling.SpotLaws.{told_by, number_at, spot_at, AreEntries, IsSpotOf, spot_of_entry, IsEntryOf, entry_of_spot, places_far, no_earlier}
use Rattle.model_assembly.proofs.assembling.FaultLaws.{none_dangles}

-- the namings of entries of which none dangles
pub record AreNamings (s : Source) (f : Filed) (es : List Entry) (xs : List Naming) : Type 0 where
  pub entries : AreEntries s f es
  pub well : WellMeta s.meta
  pub fit : (j : ℕ) → j < length es → is_dangling s.meta f.classes (entry_at es j) ≡ false
  pub namings : xs ≡ map naming_of es

pub at_entry : (es : List Entry) (i : ℕ) → at (map naming_of es) i ≡ naming_of (entry_at es i)
at_entry [] i = refl
at_entry (e ∷ es) zero = refl
at_entry (e ∷ es) (suc i) = at_entry es i

pub naming_at : (s : Source) (f : Filed) (es : List Entry) (xs : List Naming) → AreNamings s f es xs → (i : ℕ) → at xs i ≡ naming_of (entry_at es i)
naming_at s f es xs a i = ap (λ ys. at ys i) a.namings ∙ at_entry es i

pub length-map_of : (es : List Entry) → length (map naming_of es) ≡ length es
length-map_of [] = refl
length-map_of (e ∷ es) = ap suc (length-map_of es)

pub naming_count : (s : Source) (f : Filed) (es : List Entry) (xs : List Naming) → AreNamings s f es xs → length xs ≡ length es
naming_count s f es xs a = ap length a.namings ∙ length-map_of es

pub target_fit : (s : Source) (f : Filed) (p : ℕ) (t : Option ℕ) → is_astray s.meta f.classes p t ≡ false → t ≡ Some (unwrap_or t 0)
target_fit s f p None e = absurd (true≢false e)
target_fit s f p (Some b) e = refl

-- what stands at the spot of an entry names its target
pub named_there : (s : Source) (f : Filed) (es : List Entry) (xs : List Naming) → AreNamings s f es xs → (i : ℕ) → i < length es → (target : Target) → reference_of s target ≡ told_by f.references (entry_at es i)
    → target_number s target ≡ Some (naming_of (entry_at es i)).target
named_there s f es xs a i l target told = ap (λ (t : Option ℕ × List ℕ). t.0) told ∙ target_fit s f (entry_at es i).property.0 (entry_at es i).target (a.fit i l)

-- later entries stand at later spots
pub spot_before : (s : Source) (f : Filed) (es : List Entry) → AreEntries s f es → (j i : ℕ) → j < i → i < length es → IsBefore (spot_at es j) (spot_at es i)
spot_before s f es a j i l k = by_object (cases_lt (entry_at es j).object (entry_at es i).object)
  where
    by_place : (entry_at es j).object ≡ (entry_at es i).object → ((entry_at es j).place < (entry_at es i).place) ⊎ ((entry_at es i).place ≤ (entry_at es j).place) → IsBefore (spot_at es j) (spot_at es i)
    by_place e (inl q) = ByProperty e q
    by_place e (inr q) =
        let up = places_far s f es a j i (omega (arith, l)) k e in
        let p : (entry_at es j).place ≡ (entry_at es i).place = omega (arith, up, q) in
        let test = is_entry_at (entry_at es i).object (entry_at es i).place in
        let itself : test (entry_at es j) ≡ true =
        and_from _ _ (eq-eqb (entry_at es j).object (entry_at es i).object e) (eq-eqb (entry_at es j).place (entry_at es i).place p) in
        let over = filter_over test es j i (entry_at es j) l (get_some es j no_entry (omega (arith, l, k))) itself in
        let same : number_at es j ≡ length (filter test (take j es)) = λ n. length (filter (is_entry_at (e n) (p n)) (take j es)) in
        ByTarget e p (omega (arith, over, same))

    by_object : ((entry_at es j).object < (entry_at es i).object) ⊎ ((entry_at es i).object ≤ (entry_at es j).object) → IsBefore (spot_at es j) (spot_at es i)
    by_object (inl q) = ByObject q
    by_object (inr q) =
        let up = a.order.objects j i no_entry (omega (arith, l)) k in
        let e : (entry_at es j).object ≡ (entry_at es i).object = omega (arith, up, q) in
        by_place e (cases_lt (entry_at es j).place (entry_at es i).place)

-- ---- opposites

opposite_within : (meta : MetaDesc) (p q : ℕ) → opposite_of meta p ≡ Some q → p < prop_count meta
opposite_within meta p q e = elim (cases_lt p (prop_count meta)) [
  | inl l ↦ l
  | inr le ↦ absurd (none-some q (sym (ap (λ (d : ℕ × PropDesc). opposite_number meta d.1.opposite) (get_or_past (declared_props meta) p (0, no_prop) le)) ∙ e))
]

pub back : (meta : MetaDesc) (p q : ℕ) → WellMeta meta → opposite_of meta p ≡ Some q → opposite_of meta q ≡ Some p
back meta p q w e = opposite_back meta p q w (opposite_within meta p q e) e

-- ---- parts

abbrev pub part : ℕ → ℕ → ℕ → Part
part b a p = record { part = b; whole = a; property = p }

-- what a naming makes a part, in either way
pub data IsMade (meta : MetaDesc) (n : Naming) (x : Part) : Type 0 where
  directly : (prop_at meta n.property).composite ≡ true → part n.target n.object n.property ≡ x → IsMade meta n x
  oppositely : (q : ℕ) → opposite_of meta n.property ≡ Some q → (prop_at meta q).composite ≡ true → part n.object n.target q ≡ x → IsMade meta n x

made : (meta : MetaDesc) (n : Naming) (x : Part) → part_of meta n ≡ Some x → IsMade meta n x
made meta n x e = by (prop_at meta n.property).composite refl e
  where
    if_whole : (q : ℕ) → opposite_of meta n.property ≡ Some q → (b : Bool) → (prop_at meta q).composite ≡ b → cond b (Some (part n.object n.target q)) None ≡ Some x → IsMade meta n x
    if_whole q o true c g = oppositely q o c (same_Some (part n.object n.target q) x g)
    if_whole q o false c g = absurd (none-some x g)

    over : (o : Option ℕ) → opposite_of meta n.property ≡ o → part_by_opposite meta n o ≡ Some x → IsMade meta n x
    over None o g = absurd (none-some x g)
    over (Some q) o g = if_whole q o (prop_at meta q).composite refl g

    by : (b : Bool) → (prop_at meta n.property).composite ≡ b → cond b (Some (part n.target n.object n.property)) (part_by_opposite meta n (opposite_of meta n.property)) ≡ Some x → IsMade meta n x
    by true c g = directly c (same_Some (part n.target n.object n.property) x g)
    by false c g = over (opposite_of meta n.property) refl g

part_written : (s : Source) (f : Filed) (es : List Entry) (xs : List Naming) → AreNamings s f es xs → (i : ℕ) → i < length es → (x : Part) → part_of s.meta (at xs i) ≡ Some x
    → IsPartWritten s (spot_at es i) x.whole x.part x.property
part_written s f es xs a i l x e = by (made s.meta n x (sym (ap (part_of s.meta) (naming_at s f es xs a i)) ∙ e))
  where
    n : Naming
    n = naming_of (entry_at es i)

    spot : (target : Target) × IsSpotOf s f es i (entry_at es i).property.0 target
    spot = spot_of_entry s f es a.entries i l

    by : IsMade s.meta n x → IsPartWritten s (spot_at es i) x.whole x.part x.property
    by (directly c q) =
        subst (λ (y : Part). IsPartWritten s (spot_at es i) y.whole y.part y.property) q
        (record { r = n.property; target = spot.0; c = n.target; written = spot.1.written; named = named_there s f es xs a i l spot.0 spot.1.told; composite = c; part = inl (refl, refl, refl) })
    by (oppositely p o c q) =
        subst (λ (y : Part). IsPartWritten s (spot_at es i) y.whole y.part y.property) q
        (record { r = n.property; target = spot.0; c = n.target; written = spot.1.written; named = named_there s f es xs a i l spot.0 spot.1.told; composite = c; part = inr (back s.meta n.property p a.well o, refl, refl) })

pub not_both : (meta : MetaDesc) (p r : ℕ) → WellMeta meta → opposite_of meta p ≡ Some r → (prop_at meta p).composite ≡ true → (prop_at meta r).composite ≡ false
not_both meta p r w o c = by (prop_at meta r).composite refl
  where
    by : (b : Bool) → (prop_at meta r).composite ≡ b → (prop_at meta r).composite ≡ false
    by true e = absurd (w.containers p r (opposite_within meta p r o) o c e)
    by false e = e

written_part : (s : Source) (f : Filed) (es : List Entry) (xs : List Naming) → AreNamings s f es xs → (spot : Spot) (w b p : ℕ) → IsPartWritten s spot w b p
    → (j : ℕ) × (j < length es) × (spot_at es j ≡ spot) × (part_of s.meta (at xs j) ≡ Some (part b w p))
written_part s f es xs a spot w b p x = (j, k.within, k.spot_is, ap (part_of s.meta) (naming_at s f es xs a j ∙ shown) ∙ by x.part)
  where
    found : (j : ℕ) × IsEntryOf s f es spot x.r x.target j
    found = entry_of_spot s f es a.entries spot x.r x.target x.written

    j : ℕ
    j = found.0

    k : IsEntryOf s f es spot x.r x.target j
    k = found.1

    target : (naming_of (entry_at es j)).target ≡ x.c
    target = same_Some (naming_of (entry_at es j)).target x.c (sym (named_there s f es xs a j k.within x.target k.told) ∙ x.named)

    shown : naming_of (entry_at es j) ≡ record { object = spot.object; property = x.r; target = x.c }
    shown = λ m. record { object = (ap (λ (z : Spot). z.object) k.spot_is) m; property = k.property m; target = target m }

    by : MakesPart s spot x.r x.c w b p → part_of s.meta (record { object = spot.object; property = x.r; target = x.c }) ≡ Some (part b w p)
    by (inl (r, o, c)) =
        cond-true (prop_at s.meta x.r).composite _ _ (ap (λ z. (prop_at s.meta z).composite) r ∙ x.composite)
        ∙ (λ m. Some (part (c m) (o m) (r m)))
    by (inr (o, q, c)) =
        cond-false (prop_at s.meta x.r).composite _ _ (not_both s.meta p x.r a.well o x.composite)
        ∙ ap (part_by_opposite s.meta (record { object = spot.object; property = x.r; target = x.c })) (back s.meta p x.r a.well o)
        ∙ cond-true (prop_at s.meta p).composite _ _ x.composite
        ∙ (λ m. Some (part (q m) (c m) p))

-- a naming that makes an object a part a second time, and such a fault of the source
second_stands : (s : Source) (f : Filed) (es : List Entry) (xs : List Naming) → AreNamings s f es xs → (i : ℕ) → i < length es → (h : IsSecondWhole s.meta xs i) → IsContainedTwice s (spot_at es i) (id_of s h.part.part)
second_stands s f es xs a i l h = record {
  object = h.part.part;
  a = h.part.whole;
  p = h.part.property;
  part = part_written s f es xs a i l h.part h.part_is;
  earlier = spot_at es h.earlier;
  before = spot_before s f es a.entries h.earlier i h.before l;
  b = h.other.whole;
  q = h.other.property;
  other_part = let k = h.before in subst (λ z. IsPartWritten s (spot_at es h.earlier) h.other.whole z h.other.property) h.same (part_written s f es xs a h.earlier (omega (arith, k, l)) h.other h.other_is);
  differs = apart (cases_eq h.part.whole h.other.whole) (cases_eq h.part.property h.other.property);
  id_is = refl;
}
  where
    apart : (h.part.whole ≡ h.other.whole) ⊎ (h.part.whole ≡ h.other.whole → ⊥) → (h.part.property ≡ h.other.property) ⊎ (h.part.property ≡ h.other.property → ⊥)
        → (h.part.whole ≢ h.other.whole) ⊎ (h.part.property ≢ h.other.property)
    apart (inr ne) e = inl ne
    apart (inl e) (inr ne) = inr ne
    apart (inl e) (inl g) = absurd (h.differs (λ m. part (h.same m) (sym e m) (sym g m)))

second_entry : (s : Source) (f : Filed) (es : List Entry) (xs : List Naming) → AreNamings s f es xs → (spot : Spot) (id : List ℕ) → IsContainedTwice s spot id
    → (j : ℕ) × (j < length es) × (spot_at es j ≡ spot) × IsSecondWhole s.meta xs j
second_entry s f es xs a spot id x = (j.0, j.1, j.2, second)
  where
    j : (j : ℕ) × (j < length es) × (spot_at es j ≡ spot) × (part_of s.meta (at xs j) ≡ Some (part x.object x.a x.p))
    j = written_part s f es xs a spot x.a x.object x.p x.part

    k : (k : ℕ) × (k < length es) × (spot_at es k ≡ x.earlier) × (part_of s.meta (at xs k) ≡ Some (part x.object x.b x.q))
    k = written_part s f es xs a x.earlier x.b x.object x.q x.other_part

    before : k.0 < j.0
    before = elim (cases_lt k.0 j.0) [
      | inl l ↦ l
      | inr l ↦ absurd (no_earlier s f es a.entries j.0 k.0 l k.1 (subst (λ z. IsBefore z (spot_at es j.0)) (sym k.2) (subst (IsBefore x.earlier) (sym j.2) x.before)))
    ]

    differs : (x.a ≢ x.b) ⊎ (x.p ≢ x.q) → part x.object x.b x.q ≡ part x.object x.a x.p → ⊥
    differs (inl ne) e = ne (sym (ap (λ (y : Part). y.whole) e))
    differs (inr ne) e = ne (sym (ap (λ (y : Part). y.property) e))

    second : IsSecondWhole s.meta xs j.0
    second = record {
      part = part x.object x.a x.p;
      part_is = j.3;
      earlier = k.0;
      before = before;
      other = part x.object x.b x.q;
      other_is = k.3;
      same = refl;
      differs = differs x.differs;
    }

pub second_first : (s : Source) (f : Filed) (es : List Entry) (xs : List Naming) → AreNamings s f es xs → object_count s ≤ MAX_OBJECTS → ((other : ModelFault) (place : ℕ) → StandsAt s other place → ⊥)
    → (i : ℕ) → i < length es → (h : IsSecondWhole s.meta xs i) → ((j : ℕ) → j < i → IsSecondWhole s.meta xs j → ⊥) → IsFirstBy s (faults.TwoContainers (id_of s h.part.part))
second_first s f es xs a few none i l h before =
    record { fewer = few; none_at = none; spot = spot_at es i; stands = second_stands s f es xs a i l h; least = least; first = first }
  where
    least : (other : ModelFault) (elsewhere : Spot) → StandsBy s other elsewhere → 7 ≤ rank other
    least (faults.Dangling x y z) spot d = absurd (none_dangles s f es a.entries a.fit spot x y z d)
    least (faults.TwoContainers x) spot d = omega arith
    least (faults.Mismatch x y z w) spot d = omega arith
    least (faults.UnknownClass x) spot d = absurd d
    least (faults.UnknownProperty x y) spot d = absurd d
    least (faults.WrongValue x y) spot d = absurd d
    least (faults.DuplicateId x) spot d = absurd d
    least (faults.Invalid x y) spot d = absurd d
    least (faults.Limit x) spot d = absurd d

    later : (x : List ℕ) (earlier : Spot) → IsContainedTwice s earlier x → IsBefore earlier (spot_at es i) → ⊥
    later x earlier d b = by (cases_lt k.0 i)
      where
        k : (j : ℕ) × (j < length es) × (spot_at es j ≡ earlier) × IsSecondWhole s.meta xs j
        k = second_entry s f es xs a earlier x d

        by : (k.0 < i) ⊎ (i ≤ k.0) → ⊥
        by (inl q) = before k.0 q k.3
        by (inr q) = no_earlier s f es a.entries i k.0 q k.1 (subst (λ z. IsBefore z (spot_at es i)) (sym k.2) b)

    first : (other : ModelFault) (earlier : Spot) → StandsBy s other earlier → rank other ≡ 7 → IsBefore earlier (spot_at es i) → ⊥
    first (faults.Dangling x y z) spot d r b = absurd (omega (arith, r))
    first (faults.TwoContainers x) spot d r b = later x spot d b
    first (faults.Mismatch x y z w) spot d r b = absurd (omega (arith, r))
    first (faults.UnknownClass x) spot d r b = absurd d
    first (faults.UnknownProperty x y) spot d r b = absurd d
    first (faults.WrongValue x y) spot d r b = absurd d
    first (faults.DuplicateId x) spot d r b = absurd d
    first (faults.Invalid x y) spot d r b = absurd d
    first (faults.Limit x) spot d r b = absurd d

-- no object is contained twice
pub none_twice : (s : Source) (f : Filed) (es : List Entry) (xs : List Naming) → AreNamings s f es xs → ((j : ℕ) → j < length es → IsSecondWhole s.meta xs j → ⊥)
    → (spot : Spot) (id : List ℕ) → IsContainedTwice s spot id → ⊥
none_twice s f es xs a single spot id x = let k = second_entry s f es xs a spot id x in single k.0 k.1 k.3
