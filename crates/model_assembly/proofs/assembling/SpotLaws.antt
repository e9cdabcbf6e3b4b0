-- The entries of a file in order, and the spots of its source: each entry stands at a spot, each spot has an entry, and later entries
-- stand at no earlier spots.
use Rattle.std.proofs.Common.{◌≡◌, ℕ, zero, suc, ◌+◌, ◌-◌, ◌<◌, ◌≤◌, Bool, true, false, cond, List, [], ◌∷◌, length, take, map, get_or, refl, sym, ◌∙◌, ap, arith, subst, Option, Some, None}
use Rattle.std.specs.Prelude.{◌==◌, ◌&&◌, slice_get, Contains, All}
use Rattle.std.specs.List.{filter, filter_map, cons_option}
use Rattle.std.specs.Option.{unwrap_or}
use Rattle.std.specs.Cmp.{both_ways}
use Rattle.std.proofs.lemmas.Bool.{eqb-true, eq-eqb, and_parts, and_from}
use Rattle.std.proofs.lemmas.List.Elements.{All-cons, All-head, All-tail}
use Rattle.std.proofs.lemmas.List.Sorted.{All-permutation}
use Rattle.mof_metamodel.specs.declared.desc.MetaDesc.{MetaDesc}
use Rattle.mof_metamodel.specs.declared.desc.ClassId.{ClassId}
use Rattle.mof_metamodel.specs.Metamodels.{props_of}
use Rattle.object_tables.specs.Models.{index_of, slot_number}
use Rattle.object_tables.proofs.ModelLemmas.{index-within, index-found, index-same}
use Rattle.object_tables.proofs.DistinctLemmas.{property_place}
use Rattle.model_assembly.specs.declared.filed.Filed.{Filed}
use Rattle.model_assembly.specs.declared.filed.WrittenReference.{WrittenReference}
use Rattle.model_assembly.specs.declared.assembly.entry.Entry.{Entry}
use Rattle.model_assembly.specs.AssemblyEntries.{class_in, IsReferenceAt, entry_of, entries_from, is_entry_at, no_entry, entry_at, IsInOrder, text_or_none, written_text}
use Rattle.model_assembly.specs.Faults.{Spot, IsBefore, ByObject, ByProperty, ByTarget, IsWritten}
use Rattle.model_assembly.specs.Filed.{reference_at, reference_of, IsFiled, IsReferenceIn}
use Rattle.model_assembly.specs.Profile.{props_or_none}
use Rattle.model_assembly.specs.References.{Target}
use Rattle.model_assembly.specs.Source.{Source, class_of, is_at, targets_at}
use Rattle.model_assembly.proofs.assembling.ListLaws.{get_within, get_is, get_some, get_filter, filter_get, filter_rises, get_map, map_get}
use Rattle.mof_metamodel.proofs.Facts.{contains_at}
use Rattle.std.proofs.lemmas.Option.{same_Some}
use Rattle.std.proofs.lemmas.Option.{none-some}

-- ---- classes

class_there : (cs : List ClassId) (o : ℕ) → o < length cs → unwrap_or (slice_get (map (λ c. Some c.0) cs) o) None ≡ Some (class_in cs o).0
class_there [] o l = absurd (omega (arith, l))
class_there (c ∷ cs) zero l = refl
class_there (c ∷ cs) (suc o) l = class_there cs o (omega (arith, l))

class_within : (cs : List ClassId) (o c : ℕ) → unwrap_or (slice_get (map (λ c. Some c.0) cs) o) None ≡ Some c → o < length cs
class_within [] o c e = absurd (none-some c e)
class_within (k ∷ cs) zero c e = omega arith
class_within (k ∷ cs) (suc o) c e = let l = class_within cs o c e in omega (arith, l)

pub class_known : (s : Source) (f : Filed) → IsFiled s f → (o : ℕ) → o < length f.classes → class_of s o ≡ Some (class_in f.classes o).0
class_known s f h o l = sym (ap (λ cs. unwrap_or (slice_get cs o) None) h.classes) ∙ class_there f.classes o l

pub class_counted : (s : Source) (f : Filed) → IsFiled s f → (o c : ℕ) → class_of s o ≡ Some c → o < length f.classes
class_counted s f h o c e = class_within f.classes o c (ap (λ cs. unwrap_or (slice_get cs o) None) h.classes ∙ e)

pub has_class : (meta : MetaDesc) (k : Option ℕ) (p : ℕ) → Contains (props_or_none meta k) p → (c : ℕ) × (k ≡ Some c) × Contains (props_of meta c) p
has_class meta None p (i, l, e) = absurd (omega (arith, l))
has_class meta (Some c) p h = (c, refl, h)

-- a reference of an object's class, said by the list of classes and by the source
pub reference_listed : (s : Source) (f : Filed) → IsFiled s f → (o p : ℕ) → IsReferenceIn s o p → IsReferenceAt s.meta f.classes o p
reference_listed s f h o p r =
    let k = has_class s.meta (class_of s o) p r.has in
    let l = class_counted s f h o k.0 k.1 in
    let same : k.0 ≡ (class_in f.classes o).0 = same_Some k.0 (class_in f.classes o).0 (sym k.1 ∙ class_known s f h o l) in
    record { object = l; has = subst (λ c. Contains (props_of s.meta c) p) same k.2; class_type = r.class_type }

pub reference_sourced : (s : Source) (f : Filed) → IsFiled s f → length f.classes ≡ length f.ids → (o p : ℕ) → IsReferenceAt s.meta f.classes o p → IsReferenceIn s o p
reference_sourced s f h n o p r = record {
  object = let e = ap length h.ids in let l = r.object in omega (arith, e, n, l);
  has = subst (λ k. Contains (props_or_none s.meta k) p) (sym (class_known s f h o r.object)) r.has;
  class_type = r.class_type;
}

-- ---- entries

-- an entry stands at the place of its property
pub record IsGood (meta : MetaDesc) (classes : List ClassId) (e : Entry) : Type 0 where
  pub reference : IsReferenceAt meta classes e.object e.property.0
  pub place : e.place ≡ slot_number meta (class_in classes e.object).0 e.property.0

pub entries_good : (meta : MetaDesc) (classes : List ClassId) (n : ℕ) (rs : List WrittenReference) → All (λ r. IsReferenceAt meta classes r.object r.property.0) rs
    → All (IsGood meta classes) (entries_from meta classes n rs)
entries_good meta classes n [] h = λ k d l. absurd (omega (arith, l))
entries_good meta classes n (r ∷ rs) h =
    All-cons (IsGood meta classes) (entry_of meta classes n r) (entries_from meta classes (suc n) rs)
    (record { reference = All-head (λ (r : WrittenReference). IsReferenceAt meta classes r.object r.property.0) r rs h; place = refl })
    (entries_good meta classes (suc n) rs (All-tail (λ (r : WrittenReference). IsReferenceAt meta classes r.object r.property.0) r rs h))

-- what an entry says
abbrev pub told_by : List WrittenReference → Entry → Option ℕ × List ℕ
told_by rs e = (e.target, written_text rs e.written)

-- whether an entry stands at a reference
at_same : (meta : MetaDesc) (classes : List ClassId) (o p n : ℕ) (r : WrittenReference) → IsReferenceAt meta classes r.object r.property.0 → Contains (props_of meta (class_in classes o).0) p
    → is_entry_at o (slot_number meta (class_in classes o).0 p) (entry_of meta classes n r) ≡ is_at o p r.object r.property.0
at_same meta classes o p n r w has = by (r.object == o) refl
  where
    props : List ℕ
    props = props_of meta (class_in classes o).0

    by : (b : Bool) → (r.object == o) ≡ b → (r.object == o) && (slot_number meta (class_in classes r.object).0 r.property.0 == slot_number meta (class_in classes o).0 p) ≡ (r.object == o) && (r.property.0 == p)
    by false e = ap (λ b. b && (slot_number meta (class_in classes r.object).0 r.property.0 == slot_number meta (class_in classes o).0 p)) e ∙ sym (ap (λ b. b && (r.property.0 == p)) e)
    by true e =
        let same : r.object ≡ o = eqb-true r.object o e in
        let there : Contains props r.property.0 = subst (λ z. Contains (props_of meta (class_in classes z).0) r.property.0) same w.has in
        let where_is : slot_number meta (class_in classes r.object).0 r.property.0 ≡ index_of props r.property.0 = ap (λ z. slot_number meta (class_in classes z).0 r.property.0) same in
        let agree : (index_of props r.property.0 == index_of props p) ≡ (r.property.0 == p) =
        both_ways (index_of props r.property.0 == index_of props p) (r.property.0 == p)
        (λ t. eq-eqb r.property.0 p (index-same props r.property.0 p (index-within props r.property.0 there) (index-within props p has) (eqb-true (index_of props r.property.0) (index_of props p) t)))
        (λ t. eq-eqb (index_of props r.property.0) (index_of props p) (ap (index_of props) (eqb-true r.property.0 p t))) in
        λ i. (r.object == o) && ((ap (λ k. k == index_of props p) where_is ∙ agree) i)

entries_told : (meta : MetaDesc) (classes : List ClassId) (all : List WrittenReference) (o p n : ℕ) (rs : List WrittenReference)
    → All (λ r. IsReferenceAt meta classes r.object r.property.0) rs → ((j : ℕ) → slice_get all (n + j) ≡ slice_get rs j) → Contains (props_of meta (class_in classes o).0) p
    → map (told_by all) (filter (is_entry_at o (slot_number meta (class_in classes o).0 p)) (entries_from meta classes n rs)) ≡ filter_map (reference_at o p) rs
entries_told meta classes all o p n [] h at has = refl
entries_told meta classes all o p n (r ∷ rs) h at has =
    ap (λ t. map (told_by all) (cond t (e ∷ es) es)) (at_same meta classes o p n r (All-head (λ (r : WrittenReference). IsReferenceAt meta classes r.object r.property.0) r rs h) has)
    ∙ go (is_at o p r.object r.property.0) (entries_told meta classes all o p (suc n) rs (All-tail (λ (r : WrittenReference). IsReferenceAt meta classes r.object r.property.0) r rs h) next has)
  where
    k : ℕ
    k = slot_number meta (class_in classes o).0 p

    e : Entry
    e = entry_of meta classes n r

    es : List Entry
    es = filter (is_entry_at o k) (entries_from meta classes (suc n) rs)

    next : (j : ℕ) → slice_get all (suc n + j) ≡ slice_get rs j
    next j = let q : suc n + j ≡ n + suc j = omega arith in ap (slice_get all) q ∙ at (suc j)

    here : slice_get all n ≡ Some r
    here = let q : n ≡ n + 0 = omega arith in ap (slice_get all) q ∙ at 0

    text : told_by all e ≡ (r.target, r.text)
    text = ap (λ (w : Option WrittenReference). (r.target, text_or_none w)) here

    go : (t : Bool) → map (told_by all) es ≡ filter_map (reference_at o p) rs → map (told_by all) (cond t (e ∷ es) es) ≡ cons_option (cond t (Some (r.target, r.text)) None) (filter_map (reference_at o p) rs)
    go true rest = λ i. text i ∷ rest i
    go false rest = rest

-- ---- spots

abbrev pub number_at : List Entry → ℕ → ℕ
number_at es i = length (filter (is_entry_at (entry_at es i).object (entry_at es i).place) (take i es))

abbrev pub spot_at : List Entry → ℕ → Spot
spot_at es i = record { object = (entry_at es i).object; property = (entry_at es i).place; target = number_at es i }

-- the entries of a file in order
pub record AreEntries (s : Source) (f : Filed) (es : List Entry) : Type 0 where
  pub filed : IsFiled s f
  pub counted : length f.classes ≡ length f.ids
  pub order : IsInOrder (entries_from s.meta f.classes 0 f.references) es

pub places_listed : (s : Source) (f : Filed) → IsFiled s f → All (λ r. IsReferenceAt s.meta f.classes r.object r.property.0) f.references
places_listed s f h = λ k d l. (
    let r = get_or f.references k d in
    reference_listed s f h r.object r.property.0 (h.reference_place r (k, l, same k d l)))
  where
    same : (k : ℕ) (d : WrittenReference) → k < length f.references → get_or f.references k (get_or f.references k d) ≡ get_or f.references k d
    same k d l = Rattle.std.proofs.lemmas.List.get_or_default f.references k (get_or f.references k d) d l

pub entry_good : (s : Source) (f : Filed) (es : List Entry) → AreEntries s f es → (i : ℕ) → i < length es → IsGood s.meta f.classes (entry_at es i)
entry_good s f es a i l =
    All-permutation (IsGood s.meta f.classes) (entries_from s.meta f.classes 0 f.references) es a.order.same (entries_good s.meta f.classes 0 f.references (places_listed s f a.filed)) i no_entry l

-- what the entries of a reference say is what the source writes there
pub told_same : (s : Source) (f : Filed) (es : List Entry) → AreEntries s f es → (o p : ℕ) → IsReferenceIn s o p
    → map (told_by f.references) (filter (is_entry_at o (slot_number s.meta (class_in f.classes o).0 p)) es) ≡ map (reference_of s) (targets_at s o p)
told_same s f es a o p r =
    let k = slot_number s.meta (class_in f.classes o).0 p in
    ap (map (told_by f.references)) (a.order.kept o k)
    ∙ entries_told s.meta f.classes f.references o p 0 f.references (places_listed s f a.filed) (λ j. (let q : 0 + j ≡ j = omega arith in ap (slice_get f.references) q)) (reference_listed s f a.filed o p r).has
    ∙ a.filed.references o p r

pub record IsSpotOf (s : Source) (f : Filed) (es : List Entry) (i : ℕ) (p : ℕ) (target : Target) : Type 0 where
  pub written : IsWritten s (spot_at es i) p target
  pub told : reference_of s target ≡ told_by f.references (entry_at es i)

-- each entry stands at its spot
pub spot_of_entry : (s : Source) (f : Filed) (es : List Entry) → AreEntries s f es → (i : ℕ) → i < length es → (target : Target) × IsSpotOf s f es i (entry_at es i).property.0 target
spot_of_entry s f es a i l = (found.0, record { written = record { property = property; reference = good.reference.class_type; target_is = found.1 }; told = found.2 })
  where
    e : Entry
    e = entry_at es i

    good : IsGood s.meta f.classes e
    good = entry_good s f es a i l

    props : List ℕ
    props = props_of s.meta (class_in f.classes e.object).0

    inside : IsReferenceIn s e.object e.property.0
    inside = reference_sourced s f a.filed a.counted e.object e.property.0 good.reference

    property : slice_get (props_or_none s.meta (class_of s e.object)) e.place ≡ Some e.property.0
    property =
        let w = index-within props e.property.0 good.reference.has in
        ap (λ k. slice_get (props_or_none s.meta k) e.place) (class_known s f a.filed e.object good.reference.object)
        ∙ ap (slice_get props) good.place
        ∙ get_some props (index_of props e.property.0) 0 w
        ∙ ap Some (index-found props e.property.0 0 w)

    test : Entry → Bool
    test = is_entry_at e.object e.place

    itself : test e ≡ true
    itself = and_from (e.object == e.object) (e.place == e.place) (eq-eqb e.object e.object refl) (eq-eqb e.place e.place refl)

    kept : slice_get (filter test es) (number_at es i) ≡ Some e
    kept = filter_get test es i e (get_some es i no_entry l) itself

    told : slice_get (map (reference_of s) (targets_at s e.object e.property.0)) (number_at es i) ≡ Some (told_by f.references e)
    told =
        sym (ap (λ ts. slice_get ts (number_at es i)) (ap (λ k. map (told_by f.references) (filter (is_entry_at e.object k) es)) good.place ∙ told_same s f es a e.object e.property.0 inside))
        ∙ map_get (told_by f.references) (filter test es) (number_at es i) e kept

    found : (target : Target) × (slice_get (targets_at s e.object e.property.0) (number_at es i) ≡ Some target) × (reference_of s target ≡ told_by f.references e)
    found = get_map (reference_of s) (targets_at s e.object e.property.0) (number_at es i) (told_by f.references e) told

-- each spot at which something is written has an entry
pub record IsEntryOf (s : Source) (f : Filed) (es : List Entry) (spot : Spot) (p : ℕ) (target : Target) (i : ℕ) : Type 0 where
  pub within : i < length es
  pub spot_is : spot_at es i ≡ spot
  pub property : (entry_at es i).property.0 ≡ p
  pub told : reference_of s target ≡ told_by f.references (entry_at es i)

pub entry_of_spot : (s : Source) (f : Filed) (es : List Entry) → AreEntries s f es → (spot : Spot) (p : ℕ) (target : Target) → IsWritten s spot p target → (i : ℕ) × IsEntryOf s f es spot p target i
entry_of_spot s f es a spot p target w = (i, record { within = within; spot_is = spot_is; property = property; told = told })
  where
    o : ℕ
    o = spot.object

    class : (c : ℕ) × (class_of s o ≡ Some c) × Contains (props_of s.meta c) p
    class = has_class s.meta (class_of s o) p (contains_at (props_or_none s.meta (class_of s o)) spot.property p w.property)

    counted : o < length f.classes
    counted = class_counted s f a.filed o class.0 class.1

    inside : IsReferenceIn s o p
    inside = record {
      object = let e = ap length a.filed.ids in let n = a.counted in let l = counted in omega (arith, e, n, l);
      has = contains_at (props_or_none s.meta (class_of s o)) spot.property p w.property;
      class_type = w.reference;
    }

    listed : IsReferenceAt s.meta f.classes o p
    listed = reference_listed s f a.filed o p inside

    props : List ℕ
    props = props_of s.meta (class_in f.classes o).0

    at_place : slice_get props spot.property ≡ Some p
    at_place = sym (ap (λ k. slice_get (props_or_none s.meta k) spot.property) (class_known s f a.filed o counted)) ∙ w.property

    place : index_of props p ≡ spot.property
    place =
        sym (ap (index_of props) (get_is props spot.property p 0 at_place))
        ∙ property_place s.meta (class_in f.classes o).0 spot.property 0 (get_within props spot.property p at_place)

    test : Entry → Bool
    test = is_entry_at o (index_of props p)

    seen : slice_get (map (told_by f.references) (filter test es)) spot.target ≡ Some (reference_of s target)
    seen = ap (λ ts. slice_get ts spot.target) (told_same s f es a o p inside) ∙ map_get (reference_of s) (targets_at s o p) spot.target target w.target_is

    found : (e : Entry) × (slice_get (filter test es) spot.target ≡ Some e) × (told_by f.references e ≡ reference_of s target)
    found = get_map (told_by f.references) (filter test es) spot.target (reference_of s target) seen

    where_is : (i : ℕ) × (slice_get es i ≡ Some found.0) × (test found.0 ≡ true) × (length (filter test (take i es)) ≡ spot.target)
    where_is = get_filter test es spot.target found.0 found.1

    i : ℕ
    i = where_is.0

    within : i < length es
    within = get_within es i found.0 where_is.1

    is_it : entry_at es i ≡ found.0
    is_it = get_is es i found.0 no_entry where_is.1

    parts : ((found.0.object == o) ≡ true) × ((found.0.place == index_of props p) ≡ true)
    parts = and_parts (found.0.object == o) (found.0.place == index_of props p) where_is.2

    object_is : (entry_at es i).object ≡ o
    object_is = ap (λ (e : Entry). e.object) is_it ∙ eqb-true found.0.object o parts.0

    place_is : (entry_at es i).place ≡ index_of props p
    place_is = ap (λ (e : Entry). e.place) is_it ∙ eqb-true found.0.place (index_of props p) parts.1

    number_is : number_at es i ≡ spot.target
    number_is = (λ j. length (filter (is_entry_at (object_is j) (place_is j)) (take i es))) ∙ where_is.3

    spot_is : spot_at es i ≡ spot
    spot_is = λ j. record { object = object_is j; property = (place_is ∙ place) j; target = number_is j }

    good : IsGood s.meta f.classes (entry_at es i)
    good = entry_good s f es a i within

    property : (entry_at es i).property.0 ≡ p
    property =
        let here : Contains props (entry_at es i).property.0 = subst (λ z. Contains (props_of s.meta (class_in f.classes z).0) (entry_at es i).property.0) object_is good.reference.has in
        let same : index_of props (entry_at es i).property.0 ≡ index_of props p =
        sym (ap (λ z. index_of (props_of s.meta (class_in f.classes z).0) (entry_at es i).property.0) object_is) ∙ sym good.place ∙ place_is in
        index-same props (entry_at es i).property.0 p (index-within props (entry_at es i).property.0 here) (index-within props p listed.has) same

    told : reference_of s target ≡ told_by f.references (entry_at es i)
    told = sym found.2 ∙ sym (ap (told_by f.references) is_it)

-- ---- their order

pub places_rise : (es fs : List Entry) → IsInOrder es fs → (i n : ℕ) → i + n < length fs → (entry_at fs i).object ≡ (entry_at fs (i + n)).object → (entry_at fs i).place ≤ (entry_at fs (i + n)).place
places_rise es fs a i zero l e = let q : i + 0 ≡ i = omega arith in let same : (entry_at fs (i + 0)).place ≡ (entry_at fs i).place = ap (λ k. (entry_at fs k).place) q in omega (arith, same)
places_rise es fs a i (suc n) l e =
    let q : i + suc n ≡ (i + n) + 1 = omega arith in
    let last : (entry_at fs (i + suc n)).object ≡ (entry_at fs ((i + n) + 1)).object = ap (λ k. (entry_at fs k).object) q in
    let place : (entry_at fs (i + suc n)).place ≡ (entry_at fs ((i + n) + 1)).place = ap (λ k. (entry_at fs k).place) q in
    let low = a.objects i (i + n) no_entry (omega arith) (omega (arith, l)) in
    let high = a.objects (i + n) ((i + n) + 1) no_entry (omega arith) (omega (arith, l)) in
    let mid : (entry_at fs i).object ≡ (entry_at fs (i + n)).object = omega (arith, low, high, e, last) in
    let next : (entry_at fs (i + n)).object ≡ (entry_at fs ((i + n) + 1)).object = omega (arith, low, high, e, last) in
    let before = places_rise es fs a i n (omega (arith, l)) mid in
    let step = a.places (i + n) no_entry (omega (arith, l)) next in
    omega (arith, before, step, place)

pub places_far : (s : Source) (f : Filed) (es : List Entry) → AreEntries s f es → (i j : ℕ) → i ≤ j → j < length es → (entry_at es i).object ≡ (entry_at es j).object → (entry_at es i).place ≤ (entry_at es j).place
places_far s f es a i j l k e = far (j - i) (omega (arith, l))
  where
    far : (n : ℕ) → i + n ≡ j → (entry_at es i).place ≤ (entry_at es j).place
    far n q =
        let within : i + n < length es = omega (arith, q, k) in
        subst (λ m. (entry_at es i).place ≤ (entry_at es m).place) q
        (places_rise (entries_from s.meta f.classes 0 f.references) es a.order i n within (e ∙ sym (ap (λ m. (entry_at es m).object) q)))

pub no_earlier : (s : Source) (f : Filed) (es : List Entry) → AreEntries s f es → (i j : ℕ) → i ≤ j → j < length es → IsBefore (spot_at es j) (spot_at es i) → ⊥
no_earlier s f es a i j l k (ByObject object) = let up = a.order.objects i j no_entry l k in omega (arith, up, object)
no_earlier s f es a i j l k (ByProperty object property) = let up = places_far s f es a i j l k (sym object) in omega (arith, up, property)
no_earlier s f es a i j l k (ByTarget object property target) =
    let test = is_entry_at (entry_at es i).object (entry_at es i).place in
    let up = filter_rises test es i j l in
    let same : number_at es j ≡ length (filter test (take j es)) = λ n. length (filter (is_entry_at (object n) (property n)) (take j es)) in
    omega (arith, up, same, target)
