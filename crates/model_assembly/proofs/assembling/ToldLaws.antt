-- What is told of the references of a file is so of each of its sources.
use Rattle.std.proofs.Common.{◌≡◌, ℕ, ◌<◌, ◌≤◌, true, false, List, [], length, take, refl, sym, ◌∙◌, ap, arith, subst, Option, Some, None, true≢false}
use Rattle.std.specs.Prelude.{All, HoldsAt, IsSome, slice_get}
use Rattle.std.specs.Option.{unwrap_or}
use Rattle.std.proofs.lemmas.List.{get_or-take, length-take-le, get_or_default}
use Rattle.std.proofs.lemmas.List.Elements.{All-weaker, All-map}
use Rattle.std.proofs.lemmas.List.Sorted.{All-permutation}
use Rattle.mof_metamodel.specs.declared.desc.MetaDesc.{MetaDesc}
use Rattle.mof_metamodel.specs.declared.desc.ClassId.{ClassId}
use Rattle.object_tables.specs.declared.limit.TheConstants.{MAX_OBJECTS}
use Rattle.mof_metamodel.specs.Metamodels.{class_count, prop_count, opposite_of}
use Rattle.mof_metamodel.specs.WellMeta.{WellMeta}
use Rattle.mof_metamodel.proofs.PropLemmas.{prop_known}
use Rattle.model_assembly.specs.declared.fault.ModelFault.{ModelFault}
use Rattle.model_assembly.specs.declared.fault.ModelFault.TheVariants as faults
use Rattle.model_assembly.specs.declared.filed.Filed.{Filed}
use Rattle.model_assembly.specs.declared.assembly.entry.Entry.{Entry}
use Rattle.model_assembly.specs.declared.assembly.naming.Naming.{Naming}
use Rattle.model_assembly.specs.declared.assembly.naming.Saying.{Saying}
use Rattle.model_assembly.specs.declared.assembly.first.Part.{Part}
use Rattle.model_assembly.specs.AssemblyEntries.{class_in, entries_from, entry_at, no_entry, written_text}
use Rattle.model_assembly.specs.AssemblyFirsts.{is_unfit, is_astray, is_dangling, is_unanswered, is_unanswered_at, IsFirstUnanswered}
use Rattle.model_assembly.specs.AssemblyNamings.{naming, naming_of, sayings_of, at, part_of, IsSecondWhole}
use Rattle.model_assembly.specs.AssemblyReferences.{MayBeAssembled, IsTold, AreSorted, NoneDangles, AreNamed, listed_id, dangling_of, mismatch_of}
use Rattle.model_assembly.specs.Faults.{StandsAt}
use Rattle.model_assembly.specs.Filed.{IsFiled}
use Rattle.model_assembly.specs.FirstFault.{IsFirstFault}
use Rattle.model_assembly.specs.Profile.{prop_name}
use Rattle.model_assembly.specs.Source.{Source, object_count, id_of}
use Rattle.model_assembly.proofs.assembling.ListLaws.{get_within}
use Rattle.model_assembly.proofs.assembling.SpotLaws.{IsGood, entries_good}
use Rattle.model_assembly.proofs.assembling.FaultLaws.{dangling_first}
use Rattle.model_assembly.proofs.assembling.PartLaws.{AreNamings, naming_count, second_first, none_twice}
use Rattle.model_assembly.proofs.assembling.MismatchLaws.{mismatch_first}

-- ---- what is known of sorted entries

pub all_good : (meta : MetaDesc) (f : Filed) (es : List Entry) → MayBeAssembled meta f → AreSorted meta f es → All (IsGood meta f.classes) es
all_good meta f es h order =
    All-permutation (IsGood meta f.classes) (entries_from meta f.classes 0 f.references) es order.same (entries_good meta f.classes 0 f.references h.references)

pub props_known : (meta : MetaDesc) (f : Filed) (es : List Entry) → MayBeAssembled meta f → AreSorted meta f es → All (λ (e : Entry). e.property.0 < prop_count meta) es
props_known meta f es h order =
    All-weaker (IsGood meta f.classes) (λ (e : Entry). e.property.0 < prop_count meta) (λ e g. prop_known meta (class_in f.classes e.object).0 e.property.0 g.reference.has) es (all_good meta f es h order)

pub classes_known : (meta : MetaDesc) (f : Filed) → MayBeAssembled meta f → (o : ℕ) → o < length f.classes → (class_in f.classes o).0 < class_count meta
classes_known meta f h o l = h.objects.within o (record { 0 = 0 }) l

pub few_objects : (s : Source) (f : Filed) (meta : MetaDesc) → IsFiled s f → MayBeAssembled meta f → object_count s ≤ MAX_OBJECTS
few_objects s f meta h sound = let e = ap length h.ids in let few = sound.objects.few in omega (arith, e, few)

id_listed : (s : Source) (f : Filed) → IsFiled s f → (o : ℕ) → listed_id f.ids o ≡ id_of s o
id_listed s f h o = ap (λ ids. unwrap_or (slice_get ids o) []) h.ids

-- ---- dangling references

pub none_dangling : (meta : MetaDesc) (f : Filed) (es : List Entry) → All (λ e. is_dangling meta f.classes e ≡ false) es → NoneDangles meta f es
none_dangling meta f es h j l = h j no_entry l

dangling_for : (s : Source) (f : Filed) (es : List Entry) (i : ℕ) → i < length es → IsFiled s f → ((fault : ModelFault) (place : ℕ) → StandsAt s fault place → ⊥)
    → MayBeAssembled s.meta f → AreSorted s.meta f es → HoldsAt (λ e. is_dangling s.meta f.classes e ≡ true) es i → All (λ e. is_dangling s.meta f.classes e ≡ false) (take i es)
    → IsFirstFault s (dangling_of s.meta f (entry_at es i))
dangling_for s f es i l filed none sound order here before =
    dangling_first s f es (record { filed = filed; counted = sound.objects.same; order = order }) (classes_known s.meta f sound) (few_objects s f s.meta filed sound) none i l (here no_entry)
    (λ j q. (
    let n = length-take-le i es (omega (arith, l)) in
    subst (λ e. is_dangling s.meta f.classes e ≡ false) (get_or-take i es j no_entry q) (before j no_entry (omega (arith, n, q)))))
    (listed_id f.ids (entry_at es i).object) _ (written_text f.references (entry_at es i).written) (id_listed s f filed (entry_at es i).object) refl refl

pub dangling_told : (meta : MetaDesc) (f : Filed) (es : List Entry) (i : ℕ) (fault : ModelFault) (e : Entry) → MayBeAssembled meta f → AreSorted meta f es → i < length es
    → HoldsAt (λ e. is_dangling meta f.classes e ≡ true) es i → All (λ e. is_dangling meta f.classes e ≡ false) (take i es) → e ≡ entry_at es i → fault ≡ dangling_of meta f e → IsTold meta f fault
dangling_told meta f es i fault e sound order l here before at is s k =
    subst (IsFirstFault s) (sym (is ∙ ap (dangling_of meta f) at))
    (subst (λ m. MayBeAssembled m f → AreSorted m f es → HoldsAt (λ e. is_dangling m f.classes e ≡ true) es i → All (λ e. is_dangling m f.classes e ≡ false) (take i es) → IsFirstFault s (dangling_of m f (entry_at es i)))
    k.meta (dangling_for s f es i l k.filed k.none_at) sound order here before)

-- ---- what is known of namings

within_of : (meta : MetaDesc) (f : Filed) (p : ℕ) (t : Option ℕ) → is_astray meta f.classes p t ≡ false → IsSome t × (unwrap_or t 0 < length f.classes)
within_of meta f p None h = absurd (true≢false h)
within_of meta f p (Some b) h = (refl, by (slice_get f.classes b) refl h)
  where
    by : (o : Option ClassId) → slice_get f.classes b ≡ o → is_unfit meta p o ≡ false → b < length f.classes
    by None g u = absurd (true≢false u)
    by (Some c) g u = get_within f.classes b c g

pub targets_some : (meta : MetaDesc) (f : Filed) (es : List Entry) → NoneDangles meta f es → All (λ (e : Entry). IsSome e.target) es
targets_some meta f es h j d l =
    let same = get_or_default es j no_entry d l in
    subst (λ (e : Entry). IsSome e.target) same (within_of meta f (entry_at es j).property.0 (entry_at es j).target (h j l)).0

-- each naming is of objects and a property
pub record IsKnownNaming (meta : MetaDesc) (count : ℕ) (n : Naming) : Type 0 where
  pub property : n.property < prop_count meta
  pub object : n.object < count
  pub target : n.target < count

pub namings_known : (meta : MetaDesc) (f : Filed) (xs : List Naming) → MayBeAssembled meta f → AreNamed meta f xs → All (IsKnownNaming meta (length f.ids)) xs
namings_known meta f xs sound named =
    subst (All (IsKnownNaming meta (length f.ids))) (sym named.namings)
    (All-map (IsKnownNaming meta (length f.ids)) naming_of named.entries known)
  where
    known : All (λ e. IsKnownNaming meta (length f.ids) (naming_of e)) named.entries
    known j d l =
        let same = get_or_default named.entries j no_entry d l in
        let e = entry_at named.entries j in
        let good = all_good meta f named.entries sound named.order j no_entry l in
        let count = sound.objects.same in
        let inside = good.reference.object in
        let target = (within_of meta f e.property.0 e.target (named.fit j l)).1 in
        subst (λ (e : Entry). IsKnownNaming meta (length f.ids) (naming_of e)) same
        (record { property = prop_known meta (class_in f.classes e.object).0 e.property.0 good.reference.has; object = omega (arith, count, inside); target = omega (arith, count, target) })

pub known_properties : (meta : MetaDesc) (f : Filed) (xs : List Naming) → MayBeAssembled meta f → AreNamed meta f xs → All (λ (n : Naming). n.property < prop_count meta) xs
known_properties meta f xs sound named = All-weaker (IsKnownNaming meta (length f.ids)) (λ (n : Naming). n.property < prop_count meta) (λ n h. h.property) xs (namings_known meta f xs sound named)

pub known_objects : (meta : MetaDesc) (f : Filed) (xs : List Naming) → MayBeAssembled meta f → AreNamed meta f xs → All (λ (n : Naming). n.object < length f.ids) xs
known_objects meta f xs sound named = All-weaker (IsKnownNaming meta (length f.ids)) (λ (n : Naming). n.object < length f.ids) (λ n h. h.object) xs (namings_known meta f xs sound named)

pub known_targets : (meta : MetaDesc) (f : Filed) (xs : List Naming) → MayBeAssembled meta f → AreNamed meta f xs → All (λ (n : Naming). n.target < length f.ids) xs
known_targets meta f xs sound named = All-weaker (IsKnownNaming meta (length f.ids)) (λ (n : Naming). n.target < length f.ids) (λ n h. h.target) xs (namings_known meta f xs sound named)

pub namings_for : (s : Source) (f : Filed) (xs : List Naming) → IsFiled s f → WellMeta s.meta → MayBeAssembled s.meta f → (named : AreNamed s.meta f xs) → AreNamings s f named.entries xs
namings_for s f xs filed well sound named = record { entries = record { filed = filed; counted = sound.objects.same; order = named.order }; well = well; fit = named.fit; namings = named.namings }

-- ---- objects that are contained twice

second_for : (s : Source) (f : Filed) (xs : List Naming) (i : ℕ) → i < length xs → IsFiled s f → ((fault : ModelFault) (place : ℕ) → StandsAt s fault place → ⊥) → WellMeta s.meta → MayBeAssembled s.meta f
    → AreNamed s.meta f xs → (h : IsSecondWhole s.meta xs i) → ((j : ℕ) → j < i → IsSecondWhole s.meta xs j → ⊥) → (fault : ModelFault) → fault ≡ faults.TwoContainers (listed_id f.ids h.part.part) → IsFirstFault s fault
second_for s f xs i l filed none well sound named h before fault is =
    let a = namings_for s f xs filed well sound named in
    let n = naming_count s f named.entries xs a in
    subst (IsFirstFault s) (sym (is ∙ ap (λ id. faults.TwoContainers id) (id_listed s f filed h.part.part)))
    (second_first s f named.entries xs a (few_objects s f s.meta filed sound) none i (omega (arith, l, n)) h before)

pub second_told : (meta : MetaDesc) (f : Filed) (xs : List Naming) (i : ℕ) (fault : ModelFault) → WellMeta meta → MayBeAssembled meta f → AreNamed meta f xs → i < length xs → (h : IsSecondWhole meta xs i)
    → ((j : ℕ) → j < i → IsSecondWhole meta xs j → ⊥) → ((x : Part) → part_of meta (at xs i) ≡ Some x → fault ≡ faults.TwoContainers (listed_id f.ids x.part)) → IsTold meta f fault
second_told meta f xs i fault well sound named l h before is s k =
    subst (λ m. WellMeta m → MayBeAssembled m f → AreNamed m f xs → (h : IsSecondWhole m xs i) → ((j : ℕ) → j < i → IsSecondWhole m xs j → ⊥) → fault ≡ faults.TwoContainers (listed_id f.ids h.part.part) → IsFirstFault s fault)
    k.meta (λ w so na h b e. second_for s f xs i l k.filed k.none_at w so na h b fault e) well sound named h before (is h.part h.part_is)

-- ---- mismatches

mismatch_for : (s : Source) (f : Filed) (xs : List Naming) (i : ℕ) → i < length xs → IsFiled s f → ((fault : ModelFault) (place : ℕ) → StandsAt s fault place → ⊥) → WellMeta s.meta → MayBeAssembled s.meta f
    → AreNamed s.meta f xs → ((j : ℕ) → j < length xs → IsSecondWhole s.meta xs j → ⊥) → (q : ℕ) → opposite_of s.meta (at xs i).property ≡ Some q
    → is_unanswered s.meta xs (sayings_of xs f.mentions) (at xs i) ≡ true → ((j : ℕ) → j < i → is_unanswered s.meta xs (sayings_of xs f.mentions) (at xs j) ≡ false)
    → (fault : ModelFault) → fault ≡ mismatch_of s.meta f (at xs i) q → IsFirstFault s fault
mismatch_for s f xs i l filed none well sound named single q o u before fault is =
    let a = namings_for s f xs filed well sound named in
    let n = naming_count s f named.entries xs a in
    let twice = none_twice s f named.entries xs a (λ j k. single j (omega (arith, k, n))) in
    subst (IsFirstFault s) (sym (is ∙ (λ j. faults.Mismatch (id_listed s f filed (at xs i).object j) (prop_name s.meta (at xs i).property) (id_listed s f filed (at xs i).target j) (prop_name s.meta q))))
    (mismatch_first s f named.entries xs a (classes_known s.meta f sound) (few_objects s f s.meta filed sound) none twice i (omega (arith, l, n)) q o u before)

pub mismatch_told : (meta : MetaDesc) (f : Filed) (xs : List Naming) (i : ℕ) (fault : ModelFault) → WellMeta meta → MayBeAssembled meta f → AreNamed meta f xs → ((j : ℕ) → j < length xs → IsSecondWhole meta xs j → ⊥)
    → i < length xs → (q : ℕ) → opposite_of meta (at xs i).property ≡ Some q → is_unanswered meta xs (sayings_of xs f.mentions) (at xs i) ≡ true
    → ((j : ℕ) → j < i → is_unanswered meta xs (sayings_of xs f.mentions) (at xs j) ≡ false) → fault ≡ mismatch_of meta f (at xs i) q → IsTold meta f fault
mismatch_told meta f xs i fault well sound named single l q o u before is s k =
    subst (λ m. WellMeta m → MayBeAssembled m f → AreNamed m f xs → ((j : ℕ) → j < length xs → IsSecondWhole m xs j → ⊥) → opposite_of m (at xs i).property ≡ Some q
    → is_unanswered m xs (sayings_of xs f.mentions) (at xs i) ≡ true → ((j : ℕ) → j < i → is_unanswered m xs (sayings_of xs f.mentions) (at xs j) ≡ false) → fault ≡ mismatch_of m f (at xs i) q → IsFirstFault s fault)
    k.meta (λ w so na si op un be e. mismatch_for s f xs i l k.filed k.none_at w so na si q op un be fault e) well sound named single o u before is

pub mismatch_answer : (meta : MetaDesc) (f : Filed) (xs : List Naming) (says : List Saying) (i : ℕ) (fault : ModelFault) → WellMeta meta → MayBeAssembled meta f → AreNamed meta f xs
    → ((j : ℕ) → j < length xs → IsSecondWhole meta xs j → ⊥) → says ≡ sayings_of xs f.mentions → IsFirstUnanswered meta xs says (Some i)
    → ((q : ℕ) → opposite_of meta (at xs i).property ≡ Some q → fault ≡ mismatch_of meta f (at xs i) q) → IsTold meta f fault
mismatch_answer meta f xs says i fault well sound named single e x is = by (opposite_of meta (at xs i).property) refl
  where
    y : IsFirstUnanswered meta xs (sayings_of xs f.mentions) (Some i)
    y = subst (λ ss. IsFirstUnanswered meta xs ss (Some i)) e x

    u : is_unanswered meta xs (sayings_of xs f.mentions) (at xs i) ≡ true
    u = y.1 (naming 0 0 0)

    before : (j : ℕ) → j < i → is_unanswered meta xs (sayings_of xs f.mentions) (at xs j) ≡ false
    before j l =
        let within = y.0 in
        let n = length-take-le i xs (omega (arith, within)) in
        subst (λ m. is_unanswered meta xs (sayings_of xs f.mentions) m ≡ false) (get_or-take i xs j (naming 0 0 0) l) (y.2 j (naming 0 0 0) (omega (arith, n, l)))

    by : (o : Option ℕ) → opposite_of meta (at xs i).property ≡ o → IsTold meta f fault
    by None o = absurd (true≢false (sym u ∙ ap (is_unanswered_at xs (sayings_of xs f.mentions) (at xs i)) o))
    by (Some q) o = mismatch_told meta f xs i fault well sound named single y.0 q o u before (is q o)

pub none_unanswered : (meta : MetaDesc) (f : Filed) (xs : List Naming) (says : List Saying) → says ≡ sayings_of xs f.mentions → All (λ n. is_unanswered meta xs says n ≡ false) xs
    → (j : ℕ) → j < length xs → is_unanswered meta xs (sayings_of xs f.mentions) (at xs j) ≡ false
none_unanswered meta f xs says e h j l = subst (λ ss. is_unanswered meta xs ss (at xs j) ≡ false) e (h j (naming 0 0 0) l)
