-- The objects of bytes, and the first fault that stands at a place.
use Rattle.std.proofs.Common.{◌≡◌, ℕ, ◌≤◌, ◌<◌, Bool, true, false, List, [], ◌∷◌, map, length, refl, sym, ◌∙◌, ap, subst, None, Some, Ok, Err}
use Rattle.std.specs.Prelude.{All, Option, Result, nat_lt, if◌then◌else◌}
use Rattle.std.proofs.lemmas.Bool.{ltb-true, ltb-false}
use Rattle.std.proofs.lemmas.List.Elements.{All-nil, All-cons, All-head, All-tail}
use Rattle.mof_metamodel.specs.declared.desc.MetaDesc.{MetaDesc}
use Rattle.object_tables.specs.declared.limit.TheConstants.{MAX_OBJECTS}
use Rattle.mof_metamodel.specs.Giving.{Gives}
use Rattle.mof_metamodel.specs.NameTables.{NamesWith, value_of}
use Rattle.object_tables.specs.declared.limit.LimitKind.TheVariants as limits
use Rattle.xmi_text.specs.Faults as markup
use Rattle.xmi_text.specs.Markup.{Markup}
use Rattle.xmi_text.specs.Reading.{marks_of, end_fault_of}
use Rattle.xmi_text.specs.Trees.{Tree, told as told_marks}
use Rattle.xmi_text.specs.declared.error.TextError.{TextError}
use Rattle.xmi_text.specs.declared.error.TextError.TheVariants as texts
use Rattle.xmi_text.specs.declared.error.TextFault.{TextFault}
use Rattle.xmi_text.proofs.backward.Whole.{whole_markup}
use Rattle.xmi_text.proofs.faults.FirstFault.{told_first}
use Rattle.xmi_profile.specs.declared.element.Element.{Element}
use Rattle.model_assembly.specs.declared.fault.Externs.{Externs}
use Rattle.model_assembly.specs.declared.fault.ModelFault.{ModelFault}
use Rattle.model_assembly.specs.declared.fault.ModelFault.TheVariants as faults
use Rattle.xmi_profile.specs.declared.objects.Objects.{Objects}
use Rattle.xmi_profile.specs.declared.fault.XmiError.{XmiError}
use Rattle.xmi_profile.specs.declared.fault.XmiError.TheVariants as errors
use Rattle.xmi_profile.specs.Bytes.{listing_of, unless_fault, error_of, text_fault}
use Rattle.model_assembly.specs.Elements.{Item}
use Rattle.model_assembly.specs.Faults.{StandsAt}
use Rattle.model_assembly.specs.FirstFault.{IsFirstAt, IsFirstFault}
use Rattle.xmi_profile.specs.Firsts.{FirstIn, IsFound}
use Rattle.xmi_profile.specs.Judging.{Found, first_of, first_fault}
use Rattle.xmi_profile.specs.Known.{AreObjects, Answers, ReadsObjects, fault_in, fault_of, told, judged, with_listing, unless_fault as unless_told}
use Rattle.xmi_profile.specs.Listing.{Listing, AreKnown, element_of, listed, nothing}
use Rattle.xmi_profile.specs.Numbering.{Numbers, no_numbers, numbered, all_numbered}
use Rattle.xmi_profile.specs.Reads.{source_of, IsRefused}
use Rattle.xmi_profile.specs.Scanning.{IsWithin}
use Rattle.model_assembly.specs.Source.{Source, all_items, all_ids, object_count}
use Rattle.xmi_profile.proofs.ExternLaws.{numbers_of_all}
use Rattle.xmi_profile.proofs.FaultLaws.{all_first}
use Rattle.xmi_profile.proofs.ListedDocuments.{listed_document}
use Rattle.xmi_profile.proofs.NumberingLaws.{numbers_of}
use Rattle.xmi_profile.proofs.SeenLaws.{element_kept}

-- ---- bytes

no_error : {X E : Type 0} (x : X) (e : E) → Ok x ≡ Err e → ⊥
no_error x e h = cc

abbrev listed_ok : Listing → Result Listing TextFault
listed_ok l = Ok l

abbrev listed_err : TextFault → Result Listing TextFault
listed_err e = Err e

abbrev ok_or : Listing → Result Listing TextFault → Listing
ok_or d (Ok l) = l
ok_or d (Err e) = d

abbrev err_or : TextFault → Result Listing TextFault → TextFault
err_or d (Ok l) = d
err_or d (Err e) = e

same_ok : (x y : Listing) → listed_ok x ≡ listed_ok y → x ≡ y
same_ok x y h = ap (ok_or x) h

same_err : (e f : TextFault) → listed_err e ≡ listed_err f → e ≡ f
same_err e f h = ap (err_or e) h

pub text_first : (meta : MetaDesc) (outside : Externs) (bytes : List ℕ) (fault : TextFault) → listing_of meta outside bytes ≡ Err fault → markup.IsFirstFault bytes fault
text_first meta outside bytes fault h = by (end_fault_of bytes) refl h
  where
    by : (o : Option TextFault) → end_fault_of bytes ≡ o → unless_fault o (listed meta outside nothing (told_marks (marks_of bytes))) ≡ Err fault → markup.IsFirstFault bytes fault
    by None e k = absurd (no_error (listed meta outside nothing (told_marks (marks_of bytes))) fault k)
    by (Some f) e k = told_first bytes fault (e ∙ ap (λ (g : TextFault). Some g) (same_err f fault k))

-- a document of these elements
pub record IsListed (meta : MetaDesc) (outside : Externs) (bytes : List ℕ) (elements : List Element) : Type 0 where
  pub tree : Tree
  pub markup : Markup bytes tree
  pub elements_are : elements ≡ map element_of (all_items (source_of meta outside tree))

pub listed_bytes : (meta : MetaDesc) (outside : Externs) (bytes : List ℕ) (l : Listing) → listing_of meta outside bytes ≡ Ok l → IsListed meta outside bytes l.elements
listed_bytes meta outside bytes l h = by (end_fault_of bytes) refl h
  where
    by : (o : Option TextFault) → end_fault_of bytes ≡ o → unless_fault o (listed meta outside nothing (told_marks (marks_of bytes))) ≡ Ok l → IsListed meta outside bytes l.elements
    by (Some f) e k = absurd (no_error l f (sym k))
    by None e k =
        let t = whole_markup bytes e in
        let d = listed_document meta outside bytes t.0 t.1 in
        record { tree = t.0; markup = t.1; elements_are = ap (λ (x : Listing). x.elements) (same_ok l d.0 (sym h ∙ d.1)) ∙ d.2 }

-- ---- elements

items_within : (s : Source) (items : List Item) → All (λ (e : Element). IsWithin s.meta e.role) (map element_of items) → All (λ (item : Item). IsWithin s.meta item.role) items
items_within s [] a = All-nil (λ (item : Item). IsWithin s.meta item.role)
items_within s (item ∷ items) a =
    let P : Element → Type 0 = λ e. IsWithin s.meta e.role in
    All-cons (λ (i : Item). IsWithin s.meta i.role) item items
    (subst (λ (e : Element). IsWithin s.meta e.role) (element_kept item) (All-head P (element_of item) (map element_of items) a))
    (items_within s items (All-tail P (element_of item) (map element_of items) a))

-- ---- the fault that is told

found_first : (s : Source) (found : Found) → object_count s ≤ MAX_OBJECTS → IsFound (StandsAt s) found → IsFirstAt s found.fault
found_first s found few f = record { fewer = few; place = found.place; stands = f.stands; first = f.first }

is_first : (s : Source) (g : ModelFault) (place : ℕ) → StandsAt s g place → IsFirstAt s g → IsFirstFault s g
is_first s (faults.UnknownClass name) place x f = f
is_first s (faults.UnknownProperty id prop) place x f = f
is_first s (faults.WrongValue id prop) place x f = f
is_first s (faults.DuplicateId id) place x f = f
is_first s (faults.Dangling id prop reference) place x f = absurd x
is_first s (faults.TwoContainers id) place x f = absurd x
is_first s (faults.Mismatch id prop other other_prop) place x f = absurd x
is_first s (faults.Invalid breach id) place x f = absurd x
is_first s (faults.Limit kind) place x f = absurd x

-- classes and properties of elements are those of the metamodel
abbrev pub AreWithin : MetaDesc → List Element → Type 0
AreWithin meta es = All (λ (e : Element). IsWithin meta e.role) es

-- what is told of a source, or is not
abbrev Tells : Source → Option ModelFault → Type 0
Tells s None = (object_count s ≤ MAX_OBJECTS) × ((fault : ModelFault) (place : ℕ) → ¬ StandsAt s fault place)
Tells s (Some fault) = IsFirstFault s fault

tells_found : (s : Source) (found : Option Found) → object_count s ≤ MAX_OBJECTS → FirstIn (StandsAt s) found → Tells s (fault_in found)
tells_found s None few f = (few, f)
tells_found s (Some found) few f = is_first s found.fault found.place f.stands (found_first s found few f)

tells : (s : Source) (n : Numbers) (found : Option Found) → n.ids ≡ all_ids s → FirstIn (StandsAt s) found → Tells s (told n found)
tells s n found e f = by (nat_lt MAX_OBJECTS (length n.ids)) refl
  where
    by : (b : Bool) → nat_lt MAX_OBJECTS (length n.ids) ≡ b → Tells s (if b then Some (faults.Limit limits.Objects) else fault_in found)
    by true h = subst (λ (ids : List (List ℕ)). MAX_OBJECTS < length ids) e (ltb-true MAX_OBJECTS (length n.ids) h)
    by false h = tells_found s found (subst (λ (ids : List (List ℕ)). length ids ≤ MAX_OBJECTS) e (ltb-false MAX_OBJECTS (length n.ids) h)) f

tells_of : (s : Source) → AreWithin s.meta (map element_of (all_items s)) → Tells s (fault_of s.meta (map element_of (all_items s)))
tells_of s k =
    let es : List Element = map element_of (all_items s) in
    let n = numbers_of_all s in
    let f = numbers_of s in
    tells s (all_numbered s.meta es) (first_of (all_numbered s.meta es).repeated (first_fault s.meta (numbered no_numbers es).ids None es)) n.ids
    (subst (λ (ids : List (List ℕ)). FirstIn (StandsAt s) (first_of (all_numbered s.meta es).repeated (first_fault s.meta ids None es))) (sym f.ids)
    (all_first s (all_numbered s.meta es).repeated n.repeated (items_within s (all_items s) k)))

pub refused_of : (meta : MetaDesc) (outside : Externs) (bytes : List ℕ) (l : Listing) (fault : ModelFault) → listing_of meta outside bytes ≡ Ok l → AreWithin meta l.elements
    → fault_of meta l.elements ≡ Some fault → IsRefused meta outside bytes fault
refused_of meta outside bytes l fault h k t =
    let d = listed_bytes meta outside bytes l h in
    let s : Source = source_of meta outside d.tree in
    let e = d.elements_are in
    record {
      tree = d.tree;
      markup = d.markup;
      first = subst (λ (o : Option ModelFault). Tells s o) (sym (ap (fault_of meta) e) ∙ t) (tells_of s (subst (AreWithin meta) e k));
    }

pub objects_of : (meta : MetaDesc) (outside : Externs) (bytes : List ℕ) (l : Listing) (objects : Objects) → listing_of meta outside bytes ≡ Ok l → AreWithin meta l.elements
    → fault_of meta l.elements ≡ None → objects.listing ≡ l → objects.numbers.ids ≡ (all_numbered meta l.elements).ids → objects.numbers.names ≡ (all_numbered meta l.elements).names
    → AreObjects meta outside bytes objects
objects_of meta outside bytes l objects h k t il ii inn =
    let d = listed_bytes meta outside bytes l h in
    let s : Source = source_of meta outside d.tree in
    let e = d.elements_are in
    let n = numbers_of_all s in
    let r = subst (λ (o : Option ModelFault). Tells s o) (sym (ap (fault_of meta) e) ∙ t) (tells_of s (subst (AreWithin meta) e k)) in
    record {
      tree = d.tree;
      markup = d.markup;
      elements = ap (λ (x : Listing). x.elements) il ∙ e;
      ids = ii ∙ ap (λ (es : List Element). (all_numbered meta es).ids) e ∙ n.ids;
      names = λ id. ap (λ (ns : NamesWith ℕ). value_of ns id) (inn ∙ ap (λ (es : List Element). (all_numbered meta es).names) e) ∙ n.names id;
      fewer = r.0;
      within = subst (λ (x : Listing). AreWithin meta x.elements) (sym il) k;
      none_at = r.1;
    }

-- ---- the answer

pub is_answer : {X : Type 0} (r meaning : Result X XmiError) → r ≡ meaning → Answers r meaning
is_answer (Ok x) meaning e = e
is_answer (Err (errors.Text fault)) meaning e = e
is_answer (Err (errors.Content fault)) meaning e = e
is_answer (Err errors.NoMemory) meaning e = tt

pub with_answer : (l : Listing) (r meaning : Result Numbers XmiError) → Answers r meaning → Answers (with_listing l r) (with_listing l meaning)
with_answer l (Ok n) meaning e = ap (with_listing l) e
with_answer l (Err (errors.Text fault)) meaning e = ap (with_listing l) e
with_answer l (Err (errors.Content fault)) meaning e = ap (with_listing l) e
with_answer l (Err errors.NoMemory) meaning e = tt

abbrev pub judged_objects : MetaDesc → Listing → Result Objects XmiError
judged_objects meta l = with_listing l (judged meta l.elements)

pub judged_reads : (meta : MetaDesc) (outside : Externs) (bytes : List ℕ) (l : Listing) → listing_of meta outside bytes ≡ Ok l → AreWithin meta l.elements
    → ReadsObjects meta outside bytes (judged_objects meta l)
judged_reads meta outside bytes l h k = by (fault_of meta l.elements) refl
  where
    by : (f : Option ModelFault) → fault_of meta l.elements ≡ f
        → ReadsObjects meta outside bytes (with_listing l (unless_told (record (all_numbered meta l.elements) { repeated = None }) f))
    by None e = objects_of meta outside bytes l (record { listing = l; numbers = record (all_numbered meta l.elements) { repeated = None } }) h k e refl refl refl
    by (Some fault) e = refused_of meta outside bytes l fault h k e

pub reads_judged : (meta : MetaDesc) (outside : Externs) (bytes : List ℕ) (l : Listing) → listing_of meta outside bytes ≡ Ok l → AreKnown meta l.elements
    → (r : Result Objects XmiError) → Answers r (with_listing l (judged meta l.elements)) → ReadsObjects meta outside bytes r
reads_judged meta outside bytes l h k (Ok objects) a = subst (λ (r : Result Objects XmiError). ReadsObjects meta outside bytes r) (sym a) (judged_reads meta outside bytes l h k.within)
reads_judged meta outside bytes l h k (Err (errors.Text fault)) a = subst (λ (r : Result Objects XmiError). ReadsObjects meta outside bytes r) (sym a) (judged_reads meta outside bytes l h k.within)
reads_judged meta outside bytes l h k (Err (errors.Content fault)) a = subst (λ (r : Result Objects XmiError). ReadsObjects meta outside bytes r) (sym a) (judged_reads meta outside bytes l h k.within)
reads_judged meta outside bytes l h k (Err errors.NoMemory) a = tt

pub reads_text : (meta : MetaDesc) (outside : Externs) (bytes : List ℕ) (e : TextError) → Gives text_fault (λ (l : Listing). l) (Err e) (listing_of meta outside bytes)
    → ReadsObjects meta outside bytes (Err (error_of e))
reads_text meta outside bytes (texts.Fault fault) g = text_first meta outside bytes fault g
reads_text meta outside bytes texts.NoMemory g = tt
