-- The partners of a model that was made of what a file names stand as each source that writes it has them.
use Rattle.std.proofs.Common.{◌≡◌, ℕ, Bool, true, false, cond, List, [], ◌∷◌, map, refl, sym, ◌∙◌, ap, subst, Option, true≢false}
use Rattle.std.specs.Prelude.{◌==◌, ◌&&◌, nat_eq, All, Contains}
use Rattle.std.specs.List.{filter, filter_map, cons_option, list_any}
use Rattle.std.specs.Cmp.{both_ways}
use Rattle.std.proofs.lemmas.Bool.{eqb-true, eq-eqb, and_parts, and_from, or_left}
use Rattle.std.proofs.lemmas.List.Elements.{All-head, All-tail}
use Rattle.mof_metamodel.specs.declared.desc.MetaDesc.{MetaDesc}
use Rattle.mof_metamodel.specs.Metamodels.{props_of, united}
use Rattle.object_tables.specs.Models.{ModelData, partners_at, index_of, slot_number}
use Rattle.object_tables.proofs.ModelLemmas.{index-within, index-same}
use Rattle.model_assembly.specs.declared.filed.Filed.{Filed}
use Rattle.model_assembly.specs.declared.assembly.entry.Entry.{Entry}
use Rattle.model_assembly.specs.declared.assembly.naming.Naming.{Naming}
use Rattle.model_assembly.specs.AssemblyEntries.{class_in, is_entry_at, no_entry}
use Rattle.model_assembly.specs.AssemblyFirsts.{same_naming, same_saying}
use Rattle.model_assembly.specs.AssemblyModels.{IsOrderedModel}
use Rattle.model_assembly.specs.AssemblyNamings.{naming, naming_of, saying, sayings_of, at}
use Rattle.model_assembly.specs.AssemblyOrders.{targets, distinct_targets, IsUnnamed}
use Rattle.model_assembly.specs.AssemblyReferences.{MayBeAssembled, AreAnswered, IsSourceOf}
use Rattle.model_assembly.specs.Filed.{IsFiled, IsReferenceIn}
use Rattle.model_assembly.specs.Links.{AreOrdered, speaks}
use Rattle.model_assembly.specs.Source.{Source, is_at, named_at, targets_at}
use Rattle.model_assembly.proofs.assembling.ListLaws.{any_contains}
use Rattle.model_assembly.proofs.assembling.MismatchLaws.{speaks_listed}
use Rattle.model_assembly.proofs.assembling.NameLaws.{IsFit, targets_told, entries_told_of}
use Rattle.model_assembly.proofs.assembling.OrderedLaws.{AreOrderly, orderly, pair_named, says_there}
use Rattle.model_assembly.proofs.assembling.PartLaws.{AreNamings, target_fit}
use Rattle.model_assembly.proofs.assembling.SpotLaws.{told_same, reference_listed, entry_good}
use Rattle.model_assembly.proofs.assembling.TargetLaws.{distinct_has}
use Rattle.model_assembly.proofs.assembling.ToldLaws.{namings_for}

-- an entry stands at the place of a property where it stands at the property
entry_is_at : (s : Source) (f : Filed) (o p : ℕ) (e : Entry) → Contains (props_of s.meta (class_in f.classes o).0) p → IsFit s f e
    → is_entry_at o (slot_number s.meta (class_in f.classes o).0 p) e ≡ is_at o p e.object e.property.0
entry_is_at s f o p e has h = both_ways (is_entry_at o k e) (is_at o p e.object e.property.0) there back
  where
    props : List ℕ
    props = props_of s.meta (class_in f.classes o).0

    k : ℕ
    k = index_of props p

    there : is_entry_at o k e ≡ true → is_at o p e.object e.property.0 ≡ true
    there t =
        let parts = and_parts (e.object == o) (e.place == k) t in
        let same : e.object ≡ o = eqb-true e.object o parts.0 in
        let inside : Contains props e.property.0 = subst (λ z. Contains (props_of s.meta (class_in f.classes z).0) e.property.0) same h.good.reference.has in
        let place : index_of props e.property.0 ≡ k = sym (ap (λ z. index_of (props_of s.meta (class_in f.classes z).0) e.property.0) same) ∙ sym h.good.place ∙ eqb-true e.place k parts.1 in
        let property : e.property.0 ≡ p = index-same props e.property.0 p (index-within props e.property.0 inside) (index-within props p has) place in
        and_from (e.object == o) (e.property.0 == p) parts.0 (eq-eqb e.property.0 p property)

    back : is_at o p e.object e.property.0 ≡ true → is_entry_at o k e ≡ true
    back t =
        let parts = and_parts (e.object == o) (e.property.0 == p) t in
        let same : e.object ≡ o = eqb-true e.object o parts.0 in
        let property : e.property.0 ≡ p = eqb-true e.property.0 p parts.1 in
        and_from (e.object == o) (e.place == k) parts.0 (eq-eqb e.place k (h.good.place ∙ (λ i. index_of (props_of s.meta (class_in f.classes (same i)).0) (property i))))

targets_fit : (s : Source) (f : Filed) (o p : ℕ) → Contains (props_of s.meta (class_in f.classes o).0) p → (es : List Entry) → All (IsFit s f) es
    → filter_map (λ (e : Entry). e.target) (filter (is_entry_at o (slot_number s.meta (class_in f.classes o).0 p)) es) ≡ targets o p (map naming_of es)
targets_fit s f o p has [] h = refl
targets_fit s f o p has (e ∷ es) h =
    ap (λ b. filter_map target (cond b (e ∷ rest) rest)) (entry_is_at s f o p e has (All-head (IsFit s f) e es h))
    ∙ by (is_at o p e.object e.property.0) (targets_fit s f o p has es (All-tail (IsFit s f) e es h))
  where
    target : Entry → Option ℕ
    target e = e.target

    rest : List Entry
    rest = filter (is_entry_at o (slot_number s.meta (class_in f.classes o).0 p)) es

    by : (b : Bool) → filter_map target rest ≡ targets o p (map naming_of es)
        → filter_map target (cond b (e ∷ rest) rest) ≡ cond b ((naming_of e).target ∷ targets o p (map naming_of es)) (targets o p (map naming_of es))
    by true more = ap (λ t. cons_option t (filter_map target rest)) (target_fit s f e.property.0 e.target (All-head (IsFit s f) e es h).fit) ∙ ap (λ ts. (naming_of e).target ∷ ts) more
    by false more = more

-- what an object names is what the namings say
named_listed : (s : Source) (f : Filed) (es : List Entry) (xs : List Naming) → AreNamings s f es xs → (o p : ℕ) → IsReferenceIn s o p → named_at s o p ≡ distinct_targets xs o p
named_listed s f es xs a o p r = ap (united []) (
    targets_told s (targets_at s o p)
    ∙ sym (ap (filter_map (λ (t : Option ℕ × List ℕ). t.0)) (told_same s f es a.entries o p r))
    ∙ entries_told_of f (filter (is_entry_at o (slot_number s.meta (class_in f.classes o).0 p)) es)
    ∙ targets_fit s f o p (reference_listed s f a.entries.filed o p r).has es fits
    ∙ sym (ap (targets o p) a.namings))
  where
    fits : All (IsFit s f) es
    fits k d l =
        let e = Rattle.std.proofs.lemmas.List.get_or_default es k no_entry d l in
        subst (IsFit s f) e (record { good = entry_good s f es a.entries k l; fit = a.fit k l })

-- a list that has no number is empty
nothing : (xs : List ℕ) → ((q : ℕ) → list_any (nat_eq q) xs ≡ true → ⊥) → xs ≡ []
nothing [] h = refl
nothing (x ∷ xs) h = absurd (h x (or_left (nat_eq x x) (list_any (nat_eq x) xs) (eq-eqb x x refl)))

ordered_in : (s : Source) (f : Filed) (xs : List Naming) (m : ModelData) → IsFiled s f → MayBeAssembled s.meta f → (answered : AreAnswered s.meta f xs) → IsOrderedModel s.meta f xs m → AreNamings s f answered.named.entries xs
    → (o p : ℕ) → IsReferenceIn s o p → AreOrdered s m o p
ordered_in s f xs m filed sound answered h a o p r = (there, λ quiet. h.linked.by_number o p (unnamed quiet))
  where
    start : ModelData
    start = h.linked.start

    of : AreOrderly start xs f.mentions
    of = orderly s.meta f xs start sound answered h.linked.values

    heard : speaks s o p ≡ list_any (same_saying (saying o p)) (sayings_of xs f.mentions)
    heard = speaks_listed s f answered.named.entries xs a o p r

    -- where it doesn't speak, nothing is named
    unnamed : speaks s o p ≡ false → IsUnnamed xs o p
    unnamed quiet i l = by (is_at o p (at xs i).object (at xs i).property) refl
      where
        by : (b : Bool) → is_at o p (at xs i).object (at xs i).property ≡ b → is_at o p (at xs i).object (at xs i).property ≡ false
        by false e = e
        by true e =
            let x = and_parts ((at xs i).object == o) ((at xs i).property == p) e in
            let object : (at xs i).object ≡ o = eqb-true (at xs i).object o x.0 in
            let property : (at xs i).property ≡ p = eqb-true (at xs i).property p x.1 in
            absurd (true≢false (sym ((λ k. list_any (same_saying (saying (sym object k) (sym property k))) (sayings_of xs f.mentions)) ∙ says_there xs f.mentions i l) ∙ sym heard ∙ quiet))

    order : speaks s o p ≡ true → (b : Bool) → list_any (λ (n : Naming). is_at o p n.object n.property) xs ≡ b → partners_at m o p ≡ distinct_targets xs o p
    order loud true t =
        let found = any_contains (λ (n : Naming). is_at o p n.object n.property) xs t in
        let j = found.1.0 in
        let same : at xs j ≡ found.0 = Rattle.std.proofs.lemmas.List.get_or_default xs j (naming 0 0 0) found.0 found.1.1 ∙ found.1.2 in
        let x = and_parts (found.0.object == o) (found.0.property == p) found.2 in
        let object : (at xs j).object ≡ o = ap (λ (n : Naming). n.object) same ∙ eqb-true found.0.object o x.0 in
        let property : (at xs j).property ≡ p = ap (λ (n : Naming). n.property) same ∙ eqb-true found.0.property p x.1 in
        (λ k. partners_at m (sym object k) (sym property k)) ∙ h.orders j found.1.1 ∙ (λ k. distinct_targets xs (object k) (property k))
    order loud false t = nothing (partners_at m o p) (λ q e. none q (pair_named start m xs f.mentions of h.linked.links o p q (sym heard ∙ loud) e)) ∙ sym (nothing (distinct_targets xs o p) (λ q e. none q (sym (distinct_has xs o p q) ∙ e)))
      where
        none : (q : ℕ) → list_any (same_naming (naming o p q)) xs ≡ true → ⊥
        none q e =
            let found = any_contains (same_naming (naming o p q)) xs e in
            let x = and_parts (o == found.0.object) ((p == found.0.property) && (q == found.0.target)) found.2 in
            let y = and_parts (p == found.0.property) (q == found.0.target) x.1 in
            let here : is_at o p found.0.object found.0.property ≡ true =
            and_from (found.0.object == o) (found.0.property == p) (eq-eqb found.0.object o (sym (eqb-true o found.0.object x.0))) (eq-eqb found.0.property p (sym (eqb-true p found.0.property y.0))) in
            true≢false (sym (Rattle.model_assembly.proofs.assembling.ListLaws.contains_any (λ (n : Naming). is_at o p n.object n.property) xs found.0 found.1 here) ∙ t)

    there : speaks s o p ≡ true → partners_at m o p ≡ named_at s o p
    there loud = order loud (list_any (λ (n : Naming). is_at o p n.object n.property) xs) refl ∙ sym (named_listed s f answered.named.entries xs a o p r)

-- for each source that writes this
pub source_ordered : (meta : MetaDesc) (f : Filed) (xs : List Naming) (m : ModelData) → MayBeAssembled meta f → AreAnswered meta f xs → IsOrderedModel meta f xs m → (s : Source) → IsSourceOf s meta f
    → (o p : ℕ) → IsReferenceIn s o p → AreOrdered s m o p
source_ordered meta f xs m sound answered h s of = ordered_in s f xs m of.filed sound' answered' h' (namings_for s f xs of.filed well sound' answered'.named)
  where
    sound' : MayBeAssembled s.meta f
    sound' = subst (λ d. MayBeAssembled d f) (sym of.meta) sound

    answered' : AreAnswered s.meta f xs
    answered' = subst (λ d. AreAnswered d f xs) (sym of.meta) answered

    h' : IsOrderedModel s.meta f xs m
    h' = subst (λ d. IsOrderedModel d f xs m) (sym of.meta) h

    well : Rattle.mof_metamodel.specs.WellMeta.WellMeta s.meta
    well = subst Rattle.mof_metamodel.specs.WellMeta.WellMeta (h'.linked.links.meta ∙ h'.linked.values.meta) h'.linked.links.kept.well
