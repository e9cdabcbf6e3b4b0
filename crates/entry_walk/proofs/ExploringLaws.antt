-- A call is explored by the values of its roots: what is found are its entries, or one of them that is unmet.
use Rattle.std.specs.Prelude.{◌≡◌, ◌<◌, ℕ, zero, suc, true, Option, None, Some, List, [], ◌∷◌, map, length, replicate, slice_get, slice_set, All}
use Rattle.std.specs.Option.{option_map}
use Rattle.std.proofs.Common.{refl, sym, ap, subst, ◌∙◌, arith, get_or}
use Rattle.std.proofs.lemmas.List.{map-set}
use Rattle.std.proofs.lemmas.Option.{slice_get-get_or}
use Rattle.std.proofs.lemmas.List.Elements.{All-head, All-tail, All-set}
use Rattle.mof_metamodel.specs.declared.desc.MetaDesc.{MetaDesc}
use Rattle.object_tables.specs.Models.{ModelData}
use Rattle.qv_syntax.specs.declared.program.Program.{Program}
use Rattle.qv_syntax.specs.declared.program.Rel.{Rel}
use Rattle.qv_syntax.specs.declared.program.Dom.{Dom}
use Rattle.qv_syntax.specs.WellFormed.{IsWellFormed}
use Rattle.repair_semantics.specs.declared.term.Term.{Term}
use Rattle.repair_semantics.specs.declared.entry.Entry.{Entry}
use Rattle.repair_semantics.specs.declared.entry.EntryName.{EntryName}
use Rattle.repair_semantics.specs.EntryValues.{TermValues, known, with_roots, root_values}
use Rattle.repair_semantics.specs.Entries.{calls_in, entry_of}
use Rattle.source_laws.proofs.RootLaws.{same_called}
use Rattle.reading_laws.proofs.EntryTime.{called_rooted}
use Rattle.term_table.specs.declared.numbered.NumberedValue.{NumberedValue}
use Rattle.term_table.specs.TermTables.{value_in, values_in, IsWithin}
use Rattle.entry_making.specs.declared.numbered_call.NumberedCall.{NumberedCall}
use Rattle.entry_making.specs.Numbered.{IsValueWithin}
use Rattle.entry_making.specs.CallNumbers.{with_numbers, call_of}
use Rattle.entry_bindings.specs.Matches.{AreNamesOf, names_in}
use Rattle.entry_bindings.specs.Asked.{AreWithin, IsEntryBinding}
use Rattle.entry_bindings.proofs.MatchLaws.{matched, among_matched}
use Rattle.entry_finding.specs.declared.found.Found.{Found}
use Rattle.entry_finding.specs.declared.found.UnmetEntry.{UnmetEntry}
use Rattle.entry_finding.specs.declared.found.Finding.{Finding}
use Rattle.entry_finding.specs.declared.found.Finding.TheVariants as findings
use Rattle.entry_finding.specs.Found.{entry_in, entries_in, IfMet, IfUnmet, IsEntryAmong, AreFound, IsUnmetAmong}
use Rattle.entry_finding.proofs.GrownLaws.{numbers_within}
use Rattle.entry_tops.specs.declared.tops.Tops.{Tops}
use Rattle.entry_tops.specs.Tops.{AreTopsFound}
use Rattle.entry_walk.specs.Walks.{IsOfCall}
use Rattle.entry_walk.specs.Explored.{IsMade, IsExplored, IsUnmetOf}

-- ---- the values of the roots

none_within : (terms : List Term) (n : ℕ) → All (IsValueWithin terms) (replicate n None)
none_within terms zero k d less = absurd (omega (arith, less))
none_within terms (suc n) zero d less = tt
none_within terms (suc n) (suc k) d less = none_within terms n k d (omega (arith, less))

numbers_put : (terms : List Term) (b : List (Option NumberedValue)) (doms : List Dom) (xs : List NumberedValue) → All (IsValueWithin terms) b → All (IsWithin terms) xs
    → All (IsValueWithin terms) (with_numbers b doms xs)
numbers_put terms b [] xs within all = within
numbers_put terms b (dom ∷ doms) [] within all = within
numbers_put terms b (dom ∷ doms) (x ∷ xs) within all =
    numbers_put terms (slice_set b dom.root (Some x)) doms xs (All-set (IsValueWithin terms) b dom.root (Some x) (All-head (IsWithin terms) x xs all) within) (All-tail (IsWithin terms) x xs all)

pub roots_within : (terms : List Term) (rel : Rel) (xs : List NumberedValue) → All (IsWithin terms) xs → AreWithin terms (with_numbers (replicate (length rel.vars) None) rel.domains xs)
roots_within terms rel xs all = numbers_within terms (with_numbers (replicate (length rel.vars) None) rel.domains xs) (numbers_put terms (replicate (length rel.vars) None) rel.domains xs (none_within terms (length rel.vars)) all)

with_shown : (terms : List Term) (b : List (Option NumberedValue)) (doms : List Dom) (xs : List NumberedValue) → values_in terms (with_numbers b doms xs) ≡ with_roots (values_in terms b) doms (map (value_in terms) xs)
with_shown terms b [] xs = refl
with_shown terms b (dom ∷ doms) [] = refl
with_shown terms b (dom ∷ doms) (x ∷ xs) =
    with_shown terms (slice_set b dom.root (Some x)) doms xs
    ∙ ap (λ (c : TermValues). with_roots c doms (map (value_in terms) xs)) (map-set (option_map (value_in terms)) b dom.root (Some x))

none_shown : (terms : List Term) (n : ℕ) → values_in terms (replicate n None) ≡ replicate n None
none_shown terms zero = refl
none_shown terms (suc n) = ap (λ (xs : TermValues). None ∷ xs) (none_shown terms n)

pub roots_shown : (terms : List Term) (rel : Rel) (xs : List NumberedValue) → values_in terms (with_numbers (replicate (length rel.vars) None) rel.domains xs) ≡ root_values rel (map (value_in terms) xs)
roots_shown terms rel xs =
    with_shown terms (replicate (length rel.vars) None) rel.domains xs ∙ ap (λ (b : TermValues). with_roots b rel.domains (map (value_in terms) xs)) (none_shown terms (length rel.vars))

-- ---- the entries

module _ (program : Program) (models : List ModelData) (names : List EntryName) (tops : List Entry) (are : AreNamesOf program names tops) (c : EntryName) (rel : Rel) (found : slice_get program.rels c.rel ≡ Some rel) where
  pub of_among : (e : Entry) → IsEntryAmong program models names c.rel true (root_values rel c.roots) e → IsOfCall program models tops c e
  of_among e a =
      let same : a.rel ≡ rel = same_called a.rel rel (sym a.found ∙ found) in
      let b : IsEntryBinding program models rel names (root_values rel c.roots) e.values = subst (λ (r : Rel). IsEntryBinding program models r names (root_values rel c.roots) e.values) same a.binding in
      let m = matched program names tops are (calls_in program models (known e.values) rel.whens) b.whens in
      record {
        rel = rel;
        found = found;
        matches = m.0;
        is = record { source = b.source; whens = m.1; is = a.is ∙ ap (λ (r : Rel). entry_of program models c.rel r true e.values) same };
        among = m.2;
      }

  pub among_of : (e : Entry) → IsOfCall program models tops c e → IsEntryAmong program models names c.rel true (root_values rel c.roots) e
  among_of e of =
      let same : of.rel ≡ rel = same_called of.rel rel (sym of.found ∙ found) in
      subst (λ (r : Rel). IsEntryAmong program models names c.rel true (root_values r c.roots) e) same
      (record {
        rel = of.rel;
        found = of.found;
        binding = record { source = (of.is).source; whens = among_matched program names tops are (calls_in program models (known e.values) (of.rel).whens) of.matches (of.is).whens of.among };
        is = (of.is).is;
      })

-- ---- what is found

module _ (program : Program) (models : List ModelData) (terms : List Term) (tops : Tops) (t : AreTopsFound program models terms tops) (c : NumberedCall) (rel : Rel) (found : slice_get program.rels c.rel ≡ Some rel)
    (roots : TermValues) (are : roots ≡ root_values rel (call_of terms c).roots) where
  pub explored_by : (f : Found) → AreFound program models terms (names_in terms tops.matches) c.rel true roots f → IsExplored program models terms tops c f
  explored_by f is = record {
    exact = λ e. (
      λ there. of_among program models (names_in terms tops.matches) (entries_in terms tops.entries) t.names (call_of terms c) rel found e
          (subst (λ rs. IsEntryAmong program models (names_in terms tops.matches) c.rel true rs e) are ((is.exact e).0 there)),
      λ of. (is.exact e).1 (subst (λ rs. IsEntryAmong program models (names_in terms tops.matches) c.rel true rs e) (sym are)
          (among_of program models (names_in terms tops.matches) (entries_in terms tops.entries) t.names (call_of terms c) rel found e of)),
    );
    distinct = is.distinct;
    met = is.met;
    calls = is.calls;
    demands = is.demands;
    within = is.within;
    calls_within = is.calls_within;
  }

  pub unmet_by : (u : UnmetEntry) → IsUnmetAmong program models terms (names_in terms tops.matches) c.rel true roots u → IsUnmetOf program models terms tops c u
  unmet_by u is = record {
    is = of_among program models (names_in terms tops.matches) (entries_in terms tops.entries) t.names (call_of terms c) rel found (entry_in terms u.entry)
        (subst (λ rs. IsEntryAmong program models (names_in terms tops.matches) c.rel true rs (entry_in terms u.entry)) are is.among);
    place = is.place;
    within = is.within;
  }

-- the relation at a place
pub rel_at : (rels items : List Rel) (n : ℕ) (rel : Rel) → items ≡ rels → n < length rels → rel ≡ get_or items n rel → slice_get rels n ≡ Some rel
rel_at rels items n rel same less is = slice_get-get_or rels n rel less ∙ ap Some (sym (is ∙ ap (λ rs. get_or rs n rel) same))

-- the relation of a call that an entry makes
pub made_rel : (metas : List MetaDesc) (program : Program) → IsWellFormed metas program → (models : List ModelData) (c : EntryName) → IsMade program models c → (rel : Rel) × (slice_get program.rels c.rel ≡ Some rel)
made_rel metas program formed models c made = let r = called_rooted metas program formed models made.0 made.1 c made.2 in (r.called, r.at)

pub if_met : (P Q : Found → Type 0) → ((f : Found) → P f → Q f) → (r : Finding) → IfMet P r → IfMet Q r
if_met P Q more (findings.Met f) h = more f h
if_met P Q more (findings.Unmet u) h = tt

pub if_unmet : (P Q : UnmetEntry → Type 0) → ((u : UnmetEntry) → P u → Q u) → (r : Finding) → IfUnmet P r → IfUnmet Q r
if_unmet P Q more (findings.Met f) h = tt
if_unmet P Q more (findings.Unmet u) h = more u h
