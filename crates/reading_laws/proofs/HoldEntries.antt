-- Each call in the where clause of an entry holds, as it is read, where each entry has its partner and no chain of calls is cyclic or too long;
-- so no binding is failing.
use Rattle.std.specs.Prelude.{◌≡◌, ◌⊎◌, ◌<◌, ℕ, zero, suc, ◌+◌, true, false, List, [], ◌∷◌, ◌++◌, map, length, Option, None, Some, slice_get, Contains}
use Rattle.std.specs.Option.{option_and_then, option_map}
use Rattle.std.proofs.Common.{refl, sym, ap, subst, ◌∙◌, inl, inr, arith, length-append}
use Rattle.std.proofs.lemmas.List.FromFn.{length-map-range_with_len}
use Rattle.mof_metamodel.specs.declared.desc.MetaDesc.{MetaDesc}
use Rattle.object_tables.specs.Models.{ModelData}
use Rattle.qv_syntax.specs.declared.program.Program.{Program}
use Rattle.qv_syntax.specs.declared.program.Rel.{Rel}
use Rattle.qv_syntax.specs.WellFormed.{IsWellFormed}
use Rattle.qvtr_semantics.specs.declared.datum.Datum.{Datum}
use Rattle.qvtr_semantics.specs.declared.limits.TheConstants.{MAX_CALLS}
use Rattle.qvtr_semantics.specs.Objects.{object_datum}
use Rattle.qvtr_semantics.specs.Templates.{Values, value_at}
use Rattle.qvtr_semantics.specs.Bindings.{Target}
use Rattle.qvtr_semantics.specs.Calls.{RelationCall, Of, SourceMatches, TargetHolds, HoldsWithin, Match, Holds, calls_of}
use Rattle.qvtr_semantics.specs.Satisfaction.{Satisfied}
use Rattle.source_laws.proofs.RootLaws.{same_called}
use Rattle.repair_semantics.specs.declared.term.Term.{Term}
use Rattle.repair_semantics.specs.declared.term.TermValue.{TermValue}
use Rattle.repair_semantics.specs.declared.entry.Entry.{Entry}
use Rattle.repair_semantics.specs.declared.entry.EntryName.{EntryName}
use Rattle.repair_semantics.specs.EntryValues.{TermValues, value_of}
use Rattle.repair_semantics.specs.Making.{variables, entry_known}
use Rattle.repair_semantics.specs.Entries.{calls_in, entry_of, entry_calls, IsEntry}
use Rattle.repair_semantics.specs.EntryChains.{BeginsEntries, CallsNext, CyclicEntries, DeepEntries}
use Rattle.reading_laws.specs.Readings.{Numbering, HaveObjects, read_value, Reads, ReadsCall}
use Rattle.reading_laws.proofs.CallValues.{none_some, val_or_term, val_read, term_read, ReadsOne, all_at, Told, AreFit}
use Rattle.reading_laws.proofs.EntryKnown.{variables_at, variables_within, within_long, known_long}
use Rattle.reading_laws.proofs.EntryFacts.{call_where}
use Rattle.reading_laws.proofs.EntryGround.{Ground}
use Rattle.reading_laws.proofs.EntryMatches.{facts_of, fit_of}
use Rattle.reading_laws.proofs.EntryReads.{top_entry, called_entry}
use Rattle.reading_laws.proofs.EntryCalls.{where_reads, wheres_made, all_asked}
use Rattle.reading_laws.proofs.EntryTime.{ChainTo, chain_first, chain_next, first_before, next_before, called_rooted, rooted_has}
use Rattle.repair_semantics.specs.declared.term.TermValue.TheVariants as values

-- ---- the values of an entry, as they are read

module _ (program : Program) (terms : List Term) (number : Numbering) (have : HaveObjects terms number) where
  value_there : (x : TermValue) → Told program terms x → (d : Datum) × (read_value program number x ≡ Some d)
  value_there x told = by (val_or_term x)
    where
      by : ((a : Datum) × (x ≡ values.Val a)) ⊎ ((t : Term) × (x ≡ values.Term t)) → (d : Datum) × (read_value program number x ≡ Some d)
      by (inl (a, is)) = (a, ap (read_value program number) is ∙ val_read program number a)
      by (inr (t, is)) =
          let n = have t (told.term t is) in
          (object_datum program.target n.0, ap (read_value program number) is ∙ term_read program number t ∙ ap (option_map (λ k. object_datum program.target k)) n.1)

  module _ (rel : Rel) (k : TermValues) (long : length k ≡ length rel.vars) (fits : AreFit program terms rel k) where
    pub read_all : Values
    read_all = map (λ v. option_and_then (read_value program number) (value_of k v)) (variables rel)

    at_variable : (v : ℕ) → v < length rel.vars → value_at read_all v ≡ option_and_then (read_value program number) (value_of k v)
    unfolding read_all
    at_variable v less = variables_at (λ w. option_and_then (read_value program number) (value_of k w)) rel v less

    less_all : (v : ℕ) (d : Datum) → value_at read_all v ≡ Some d → v < length rel.vars
    unfolding read_all
    less_all v d at = variables_within (λ w. option_and_then (read_value program number) (value_of k w)) rel v d at

    long_all : length read_all ≡ length rel.vars
    unfolding read_all
    long_all = length-map-range_with_len (λ w. option_and_then (read_value program number) (value_of k w)) 0 (length rel.vars)

    pub all_reads : Reads program number k read_all
    all_reads = all_at program number k read_all (long_all ∙ sym long) (λ v. by v (value_of k v) (value_at read_all v) refl refl)
      where
        by : (v : ℕ) (o : Option TermValue) (p : Option Datum) → value_of k v ≡ o → value_at read_all v ≡ p → ReadsOne program number (value_of k v) (value_at read_all v)
        by v (Some x) p is at =
            let d = value_there x (fits v x is).told in
            let there : value_at read_all v ≡ Some d.0 = at_variable v (subst (λ n. v < n) long (within_long k v x is)) ∙ ap (option_and_then (read_value program number)) is ∙ d.1 in
            subst (λ q. ReadsOne program number q (value_at read_all v)) (sym is) (subst (ReadsOne program number (Some x)) (sym there) d.1)
        by v None (Some d) is at =
            absurd (none_some d (sym (ap (option_and_then (read_value program number)) is) ∙ sym (at_variable v (less_all v d at)) ∙ at))
        by v None None is at = subst (λ q. ReadsOne program number q (value_at read_all v)) (sym is) (subst (ReadsOne program number None) (sym at) tt)

-- ---- entries hold

left_next : (n : ℕ) (last next : EntryName) (before longer : List EntryName) → longer ≡ before ++ last ∷ [] → length (before ++ last ∷ []) + suc n ≡ suc MAX_CALLS
    → length (longer ++ next ∷ []) + n ≡ suc MAX_CALLS
left_next n last next before longer same left =
    let long = length-append longer (next ∷ []) in
    let one : length longer ≡ length (before ++ last ∷ []) = ap length same in omega (arith, left, long, one)

left_first : (next : EntryName) (before : List EntryName) → before ≡ [] → length (before ++ next ∷ []) + MAX_CALLS ≡ suc MAX_CALLS
left_first next before same = let long = ap length (ap (λ xs. xs ++ next ∷ []) same) in omega (arith, long)

module _ (metas : List MetaDesc) (program : Program) (sources models : List ModelData) (m : ModelData) (terms : List Term) (number : Numbering)
    (ground : Ground metas program sources models m terms number) (have : HaveObjects terms number)
    (meeting : (e : Entry) (rel : Rel) → IsEntry program sources e → slice_get program.rels e.rel ≡ Some rel → (c g : Values) → Reads program number e.values c
    → Reads program number (entry_known program sources rel e.values).values g → Target program models rel c g)
    (no_cycle : (chain : List EntryName) → CyclicEntries program sources chain → ⊥) (no_deep : (chain : List EntryName) → DeepEntries program sources chain → ⊥) where
  abbrev formed : IsWellFormed metas program
  formed = ground.over.evaluable.well

  known_fits : (e : Entry) (rel : Rel) → IsEntry program sources e → slice_get program.rels e.rel ≡ Some rel → AreFit program terms rel (entry_known program sources rel e.values).values
  known_fits e rel is found =
      let f = facts_of metas program sources models m terms number ground e is in
      subst (λ r. AreFit program terms r (entry_known program sources r e.values).values) (same_called f.rel rel (sym f.found ∙ found))
      (fit_of metas program sources models m terms number ground e f is)

  -- an entry has its partner, whose calls hold where those of the entry do, with so many calls left
  entry_holds : (n : ℕ) (e : Entry) (rel : Rel) → IsEntry program sources e → slice_get program.rels e.rel ≡ Some rel → (c : Values) → Reads program number e.values c
      → ((next : EntryName) → Contains (entry_calls program sources e) next → (call : RelationCall) → ReadsCall program number next call → HoldsWithin (Match program models) program models n call)
      → (g : Values) × TargetHolds (HoldsWithin (Match program models) program models n) program models rel c g
  entry_holds n e rel is found c reads each =
      let fits = known_fits e rel is found in
      let long = known_long program sources rel e.values in
      let g = read_all program terms number have rel (entry_known program sources rel e.values).values long fits in
      let g_reads = all_reads program terms number have rel (entry_known program sources rel e.values).values long fits in
      let target = meeting e rel is found c g reads g_reads in (
        g,
        record {
          target = target;
          wheres = all_asked (HoldsWithin (Match program models) program models n) program number (calls_in program sources (entry_known program sources rel e.values) rel.wheres)
              (calls_of program models g rel.wheres) (where_reads metas program sources models m terms number ground e rel is found c g reads target g_reads)
              (wheres_made metas program sources models m terms number ground e rel is found)
              (λ from there call r. each from (call_where program sources e rel found from (ground.met e rel is found) there) call r);
        },
      )

  -- the last call of a chain holds, with the calls that are left
  holds : (n : ℕ) (last : EntryName) (to : ChainTo program sources last) → length (to.before ++ last ∷ []) + n ≡ suc MAX_CALLS → (call : RelationCall) → ReadsCall program number last call
      → HoldsWithin (Match program models) program models n call
  holds zero last to left call reads = let short = to.short in absurd (omega (arith, left, short))
  holds (suc n) last to left call reads =
      let r = called_rooted metas program formed sources to.by to.entry last to.calls in
      subst (λ o. Of o (λ rel. (b : Values) → SourceMatches (Match program models) program models rel call.roots b
      → (g : Values) × TargetHolds (HoldsWithin (Match program models) program models n) program models rel b g))
      (sym (ap (slice_get program.rels) reads.rel ∙ r.at))
      (λ c source.
      let entry = called_entry metas program sources models m terms number ground (length program.rels) to.by to.entry last to.calls r.called r.at call.roots (reads.roots r.called r.at) c source in
      let e : Entry = entry_of program sources last.rel r.called true entry.b in
      let has = rooted_has metas program formed sources e r.called r.at last refl r.rooted entry.source.extends entry.source.places in
      entry_holds n e r.called entry.entry r.at c entry.reads
      (λ next within other other_reads.
      let calls : CallsNext program sources last next = record { by = e; entry = entry.entry; called = refl; roots = has; calls = within } in
      let on = chain_next program sources no_cycle no_deep last next to calls in
      let same = next_before program sources no_cycle no_deep last next to calls in
      holds n next on (left_next n last next to.before on.before same left) other other_reads))

  -- so an entry that isn't called has a partner whose calls hold
  pub top_holds : (e : Entry) (rel : Rel) → IsEntry program sources e → slice_get program.rels e.rel ≡ Some rel → e.called ≡ false → (c : Values) → Reads program number e.values c
      → (g : Values) × TargetHolds (Holds program models) program models rel c g
  top_holds e rel is found top c reads =
      entry_holds MAX_CALLS e rel is found c reads
      (λ next within call other.
      let begins : BeginsEntries program sources next = record { from = e; entry = is; top = top; calls = within } in
      let on = chain_first program sources no_cycle no_deep next begins in
      holds MAX_CALLS next on (left_first next on.before (first_before program sources no_cycle no_deep next begins)) call other)

  -- and no binding is failing
  pub satisfied : Satisfied program models
  satisfied place c failing =
      let top = failing.top in
      let entry = top_entry metas program sources models m terms number ground (length program.rels) place failing.rel top c failing.source in
      let partner = top_holds (entry_of program sources place failing.rel false entry.b) failing.rel entry.entry top.is refl c entry.reads in
      failing.alone partner.0 partner.1
