-- Chains of calls between the entries of the example have two calls at most, of different relations; and no entry is unmet.
use Rattle.std.proofs.Common.{◌≡◌, ◌≤◌, ℕ, zero, suc, true, false, List, [], ◌∷◌, ◌++◌, length, Some, sym, ap, ◌∙◌, subst, arith}
use Rattle.std.specs.Prelude.{slice_index_or, Contains}
use Rattle.std.proofs.lemmas.Bool.{false≢true, true≢false}
use Rattle.std.proofs.lemmas.List.{length-append}
use Rattle.std.proofs.lemmas.Option.{same_Some}
use Rattle.mof_metamodel.proofs.Facts.{nothing_in, only_one}
use Rattle.object_tables.specs.Models.{ModelData}
use Rattle.qv_syntax.specs.declared.program.Program.{Program}
use Rattle.qv_syntax.specs.declared.program.Rel.{Rel}
use Rattle.qvtr_semantics.specs.declared.limits.TheConstants.{MAX_CALLS}
use Rattle.repair_semantics.specs.declared.entry.Entry.{Entry}
use Rattle.repair_semantics.specs.declared.entry.EntryName.{EntryName}
use Rattle.repair_semantics.specs.Making.{entry_known}
use Rattle.repair_semantics.specs.Unmet.{is_unmet}
use Rattle.repair_semantics.specs.Entries.{entry_calls}
use Rattle.repair_semantics.specs.EntryChains.{BeginsEntries, CallsNext, EntryChain, CyclicEntries, DeepEntries, IsUnmet}
use Rattle.example_program.specs.MainProgram.{package_to_schema, class_to_table, attr_to_column, prim_to_column, main_program_data}
use Rattle.example_laws.specs.ExampleModels.{first_models}
use Rattle.example_laws.specs.ExampleEntries.{package_entry, class_entry, columns_entry, attribute_entry, IsExampleEntry}
use Rattle.example_laws.proofs.KnownLaws.{package_met, class_met, columns_met, attribute_met}
use Rattle.example_laws.proofs.CallLaws.{call_with, package_calls, class_calls, columns_calls, attribute_calls}
use Rattle.example_laws.proofs.EntryLaws.{entries_are_example}

module _ (n seed : ℕ) where
  abbrev P : Program
  P = main_program_data

  abbrev M : List ModelData
  M = first_models n seed

  -- ---- chains

  -- the first call is one of AttrToColumn
  begin_by : (from : Entry) (c : EntryName) → IsExampleEntry n seed from → from.called ≡ false → Contains (entry_calls P M from) c → c.rel ≡ 2
  begin_by _ c (IsExampleEntry.of_package k below) top called = absurd (nothing_in c (subst (λ (cs : List EntryName). Contains cs c) (package_calls n seed k) called))
  begin_by _ c (IsExampleEntry.of_class i below) top called =
      sym (ap (λ (d : EntryName). d.rel) (only_one (call_with 2 seed i) c (subst (λ (cs : List EntryName). Contains cs c) (class_calls n seed i) called)))
  begin_by _ c (IsExampleEntry.of_columns i below) top called = absurd (true≢false top)
  begin_by _ c (IsExampleEntry.of_attribute i j below few) top called = absurd (true≢false top)

  begins : (c : EntryName) → BeginsEntries P M c → c.rel ≡ 2
  begins c h = begin_by h.from c (entries_are_example n seed h.from h.entry) h.top h.calls

  -- a further one is made by AttrToColumn alone, of another relation
  record IsNext (from to : EntryName) : Type 0 where
    first : from.rel ≡ 2
    second : 3 ≤ to.rel

  part_is : (i : ℕ) (c : EntryName) → Contains (call_with 3 seed i ∷ call_with 4 seed i ∷ call_with 5 seed i ∷ []) c → 3 ≤ c.rel
  part_is i c (zero, within, is) = let rel : 3 ≡ c.rel = ap (λ (d : EntryName). d.rel) is in omega (arith, rel)
  part_is i c (suc zero, within, is) = let rel : 4 ≡ c.rel = ap (λ (d : EntryName). d.rel) is in omega (arith, rel)
  part_is i c (suc (suc zero), within, is) = let rel : 5 ≡ c.rel = ap (λ (d : EntryName). d.rel) is in omega (arith, rel)
  part_is i c (suc (suc (suc k)), within, is) = absurd (omega (arith, within))

  next_by : (by : Entry) (from to : EntryName) → IsExampleEntry n seed by → by.called ≡ true → by.rel ≡ from.rel → Contains (entry_calls P M by) to → IsNext from to
  next_by _ from to (IsExampleEntry.of_package k below) called rel calls = absurd (false≢true called)
  next_by _ from to (IsExampleEntry.of_class i below) called rel calls = absurd (false≢true called)
  next_by _ from to (IsExampleEntry.of_columns i below) called rel calls =
      record { first = sym rel; second = part_is i to (subst (λ (cs : List EntryName). Contains cs to) (columns_calls n seed i) calls) }
  next_by _ from to (IsExampleEntry.of_attribute i j below few) called rel calls =
      absurd (nothing_in to (subst (λ (cs : List EntryName). Contains cs to) (attribute_calls n seed i j) calls))

  next : (from to : EntryName) → CallsNext P M from to → IsNext from to
  next from to h = next_by h.by from to (entries_are_example n seed h.by h.entry) h.called h.roots.rel h.calls

  -- a chain has one call, or two of different relations
  data IsShort : List EntryName → Type 0 where
    one : (c : EntryName) → IsShort (c ∷ [])
    two : (c d : EntryName) → c.rel ≡ 2 → 3 ≤ d.rel → IsShort (c ∷ d ∷ [])

  short : (chain : List EntryName) → EntryChain P M chain → IsShort chain
  short [] h = absurd h
  short (c ∷ []) h = one c
  short (c ∷ d ∷ []) h = let first = next c d h.1.0 in two c d first.first first.second
  short (c ∷ d ∷ e ∷ more) h =
      let second = (next c d h.1.0).second in
      let first = (next d e h.1.1.0).first in
      absurd (omega (arith, first, second))

  -- ---- none comes back

  no_repeat : (chain : List EntryName) → IsShort chain → (before : List EntryName) (last : EntryName) → chain ≡ before ++ last ∷ [] → Contains before last → ⊥
  no_repeat chain h [] last is repeat = nothing_in last repeat
  no_repeat _ (one c) (x ∷ before) last is repeat =
      let long : 1 ≡ suc (length (before ++ last ∷ [])) = ap (λ (cs : List EntryName). length cs) is in
      let sum = length-append before (last ∷ []) in
      omega (arith, long, sum)
  no_repeat _ (two c d first second) (x ∷ []) last is repeat =
      let same_first : c ≡ x = ap (λ (cs : List EntryName). slice_index_or cs 0 c) is in
      let same_second : d ≡ last = ap (λ (cs : List EntryName). slice_index_or cs 1 d) is in
      let rel : c.rel ≡ d.rel = ap (λ (e : EntryName). e.rel) (same_first ∙ only_one x last repeat ∙ sym same_second) in
      omega (arith, first, second, rel)
  no_repeat _ (two c d first second) (x ∷ y ∷ before) last is repeat =
      let long : 2 ≡ suc (suc (length (before ++ last ∷ []))) = ap (λ (cs : List EntryName). length cs) is in
      let sum = length-append before (last ∷ []) in
      omega (arith, long, sum)

  pub no_cycle : (chain : List EntryName) → ¬ CyclicEntries P M chain
  no_cycle chain h = no_repeat chain (short chain h.reached) h.cyclic.before h.cyclic.last h.cyclic.is h.cyclic.repeat

  -- ---- none is too long

  few_calls : (chain : List EntryName) → IsShort chain → length chain ≤ 2
  few_calls _ (one c) = omega arith
  few_calls _ (two c d first second) = omega arith

  pub no_deep : (chain : List EntryName) → ¬ DeepEntries P M chain
  no_deep chain h =
      let few = few_calls chain (short chain h.reached) in
      let many = h.deep.calls in
      let limit : 2 ≤ MAX_CALLS = omega arith in
      omega (arith, few, many, limit)

  -- ---- none is unmet

  met_by : (rel own : Rel) (e : Entry) → Some own ≡ Some rel → is_unmet P M own (entry_known P M own e.values) ≡ false → is_unmet P M rel (entry_known P M rel e.values) ≡ true → ⊥
  met_by rel own e found met unmet =
      false≢true (sym met ∙ ap (λ (r : Rel). is_unmet P M r (entry_known P M r e.values)) (same_Some own rel found) ∙ unmet)

  met : (e : Entry) → IsExampleEntry n seed e → ¬ IsUnmet P M e
  met _ (IsExampleEntry.of_package k below) h = met_by h.rel package_to_schema (package_entry seed k) h.found (package_met n seed k) h.unmet
  met _ (IsExampleEntry.of_class i below) h = met_by h.rel class_to_table (class_entry seed i) h.found (class_met n seed i) h.unmet
  met _ (IsExampleEntry.of_columns i below) h = met_by h.rel attr_to_column (columns_entry seed i) h.found (columns_met n seed i) h.unmet
  met _ (IsExampleEntry.of_attribute i j below few) h = met_by h.rel prim_to_column (attribute_entry seed i j) h.found (attribute_met n seed i j) h.unmet

  pub no_unmet : (e : Entry) → ¬ IsUnmet P M e
  no_unmet e h = met e (entries_are_example n seed e h.is) h
