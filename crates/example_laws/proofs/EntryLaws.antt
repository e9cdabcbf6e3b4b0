-- Each entry of the example is that of a package, of a class, of the columns of a class, or of an attribute.
use Rattle.std.proofs.Common.{◌≡◌, ◌<◌, ◌/◌, ℕ, zero, suc, Bool, true, false, List, [], ◌∷◌, Option, None, Some, refl, sym, ap, ◌∙◌, subst, arith}
use Rattle.std.specs.Prelude.{slice_get, Contains}
use Rattle.std.proofs.lemmas.Bool.{false≢true}
use Rattle.std.proofs.lemmas.Option.{none-some, same_Some}
use Rattle.mof_metamodel.proofs.Facts.{nothing_in, only_one, contains_first}
use Rattle.object_tables.specs.Models.{ModelData}
use Rattle.qv_syntax.specs.declared.program.Program.{Program}
use Rattle.qv_syntax.specs.declared.program.Rel.{Rel}
use Rattle.qvtr_semantics.specs.Satisfaction.{IsTop}
use Rattle.repair_semantics.specs.declared.term.Term.{Term}
use Rattle.repair_semantics.specs.declared.term.TermValue.{TermValue}
use Rattle.repair_semantics.specs.declared.term.TermValue.TheVariants as of
use Rattle.repair_semantics.specs.declared.entry.Entry.{Entry}
use Rattle.repair_semantics.specs.declared.entry.EntryName.{EntryName}
use Rattle.repair_semantics.specs.EntryValues.{TermValues, value_of, known, no_values, root_values}
use Rattle.repair_semantics.specs.Entries.{calls_in, entry_of, entry_calls, HasRoots, IsMatchFor, AreMatches, IsEntryWith, IsEntry}
use Rattle.example_models.specs.Source.{class_name, package_number, class_number}
use Rattle.example_program.specs.MainProgram.{package_to_schema, class_to_table, attr_to_column, prim_to_column, nested_to_column, super_to_column, main_program_data}
use Rattle.example_laws.specs.ExampleModels.{first_models}
use Rattle.example_laws.specs.ExampleEntries.{text_value, source_value, schema_term, package_entry, class_entry, columns_entry, attribute_entry, IsExampleEntry}
use Rattle.example_laws.proofs.KnownLaws.{package_made, class_made, columns_made, attribute_made}
use Rattle.example_laws.proofs.SourceObjects.{package_apart}
use Rattle.example_laws.proofs.Reading.{same_object}
use Rattle.example_laws.proofs.PackageEntries.{package_binding}
use Rattle.example_laws.proofs.ClassEntries.{class_values, class_binding}
use Rattle.example_laws.proofs.ColumnEntries.{handed_on, columns_binding, attribute_binding, none_nested, none_above}
use Rattle.example_laws.proofs.CallLaws.{call_with, package_call, package_called, package_calls, class_calls, columns_calls, attribute_calls}

module _ (n seed : ℕ) where
  abbrev P : Program
  P = main_program_data

  abbrev M : List ModelData
  M = first_models n seed

  abbrev IsOne : Entry → Type 0
  IsOne = IsExampleEntry n seed

  -- an entry with values that are known, and that make what is known
  entry_is : (number : ℕ) (rel : Rel) (called : Bool) (e f : Entry) → entry_of P M number rel called f.values ≡ f → e ≡ entry_of P M number rel called e.values → e.values ≡ f.values
      → f ≡ e
  entry_is number rel called e f whole is same = sym (is ∙ ap (entry_of P M number rel called) same ∙ whole)

  -- ---- packages

  package_whole : (k : ℕ) → entry_of P M 0 package_to_schema false (package_entry seed k).values ≡ package_entry seed k
  package_whole k = ap (λ (made : TermValues). let e : Entry = record { rel = 0; called = false; values = (package_entry seed k).values; made = made } in e) (package_made n seed k)

  of_package : (e : Entry) (matches : List Entry) → IsEntryWith P M 0 package_to_schema false (no_values package_to_schema) matches e → IsOne e
  of_package e matches how =
      let b = package_binding n seed e.values how.source in
      subst IsOne (entry_is 0 package_to_schema false e (package_entry seed b.0) (package_whole b.0) how.is b.2) (IsExampleEntry.of_package b.0 b.1)

  -- ---- classes

  class_whole : (i : ℕ) → entry_of P M 1 class_to_table false (class_entry seed i).values ≡ class_entry seed i
  class_whole i = ap (λ (made : TermValues). let e : Entry = record { rel = 1; called = false; values = (class_entry seed i).values; made = made } in e) (class_made n seed i)

  -- what matches a call of PackageToSchema: the entry of a package
  matched : (m : Entry) (x y : TermValue) → IsOne m → HasRoots P (record { rel = 0; roots = x ∷ y ∷ [] }) m
      → (k : ℕ) × (Some x ≡ Some (source_value (package_number seed k))) × (Some y ≡ Some (of.Term (schema_term k)))
  matched _ x y (IsExampleEntry.of_package k below) h =
      (k, sym (ap (λ (xs : TermValues). value_of xs 0) h.roots), sym (ap (λ (xs : TermValues). value_of xs 1) h.roots))
  matched _ x y (IsExampleEntry.of_class i below) h = let rel : 1 ≡ 0 = h.rel in absurd (omega (arith, rel))
  matched _ x y (IsExampleEntry.of_columns i below) h = let rel : 2 ≡ 0 = h.rel in absurd (omega (arith, rel))
  matched _ x y (IsExampleEntry.of_attribute i j below few) h = let rel : 3 ≡ 0 = h.rel in absurd (omega (arith, rel))

  -- the one match that a class has
  match_of : (c : EntryName) (matches : List Entry) → AreMatches P (Some c ∷ []) matches → (m : Entry) × Contains matches m × IsMatchFor P c m
  match_of c [] h = absurd h
  match_of c (m ∷ []) h = (m, contains_first m [], h.0)
  match_of c (m ∷ l ∷ more) h = absurd h.1

  abbrev with_schema : ℕ → Option TermValue → TermValues
  with_schema i x =
      Some (text_value (class_name i)) ∷ Some (source_value (class_number seed i)) ∷ Some (source_value (package_number seed (i / 100))) ∷ None ∷ x ∷ []

  class_with : (e : Entry) (i : ℕ) (t : Term) (matches : List Entry) → i < n → e.values ≡ class_values seed i t → AreMatches P (calls_in P M (known e.values) class_to_table.whens) matches
      → e ≡ entry_of P M 1 class_to_table false e.values → ((m : Entry) → Contains matches m → IsOne m) → IsOne e
  class_with e i t matches below same whens is each =
      let matching = subst (λ (cs : List (Option EntryName)). AreMatches P cs matches) (package_called n seed i t)
      (subst (λ (b : TermValues). AreMatches P (calls_in P M (known b) class_to_table.whens) matches) same whens) in
      let m = match_of (package_call seed i t) matches matching in
      let p = matched m.0 (source_value (package_number seed (i / 100))) (of.Term t) (each m.0 m.1) m.2.has in
      let which : i / 100 ≡ p.0 = package_apart seed (i / 100) p.0 (same_object (package_number seed (i / 100)) (package_number seed p.0) p.1) in
      let schema : Some (of.Term t) ≡ Some (of.Term (schema_term (i / 100))) = p.2 ∙ ap (λ (k : ℕ). Some (of.Term (schema_term k))) (sym which) in
      subst IsOne (entry_is 1 class_to_table false e (class_entry seed i) (class_whole i) is (same ∙ ap (with_schema i) schema)) (IsExampleEntry.of_class i below)

  of_class : (e : Entry) (matches : List Entry) → IsEntryWith P M 1 class_to_table false (no_values class_to_table) matches e → ((m : Entry) → Contains matches m → IsOne m) → IsOne e
  of_class e matches how each =
      let b = class_binding n seed e.values how.source in
      class_with e b.0 b.2 matches b.1 b.3 how.whens how.is each

  -- ---- top relations

  not_top : (rel called : Rel) → Some called ≡ Some rel → called.top ≡ false → rel.top ≡ true → ⊥
  not_top rel called found low is = false≢true (sym low ∙ ap (λ (r : Rel). r.top) (same_Some called rel found) ∙ is)

  of_top : (e : Entry) (number : ℕ) (rel : Rel) (matches : List Entry) → IsTop P number rel → IsEntryWith P M number rel false (no_values rel) matches e
      → ((m : Entry) → Contains matches m → IsOne m) → IsOne e
  of_top e zero rel matches top how each =
      of_package e matches (subst (λ (r : Rel). IsEntryWith P M 0 r false (no_values r) matches e) (sym (same_Some package_to_schema rel top.is)) how)
  of_top e (suc zero) rel matches top how each =
      of_class e matches (subst (λ (r : Rel). IsEntryWith P M 1 r false (no_values r) matches e) (sym (same_Some class_to_table rel top.is)) how) each
  of_top e (suc (suc zero)) rel matches top how each = absurd (not_top rel attr_to_column top.is refl top.top)
  of_top e (suc (suc (suc zero))) rel matches top how each = absurd (not_top rel prim_to_column top.is refl top.top)
  of_top e (suc (suc (suc (suc zero)))) rel matches top how each = absurd (not_top rel nested_to_column top.is refl top.top)
  of_top e (suc (suc (suc (suc (suc zero))))) rel matches top how each = absurd (not_top rel super_to_column top.is refl top.top)
  of_top e (suc (suc (suc (suc (suc (suc number)))))) rel matches top how each = absurd (none-some rel top.is)

  -- ---- relations that are called

  columns_whole : (i : ℕ) → entry_of P M 2 attr_to_column true (columns_entry seed i).values ≡ columns_entry seed i
  columns_whole i = ap (λ (made : TermValues). let e : Entry = record { rel = 2; called = true; values = (columns_entry seed i).values; made = made } in e) (columns_made n seed i)

  attribute_whole : (i j : ℕ) → entry_of P M 3 prim_to_column true (attribute_entry seed i j).values ≡ attribute_entry seed i j
  attribute_whole i j = ap (λ (made : TermValues). let e : Entry = record { rel = 3; called = true; values = (attribute_entry seed i j).values; made = made } in e) (attribute_made n seed i j)

  -- the entry is one of the relation that is called
  record IsFor (c : EntryName) (e : Entry) : Type 0 where
    rel : Rel
    matches : List Entry
    found : slice_get P.rels c.rel ≡ Some rel
    how : IsEntryWith P M c.rel rel true (root_values rel c.roots) matches e

  abbrev IsEntryOf : ℕ → ℕ → Rel → List Entry → Entry → Type 0
  IsEntryOf number i rel matches e = IsEntryWith P M number rel true (root_values rel (handed_on seed i)) matches e

  of_columns : (e : Entry) (i : ℕ) → i < n → IsFor (call_with 2 seed i) e → IsOne e
  of_columns e i below for =
      let how : IsEntryOf 2 i attr_to_column for.matches e =
      subst (λ (r : Rel). IsEntryOf 2 i r for.matches e) (sym (same_Some attr_to_column for.rel for.found)) for.how in
      subst IsOne (entry_is 2 attr_to_column true e (columns_entry seed i) (columns_whole i) how.is (columns_binding n seed i e.values how.source)) (IsExampleEntry.of_columns i below)

  of_attribute : (e : Entry) (i : ℕ) → i < n → IsFor (call_with 3 seed i) e → IsOne e
  of_attribute e i below for =
      let how : IsEntryOf 3 i prim_to_column for.matches e =
      subst (λ (r : Rel). IsEntryOf 3 i r for.matches e) (sym (same_Some prim_to_column for.rel for.found)) for.how in
      let b = attribute_binding n seed i e.values how.source in
      subst IsOne (entry_is 3 prim_to_column true e (attribute_entry seed i b.0) (attribute_whole i b.0) how.is b.2) (IsExampleEntry.of_attribute i b.0 below b.1)

  of_nested : (e : Entry) (i : ℕ) → IsFor (call_with 4 seed i) e → IsOne e
  of_nested e i for =
      let how : IsEntryOf 4 i nested_to_column for.matches e =
      subst (λ (r : Rel). IsEntryOf 4 i r for.matches e) (sym (same_Some nested_to_column for.rel for.found)) for.how in
      absurd (none_nested n seed (root_values nested_to_column (handed_on seed i)) e.values how.source)

  of_super : (e : Entry) (i : ℕ) → IsFor (call_with 5 seed i) e → IsOne e
  of_super e i for =
      let how : IsEntryOf 5 i super_to_column for.matches e =
      subst (λ (r : Rel). IsEntryOf 5 i r for.matches e) (sym (same_Some super_to_column for.rel for.found)) for.how in
      absurd (none_above n seed (root_values super_to_column (handed_on seed i)) e.values how.source)

  of_part : (e : Entry) (i : ℕ) (c : EntryName) → i < n → Contains (call_with 3 seed i ∷ call_with 4 seed i ∷ call_with 5 seed i ∷ []) c → IsFor c e → IsOne e
  of_part e i c below (zero, within, is) for = of_attribute e i below (subst (λ (d : EntryName). IsFor d e) (sym is) for)
  of_part e i c below (suc zero, within, is) for = of_nested e i (subst (λ (d : EntryName). IsFor d e) (sym is) for)
  of_part e i c below (suc (suc zero), within, is) for = of_super e i (subst (λ (d : EntryName). IsFor d e) (sym is) for)
  of_part e i c below (suc (suc (suc k)), within, is) for = absurd (omega (arith, within))

  of_call : (e from : Entry) (c : EntryName) → IsOne from → Contains (entry_calls P M from) c → IsFor c e → IsOne e
  of_call e _ c (IsExampleEntry.of_package k below) called for = absurd (nothing_in c (subst (λ (cs : List EntryName). Contains cs c) (package_calls n seed k) called))
  of_call e _ c (IsExampleEntry.of_class i below) called for =
      let same = only_one (call_with 2 seed i) c (subst (λ (cs : List EntryName). Contains cs c) (class_calls n seed i) called) in
      of_columns e i below (subst (λ (d : EntryName). IsFor d e) (sym same) for)
  of_call e _ c (IsExampleEntry.of_columns i below) called for = of_part e i c below (subst (λ (cs : List EntryName). Contains cs c) (columns_calls n seed i) called) for
  of_call e _ c (IsExampleEntry.of_attribute i j below few) called for = absurd (nothing_in c (subst (λ (cs : List EntryName). Contains cs c) (attribute_calls n seed i j) called))

  -- ---- all entries

  pub entries_are_example : (e : Entry) → IsEntry P M e → IsExampleEntry n seed e
  entries_are_example e (IsEntry.of_top _ number rel matches top how below) = of_top e number rel matches top how (λ m c. entries_are_example m (below m c))
  entries_are_example e (IsEntry.of_call _ from c rel matches entry called found how below) =
      of_call e from c (entries_are_example from entry) called (record { rel = rel; matches = matches; found = found; how = how })
