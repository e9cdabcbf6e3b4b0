-- The terms of all entries: each is demanded, with its key values, and is of a class that is a kind of its variable's. By the rules that give
-- entries: a call hands on terms of the entry that makes it.
use Rattle.std.specs.Prelude.{◌≡◌, ◌≢◌, ℕ, Bool, true, false, List, [], length, Option, None, Some, slice_get, Contains, if◌then◌else◌}
use Rattle.std.specs.List.{filter_map}
use Rattle.std.specs.Option.{option_map_or}
use Rattle.std.proofs.Common.{refl, ap, sym, ◌∙◌, subst, true≢false}
use Rattle.std.proofs.lemmas.Option.{none-some, same_Some}
use Rattle.mof_metamodel.specs.declared.desc.MetaDesc.{MetaDesc}
use Rattle.object_tables.specs.Models.{ModelData}
use Rattle.qv_syntax.specs.declared.program.Program.{Program}
use Rattle.qv_syntax.specs.declared.program.Rel.{Rel}
use Rattle.qv_syntax.specs.WellFormed.{IsWellFormed}
use Rattle.qvtr_semantics.specs.declared.datum.Datum.{Datum}
use Rattle.qvtr_semantics.specs.Templates.{value_at}
use Rattle.enforcement_rules.specs.TargetParts.{target_desc}
use Rattle.enforcement_rules.specs.Rules.{IsEnforceable}
use Rattle.mof_metamodel.proofs.Facts.{nothing_in}
use Rattle.repair_semantics.specs.declared.entry.Entry.{Entry}
use Rattle.repair_semantics.specs.declared.entry.EntryName.{EntryName}
use Rattle.repair_semantics.specs.declared.demand.Demand.{Demand}
use Rattle.repair_semantics.specs.EntryValues.{TermValues, data_in, no_values, root_values}
use Rattle.repair_semantics.specs.TargetItems.{target_metamodel}
use Rattle.repair_semantics.specs.Making.{entry_known}
use Rattle.repair_semantics.specs.Entries.{calls_in, calls_where, IsEntryWith, IsEntry}
use Rattle.repair_semantics.specs.Unmet.{is_unmet}
use Rattle.repair_laws.proofs.ManagedLaws.{from_filter_map}
use Rattle.repair_laws.proofs.RootTerms.{none_at}
use Rattle.repair_laws.proofs.CallTerms.{call_from}
use Rattle.repair_laws.proofs.EntryDemands.{Demanded}
use Rattle.repair_laws.proofs.HandedRoots.{call_roots, called_direction}
use Rattle.repair_laws.proofs.EntryStep.{AreGoodValues, AreGoodRoots, step_good, data_universal}

-- the relation of the entry is one of the direction, its values are good, and only its universal variables have data
pub record IsGoodEntry (program : Program) (sources : List ModelData) (meta : MetaDesc) (demands : List Demand) (e : Entry) (rel : Rel) : Type 0 where
  pub direction : rel.in_direction ≡ true
  pub good : AreGoodValues program meta demands rel (entry_known program sources rel e.values).values
  pub universal : (v : ℕ) (d : Datum) → value_at (data_in e.values) v ≡ Some d → Contains rel.universal v

module _ (metas : List MetaDesc) (program : Program) (formed : IsWellFormed metas program) (enforceable : IsEnforceable metas program)
    (sources : List ModelData) (m : ModelData) (meta_is : target_metamodel program sources ≡ m.meta) (desc : target_desc metas program ≡ m.meta) (demands : List Demand)
    (asked : (e : Entry) (rel : Rel) → IsEntry program sources e → slice_get program.rels e.rel ≡ Some rel → (number : ℕ) × Demanded program sources rel (entry_known program sources rel e.values) demands number) where
  abbrev GoodEntry : Entry → Rel → Type 0
  GoodEntry e rel = AreGoodValues program m.meta demands rel (entry_known program sources rel e.values).values

  abbrev GoodRoots : Rel → TermValues → Type 0
  GoodRoots rel roots = AreGoodRoots program m.meta demands rel roots

  top_roots : (rel : Rel) → rel.top ≡ true → GoodRoots rel (no_values rel)
  top_roots rel top = record {
    told = λ v x t at is. absurd (none-some x (sym (none_at (length rel.vars) v) ∙ at));
    target = λ v x t at is. absurd (none-some x (sym (none_at (length rel.vars) v) ∙ at));
    typed = λ v x t at is. absurd (none-some x (sym (none_at (length rel.vars) v) ∙ at));
    outside = λ v x d at is. absurd (none-some x (sym (none_at (length rel.vars) v) ∙ at));
    universal = λ v x d at is. absurd (none-some x (sym (none_at (length rel.vars) v) ∙ at));
    handed = λ other v is. absurd (true≢false (sym top ∙ other));
  }

  -- ---- all entries

  -- what is said of an entry and its relation
  abbrev Said : Entry → Rel → Type 0
  Said e rel = IsGoodEntry program sources m.meta demands e rel

  entry_is : (e : Entry) (number : ℕ) (r rel : Rel) (called : Bool) (roots : TermValues) (matches : List Entry) → IsEntryWith program sources number r called roots matches e
      → slice_get program.rels number ≡ Some r → slice_get program.rels e.rel ≡ Some rel → Said e r → Said e rel
  entry_is e number r rel called roots matches with there found said =
      let place : e.rel ≡ number = ap (λ (x : Entry). x.rel) with.is in
      subst (Said e) (same_Some r rel (sym there ∙ ap (slice_get program.rels) (sym place) ∙ found)) said

  said_by : (e : Entry) (number : ℕ) (rel : Rel) (called : Bool) (roots : TermValues) (matches : List Entry) → slice_get program.rels number ≡ Some rel → rel.in_direction ≡ true
      → IsEntryWith program sources number rel called roots matches e → IsEntry program sources e → ((x : Entry) → Contains matches x → IsEntry program sources x)
      → ((x : Entry) → Contains matches x → (r : Rel) → slice_get program.rels x.rel ≡ Some r → GoodEntry x r) → GoodRoots rel roots → Said e rel
  said_by e number rel called roots matches found direction with is_entry entries each given = record {
    direction = direction;
    good = step_good metas program formed enforceable sources m meta_is desc demands asked e number rel called roots matches found direction with is_entry entries each given;
    universal = data_universal metas program formed enforceable sources m meta_is desc demands asked e number rel called roots matches found direction with is_entry entries each given;
  }

  pub all_good : (e : Entry) → IsEntry program sources e → (rel : Rel) → slice_get program.rels e.rel ≡ Some rel → Said e rel
  all_good e (IsEntry.of_top _ number r matches top with each) rel found =
      entry_is e number r rel false (no_values r) matches with top.is found (said_by e number r false (no_values r) matches top.is top.in_direction with
      (IsEntry.of_top e number r matches top with each) each (λ x there s at. (all_good x (each x there) s at).good) (top_roots r top.top))
  all_good e (IsEntry.of_call _ from c r matches before calls there with each) rel found =
      by (all_good from before) (λ x inside. all_good x (each x inside)) (slice_get program.rels from.rel) refl calls
    where
      unmet : (from_rel : Rel) → (b : Bool) → Contains (if b then [] else filter_map (λ x. x) (calls_in program sources (entry_known program sources from_rel from.values) from_rel.wheres)) c
          → Contains (filter_map (λ x. x) (calls_in program sources (entry_known program sources from_rel from.values) from_rel.wheres)) c
      unmet from_rel true g = absurd (nothing_in c g)
      unmet from_rel false g = g

      by : ((s : Rel) → slice_get program.rels from.rel ≡ Some s → Said from s)
          → ((x : Entry) → Contains matches x → (s : Rel) → slice_get program.rels x.rel ≡ Some s → Said x s) → (o : Option Rel) → slice_get program.rels from.rel ≡ o
          → Contains (option_map_or (λ s. calls_where program sources s (entry_known program sources s from.values)) o []) c → Said e rel
      by from_good each_good None at g = absurd (nothing_in c g)
      by from_good each_good (Some from_rel) at g =
          let before_good = from_good from_rel at in
          let known_from = entry_known program sources from_rel from.values in
          let (call, listed, is) = from_filter_map (λ (x : Option EntryName). x) (calls_in program sources known_from from_rel.wheres) c
          (unmet from_rel (is_unmet program sources from_rel known_from) g) in
          let (number, args, within, parts) = call_from program sources known_from from_rel.wheres c (subst (Contains (calls_in program sources known_from from_rel.wheres)) is listed) in
          let forward = called_direction metas program formed enforceable sources m meta_is desc demands from.rel from_rel at before_good.direction known_from before_good.good c r there number args within parts in
          entry_is e c.rel r rel true (root_values r c.roots) matches with there found (said_by e c.rel r true (root_values r c.roots) matches there forward with
          (IsEntry.of_call e from c r matches before calls there with each) each (λ x inside s place. (each_good x inside s place).good)
          (call_roots metas program formed enforceable sources m meta_is desc demands from.rel from_rel at before_good.direction known_from before_good.good c r there number args within parts))
