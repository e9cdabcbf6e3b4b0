-- The entries in order with what they demand are the set that enforcement has to fulfil, if no two demands are in conflict; and it is the same for
-- all target models.
use Rattle.std.specs.Prelude.{◌≡◌, ◌<◌, ℕ, suc, Bool, true, false, List, [], ◌∷◌, ◌++◌, map, length, Option, None, Some, slice_get, Contains, All, if◌then◌else◌}
use Rattle.std.specs.List.{cons_option}
use Rattle.std.specs.List.Sorted.{IsPermutation, IsSorted}
use Rattle.std.specs.Option.{option_map_or}
use Rattle.std.proofs.Common.{refl, sym, ap, subst, ◌∙◌}
use Rattle.std.proofs.lemmas.List.Elements.{All-nil, All-cons, All-head, All-tail, All-append}
use Rattle.std.proofs.lemmas.List.Sorted.{All-permutation}
use Rattle.mof_metamodel.specs.declared.desc.MetaDesc.{MetaDesc}
use Rattle.mof_metamodel.specs.Metamodels.{prop_count}
use Rattle.mof_metamodel.specs.Tables.{IsPropOf}
use Rattle.mof_metamodel.proofs.Facts.{contains_first}
use Rattle.template_match.proofs.ListLaws.{contains_later}
use Rattle.object_tables.specs.Models.{ModelData}
use Rattle.qv_syntax.specs.declared.program.Program.{Program}
use Rattle.qv_syntax.specs.declared.program.Rel.{Rel}
use Rattle.source_laws.specs.Agreement.{AgreeBut}
use Rattle.repair_semantics.specs.declared.term.Term.{Term}
use Rattle.repair_semantics.specs.declared.term.TermValue.{TermValue}
use Rattle.repair_semantics.specs.declared.entry.Entry.{Entry}
use Rattle.repair_semantics.specs.declared.demand.Demand.{Demand}
use Rattle.repair_semantics.specs.declared.demand.Clash.{Clash}
use Rattle.repair_semantics.specs.EntryValues.{Known, term_of}
use Rattle.repair_semantics.specs.TargetItems.{TargetItem, target_items, target_metamodel}
use Rattle.repair_semantics.specs.Making.{entry_known, content_value}
use Rattle.repair_semantics.specs.Unmet.{is_unmet}
use Rattle.repair_semantics.specs.Entries.{IsEntry}
use Rattle.repair_semantics.specs.EntryOrder.{AreEntries}
use Rattle.repair_semantics.specs.Demands.{demand_by, item_demand, item_demands, demands_where, entry_demands, demands_from, demands_of, demanded_terms}
use Rattle.repair_semantics.specs.Conflicts.{AreAtPeace, IsClash}
use Rattle.reading_laws.proofs.EntryRoots.{entry_rooted}
use Rattle.demand_conflicts.specs.NumberedDemands.{demands_in}
use Rattle.entry_finding.specs.declared.numbered_entry.NumberedEntry.{NumberedEntry}
use Rattle.entry_finding.specs.Premises.{CanBeEnforced}
use Rattle.entry_finding.specs.Found.{entries_in, IsEntryWithin, MakesDemands}
use Rattle.entry_finding.proofs.OrderableLaws.{is_orderable}
use Rattle.entry_walk.specs.Ends.{AreAllEntries}
use Rattle.demand_sources.proofs.EntriesMoved.{unmet_at_as, demands_same}
use Rattle.demand_sources.proofs.ChainsMoved.{cyclic_to, cyclic_back, deep_to, deep_back, unmet_to, unmet_back, are_to}
use Rattle.demand_set.specs.Orders.{numbered_order}
use Rattle.demand_set.specs.Listings.{listed_from}
use Rattle.demand_set.specs.declared.demand_error.DemandError.{DemandError}
use Rattle.demand_set.specs.declared.demand_error.DemandError.TheVariants as errors
use Rattle.demand_set.specs.DemandSets.{DemandData, IsDemandSet, IsConflict, IsRefusal}
use Rattle.demand_set.proofs.EntryLists.{are_entries}
use Rattle.demand_set.proofs.ListingLaws.{demands_told}

-- ---- properties of demands

module _ (program : Program) (models : List ModelData) (meta : MetaDesc) where
  abbrev IsOf : Demand → Type 0
  IsOf d = IsPropOf meta d.prop

  abbrev IsItemOf : TargetItem → Type 0
  IsItemOf item = item.prop.0 < prop_count meta

  by_item : (n : ℕ) (item : TargetItem) (owner : Option Term) (v : Option TermValue) (ds : List Demand) → IsItemOf item → All IsOf ds → All IsOf (cons_option (demand_by n item owner v) ds)
  by_item n item (Some owner) (Some v) ds of all = All-cons IsOf (record { entry = n; owner = owner; prop = item.prop; value = v }) ds of all
  by_item n item (Some owner) None ds of all = all
  by_item n item None v ds of all = all

  by_items : (k : Known) (n : ℕ) (items : List TargetItem) → All IsItemOf items → All IsOf (item_demands program models k n items)
  by_items k n [] all = All-nil IsOf
  by_items k n (item ∷ items) all =
      by_item n item (term_of k.values item.owner) (content_value program models k item.content) (item_demands program models k n items) (All-head IsItemOf item items all)
      (by_items k n items (All-tail IsItemOf item items all))

  by_entry : (n : ℕ) (rel : Rel) (k : Known) → All IsItemOf (target_items program rel) → All IsOf (demands_where program models n rel k)
  by_entry n rel k all = by (is_unmet program models rel k)
    where
      by : (b : Bool) → All IsOf (if b then [] else item_demands program models k n (target_items program rel))
      by true = All-nil IsOf
      by false = by_items k n (target_items program rel) all

  of_entry : (n : ℕ) (e : Entry) → ((rel : Rel) → slice_get program.rels e.rel ≡ Some rel → All IsItemOf (target_items program rel)) → All IsOf (entry_demands program models n e)
  of_entry n e items = by (slice_get program.rels e.rel) refl
    where
      by : (o : Option Rel) → slice_get program.rels e.rel ≡ o → All IsOf (option_map_or (λ rel. demands_where program models n rel (entry_known program models rel e.values)) o [])
      by None found = All-nil IsOf
      by (Some rel) found = by_entry n rel (entry_known program models rel e.values) (items rel found)

  of_entries : (n : ℕ) (es : List Entry) → ((e : Entry) → Contains es e → (rel : Rel) → slice_get program.rels e.rel ≡ Some rel → All IsItemOf (target_items program rel))
      → All IsOf (demands_from program models n es)
  of_entries n [] items = All-nil IsOf
  of_entries n (e ∷ es) items =
      All-append IsOf (entry_demands program models n e) (demands_from program models (suc n) es) (of_entry n e (items e (contains_first e es)))
      (of_entries (suc n) es (λ x c. items x (contains_later x e es c)))

-- ---- the set

module _ (metas : List MetaDesc) (program : Program) (models : List ModelData) (p : CanBeEnforced metas program models) (table : List Term) (es sorted : List NumberedEntry)
    (whole : AreAllEntries program models table es) (moved : IsPermutation es sorted) (up : IsSorted (numbered_order table) sorted) where
  pub sorted_within : All (IsEntryWithin table) sorted
  sorted_within = All-permutation (IsEntryWithin table) es sorted moved whole.within

  module _ (d : DemandData) (entries : d.entries ≡ entries_in table sorted) (list : d.list ≡ demands_in table (listed_from 0 sorted)) (terms : d.terms ≡ demanded_terms d.list) where
    are : AreEntries program models d.entries
    are = subst (AreEntries program models) (sym entries) (are_entries program models table es sorted whole.exact whole.distinct moved up)

    told : d.list ≡ demands_of program models d.entries
    told =
        list ∙ demands_told program models table 0 sorted (All-permutation (MakesDemands program models table) es sorted moved whole.demands)
        ∙ ap (demands_of program models) (sym entries)

    pub props_known : All (λ (x : Demand). IsPropOf (target_metamodel program models) x.prop) d.list
    props_known =
        subst (All (λ (x : Demand). IsPropOf (target_metamodel program models) x.prop)) (sym told)
        (of_entries program models (target_metamodel program models) 0 d.entries (λ e c rel found.
        (is_orderable metas program models p e.rel rel found (entry_rooted metas program models p.evaluable p.enforceable e (are.only e c) rel found).direction).props))

    pub is_set : AreAtPeace (target_metamodel program models) d.list → IsDemandSet program models d
    is_set peace = record { entries = are; list = told; terms = terms; acyclic = whole.acyclic; short = whole.short; met = whole.met; peaceful = peace }

    pub is_conflict : (clash : Clash) → IsClash (target_metamodel program models) d.entries d.list clash → IsConflict program models clash
    is_conflict clash is = record {
      entries = d.entries;
      are = are;
      acyclic = whole.acyclic;
      short = whole.short;
      met = whole.met;
      clash_is = subst (λ ds. IsClash (target_metamodel program models) d.entries ds clash) told is;
    }

-- ---- other target models

pub set_moved : (metas : List MetaDesc) (program : Program) (ms ns : List ModelData) → CanBeEnforced metas program ms → AgreeBut program.target ms ns
    → target_metamodel program ms ≡ target_metamodel program ns → (d : DemandData) → IsDemandSet program ms d → IsDemandSet program ns d
set_moved metas program ms ns p agree meta d s = record {
  entries = are_to metas program ms ns p.evaluable p.enforceable agree meta d.entries s.entries;
  list = s.list ∙ demands_same metas program ms ns p.evaluable p.enforceable agree meta d.entries s.entries.only;
  terms = s.terms;
  acyclic = λ chain c. s.acyclic chain (cyclic_back metas program ms ns p.evaluable p.enforceable agree meta chain c);
  short = λ chain c. s.short chain (deep_back metas program ms ns p.evaluable p.enforceable agree meta chain c);
  met = λ e u. s.met e (unmet_back metas program ms ns p.evaluable p.enforceable agree meta e u);
  peaceful = subst (λ m. AreAtPeace m d.list) meta s.peaceful;
}

-- what is refused, too
pub refusal_moved : (metas : List MetaDesc) (program : Program) (ms ns : List ModelData) → CanBeEnforced metas program ms → AgreeBut program.target ms ns
    → target_metamodel program ms ≡ target_metamodel program ns → (e : DemandError) → IsRefusal program ms e → IsRefusal program ns e
refusal_moved metas program ms ns p agree meta (errors.Cycle chain) r = cyclic_to metas program ms ns p.evaluable p.enforceable agree meta chain r
refusal_moved metas program ms ns p agree meta (errors.Deep chain) r = deep_to metas program ms ns p.evaluable p.enforceable agree meta chain r
refusal_moved metas program ms ns p agree meta (errors.Unmet entry place) r = (
  unmet_to metas program ms ns p.evaluable p.enforceable agree meta entry r.0,
  record {
    rel = r.1.rel;
    found = r.1.found;
    first = sym (unmet_at_as metas program ms ns p.evaluable p.enforceable agree meta entry r.1.rel r.0.is r.1.found) ∙ r.1.first;
  },
)
refusal_moved metas program ms ns p agree meta (errors.Conflict clash) r = record {
  entries = r.entries;
  are = are_to metas program ms ns p.evaluable p.enforceable agree meta r.entries r.are;
  acyclic = λ chain c. r.acyclic chain (cyclic_back metas program ms ns p.evaluable p.enforceable agree meta chain c);
  short = λ chain c. r.short chain (deep_back metas program ms ns p.evaluable p.enforceable agree meta chain c);
  met = λ e u. r.met e (unmet_back metas program ms ns p.evaluable p.enforceable agree meta e u);
  clash_is =
      subst (λ m. IsClash m r.entries (demands_of program ns r.entries) clash) meta
      (subst (λ ds. IsClash (target_metamodel program ms) r.entries ds clash) (demands_same metas program ms ns p.evaluable p.enforceable agree meta r.entries r.are.only) r.clash_is);
}
refusal_moved metas program ms ns p agree meta errors.NoMemory r = tt
