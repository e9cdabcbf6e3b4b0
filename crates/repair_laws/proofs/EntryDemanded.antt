-- The terms of entries are demanded, and so are the key values of demanded terms, where no entry is unmet.
use Rattle.std.specs.Prelude.{◌≡◌, ◌⊎◌, ℕ, suc, Bool, true, false, List, [], ◌∷◌, Option, None, Some, slice_get, Contains, if◌then◌else◌}
use Rattle.std.specs.Option.{option_map_or, option_and_then}
use Rattle.std.proofs.Common.{refl, ap, sym, subst, inl, inr}
use Rattle.std.proofs.lemmas.Option.{none-some, same_Some}
use Rattle.std.proofs.lemmas.List.Elements.{Contains-append_cases}
use Rattle.mof_metamodel.specs.declared.desc.MetaDesc.{MetaDesc}
use Rattle.object_tables.specs.Models.{ModelData}
use Rattle.qv_syntax.specs.declared.program.Program.{Program}
use Rattle.qv_syntax.specs.declared.program.Rel.{Rel}
use Rattle.qv_syntax.specs.WellFormed.{IsWellFormed}
use Rattle.template_match.proofs.ListLaws.{contains_later}
use Rattle.mof_metamodel.proofs.Facts.{contains_first}
use Rattle.enforcement_rules.specs.TargetParts.{target_desc}
use Rattle.enforcement_rules.specs.Rules.{IsEnforceable}
use Rattle.repair_semantics.specs.declared.term.Term.{Term}
use Rattle.repair_semantics.specs.declared.term.TermValue.{TermValue}
use Rattle.repair_semantics.specs.declared.entry.Entry.{Entry}
use Rattle.repair_semantics.specs.declared.demand.Demand.{Demand}
use Rattle.repair_semantics.specs.Terms.{term_in}
use Rattle.repair_semantics.specs.EntryValues.{value_of, term_of, Known}
use Rattle.repair_semantics.specs.TargetItems.{Content, TargetItem, target_items, target_metamodel}
use Rattle.repair_semantics.specs.Making.{content_value, entry_known}
use Rattle.repair_semantics.specs.Unmet.{is_unmet}
use Rattle.repair_semantics.specs.Entries.{IsEntry}
use Rattle.repair_semantics.specs.EntryOrder.{AreEntries}
use Rattle.repair_semantics.specs.Demands.{demand_by, item_demand, item_demands, demands_where, entry_demands, demands_from, demands_of, demanded_terms}
use Rattle.reading_laws.specs.Readings.{HasTermsAmong}
use Rattle.repair_laws.specs.DemandedKeys.{IsInDemands, IsDemandedByKey}
use Rattle.repair_laws.proofs.ManagedLaws.{from_filter_map}
use Rattle.repair_laws.proofs.EntryDemands.{Demanded, of_entry}
use Rattle.repair_laws.proofs.EntryTerms.{term_alone}
use Rattle.repair_laws.proofs.EntryGood.{IsGoodEntry, all_good}
use Rattle.repair_laws.proofs.DemandedTerms.{demanded_in, in_demanded}
use Rattle.mof_metamodel.proofs.Facts.{nothing_in}

-- ---- the entry and the item of a demand

pub record IsAskedBy (program : Program) (models : List ModelData) (es : List Entry) (d : Demand) : Type 0 where
  pub e : Entry
  pub among : Contains es e
  pub rel : Rel
  pub found : slice_get program.rels e.rel ≡ Some rel
  pub item : TargetItem
  pub there : Contains (target_items program rel) item
  pub owner : term_of (entry_known program models rel e.values).values item.owner ≡ Some d.owner
  pub value : content_value program models (entry_known program models rel e.values) item.content ≡ Some d.value
  pub prop : d.prop ≡ item.prop

module _ (program : Program) (models : List ModelData) where
  -- a demand that an item makes has its owner, its property and its value
  parts : (number : ℕ) (item : TargetItem) (o : Option Term) (x : Option TermValue) (d : Demand) → demand_by number item o x ≡ Some d
      → (o ≡ Some d.owner) × (x ≡ Some d.value) × (d.prop ≡ item.prop)
  parts number item None x d h = absurd (none-some d h)
  parts number item (Some t) None d h = absurd (none-some d h)
  parts number item (Some t) (Some y) d h =
      let same = same_Some (let w : Demand = record { entry = number; owner = t; prop = item.prop; value = y } in w) d h in
      (ap (λ (w : Demand). Some w.owner) same, ap (λ (w : Demand). Some w.value) same, sym (ap (λ (w : Demand). w.prop) same))

  of_item : (es : List Entry) (number : ℕ) (e : Entry) (d : Demand) → Contains es e → Contains (entry_demands program models number e) d → IsAskedBy program models es d
  of_item es number e d among c = by (slice_get program.rels e.rel) refl c
    where
      met : (rel : Rel) → slice_get program.rels e.rel ≡ Some rel → (b : Bool)
          → Contains (if b then [] else item_demands program models (entry_known program models rel e.values) number (target_items program rel)) d → IsAskedBy program models es d
      met rel found true g = absurd (nothing_in d g)
      met rel found false g =
          let k = entry_known program models rel e.values in
          let (item, there, is) = from_filter_map (item_demand program models k number) (target_items program rel) d g in
          let (owner, value, prop) = parts number item (term_of k.values item.owner) (content_value program models k item.content) d is in
          record { e = e; among = among; rel = rel; found = found; item = item; there = there; owner = owner; value = value; prop = prop }

      by : (o : Option Rel) → slice_get program.rels e.rel ≡ o
          → Contains (option_map_or (λ r. demands_where program models number r (entry_known program models r e.values)) o []) d → IsAskedBy program models es d
      by None found g = absurd (nothing_in d g)
      by (Some rel) found g = met rel found (is_unmet program models rel (entry_known program models rel e.values)) g

  pub asked_by : (es all : List Entry) (before : ℕ) (d : Demand) → ((e : Entry) → Contains es e → Contains all e) → Contains (demands_from program models before es) d → IsAskedBy program models all d
  asked_by [] all before d within c = absurd (nothing_in d c)
  asked_by (e ∷ es) all before d within c =
      by (asked_by es all (suc before) d (λ x there. within x (contains_later x e es there))) (Contains-append_cases (entry_demands program models before e) (demands_from program models (suc before) es) d c)
    where
      by : (Contains (demands_from program models (suc before) es) d → IsAskedBy program models all d)
          → (Contains (entry_demands program models before e) d ⊎ Contains (demands_from program models (suc before) es) d) → IsAskedBy program models all d
      by later (inl here) = of_item all before e d (within e (contains_first e es)) here
      by later (inr there) = later there

term_there : (o : Option TermValue) (t : Term) → option_and_then term_in o ≡ Some t → (x : TermValue) × (o ≡ Some x) × (term_in x ≡ Some t)
term_there None t h = absurd (none-some t h)
term_there (Some x) t h = (x, refl, h)

-- a term that an item gives is that of a variable
pub content_term : (program : Program) (models : List ModelData) (k : Known) (c : Content) (x : TermValue) (t : Term) → content_value program models k c ≡ Some x → term_in x ≡ Some t
    → (w : ℕ) × (value_of k.values w ≡ Some x)
content_term program models k Content.empty x t h is = absurd (none-some x h)
content_term program models k (Content.expression e) x t h is = let (w, alone, at) = term_alone program models k e x t h is in (w, at)
content_term program models k (Content.template v) x t h is = (v, h)

module _ (metas : List MetaDesc) (program : Program) (formed : IsWellFormed metas program) (enforceable : IsEnforceable metas program)
    (sources : List ModelData) (m : ModelData) (meta_is : target_metamodel program sources ≡ m.meta) (desc : target_desc metas program ≡ m.meta) (entries : List Entry) (are : AreEntries program sources entries)
    (met : (e : Entry) (rel : Rel) → IsEntry program sources e → slice_get program.rels e.rel ≡ Some rel → is_unmet program sources rel (entry_known program sources rel e.values) ≡ false) where
  abbrev demands : List Demand
  demands = demands_of program sources entries

  asked : (e : Entry) (rel : Rel) → IsEntry program sources e → slice_get program.rels e.rel ≡ Some rel → (number : ℕ) × Demanded program sources rel (entry_known program sources rel e.values) demands number
  asked e rel is found = of_entry program sources entries 0 e rel (are.all e is) found (met e rel is found)

  pub good : (e : Entry) → IsEntry program sources e → (rel : Rel) → slice_get program.rels e.rel ≡ Some rel
      → IsGoodEntry program sources m.meta demands e rel
  good = all_good metas program formed enforceable sources m meta_is desc demands asked

  pub terms_among : (e : Entry) (rel : Rel) → IsEntry program sources e → slice_get program.rels e.rel ≡ Some rel
      → HasTermsAmong program m (demanded_terms demands) rel (entry_known program sources rel e.values).values
  terms_among e rel is found = record {
    among = λ v t h.
        let (x, at, term) = term_there (value_of (entry_known program sources rel e.values).values v) t h in
        in_demanded demands t ((good e is rel found).good.terms v x t at term).told.in_demands;
    typed = λ v t class h class_is.
        let (x, at, term) = term_there (value_of (entry_known program sources rel e.values).values v) t h in
        ((good e is rel found).good.terms v x t at term).typed class class_is;
  }

  pub asked_entry : (d : Demand) → Contains demands d → IsAskedBy program sources entries d
  asked_entry d c = asked_by program sources entries entries 0 d (λ e there. there) c

  pub keys_demanded : (t : Term) → Contains (demanded_terms demands) t → IsDemandedByKey program m.meta demands t
  keys_demanded t c = by (demanded_in demands t c)
    where
      by : IsInDemands demands t → IsDemandedByKey program m.meta demands t
      by (IsInDemands.owner d there same) =
          let a = asked_entry d there in
          let k = entry_known program sources a.rel a.e.values in
          let (x, at, term) = term_there (value_of k.values a.item.owner) d.owner a.owner in
          subst (IsDemandedByKey program m.meta demands) same ((good a.e (are.only a.e a.among) a.rel a.found).good.terms a.item.owner x d.owner at term).told.key
      by (IsInDemands.value d there term) =
          let a = asked_entry d there in
          let k = entry_known program sources a.rel a.e.values in
          let (w, at) = content_term program sources k a.item.content d.value t a.value term in
          ((good a.e (are.only a.e a.among) a.rel a.found).good.terms w d.value t at term).told.key
