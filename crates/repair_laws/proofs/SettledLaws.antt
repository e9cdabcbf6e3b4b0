-- Over a target where the relations are satisfied all demands stand; so, where besides no object is unneeded, the model that enforcement makes is
-- the target.
use Rattle.std.specs.Prelude.{◌≡◌, ◌⊎◌, ℕ, suc, Bool, true, false, ◌&&◌, List, [], ◌∷◌, ◌++◌, Option, None, Some, slice_get, Contains, if◌then◌else◌}
use Rattle.std.specs.List.{list_all}
use Rattle.std.specs.Option.{option_map_or}
use Rattle.std.proofs.Common.{refl, ap, sym, ◌∙◌, subst, arith, inl, inr, true≢false}
use Rattle.std.proofs.lemmas.Bool.{and_parts}
use Rattle.std.proofs.lemmas.List.Elements.{Contains-append_cases}
use Rattle.mof_metamodel.specs.declared.desc.MetaDesc.{MetaDesc}
use Rattle.object_tables.specs.Models.{ModelData}
use Rattle.object_tables.specs.Validity.{Valid}
use Rattle.qv_syntax.specs.declared.program.Program.{Program}
use Rattle.qv_syntax.specs.declared.program.Rel.{Rel}
use Rattle.qv_syntax.specs.WellFormed.{IsWellFormed}
use Rattle.enforcement_rules.specs.Rules.{IsEnforceable}
use Rattle.qvtr_semantics.specs.Templates.{meets}
use Rattle.qvtr_semantics.specs.Bindings.{have_values, target_meets, conjunct_holds}
use Rattle.qvtr_semantics.specs.Satisfaction.{Satisfied}
use Rattle.template_match.proofs.ListLaws.{contains_later}
use Rattle.mof_metamodel.proofs.Facts.{contains_first}
use Rattle.repair_semantics.specs.declared.demand.Demand.{Demand}
use Rattle.repair_semantics.specs.declared.entry.Entry.{Entry}
use Rattle.repair_semantics.specs.TargetItems.{target_items}
use Rattle.repair_semantics.specs.Making.{entry_known}
use Rattle.repair_semantics.specs.Entries.{IsEntry}
use Rattle.repair_semantics.specs.Demands.{item_demands, demands_where, entry_demands, demands_from, demands_of, demanded_terms}
use Rattle.repair_semantics.specs.Claims.{Held}
use Rattle.repair_semantics.specs.Images.{holds, image}
use Rattle.repair_semantics.specs.Deletions.{managed_classes, images_of, is_unneeded}
use Rattle.repair_semantics.specs.Candidates.{candidate}
use Rattle.reading_laws.specs.Readings.{Numbering, held_as, Stands, AllStand}
use Rattle.repair_laws.specs.EntryReadings.{IsEntryOf, IsReadAs, AreEntriesRead}
use Rattle.repair_laws.proofs.FoundLaws.{NotNot, IsRead, entry_found}
use Rattle.repair_laws.proofs.StandLaws.{items_stand}
use Rattle.repair_laws.proofs.TermListLaws.{standing_terms}
use Rattle.repair_laws.proofs.UnchangedLaws.{nothing_changes}
use Rattle.reading_laws.proofs.ItemLaws.{throughout_matched}

-- ---- a demand that can't be refuted stands

still : (program : Program) (m : ModelData) (number : Numbering) (d : Demand) → NotNot (Stands program m number d) → Stands program m number d
still program m number d here = by (number d.owner) refl (held_as number d.value) refl
  where
    one : {X : Type 0} (x y : X) (o : Option X) → o ≡ Some x → o ≡ Some y → x ≡ y
    one x y o a b = cc

    none : {X : Type 0} (x : X) (o : Option X) → o ≡ None → o ≡ Some x → ⊥
    none x o a b = cc

    told : (o : ℕ) (h : Held ℕ) (b : Bool) → number d.owner ≡ Some o → held_as number d.value ≡ Some h → holds program m o d.prop.0 h ≡ b → Stands program m number d
    told o h true owner held is = record { owner = o; owner_is = owner; held = h; held_is = held; holds = is }
    told o h false owner held is = absurd (here (λ s.
        let owners : s.owner ≡ o = one s.owner o (number d.owner) s.owner_is owner in
        let helds : s.held ≡ h = one s.held h (held_as number d.value) s.held_is held in
        true≢false (sym s.holds ∙ ap (λ n. holds program m n d.prop.0 s.held) owners ∙ ap (holds program m o d.prop.0) helds ∙ is)))

    by : (o : Option ℕ) → number d.owner ≡ o → (h : Option (Held ℕ)) → held_as number d.value ≡ h → Stands program m number d
    by None owner h held = absurd (here (λ s. none s.owner (number d.owner) owner s.owner_is))
    by (Some o) owner None held = absurd (here (λ s. none s.held (held_as number d.value) held s.held_is))
    by (Some o) owner (Some h) held = told o h (holds program m o d.prop.0 h) owner held refl

module _ (metas : List MetaDesc) (program : Program) (models : List ModelData) (m : ModelData) (number : Numbering) (target : slice_get models program.target ≡ Some m)
    (well : IsWellFormed metas program) (enforceable : IsEnforceable metas program)
    (satisfied : Satisfied program models) (laws : AreEntriesRead program models number) where
  one_rel : (a b : Rel) (o : Option Rel) → o ≡ Some a → o ≡ Some b → a ≡ b
  one_rel a b o x y = cc

  -- the demands of an entry that is read
  read_stand : (e : Entry) (rel : Rel) (n : ℕ) → IsEntryOf program models e rel → IsRead metas program models number well enforceable satisfied laws e rel
      → AllStand program m number (item_demands program models (entry_known program models rel e.values) n (target_items program rel))
  read_stand e rel n is read =
      let r : IsReadAs program models number e rel read.c read.g = read.reads in
      let met : list_all (target_meets program models read.g) rel.domains ≡ true =
      (and_parts (have_values program models rel rel.existential read.g) (list_all (target_meets program models read.g) rel.domains)
      (and_parts (have_values program models rel rel.existential read.g && list_all (target_meets program models read.g) rel.domains)
      (list_all (conjunct_holds program models read.g) rel.wheres) r.target.meets).0).1 in
      items_stand program models m number target rel (entry_known program models rel e.values) read.g r.all (throughout_matched program models read.g)
      (λ item ex x among content given. laws.given e rel read.c read.g item ex x is r among content given) (λ item d among own. laws.own e rel item d is among own) met n

  entry_stands : (e : Entry) (n : ℕ) → IsEntry program models e → AllStand program m number (entry_demands program models n e)
  entry_stands e n is d has =
      still program m number d (λ k. entry_found metas program models number well enforceable satisfied laws e is (λ found.
      let own : IsEntryOf program models e found.rel = record { is = is; found = found.is } in
      let here : AllStand program m number (item_demands program models (entry_known program models found.rel e.values) n (target_items program found.rel)) =
      read_stand e found.rel n own found.read in
      k (here d (subst (λ b. Contains (if b then [] else item_demands program models (entry_known program models found.rel e.values) n (target_items program found.rel)) d)
      (laws.met e found.rel own)
      (subst (λ o. Contains (option_map_or (λ rel. demands_where program models n rel (entry_known program models rel e.values)) o []) d) found.is has)))))

  from_stand : (es : List Entry) (n : ℕ) → ((e : Entry) → Contains es e → IsEntry program models e) → AllStand program m number (demands_from program models n es)
  from_stand [] n are d (k, within, is) = absurd (omega (arith, within))
  from_stand (e ∷ es) n are d has =
      by (entry_stands e n (are e (contains_first e es)) d) (from_stand es (suc n) (λ f c. are f (contains_later f e es c)) d)
      (Contains-append_cases (entry_demands program models n e) (demands_from program models (suc n) es) d has)
    where
      by : (Contains (entry_demands program models n e) d → Stands program m number d) → (Contains (demands_from program models (suc n) es) d → Stands program m number d)
          → Contains (entry_demands program models n e) d ⊎ Contains (demands_from program models (suc n) es) d → Stands program m number d
      by here later (inl c) = here c
      by here later (inr c) = later c

  -- over a target where the relations are satisfied all demands stand
  pub demands_are_met : (entries : List Entry) → ((e : Entry) → Contains entries e → IsEntry program models e) → AllStand program m number (demands_of program models entries)
  demands_are_met entries are = from_stand entries 0 are

-- where besides no object is unneeded nothing changes
pub satisfied_is_settled : (metas : List MetaDesc) (program : Program) (models : List ModelData) (m : ModelData) (entries : List Entry) → slice_get models program.target ≡ Some m → Valid m
    → IsWellFormed metas program → IsEnforceable metas program → Satisfied program models → AreEntriesRead program models (image program m) → ((e : Entry) → Contains entries e → IsEntry program models e)
    → ((o : ℕ) → is_unneeded m (managed_classes program) (images_of program m (demanded_terms (demands_of program models entries))) o ≡ false)
    → candidate program m (demands_of program models entries) ≡ m
satisfied_is_settled metas program models m entries target valid well enforceable satisfied laws are needed =
    let demands : List Demand = demands_of program models entries in
    let stand : AllStand program m (image program m) demands = demands_are_met metas program models m (image program m) target well enforceable satisfied laws entries are in
    nothing_changes program m valid demands needed (standing_terms program m (image program m) demands stand) stand
