-- The demands of entries of a program that can be enforced can be placed in a valid target.
use Rattle.std.specs.Prelude.{◌≡◌, ◌≢◌, ◌<◌, ◌≤◌, ◌+◌, ◌^◌, ℕ, List, length, Some, AllPairs, Contains, slice_get}
use Rattle.std.specs.List.{flat_map}
use Rattle.std.proofs.Common.{ap, sym, ◌∙◌, subst, arith, get_or}
use Rattle.std.proofs.lemmas.Option.{slice_get-map, slice_get-get_or}
use Rattle.std.specs.Option.{option_map}
use Rattle.mof_metamodel.specs.declared.desc.MetaDesc.{MetaDesc}
use Rattle.object_tables.specs.Models.{ModelData}
use Rattle.object_tables.specs.Validity.{Valid}
use Rattle.qv_syntax.specs.declared.program.Program.{Program}
use Rattle.repair_semantics.specs.declared.term.Term.{Term, out-Term}
use Rattle.repair_semantics.specs.declared.entry.Entry.{Entry}
use Rattle.repair_semantics.specs.declared.demand.Demand.{Demand}
use Rattle.repair_semantics.specs.Demands.{demands_of, demanded_terms, terms_in}
use Rattle.repair_semantics.specs.Conflicts.{AreAtPeace}
use Rattle.repair_semantics.specs.Images.{image}
use Rattle.repair_semantics.specs.CandidateObjects.{fresh_terms}
use Rattle.repair_laws.specs.Enforced.{AreEnforced}
use Rattle.repair_laws.proofs.DemandedTerms.{closed_by_keys}
use Rattle.repair_laws.proofs.EnforcedReading.{all_go, keys_enforced, tells_enforced}
use Rattle.repair_laws.proofs.ImageLaws.{one_image_one_term}
use Rattle.repair_laws.proofs.TermOrder.{once_ascending, one_place}
use Rattle.repair_laws.proofs.TypedData.{typed_data}
use Rattle.demand_types.proofs.TypedLaws.{typed_demands, concrete_terms}
use Rattle.candidate_laws.specs.Placing.{CanStand, IsConcrete, Placeable}
use Rattle.term_table.specs.TermTables.{term_at}
use Rattle.demand_set.specs.DemandSets.{DemandData}
use Rattle.made_objects.specs.Making.{terms_at}
use Rattle.enforce_mode.specs.Premises.{AreDemandsFor, AreDemands}

module _ (metas : List MetaDesc) (program : Program) (sources : List ModelData) (m : ModelData) (entries : List Entry)
    (all : AreEnforced metas program sources m entries) where
  abbrev demands : List Demand
  demands = demands_of program sources entries

  -- what each demand says can stand in a model of the target
  can_stand : (d : Demand) → Contains demands d → CanStand program m.meta d
  can_stand d c =
      let goes = all_go metas program sources m entries all (typed_data metas program sources all.evaluable all.enforceable) d c in
      let typed = typed_demands metas program sources m entries all d c in
      record {
        has = goes.has;
        object = λ t is. record { reference = goes.object t is; conforms = typed.term t is };
        datum = λ x is. (let seen = goes.datum x is in record {
          attribute = goes.attribute x is;
          value = record { value = seen.value; value_is = seen.value_is; seen = seen.seen; typed = typed.datum x seen.value is seen.value_is };
        });
      }

  -- each demanded term is of a concrete class
  is_concrete : (t : Term) → Contains (demanded_terms demands) t → IsConcrete m.meta (out-Term t).class.0
  is_concrete t c = let h = concrete_terms metas program sources m entries all t c in record { known = h.class; concrete = h.concrete }

  -- two demanded terms with one image are one term
  one_term : Valid m → (t u : Term) (o : ℕ) → Contains (demanded_terms demands) t → Contains (demanded_terms demands) u → image program m t ≡ Some o
      → image program m u ≡ Some o → t ≡ u
  one_term valid t u o c other h k =
      one_image_one_term program m (demanded_terms demands) valid (tells_enforced metas program sources m entries all)
      (closed_by_keys program m.meta demands (keys_enforced metas program sources m entries all)) t c u o h k

  all_placeable : Valid m → AreAtPeace m.meta demands → length (fresh_terms program m (demanded_terms demands)) + length m.objects ≤ 2 ^ 64
      → Placeable program m demands
  all_placeable valid peaceful few = record {
    kept = valid.kept;
    stand = can_stand;
    concrete = is_concrete;
    apart = one_term valid;
    peaceful = peaceful;
    few = few;
  }

placeable_for : (metas : List MetaDesc) (program : Program) (sources : List ModelData) (m : ModelData) (d : DemandData)
    → AreDemandsFor metas program sources m d → Valid m → length (fresh_terms program m (demanded_terms d.list)) + length m.objects ≤ 2 ^ 64
    → Placeable program m d.list
placeable_for metas program sources m d are valid few =
    let Few : List Demand → Type 0 = λ ds. length (fresh_terms program m (demanded_terms ds)) + length m.objects ≤ 2 ^ 64 in
    subst (Placeable program m) (sym are.list)
    (all_placeable metas program sources m are.entries are.enforced valid (subst (AreAtPeace m.meta) are.list are.peaceful) (subst Few are.list few))

-- the demands can be placed, where there are identifiers enough
pub placeable : (program : Program) (m : ModelData) (d : DemandData) → AreDemands program m d → Valid m
    → length (fresh_terms program m (demanded_terms d.list)) + length m.objects ≤ 2 ^ 64 → Placeable program m d.list
placeable program m d demands valid few = placeable_for demands.metas program demands.sources m d demands.are valid few

-- ---- numbers of terms

-- no number stands twice among those of the demanded terms
pub numbers_once : (table : List Term) (numbers : List ℕ) (demands : List Demand) → terms_at table numbers ≡ demanded_terms demands
    → AllPairs (λ a b. a ≢ b) numbers
numbers_once table numbers demands is i j d below within same =
    let before : i < length numbers = omega (arith, below, within) in
    let first : slice_get (demanded_terms demands) i ≡ Some (term_at table (get_or numbers i d)) =
    ap (λ ts. slice_get ts i) (sym is) ∙ slice_get-map (term_at table) numbers i
    ∙ ap (option_map (term_at table)) (slice_get-get_or numbers i d before) in
    let second : slice_get (demanded_terms demands) j ≡ Some (term_at table (get_or numbers i d)) =
    ap (λ ts. slice_get ts j) (sym is) ∙ slice_get-map (term_at table) numbers j
    ∙ ap (option_map (term_at table)) (slice_get-get_or numbers j d within ∙ ap (λ n. Some n) (sym same)) in
    let place : i ≡ j = one_place (demanded_terms demands) i j (term_at table (get_or numbers i d)) (once_ascending (flat_map terms_in demands))
    first second in
    omega (arith, below, place)
