-- What is planned for a target: which objects the demanded terms are, by number (this engine's own).
use Rattle.std.specs.Prelude.{◌≡◌, ◌<◌, ◌≤◌, ℕ, Bool, List, map, length, Option, All}
use Rattle.std.specs.List.{range_with_len}
use Rattle.object_tables.specs.declared.limit.TheConstants.{MAX_OBJECTS}
use Rattle.object_tables.specs.declared.value.ObjId.{ObjId}
use Rattle.object_tables.specs.Models.{ModelData}
use Rattle.qv_syntax.specs.declared.program.Program.{Program}
use Rattle.repair_semantics.specs.declared.term.Term.{Term}
use Rattle.repair_semantics.specs.declared.demand.Demand.{Demand}
use Rattle.repair_semantics.specs.Demands.{demanded_terms}
use Rattle.repair_semantics.specs.Deletions.{managed_classes, images_of, stays}
use Rattle.repair_semantics.specs.CandidateObjects.{fresh_terms, term_number}
use Rattle.repair_semantics.specs.Candidates.{candidate}
use Rattle.candidate_laws.specs.Placing.{Placeable}
use Rattle.term_table.specs.TermTables.{term_at}
use Rattle.demand_conflicts.specs.declared.demand.NumberedDemand.{NumberedDemand}
use Rattle.demand_conflicts.specs.NumberedDemands.{demands_in, IsDemandWithin}
use Rattle.made_objects.specs.Making.{terms_at}
use Rattle.made_objects.specs.Numbers.{number_at}
use Rattle.enforce_mode.specs.declared.plan.Plan.{Plan}

-- demands by number that can be placed in the target, with the numbers of the terms that are demanded
pub record ArePlaced (program : Program) (m : ModelData) (table : List Term) (list : List NumberedDemand) (terms : List ℕ) : Type 0 where
  pub placeable : Placeable program m (demands_in table list)
  pub demanded : terms_at table terms ≡ demanded_terms (demands_in table list)
  pub within : All (IsDemandWithin table) list

-- which object each term of the table is, the images of the demanded ones, and those of them that get fresh objects
pub record AreNumbered (program : Program) (m : ModelData) (table : List Term) (terms : List ℕ) (objects : List (Option ObjId)) (images : List ObjId)
    (fresh : List ℕ) : Type 0 where
  pub numbers_are : (k : ℕ) → k < length table → number_at objects k ≡ term_number program m (terms_at table terms) (term_at table k)
  pub images_are : map (λ o. o.0) images ≡ images_of program m (terms_at table terms)
  pub fresh_are : terms_at table fresh ≡ fresh_terms program m (terms_at table terms)
  pub within : All (λ k. k < length table) fresh
  pub few : length fresh ≤ MAX_OBJECTS

-- ---- a plan

abbrev pub plan_demands : Plan → List Demand
plan_demands p = demands_in p.numbered.table.now p.numbered.list.now

-- its demands can be placed, and its terms have their objects
pub record IsPlan (p : Plan) : Type 0 where
  pub placed : ArePlaced p.program.now p.target.now p.numbered.table.now p.numbered.list.now p.numbered.terms.now
  pub numbered : AreNumbered p.program.now p.target.now p.numbered.table.now p.numbered.terms.now p.numbers.now.objects.items p.numbers.now.images
      p.numbers.now.fresh
  pub room : length p.target.now.objects ≤ 3_999_000_000

-- the model that is made of the target
abbrev pub planned : Plan → ModelData
planned p = candidate p.program.now p.target.now (plan_demands p)

-- for each object of the target whether it stays
abbrev pub planned_stays : Plan → List Bool
planned_stays p =
    map (stays p.target.now (managed_classes p.program.now) (map (λ o. o.0) p.numbers.now.images)) (range_with_len 0 (length p.target.now.objects))
