-- The model that is made from numbered parts is the one that enforcing the demands makes.
use Rattle.std.specs.Prelude.{◌≡◌, ◌<◌, ◌≤◌, ◌+◌, ◌^◌, ℕ, suc, Bool, false, true, ◌&&◌, not, is_some, is_none, List, [], ◌∷◌, ◌++◌, map, length, Option, None, Some, All, Contains, if◌then◌else◌}
use Rattle.std.specs.List.{filter, range_with_len}
use Rattle.std.specs.Option.{option_map}
use Rattle.std.proofs.Common.{refl, ap, sym, ◌∙◌, subst, arith, inl, inr, get_or}
use Rattle.std.proofs.lemmas.Bool.{cases_lt}
use Rattle.std.proofs.lemmas.List.{get_or_past, length-map, length-append}
use Rattle.std.proofs.lemmas.List.Elements.{Contains-get_or, filter-append}
use Rattle.std.proofs.lemmas.List.Filters.{length-filter_both}
use Rattle.std.proofs.lemmas.List.Sums.{length-filter}
use Rattle.std.proofs.lemmas.List.FromFn.{get_or-map-range_with_len, length-map-range_with_len}
use Rattle.std.proofs.lemmas.Option.{none-some}
use mathlib.Core.Path.{fun_ext}
use Rattle.mof_metamodel.specs.declared.desc.MetaDesc.{MetaDesc}
use Rattle.mof_metamodel.proofs.Facts.{contains_map}
use Rattle.mof_metamodel.proofs.PropLemmas.{prop_known}
use Rattle.object_tables.specs.declared.value.ObjId.{ObjId}
use Rattle.object_tables.specs.Objects.{Object}
use Rattle.object_tables.specs.Models.{ModelData, object_at, live_count}
use Rattle.object_tables.proofs.ListLemmas.{Contains-filter}
use Rattle.qv_syntax.specs.declared.program.Program.{Program}
use Rattle.repair_semantics.specs.declared.term.Term.{Term, out-Term}
use Rattle.repair_semantics.specs.declared.demand.Demand.{Demand}
use Rattle.repair_semantics.specs.Demands.{demanded_terms}
use Rattle.repair_semantics.specs.Claims.{Claim}
use Rattle.repair_semantics.specs.Terms.{each_once}
use Rattle.repair_semantics.specs.Images.{image}
use Rattle.repair_semantics.specs.Deletions.{managed_classes, images_of, is_deleted, stays}
use Rattle.repair_semantics.specs.CandidateObjects.{fresh_terms, term_number, unused_ids}
use Rattle.repair_semantics.specs.Candidates.{claims_by_number, slots_of, old_object, old_objects, fresh_objects, candidate_with, candidate}
use Rattle.candidate_laws.specs.Placing.{IsConcrete}
use Rattle.candidate_laws.proofs.IdentifierLaws.{enough_ids}
use Rattle.candidate_laws.proofs.Made.{old_at}
use Rattle.term_table.specs.TermTables.{term_at}
use Rattle.demand_conflicts.specs.declared.demand.NumberedDemand.{NumberedDemand}
use Rattle.demand_conflicts.specs.NumberedDemands.{demand_in, demands_in, IsDemandOf}
use Rattle.slot_claims.specs.ClaimOrder.{claim_order}
use Rattle.slot_claims.specs.DemandClaims.{all_claims}
use Rattle.slot_claims.proofs.CandidateLaws.{candidate_of_claims}
use Rattle.slot_claims.proofs.DemandLaws.{claims_are_the_demands}
use Rattle.made_objects.specs.Making.{terms_at, is_staying, made_of}
use Rattle.enforce_mode.specs.declared.plan.Plan.{Plan}
use Rattle.enforce_mode.specs.Plans.{ArePlaced, AreNumbered, IsPlan, planned, planned_stays}
use Rattle.enforce_mode.specs.Reports.{HasClassesOf}

-- ---- what stays

module _ (m : ModelData) (classes images : List ℕ) where
  -- by the list as by the definition
  pub staying_as : (staying : List Bool) → staying ≡ map (stays m classes images) (range_with_len 0 (length m.objects)) → (o : ℕ)
      → is_staying staying o ≡ stays m classes images o
  staying_as staying is o = elim (cases_lt o (length m.objects)) [
    | inl below ↦ ap (λ bs. get_or bs o false) is
        ∙ get_or-map-range_with_len (stays m classes images) 0 (length m.objects) o o false below (omega arith)
    | inr past ↦ (
        let long : length staying ≤ o = omega (arith, past, ap length is, length-map-range_with_len (stays m classes images) 0 (length m.objects)) in
        get_or_past staying o false long
        ∙ sym (ap (λ (x : Option Object). is_some x && not (is_deleted m classes images o)) (get_or_past m.objects o None past)))
  ]

-- ---- the model that is made

module _ (program : Program) (m : ModelData) (table : List Term) (list : List NumberedDemand) (terms : List ℕ) (objects : List (Option ObjId))
    (images : List ObjId) (fresh : List ℕ) (placed : ArePlaced program m table list terms)
    (numbered : AreNumbered program m table terms objects images fresh) where
  abbrev demands : List Demand
  demands = demands_in table list

  abbrev claims : List (Claim ℕ)
  claims = claims_by_number m.meta (term_number program m (demanded_terms demands)) demands

  claims_agree : all_claims m.meta objects list ≡ claims
  claims_agree =
      claims_are_the_demands table objects (term_number program m (demanded_terms demands))
      (λ n within. numbered.numbers_are n within ∙ ap (λ ts. term_number program m ts (term_at table n)) placed.demanded) m.meta list placed.within

  fresh_agree : terms_at table fresh ≡ fresh_terms program m (demanded_terms demands)
  fresh_agree = numbered.fresh_are ∙ ap (fresh_terms program m) placed.demanded

  images_agree : map (λ (o : ObjId). o.0) images ≡ images_of program m (demanded_terms demands)
  images_agree = numbered.images_are ∙ ap (images_of program m) placed.demanded

  module _ (staying : List Bool)
      (stay : staying ≡ map (stays m (managed_classes program) (map (λ (o : ObjId). o.0) images)) (range_with_len 0 (length m.objects))) where
    lives_agree : (o : ℕ) → is_staying staying o ≡ stays m (managed_classes program) (images_of program m (demanded_terms demands)) o
    lives_agree o =
        staying_as m (managed_classes program) (map (λ (o : ObjId). o.0) images) staying stay o
        ∙ ap (λ os. stays m (managed_classes program) os o) images_agree

    -- it is the one that enforcing the demands makes
    pub made_is : made_of program m staying (each_once claim_order (all_claims m.meta objects list)) table fresh ≡ candidate program m demands
    made_is =
        candidate_of_claims program m (is_staying staying) (all_claims m.meta objects list) (terms_at table fresh)
        ∙ ap (λ cs. candidate_with program m (is_staying staying) cs (terms_at table fresh)) claims_agree
        ∙ ap (λ ts. candidate_with program m (is_staying staying) claims ts) fresh_agree
        ∙ ap (λ live. candidate_with program m live claims (fresh_terms program m (demanded_terms demands))) (fun_ext lives_agree)

  -- the properties of demands are of the metamodel
  pub demands_known : All (IsDemandOf m.meta) list
  demands_known i d within =
      let here = contains_map (demand_in table) list (get_or list i d) (Contains-get_or list i d within) in
      prop_known m.meta (out-Term (demand_in table (get_or list i d)).owner).class.0 (get_or list i d).prop.0
      (placed.placeable.stand (demand_in table (get_or list i d)) here).has

  -- the fresh terms are of concrete classes
  pub fresh_concrete : All (λ k. IsConcrete m.meta (out-Term (term_at table k)).class.0) fresh
  fresh_concrete i d within =
      let t = term_at table (get_or fresh i d) in
      let here : Contains (fresh_terms program m (demanded_terms demands)) t =
      subst (λ (ts : List Term). Contains ts t) fresh_agree (contains_map (term_at table) fresh (get_or fresh i d)
      (Contains-get_or fresh i d within)) in
      placed.placeable.concrete t (Contains-filter (λ u. is_none (image program m u)) (demanded_terms demands) t here)

  -- there are as many of them as get fresh objects
  pub fresh_count : length fresh ≡ length (fresh_terms program m (demanded_terms demands))
  fresh_count = sym (length-map fresh (term_at table)) ∙ ap length fresh_agree

-- ---- the objects of the target in it

-- they keep their classes
pub classes_kept : (program : Program) (m : ModelData) (demands : List Demand) → HasClassesOf m (candidate program m demands)
classes_kept program m demands = record {
  meta = refl;
  classes = λ o class within is.
      by o class (object_at m o)
      (sym (ap (λ (x : Option Object). option_map (λ (ob : Object). ob.class) x)
      (old_at program m live claims (fresh_terms program m (demanded_terms demands)) o within)) ∙ is);
}
  where
    live : ℕ → Bool
    live = stays m (managed_classes program) (images_of program m (demanded_terms demands))

    claims : List (Claim ℕ)
    claims = claims_by_number m.meta (term_number program m (demanded_terms demands)) demands

    by : (o class : ℕ) (x : Option Object) → option_map (λ (ob : Object). ob.class) (old_object program m live claims o x) ≡ Some class
        → option_map (λ (ob : Object). ob.class) x ≡ Some class
    by o class None h = h
    by o class (Some ob) h = stands (record ob { slots = slots_of program m live claims o ob.class }) refl (live o) h
      where
        stands : (y : Object) → y.class ≡ ob.class → (b : Bool) → option_map (λ (x : Object). x.class) (if b then Some y else None) ≡ Some class
            → Some ob.class ≡ Some class
        stands y same true g = ap (λ k. Some k) (sym same) ∙ g
        stands y same false g = absurd (none-some class g)

-- ---- how many objects there are

-- each fresh one is live
fresh_live : (program : Program) (m : ModelData) (live : ℕ → Bool) (claims : List (Claim ℕ)) (o : ℕ) (ts : List Term) (ids : List (List ℕ))
    → length ids ≡ length ts → length (filter is_some (fresh_objects program m live claims o ts ids)) ≡ length ts
fresh_live program m live claims o [] ids same = refl
fresh_live program m live claims o (t ∷ ts) [] same = absurd (omega (arith, same))
fresh_live program m live claims o (t ∷ ts) (id ∷ ids) same = ap suc (fresh_live program m live claims (suc o) ts ids (omega (arith, same)))

-- at least the fresh ones
pub fresh_within : (program : Program) (m : ModelData) (demands : List Demand)
    → length (fresh_terms program m (demanded_terms demands)) + length m.objects ≤ 2 ^ 64
    → length (fresh_terms program m (demanded_terms demands)) ≤ live_count (candidate program m demands)
fresh_within program m demands few =
    let live : ℕ → Bool = stays m (managed_classes program) (images_of program m (demanded_terms demands)) in
    let claims : List (Claim ℕ) = claims_by_number m.meta (term_number program m (demanded_terms demands)) demands in
    let ts : List Term = fresh_terms program m (demanded_terms demands) in
    let ids : List (List ℕ) = unused_ids m (length ts) in
    let old : List (Option Object) = old_objects program m live claims in
    let new : List (Option Object) = fresh_objects program m live claims (length m.objects) ts ids in
    let counted = length-filter is_some (old ++ new) in
    let both = ap length (filter-append is_some old new) ∙ length-append (filter is_some old) (filter is_some new) in
    let fresh = fresh_live program m live claims (length m.objects) ts ids (enough_ids m (length ts) few) in
    omega (arith, counted, both, fresh)

-- no more terms get fresh objects than are demanded
pub fresh_fewer : (program : Program) (m : ModelData) (ts : List Term) → length (fresh_terms program m ts) ≤ length ts
fresh_fewer program m ts =
    let both = length-filter_both (λ t. is_none (image program m t)) (λ t. not (is_none (image program m t))) (λ t. refl) ts in
    omega (arith, both)

-- ---- a plan

-- the model that is made of its parts is the planned one
pub model_by : (p : Plan) → IsPlan p → (staying : List Bool) → staying ≡ planned_stays p → (found : List (Claim ℕ)) (fresh : List ℕ) (meta : MetaDesc)
    (objects : List (Option ObjId)) → fresh ≡ p.numbers.now.fresh → meta ≡ p.target.now.meta → objects ≡ p.numbers.now.objects.items
    → found ≡ each_once claim_order (all_claims meta objects p.numbered.list.now)
    → made_of p.program.now p.target.now staying found p.numbered.table.now fresh ≡ planned p
model_by p plan staying stay found fresh meta objects fresh_same meta_same objects_same is =
    ap (λ ns. made_of p.program.now p.target.now staying found p.numbered.table.now ns) fresh_same
    ∙ ap (λ cs. made_of p.program.now p.target.now staying cs p.numbered.table.now p.numbers.now.fresh)
    (is ∙ ap (λ x. each_once claim_order (all_claims x objects p.numbered.list.now)) meta_same
    ∙ ap (λ os. each_once claim_order (all_claims p.target.now.meta os p.numbered.list.now)) objects_same)
    ∙ made_is p.program.now p.target.now p.numbered.table.now p.numbered.list.now p.numbered.terms.now p.numbers.now.objects.items
    p.numbers.now.images
    p.numbers.now.fresh plan.placed plan.numbered staying stay

-- as many objects stay as there are
pub stays_long : (p : Plan) (staying : List Bool) → staying ≡ planned_stays p → length staying ≡ length p.target.now.objects
stays_long p staying is =
    ap length is
    ∙ length-map-range_with_len (stays p.target.now (managed_classes p.program.now) (map (λ (o : ObjId). o.0) p.numbers.now.images)) 0
    (length p.target.now.objects)

-- the claims by which it is made
pub plan_claims : Plan → List (Claim ℕ)
plan_claims p = each_once claim_order (all_claims p.target.now.meta p.numbers.now.objects.items p.numbered.list.now)

-- with them it is the planned model
pub planned_by : (p : Plan) → IsPlan p → (staying : List Bool) → staying ≡ planned_stays p → (fresh : List ℕ) → fresh ≡ p.numbers.now.fresh
    → made_of p.program.now p.target.now staying (plan_claims p) p.numbered.table.now fresh ≡ planned p
unfolding plan_claims
planned_by p plan staying stay fresh fresh_same =
    model_by p plan staying stay (each_once claim_order (all_claims p.target.now.meta p.numbers.now.objects.items p.numbered.list.now)) fresh
    p.target.now.meta p.numbers.now.objects.items fresh_same refl refl refl

-- the list of what stays is the planned one, where it is told by the same images
pub stays_by : (p : Plan) (os : List ObjId) (staying : List Bool)
    → staying ≡ map (stays p.target.now (managed_classes p.program.now) (map (λ (o : ObjId). o.0) os))
    (range_with_len 0 (length p.target.now.objects))
    → os ≡ p.numbers.now.images → staying ≡ planned_stays p
stays_by p os staying is same =
    is
    ∙ ap (λ (ns : List ObjId). map (stays p.target.now (managed_classes p.program.now) (map (λ (o : ObjId). o.0) ns))
    (range_with_len 0 (length p.target.now.objects)))
    same

-- there are identifiers enough, where so few terms are demanded
pub few_by : (program : Program) (m : ModelData) (table : List Term) (numbers : List ℕ) (ts : List Term) (count : ℕ) → terms_at table numbers ≡ ts
    → count ≡ length numbers → count + 4_000_000_000 < 2 ^ 64 → length m.objects ≤ 3_999_000_000
    → length (fresh_terms program m ts) + length m.objects ≤ 2 ^ 64
few_by program m table numbers ts count is counted few room =
    let fewer = fresh_fewer program m ts in
    let long : length numbers ≡ length ts = sym (length-map numbers (term_at table)) ∙ ap length is in
    omega (arith, fewer, long, counted, few, room)
