-- The answers of a call from what is found of it.
use Rattle.std.specs.Prelude.{◌≡◌, ◌<◌, ◌↔◌, ◌-◌, ℕ, suc, Bool, not, List, [], ◌∷◌, ◌++◌, length, get_or, Some, slice_get, Contains, AllPairs, IsTrue}
use Rattle.std.specs.List.{list_any}
use Rattle.std.proofs.Common.{refl, sym, ap, subst, ◌∙◌, arith, inl, inr}
use Rattle.std.proofs.lemmas.Option.{slice_get_within, slice_get_read}
use Rattle.qvtr_semantics.specs.declared.limits.TheConstants.{MAX_CALLS}
use Rattle.object_tables.specs.Models.{ModelData}
use Rattle.qv_syntax.specs.declared.program.Program.{Program}
use Rattle.qv_syntax.specs.declared.program.Rel.{Rel}
use Rattle.qvtr_semantics.specs.declared.binding.Binding.{Binding}
use Rattle.qvtr_semantics.specs.Templates.{Values}
use Rattle.qvtr_semantics.specs.Bindings.{Source, Target}
use Rattle.qvtr_semantics.specs.Calls.{RelationCall, AllAsked, Match, HoldsFor, TargetHolds, calls_of}
use Rattle.qvtr_semantics.specs.Satisfaction.{IsLess}
use Rattle.template_match.specs.declared.plan.Plan.{Plan}
use Rattle.template_match.specs.Plans.{IsPlanOf}
use Rattle.template_match.specs.Search.{values_of}
use Rattle.relation_calls.specs.declared.name.CallName.{CallName}
use Rattle.relation_calls.specs.declared.error.CallError.{CallError}
use Rattle.relation_calls.specs.declared.outcome.Outcome.{Outcome}
use Rattle.relation_calls.specs.declared.found.Found.{Found}
use Rattle.relation_calls.specs.Names.{chain_named}
use Rattle.relation_calls.specs.Seen.{Seen, SeenBehind, AreClean, IsBad}
use Rattle.relation_calls.specs.Faults.{IsFault}
use Rattle.relation_calls.specs.Askable.{IsFormed}
use Rattle.relation_calls.specs.Outcomes.{AreOutcomes, is_alone, is_partnered}
use Rattle.relation_calls.specs.Founds.{AreEnough, IsFound}
use Rattle.relation_calls.specs.Visits.{IsChain}
use Rattle.relation_calls.proofs.RefusalLaws.{fine, length_more, one_less}
use Rattle.relation_calls.proofs.VisitLaws.{Chains, fault_in, ByCalls, ByValues, ByTargets, ByBinding, split, join}
use Rattle.relation_calls.proofs.OutcomeLaws.{holds_where, matches_where}

-- a plan of the relation of that number is one by its own number
pub planned_at : (program : Program) (number : ℕ) (rel : Rel) (plan : Plan) → ((found : Rel) → slice_get program.rels number ≡ Some found → IsPlanOf program number found plan)
    → slice_get program.rels number ≡ Some rel → IsPlanOf program plan.rel rel plan
planned_at program number rel plan by is = let p = by rel is in subst (λ n. IsPlanOf program n rel plan) (sym p.number_is) p

-- the relation that is visited is the one that is called
pub visited : (program : Program) (number : ℕ) (called rel : Rel) (rels : List Rel) → rels ≡ program.rels → slice_get program.rels number ≡ Some called → rel ≡ get_or rels number rel
    → slice_get program.rels number ≡ Some rel
visited program number called rel rels same found here =
    slice_get_read program.rels (length program.rels) number rel refl (slice_get_within program.rels number called found) (subst (λ (rs : List Rel). rel ≡ get_or rs number rel) same here)

module _ (program : Program) (models : List ModelData) where
  -- ---- all bindings of a call

  module _ (upto : List RelationCall) (rel : Rel) (c : RelationCall) (bs : List Values) (is : slice_get program.rels c.rel ≡ Some rel)
      (enough : AreEnough program models rel c.roots bs) where
    pub clean_call : AreClean (ByValues (ByBinding program models upto rel) bs) → AreClean (Seen program models upto c)
    clean_call clean chain seen bad = let (b, source, by) = split program models upto rel c chain is seen in clean chain (b, among b source by, by) bad
      where
        among : (b : Values) → Source program models rel c.roots b → ByBinding program models upto rel b chain → Contains bs b
        among b source (inl asked) = enough.asked b asked.0 chain source asked.1 asked.2 bad
        among b source (inr partner) = enough.matched b source partner.0

    pub fault_call : (e : CallError) → IsFault (ByValues (ByBinding program models upto rel) bs) e → IsFault (Seen program models upto c) e
    fault_call = fault_in (ByValues (ByBinding program models upto rel) bs) (Seen program models upto c)
        (λ chain h. let (b, has, by) = h in join program models upto rel c chain b is (enough.only b has) by)

  -- ---- a call in a where clause

  module _ (upto : List RelationCall) (d : RelationCall) where
    -- the chain with that call is refused itself
    pub refused_fault : (e : CallError) → IsFault (λ chain. chain ≡ upto ++ d ∷ []) e → IsFault (SeenBehind program models upto d) e
    refused_fault = fault_in (λ chain. chain ≡ upto ++ d ∷ []) (SeenBehind program models upto d) (λ chain is. inl is)

    module _ (names : List CallName) (is : chain_named names ≡ upto ++ d ∷ []) (whole : IsChain (chain_named names)) where
      called_room : length upto < MAX_CALLS
      called_room = let few = whole.few in let same = ap length is in let long = length_more upto d in omega (arith, few, same, long)

      pub called_clean : AreClean (Seen program models (chain_named names) d) → AreClean (SeenBehind program models upto d)
      called_clean clean chain (inl last) bad = fine (upto ++ d ∷ []) (subst IsChain is whole) (subst IsBad last bad)
      called_clean clean chain (inr seen) bad = clean chain (subst (λ u. Seen program models u d chain) (sym is) seen) bad

      pub called_fault : (e : CallError) → IsFault (Seen program models (chain_named names) d) e → IsFault (SeenBehind program models upto d) e
      called_fault = fault_in (Seen program models (chain_named names) d) (SeenBehind program models upto d) (λ chain seen. inr (subst (λ u. Seen program models u d chain) is seen))

      pub called_value : (rel : Rel) (found : Found) → slice_get program.rels d.rel ≡ Some rel → IsFound program models (MAX_CALLS - length (chain_named names)) rel d.roots found
          → IsTrue (not (list_any is_alone found.outcomes)) ↔ HoldsFor program models (MAX_CALLS - length upto) d
      called_value rel found there of =
          let left : ℕ = MAX_CALLS - length (chain_named names) in
          let same : MAX_CALLS - length upto ≡ suc left = one_less upto d called_room ∙ ap (λ u. suc (MAX_CALLS - length u)) (sym is) in
          subst (λ n. IsTrue (not (list_any is_alone found.outcomes)) ↔ HoldsFor program models n d) (sym same) (holds_where program models left rel d.roots found of d there refl)

  -- ---- a call in a when clause

  pub match_value : IsFormed program → (rel : Rel) (found : Found) (d : RelationCall) (names : List CallName) → names ≡ [] → slice_get program.rels d.rel ≡ Some rel
      → IsFound program models (MAX_CALLS - length (chain_named names)) rel d.roots found → IsTrue (list_any is_partnered found.outcomes) ↔ Match program models d
  match_value formed rel found d names none there of =
      matches_where program formed models rel found d there (subst (λ (ns : List CallName). IsFound program models (MAX_CALLS - length (chain_named ns)) rel d.roots found) none of)

  pub match_clean : (d : RelationCall) (names : List CallName) → names ≡ [] → AreClean (Seen program models (chain_named names) d) → AreClean (Seen program models [] d)
  match_clean d names none clean = subst (λ (ns : List CallName). AreClean (Seen program models (chain_named ns) d)) none clean

  pub match_fault : (d : RelationCall) (names : List CallName) (e : CallError) → names ≡ [] → IsFault (Seen program models (chain_named names) d) e → IsFault (Seen program models [] d) e
  match_fault d names e none f = subst (λ (ns : List CallName). IsFault (Seen program models (chain_named ns) d) e) none f

  -- ---- partners

  -- one of the partners that meet the target has calls that hold
  pub partner_value : (n : ℕ) (rel : Rel) (b : Values) (gs : List Values) (any : Bool) → ((g : Values) → Contains gs g ↔ Target program models rel b g)
      → (IsTrue any ↔ ((g : Values) × Contains gs g × AllAsked (HoldsFor program models n) (calls_of program models g rel.wheres)))
      → IsTrue any ↔ ((g : Values) × TargetHolds (HoldsFor program models n) program models rel b g)
  partner_value n rel b gs any exact one = (
    λ h. let (g, has, holds) = one.0 h in (g, record { target = (exact g).0 has; wheres = holds }),
    λ h. let (g, t) = h in one.1 (g, (exact g).1 t.target, t.wheres),
  )

  pub partner_seen : (upto : List RelationCall) (rel : Rel) (b : Values) (gs : List Values) → ((g : Values) → Contains gs g ↔ Target program models rel b g) → (chain : List RelationCall)
      → ByTargets program models upto rel b chain ↔ ByValues (λ g. ByCalls (SeenBehind program models upto) (calls_of program models g rel.wheres)) gs chain
  partner_seen upto rel b gs exact chain = (
    λ h. let (g, target, seen) = h in (g, (exact g).1 target, seen),
    λ h. let (g, has, seen) = h in (g, (exact g).0 has, seen),
  )

  -- ---- bindings

  module _ (upto : List RelationCall) (rel : Rel) (b : Values) where
    abbrev Matched : Type 0
    Matched = AllAsked (Match program models) (calls_of program models b rel.whens)

    abbrev ByWhens : Chains
    ByWhens = ByCalls (Seen program models []) (calls_of program models b rel.whens)

    pub unmatched_clean : ¬ Matched → AreClean ByWhens → AreClean (ByBinding program models upto rel b)
    unmatched_clean never clean chain (inl h) bad = clean chain h bad
    unmatched_clean never clean chain (inr h) bad = never h.0

    pub matched_clean : AreClean ByWhens → AreClean (ByTargets program models upto rel b) → AreClean (ByBinding program models upto rel b)
    matched_clean whens targets chain (inl h) bad = whens chain h bad
    matched_clean whens targets chain (inr h) bad = targets chain h.1 bad

  -- ---- all that is found

  pub found_all : (n : ℕ) (rel r : Rel) → rel ≡ r → (roots : Values) (bs found : List Binding) → found ≡ bs → (os : List Outcome) → AreEnough program models rel roots (values_of bs)
      → AllPairs (IsLess rel.universal) (values_of bs) → AreOutcomes program models n rel (values_of found) os → IsFound program models n r roots (record { bindings = bs; outcomes = os })
  found_all n rel r one roots bs found same os enough sorted all =
      subst (λ (x : Rel). IsFound program models n x roots (record { bindings = bs; outcomes = os })) one
      (record { enough = enough; sorted = sorted; outcomes = subst (λ (xs : List Binding). AreOutcomes program models n rel (values_of xs) os) same all })
