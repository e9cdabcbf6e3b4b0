-- What a repair makes of the target depends on which claims there are alone, not on their order or on how often each stands there.
use Rattle.std.specs.Prelude.{◌≡◌, ℕ, suc, Bool, not, ◌&&◌, List, [], ◌∷◌, ◌++◌, map, filter, length, Option, None, Some, if◌then◌else◌}
use Rattle.std.specs.List.{list_any, range_with_len}
use Rattle.std.proofs.Common.{refl, ap, ◌∙◌}
use mathlib.Core.Path.{fun_ext}
use Rattle.mof_metamodel.specs.Metamodels.{props_of}
use Rattle.object_tables.specs.Objects.{Object, Slot}
use Rattle.object_tables.specs.Models.{ModelData, object_at}
use Rattle.qv_syntax.specs.declared.program.Program.{Program}
use Rattle.repair_semantics.specs.declared.term.Term.{Term, out-Term}
use Rattle.repair_semantics.specs.Claims.{Held, Fact, Claim, claims_of, are_against, is_against, same_held}
use Rattle.repair_semantics.specs.Images.{same_number, held_in}
use Rattle.repair_semantics.specs.Terms.{each_once}
use Rattle.repair_semantics.specs.CandidateObjects.{unused_ids}
use Rattle.repair_semantics.specs.Candidates.{element_at, claimed_at, held_order, is_left, fact_at, kept_at, others_than, with_claimed, contents_at, slot_with, slots_of, old_object, old_objects, fresh_object, fresh_objects, candidate_with}
use Rattle.slot_claims.specs.ClaimOrder.{claim_order}
use Rattle.slot_claims.proofs.OnceLaws.{HaveSame, once_alike, once_same}
use Rattle.slot_claims.proofs.ListLaws.{any_alike, same_filtered, same_given}
use Rattle.slot_claims.proofs.OrderLaws.{held_total, held_exact, claims_total, claim_exact}

module _ (program : Program) (m : ModelData) (live : ℕ → Bool) (cs ds : List (Claim ℕ)) (same : HaveSame cs ds) where
  against_alike : (f : Fact ℕ) → is_against m.meta same_number cs f ≡ is_against m.meta same_number ds f
  against_alike f = ap (λ test. list_any test (claims_of m.meta f)) (fun_ext (λ c. any_alike (are_against m.meta same_number c) cs ds same))

  kept_alike : (o p : ℕ) → kept_at program m live cs o p ≡ kept_at program m live ds o p
  kept_alike o p = ap (λ test. filter test (held_in program m o p)) (fun_ext (λ h. ap (λ b. is_left live h && not b) (against_alike (fact_at o p h))))

  -- what a slot holds
  pub contents_alike : (o p : ℕ) → contents_at program m live cs o p ≡ contents_at program m live ds o p
  contents_alike o p =
      let kept = kept_at program m live ds o p in
      let not_kept : Held ℕ → Bool = λ h. not (list_any (same_held same_number h) kept) in
      ap (λ hs. with_claimed hs (claimed_at cs o p)) (kept_alike o p)
      ∙ ap (λ hs. kept ++ hs)
      (once_alike held_order held_total held_exact (others_than kept (claimed_at cs o p)) (others_than kept (claimed_at ds o p))
      (same_filtered not_kept (claimed_at cs o p) (claimed_at ds o p) (same_given (λ (c : Claim ℕ). element_at o p c.spot c.said) cs ds same)))

  slots_alike : (o class : ℕ) → slots_of program m live cs o class ≡ slots_of program m live ds o class
  slots_alike o class = ap (λ f. map f (props_of m.meta class)) (fun_ext (λ p. ap slot_with (contents_alike o p)))

  old_alike : (o : ℕ) (x : Option Object) → old_object program m live cs o x ≡ old_object program m live ds o x
  old_alike o None = refl
  old_alike o (Some ob) =
      let made : List Slot → Option Object = λ slots. if live o then Some (record ob { slots = slots }) else None in
      ap made (slots_alike o ob.class)

  fresh_alike : (o : ℕ) (ts : List Term) (ids : List (List ℕ)) → fresh_objects program m live cs o ts ids ≡ fresh_objects program m live ds o ts ids
  fresh_alike o [] ids = refl
  fresh_alike o (t ∷ ts) [] = refl
  fresh_alike o (t ∷ ts) (id ∷ ids) =
      let made : List Slot → Option Object = λ slots. Some (record { class = (out-Term t).class.0; id = id; slots = slots }) in
      ap (λ slots. made slots ∷ fresh_objects program m live cs (suc o) ts ids) (slots_alike o (out-Term t).class.0)
      ∙ ap (λ objects. fresh_object program m live ds o t id ∷ objects) (fresh_alike (suc o) ts ids)

  -- the model that is made
  pub candidate_alike : (fresh : List Term) → candidate_with program m live cs fresh ≡ candidate_with program m live ds fresh
  candidate_alike fresh =
      let number = length m.objects in
      let ids = unused_ids m (length fresh) in
      let made : List (Option Object) → ModelData = λ objects. record m { objects = objects } in
      ap (λ f. made (map f (range_with_len 0 number) ++ fresh_objects program m live cs number fresh ids))
      (fun_ext (λ o. old_alike o (object_at m o)))
      ∙ ap (λ objects. made (old_objects program m live ds ++ objects)) (fresh_alike number fresh ids)

-- ---- the claims in their order, each once

claims_once : (cs : List (Claim ℕ)) → HaveSame (each_once claim_order cs) cs
claims_once = once_same claim_order claims_total claim_exact

-- a slot holds the same
pub contents_of_claims : (program : Program) (m : ModelData) (live : ℕ → Bool) (cs : List (Claim ℕ)) (o p : ℕ)
    → contents_at program m live (each_once claim_order cs) o p ≡ contents_at program m live cs o p
contents_of_claims program m live cs o p = contents_alike program m live (each_once claim_order cs) cs (claims_once cs) o p

-- the model that is made is the same
pub candidate_of_claims : (program : Program) (m : ModelData) (live : ℕ → Bool) (cs : List (Claim ℕ)) (fresh : List Term)
    → candidate_with program m live (each_once claim_order cs) fresh ≡ candidate_with program m live cs fresh
candidate_of_claims program m live cs fresh = candidate_alike program m live (each_once claim_order cs) cs (claims_once cs) fresh
