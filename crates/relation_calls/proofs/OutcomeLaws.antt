-- What the outcomes of its bindings say of a call: whether it holds, whether it matches, and which binding is the first without a partner.
use Rattle.std.specs.Prelude.{◌≡◌, ◌≢◌, ◌⊎◌, ◌↔◌, ◌<◌, ◌≤◌, ℕ, zero, suc, Bool, true, false, not, List, [], ◌∷◌, ◌++◌, length, drop, min, get_or, None, Some, slice_get, Contains, IsTrue}
use Rattle.std.specs.List.{list_any}
use Rattle.std.proofs.Common.{refl, sym, subst, ◌∙◌, arith, inl, inr}
use Rattle.std.proofs.Math.Nat.{le-min}
use Rattle.std.proofs.lemmas.Bool.{true≢false}
use Rattle.std.proofs.lemmas.Bool.Decides.{leb_tells}
use Rattle.qvtr_semantics.specs.declared.limits.TheConstants.{MAX_CALLS}
use Rattle.object_tables.specs.Models.{ModelData}
use Rattle.qv_syntax.specs.declared.program.Program.{Program}
use Rattle.qv_syntax.specs.declared.program.Rel.{Rel}
use Rattle.qvtr_semantics.specs.declared.binding.Binding.{Binding}
use Rattle.qvtr_semantics.specs.Templates.{Values}
use Rattle.qvtr_semantics.specs.Calls.{RelationCall, AllAsked, Of, SourceMatches, TargetHolds, Match, HoldsFor, calls_of}
use Rattle.template_match.specs.Search.{values_of}
use Rattle.template_match.proofs.ListLaws.{contains_later, any_from, any_at}
use Rattle.mof_metamodel.proofs.Facts.{contains_first}
use Rattle.relation_calls.specs.declared.outcome.Outcome.{Outcome}
use Rattle.relation_calls.specs.declared.outcome.Outcome.TheVariants as outcomes
use Rattle.relation_calls.specs.declared.found.Found.{Found}
use Rattle.relation_calls.specs.Askable.{IsFormed}
use Rattle.relation_calls.specs.Outcomes.{IsOutcome, AreOutcomes, is_alone, is_partnered, first_alone}
use Rattle.relation_calls.specs.Founds.{IsFound}
use Rattle.relation_calls.proofs.CallLaws.{match_is}

module _ (program : Program) (models : List ModelData) (n : ℕ) (rel : Rel) where
  pub outcomes_more : (bs : List Values) (os : List Outcome) (b : Values) (o : Outcome) → AreOutcomes program models n rel bs os → IsOutcome program models n rel b o
      → AreOutcomes program models n rel (bs ++ b ∷ []) (os ++ o ∷ [])
  outcomes_more [] [] b o all one = (one, tt)
  outcomes_more [] (p ∷ os) b o all one = absurd all
  outcomes_more (c ∷ bs) [] b o all one = absurd all
  outcomes_more (c ∷ bs) (p ∷ os) b o all one = (all.0, outcomes_more bs os b o all.1 one)

  outcome_at : (bs : List Values) (os : List Outcome) (b : Values) → AreOutcomes program models n rel bs os → Contains bs b → (o : Outcome) × Contains os o × IsOutcome program models n rel b o
  outcome_at [] os b all (k, within, is) = absurd (omega (arith, within))
  outcome_at (c ∷ bs) [] b all has = absurd all
  outcome_at (c ∷ bs) (o ∷ os) b all (zero, within, is) = (o, contains_first o os, subst (λ x. IsOutcome program models n rel x o) is all.0)
  outcome_at (c ∷ bs) (o ∷ os) b all (suc k, within, is) = let (p, has, one) = outcome_at bs os b all.1 (k, omega (arith, within), is) in (p, contains_later p o os has, one)

  binding_at : (bs : List Values) (os : List Outcome) (o : Outcome) → AreOutcomes program models n rel bs os → Contains os o → (b : Values) × Contains bs b × IsOutcome program models n rel b o
  binding_at bs [] o all (k, within, is) = absurd (omega (arith, within))
  binding_at [] (p ∷ os) o all has = absurd all
  binding_at (b ∷ bs) (p ∷ os) o all (zero, within, is) = (b, contains_first b bs, subst (IsOutcome program models n rel b) is all.0)
  binding_at (b ∷ bs) (p ∷ os) o all (suc k, within, is) = let (c, has, one) = binding_at bs os o all.1 (k, omega (arith, within), is) in (c, contains_later c b bs has, one)

  abbrev pub Matched : Values → Type 0
  Matched b = AllAsked (Match program models) (calls_of program models b rel.whens)

  abbrev pub Partner : Values → Values → Type 0
  Partner b g = TargetHolds (HoldsFor program models n) program models rel b g

  alone_is : (b : Values) (o : Outcome) → IsOutcome program models n rel b o → is_alone o ≡ true → Matched b × ((g : Values) → ¬ Partner b g)
  alone_is b outcomes.Unmatched h e = absurd (true≢false (sym e))
  alone_is b outcomes.Alone h e = h
  alone_is b outcomes.Partnered h e = absurd (true≢false (sym e))

  partnered_is : (b : Values) (o : Outcome) → IsOutcome program models n rel b o → is_partnered o ≡ true → Matched b × (g : Values) × Partner b g
  partnered_is b outcomes.Unmatched h e = absurd (true≢false (sym e))
  partnered_is b outcomes.Alone h e = absurd (true≢false (sym e))
  partnered_is b outcomes.Partnered h e = h

  -- one whose calls match is alone or has a partner
  matched_is : (b : Values) (o : Outcome) → IsOutcome program models n rel b o → Matched b
      → ((is_alone o ≡ true) × ((g : Values) → ¬ Partner b g)) ⊎ ((is_partnered o ≡ true) × ((g : Values) × Partner b g))
  matched_is b outcomes.Unmatched h m = absurd (h m)
  matched_is b outcomes.Alone h m = inl (refl, h.1)
  matched_is b outcomes.Partnered h m = inr (refl, (h.1, h.2))

  module _ (roots : Values) (found : Found) (is : IsFound program models n rel roots found) where
    abbrev pub HoldsSo : Type 0
    HoldsSo = (b : Values) → SourceMatches (Match program models) program models rel roots b → (g : Values) × Partner b g

    pub none_alone : list_any is_alone found.outcomes ≡ false → HoldsSo
    none_alone none b m =
        let (o, has, one) = outcome_at (values_of found.bindings) found.outcomes b is.outcomes (is.enough.matched b m.source m.whens) in
        elim (matched_is b o one m.whens) [
          | inl alone ↦ absurd (true≢false (sym (any_at is_alone found.outcomes o alone.0 has) ∙ none))
          | inr partnered ↦ partnered.1
        ]

    some_alone : list_any is_alone found.outcomes ≡ true → ¬ HoldsSo
    some_alone some holds =
        let (o, has, alone) = any_from is_alone found.outcomes some in
        let (b, there, one) = binding_at (values_of found.bindings) found.outcomes o is.outcomes has in
        let (matched, without) = alone_is b o one alone in
        let (g, partner) = holds b (record { source = is.enough.only b there; whens = matched }) in
        without g partner

    holds_by : (some : Bool) → list_any is_alone found.outcomes ≡ some → IsTrue (not some) ↔ HoldsSo
    holds_by true e = (λ h. absurd (true≢false (sym h)), λ h. absurd (some_alone e h))
    holds_by false e = (λ h. none_alone e, λ h. refl)

    -- the call holds where no binding is alone
    pub holds_where : (c : RelationCall) → slice_get program.rels c.rel ≡ Some rel → c.roots ≡ roots → IsTrue (not (list_any is_alone found.outcomes)) ↔ HoldsFor program models (suc n) c
    holds_where c there same =
        let by = holds_by (list_any is_alone found.outcomes) refl in
        let asked : Rel → Type 0 =
        λ (r : Rel). (b : Values) → SourceMatches (Match program models) program models r c.roots b → (g : Values) × TargetHolds (HoldsFor program models n) program models r b g in
        let at : Values → Type 0 =
        λ (rs : Values). (b : Values) → SourceMatches (Match program models) program models rel rs b → (g : Values) × TargetHolds (HoldsFor program models n) program models rel b g in (
          λ h. subst (λ o. Of o asked) (sym there) (subst at (sym same) (by.0 h)),
          λ h. by.1 (subst at same (subst (λ o. Of o asked) there h)),
        )

    abbrev MatchesSo : Type 0
    MatchesSo = (b g : Values) × SourceMatches (Match program models) program models rel roots b × Partner b g

    matches_so : IsTrue (list_any is_partnered found.outcomes) ↔ MatchesSo
    matches_so = (
      λ h. let (o, has, partnered) = any_from is_partnered found.outcomes h in
          let (b, there, one) = binding_at (values_of found.bindings) found.outcomes o is.outcomes has in
          let (matched, g, partner) = partnered_is b o one partnered in
          (b, g, record { source = is.enough.only b there; whens = matched }, partner),
      λ h. let (b, g, m, partner) = h in
          let (o, has, one) = outcome_at (values_of found.bindings) found.outcomes b is.outcomes (is.enough.matched b m.source m.whens) in
          elim (matched_is b o one m.whens) [
            | inl alone ↦ absurd (alone.1 g partner)
            | inr partnered ↦ any_at is_partnered found.outcomes o partnered.0 has
          ],
    )

-- the call matches where some binding has a partner
pub matches_where : (program : Program) (formed : IsFormed program) (models : List ModelData) (rel : Rel) (found : Found) (c : RelationCall) → slice_get program.rels c.rel ≡ Some rel
    → IsFound program models MAX_CALLS rel c.roots found → IsTrue (list_any is_partnered found.outcomes) ↔ Match program models c
matches_where program formed models rel found c there is =
    let so = matches_so program models MAX_CALLS rel c.roots found is in
    let unfolded = match_is program formed models c rel there in
    (λ h. unfolded.1 (so.0 h), λ m. so.1 (unfolded.0 m))

-- ---- the first that is alone, one after another

pub not_alone : (o : Outcome) → o ≢ outcomes.Alone → is_alone o ≡ false
not_alone outcomes.Unmatched other = refl
not_alone outcomes.Alone other = absurd (other refl)
not_alone outcomes.Partnered other = refl

-- one that isn't alone is passed over
pub passed_over : (bs : List Binding) (os : List Outcome) (i : ℕ) (d : Outcome) → i < length bs → i < length os → is_alone (get_or os i d) ≡ false
    → first_alone (values_of (drop (suc i) bs)) (drop (suc i) os) ≡ first_alone (values_of (drop i bs)) (drop i os)
passed_over [] os i d inside within other = absurd (omega (arith, inside))
passed_over (b ∷ bs) [] i d inside within other = absurd (omega (arith, within))
passed_over (b ∷ bs) (x ∷ os) zero d inside within other = by x other
  where
    by : (y : Outcome) → is_alone y ≡ false → first_alone (values_of bs) os ≡ first_alone (b.values ∷ values_of bs) (y ∷ os)
    by outcomes.Unmatched e = refl
    by outcomes.Alone e = absurd (true≢false e)
    by outcomes.Partnered e = refl
passed_over (b ∷ bs) (x ∷ os) (suc i) d inside within other = passed_over bs os i d (omega (arith, inside)) (omega (arith, within)) other

no_outcomes : (vs : List Values) → first_alone vs [] ≡ None
no_outcomes [] = refl
no_outcomes (v ∷ vs) = refl

past_bindings : (bs : List Binding) (os : List Outcome) (i : ℕ) → length bs ≤ i → first_alone (values_of (drop i bs)) os ≡ None
past_bindings [] os zero past = refl
past_bindings [] os (suc i) past = refl
past_bindings (b ∷ bs) os zero past = absurd (omega (arith, past))
past_bindings (b ∷ bs) os (suc i) past = past_bindings bs os i (omega (arith, past))

past_outcomes : (vs : List Values) (os : List Outcome) (i : ℕ) → length os ≤ i → first_alone vs (drop i os) ≡ None
past_outcomes vs [] zero past = no_outcomes vs
past_outcomes vs [] (suc i) past = no_outcomes vs
past_outcomes vs (o ∷ os) zero past = absurd (omega (arith, past))
past_outcomes vs (o ∷ os) (suc i) past = past_outcomes vs os i (omega (arith, past))

-- behind the end of the shorter list there is none
pub none_behind : (bs : List Binding) (os : List Outcome) (i : ℕ) → min (length bs) (length os) ≤ i → first_alone (values_of (drop i bs)) (drop i os) ≡ None
none_behind bs os i past = elim (leb_tells (length bs) (length os)) [
  | inl shorter ↦ let least : length bs ≤ min (length bs) (length os) = le-min (omega arith) shorter.1 in past_bindings bs (drop i os) i (omega (arith, least, past))
  | inr longer ↦ let least : length os ≤ min (length bs) (length os) = le-min (omega (arith, longer.1)) (omega arith) in past_outcomes (values_of (drop i bs)) os i (omega (arith, least, past))
]
