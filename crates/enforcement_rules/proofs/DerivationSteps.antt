-- The steps of deriving what follows from rules, as its loop makes them.
use Rattle.std.proofs.Common.{◌≡◌, ℕ, ◌<◌, List, [], ◌∷◌, ◌++◌, Bool, true, false, refl, sym, ◌∙◌, ap, subst, length, get_or, replicate, take, arith}
use Rattle.std.specs.Prelude.{Contains, ◌↔◌}
use Rattle.std.proofs.lemmas.List.{length-replicate, take-append-le, take_all}
use Rattle.std.proofs.lemmas.List.Elements.{Contains-append_right}
use Rattle.enforcement_rules.specs.Derivations.{IsDerivedNumber, NumberRule, Deriving, bound_at, with_pending, IsStep, weight, IsRuleBelow, IsWithin, IsUnderway}
use Rattle.enforcement_rules.proofs.DerivationLaws.{step_within, step_underway, step_less, start_within, start_underway, derived_bound}
use Rattle.enforcement_rules.proofs.ListLaws.{everywhere}

module _ (count : ℕ) (bound : List Bool) (waiting : List (List NumberRule)) (pending rest : List NumberRule) (rule : NumberRule) (is : pending ≡ rest ++ rule ∷ [])
    (w : IsWithin count (record { bound = bound; waiting = waiting; pending = pending })) where
  abbrev left : Deriving
  left = record { bound = bound; waiting = waiting; pending = rest }

  moved : IsWithin count (with_pending left rule)
  moved = subst (λ (rs : List NumberRule). IsWithin count (record { bound = bound; waiting = waiting; pending = rs })) is w

  pub pop_below : IsRuleBelow (length bound) rule
  pop_below = subst (λ (n : ℕ). IsRuleBelow n rule) (sym w.long) (moved.pending_below rule (Contains-append_right rest (rule ∷ []) rule (0, omega arith, refl)))

  module _ (after : Deriving) (step : IsStep left rule.0 rule.1 after) where
    pub pop_within : IsWithin count after
    pop_within = step_within left rule.0 rule.1 after count moved step

    pub pop_underway : (rules : List NumberRule) → IsUnderway rules (record { bound = bound; waiting = waiting; pending = pending }) → IsUnderway rules after
    pop_underway rules u = step_underway left rule.0 rule.1 after count moved step rules (subst (λ (rs : List NumberRule). IsUnderway rules (record { bound = bound; waiting = waiting; pending = rs })) is u)

    pub pop_less : weight after < weight (record { bound = bound; waiting = waiting; pending = pending })
    pop_less = subst (λ (rs : List NumberRule). weight after < weight (record { bound = bound; waiting = waiting; pending = rs })) (sym is) (step_less left rule.0 rule.1 after count moved step)

module _ (count : ℕ) (bound : List Bool) (waiting : List (List NumberRule)) (rules : List NumberRule) (none : bound ≡ replicate count false) (empty : waiting ≡ replicate count []) where
  unbound : (n : ℕ) → get_or bound n false ≡ false
  unbound n = ap (λ (bs : List Bool). get_or bs n false) none ∙ everywhere count n false

  nothing : (n : ℕ) → get_or waiting n [] ≡ []
  nothing n = ap (λ (ws : List (List NumberRule)). get_or ws n []) empty ∙ everywhere count n []

  long : length bound ≡ count
  long = ap length none ∙ length-replicate count false

  pub begin_within : ((rule : NumberRule) → Contains rules rule → IsRuleBelow count rule) → IsWithin (length bound) (record { bound = bound; waiting = waiting; pending = rules })
  begin_within below = start_within bound waiting rules unbound nothing (length bound) refl (ap length empty ∙ length-replicate count [] ∙ sym long)
      (λ rule c. subst (λ (n : ℕ). IsRuleBelow n rule) (sym long) (below rule c))

  pub end_derived : (st : Deriving) → ((rs : List NumberRule) → IsUnderway rs (record { bound = bound; waiting = waiting; pending = rules }) → IsUnderway rs st) → st.pending ≡ []
      → (n : ℕ) → (bound_at st n ≡ true) ↔ IsDerivedNumber rules n
  end_derived st kept done n =
      let u : IsUnderway rules st = kept rules (start_underway bound waiting rules unbound nothing) in
      (λ h. u.sound n h, λ d. derived_bound rules st u done n d)

-- a list that is written over another as long
pub written_over : {X : Type 0} (new rest : List X) (len : ℕ) → len ≡ length new → take len (new ++ rest) ≡ new
written_over new rest len same = take-append-le len new rest (omega arith) ∙ take_all len new (omega arith)
