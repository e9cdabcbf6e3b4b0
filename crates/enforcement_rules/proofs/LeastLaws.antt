-- What is found by one test after another is the least rule that is broken.
use Rattle.std.proofs.Common.{◌≡◌, ◌<◌, ◌⊎◌, ◌+◌, ℕ, zero, suc, List, Bool, true, false, Option, None, Some, sym, ◌∙◌, subst, ⊎_elim, arith, true≢false}
use Rattle.std.specs.Prelude.{◌↔◌, IsTrue, is_some, slice_get}
use Rattle.std.proofs.lemmas.Bool.{cases_order}
use Rattle.std.proofs.lemmas.Option.{same_Some}
use Rattle.mof_metamodel.specs.declared.desc.MetaDesc.{MetaDesc}
use Rattle.qv_syntax.specs.declared.program.Program.{Program}
use Rattle.qv_syntax.specs.declared.program.Rel.{Rel}
use Rattle.enforcement_rules.specs.KnownVariables.{HasUndeterminedData}
use Rattle.enforcement_rules.specs.Expressions.{TouchesTarget}
use Rattle.enforcement_rules.specs.Patterns.{IsUnmarked, HasUnsettledPart, HasUnmadeObject}
use Rattle.enforcement_rules.specs.Keys.{HasUnkeyedTemplate, HasManyValuedKey, HasTwoKeys, HasKeyCycle}
use Rattle.enforcement_rules.specs.Calls.{HasUnmatchedCall, HasWrongArgument}
use Rattle.enforcement_rules.specs.LeastRules.{AreKeptBelow, IsLeastBelow, BreaksHere, IsBrokenBy}
use Rattle.enforcement_rules.specs.Rules.{Breaks, BreaksAt, Broken}

-- ---- one rule

module _ (metas : List MetaDesc) (program : Program) (rel : Rel) where
  -- what the rule of this number asks for, to be broken
  abbrev pub asked : ℕ → Type 0
  asked zero = ⊥
  asked (suc zero) = IsUnmarked program rel
  asked (suc (suc zero)) = TouchesTarget program rel
  asked (suc (suc (suc zero))) = HasUnsettledPart metas program rel
  asked (suc (suc (suc (suc zero)))) = HasUnmadeObject metas program rel
  asked (suc (suc (suc (suc (suc zero))))) = HasUnkeyedTemplate metas program rel
  asked (suc (suc (suc (suc (suc (suc zero)))))) = HasManyValuedKey metas program rel
  asked (suc (suc (suc (suc (suc (suc (suc zero))))))) = HasTwoKeys metas program
  asked (suc (suc (suc (suc (suc (suc (suc (suc zero)))))))) = HasKeyCycle metas program rel
  asked (suc (suc (suc (suc (suc (suc (suc (suc (suc zero))))))))) = HasUnmatchedCall program rel
  asked (suc (suc (suc (suc (suc (suc (suc (suc (suc (suc zero)))))))))) = HasWrongArgument metas program rel
  asked (suc (suc (suc (suc (suc (suc (suc (suc (suc (suc (suc zero))))))))))) = HasUndeterminedData program rel
  asked (suc (suc (suc (suc (suc (suc (suc (suc (suc (suc (suc (suc n)))))))))))) = ⊥

  broken_is : (rule : ℕ) → Breaks metas program rel rule → asked rule
  broken_is rule (Breaks.e1 is h) = subst asked (sym is) h
  broken_is rule (Breaks.e2 is h) = subst asked (sym is) h
  broken_is rule (Breaks.e3 is h) = subst asked (sym is) h
  broken_is rule (Breaks.e4 is h) = subst asked (sym is) h
  broken_is rule (Breaks.e5 is h) = subst asked (sym is) h
  broken_is rule (Breaks.e6 is h) = subst asked (sym is) h
  broken_is rule (Breaks.e7 is h) = subst asked (sym is) h
  broken_is rule (Breaks.e8 is h) = subst asked (sym is) h
  broken_is rule (Breaks.e9 is h) = subst asked (sym is) h
  broken_is rule (Breaks.e10 is h) = subst asked (sym is) h
  broken_is rule (Breaks.e11 is h) = subst asked (sym is) h

  below_twelve : (rule : ℕ) → Breaks metas program rel rule → rule < 12
  below_twelve rule (Breaks.e1 is h) = omega arith
  below_twelve rule (Breaks.e2 is h) = omega arith
  below_twelve rule (Breaks.e3 is h) = omega arith
  below_twelve rule (Breaks.e4 is h) = omega arith
  below_twelve rule (Breaks.e5 is h) = omega arith
  below_twelve rule (Breaks.e6 is h) = omega arith
  below_twelve rule (Breaks.e7 is h) = omega arith
  below_twelve rule (Breaks.e8 is h) = omega arith
  below_twelve rule (Breaks.e9 is h) = omega arith
  below_twelve rule (Breaks.e10 is h) = omega arith
  below_twelve rule (Breaks.e11 is h) = omega arith

  -- ---- one test after another

  -- there is no rule 0
  pub kept_first : AreKeptBelow metas program rel 1
  kept_first lesser less b = let is : lesser ≡ 0 = omega arith in broken_is 0 (subst (Breaks metas program rel) is b)

  pub kept_next : (n next : ℕ) → next ≡ suc n → (b : Bool) → IsTrue b ↔ asked n → b ≡ false → AreKeptBelow metas program rel n → AreKeptBelow metas program rel next
  kept_next n next is b told none kept lesser less broken = ⊎_elim
      (λ (same : lesser ≡ n). true≢false (sym (told.1 (broken_is n (subst (Breaks metas program rel) same broken))) ∙ none))
      (λ (other : (lesser < n) ⊎ (n < lesser)). ⊎_elim (λ (l : lesser < n). kept lesser l broken) (λ (m : n < lesser). absurd (omega arith)) other)
      (cases_order lesser n)

  pub some_stays : (next other : ℕ) (o : Option ℕ) → is_some o ≡ true → IsLeastBelow metas program rel next o → IsLeastBelow metas program rel other o
  some_stays next other None is h = absurd (true≢false (sym is))
  some_stays next other (Some rule) is h = h

  pub none_kept : (next : ℕ) (o : Option ℕ) → is_some o ≡ false → IsLeastBelow metas program rel next o → AreKeptBelow metas program rel next
  none_kept next None is h = h
  none_kept next (Some rule) is h = absurd (true≢false is)

  -- ---- the relation

  pub broken_by : (o : Option ℕ) → rel.in_direction ≡ true → IsLeastBelow metas program rel 12 o → IsBrokenBy metas program rel o
  broken_by None is kept = λ rule h. kept rule (below_twelve rule h.1) h.1
  broken_by (Some rule) is least = ((is, least.0), λ lesser less h. least.1 lesser less h.1)

-- ---- the relations of a program

module _ (metas : List MetaDesc) (program : Program) where
  module _ (k : ℕ) (rel : Rel) (found : slice_get program.rels k ≡ Some rel) where
    at_here : (rule : ℕ) → BreaksAt metas program k rule → BreaksHere metas program rel rule
    at_here rule b =
        let same : b.rel ≡ rel = same_Some b.rel rel (sym b.found ∙ found) in
        subst (λ (r : Rel). BreaksHere metas program r rule) same (b.in_direction, b.breaks)

    pub none_more : ((earlier other : ℕ) → earlier < k → ¬ BreaksAt metas program earlier other) → IsBrokenBy metas program rel None
        → (earlier other : ℕ) → earlier < k + 1 → ¬ BreaksAt metas program earlier other
    none_more before none earlier other less broken = ⊎_elim
        (λ (same : earlier ≡ k). none other (at_here other (subst (λ (n : ℕ). BreaksAt metas program n other) same broken)))
        (λ (apart : (earlier < k) ⊎ (k < earlier)). ⊎_elim (λ (l : earlier < k). before earlier other l broken) (λ (m : k < earlier). absurd (omega arith)) apart)
        (cases_order earlier k)

    pub first_told : (rule : ℕ) → ((earlier other : ℕ) → earlier < k → ¬ BreaksAt metas program earlier other) → IsBrokenBy metas program rel (Some rule) → Broken metas program k rule
    first_told rule before broken = record {
      breaks = record { rel = rel; found = found; in_direction = broken.0.0; breaks = broken.0.1 };
      least = λ lesser less b. broken.1 lesser less (at_here lesser b);
      first = before;
    }
