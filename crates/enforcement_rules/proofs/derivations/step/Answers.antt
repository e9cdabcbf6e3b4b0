use Rattle.std.proofs.Common.{◌<◌, ℕ, List, [], ◌∷◌, arith, refl, sym, subst}
use Rattle.std.specs.Prelude.{Contains}
use Rattle.std.proofs.lemmas.List.Elements.{Contains-append_right}
use Rattle.enforcement_rules.proofs.DerivationLaws.{stepped}
use Rattle.enforcement_rules.proofs.derivations.step.Goals as goal

pub ask-requires-clause-bound : goal.ask-requires-clause-bound
ask-requires-clause-bound c =
    c.requires.bound.1 c.in-Some.n (subst (λ (ns : List ℕ). Contains ns c.in-Some.n) (sym c.in-Some.ensures) (Contains-append_right _ (c.in-Some.n ∷ []) c.in-Some.n (0, omega arith, refl)))

pub ask-requires-clause-waiting : goal.ask-requires-clause-waiting
ask-requires-clause-waiting c = subst (λ (l : ℕ). c.in-Some.n < l) (sym c.requires.waiting)
    (c.requires.bound.1 c.in-Some.n (subst (λ (ns : List ℕ). Contains ns c.in-Some.n) (sym c.in-Some.ensures) (Contains-append_right _ (c.in-Some.n ∷ []) c.in-Some.n (0, omega arith, refl))))

pub returns-in-Some : goal.returns-in-Some
returns-in-Some c = stepped c.ask.result _ _ _ _ _ c.in-Some.n c.in-Some.ensures c.ask.ensures
