use Rattle.std.proofs.Common.{arith, ◌≡◌, ◌∙◌, ◌++◌, ◌∷◌, [], ap, refl, sym}
use Rattle.std.proofs.lemmas.List.{same_from_push}
use Rattle.std.proofs.lemmas.Result.{IfOk-from_err, MatchResult-from_err}
use Rattle.xmi_text.specs.AttrNames.{has_name}
use Rattle.xmi_text.proofs.reading.AttrLemmas.{has_after}
use Rattle.xmi_text.proofs.attributes.Attributes.take_in.Goals as goal

-- the set has the new name beside the old ones
pub invariant_of-self-in-Ok-insert : goal.invariant_of-self-in-Ok-insert
invariant_of-self-in-Ok-insert c q =
    rw c.in-Ok.ensures.items
    (rw c.replace-whole.ensures.value
    (has_after c.self.inside.items.items c.args.attr.now q c.in_ok-name.name _ _ c.in_ok-name.ensures (c.self.invariant q) (c.in-Ok-insert.ensures.updates.0 q)))

pub returns-in_err-name-clause-ok : goal.returns-in_err-name-clause-ok
returns-in_err-name-clause-ok c = IfOk-from_err c.from_residual.result _ c.from_residual.ensures.0

pub returns-in_err-name-clause-emptied : goal.returns-in_err-name-clause-emptied
returns-in_err-name-clause-emptied c = IfOk-from_err c.from_residual.result _ c.from_residual.ensures.0

pub returns-in_err-name-clause-err : goal.returns-in_err-name-clause-err
returns-in_err-name-clause-err c = MatchResult-from_err c.from_residual.result _ _ c.from_residual.ensures.0 (λ e. refl)

pub returns-in_err-name-clause-kept : goal.returns-in_err-name-clause-kept
returns-in_err-name-clause-kept c = MatchResult-from_err c.from_residual.result _ _ c.from_residual.ensures.0 (λ e. refl)

pub invariant_of-self : goal.invariant_of-self
invariant_of-self c q = c.self.invariant q ∙ ap (λ l. has_name l q) (sym c.in-Err.ensures.items)

pub returns-in-Err-clause-err : goal.returns-in-Err-clause-err
returns-in-Err-clause-err c = c.in-Err.ensures.items ∙ c.self.view_is

pub returns-in-Err-clause-kept : goal.returns-in-Err-clause-kept
returns-in-Err-clause-kept c = c.in-Err.ensures.value_returned ∙ c.replace-whole.ensures.value

pub returns-in-Ok-insert-clause-ok : goal.returns-in-Ok-insert-clause-ok
returns-in-Ok-insert-clause-ok c =
    c.in-Ok.ensures.items
    ∙ (ap (λ a. c.self.inside.items.items ++ a ∷ []) c.replace-whole.ensures.value ∙ ap (λ l. l ++ c.args.attr.now ∷ []) c.self.view_is)

pub returns-in-Ok-insert-clause-emptied : goal.returns-in-Ok-insert-clause-emptied
returns-in-Ok-insert-clause-emptied c = cc

pub invariant_of-self-in-Some : goal.invariant_of-self-in-Some
invariant_of-self-in-Some c q =
    let popped : (c.pop.new.self.items ≡ c.self.inside.items.items) × (c.in-Some.last ≡ c.args.attr.now) =
    same_from_push c.pop.new.self.items c.self.inside.items.items c.in-Some.last c.args.attr.now
    (sym c.in-Some.ensures.items ∙ (c.in-Ok.ensures.items ∙ ap (λ a. c.self.inside.items.items ++ a ∷ []) c.replace-whole.ensures.value)) in
    rw (c.in-Err-insert.ensures.err, popped.0) (c.self.invariant q)

pub returns-in-Some-clause-err : goal.returns-in-Some-clause-err
returns-in-Some-clause-err c =
    let popped : (c.pop.new.self.items ≡ c.self.inside.items.items) × (c.in-Some.last ≡ c.args.attr.now) =
    same_from_push c.pop.new.self.items c.self.inside.items.items c.in-Some.last c.args.attr.now
    (sym c.in-Some.ensures.items ∙ (c.in-Ok.ensures.items ∙ ap (λ a. c.self.inside.items.items ++ a ∷ []) c.replace-whole.ensures.value)) in
    popped.0 ∙ c.self.view_is

pub returns-in-Some-clause-kept : goal.returns-in-Some-clause-kept
returns-in-Some-clause-kept c =
    let popped : (c.pop.new.self.items ≡ c.self.inside.items.items) × (c.in-Some.last ≡ c.args.attr.now) =
    same_from_push c.pop.new.self.items c.self.inside.items.items c.in-Some.last c.args.attr.now
    (sym c.in-Some.ensures.items ∙ (c.in-Ok.ensures.items ∙ ap (λ a. c.self.inside.items.items ++ a ∷ []) c.replace-whole.ensures.value)) in
    popped.1

pub invariant_of-self-in-Err-insert : goal.invariant_of-self-in-Err-insert
invariant_of-self-in-Err-insert c q = absurd (omega (arith, c.in-None.ensures.cases.0, c.in-Ok.ensures.len))

pub returns-clause-err : goal.returns-clause-err
returns-clause-err c = absurd (omega (arith, c.in-None.ensures.cases.0, c.in-Ok.ensures.len))

pub returns-clause-kept : goal.returns-clause-kept
returns-clause-kept c = absurd (omega (arith, c.in-None.ensures.cases.0, c.in-Ok.ensures.len))
