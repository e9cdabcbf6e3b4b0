use Rattle.std.proofs.Common.{◌≡◌, ◌∙◌, ℕ, false, refl, subst, sym}
use Rattle.std.specs.Result.{OnOk}
use Rattle.xmi_text.specs.States as states
use Rattle.xmi_text.specs.Steps as steps
use Rattle.xmi_text.specs.declared.state.State.{State}
use Rattle.xmi_text.proofs.state.State.begin_element.Goals as goal

root : (s : State) (less at c : ℕ) → states.is_inside s ≡ false → s.rooted ≡ false → states.begin_tag s less c ≡ steps.begin_element s less at c
root s less at c outside first = rw (outside, first) refl

pub returns-else-self-clause-ok : goal.returns-else-self-clause-ok
returns-else-self-clause-ok c =
    let outside : states.is_inside c.args.self.now ≡ false = sym c.is_inside.ensures ∙ c.if-is_inside.false in
    let first : c.args.self.now.rooted ≡ false = assumption in
    subst (λ (s : State). OnOk c.begin_tag-else-self.result (c.begin_tag-else-self.new.self ≡ s))
    (root c.args.self.now c.args.less c.args.at c.args.c outside first) c.begin_tag-else-self.ensures.ok
