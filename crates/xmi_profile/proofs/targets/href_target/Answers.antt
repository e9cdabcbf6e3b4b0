use Rattle.std.proofs.Common.{◌≡◌, ℕ, Bool, List, [], ◌∷◌, ◌∙◌, ap, subst}
use Rattle.std.specs.Prelude.{Option, IfOk}
use Rattle.xmi_text.specs.Markup.{begins}
use Rattle.model_assembly.specs.Attributes.{behind}
use Rattle.model_assembly.specs.declared.target.Target.{Target}
use Rattle.xmi_profile.specs.Scanning.{href_by}
use Rattle.xmi_profile.proofs.NameLaws.{href_divided}
use Rattle.xmi_profile.proofs.targets.href_target.Goals as goal

pub returns : goal.returns
returns c =
    subst (λ (x : Target). IfOk c.href_by.result (λ t. t ≡ x))
    (ap (λ (f : Option (List ℕ)). href_by c.args.outside c.args.text.now f c.begins_with_hash-is_local.result)
    (c.in_ok-fragment.ensures ∙ ap (behind 35) c.as_str.ensures.characters)
    ∙ ap (λ (b : Bool). href_by c.args.outside c.args.text.now (behind 35 c.args.text.now) b)
    (c.begins_with_hash-is_local.ensures ∙ ap (begins (35 ∷ [])) c.as_str-2.ensures.characters)
    ∙ href_divided c.args.outside c.args.text.now)
    c.href_by.ensures
