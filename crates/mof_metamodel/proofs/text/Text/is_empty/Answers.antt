use Rattle.std.proofs.Common.{sym, ◌∙◌, ap}
use Rattle.std.specs.Prelude.{length, ◌==◌}
use Rattle.mof_metamodel.specs.TextLaws.{empty_same, empty_is}
use Rattle.mof_metamodel.proofs.text.Text.is_empty.Goals as goal

pub returns : goal.returns
returns c =
    let same = c.is_empty.ensures ∙ ap (λ bs. length bs == 0) c.as_str.ensures.bytes ∙ empty_same c.args.self.now in
    (λ h. (empty_is c.args.self.now).0 (sym same ∙ h), λ h. same ∙ (empty_is c.args.self.now).1 h)
