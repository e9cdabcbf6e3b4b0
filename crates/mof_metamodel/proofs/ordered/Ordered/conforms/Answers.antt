use Rattle.std.proofs.Common.{◌∙◌, sym}
use Rattle.mof_metamodel.proofs.HeirLemmas.{start_conforms}
use Rattle.mof_metamodel.proofs.ordered.Ordered.conforms.Goals as goal

pub returns : goal.returns
returns c =
    let both = start_conforms c.args.self.now c.args.c c.args.d c.start.result c.requires c.start.ensures in
    (λ h. both.0 (sym c.is_some.ensures ∙ h), λ h. c.is_some.ensures ∙ both.1 h)
