use Rattle.std.proofs.Common.{sym, subst}
use Rattle.model_assembly.specs.AssemblyReferences.{AreAnswered}
use Rattle.model_assembly.proofs.assembling.ContentLaws.{content_told}
use Rattle.model_assembly.proofs.assembling.WholeLaws.{may_be_assembled, are_values}
use Rattle.model_assembly.proofs.assembly.content_of.Goals as goal

pub named-requires-clause-sound : goal.named-requires-clause-sound
named-requires-clause-sound c = may_be_assembled c.args.meta.now c.args.filed c.requires

pub ordered_model-requires-clause-sound : goal.ordered_model-requires-clause-sound
ordered_model-requires-clause-sound c = may_be_assembled c.args.meta.now c.args.filed c.requires

pub ordered_model-requires-clause-values : goal.ordered_model-requires-clause-values
ordered_model-requires-clause-values c = are_values c.args.meta.now c.args.filed c.requires

pub returns-clause-ok : goal.returns-clause-ok
returns-clause-ok c =
    let meta = c.args.meta.now in
    let f = c.args.filed in
    let answered = subst (AreAnswered meta f) (sym c.as_slice.ensures.value) c.in_ok-namings.ensures.ok in
    content_told meta f c.as_slice.result.now c.in_ok-model.model (may_be_assembled meta f c.requires) answered c.in_ok-model.ensures.0 c.in_ok-model.ensures.1
