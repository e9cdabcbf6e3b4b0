use Rattle.std.proofs.Common.{◌∙◌, ap}
use Rattle.qvtr_semantics.specs.Outs.{boolean}
use Rattle.ocl_eval.proofs.MetLaws.{none_as_met}
use Rattle.ocl_eval.proofs.comparing.excludes_all.Goals as goal

pub returns : goal.returns
returns c = c.boolean.ensures ∙ ap boolean (c.has_none.ensures ∙ none_as_met _ _ _ c.in_ok-met.ensures)
