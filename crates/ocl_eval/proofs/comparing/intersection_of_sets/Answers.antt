use Rattle.std.proofs.Common.{◌∙◌, ap}
use Rattle.qv_syntax.specs.declared.type_tree.Kind.TheVariants.{Set}
use Rattle.qvtr_semantics.specs.Collections.{bounded}
use Rattle.ocl_eval.proofs.MetLaws.{common_as_met}
use Rattle.ocl_eval.proofs.comparing.intersection_of_sets.Goals as goal

pub returns : goal.returns
returns c = c.bounded.ensures ∙ ap (bounded Set) (c.in_ok-both.ensures ∙ common_as_met _ _ _ c.in_ok-met.ensures)
