use Rattle.std.proofs.Common.{◌∙◌, sym}
use Rattle.model_files.specs.Described.{is_top_package}
use Rattle.model_files.proofs.DescriptionLaws.{one_more, none_more}
use Rattle.model_files.proofs.metamodels.top_packages.Goals as goal
use Rattle.model_files.proofs.metamodels.top_packages.Goals.{then-is_top_package+in_ok-push, else-is_top_package}

pub loop-o-preserved : goal.loop-o-preserved
loop-o-preserved c =
    let p = is_top_package c.args.model.now in
    elim c.if-is_top_package.branch [
      | then-is_top_package+in_ok-push w ↦ w.packages-is ∙ w.in_ok-push.ensures.ok ∙ one_more p c.loop-o.o c.loop-o.packages c.loop-o.invariant (sym c.is_top_package.ensures ∙ w.if-is_top_package.true)
      | else-is_top_package w ↦ w.packages-is ∙ none_more p c.loop-o.o c.loop-o.packages c.loop-o.invariant (sym c.is_top_package.ensures ∙ w.if-is_top_package.false)
    ]
