use Rattle.std.proofs.Common.{◌∙◌, refl, None}
use Rattle.mof_metamodel.proofs.TableLemmas.{entry_more}
use Rattle.mof_metamodel.proofs.lineages.no_lines.Goals as goal

pub loop-c-preserved : goal.loop-c-preserved
loop-c-preserved c = c.in_ok-push.ensures.items ∙ entry_more c.loop-c.none.items (λ _. None) c.loop-c._c None c.loop-c.invariant refl
