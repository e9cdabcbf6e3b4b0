use Rattle.std.proofs.Common.{sym, ◌∙◌, true≢false}
use Rattle.model_filling.proofs.filling.link_once.Goals as goal

pub link-requires-clause-free : goal.link-requires-clause-free
link-requires-clause-free c = c.requires.free (λ pair. true≢false (sym (c.linked.ensures.1 pair) ∙ c.if-linked.false))
