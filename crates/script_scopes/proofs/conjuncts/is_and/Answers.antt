use Rattle.std.proofs.Common.{sym, ◌∙◌}
use Rattle.script_scopes.proofs.ConjunctLemmas.{and_behind}
use Rattle.script_scopes.proofs.conjuncts.is_and.Goals as goal

pub returns : goal.returns
returns c = c.is_and_operator.ensures ∙ sym (and_behind c.args.link.now)
