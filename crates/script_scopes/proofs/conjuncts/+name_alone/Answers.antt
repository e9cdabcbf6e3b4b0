use Rattle.std.proofs.Common.{sym, ◌∙◌}
use Rattle.std.proofs.lemmas.Bool.{false≢true}
use Rattle.script_scopes.proofs.ConjunctLemmas.{called_nameless}
use Rattle.script_scopes.proofs.conjuncts.+name_alone.Goals as goal

pub returns-else-is_empty : goal.returns-else-is_empty
returns-else-is_empty t c =
    sym (called_nameless c.args.e.now c.in-Calls.of c.in-Calls.calls c.in-Calls.span c.in-Calls.is (λ none. false≢true (sym c.if-is_empty.false ∙ c.is_empty.ensures.1 none)))
