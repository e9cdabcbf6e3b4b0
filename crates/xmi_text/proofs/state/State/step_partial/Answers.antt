use Rattle.std.proofs.Common.{◌∙◌, ap, sym}
use Rattle.xmi_text.specs.Automaton as automaton
use Rattle.xmi_text.proofs.state.State.step_partial.Goals as goal

pub returns-in-Broken-clause-ok : goal.returns-in-Broken-clause-ok
returns-in-Broken-clause-ok c =
    c.fail.ensures ∙ ap (automaton.partial_by c.args.self.now c.args.mode c.args.partial.lead c.args.at) (sym c.in-Broken.is ∙ c.extended.ensures)
