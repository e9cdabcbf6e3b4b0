use Rattle.std.proofs.Common.{sym, ap, ◌∙◌}
use Rattle.std.specs.Option.{option_copied}
use Rattle.qvtr_semantics.specs.Expressions.{setting}
use Rattle.template_match.proofs.choosing.slot_len_in.Goals as goal

pub returns-in-Some : goal.returns-in-Some
returns-in-Some c = c.slot_len.ensures (setting c.args.task.now.program.now c.args.task.now.models.now) c.args.number (sym c.get.ensures ∙ ap (λ o. option_copied o) c.in-Some.is)
