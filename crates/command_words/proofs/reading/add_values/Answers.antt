use Rattle.command_words.proofs.ValueLaws.{added, found_at}
use Rattle.std.proofs.Common.{ap, refl, ◌∙◌}
use Rattle.command_words.proofs.ValueLaws.{texts_in}
use Rattle.command_words.proofs.reading.add_values.Goals as goal

pub returns : goal.returns
returns c =
    added c.args.values.now.items c.extend_from_slice.new.self.items c.unwrap_or.result.now _ c.extend_from_slice.result c.extend_from_slice.ensures.items
    (ap (λ s. texts_in s.now) c.unwrap_or.ensures ∙ found_at c.args.matches.now c.get_raw.result c.args.name.now _ refl c.get_raw.ensures)
