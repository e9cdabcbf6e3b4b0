use Rattle.std.proofs.Common.{map, sym, ◌∙◌, ap, subst}
use Rattle.std.specs.Prelude.{string_bytes}
use Rattle.qvtr_engine.specs.CommandNames.{NamesCommand, command_named}
use Rattle.qvtr_engine.proofs.CommandLaws.{named_error, names_command}
use Rattle.qvtr_engine.proofs.command.Command.read.Goals as goal

pub returns-in-Some-named-clause-memory : goal.returns-in-Some-named-clause-memory
returns-in-Some-named-clause-memory c =
    let word = string_bytes c.in-Some.first.now in
    let further = map string_bytes c.in-Some.further.now in
    named_error (map string_bytes c.args.words.now) c.of_name.result
    (subst NamesCommand (sym (ap (map string_bytes) c.in-Some.ensures.cases.0))
    (names_command word further c.in-Some-named.name (ap command_named (sym c.as_str.ensures.value) ∙ sym c.in-Some-named.ensures)))
