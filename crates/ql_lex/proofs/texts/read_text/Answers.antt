use Rattle.std.proofs.Common.{false, drop, ap, sym, ◌∙◌}
use Rattle.std.specs.Option.{option_map_or}
use Rattle.ql_lex.specs.declared.fault.LexKind.TheVariants.{OpenString}
use Rattle.ql_lex.specs.Forms.{string_end, closed, fault}
use Rattle.ql_lex.proofs.texts.read_text.Goals as goal

pub returns-in-None-clause-value : goal.returns-in-None-clause-value
returns-in-None-clause-value c =
    let kind = c.args.kind in
    let opening = c.args.opening in
    c.make_fault.ensures
    ∙ ap (λ o. option_map_or (closed kind opening (drop opening c.args.bytes.now)) o (fault OpenString 0))
    (sym c.in-None.is ∙ c.find_string_end.ensures.value ∙ ap (string_end 0 false) c.bytes_behind-inside.ensures)
