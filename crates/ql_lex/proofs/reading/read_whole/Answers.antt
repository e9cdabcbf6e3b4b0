use Rattle.std.proofs.Common.{◌∙◌, take}
use Rattle.std.proofs.lemmas.List.{length-take-le}
use Rattle.std.proofs.lemmas.Str.{utf8_valid_len-IsUtf8}
use Rattle.ql_lex.proofs.reading.read_whole.Goals as goal

pub returns-in-Ok-clause-value : goal.returns-in-Ok-clause-value
returns-in-Ok-clause-value c = (c.in-Ok.ensures.cases.0, utf8_valid_len-IsUtf8 (take c.args.len c.args.bytes.now) c.in-Ok.ensures.cases.1 ∙ length-take-le c.args.len c.args.bytes.now c.requires)
