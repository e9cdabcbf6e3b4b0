use Rattle.std.proofs.Common.{sym, ◌∙◌}
use Rattle.ql_lex.proofs.Laws.{whole_mark}
use Rattle.ql_lex.proofs.reading.mark_len.Goals as goal

pub returns-then-starts_with-clause-whole : goal.returns-then-starts_with-clause-whole
returns-then-starts_with-clause-whole c = whole_mark c.args.bytes.now (sym c.starts_with.ensures.value ∙ c.if-starts_with.true)
