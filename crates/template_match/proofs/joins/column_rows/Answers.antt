use Rattle.std.proofs.Common.{sym, ap, ◌∙◌}
use Rattle.template_match.specs.JoinRows.{column_value}
use Rattle.template_match.proofs.joins.column_rows.Goals as goal

pub rows_in-requires-clause-value : goal.rows_in-requires-clause-value
rows_in-requires-clause-value c = sym (c.in-Some.ensures ∙ ap (λ vs. column_value vs c.args.binding.now.values c.args.column) c.as_slice.ensures)
