use Rattle.std.proofs.Common.{◌≡◌, map, drop}
use Rattle.program_texts.specs.Stored.{all_true, is_query_stored}
use Rattle.program_texts.proofs.programs.stored_queries.Given as goal

abbrev pub invariant-loop-query : goal.invariant-loop-query
invariant-loop-query l = all_true (map is_query_stored (drop l.query-index l.queries)) ≡ all_true (map is_query_stored l.queries)
