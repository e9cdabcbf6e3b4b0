use Rattle.std.proofs.Common.{◌≡◌, map, drop}
use Rattle.program_texts.specs.Stored.{all_true, is_stored, is_infix_stored, is_postfix_stored}
use Rattle.program_texts.proofs.expressions.+texts.Given as goal

abbrev pub invariant-stored_expressions-loop-part : goal.invariant-stored_expressions-loop-part
invariant-stored_expressions-loop-part l = all_true (map is_stored (drop l.part-index l.parts)) ≡ all_true (map is_stored l.parts)

abbrev pub invariant-stored_links-loop-link : goal.invariant-stored_links-loop-link
invariant-stored_links-loop-link l = all_true (map is_infix_stored (drop l.link-index l.links)) ≡ all_true (map is_infix_stored l.links)

abbrev pub invariant-stored_calls-loop-call : goal.invariant-stored_calls-loop-call
invariant-stored_calls-loop-call l = all_true (map is_postfix_stored (drop l.call-index l.calls)) ≡ all_true (map is_postfix_stored l.calls)
