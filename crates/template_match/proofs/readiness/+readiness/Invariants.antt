use Rattle.std.proofs.Common.{◌≡◌, map, drop}
use Rattle.template_match.specs.Ready.{all_true, is_ready, is_infix_ready, is_postfix_ready}
use Rattle.template_match.proofs.readiness.+readiness.Given as goal

abbrev pub invariant-all_ready-loop-part : goal.invariant-all_ready-loop-part
invariant-all_ready-loop-part l = all_true (map (is_ready l.binding.values) (drop l.part-index l.parts)) ≡ all_true (map (is_ready l.binding.values) l.parts)

abbrev pub invariant-all_links_ready-loop-link : goal.invariant-all_links_ready-loop-link
invariant-all_links_ready-loop-link l = all_true (map (is_infix_ready l.binding.values) (drop l.link-index l.links)) ≡ all_true (map (is_infix_ready l.binding.values) l.links)

abbrev pub invariant-all_calls_ready-loop-call : goal.invariant-all_calls_ready-loop-call
invariant-all_calls_ready-loop-call l = all_true (map (is_postfix_ready l.binding.values) (drop l.call-index l.calls)) ≡ all_true (map (is_postfix_ready l.binding.values) l.calls)
