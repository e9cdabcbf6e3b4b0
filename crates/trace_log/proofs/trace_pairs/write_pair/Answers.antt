use Rattle.std.proofs.Common.{◌++◌, ◌∙◌, ap, append-nil}
use Rattle.std.proofs.lemmas.Result.{on_ok_weaker}
use Rattle.trace_log.specs.TraceTokens.{pair_end, Left, keys_left, left_tokens}
use Rattle.trace_log.proofs.trace_pairs.write_pair.Goals as goal

pub returns-clause-tokens : goal.returns-clause-tokens
returns-clause-tokens c =
    let keys = keys_left pair_end c.in_ok-keys.keys in
    let begun = c.begin_pair.new.writer.tokens in
    let left = c.in_ok-push_keys.ensures.tokens ∙ ap (λ (l : Left). keys ++ left_tokens l) c.new-left.ensures ∙ append-nil keys in
    on_ok_weaker c.write_left.result
    (λ e. (e.0 ∙ c.in_ok-keys.ensures.before, e.1 ∙ ap (λ ts. begun ++ ts) left ∙ c.in_ok-keys.ensures.tokens)) c.write_left.ensures.tokens

pub returns-clause-held : goal.returns-clause-held
returns-clause-held c =
    on_ok_weaker c.write_left.result (λ e. c.in_ok-keys.ensures.held (c.in_ok-push_keys.ensures.held e).0) c.write_left.ensures.held
