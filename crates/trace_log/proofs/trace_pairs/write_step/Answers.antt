use Rattle.std.proofs.lemmas.Result.{on_ok_weaker}
use Rattle.trace_log.proofs.LeftLaws.{none_held, step_written, step_held}
use Rattle.trace_log.proofs.trace_pairs.write_step.Goals as goal

pub returns-in_default-clause-held : goal.returns-in_default-clause-held
returns-in_default-clause-held c =
    on_ok_weaker c.end_pair.result (λ e h. (none_held c.args.pairs.now c.in_default.ensures.cases, h)) c.end_pair.ensures

pub returns-clause-tokens : goal.returns-clause-tokens
returns-clause-tokens c =
    on_ok_weaker c.push_keys.result
    (λ e. step_written c.args.pairs.now c.in-Some.pair.now c.in-Some.others c.args.left.now c.push.new.self c.push_keys.new.left c.in_ok-keys.keys
    c.in-Some.ensures.cases.0 c.in_ok-push.ensures.ok c.args.writer.now.tokens c.begin_pair.new.writer.tokens e c.in_ok-keys.ensures.tokens)
    c.push_keys.ensures.tokens

pub returns-clause-held : goal.returns-clause-held
returns-clause-held c =
    on_ok_weaker c.push_keys.result
    (λ e. step_held c.args.pairs.now c.in-Some.pair.now c.in-Some.others c.args.left.now c.push.new.self c.push_keys.new.left c.in_ok-keys.keys
    c.in-Some.ensures.cases.0 c.in_ok-push.ensures.ok e c.in_ok-keys.ensures.held)
    c.push_keys.ensures.held
