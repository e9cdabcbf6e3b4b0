use Rattle.std.proofs.Common.{◌++◌, ◌∙◌, sym, ap, subst}
use Rattle.std.proofs.lemmas.Result.{on_ok_weaker}
use Rattle.trace_log.specs.TraceTokens.{pair_end, keys_left, left_tokens, AreHeldKeys, AreAllHeld}
use Rattle.trace_log.proofs.LeftLaws.{left_push, held_push}
use Rattle.trace_log.proofs.trace_pairs.push_keys.Goals as goal

pub returns-in-Some-clause-tokens : goal.returns-in-Some-clause-tokens
returns-in-Some-clause-tokens c =
    let left = c.args.left.now in
    on_ok_weaker c.push.result
    (λ e. ap left_tokens e ∙ left_push left c.in-Some.pairs ∙ ap (λ k. keys_left pair_end k ++ left_tokens left) (sym c.in-Some.is)) c.push.ensures.ok

pub returns-in-Some-clause-held : goal.returns-in-Some-clause-held
returns-in-Some-clause-held c =
    on_ok_weaker c.push.result
    (λ e h. let both = held_push c.args.left.now c.in-Some.pairs (subst AreAllHeld e h) in (subst AreHeldKeys (sym c.in-Some.is) both.0, both.1))
    c.push.ensures.ok
