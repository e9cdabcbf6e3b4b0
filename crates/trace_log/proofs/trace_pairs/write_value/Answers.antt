use Rattle.std.proofs.Common.{◌≡◌, ◌++◌, ◌∙◌, List, Option, sym, ap, subst, append_assoc}
use Rattle.std.proofs.lemmas.Result.{on_ok_weaker}
use Rattle.json.specs.Token.{Token}
use Rattle.trace_log.specs.TraceData.{value_data}
use Rattle.trace_log.specs.TraceTokens.{data_tokens, pairs_tokens, term_end, Keys, keys_left, AreHeldKeys}
use Rattle.trace_log.proofs.trace_pairs.write_value.Goals as goal

pub returns-in_default-clause-held : goal.returns-in_default-clause-held
returns-in_default-clause-held c = c.in_ok-pairs.ensures.held (subst AreHeldKeys (sym c.in_default.is) tt)

pub returns-clause-tokens : goal.returns-clause-tokens
returns-clause-tokens c =
    let old = c.args.writer.now.tokens in
    let begun = c.begin_value.new.writer.tokens in
    let value = data_tokens (value_data c.args.value.now) in
    let whole = subst (λ (k : Option Keys). begun ++ keys_left term_end k ≡ old ++ value) c.in-Some.is c.in_ok-pairs.ensures.tokens in
    let ended = append_assoc begun (pairs_tokens c.in-Some.pairs.now) term_end in
    let pairs = ap (λ (ts : List Token). ts ++ term_end) c.in_ok-write_pairs.ensures.tokens.1 ∙ ended in
    on_ok_weaker c.end_term.result
    (λ e. (e.0 ∙ c.in_ok-write_pairs.ensures.tokens.0 ∙ c.in_ok-pairs.ensures.before, e.1 ∙ pairs ∙ whole)) c.end_term.ensures

pub returns-clause-held : goal.returns-clause-held
returns-clause-held c =
    on_ok_weaker c.end_term.result (λ e. c.in_ok-pairs.ensures.held (subst AreHeldKeys (sym c.in-Some.is) c.in_ok-write_pairs.ensures.held))
    c.end_term.ensures
