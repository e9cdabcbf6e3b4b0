use Rattle.std.proofs.Common.{◌≡◌, ◌++◌, ◌∷◌, [], ◌∙◌, sym, ap, subst, append_assoc}
use Rattle.json.specs.Token.{begin_array, end_array, string}
use Rattle.std.specs.Prelude.{encode_utf8_all}
use Rattle.trace_log.specs.declared.trace.TracePair.{out-TracePair}
use Rattle.trace_log.specs.TraceData.{value_data}
use Rattle.trace_log.specs.TraceTokens.{data_tokens, pairs_tokens, term_end, keys_left, AreHeldKeys}
use Rattle.trace_log.proofs.TermLaws.{begun_pair, held_pair}
use Rattle.trace_log.proofs.TokenLaws.{after, ended}
use Rattle.trace_log.proofs.trace_pairs.begin_pair.Goals as goal

pub returns-in_default-clause-held : goal.returns-in_default-clause-held
returns-in_default-clause-held c = λ h.
    held_pair c.args.pair.now c.in_ok-write_text.ensures.held (c.in_ok-keys.ensures.held (subst AreHeldKeys (sym c.in_default.is) h))

pub returns-clause-tokens : goal.returns-clause-tokens
returns-clause-tokens c =
    let p = c.args.pair.now in
    let ps = c.in-Some.keys.now in
    let old = c.args.writer.now.tokens in
    let named = c.write_text.new.writer.tokens in
    let begun = c.begin_value.new.writer.tokens in
    let name = string (encode_utf8_all (out-TracePair p).name) in
    let value = data_tokens (value_data (out-TracePair p).value) in
    ap (λ ts. begun ++ ts) (ended ps) ∙ sym (append_assoc begun (pairs_tokens ps ++ term_end) (end_array ∷ []))
    ∙ begun_pair p old named begun (pairs_tokens ps ++ term_end)
    (after old c.begin_array.new.self.tokens named (begin_array ∷ []) (name ∷ []) c.in_ok-begin_array.ensures.ok c.in_ok-write_text.ensures.tokens.1)
    (subst (λ k. begun ++ keys_left term_end k ≡ named ++ value) c.in-Some.is c.in_ok-keys.ensures.tokens)

pub returns-clause-held : goal.returns-clause-held
returns-clause-held c = λ h.
    held_pair c.args.pair.now c.in_ok-write_text.ensures.held (c.in_ok-keys.ensures.held (subst AreHeldKeys (sym c.in-Some.is) h))
