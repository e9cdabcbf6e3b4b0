use Rattle.std.proofs.Common.{◌++◌, ◌∙◌, sym, ap}
use Rattle.std.proofs.lemmas.Result.{on_ok_weaker}
use Rattle.trace_log.specs.declared.trace.TraceTerm.{out-TraceTerm}
use Rattle.trace_log.specs.TraceTokens.{pairs_tokens, term_end}
use Rattle.trace_log.proofs.TermLaws.{term_begin, term_parts, held_term}
use Rattle.trace_log.proofs.TokenLaws.{after}
use Rattle.trace_log.proofs.trace_pairs.write_place.Goals as goal

pub returns-clause-tokens : goal.returns-clause-tokens
returns-clause-tokens c =
    let t = c.args.term.now in
    let ps = c.as_slice.result.now in
    let old = c.args.writer.now.tokens in
    let begun = c.begin_term.new.writer.tokens in
    let each = c.write_pairs.new.writer.tokens in
    let new = c.end_term.new.writer.tokens in
    on_ok_weaker c.end_term.result
    (λ e. (
      e.0 ∙ c.in_ok-write_pairs.ensures.tokens.0 ∙ c.in_ok-begin_term.ensures.tokens.0,
      after old begun new (term_begin (out-TraceTerm t).class) (pairs_tokens ps ++ term_end) c.in_ok-begin_term.ensures.tokens.1
          (after begun each new (pairs_tokens ps) term_end c.in_ok-write_pairs.ensures.tokens.1 e.1)
          ∙ ap (λ ts. old ++ ts) (sym (term_parts t ps c.as_slice.ensures)),
    ))
    c.end_term.ensures

pub returns-clause-held : goal.returns-clause-held
returns-clause-held c =
    on_ok_weaker c.end_term.result
    (λ e. held_term c.args.term.now c.as_slice.result.now c.as_slice.ensures c.in_ok-begin_term.ensures.held c.in_ok-write_pairs.ensures.held)
    c.end_term.ensures
