use Rattle.std.proofs.Common.{◌≡◌, ◌++◌, [], ◌∙◌, ℕ, List, ap, sym, subst}
use Rattle.json.specs.Print.{print}
use Rattle.json.specs.Token.{Token}
use Rattle.trace_log.specs.TraceData.{trace_data}
use Rattle.trace_log.specs.TraceTexts.{SpellsTrace}
use Rattle.trace_log.specs.TraceTokens.{data_tokens}
use Rattle.trace_log.proofs.SpellingLaws.{text_is, spelled}
use Rattle.trace_log.proofs.trace_writing.trace_text.Goals as goal

pub returns-clause-text : goal.returns-clause-text
returns-clause-text c =
    let tokens = c.write_trace.new.writer.tokens in
    let written = c.in_ok-write_trace.ensures.tokens in
    let none : c.write_trace.new.writer.before ≡ [] = written.0 ∙ c.new-writer.ensures.before ∙ c.new.ensures.items in
    c.in_ok-push.ensures.ok
    ∙ text_is c.args.trace.now tokens c.from_vec-bytes.result
    (written.1 ∙ ap (λ (ts : List Token). ts ++ data_tokens (trace_data c.args.trace.now)) c.new-writer.ensures.tokens)
    (c.from_vec-bytes.ensures ∙ c.into_inner.ensures.items ∙ ap (λ (bytes : List ℕ). bytes ++ print tokens) none)

pub returns-clause-reads : goal.returns-clause-reads
returns-clause-reads c = λ low.
    subst (λ (bytes : List ℕ). SpellsTrace bytes c.args.trace.now) (sym (returns-clause-text c))
    (spelled c.args.trace.now c.write_trace.new.writer.tokens
    (c.in_ok-write_trace.ensures.tokens.1 ∙ ap (λ (ts : List Token). ts ++ data_tokens (trace_data c.args.trace.now)) c.new-writer.ensures.tokens)
    c.in_ok-write_trace.ensures.held c.into_inner.ensures.utf8 low)
