use Rattle.std.proofs.Common.{◌∙◌, sym, ap, append-nil, Ok, arith}
use Rattle.ql_lex.specs.Lexed.{with_front}
use Rattle.ql_lex.specs.Answers.{seen_all}
use Rattle.ql_lex.proofs.Laws.{lexed_from-end}
use Rattle.ql_lex.proofs.reading.read_words.Goals as goal

pub returns-clause-value : goal.returns-clause-value
returns-clause-value c =
    sym c.loop-at.invariant.read
    ∙ ap (with_front (seen_all c.loop-at.words.items)) (lexed_from-end c.args.bytes.now c.loop-at.at c.loop-at.at (omega arith))
    ∙ ap (λ xs. Ok xs) (append-nil (seen_all c.loop-at.words.items))
