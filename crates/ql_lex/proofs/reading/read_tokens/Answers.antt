use Rattle.std.proofs.Common.{◌∙◌, ℕ, Ok, Result, List, subst, sym, ap, arith, drop}
use Rattle.ql_lex.specs.Lexed.{lexed_from, LexedText, Lexeme}
use Rattle.ql_lex.specs.Answers.{Fails}
use Rattle.ql_lex.specs.declared.fault.LexFault.{LexFault}
use Rattle.ql_lex.proofs.Laws.{lexed-long, lexed-short}
use Rattle.ql_lex.proofs.reading.read_tokens.Goals as goal

pub returns-then-text-gt-MAX_SCRIPT-clause-lexed : goal.returns-then-text-gt-MAX_SCRIPT-clause-lexed
returns-then-text-gt-MAX_SCRIPT-clause-lexed c = lexed-long c.args.text.now (omega arith)

pub returns-in-Ok-clause-lexed : goal.returns-in-Ok-clause-lexed
returns-in-Ok-clause-lexed c =
    lexed-short c.args.text.now (omega arith)
    ∙ ap (λ (n : ℕ). lexed_from (drop n c.args.text.now) n 0) (sym c.mark_len.ensures.value)
    ∙ c.in-Ok.ensures.value ∙ ap (λ (t : LexedText). Ok t.lexemes) (sym c.new.ensures)

pub returns-in-Err-clause-lexed : goal.returns-in-Err-clause-lexed
returns-in-Err-clause-lexed c =
    let P : Result (List Lexeme) LexFault → Type 0 = λ r. Fails c.in-Err.e r in
    subst P (sym (lexed-short c.args.text.now (omega arith) ∙ ap (λ (n : ℕ). lexed_from (drop n c.args.text.now) n 0) (sym c.mark_len.ensures.value))) c.in-Err.ensures.value
