use Rattle.std.proofs.Common.{sym, ◌∙◌, ap, arith, map, length, slice_get}
use Rattle.std.proofs.lemmas.List.{length-map}
use Rattle.ql_lex.specs.Answers.{seen}
use Rattle.ql_lex.specs.Lexed.{LexedText, Lexeme}
use Rattle.ql_lex.proofs.Laws.{lexeme_at}
use Rattle.ql_lex.proofs.tokens.Tokens.token.Goals as goal

pub returns : goal.returns
returns c =
    ap (λ (v : LexedText). slice_get (map (λ (l : Lexeme). l.token) v.lexemes) c.args.i) (sym c.self.view_is)
    ∙ lexeme_at (λ l. l.token) c.self.inside.words.items c.args.i c.index.result.now
    (omega (arith, ap (λ (v : LexedText). length v.lexemes) c.self.view_is, length-map c.self.inside.words.items seen)) c.index.ensures
